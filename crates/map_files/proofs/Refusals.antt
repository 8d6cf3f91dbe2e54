-- Where a text is refused: the pieces before have a value, those that stand open begin an item, and nothing goes on from there.
use Rattle.std.proofs.Common.{◌≡◌, ◌⊎◌, inl, inr, ⊎_elim, ℕ, ℤ, pos, List, [], ◌∷◌, ◌++◌, true, not, refl, sym, ap, ◌∙◌, subst, append_assoc}
use Rattle.std.proofs.lemmas.List.{append-nil}
use Rattle.cube_maps.specs.CubeMaps.{Mapping}
use Rattle.grid_files.specs.Items.{is_empty}
use Rattle.grid_files.specs.Pieces.{pieces}
use Rattle.grid_files.specs.SetFile.{said, first_place}
use Rattle.grid_files.specs.declared.fault.TextCause.{TextCause}
use Rattle.grid_files.specs.declared.piece.Piece.{Piece}
use Rattle.grid_files.specs.declared.piece.Piece.TheVariants.{Number, Mark, Arrow, SkippedLine, DimensionNumber}
use Rattle.map_files.specs.Items.{Item, single, listed, dimension_line, skipped_line, Open, nothing, in_left, before_arrow, before_value, in_single, in_list, in_listed, behind_word, spelling, fits, beginning, fits_open}
use Rattle.map_files.specs.MapFile.{Splits, StopsAt, BeginsBroken, BeginsRefused, Refuses, no_namings}
use Rattle.map_files.specs.Reading.{goes, closes, step}
use Rattle.map_files.specs.Refusals.{HaveValue, BeginItem, PieceRefused, ItemRefused, LeftOpen, RefusalsAreFirst}
use Rattle.map_files.proofs.Reading.{Says, says}
use Rattle.map_files.proofs.Deciding.{mark_step, value_read, refusal_read}
use Rattle.map_files.proofs.Outcomes.{no_outcome}

-- ---- a beginning goes on to an item

-- an item, and what is left of it behind a beginning
abbrev Completed : Open → Type 0
Completed o = (item : Item) × (rest : List Piece) × (spelling item ≡ beginning o ++ rest) × (fits item ≡ true)

-- by one more piece to the end, or to a beginning that goes on
by_last : (o : Open) (item : Item) (p : Piece) → fits_open o ≡ true → step o p ≡ closes item → Completed o
by_last o item p h e = let s : Says o p (closes item) = subst (Says o p) e (says o p h) in (item, p ∷ [], s.0, s.1)

by_next : (o o' : Open) (p : Piece) → fits_open o ≡ true → step o p ≡ goes o' → (fits_open o' ≡ true → Completed o') → Completed o
by_next o o' p h e more =
    let s : Says o p (goes o') = subst (Says o p) e (says o p h) in
    let c = more s.1 in
    (c.0, p ∷ c.1, c.2 ∙ ap (λ ps. ps ++ c.1) s.0 ∙ append_assoc (beginning o) (p ∷ []) c.1, c.3)

some_more : (xs : List ℤ) (z : ℤ) → not (is_empty (xs ++ z ∷ [])) ≡ true
some_more [] z = refl
some_more (x ∷ xs) z = refl

list_done : (q : List ℤ) (vs : List (List ℤ)) → fits_open (in_list q vs) ≡ true → Completed (in_list q vs)
list_done q vs h = by_last (in_list q vs) (listed q vs) (Mark 125) h refl

value_done : (q : List ℤ) → fits_open (before_value q) ≡ true → Completed (before_value q)
value_done q h = by_next (before_value q) (in_list q []) (Mark 123) h refl (list_done q [])

arrow_done : (q : List ℤ) → fits_open (before_arrow q) ≡ true → Completed (before_arrow q)
arrow_done q h = by_next (before_arrow q) (before_value q) Arrow h refl (value_done q)

completed : (o : Open) → fits_open o ≡ true → Completed o
completed nothing h = by_last nothing skipped_line SkippedLine h refl
completed (in_left xs) h =
    let all : List ℤ = xs ++ pos 0 ∷ [] in
    by_next (in_left xs) (in_left all) (Number (pos 0)) h refl
    (λ k. by_next (in_left all) (before_arrow all) (Mark 41) k (mark_step in_left (goes (before_arrow all)) all (some_more xs (pos 0))) (arrow_done all))
completed (before_arrow q) h = arrow_done q h
completed (before_value q) h = value_done q h
completed (in_single q xs) h =
    let all : List ℤ = xs ++ pos 0 ∷ [] in
    by_next (in_single q xs) (in_single q all) (Number (pos 0)) h refl
    (λ k. by_last (in_single q all) (single q all) (Mark 41) k (mark_step (in_single q) (closes (single q all)) all (some_more xs (pos 0))))
completed (in_list q vs) h = list_done q vs h
completed (in_listed q vs xs) h =
    let all : List ℤ = xs ++ pos 0 ∷ [] in
    let us : List (List ℤ) = vs ++ all ∷ [] in
    by_next (in_listed q vs xs) (in_listed q vs all) (Number (pos 0)) h refl
    (λ k. by_next (in_listed q vs all) (in_list q us) (Mark 41) k (mark_step (in_listed q vs) (goes (in_list q us)) all (some_more xs (pos 0))) (list_done q us))
completed behind_word h = by_last behind_word (dimension_line (pos 1)) (DimensionNumber (pos 1)) h refl

begin_item : (o : Open) (here : List (ℕ × Piece)) → said here ≡ beginning o → fits_open o ≡ true → BeginItem here
begin_item o here e h =
    let c = completed o h in
    record { item = c.0; rest = c.1; spelled = c.2 ∙ ap (λ ps. ps ++ c.1) (sym e); fitting = c.3 }

-- ---- the pieces before

cut : (items : List Item) (ps rest : List (ℕ × Piece)) → Splits items ps rest → (front : List (ℕ × Piece)) × (ps ≡ front ++ rest) × Splits items front []
cut [] ps rest s = ([], s, refl)
cut (item ∷ items) ps rest s =
    let c = cut items s.1 rest s.4 in
    (s.0 ++ c.0, s.3 ∙ ap (λ l. s.0 ++ l) c.1 ∙ sym (append_assoc s.0 c.0 rest), (s.0, c.0, s.2, refl, c.2))

split_more : (items : List Item) (front rest : List (ℕ × Piece)) → Splits items front [] → Splits items (front ++ rest) rest
split_more [] front rest s = ap (λ l. l ++ rest) s
split_more (item ∷ items) front rest s = (s.0, s.1 ++ rest, s.2, ap (λ l. l ++ rest) s.3 ∙ append_assoc s.0 s.1 rest, split_more items s.1 rest s.4)

-- what is refused has no value
no_value : (ps : List (ℕ × Piece)) (place : ℕ) (cause : TextCause) (m : Mapping) → Refuses no_namings ps place cause → ¬ HaveValue ps m
no_value ps place cause m r v = no_outcome _ m (place, cause) (value_read no_namings m ps v) (refusal_read no_namings ps place cause r)

at_piece : (text : List ℕ) (place : ℕ) (cause : TextCause) (h : Refuses no_namings (pieces text) place cause) (b : BeginsBroken h.rest place cause)
    (front : List (ℕ × Piece)) → Splits h.items front [] → (more : List (ℕ × Piece)) → StopsAt b.begun (first_place b.here) more place cause
    → LeftOpen b.here more place cause ⊎ (PieceRefused (front ++ b.here) more place ⊎ ItemRefused front b.here place)
at_piece text place cause h b front s [] t = inl (refl, t.1, t.2)
at_piece text place cause h b front s (p ∷ more) t = inr (inl (record {
  piece = p;
  more = more;
  split = refl;
  at = t.0;
  nowhere = λ after m v.
      let all = b.here ++ p ∷ after in
      let e : ((front ++ b.here) ++ p ∷ []) ++ after ≡ front ++ all = append_assoc (front ++ b.here) (p ∷ []) after ∙ append_assoc front b.here (p ∷ after) in
      no_value (front ++ all) place cause m
      (record {
        items = h.items;
        map = h.map;
        rest = all;
        split = split_more h.items front all s;
        gathered = h.gathered;
        refused = inl (record { begun = b.begun; here = b.here; more = p ∷ after; begins = b.begins; fitting = b.fitting; split = refl; stops = t });
      })
      (subst (λ (l : List (ℕ × Piece)). HaveValue l m) e v);
}))

at_item : (text : List ℕ) (place : ℕ) (cause : TextCause) (h : Refuses no_namings (pieces text) place cause) (b : BeginsRefused h.map h.rest place cause)
    (front : List (ℕ × Piece)) → Splits h.items front [] → ItemRefused front b.here place
at_item text place cause h b front s = record {
  item = b.item;
  is_item = b.is_item;
  at = b.at;
  nowhere = λ after m v.
      no_value (front ++ (b.here ++ after)) place cause m
      (record {
        items = h.items;
        map = h.map;
        rest = b.here ++ after;
        split = split_more h.items front (b.here ++ after) s;
        gathered = h.gathered;
        refused = inr (record { item = b.item; here = b.here; more = after; is_item = b.is_item; split = refl; at = b.at; why = b.why });
      })
      (subst (λ (l : List (ℕ × Piece)). HaveValue l m) (append_assoc front b.here after) v);
}

pub refusals_are_first : RefusalsAreFirst
refusals_are_first text place cause h =
    let c = cut h.items (pieces text) h.rest h.split in
    ⊎_elim
    (λ b. record {
      front = c.0;
      here = b.here;
      rest = b.more;
      split = c.1 ∙ ap (λ l. c.0 ++ l) b.split;
      map = h.map;
      value = (h.items, c.2, h.gathered);
      begin = begin_item b.begun b.here b.begins b.fitting;
      refused = at_piece text place cause h b c.0 c.2 b.more b.stops;
    })
    (λ b. record {
      front = c.0;
      here = b.here;
      rest = b.more;
      split = c.1 ∙ ap (λ l. c.0 ++ l) b.split;
      map = h.map;
      value = (h.items, c.2, h.gathered);
      begin = record { item = b.item; rest = []; spelled = sym b.is_item.spelled ∙ sym (append-nil (said b.here)); fitting = b.is_item.fitting };
      refused = inr (inr (at_item text place cause h b c.0 c.2));
    })
    h.refused
