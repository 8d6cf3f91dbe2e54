-- Where a text is refused: the pieces before have a value, those that stand open begin an item, and nothing goes on from there.
use Rattle.std.proofs.Common.{◌≡◌, ◌⊎◌, inl, inr, ⊎_elim, ℕ, ℤ, pos, List, [], ◌∷◌, ◌++◌, Bool, true, not, refl, sym, ap, ◌∙◌, subst, append_assoc}
use Rattle.std.specs.List.{list_all}
use Rattle.std.proofs.lemmas.List.{append-nil}
use Rattle.elem_cubes.specs.Corners.{is_file_end}
use Rattle.cube_sets.specs.Sets.{Members}
use Rattle.grid_files.specs.Items.{Item, full, elementary, dimension_line, skipped_line, Open, nothing, in_full, before_lower, in_lower, before_upper, in_upper, before_end, behind_word, spelling, opened, closed, fits, fits_corner, is_empty, is_full_end, beginning, fits_open}
use Rattle.grid_files.specs.Pieces.{pieces}
use Rattle.grid_files.specs.SetFile.{said, first_place, Splits, StopsAt, BeginsBroken, BeginsRefused, Refuses, no_members}
use Rattle.grid_files.specs.Refusals.{HaveValue, BeginItem, PieceRefused, ItemRefused, LeftOpen, RefusalsAreFirst}
use Rattle.grid_files.specs.declared.fault.Kind.{Kind}
use Rattle.grid_files.specs.declared.fault.TextCause.{TextCause}
use Rattle.grid_files.specs.declared.piece.Piece.{Piece}
use Rattle.grid_files.specs.declared.piece.Piece.TheVariants.{Number, Mark, SkippedLine, DimensionNumber}
use Rattle.grid_files.proofs.Reading.{and_both, both_and, all_more, number_more}
use Rattle.grid_files.proofs.Deciding.{value_read, refusal_read}
use Rattle.grid_files.proofs.Outcomes.{no_outcome}

-- ---- a beginning goes on to an item

some_more : (xs : List ℤ) (z : ℤ) → not (is_empty (xs ++ z ∷ [])) ≡ true
some_more [] z = refl
some_more (x ∷ xs) z = refl

corner_more : (test : ℤ → Bool) (xs : List ℤ) → list_all test xs ≡ true → test (pos 0) ≡ true → fits_corner test (xs ++ pos 0 ∷ []) ≡ true
corner_more test xs h k = both_and (not (is_empty (xs ++ pos 0 ∷ []))) (list_all test (xs ++ pos 0 ∷ [])) (some_more xs (pos 0)) (all_more test xs (pos 0) h k)

closed_more : (xs : List ℤ) → closed (xs ++ pos 0 ∷ []) ≡ opened xs ++ Number (pos 0) ∷ Mark 41 ∷ []
closed_more xs = ap (λ ps. ps ++ Mark 41 ∷ []) (number_more xs (pos 0)) ∙ append_assoc (opened xs) (Number (pos 0) ∷ []) (Mark 41 ∷ [])

lower_more : (ls us : List ℤ) → spelling (elementary (ls ++ pos 0 ∷ []) us) ≡ beginning (in_lower ls) ++ (Number (pos 0) ∷ Mark 41 ∷ (closed us ++ Mark 93 ∷ []))
lower_more ls us =
    let tail : List Piece = closed us ++ Mark 93 ∷ [] in
    ap (λ ps. Mark 91 ∷ ps) (append_assoc (closed (ls ++ pos 0 ∷ [])) (closed us) (Mark 93 ∷ []))
    ∙ ap (λ ps. Mark 91 ∷ (ps ++ tail)) (closed_more ls) ∙ ap (λ ps. Mark 91 ∷ ps) (append_assoc (opened ls) (Number (pos 0) ∷ Mark 41 ∷ []) tail)

upper_more : (ls us : List ℤ) → spelling (elementary ls (us ++ pos 0 ∷ [])) ≡ beginning (in_upper ls us) ++ (Number (pos 0) ∷ Mark 41 ∷ Mark 93 ∷ [])
upper_more ls us =
    let end : List Piece = Number (pos 0) ∷ Mark 41 ∷ [] in
    ap (λ ps. Mark 91 ∷ ((closed ls ++ ps) ++ Mark 93 ∷ [])) (closed_more us)
    ∙ ap (λ ps. Mark 91 ∷ (ps ++ Mark 93 ∷ [])) (sym (append_assoc (closed ls) (opened us) end))
    ∙ ap (λ ps. Mark 91 ∷ ps) (append_assoc (closed ls ++ opened us) end (Mark 93 ∷ []))

-- an item, and what is left of it behind a beginning
abbrev Completed : Open → Type 0
Completed o = (item : Item) × (rest : List Piece) × (spelling item ≡ beginning o ++ rest) × (fits item ≡ true)

completed : (o : Open) → fits_open o ≡ true → Completed o
completed nothing h = (skipped_line, SkippedLine ∷ [], refl, refl)
completed (in_full xs) h = (full (xs ++ pos 0 ∷ []), Number (pos 0) ∷ Mark 41 ∷ [], closed_more xs, corner_more is_full_end xs h refl)
completed before_lower h = let z = pos 0 ∷ [] in (elementary z z, closed z ++ closed z ++ Mark 93 ∷ [], refl, refl)
completed (in_lower ls) h =
    let z : List ℤ = pos 0 ∷ [] in (
      elementary (ls ++ pos 0 ∷ []) z,
      Number (pos 0) ∷ Mark 41 ∷ (closed z ++ Mark 93 ∷ []),
      lower_more ls z,
      both_and (fits_corner is_file_end (ls ++ pos 0 ∷ [])) true (corner_more is_file_end ls h refl) refl,
    )
completed (before_upper ls) h =
    let z : List ℤ = pos 0 ∷ [] in
    (elementary ls z, closed z ++ Mark 93 ∷ [], ap (λ ps. Mark 91 ∷ ps) (append_assoc (closed ls) (closed z) (Mark 93 ∷ [])), both_and (fits_corner is_file_end ls) true h refl)
completed (in_upper ls us) h =
    let both = and_both (fits_corner is_file_end ls) (list_all is_file_end us) h in (
      elementary ls (us ++ pos 0 ∷ []),
      Number (pos 0) ∷ Mark 41 ∷ Mark 93 ∷ [],
      upper_more ls us,
      both_and (fits_corner is_file_end ls) (fits_corner is_file_end (us ++ pos 0 ∷ [])) both.0 (corner_more is_file_end us both.1 refl),
    )
completed (before_end ls us) h =
    (elementary ls us, Mark 93 ∷ [], refl, h)
completed behind_word h = (dimension_line (pos 1), DimensionNumber (pos 1) ∷ [], refl, refl)

begin_item : (o : Open) (here : List (ℕ × Piece)) → said here ≡ beginning o → fits_open o ≡ true → BeginItem here
begin_item o here e h =
    let c = completed o h in
    record { item = c.0; rest = c.1; spelled = c.2 ∙ ap (λ ps. ps ++ c.1) (sym e); fitting = c.3 }

-- ---- the pieces before

cut : (items : List Item) (ps rest : List (ℕ × Piece)) → Splits items ps rest → (front : List (ℕ × Piece)) × (ps ≡ front ++ rest) × Splits items front []
cut [] ps rest s = ([], s, refl)
cut (item ∷ items) ps rest s =
    let c = cut items s.1 rest s.4 in
    (s.0 ++ c.0, s.3 ∙ ap (λ l. s.0 ++ l) c.1 ∙ sym (append_assoc s.0 c.0 rest), (s.0, c.0, s.2, refl, c.2))

split_more : (items : List Item) (front rest : List (ℕ × Piece)) → Splits items front [] → Splits items (front ++ rest) rest
split_more [] front rest s = ap (λ l. l ++ rest) s
split_more (item ∷ items) front rest s = (s.0, s.1 ++ rest, s.2, ap (λ l. l ++ rest) s.3 ∙ append_assoc s.0 s.1 rest, split_more items s.1 rest s.4)

-- what is refused has no value
no_value : (kind : Kind) (ps : List (ℕ × Piece)) (place : ℕ) (cause : TextCause) (set : Members) → Refuses kind no_members ps place cause → ¬ HaveValue kind ps set
no_value kind ps place cause set r v = no_outcome _ set (place, cause) (value_read kind no_members set ps v) (refusal_read kind no_members ps place cause r)

at_piece : (kind : Kind) (text : List ℕ) (place : ℕ) (cause : TextCause) (h : Refuses kind no_members (pieces text) place cause) (b : BeginsBroken h.rest place cause)
    (front : List (ℕ × Piece)) → Splits h.items front [] → (more : List (ℕ × Piece)) → StopsAt b.begun (first_place b.here) more place cause
    → LeftOpen b.here more place cause ⊎ (PieceRefused kind (front ++ b.here) more place ⊎ ItemRefused kind front b.here place)
at_piece kind text place cause h b front s [] t = inl (refl, t.1, t.2)
at_piece kind text place cause h b front s (p ∷ more) t = inr (inl (record {
  piece = p;
  more = more;
  split = refl;
  at = t.0;
  nowhere = λ after set v.
      let all = b.here ++ p ∷ after in
      let e : ((front ++ b.here) ++ p ∷ []) ++ after ≡ front ++ all = append_assoc (front ++ b.here) (p ∷ []) after ∙ append_assoc front b.here (p ∷ after) in
      no_value kind (front ++ all) place cause set
      (record {
        items = h.items;
        set = h.set;
        rest = all;
        split = split_more h.items front all s;
        gathered = h.gathered;
        refused = inl (record { begun = b.begun; here = b.here; more = p ∷ after; begins = b.begins; fitting = b.fitting; split = refl; stops = t });
      })
      (subst (λ (l : List (ℕ × Piece)). HaveValue kind l set) e v);
}))

at_item : (kind : Kind) (text : List ℕ) (place : ℕ) (cause : TextCause) (h : Refuses kind no_members (pieces text) place cause) (b : BeginsRefused kind h.set h.rest place cause)
    (front : List (ℕ × Piece)) → Splits h.items front [] → ItemRefused kind front b.here place
at_item kind text place cause h b front s = record {
  item = b.item;
  is_item = b.is_item;
  at = b.at;
  nowhere = λ after set v.
      no_value kind (front ++ (b.here ++ after)) place cause set
      (record {
        items = h.items;
        set = h.set;
        rest = b.here ++ after;
        split = split_more h.items front (b.here ++ after) s;
        gathered = h.gathered;
        refused = inr (record { item = b.item; here = b.here; more = after; is_item = b.is_item; split = refl; at = b.at; why = b.why });
      })
      (subst (λ (l : List (ℕ × Piece)). HaveValue kind l set) (append_assoc front b.here after) v);
}

pub refusals_are_first : RefusalsAreFirst
refusals_are_first kind text place cause h =
    let c = cut h.items (pieces text) h.rest h.split in
    ⊎_elim
    (λ b. record {
      front = c.0;
      here = b.here;
      rest = b.more;
      split = c.1 ∙ ap (λ l. c.0 ++ l) b.split;
      set = h.set;
      value = (h.items, c.2, h.gathered);
      begin = begin_item b.begun b.here b.begins b.fitting;
      refused = at_piece kind text place cause h b c.0 c.2 b.more b.stops;
    })
    (λ b. record {
      front = c.0;
      here = b.here;
      rest = b.more;
      split = c.1 ∙ ap (λ l. c.0 ++ l) b.split;
      set = h.set;
      value = (h.items, c.2, h.gathered);
      begin = record { item = b.item; rest = []; spelled = sym b.is_item.spelled ∙ sym (append-nil (said b.here)); fitting = b.is_item.fitting };
      refused = inr (inr (at_item kind text place cause h b c.0 c.2));
    })
    h.refused
