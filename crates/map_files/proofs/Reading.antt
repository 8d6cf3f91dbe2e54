-- The reading of a map file as a function of its pieces says what the relations say.
use Rattle.std.proofs.Common.{◌≡◌, ℕ, ℤ, List, [], ◌∷◌, ◌++◌, length, Bool, true, false, ◌==◌, ◌&&◌, not, if◌then◌else◌, Option, None, Some, Ok, Err, refl, sym, ap, ◌∙◌, subst, append_assoc, arith, inl, inr, length-append}
use Rattle.std.specs.List.{list_all, flat_map}
use Rattle.std.proofs.lemmas.List.{map-append, length-map, append-nil}
use Rattle.std.proofs.lemmas.List.Folds.{list_all-append}
use Rattle.cube_maps.specs.CubeMaps.{Mapping}
use Rattle.grid_files.specs.Items.{opened, closed, is_empty, is_full_end, refused_in_corner}
use Rattle.grid_files.specs.SetFile.{said, first_place}
use Rattle.grid_files.specs.declared.fault.TextCause.{TextCause}
use Rattle.grid_files.specs.declared.fault.TextCause.TheVariants.{BadByte, Unclosed, CoordinateTooLarge}
use Rattle.grid_files.specs.declared.piece.Piece.{Piece}
use Rattle.grid_files.specs.declared.piece.Piece.TheVariants.{Number, Wide, Mark, Arrow, Strange, SkippedLine, DimensionWord, DimensionNumber, NoNumber, Stray}
use Rattle.grid_files.proofs.Reading.{and_both, both_and, number_more, mark_is, all_more}
use Rattle.map_files.specs.Items.{Item, single, listed, dimension_line, skipped_line, Open, nothing, in_left, before_arrow, before_value, in_single, in_list, in_listed, behind_word, spelling, leading, listing, fits, fits_cube, beginning, fits_open, refused, refused_for_arrow, refused_for_marks, cause_of, with_item}
use Rattle.map_files.specs.MapFile.{IsItem, Splits, Gathers, fault_place, Refuses, is_open}
use Rattle.map_files.specs.Reading.{Step, goes, closes, stops, in_corner, for_arrow, for_marks, step, next, judged, start_of, closing_place, Outcome, read}

-- ---- what a step says

abbrev pub cause_in : Step → Option TextCause
cause_in (goes o) = None
cause_in (closes i) = None
cause_in (stops c) = Some c

chosen_cause : (b : Bool) (s : Step) (c : TextCause) → cause_in s ≡ None → (if b then None else Some c) ≡ cause_in (if b then s else stops c)
chosen_cause true s c e = sym e
chosen_cause false s c e = refl

corner_cause : (more : List ℤ → Open) (close : Step) (xs : List ℤ) (p : Piece) → cause_in close ≡ None
    → refused_in_corner is_full_end xs p ≡ cause_in (in_corner more close xs p)
corner_cause more close xs (Number z) e = chosen_cause (is_full_end z) (goes (more (xs ++ z ∷ []))) CoordinateTooLarge refl
corner_cause more close xs (Mark b) e = chosen_cause (b == 41 && not (is_empty xs)) close BadByte e
corner_cause more close xs Wide e = refl
corner_cause more close xs Arrow e = refl
corner_cause more close xs Strange e = refl
corner_cause more close xs SkippedLine e = refl
corner_cause more close xs DimensionWord e = refl
corner_cause more close xs (DimensionNumber z) e = refl
corner_cause more close xs NoNumber e = refl
corner_cause more close xs Stray e = refl

two_cause : (a b : Bool) (s t : Step) → cause_in s ≡ None → cause_in t ≡ None
    → (if a then None else if b then None else Some BadByte) ≡ cause_in (if a then s else if b then t else stops BadByte)
two_cause true b s t e f = sym e
two_cause false true s t e f = sym f
two_cause false false s t e f = refl

marks_cause : (one other : ℕ) (s t : Step) (p : Piece) → cause_in s ≡ None → cause_in t ≡ None → refused_for_marks one other p ≡ cause_in (for_marks one s other t p)
marks_cause one other s t (Mark b) e f = two_cause (b == one) (b == other) s t e f
marks_cause one other s t (Number z) e f = refl
marks_cause one other s t Wide e f = refl
marks_cause one other s t Arrow e f = refl
marks_cause one other s t Strange e f = refl
marks_cause one other s t SkippedLine e f = refl
marks_cause one other s t DimensionWord e f = refl
marks_cause one other s t (DimensionNumber z) e f = refl
marks_cause one other s t NoNumber e f = refl
marks_cause one other s t Stray e f = refl

arrow_cause : (s : Step) (p : Piece) → cause_in s ≡ None → refused_for_arrow p ≡ cause_in (for_arrow s p)
arrow_cause s Arrow e = sym e
arrow_cause s (Number z) e = refl
arrow_cause s (Mark b) e = refl
arrow_cause s Wide e = refl
arrow_cause s Strange e = refl
arrow_cause s SkippedLine e = refl
arrow_cause s DimensionWord e = refl
arrow_cause s (DimensionNumber z) e = refl
arrow_cause s NoNumber e = refl
arrow_cause s Stray e = refl

pub agrees : (o : Open) (p : Piece) → refused o p ≡ cause_in (step o p)
agrees nothing (Number z) = refl
agrees nothing (Mark b) = chosen_cause (b == 40) (goes (in_left [])) BadByte refl
agrees nothing Wide = refl
agrees nothing Arrow = refl
agrees nothing Strange = refl
agrees nothing SkippedLine = refl
agrees nothing DimensionWord = refl
agrees nothing (DimensionNumber z) = refl
agrees nothing NoNumber = refl
agrees nothing Stray = refl
agrees (in_left xs) p = corner_cause in_left (goes (before_arrow xs)) xs p refl
agrees (before_arrow q) p = arrow_cause (goes (before_value q)) p refl
agrees (before_value q) p = marks_cause 40 123 (goes (in_single q [])) (goes (in_list q [])) p refl refl
agrees (in_single q xs) p = corner_cause (in_single q) (closes (single q xs)) xs p refl
agrees (in_list q vs) p = marks_cause 40 125 (goes (in_listed q vs [])) (closes (listed q vs)) p refl refl
agrees (in_listed q vs xs) p = corner_cause (in_listed q vs) (goes (in_list q (vs ++ xs ∷ []))) xs p refl
agrees behind_word (Number z) = refl
agrees behind_word (Mark b) = refl
agrees behind_word Wide = refl
agrees behind_word Arrow = refl
agrees behind_word Strange = refl
agrees behind_word SkippedLine = refl
agrees behind_word DimensionWord = refl
agrees behind_word (DimensionNumber z) = refl
agrees behind_word NoNumber = refl
agrees behind_word Stray = refl

-- a piece goes on with an item, closes it, or has no reading
abbrev pub Says : Open → Piece → Step → Type 0
Says o p (goes o') = (beginning o' ≡ beginning o ++ p ∷ []) × (fits_open o' ≡ true)
Says o p (closes i) = (spelling i ≡ beginning o ++ p ∷ []) × (fits i ≡ true)
Says o p (stops c) = refused o p ≡ Some c

-- the same at a choice
choice : (o : Open) (p : Piece) (b : Bool) (s : Step) (c : TextCause) → refused o p ≡ (if b then None else Some c)
    → (b ≡ true → Says o p s) → Says o p (if b then s else stops c)
choice o p true s c e f = f refl
choice o p false s c e f = e

corner_says : (o : Open) (more : List ℤ → Open) (close : Step) (xs : List ℤ)
    → ((p : Piece) → refused o p ≡ refused_in_corner is_full_end xs p)
    → ((z : ℤ) → is_full_end z ≡ true → Says o (Number z) (goes (more (xs ++ z ∷ []))))
    → (not (is_empty xs) ≡ true → Says o (Mark 41) close)
    → (p : Piece) → Says o p (in_corner more close xs p)
corner_says o more close xs e f g (Number z) = choice o (Number z) (is_full_end z) (goes (more (xs ++ z ∷ []))) CoordinateTooLarge (e (Number z)) (f z)
corner_says o more close xs e f g (Mark b) = choice o (Mark b) (b == 41 && not (is_empty xs)) close BadByte (e (Mark b))
    (λ h. subst (λ n. Says o (Mark n) close) (sym (mark_is b 41 (and_both (b == 41) (not (is_empty xs)) h).0)) (g (and_both (b == 41) (not (is_empty xs)) h).1))
corner_says o more close xs e f g Wide = e Wide
corner_says o more close xs e f g Arrow = e Arrow
corner_says o more close xs e f g Strange = e Strange
corner_says o more close xs e f g SkippedLine = e SkippedLine
corner_says o more close xs e f g DimensionWord = e DimensionWord
corner_says o more close xs e f g (DimensionNumber z) = e (DimensionNumber z)
corner_says o more close xs e f g NoNumber = e NoNumber
corner_says o more close xs e f g Stray = e Stray

two_say : (o : Open) (b one other : ℕ) (s t : Step) (x y : Bool) → b == one ≡ x → b == other ≡ y → refused o (Mark b) ≡ (if x then None else if y then None else Some BadByte)
    → Says o (Mark one) s → Says o (Mark other) t → Says o (Mark b) (if x then s else if y then t else stops BadByte)
two_say o b one other s t true y h k e f g = subst (λ n. Says o (Mark n) s) (sym (mark_is b one h)) f
two_say o b one other s t false true h k e f g = subst (λ n. Says o (Mark n) t) (sym (mark_is b other k)) g
two_say o b one other s t false false h k e f g = e

marks_say : (o : Open) (one other : ℕ) (s t : Step) → ((p : Piece) → refused o p ≡ refused_for_marks one other p) → Says o (Mark one) s → Says o (Mark other) t
    → (p : Piece) → Says o p (for_marks one s other t p)
marks_say o one other s t e f g (Mark b) = two_say o b one other s t (b == one) (b == other) refl refl (e (Mark b)) f g
marks_say o one other s t e f g (Number z) = e (Number z)
marks_say o one other s t e f g Wide = e Wide
marks_say o one other s t e f g Arrow = e Arrow
marks_say o one other s t e f g Strange = e Strange
marks_say o one other s t e f g SkippedLine = e SkippedLine
marks_say o one other s t e f g DimensionWord = e DimensionWord
marks_say o one other s t e f g (DimensionNumber z) = e (DimensionNumber z)
marks_say o one other s t e f g NoNumber = e NoNumber
marks_say o one other s t e f g Stray = e Stray

arrow_says : (o : Open) (s : Step) → ((p : Piece) → refused o p ≡ refused_for_arrow p) → Says o Arrow s → (p : Piece) → Says o p (for_arrow s p)
arrow_says o s e f Arrow = f
arrow_says o s e f (Number z) = e (Number z)
arrow_says o s e f (Mark b) = e (Mark b)
arrow_says o s e f Wide = e Wide
arrow_says o s e f Strange = e Strange
arrow_says o s e f SkippedLine = e SkippedLine
arrow_says o s e f DimensionWord = e DimensionWord
arrow_says o s e f (DimensionNumber z) = e (DimensionNumber z)
arrow_says o s e f NoNumber = e NoNumber
arrow_says o s e f Stray = e Stray

pub cubes_more : (vs : List (List ℤ)) (xs : List ℤ) → flat_map closed (vs ++ xs ∷ []) ≡ flat_map closed vs ++ closed xs
cubes_more [] xs = append-nil (closed xs)
cubes_more (v ∷ vs) xs = ap (λ ps. closed v ++ ps) (cubes_more vs xs) ∙ sym (append_assoc (closed v) (flat_map closed vs) (closed xs))

-- one more number, and one more cube
more_behind : (front : List Piece) (xs : List ℤ) (z : ℤ) → front ++ opened (xs ++ z ∷ []) ≡ (front ++ opened xs) ++ Number z ∷ []
more_behind front xs z = ap (λ ps. front ++ ps) (number_more xs z) ∙ sym (append_assoc front (opened xs) (Number z ∷ []))

listing_more : (q : List ℤ) (vs : List (List ℤ)) (xs : List ℤ) → listing q (vs ++ xs ∷ []) ≡ listing q vs ++ closed xs
listing_more q vs xs = ap (λ ps. leading q ++ Mark 123 ∷ ps) (cubes_more vs xs) ∙ sym (append_assoc (leading q) (Mark 123 ∷ flat_map closed vs) (closed xs))

pub cubes_fit : (vs : List (List ℤ)) (xs : List ℤ) → list_all fits_cube vs ≡ true → fits_cube xs ≡ true → list_all fits_cube (vs ++ xs ∷ []) ≡ true
cubes_fit vs xs h k = list_all-append fits_cube vs (xs ∷ []) ∙ rw (h, k) refl

pub says : (o : Open) (p : Piece) → fits_open o ≡ true → Says o p (step o p)
says nothing (Number z) h = refl
says nothing (Mark b) h = choice nothing (Mark b) (b == 40) (goes (in_left [])) BadByte refl (λ e. (ap (λ n. Mark n ∷ []) (sym (mark_is b 40 e)), refl))
says nothing SkippedLine h = (refl, refl)
says nothing DimensionWord h = (refl, refl)
says nothing Wide h = refl
says nothing Arrow h = refl
says nothing Strange h = refl
says nothing (DimensionNumber z) h = refl
says nothing NoNumber h = refl
says nothing Stray h = refl
says (in_left xs) p h = corner_says (in_left xs) in_left (goes (before_arrow xs)) xs (λ p. refl)
    (λ z k. (number_more xs z, all_more is_full_end xs z h k))
    (λ k. (refl, both_and (not (is_empty xs)) (list_all is_full_end xs) k h)) p
says (before_arrow q) p h = arrow_says (before_arrow q) (goes (before_value q)) (λ p. refl) (refl, h) p
says (before_value q) p h = marks_say (before_value q) 40 123 (goes (in_single q [])) (goes (in_list q [])) (λ p. refl)
    (refl, both_and (fits_cube q) true h refl) (refl, both_and (fits_cube q) true h refl) p
says (in_single q xs) p h =
    let both = and_both (fits_cube q) (list_all is_full_end xs) h in
    corner_says (in_single q xs) (in_single q) (closes (single q xs)) xs (λ p. refl)
    (λ z k. (more_behind (leading q) xs z, both_and (fits_cube q) (list_all is_full_end (xs ++ z ∷ [])) both.0 (all_more is_full_end xs z both.1 k)))
    (λ k. (sym (append_assoc (leading q) (opened xs) (Mark 41 ∷ [])), both_and (fits_cube q) (fits_cube xs) both.0 (both_and (not (is_empty xs)) (list_all is_full_end xs) k both.1))) p
says (in_list q vs) p h = marks_say (in_list q vs) 40 125 (goes (in_listed q vs [])) (closes (listed q vs)) (λ p. refl)
    (refl, both_and (fits_cube q && list_all fits_cube vs) true h refl) (refl, h) p
says (in_listed q vs xs) p h =
    let both = and_both (fits_cube q && list_all fits_cube vs) (list_all is_full_end xs) h in
    let fit = and_both (fits_cube q) (list_all fits_cube vs) both.0 in
    corner_says (in_listed q vs xs) (in_listed q vs) (goes (in_list q (vs ++ xs ∷ []))) xs (λ p. refl)
    (λ z k. (more_behind (listing q vs) xs z, both_and (fits_cube q && list_all fits_cube vs) (list_all is_full_end (xs ++ z ∷ [])) both.0 (all_more is_full_end xs z both.1 k)))
    (λ k. (
      listing_more q vs xs ∙ sym (append_assoc (listing q vs) (opened xs) (Mark 41 ∷ [])),
      both_and (fits_cube q) (list_all fits_cube (vs ++ xs ∷ [])) fit.0 (cubes_fit vs xs fit.1 (both_and (not (is_empty xs)) (list_all is_full_end xs) k both.1)),
    )) p
says behind_word (Number z) h = refl
says behind_word (Mark b) h = refl
says behind_word (DimensionNumber z) h = (refl, refl)
says behind_word Wide h = refl
says behind_word Arrow h = refl
says behind_word Strange h = refl
says behind_word SkippedLine h = refl
says behind_word DimensionWord h = refl
says behind_word NoNumber h = refl
says behind_word Stray h = refl

-- ---- from the function to the relations

-- the outcome is the one that the relations give
abbrev pub Told : Mapping → List (ℕ × Piece) → Outcome → Type 0
Told m ps (Ok v) = (items : List Item) × Splits items ps [] × Gathers m items v
Told m ps (Err e) = Refuses m ps e.0 e.1

-- what stands behind an item that is not refused
item_first : (m : Mapping) (item : Item) (here more : List (ℕ × Piece)) (r : Outcome) → IsItem item here → cause_of m item ≡ None
    → Told (with_item m item) more r → Told m (here ++ more) r
item_first m item here more (Ok v) i n t = (item ∷ t.0, (here, more, i, refl, t.1), (n, t.2))
item_first m item here more (Err e) i n t = record {
  items = item ∷ t.items;
  map = t.map;
  rest = t.rest;
  split = (here, more, i, refl, t.split);
  gathered = (n, t.gathered);
  refused = t.refused;
}

-- the first byte of what stands open
abbrev Starts : Open → ℕ → List (ℕ × Piece) → Type 0
Starts o start here = is_open o ≡ true → start ≡ first_place here

closed_is_nothing : (o : Open) (here : List (ℕ × Piece)) → is_open o ≡ false → said here ≡ beginning o → here ≡ []
closed_is_nothing nothing [] h e = refl
closed_is_nothing nothing (q ∷ qs) h e = cc
closed_is_nothing (in_left xs) here h e = cc
closed_is_nothing (before_arrow q) here h e = cc
closed_is_nothing (before_value q) here h e = cc
closed_is_nothing (in_single q xs) here h e = cc
closed_is_nothing (in_list q vs) here h e = cc
closed_is_nothing (in_listed q vs xs) here h e = cc
closed_is_nothing behind_word here h e = cc

opening : (o : Open) (start : ℕ) (here : List (ℕ × Piece)) (p : ℕ × Piece) → said here ≡ beginning o → Starts o start here
    → start_of o start p.0 ≡ first_place (here ++ p ∷ [])
opening nothing start [] p e s = refl
opening nothing start (q ∷ qs) p e s = cc
opening (in_left xs) start [] p e s = cc
opening (in_left xs) start (o ∷ os) p e s = s refl
opening (before_arrow q) start [] p e s = cc
opening (before_arrow q) start (o ∷ os) p e s = s refl
opening (before_value q) start [] p e s = cc
opening (before_value q) start (o ∷ os) p e s = s refl
opening (in_single q xs) start [] p e s = cc
opening (in_single q xs) start (o ∷ os) p e s = s refl
opening (in_list q vs) start [] p e s = cc
opening (in_list q vs) start (o ∷ os) p e s = s refl
opening (in_listed q vs xs) start [] p e s = cc
opening (in_listed q vs xs) start (o ∷ os) p e s = s refl
opening behind_word start [] p e s = cc
opening behind_word start (o ∷ os) p e s = s refl

closing : (i : Item) (start : ℕ) (here : List (ℕ × Piece)) (p : ℕ × Piece) → start ≡ first_place (here ++ p ∷ []) → said (here ++ p ∷ []) ≡ spelling i
    → closing_place i start p.0 ≡ fault_place i (here ++ p ∷ [])
closing (single q v) start here p s e = s
closing (listed q vs) start here p s e = s
closing skipped_line start here p s e = s
closing (dimension_line z) start [] p s e = cc
closing (dimension_line z) start (q ∷ []) p s e = refl
closing (dimension_line z) start (q ∷ r ∷ rs) p s e = absurd (omega (arith, ap length e, length-map (rs ++ p ∷ []) (λ p. p.1), length-append rs (p ∷ [])))

said_more : (o : Open) (here : List (ℕ × Piece)) (p : ℕ × Piece) → said here ≡ beginning o → said (here ++ p ∷ []) ≡ beginning o ++ p.1 ∷ []
said_more o here p e = map-append (λ p. p.1) here (p ∷ []) ∙ ap (λ ps. ps ++ p.1 ∷ []) e

abbrev Ready : List (ℕ × Piece) → Type 0
Ready ps = (m : Mapping) (o : Open) (start : ℕ) (here : List (ℕ × Piece)) → said here ≡ beginning o → fits_open o ≡ true → Starts o start here
    → Told m (here ++ ps) (read m o start ps)

told_judged : (m : Mapping) (ps : List (ℕ × Piece)) (i : Item) (whole : List (ℕ × Piece)) (place : ℕ) (cause : Option TextCause) → Ready ps
    → IsItem i whole → place ≡ fault_place i whole → cause_of m i ≡ cause
    → Told m (whole ++ ps) (judged cause (λ c. Err (place, c)) (read (with_item m i) nothing 0 ps))
told_judged m ps i whole place None ready item at e =
    item_first m i whole ps (read (with_item m i) nothing 0 ps) item e (ready (with_item m i) nothing 0 [] refl refl (λ h. cc))
told_judged m ps i whole place (Some c) ready item at e = record {
  items = [];
  map = m;
  rest = whole ++ ps;
  split = refl;
  gathered = refl;
  refused = inr (record { item = i; here = whole; more = ps; is_item = item; split = refl; at = at; why = e });
}

told_step : (m : Mapping) (o : Open) (start : ℕ) (here : List (ℕ × Piece)) (p : ℕ × Piece) (ps : List (ℕ × Piece)) (s : Step) → Ready ps
    → said here ≡ beginning o → fits_open o ≡ true → Starts o start here → Says o p.1 s
    → Told m (here ++ p ∷ ps) (next s (λ o'. read m o' (start_of o start p.0) ps)
    (λ i. judged (cause_of m i) (λ c. Err (closing_place i (start_of o start p.0) p.0, c)) (read (with_item m i) nothing 0 ps))
    (λ c. Err (p.0, c)))
told_step m o start here p ps (goes o') ready begins fitting starts says =
    subst (λ (all : List (ℕ × Piece)). Told m all (read m o' (start_of o start p.0) ps)) (append_assoc here (p ∷ []) ps)
    (ready m o' (start_of o start p.0) (here ++ p ∷ []) (said_more o here p begins ∙ sym says.0) says.1 (λ _. opening o start here p begins starts))
told_step m o start here p ps (closes i) ready begins fitting starts says =
    let spelled : said (here ++ p ∷ []) ≡ spelling i = said_more o here p begins ∙ sym says.0 in
    let at = closing i (start_of o start p.0) here p (opening o start here p begins starts) spelled in
    subst (λ (all : List (ℕ × Piece)). Told m all (judged (cause_of m i) (λ c. Err (closing_place i (start_of o start p.0) p.0, c)) (read (with_item m i) nothing 0 ps)))
    (append_assoc here (p ∷ []) ps)
    (told_judged m ps i (here ++ p ∷ []) _ (cause_of m i) ready (record { spelled = spelled; fitting = says.1 }) at refl)
told_step m o start here p ps (stops c) ready begins fitting starts says = record {
  items = [];
  map = m;
  rest = here ++ p ∷ ps;
  split = refl;
  gathered = refl;
  refused = inl (record { begun = o; here = here; more = p ∷ ps; begins = begins; fitting = fitting; split = refl; stops = (refl, says) });
}

told_end : (m : Mapping) (o : Open) (start : ℕ) (here : List (ℕ × Piece)) (b : Bool) → is_open o ≡ b → said here ≡ beginning o → fits_open o ≡ true → Starts o start here
    → Told m (here ++ []) (if b then Err (start, Unclosed) else Ok m)
told_end m o start here true is begins fitting starts = record {
  items = [];
  map = m;
  rest = here ++ [];
  split = refl;
  gathered = refl;
  refused = inl (record { begun = o; here = here; more = []; begins = begins; fitting = fitting; split = refl; stops = (is, starts is, refl) });
}
told_end m o start here false is begins fitting starts = ([], ap (λ l. l ++ []) (closed_is_nothing o here is begins), refl)

told_from : (ps : List (ℕ × Piece)) → Ready ps
told_from [] m o start here begins fitting starts = told_end m o start here (is_open o) refl begins fitting starts
told_from (p ∷ ps) m o start here begins fitting starts =
    told_step m o start here p ps (step o p.1) (told_from ps) begins fitting starts (says o p.1 fitting)

-- what the function answers is what the relations say
pub told : (m : Mapping) (ps : List (ℕ × Piece)) → Told m ps (read m nothing 0 ps)
told m ps = told_from ps m nothing 0 [] refl refl (λ h. cc)
