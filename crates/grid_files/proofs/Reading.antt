-- The reading of a set file as a function of its pieces says what the relations say.
use Rattle.std.proofs.Common.{◌≡◌, ℕ, ℤ, List, [], ◌∷◌, ◌++◌, length, Bool, true, false, ◌==◌, ◌&&◌, ◌||◌, not, if◌then◌else◌, Option, None, Some, Ok, Err, refl, sym, ap, ◌∙◌, subst, append_assoc, arith, inl, inr, length-append}
use Rattle.std.specs.List.{list_all}
use Rattle.std.proofs.lemmas.List.{map-append, length-map}
use Rattle.std.proofs.lemmas.List.Folds.{list_all-append}
use Rattle.std.proofs.lemmas.Bool.Decides.{nat_tests}
use Rattle.elem_cubes.specs.Corners.{is_file_end}
use Rattle.cube_sets.specs.Sets.{Members}
use Rattle.grid_files.specs.Items.{Item, full, elementary, dimension_line, skipped_line, Open, nothing, in_full, before_lower, in_lower, before_upper, in_upper, before_end, behind_word, spelling, opened, closed, fits, fits_corner, is_empty, is_full_end, beginning, fits_open, refused, refused_in_corner, refused_for_mark, cause_of, with_item}
use Rattle.grid_files.specs.SetFile.{said, first_place, IsItem, Splits, Gathers, fault_place, Refuses, is_open}
use Rattle.grid_files.specs.Reading.{Step, goes, closes, stops, in_corner, for_mark, step, next, judged, start_of, closing_place, Outcome, read}
use Rattle.grid_files.specs.declared.fault.Kind.{Kind}
use Rattle.grid_files.specs.declared.fault.TextCause.{TextCause}
use Rattle.grid_files.specs.declared.fault.TextCause.TheVariants.{BadByte, Unclosed, CoordinateTooLarge}
use Rattle.grid_files.specs.declared.piece.Piece.{Piece}
use Rattle.grid_files.specs.declared.piece.Piece.TheVariants.{Number, Wide, Mark, Arrow, Strange, SkippedLine, DimensionWord, DimensionNumber, NoNumber, Stray}

-- ---- what a step says

abbrev pub cause_in : Step → Option TextCause
cause_in (goes o) = None
cause_in (closes i) = None
cause_in (stops c) = Some c

chosen_cause : (b : Bool) (s : Step) (c : TextCause) → cause_in s ≡ None → (if b then None else Some c) ≡ cause_in (if b then s else stops c)
chosen_cause true s c e = sym e
chosen_cause false s c e = refl

corner_cause : (test : ℤ → Bool) (more : List ℤ → Open) (close : Step) (xs : List ℤ) (p : Piece) → cause_in close ≡ None
    → refused_in_corner test xs p ≡ cause_in (in_corner test more close xs p)
corner_cause test more close xs (Number z) e = chosen_cause (test z) (goes (more (xs ++ z ∷ []))) CoordinateTooLarge refl
corner_cause test more close xs Wide e = refl
corner_cause test more close xs (Mark b) e = chosen_cause (b == 41 && not (is_empty xs)) close BadByte e
corner_cause test more close xs Arrow e = refl
corner_cause test more close xs Strange e = refl
corner_cause test more close xs SkippedLine e = refl
corner_cause test more close xs DimensionWord e = refl
corner_cause test more close xs (DimensionNumber z) e = refl
corner_cause test more close xs NoNumber e = refl
corner_cause test more close xs Stray e = refl

mark_cause : (wanted : ℕ) (found : Step) (p : Piece) → cause_in found ≡ None → refused_for_mark wanted p ≡ cause_in (for_mark wanted found p)
mark_cause wanted found (Number z) e = refl
mark_cause wanted found Wide e = refl
mark_cause wanted found (Mark b) e = chosen_cause (b == wanted) found BadByte e
mark_cause wanted found Arrow e = refl
mark_cause wanted found Strange e = refl
mark_cause wanted found SkippedLine e = refl
mark_cause wanted found DimensionWord e = refl
mark_cause wanted found (DimensionNumber z) e = refl
mark_cause wanted found NoNumber e = refl
mark_cause wanted found Stray e = refl

outer_cause : (a b : Bool) → (if a || b then None else Some BadByte) ≡ cause_in (if a then goes (in_full []) else if b then goes before_lower else stops BadByte)
outer_cause true b = refl
outer_cause false true = refl
outer_cause false false = refl

pub agrees : (o : Open) (p : Piece) → refused o p ≡ cause_in (step o p)
agrees nothing (Number z) = refl
agrees nothing Wide = refl
agrees nothing (Mark b) = outer_cause (b == 40) (b == 91)
agrees nothing Arrow = refl
agrees nothing Strange = refl
agrees nothing SkippedLine = refl
agrees nothing DimensionWord = refl
agrees nothing (DimensionNumber z) = refl
agrees nothing NoNumber = refl
agrees nothing Stray = refl
agrees (in_full xs) p = corner_cause is_full_end in_full (closes (full xs)) xs p refl
agrees before_lower p = mark_cause 40 (goes (in_lower [])) p refl
agrees (in_lower ls) p = corner_cause is_file_end in_lower (goes (before_upper ls)) ls p refl
agrees (before_upper ls) p = mark_cause 40 (goes (in_upper ls [])) p refl
agrees (in_upper ls us) p = corner_cause is_file_end (in_upper ls) (goes (before_end ls us)) us p refl
agrees (before_end ls us) p = mark_cause 93 (closes (elementary ls us)) p refl
agrees behind_word (Number z) = refl
agrees behind_word Wide = refl
agrees behind_word (Mark b) = refl
agrees behind_word Arrow = refl
agrees behind_word Strange = refl
agrees behind_word SkippedLine = refl
agrees behind_word DimensionWord = refl
agrees behind_word (DimensionNumber z) = refl
agrees behind_word NoNumber = refl
agrees behind_word Stray = refl

-- a piece goes on with an item, closes it, or has no reading
abbrev pub Says : Open → Piece → Step → Type 0
Says o p (goes o') = (beginning o' ≡ beginning o ++ p ∷ []) × (fits_open o' ≡ true)
Says o p (closes i) = (spelling i ≡ beginning o ++ p ∷ []) × (fits i ≡ true)
Says o p (stops c) = refused o p ≡ Some c

-- the same at a choice
choice : (o : Open) (p : Piece) (b : Bool) (s : Step) (c : TextCause) → refused o p ≡ (if b then None else Some c)
    → (b ≡ true → Says o p s) → Says o p (if b then s else stops c)
choice o p true s c e f = f refl
choice o p false s c e f = e

pub and_both : (a b : Bool) → a && b ≡ true → (a ≡ true) × (b ≡ true)
and_both true b h = (refl, h)
and_both false b h = cc

pub both_and : (a b : Bool) → a ≡ true → b ≡ true → a && b ≡ true
both_and a b h k = rw (h, k) refl

pub all_more : (test : ℤ → Bool) (xs : List ℤ) (z : ℤ) → list_all test xs ≡ true → test z ≡ true → list_all test (xs ++ z ∷ []) ≡ true
all_more test xs z h k = list_all-append test xs (z ∷ []) ∙ rw (h, k) refl

pub number_more : (xs : List ℤ) (z : ℤ) → opened (xs ++ z ∷ []) ≡ opened xs ++ Number z ∷ []
number_more xs z = ap (λ ps. Mark 40 ∷ ps) (map-append Number xs (z ∷ []))

pub mark_is : (b n : ℕ) → b == n ≡ true → b ≡ n
mark_is b n h = grind (arith, nat_tests)

corner_says : (o : Open) (test : ℤ → Bool) (more : List ℤ → Open) (close : Step) (xs : List ℤ)
    → ((p : Piece) → refused o p ≡ refused_in_corner test xs p)
    → ((z : ℤ) → test z ≡ true → Says o (Number z) (goes (more (xs ++ z ∷ []))))
    → (not (is_empty xs) ≡ true → Says o (Mark 41) close)
    → (p : Piece) → Says o p (in_corner test more close xs p)
corner_says o test more close xs e f g (Number z) = choice o (Number z) (test z) (goes (more (xs ++ z ∷ []))) CoordinateTooLarge (e (Number z)) (f z)
corner_says o test more close xs e f g Wide = e Wide
corner_says o test more close xs e f g (Mark b) = choice o (Mark b) (b == 41 && not (is_empty xs)) close BadByte (e (Mark b))
    (λ h. subst (λ n. Says o (Mark n) close) (sym (mark_is b 41 (and_both (b == 41) (not (is_empty xs)) h).0)) (g (and_both (b == 41) (not (is_empty xs)) h).1))
corner_says o test more close xs e f g Arrow = e Arrow
corner_says o test more close xs e f g Strange = e Strange
corner_says o test more close xs e f g SkippedLine = e SkippedLine
corner_says o test more close xs e f g DimensionWord = e DimensionWord
corner_says o test more close xs e f g (DimensionNumber z) = e (DimensionNumber z)
corner_says o test more close xs e f g NoNumber = e NoNumber
corner_says o test more close xs e f g Stray = e Stray

mark_says : (o : Open) (wanted : ℕ) (found : Step) → ((p : Piece) → refused o p ≡ refused_for_mark wanted p) → Says o (Mark wanted) found
    → (p : Piece) → Says o p (for_mark wanted found p)
mark_says o wanted found e f (Number z) = e (Number z)
mark_says o wanted found e f Wide = e Wide
mark_says o wanted found e f (Mark b) = choice o (Mark b) (b == wanted) found BadByte (e (Mark b)) (λ h. subst (λ n. Says o (Mark n) found) (sym (mark_is b wanted h)) f)
mark_says o wanted found e f Arrow = e Arrow
mark_says o wanted found e f Strange = e Strange
mark_says o wanted found e f SkippedLine = e SkippedLine
mark_says o wanted found e f DimensionWord = e DimensionWord
mark_says o wanted found e f (DimensionNumber z) = e (DimensionNumber z)
mark_says o wanted found e f NoNumber = e NoNumber
mark_says o wanted found e f Stray = e Stray

outer_says : (b : ℕ) (one two : Bool) → b == 40 ≡ one → b == 91 ≡ two
    → Says nothing (Mark b) (if one then goes (in_full []) else if two then goes before_lower else stops BadByte)
outer_says b true two h k = (ap (λ n. Mark n ∷ []) (sym (mark_is b 40 h)), refl)
outer_says b false true h k = (ap (λ n. Mark n ∷ []) (sym (mark_is b 91 k)), refl)
outer_says b false false h k = rw (h, k) refl

pub says : (o : Open) (p : Piece) → fits_open o ≡ true → Says o p (step o p)
says nothing (Number z) h = refl
says nothing Wide h = refl
says nothing (Mark b) h = outer_says b (b == 40) (b == 91) refl refl
says nothing Arrow h = refl
says nothing Strange h = refl
says nothing SkippedLine h = (refl, refl)
says nothing DimensionWord h = (refl, refl)
says nothing (DimensionNumber z) h = refl
says nothing NoNumber h = refl
says nothing Stray h = refl
says (in_full xs) p h = corner_says (in_full xs) is_full_end in_full (closes (full xs)) xs (λ p. refl)
    (λ z k. (number_more xs z, all_more is_full_end xs z h k))
    (λ k. (refl, both_and (not (is_empty xs)) (list_all is_full_end xs) k h)) p
says before_lower p h = mark_says before_lower 40 (goes (in_lower [])) (λ p. refl) (refl, refl) p
says (in_lower ls) p h = corner_says (in_lower ls) is_file_end in_lower (goes (before_upper ls)) ls (λ p. refl)
    (λ z k. (ap (λ ps. Mark 91 ∷ ps) (number_more ls z), all_more is_file_end ls z h k))
    (λ k. (refl, both_and (not (is_empty ls)) (list_all is_file_end ls) k h)) p
says (before_upper ls) p h = mark_says (before_upper ls) 40 (goes (in_upper ls [])) (λ p. refl)
    (refl, both_and (fits_corner is_file_end ls) true h refl) p
says (in_upper ls us) p h =
    let both = and_both (fits_corner is_file_end ls) (list_all is_file_end us) h in
    corner_says (in_upper ls us) is_file_end (in_upper ls) (goes (before_end ls us)) us (λ p. refl)
    (λ z k. (
      ap (λ ps. Mark 91 ∷ (closed ls ++ ps)) (number_more us z) ∙ ap (λ ps. Mark 91 ∷ ps) (sym (append_assoc (closed ls) (opened us) (Number z ∷ []))),
      both_and (fits_corner is_file_end ls) (list_all is_file_end (us ++ z ∷ [])) both.0 (all_more is_file_end us z both.1 k),
    ))
    (λ k. (
      ap (λ ps. Mark 91 ∷ ps) (sym (append_assoc (closed ls) (opened us) (Mark 41 ∷ []))),
      both_and (fits_corner is_file_end ls) (fits_corner is_file_end us) both.0 (both_and (not (is_empty us)) (list_all is_file_end us) k both.1),
    )) p
says (before_end ls us) p h = mark_says (before_end ls us) 93 (closes (elementary ls us)) (λ p. refl) (refl, h) p
says behind_word (Number z) h = refl
says behind_word Wide h = refl
says behind_word (Mark b) h = refl
says behind_word Arrow h = refl
says behind_word Strange h = refl
says behind_word SkippedLine h = refl
says behind_word DimensionWord h = refl
says behind_word (DimensionNumber z) h = (refl, refl)
says behind_word NoNumber h = refl
says behind_word Stray h = refl

-- ---- from the function to the relations

-- the outcome is the one that the relations give
abbrev pub Told : Kind → Members → List (ℕ × Piece) → Outcome → Type 0
Told kind set ps (Ok v) = (items : List Item) × Splits items ps [] × Gathers kind set items v
Told kind set ps (Err e) = Refuses kind set ps e.0 e.1

-- what stands behind an item that is not refused
item_first : (kind : Kind) (set : Members) (item : Item) (here more : List (ℕ × Piece)) (r : Outcome) → IsItem item here → cause_of kind set item ≡ None
    → Told kind (with_item set item) more r → Told kind set (here ++ more) r
item_first kind set item here more (Ok v) i n t = (item ∷ t.0, (here, more, i, refl, t.1), (n, t.2))
item_first kind set item here more (Err e) i n t = record {
  items = item ∷ t.items;
  set = t.set;
  rest = t.rest;
  split = (here, more, i, refl, t.split);
  gathered = (n, t.gathered);
  refused = t.refused;
}

-- the first byte of what stands open
abbrev Starts : Open → ℕ → List (ℕ × Piece) → Type 0
Starts o start here = is_open o ≡ true → start ≡ first_place here

closed_is_nothing : (o : Open) (here : List (ℕ × Piece)) → is_open o ≡ false → said here ≡ beginning o → here ≡ []
closed_is_nothing nothing [] h e = refl
closed_is_nothing nothing (q ∷ qs) h e = cc
closed_is_nothing (in_full xs) here h e = cc
closed_is_nothing before_lower here h e = cc
closed_is_nothing (in_lower ls) here h e = cc
closed_is_nothing (before_upper ls) here h e = cc
closed_is_nothing (in_upper ls us) here h e = cc
closed_is_nothing (before_end ls us) here h e = cc
closed_is_nothing behind_word here h e = cc

opening : (o : Open) (start : ℕ) (here : List (ℕ × Piece)) (p : ℕ × Piece) → said here ≡ beginning o → Starts o start here
    → start_of o start p.0 ≡ first_place (here ++ p ∷ [])
opening nothing start [] p e s = refl
opening nothing start (q ∷ qs) p e s = cc
opening (in_full xs) start [] p e s = cc
opening (in_full xs) start (q ∷ qs) p e s = s refl
opening before_lower start [] p e s = cc
opening before_lower start (q ∷ qs) p e s = s refl
opening (in_lower ls) start [] p e s = cc
opening (in_lower ls) start (q ∷ qs) p e s = s refl
opening (before_upper ls) start [] p e s = cc
opening (before_upper ls) start (q ∷ qs) p e s = s refl
opening (in_upper ls us) start [] p e s = cc
opening (in_upper ls us) start (q ∷ qs) p e s = s refl
opening (before_end ls us) start [] p e s = cc
opening (before_end ls us) start (q ∷ qs) p e s = s refl
opening behind_word start [] p e s = cc
opening behind_word start (q ∷ qs) p e s = s refl

closing : (i : Item) (start : ℕ) (here : List (ℕ × Piece)) (p : ℕ × Piece) → start ≡ first_place (here ++ p ∷ []) → said (here ++ p ∷ []) ≡ spelling i
    → closing_place i start p.0 ≡ fault_place i (here ++ p ∷ [])
closing (full xs) start here p s e = s
closing (elementary ls us) start here p s e = s
closing skipped_line start here p s e = s
closing (dimension_line z) start [] p s e = cc
closing (dimension_line z) start (q ∷ []) p s e = refl
closing (dimension_line z) start (q ∷ r ∷ rs) p s e = absurd (omega (arith, ap length e, length-map (rs ++ p ∷ []) (λ p. p.1), length-append rs (p ∷ [])))

said_more : (o : Open) (here : List (ℕ × Piece)) (p : ℕ × Piece) → said here ≡ beginning o → said (here ++ p ∷ []) ≡ beginning o ++ p.1 ∷ []
said_more o here p e = map-append (λ p. p.1) here (p ∷ []) ∙ ap (λ ps. ps ++ p.1 ∷ []) e

abbrev Ready : Kind → List (ℕ × Piece) → Type 0
Ready kind ps = (set : Members) (o : Open) (start : ℕ) (here : List (ℕ × Piece)) → said here ≡ beginning o → fits_open o ≡ true → Starts o start here
    → Told kind set (here ++ ps) (read kind set o start ps)

told_judged : (kind : Kind) (set : Members) (ps : List (ℕ × Piece)) (i : Item) (whole : List (ℕ × Piece)) (place : ℕ) (cause : Option TextCause) → Ready kind ps
    → IsItem i whole → place ≡ fault_place i whole → cause_of kind set i ≡ cause
    → Told kind set (whole ++ ps) (judged cause (λ c. Err (place, c)) (read kind (with_item set i) nothing 0 ps))
told_judged kind set ps i whole place None ready item at e =
    item_first kind set i whole ps (read kind (with_item set i) nothing 0 ps) item e (ready (with_item set i) nothing 0 [] refl refl (λ h. cc))
told_judged kind set ps i whole place (Some c) ready item at e = record {
  items = [];
  set = set;
  rest = whole ++ ps;
  split = refl;
  gathered = refl;
  refused = inr (record { item = i; here = whole; more = ps; is_item = item; split = refl; at = at; why = e });
}

told_step : (kind : Kind) (set : Members) (o : Open) (start : ℕ) (here : List (ℕ × Piece)) (p : ℕ × Piece) (ps : List (ℕ × Piece)) (s : Step) → Ready kind ps
    → said here ≡ beginning o → fits_open o ≡ true → Starts o start here → Says o p.1 s
    → Told kind set (here ++ p ∷ ps) (next s (λ o'. read kind set o' (start_of o start p.0) ps)
    (λ i. judged (cause_of kind set i) (λ c. Err (closing_place i (start_of o start p.0) p.0, c)) (read kind (with_item set i) nothing 0 ps))
    (λ c. Err (p.0, c)))
told_step kind set o start here p ps (goes o') ready begins fitting starts says =
    subst (λ (all : List (ℕ × Piece)). Told kind set all (read kind set o' (start_of o start p.0) ps)) (append_assoc here (p ∷ []) ps)
    (ready set o' (start_of o start p.0) (here ++ p ∷ []) (said_more o here p begins ∙ sym says.0) says.1 (λ _. opening o start here p begins starts))
told_step kind set o start here p ps (closes i) ready begins fitting starts says =
    let spelled : said (here ++ p ∷ []) ≡ spelling i = said_more o here p begins ∙ sym says.0 in
    let at = closing i (start_of o start p.0) here p (opening o start here p begins starts) spelled in
    subst (λ (all : List (ℕ × Piece)). Told kind set all (judged (cause_of kind set i) (λ c. Err (closing_place i (start_of o start p.0) p.0, c)) (read kind (with_item set i) nothing 0 ps)))
    (append_assoc here (p ∷ []) ps)
    (told_judged kind set ps i (here ++ p ∷ []) _ (cause_of kind set i) ready (record { spelled = spelled; fitting = says.1 }) at refl)
told_step kind set o start here p ps (stops c) ready begins fitting starts says = record {
  items = [];
  set = set;
  rest = here ++ p ∷ ps;
  split = refl;
  gathered = refl;
  refused = inl (record { begun = o; here = here; more = p ∷ ps; begins = begins; fitting = fitting; split = refl; stops = (refl, says) });
}

told_end : (kind : Kind) (set : Members) (o : Open) (start : ℕ) (here : List (ℕ × Piece)) (b : Bool) → is_open o ≡ b → said here ≡ beginning o → fits_open o ≡ true → Starts o start here
    → Told kind set (here ++ []) (if b then Err (start, Unclosed) else Ok set)
told_end kind set o start here true is begins fitting starts = record {
  items = [];
  set = set;
  rest = here ++ [];
  split = refl;
  gathered = refl;
  refused = inl (record { begun = o; here = here; more = []; begins = begins; fitting = fitting; split = refl; stops = (is, starts is, refl) });
}
told_end kind set o start here false is begins fitting starts = ([], ap (λ l. l ++ []) (closed_is_nothing o here is begins), refl)

told_from : (kind : Kind) (ps : List (ℕ × Piece)) → Ready kind ps
told_from kind [] set o start here begins fitting starts = told_end kind set o start here (is_open o) refl begins fitting starts
told_from kind (p ∷ ps) set o start here begins fitting starts =
    told_step kind set o start here p ps (step o p.1) (told_from kind ps) begins fitting starts (says o p.1 fitting)

-- what the function answers is what the relations say
pub told : (kind : Kind) (set : Members) (ps : List (ℕ × Piece)) → Told kind set ps (read kind set nothing 0 ps)
told kind set ps = told_from kind ps set nothing 0 [] refl refl (λ h. cc)
