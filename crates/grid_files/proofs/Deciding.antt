-- What the relations say of a text is what the reading function answers: so a text has one value or one refusal.
use Rattle.std.proofs.Common.{◌≡◌, ℕ, ℤ, List, [], ◌∷◌, ◌++◌, map, Bool, true, not, if◌then◌else◌, Some, Ok, Err, refl, sym, ap, ◌∙◌, subst, append_assoc, ⊎_elim}
use Rattle.std.specs.List.{list_all}
use Rattle.std.proofs.lemmas.List.{append-nil}
use Rattle.elem_cubes.specs.Corners.{is_file_end}
use Rattle.cube_sets.specs.Sets.{Members}
use Rattle.grid_files.specs.Items.{Item, full, elementary, dimension_line, skipped_line, Open, nothing, in_full, before_lower, in_lower, before_upper, in_upper, before_end, behind_word, opened, closed, fits_corner, is_empty, is_full_end, beginning, fits_open, cause_of, with_item}
use Rattle.grid_files.specs.SetFile.{said, first_place, IsItem, Splits, Gathers, fault_place, StopsAt, Refuses}
use Rattle.grid_files.specs.declared.fault.Kind.{Kind}
use Rattle.grid_files.specs.declared.fault.TextCause.{TextCause}
use Rattle.grid_files.specs.declared.fault.TextCause.TheVariants.{Unclosed}
use Rattle.grid_files.specs.declared.piece.Piece.{Piece}
use Rattle.grid_files.specs.declared.piece.Piece.TheVariants.{Number, Mark, SkippedLine, DimensionWord, DimensionNumber}
use Rattle.grid_files.specs.Reading.{Step, goes, closes, stops, in_corner, step, next, judged, start_of, closing_place, read}
use Rattle.grid_files.proofs.Reading.{agrees, cause_in, and_both}

-- the first of some pieces, and a cut between them
split_first : (here : List (ℕ × Piece)) (p : Piece) (ps : List Piece) → said here ≡ p ∷ ps
    → (q : ℕ × Piece) × (qs : List (ℕ × Piece)) × (here ≡ q ∷ qs) × (q.1 ≡ p) × (said qs ≡ ps)
split_first [] p ps e = cc
split_first (q ∷ qs) p ps e = (q, qs, refl, cc, cc)

split_at : (fs : List Piece) (here : List (ℕ × Piece)) (bs : List Piece) → said here ≡ fs ++ bs
    → (one : List (ℕ × Piece)) × (two : List (ℕ × Piece)) × (here ≡ one ++ two) × (said one ≡ fs) × (said two ≡ bs)
split_at [] here bs e = ([], here, refl, refl, e)
split_at (a ∷ fs) [] bs e = cc
split_at (a ∷ fs) (q ∷ qs) bs e =
    let rest = split_at fs qs bs cc in
    let head : q.1 ≡ a = cc in
    (q ∷ rest.0, rest.1, ap (λ l. q ∷ l) rest.2, ap (λ l. q.1 ∷ l) rest.3 ∙ ap (λ p. p ∷ fs) head, rest.4)

none_said : (here : List (ℕ × Piece)) → said here ≡ [] → here ≡ []
none_said [] e = refl
none_said (q ∷ qs) e = cc

-- ---- single steps

pub read_goes : (kind : Kind) (set : Members) (o o' : Open) (start : ℕ) (p : ℕ × Piece) (ps : List (ℕ × Piece)) → step o p.1 ≡ goes o'
    → read kind set o start (p ∷ ps) ≡ read kind set o' (start_of o start p.0) ps
read_goes kind set o o' start p ps e = ap (λ s. next s
    (λ o'. read kind set o' (start_of o start p.0) ps)
    (λ i. judged (cause_of kind set i) (λ c. Err (closing_place i (start_of o start p.0) p.0, c)) (read kind (with_item set i) nothing 0 ps))
    (λ c. Err (p.0, c))) e

pub read_closes : (kind : Kind) (set : Members) (o : Open) (i : Item) (start : ℕ) (p : ℕ × Piece) (ps : List (ℕ × Piece)) → step o p.1 ≡ closes i
    → read kind set o start (p ∷ ps)
    ≡ judged (cause_of kind set i) (λ c. Err (closing_place i (start_of o start p.0) p.0, c)) (read kind (with_item set i) nothing 0 ps)
read_closes kind set o i start p ps e = ap (λ s. next s
    (λ o'. read kind set o' (start_of o start p.0) ps)
    (λ i. judged (cause_of kind set i) (λ c. Err (closing_place i (start_of o start p.0) p.0, c)) (read kind (with_item set i) nothing 0 ps))
    (λ c. Err (p.0, c))) e

pub read_stops : (kind : Kind) (set : Members) (o : Open) (start : ℕ) (p : ℕ × Piece) (ps : List (ℕ × Piece)) (c : TextCause) → step o p.1 ≡ stops c
    → read kind set o start (p ∷ ps) ≡ Err (p.0, c)
read_stops kind set o start p ps c e = ap (λ s. next s
    (λ o'. read kind set o' (start_of o start p.0) ps)
    (λ i. judged (cause_of kind set i) (λ c. Err (closing_place i (start_of o start p.0) p.0, c)) (read kind (with_item set i) nothing 0 ps))
    (λ c. Err (p.0, c))) e

read_start : (kind : Kind) (set : Members) (s t : ℕ) (ps : List (ℕ × Piece)) → read kind set nothing s ps ≡ read kind set nothing t ps
read_start kind set s t [] = refl
read_start kind set s t (p ∷ ps) = refl

stops_from : (s : Step) (c : TextCause) → cause_in s ≡ Some c → s ≡ stops c
stops_from (goes o) c e = cc
stops_from (closes i) c e = cc
stops_from (stops d) c e = cc

-- ---- runs over several pieces that stand open

-- these pieces lead from one beginning to another, which began at one place
abbrev Runs : Kind → Members → ℕ → Open → List Piece → Open → Type 0
Runs kind set start o ps o' = (here more : List (ℕ × Piece)) → said here ≡ ps → read kind set o start (here ++ more) ≡ read kind set o' start more

both_runs : (kind : Kind) (set : Members) (start : ℕ) (o o' o'' : Open) (fs bs : List Piece) → Runs kind set start o fs o' → Runs kind set start o' bs o'' → Runs kind set start o (fs ++ bs) o''
both_runs kind set start o o' o'' fs bs f g here more e =
    let cut = split_at fs here bs e in
    ap (λ l. read kind set o start (l ++ more)) cut.2 ∙ ap (read kind set o start) (append_assoc cut.0 cut.1 more) ∙ f cut.0 (cut.1 ++ more) cut.3 ∙ g cut.1 more cut.4

piece_runs : (kind : Kind) (set : Members) (start : ℕ) (o o' : Open) (p : Piece) → step o p ≡ goes o' → ((n : ℕ) → start_of o start n ≡ start) → Runs kind set start o (p ∷ []) o'
piece_runs kind set start o o' p e s here more is =
    let cut = split_first here p [] is in
    ap (λ l. read kind set o start (l ++ more)) cut.2
    ∙ ap (λ l. read kind set o start (cut.0 ∷ (l ++ more))) (none_said cut.1 cut.4)
    ∙ read_goes kind set o o' start cut.0 more (ap (step o) cut.3 ∙ e) ∙ ap (λ n. read kind set o' n more) (s cut.0.0)

number_step : (test : ℤ → Bool) (more : List ℤ → Open) (close : Step) (xs : List ℤ) (z : ℤ) → test z ≡ true → in_corner test more close xs (Number z) ≡ goes (more (xs ++ z ∷ []))
number_step test more close xs z h = rw h refl

mark_step : (test : ℤ → Bool) (more : List ℤ → Open) (close : Step) (xs : List ℤ) → not (is_empty xs) ≡ true → in_corner test more close xs (Mark 41) ≡ close
mark_step test more close xs h = rw h refl

numbers_run : (kind : Kind) (set : Members) (start : ℕ) (test : ℤ → Bool) (more : List ℤ → Open) (close : List ℤ → Step)
    → ((xs : List ℤ) (p : Piece) → step (more xs) p ≡ in_corner test more (close xs) xs p) → ((xs : List ℤ) (n : ℕ) → start_of (more xs) start n ≡ start)
    → (zs xs : List ℤ) → list_all test zs ≡ true → Runs kind set start (more xs) (map Number zs) (more (xs ++ zs))
numbers_run kind set start test more close e s [] xs h = λ here after is.
    ap (λ l. read kind set (more xs) start (l ++ after)) (none_said here is) ∙ ap (λ l. read kind set (more l) start after) (sym (append-nil xs))
numbers_run kind set start test more close e s (z ∷ zs) xs h =
    let both = and_both (test z) (list_all test zs) h in
    let one = piece_runs kind set start (more xs) (more (xs ++ z ∷ [])) (Number z) (e xs (Number z) ∙ number_step test more (close xs) xs z both.0) (s xs) in
    let rest = numbers_run kind set start test more close e s zs (xs ++ z ∷ []) both.1 in
    subst (λ (l : List ℤ). Runs kind set start (more xs) (Number z ∷ map Number zs) (more l)) (append_assoc xs (z ∷ []) zs)
    (both_runs kind set start (more xs) (more (xs ++ z ∷ [])) (more ((xs ++ z ∷ []) ++ zs)) (Number z ∷ []) (map Number zs) one rest)

lower_runs : (kind : Kind) (set : Members) (start : ℕ) (ls : List ℤ) → list_all is_file_end ls ≡ true → Runs kind set start before_lower (opened ls) (in_lower ls)
lower_runs kind set start ls h =
    both_runs kind set start before_lower (in_lower []) (in_lower ls) (Mark 40 ∷ []) (map Number ls)
    (piece_runs kind set start before_lower (in_lower []) (Mark 40) refl (λ n. refl))
    (numbers_run kind set start is_file_end in_lower (λ ls. goes (before_upper ls)) (λ xs p. refl) (λ xs n. refl) ls [] h)

lower_closed : (kind : Kind) (set : Members) (start : ℕ) (ls : List ℤ) → fits_corner is_file_end ls ≡ true → Runs kind set start before_lower (closed ls) (before_upper ls)
lower_closed kind set start ls h =
    let both = and_both (not (is_empty ls)) (list_all is_file_end ls) h in
    both_runs kind set start before_lower (in_lower ls) (before_upper ls) (opened ls) (Mark 41 ∷ []) (lower_runs kind set start ls both.1)
    (piece_runs kind set start (in_lower ls) (before_upper ls) (Mark 41) (mark_step is_file_end in_lower (goes (before_upper ls)) ls both.0) (λ n. refl))

upper_runs : (kind : Kind) (set : Members) (start : ℕ) (ls us : List ℤ) → list_all is_file_end us ≡ true → Runs kind set start (before_upper ls) (opened us) (in_upper ls us)
upper_runs kind set start ls us h =
    both_runs kind set start (before_upper ls) (in_upper ls []) (in_upper ls us) (Mark 40 ∷ []) (map Number us)
    (piece_runs kind set start (before_upper ls) (in_upper ls []) (Mark 40) refl (λ n. refl))
    (numbers_run kind set start is_file_end (in_upper ls) (λ us. goes (before_end ls us)) (λ xs p. refl) (λ xs n. refl) us [] h)

upper_closed : (kind : Kind) (set : Members) (start : ℕ) (ls us : List ℤ) → fits_corner is_file_end us ≡ true → Runs kind set start (before_upper ls) (closed us) (before_end ls us)
upper_closed kind set start ls us h =
    let both = and_both (not (is_empty us)) (list_all is_file_end us) h in
    both_runs kind set start (before_upper ls) (in_upper ls us) (before_end ls us) (opened us) (Mark 41 ∷ []) (upper_runs kind set start ls us both.1)
    (piece_runs kind set start (in_upper ls us) (before_end ls us) (Mark 41) (mark_step is_file_end (in_upper ls) (goes (before_end ls us)) us both.0) (λ n. refl))

full_runs : (kind : Kind) (set : Members) (start : ℕ) (xs : List ℤ) → list_all is_full_end xs ≡ true → Runs kind set start (in_full []) (map Number xs) (in_full xs)
full_runs kind set start xs h = numbers_run kind set start is_full_end in_full (λ xs. closes (full xs)) (λ xs p. refl) (λ xs n. refl) xs [] h

-- ---- from between two items

-- the first piece of an item
opens : (kind : Kind) (set : Members) (start : ℕ) (o : Open) (p : Piece) (here more : List (ℕ × Piece)) (ps : List Piece) → step nothing p ≡ goes o → said here ≡ p ∷ ps
    → (q : ℕ × Piece) × (qs : List (ℕ × Piece)) × (here ≡ q ∷ qs) × (said qs ≡ ps) × (read kind set nothing start (here ++ more) ≡ read kind set o q.0 (qs ++ more))
opens kind set start o p here more ps e is =
    let cut = split_first here p ps is in
    (cut.0, cut.1, cut.2, cut.4, ap (λ l. read kind set nothing start (l ++ more)) cut.2 ∙ read_goes kind set nothing o start cut.0 (cut.1 ++ more) (ap (step nothing) cut.3 ∙ e))

-- behind an opening piece, a run
opened_run : (kind : Kind) (set : Members) (start : ℕ) (o o' : Open) (p : Piece) (ps : List Piece) (here more : List (ℕ × Piece)) → step nothing p ≡ goes o
    → ((start : ℕ) → Runs kind set start o ps o') → said here ≡ p ∷ ps → read kind set nothing start (here ++ more) ≡ read kind set o' (first_place here) more
opened_run kind set start o o' p ps here more e run is =
    let first = opens kind set start o p here more ps e is in
    first.4 ∙ run first.0.0 first.1 more first.3 ∙ ap (λ l. read kind set o' (first_place l) more) (sym first.2)

nothing_runs : (kind : Kind) (set : Members) (start : ℕ) (o : Open) → Runs kind set start o [] o
nothing_runs kind set start o here more e = ap (λ l. read kind set o start (l ++ more)) (none_said here e)

-- the beginning of an item leads to where it stands open
begun_run : (kind : Kind) (set : Members) (start : ℕ) (o : Open) (here more : List (ℕ × Piece)) → fits_open o ≡ true → said here ≡ beginning o
    → read kind set nothing start (here ++ more) ≡ read kind set o (first_place here) more
begun_run kind set start nothing here more h e =
    ap (λ l. read kind set nothing start (l ++ more)) (none_said here e) ∙ read_start kind set start (first_place here) more
begun_run kind set start (in_full xs) here more h e = opened_run kind set start (in_full []) (in_full xs) (Mark 40) (map Number xs) here more refl (λ s. full_runs kind set s xs h) e
begun_run kind set start before_lower here more h e = opened_run kind set start before_lower before_lower (Mark 91) [] here more refl (λ s. nothing_runs kind set s before_lower) e
begun_run kind set start (in_lower ls) here more h e = opened_run kind set start before_lower (in_lower ls) (Mark 91) (opened ls) here more refl (λ s. lower_runs kind set s ls h) e
begun_run kind set start (before_upper ls) here more h e = opened_run kind set start before_lower (before_upper ls) (Mark 91) (closed ls) here more refl (λ s. lower_closed kind set s ls h) e
begun_run kind set start (in_upper ls us) here more h e =
    let both = and_both (fits_corner is_file_end ls) (list_all is_file_end us) h in
    opened_run kind set start before_lower (in_upper ls us) (Mark 91) (closed ls ++ opened us) here more refl
    (λ s. both_runs kind set s before_lower (before_upper ls) (in_upper ls us) (closed ls) (opened us) (lower_closed kind set s ls both.0) (upper_runs kind set s ls us both.1)) e
begun_run kind set start (before_end ls us) here more h e =
    let both = and_both (fits_corner is_file_end ls) (fits_corner is_file_end us) h in
    opened_run kind set start before_lower (before_end ls us) (Mark 91) (closed ls ++ closed us) here more refl
    (λ s. both_runs kind set s before_lower (before_upper ls) (before_end ls us) (closed ls) (closed us) (lower_closed kind set s ls both.0) (upper_closed kind set s ls us both.1)) e
begun_run kind set start behind_word here more h e = opened_run kind set start behind_word behind_word DimensionWord [] here more refl (λ s. nothing_runs kind set s behind_word) e

first_of_more : (here : List (ℕ × Piece)) (p : Piece) (ps : List Piece) (more : List (ℕ × Piece)) → said here ≡ p ∷ ps → first_place (here ++ more) ≡ first_place here
first_of_more [] p ps more e = cc
first_of_more (q ∷ qs) p ps more e = refl

-- what follows an item, whole
abbrev Judges : Kind → Members → ℕ → Item → List (ℕ × Piece) → List (ℕ × Piece) → Type 0
Judges kind set start i here more =
    read kind set nothing start (here ++ more) ≡ judged (cause_of kind set i) (λ c. Err (fault_place i here, c)) (read kind (with_item set i) nothing 0 more)

-- an item is its beginning and one piece
last_piece : (kind : Kind) (set : Members) (start : ℕ) (i : Item) (o : Open) (p : Piece) (here more : List (ℕ × Piece)) → fits_open o ≡ true → step o p ≡ closes i
    → said here ≡ beginning o ++ p ∷ []
    → ((one : List (ℕ × Piece)) (q : ℕ × Piece) → said one ≡ beginning o → closing_place i (start_of o (first_place one) q.0) q.0 ≡ fault_place i (one ++ q ∷ []))
    → Judges kind set start i here more
last_piece kind set start i o p here more h e is at =
    let cut = split_at (beginning o) here (p ∷ []) is in
    let last = split_first cut.1 p [] cut.4 in
    let two : cut.1 ≡ last.0 ∷ [] = last.2 ∙ ap (λ l. last.0 ∷ l) (none_said last.1 last.4) in
    let whole : here ≡ cut.0 ++ last.0 ∷ [] = cut.2 ∙ ap (λ l. cut.0 ++ l) two in
    ap (λ l. read kind set nothing start (l ++ more)) whole
    ∙ ap (read kind set nothing start) (append_assoc cut.0 (last.0 ∷ []) more)
    ∙ begun_run kind set start o cut.0 (last.0 ∷ more) h cut.3
    ∙ read_closes kind set o i (first_place cut.0) last.0 more (ap (step o) last.3 ∙ e)
    ∙ ap (λ n. judged (cause_of kind set i) (λ c. Err (n, c)) (read kind (with_item set i) nothing 0 more)) (at cut.0 last.0 cut.3 ∙ ap (fault_place i) (sym whole))

item_run : (kind : Kind) (set : Members) (start : ℕ) (i : Item) (here more : List (ℕ × Piece)) → IsItem i here → Judges kind set start i here more
item_run kind set start (full xs) here more is =
    let both = and_both (not (is_empty xs)) (list_all is_full_end xs) is.fitting in
    last_piece kind set start (full xs) (in_full xs) (Mark 41) here more both.1 (mark_step is_full_end in_full (closes (full xs)) xs both.0) is.spelled
    (λ one q e. sym (first_of_more one (Mark 40) (map Number xs) (q ∷ []) e))
item_run kind set start (elementary ls us) here more is =
    last_piece kind set start (elementary ls us) (before_end ls us) (Mark 93) here more is.fitting refl is.spelled
    (λ one q e. sym (first_of_more one (Mark 91) (closed ls ++ closed us) (q ∷ []) e))
item_run kind set start (dimension_line z) here more is =
    last_piece kind set start (dimension_line z) behind_word (DimensionNumber z) here more refl refl is.spelled
    (λ one q e. let cut = split_first one DimensionWord [] e in
    sym (ap (λ l. fault_place (dimension_line z) (l ++ q ∷ [])) cut.2 ∙ ap (λ l. first_place (l ++ q ∷ [])) (none_said cut.1 cut.4)))
item_run kind set start skipped_line here more is =
    last_piece kind set start skipped_line nothing SkippedLine here more refl refl is.spelled
    (λ one q e. sym (ap (λ l. first_place (l ++ q ∷ [])) (none_said one e)))

-- items that are not refused lead on
gathered : (kind : Kind) (set all : Members) (items : List Item) (ps rest : List (ℕ × Piece)) → Splits items ps rest → Gathers kind set items all
    → read kind set nothing 0 ps ≡ read kind all nothing 0 rest
gathered kind set all [] ps rest s g = ap (read kind set nothing 0) s ∙ ap (λ m. read kind m nothing 0 rest) (sym g)
gathered kind set all (i ∷ is) ps rest s g =
    ap (read kind set nothing 0) s.3 ∙ item_run kind set 0 i s.0 s.1 s.2
    ∙ ap (λ c. judged c (λ c. Err (fault_place i s.0, c)) (read kind (with_item set i) nothing 0 s.1)) g.0
    ∙ gathered kind (with_item set i) all is s.1 rest s.4 g.1

stopped : (kind : Kind) (set : Members) (o : Open) (start : ℕ) (ps : List (ℕ × Piece)) (place : ℕ) (cause : TextCause) → StopsAt o start ps place cause
    → read kind set o start ps ≡ Err (place, cause)
stopped kind set o start [] place cause s =
    ap (λ b. if b then Err (start, Unclosed) else Ok set) s.0 ∙ ap (λ n. Err (n, Unclosed)) (sym s.1) ∙ ap (λ c. Err (place, c)) (sym s.2)
stopped kind set o start (p ∷ ps) place cause s =
    read_stops kind set o start p ps cause (stops_from (step o p.1) cause (sym (agrees o p.1) ∙ s.1)) ∙ ap (λ n. Err (n, cause)) (sym s.0)

-- a text with a value
pub value_read : (kind : Kind) (set all : Members) (ps : List (ℕ × Piece)) → (items : List Item) × Splits items ps [] × Gathers kind set items all
    → read kind set nothing 0 ps ≡ Ok all
value_read kind set all ps h = gathered kind set all h.0 ps [] h.1 h.2

-- a text that is refused
pub refusal_read : (kind : Kind) (set : Members) (ps : List (ℕ × Piece)) (place : ℕ) (cause : TextCause) → Refuses kind set ps place cause
    → read kind set nothing 0 ps ≡ Err (place, cause)
refusal_read kind set ps place cause h = gathered kind set h.set h.items ps h.rest h.split h.gathered ∙ ⊎_elim
    (λ b. ap (read kind h.set nothing 0) b.split ∙ begun_run kind h.set 0 b.begun b.here b.more b.fitting b.begins ∙ stopped kind h.set b.begun (first_place b.here) b.more place cause b.stops)
    (λ b. ap (read kind h.set nothing 0) b.split ∙ item_run kind h.set 0 b.item b.here b.more b.is_item
    ∙ ap (λ c. judged c (λ c. Err (fault_place b.item b.here, c)) (read kind (with_item h.set b.item) nothing 0 b.more)) b.why ∙ ap (λ n. Err (n, cause)) (sym b.at))
    h.refused
