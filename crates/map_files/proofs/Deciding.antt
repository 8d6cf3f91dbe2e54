-- What the relations say of a text is what the reading function answers: so a text has one value or one refusal.
use Rattle.std.proofs.Common.{◌≡◌, ℕ, ℤ, List, [], ◌∷◌, ◌++◌, map, true, ◌&&◌, not, if◌then◌else◌, Some, Ok, Err, refl, sym, ap, ◌∙◌, subst, append_assoc, ⊎_elim}
use Rattle.std.specs.List.{list_all, flat_map}
use Rattle.std.proofs.lemmas.List.{append-nil}
use Rattle.cube_maps.specs.CubeMaps.{Mapping}
use Rattle.grid_files.specs.Items.{opened, closed, is_empty, is_full_end}
use Rattle.grid_files.specs.SetFile.{said, first_place}
use Rattle.grid_files.specs.declared.fault.TextCause.{TextCause}
use Rattle.grid_files.specs.declared.fault.TextCause.TheVariants.{Unclosed}
use Rattle.grid_files.specs.declared.piece.Piece.{Piece}
use Rattle.grid_files.specs.declared.piece.Piece.TheVariants.{Number, Mark, Arrow, SkippedLine, DimensionWord, DimensionNumber}
use Rattle.grid_files.proofs.Reading.{and_both}
use Rattle.map_files.specs.Items.{Item, single, listed, dimension_line, skipped_line, Open, nothing, in_left, before_arrow, before_value, in_single, in_list, in_listed, behind_word, leading, fits_cube, beginning, fits_open, cause_of, with_item}
use Rattle.map_files.specs.MapFile.{IsItem, Splits, Gathers, fault_place, StopsAt, Refuses}
use Rattle.map_files.specs.Reading.{Step, goes, closes, stops, in_corner, step, next, judged, start_of, closing_place, read}
use Rattle.map_files.proofs.Reading.{agrees, cause_in}

-- the first of some pieces, and a cut between them
split_first : (here : List (ℕ × Piece)) (p : Piece) (ps : List Piece) → said here ≡ p ∷ ps
    → (q : ℕ × Piece) × (qs : List (ℕ × Piece)) × (here ≡ q ∷ qs) × (q.1 ≡ p) × (said qs ≡ ps)
split_first [] p ps e = cc
split_first (q ∷ qs) p ps e = (q, qs, refl, cc, cc)

split_at : (fs : List Piece) (here : List (ℕ × Piece)) (bs : List Piece) → said here ≡ fs ++ bs
    → (one : List (ℕ × Piece)) × (two : List (ℕ × Piece)) × (here ≡ one ++ two) × (said one ≡ fs) × (said two ≡ bs)
split_at [] here bs e = ([], here, refl, refl, e)
split_at (a ∷ fs) [] bs e = cc
split_at (a ∷ fs) (q ∷ qs) bs e =
    let rest = split_at fs qs bs cc in
    let head : q.1 ≡ a = cc in
    (q ∷ rest.0, rest.1, ap (λ l. q ∷ l) rest.2, ap (λ l. q.1 ∷ l) rest.3 ∙ ap (λ p. p ∷ fs) head, rest.4)

none_said : (here : List (ℕ × Piece)) → said here ≡ [] → here ≡ []
none_said [] e = refl
none_said (q ∷ qs) e = cc

-- ---- single steps

pub read_goes : (m : Mapping) (o o' : Open) (start : ℕ) (p : ℕ × Piece) (ps : List (ℕ × Piece)) → step o p.1 ≡ goes o'
    → read m o start (p ∷ ps) ≡ read m o' (start_of o start p.0) ps
read_goes m o o' start p ps e = ap (λ s. next s
    (λ o'. read m o' (start_of o start p.0) ps)
    (λ i. judged (cause_of m i) (λ c. Err (closing_place i (start_of o start p.0) p.0, c)) (read (with_item m i) nothing 0 ps))
    (λ c. Err (p.0, c))) e

pub read_closes : (m : Mapping) (o : Open) (i : Item) (start : ℕ) (p : ℕ × Piece) (ps : List (ℕ × Piece)) → step o p.1 ≡ closes i
    → read m o start (p ∷ ps)
    ≡ judged (cause_of m i) (λ c. Err (closing_place i (start_of o start p.0) p.0, c)) (read (with_item m i) nothing 0 ps)
read_closes m o i start p ps e = ap (λ s. next s
    (λ o'. read m o' (start_of o start p.0) ps)
    (λ i. judged (cause_of m i) (λ c. Err (closing_place i (start_of o start p.0) p.0, c)) (read (with_item m i) nothing 0 ps))
    (λ c. Err (p.0, c))) e

pub read_stops : (m : Mapping) (o : Open) (start : ℕ) (p : ℕ × Piece) (ps : List (ℕ × Piece)) (c : TextCause) → step o p.1 ≡ stops c
    → read m o start (p ∷ ps) ≡ Err (p.0, c)
read_stops m o start p ps c e = ap (λ s. next s
    (λ o'. read m o' (start_of o start p.0) ps)
    (λ i. judged (cause_of m i) (λ c. Err (closing_place i (start_of o start p.0) p.0, c)) (read (with_item m i) nothing 0 ps))
    (λ c. Err (p.0, c))) e

read_start : (m : Mapping) (s t : ℕ) (ps : List (ℕ × Piece)) → read m nothing s ps ≡ read m nothing t ps
read_start m s t [] = refl
read_start m s t (p ∷ ps) = refl

stops_from : (s : Step) (c : TextCause) → cause_in s ≡ Some c → s ≡ stops c
stops_from (goes o) c e = cc
stops_from (closes i) c e = cc
stops_from (stops d) c e = cc

-- ---- runs over several pieces that stand open

-- these pieces lead from one beginning to another, which began at one place
abbrev Runs : Mapping → ℕ → Open → List Piece → Open → Type 0
Runs m start o ps o' = (here more : List (ℕ × Piece)) → said here ≡ ps → read m o start (here ++ more) ≡ read m o' start more

both_runs : (m : Mapping) (start : ℕ) (o o' o'' : Open) (fs bs : List Piece) → Runs m start o fs o' → Runs m start o' bs o'' → Runs m start o (fs ++ bs) o''
both_runs m start o o' o'' fs bs f g here more e =
    let cut = split_at fs here bs e in
    ap (λ l. read m o start (l ++ more)) cut.2 ∙ ap (read m o start) (append_assoc cut.0 cut.1 more) ∙ f cut.0 (cut.1 ++ more) cut.3 ∙ g cut.1 more cut.4

piece_runs : (m : Mapping) (start : ℕ) (o o' : Open) (p : Piece) → step o p ≡ goes o' → ((n : ℕ) → start_of o start n ≡ start) → Runs m start o (p ∷ []) o'
piece_runs m start o o' p e s here more is =
    let cut = split_first here p [] is in
    ap (λ l. read m o start (l ++ more)) cut.2
    ∙ ap (λ l. read m o start (cut.0 ∷ (l ++ more))) (none_said cut.1 cut.4)
    ∙ read_goes m o o' start cut.0 more (ap (step o) cut.3 ∙ e) ∙ ap (λ n. read m o' n more) (s cut.0.0)

number_step : (more : List ℤ → Open) (close : Step) (xs : List ℤ) (z : ℤ) → is_full_end z ≡ true → in_corner more close xs (Number z) ≡ goes (more (xs ++ z ∷ []))
number_step more close xs z h = rw h refl

pub mark_step : (more : List ℤ → Open) (close : Step) (xs : List ℤ) → not (is_empty xs) ≡ true → in_corner more close xs (Mark 41) ≡ close
mark_step more close xs h = rw h refl

numbers_run : (m : Mapping) (start : ℕ) (more : List ℤ → Open) (close : List ℤ → Step)
    → ((xs : List ℤ) (p : Piece) → step (more xs) p ≡ in_corner more (close xs) xs p) → ((xs : List ℤ) (n : ℕ) → start_of (more xs) start n ≡ start)
    → (zs xs : List ℤ) → list_all is_full_end zs ≡ true → Runs m start (more xs) (map Number zs) (more (xs ++ zs))
numbers_run m start more close e s [] xs h = λ here after is.
    ap (λ l. read m (more xs) start (l ++ after)) (none_said here is) ∙ ap (λ l. read m (more l) start after) (sym (append-nil xs))
numbers_run m start more close e s (z ∷ zs) xs h =
    let both = and_both (is_full_end z) (list_all is_full_end zs) h in
    let one = piece_runs m start (more xs) (more (xs ++ z ∷ [])) (Number z) (e xs (Number z) ∙ number_step more (close xs) xs z both.0) (s xs) in
    let rest = numbers_run m start more close e s zs (xs ++ z ∷ []) both.1 in
    subst (λ (l : List ℤ). Runs m start (more xs) (Number z ∷ map Number zs) (more l)) (append_assoc xs (z ∷ []) zs)
    (both_runs m start (more xs) (more (xs ++ z ∷ [])) (more ((xs ++ z ∷ []) ++ zs)) (Number z ∷ []) (map Number zs) one rest)

-- a corner behind its opening mark: its numbers, and its closing mark
left_runs : (m : Mapping) (start : ℕ) (xs : List ℤ) → list_all is_full_end xs ≡ true → Runs m start (in_left []) (map Number xs) (in_left xs)
left_runs m start xs h = numbers_run m start in_left (λ xs. goes (before_arrow xs)) (λ xs p. refl) (λ xs n. refl) xs [] h

left_closed : (m : Mapping) (start : ℕ) (q : List ℤ) → fits_cube q ≡ true → Runs m start (in_left []) (map Number q ++ Mark 41 ∷ []) (before_arrow q)
left_closed m start q h =
    let both = and_both (not (is_empty q)) (list_all is_full_end q) h in
    both_runs m start (in_left []) (in_left q) (before_arrow q) (map Number q) (Mark 41 ∷ []) (left_runs m start q both.1)
    (piece_runs m start (in_left q) (before_arrow q) (Mark 41) (mark_step in_left (goes (before_arrow q)) q both.0) (λ n. refl))

led : (m : Mapping) (start : ℕ) (q : List ℤ) → fits_cube q ≡ true → Runs m start (in_left []) ((map Number q ++ Mark 41 ∷ []) ++ Arrow ∷ []) (before_value q)
led m start q h =
    both_runs m start (in_left []) (before_arrow q) (before_value q) (map Number q ++ Mark 41 ∷ []) (Arrow ∷ []) (left_closed m start q h)
    (piece_runs m start (before_arrow q) (before_value q) Arrow refl (λ n. refl))

single_runs : (m : Mapping) (start : ℕ) (q xs : List ℤ) → list_all is_full_end xs ≡ true → Runs m start (before_value q) (opened xs) (in_single q xs)
single_runs m start q xs h =
    both_runs m start (before_value q) (in_single q []) (in_single q xs) (Mark 40 ∷ []) (map Number xs)
    (piece_runs m start (before_value q) (in_single q []) (Mark 40) refl (λ n. refl))
    (numbers_run m start (in_single q) (λ xs. closes (single q xs)) (λ xs p. refl) (λ xs n. refl) xs [] h)

listed_runs : (m : Mapping) (start : ℕ) (q : List ℤ) (vs : List (List ℤ)) (xs : List ℤ) → list_all is_full_end xs ≡ true → Runs m start (in_list q vs) (opened xs) (in_listed q vs xs)
listed_runs m start q vs xs h =
    both_runs m start (in_list q vs) (in_listed q vs []) (in_listed q vs xs) (Mark 40 ∷ []) (map Number xs)
    (piece_runs m start (in_list q vs) (in_listed q vs []) (Mark 40) refl (λ n. refl))
    (numbers_run m start (in_listed q vs) (λ xs. goes (in_list q (vs ++ xs ∷ []))) (λ xs p. refl) (λ xs n. refl) xs [] h)

listed_closed : (m : Mapping) (start : ℕ) (q : List ℤ) (vs : List (List ℤ)) (xs : List ℤ) → fits_cube xs ≡ true → Runs m start (in_list q vs) (closed xs) (in_list q (vs ++ xs ∷ []))
listed_closed m start q vs xs h =
    let both = and_both (not (is_empty xs)) (list_all is_full_end xs) h in
    both_runs m start (in_list q vs) (in_listed q vs xs) (in_list q (vs ++ xs ∷ [])) (opened xs) (Mark 41 ∷ []) (listed_runs m start q vs xs both.1)
    (piece_runs m start (in_listed q vs xs) (in_list q (vs ++ xs ∷ [])) (Mark 41) (mark_step (in_listed q vs) (goes (in_list q (vs ++ xs ∷ []))) xs both.0) (λ n. refl))

cubes_run : (m : Mapping) (start : ℕ) (q : List ℤ) (vs us : List (List ℤ)) → list_all fits_cube vs ≡ true → Runs m start (in_list q us) (flat_map closed vs) (in_list q (us ++ vs))
cubes_run m start q [] us h = λ here after is.
    ap (λ l. read m (in_list q us) start (l ++ after)) (none_said here is) ∙ ap (λ l. read m (in_list q l) start after) (sym (append-nil us))
cubes_run m start q (v ∷ vs) us h =
    let both = and_both (fits_cube v) (list_all fits_cube vs) h in
    subst (λ (l : List (List ℤ)). Runs m start (in_list q us) (closed v ++ flat_map closed vs) (in_list q l)) (append_assoc us (v ∷ []) vs)
    (both_runs m start (in_list q us) (in_list q (us ++ v ∷ [])) (in_list q ((us ++ v ∷ []) ++ vs)) (closed v) (flat_map closed vs)
    (listed_closed m start q us v both.0) (cubes_run m start q vs (us ++ v ∷ []) both.1))

list_runs : (m : Mapping) (start : ℕ) (q : List ℤ) (vs : List (List ℤ)) → fits_cube q ≡ true → list_all fits_cube vs ≡ true
    → Runs m start (in_left []) (((map Number q ++ Mark 41 ∷ []) ++ Arrow ∷ []) ++ Mark 123 ∷ flat_map closed vs) (in_list q vs)
list_runs m start q vs h k =
    both_runs m start (in_left []) (before_value q) (in_list q vs) ((map Number q ++ Mark 41 ∷ []) ++ Arrow ∷ []) (Mark 123 ∷ flat_map closed vs) (led m start q h)
    (both_runs m start (before_value q) (in_list q []) (in_list q vs) (Mark 123 ∷ []) (flat_map closed vs)
    (piece_runs m start (before_value q) (in_list q []) (Mark 123) refl (λ n. refl)) (cubes_run m start q vs [] k))

-- ---- from between two items

-- the first piece of an item
opens : (m : Mapping) (start : ℕ) (o : Open) (p : Piece) (here more : List (ℕ × Piece)) (ps : List Piece) → step nothing p ≡ goes o → said here ≡ p ∷ ps
    → (q : ℕ × Piece) × (qs : List (ℕ × Piece)) × (here ≡ q ∷ qs) × (said qs ≡ ps) × (read m nothing start (here ++ more) ≡ read m o q.0 (qs ++ more))
opens m start o p here more ps e is =
    let cut = split_first here p ps is in
    (cut.0, cut.1, cut.2, cut.4, ap (λ l. read m nothing start (l ++ more)) cut.2 ∙ read_goes m nothing o start cut.0 (cut.1 ++ more) (ap (step nothing) cut.3 ∙ e))

-- behind an opening piece, a run
opened_run : (m : Mapping) (start : ℕ) (o o' : Open) (p : Piece) (ps : List Piece) (here more : List (ℕ × Piece)) → step nothing p ≡ goes o
    → ((start : ℕ) → Runs m start o ps o') → said here ≡ p ∷ ps → read m nothing start (here ++ more) ≡ read m o' (first_place here) more
opened_run m start o o' p ps here more e run is =
    let first = opens m start o p here more ps e is in
    first.4 ∙ run first.0.0 first.1 more first.3 ∙ ap (λ l. read m o' (first_place l) more) (sym first.2)

nothing_runs : (m : Mapping) (start : ℕ) (o : Open) → Runs m start o [] o
nothing_runs m start o here more e = ap (λ l. read m o start (l ++ more)) (none_said here e)

-- the beginning of an item leads to where it stands open
begun_run : (m : Mapping) (start : ℕ) (o : Open) (here more : List (ℕ × Piece)) → fits_open o ≡ true → said here ≡ beginning o
    → read m nothing start (here ++ more) ≡ read m o (first_place here) more
begun_run m start nothing here more h e =
    ap (λ l. read m nothing start (l ++ more)) (none_said here e) ∙ read_start m start (first_place here) more
begun_run m start (in_left xs) here more h e = opened_run m start (in_left []) (in_left xs) (Mark 40) (map Number xs) here more refl (λ s. left_runs m s xs h) e
begun_run m start (before_arrow q) here more h e = opened_run m start (in_left []) (before_arrow q) (Mark 40) (map Number q ++ Mark 41 ∷ []) here more refl (λ s. left_closed m s q h) e
begun_run m start (before_value q) here more h e =
    opened_run m start (in_left []) (before_value q) (Mark 40) ((map Number q ++ Mark 41 ∷ []) ++ Arrow ∷ []) here more refl (λ s. led m s q h) e
begun_run m start (in_single q xs) here more h e =
    let both = and_both (fits_cube q) (list_all is_full_end xs) h in
    opened_run m start (in_left []) (in_single q xs) (Mark 40) (((map Number q ++ Mark 41 ∷ []) ++ Arrow ∷ []) ++ opened xs) here more refl
    (λ s. both_runs m s (in_left []) (before_value q) (in_single q xs) ((map Number q ++ Mark 41 ∷ []) ++ Arrow ∷ []) (opened xs) (led m s q both.0) (single_runs m s q xs both.1)) e
begun_run m start (in_list q vs) here more h e =
    let both = and_both (fits_cube q) (list_all fits_cube vs) h in
    opened_run m start (in_left []) (in_list q vs) (Mark 40) (((map Number q ++ Mark 41 ∷ []) ++ Arrow ∷ []) ++ Mark 123 ∷ flat_map closed vs) here more refl
    (λ s. list_runs m s q vs both.0 both.1) e
begun_run m start (in_listed q vs xs) here more h e =
    let both = and_both (fits_cube q && list_all fits_cube vs) (list_all is_full_end xs) h in
    let fit = and_both (fits_cube q) (list_all fits_cube vs) both.0 in
    opened_run m start (in_left []) (in_listed q vs xs) (Mark 40) ((((map Number q ++ Mark 41 ∷ []) ++ Arrow ∷ []) ++ Mark 123 ∷ flat_map closed vs) ++ opened xs) here more refl
    (λ s. both_runs m s (in_left []) (in_list q vs) (in_listed q vs xs) (((map Number q ++ Mark 41 ∷ []) ++ Arrow ∷ []) ++ Mark 123 ∷ flat_map closed vs) (opened xs)
    (list_runs m s q vs fit.0 fit.1) (listed_runs m s q vs xs both.1)) e
begun_run m start behind_word here more h e = opened_run m start behind_word behind_word DimensionWord [] here more refl (λ s. nothing_runs m s behind_word) e

first_of_more : (here : List (ℕ × Piece)) (p : Piece) (ps : List Piece) (more : List (ℕ × Piece)) → said here ≡ p ∷ ps → first_place (here ++ more) ≡ first_place here
first_of_more [] p ps more e = cc
first_of_more (q ∷ qs) p ps more e = refl

-- what follows an item, whole
abbrev Judges : Mapping → ℕ → Item → List (ℕ × Piece) → List (ℕ × Piece) → Type 0
Judges m start i here more =
    read m nothing start (here ++ more) ≡ judged (cause_of m i) (λ c. Err (fault_place i here, c)) (read (with_item m i) nothing 0 more)

-- an item is its beginning and one piece
last_piece : (m : Mapping) (start : ℕ) (i : Item) (o : Open) (p : Piece) (here more : List (ℕ × Piece)) → fits_open o ≡ true → step o p ≡ closes i
    → said here ≡ beginning o ++ p ∷ []
    → ((one : List (ℕ × Piece)) (q : ℕ × Piece) → said one ≡ beginning o → closing_place i (start_of o (first_place one) q.0) q.0 ≡ fault_place i (one ++ q ∷ []))
    → Judges m start i here more
last_piece m start i o p here more h e is at =
    let cut = split_at (beginning o) here (p ∷ []) is in
    let last = split_first cut.1 p [] cut.4 in
    let two : cut.1 ≡ last.0 ∷ [] = last.2 ∙ ap (λ l. last.0 ∷ l) (none_said last.1 last.4) in
    let whole : here ≡ cut.0 ++ last.0 ∷ [] = cut.2 ∙ ap (λ l. cut.0 ++ l) two in
    ap (λ l. read m nothing start (l ++ more)) whole
    ∙ ap (read m nothing start) (append_assoc cut.0 (last.0 ∷ []) more)
    ∙ begun_run m start o cut.0 (last.0 ∷ more) h cut.3
    ∙ read_closes m o i (first_place cut.0) last.0 more (ap (step o) last.3 ∙ e)
    ∙ ap (λ n. judged (cause_of m i) (λ c. Err (n, c)) (read (with_item m i) nothing 0 more)) (at cut.0 last.0 cut.3 ∙ ap (fault_place i) (sym whole))

item_run : (m : Mapping) (start : ℕ) (i : Item) (here more : List (ℕ × Piece)) → IsItem i here → Judges m start i here more
item_run m start (single q v) here more is =
    let both = and_both (fits_cube q) (fits_cube v) is.fitting in
    let parts = and_both (not (is_empty v)) (list_all is_full_end v) both.1 in
    last_piece m start (single q v) (in_single q v) (Mark 41) here more (ap (λ b. b && list_all is_full_end v) both.0 ∙ parts.1) (mark_step (in_single q) (closes (single q v)) v parts.0)
    (is.spelled ∙ sym (append_assoc (leading q) (opened v) (Mark 41 ∷ [])))
    (λ one p e. sym (first_of_more one (Mark 40) (((map Number q ++ Mark 41 ∷ []) ++ Arrow ∷ []) ++ opened v) (p ∷ []) e))
item_run m start (listed q vs) here more is =
    last_piece m start (listed q vs) (in_list q vs) (Mark 125) here more is.fitting refl is.spelled
    (λ one p e. sym (first_of_more one (Mark 40) (((map Number q ++ Mark 41 ∷ []) ++ Arrow ∷ []) ++ Mark 123 ∷ flat_map closed vs) (p ∷ []) e))
item_run m start (dimension_line z) here more is =
    last_piece m start (dimension_line z) behind_word (DimensionNumber z) here more refl refl is.spelled
    (λ one q e. let cut = split_first one DimensionWord [] e in
    sym (ap (λ l. fault_place (dimension_line z) (l ++ q ∷ [])) cut.2 ∙ ap (λ l. first_place (l ++ q ∷ [])) (none_said cut.1 cut.4)))
item_run m start skipped_line here more is =
    last_piece m start skipped_line nothing SkippedLine here more refl refl is.spelled
    (λ one q e. sym (ap (λ l. first_place (l ++ q ∷ [])) (none_said one e)))

-- items that are not refused lead on
gathered : (m all : Mapping) (items : List Item) (ps rest : List (ℕ × Piece)) → Splits items ps rest → Gathers m items all
    → read m nothing 0 ps ≡ read all nothing 0 rest
gathered m all [] ps rest s g = ap (read m nothing 0) s ∙ ap (λ n. read n nothing 0 rest) (sym g)
gathered m all (i ∷ is) ps rest s g =
    ap (read m nothing 0) s.3 ∙ item_run m 0 i s.0 s.1 s.2
    ∙ ap (λ c. judged c (λ c. Err (fault_place i s.0, c)) (read (with_item m i) nothing 0 s.1)) g.0
    ∙ gathered (with_item m i) all is s.1 rest s.4 g.1

stopped : (m : Mapping) (o : Open) (start : ℕ) (ps : List (ℕ × Piece)) (place : ℕ) (cause : TextCause) → StopsAt o start ps place cause
    → read m o start ps ≡ Err (place, cause)
stopped m o start [] place cause s =
    ap (λ b. if b then Err (start, Unclosed) else Ok m) s.0 ∙ ap (λ n. Err (n, Unclosed)) (sym s.1) ∙ ap (λ c. Err (place, c)) (sym s.2)
stopped m o start (p ∷ ps) place cause s =
    read_stops m o start p ps cause (stops_from (step o p.1) cause (sym (agrees o p.1) ∙ s.1)) ∙ ap (λ n. Err (n, cause)) (sym s.0)

-- a text with a value
pub value_read : (m all : Mapping) (ps : List (ℕ × Piece)) → (items : List Item) × Splits items ps [] × Gathers m items all
    → read m nothing 0 ps ≡ Ok all
value_read m all ps h = gathered m all h.0 ps [] h.1 h.2

-- a text that is refused
pub refusal_read : (m : Mapping) (ps : List (ℕ × Piece)) (place : ℕ) (cause : TextCause) → Refuses m ps place cause
    → read m nothing 0 ps ≡ Err (place, cause)
refusal_read m ps place cause h = gathered m h.map h.items ps h.rest h.split h.gathered ∙ ⊎_elim
    (λ b. ap (read h.map nothing 0) b.split ∙ begun_run h.map 0 b.begun b.here b.more b.fitting b.begins ∙ stopped h.map b.begun (first_place b.here) b.more place cause b.stops)
    (λ b. ap (read h.map nothing 0) b.split ∙ item_run h.map 0 b.item b.here b.more b.is_item
    ∙ ap (λ c. judged c (λ c. Err (fault_place b.item b.here, c)) (read (with_item h.map b.item) nothing 0 b.more)) b.why ∙ ap (λ n. Err (n, cause)) (sym b.at))
    h.refused
