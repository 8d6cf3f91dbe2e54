-- The whole text of a witness by its runs.
use Rattle.std.proofs.Common.{◌≡◌, ℕ, suc, ◌+◌, ◌≤◌, refl, sym, ap, ◌∙◌, arith, List, [], ◌∷◌, ◌++◌, length, map, append_assoc, eqb, Some, None}
use Rattle.std.proofs.lemmas.List.{append-nil, length-map}
use Rattle.std.specs.Prelude.{Option, Result, Ok, Err, IfOk, codes}
use Rattle.std.proofs.lemmas.Bool.{cond_both}
use Rattle.elem_cubes.specs.declared.range.TheConstants.{MAX_EMBEDDING}
use Rattle.witness_laws.specs.Lines.{domain, range, Line, end}
use Rattle.witness_laws.specs.Formats.{texts_of}
use Rattle.witness_laws.specs.Inputs.{Given}
use Rattle.witness_laws.specs.Tables.{Tables, PairTables, MapTables, IsTables, pair_lines, value_lines, matrix_lines, text_of_line, tables_format}
use Rattle.witness_laws.proofs.Runs.{length_singles}
use Rattle.map_checks.specs.Faults.{together}
use Rattle.elem_cubes.specs.Cells.{Factor}
use Rattle.cube_maps.specs.CubeMaps.{Naming}
use Rattle.homology_basis.specs.Bases.{in_degree}
use Rattle.leray_conley.specs.Tables.{Table}
use Rattle.witness_types.specs.declared.heading.ClaimKind.TheVariants as kinds
use Rattle.witness_types.specs.Headers.{version_line, modulus_line, kind_line}
use Rattle.witness_types.specs.Inputs.{first_known}
use Rattle.witness_types.specs.Rows.{rows_of}
use Rattle.witness_types.specs.Texts.{text_by}
use Rattle.witness_types.specs.declared.part.PairPart.{PairPart}
use Rattle.witness_types.specs.declared.part.MapPart.{MapPart}
use Rattle.witness_types.specs.Parts.{beside, pair_tables, tables_of, map_part, degrees_of, IsInOrder}
use Rattle.witness_writing.specs.Runs.{section_text, values_text, matrices_text, first_text, pair_text, map_text, IsOfValues}
use Rattle.witness_writing.proofs.Pairs.{flat, flat_append, section_is}
use Rattle.witness_writing.proofs.Filling.{values_are}
use Rattle.witness_writing.proofs.Tables.{matrices_are}

-- the lines of the header stand in front
pub headed : (v m k rest : List ℕ) → (v ++ m) ++ (k ++ rest) ≡ (v ++ (m ++ (k ++ []))) ++ rest
headed v m k rest =
    append_assoc v m (k ++ rest)
    ∙ sym (append_assoc v (m ++ (k ++ [])) rest ∙ ap (λ l. v ++ l) (append_assoc m (k ++ []) rest ∙ ap (λ l. m ++ (l ++ rest)) (append-nil k)))

regrouped : (a c d b k m e : List ℕ) → (a ++ (((c ++ d) ++ b) ++ (k ++ m))) ++ e ≡ ((a ++ c) ++ d) ++ (((b ++ k) ++ m) ++ e)
regrouped a c d b k m e =
    let left : (((c ++ d) ++ b) ++ (k ++ m)) ++ e ≡ c ++ (d ++ (b ++ (k ++ (m ++ e)))) =
    append_assoc ((c ++ d) ++ b) (k ++ m) e ∙ ap (λ l. ((c ++ d) ++ b) ++ l) (append_assoc k m e) ∙ append_assoc (c ++ d) b (k ++ (m ++ e))
    ∙ append_assoc c d (b ++ (k ++ (m ++ e))) in
    let right : ((b ++ k) ++ m) ++ e ≡ b ++ (k ++ (m ++ e)) = append_assoc (b ++ k) m e ∙ append_assoc b k (m ++ e) in
    append_assoc a (((c ++ d) ++ b) ++ (k ++ m)) e ∙ ap (λ l. a ++ l) left
    ∙ sym (append_assoc (a ++ c) d (((b ++ k) ++ m) ++ e) ∙ ap (λ l. (a ++ c) ++ (d ++ l)) right ∙ append_assoc a c (d ++ (b ++ (k ++ (m ++ e)))))

-- the lines of a pair
pub pair_is : {p : ℕ} (G : Given) (part : PairPart p) → IsInOrder G.top part
    → flat (texts_of (tables_format p G) (tables_of G part None)) ≡ (codes "pair domain\n" ++ section_text G.x G.a part) ++ codes "end\n"
pair_is {p} G part order =
    let W : Tables = tables_of G part None in
    let h : Line → List ℕ = text_of_line G W in
    let ps : List Line = pair_lines domain (pair_tables G.top part) in
    flat_append h (ps ++ []) (end ∷ []) ∙ ap (λ (ls : List Line). flat (map h ls) ++ codes "end\n") (append-nil ps)
    ∙ ap (λ l. l ++ codes "end\n") (section_is domain G.x G.a G.top part order h (λ k i. refl) (λ k i. refl) (λ i. refl))

-- another name of what is answered
pub whole_given : {A E : Type 0} (r : Result A E) (bytes : A → List ℕ) (first second : List ℕ) → first ≡ second → IfOk r (λ b. bytes b ≡ first) → IfOk r (λ b. bytes b ≡ second)
whole_given (Ok b) bytes first second e h = h ∙ e
whole_given (Err f) bytes first second e h = tt

-- the whole text for a pair
pub pair_whole : {p : ℕ} (top : ℕ) (x a : List (List Factor)) (part : PairPart p) (m : Option MapTables) → IsInOrder top part
    → IsTables p (record { top = top; x = x; a = a; target = None }) (tables_of (record { top = top; x = x; a = a; target = None }) part m)
    → first_text p ++ pair_text x a part
    ≡ text_by (tables_format p (record { top = top; x = x; a = a; target = None })) (record { version = 1; modulus = p; kind = kinds.Pair }) (tables_of (record { top = top; x = x; a = a; target = None }) part m)
pair_whole {p} top x a part None order fits =
    headed (version_line 1) (modulus_line p) (kind_line kinds.Pair) ((codes "pair domain\n" ++ section_text x a part) ++ codes "end\n")
    ∙ ap (λ l. (version_line 1 ++ (modulus_line p ++ (kind_line kinds.Pair ++ []))) ++ l) (sym (pair_is (record { top = top; x = x; a = a; target = None }) part order))
pair_whole top x a part (Some M) order fits = absurd fits.map

-- ---- dimensions are few

one_known : (n d : ℕ) (ds : List ℕ) → d ≤ n → first_known ds ≤ n → first_known (d ∷ ds) ≤ n
one_known n d ds l k = cond_both (eqb d 0) (first_known ds) d (λ (m : ℕ). m ≤ n) (λ _. k) (λ _. l)

pub few_known : (a b c d e : ℕ) → a ≤ MAX_EMBEDDING → b ≤ MAX_EMBEDDING → c ≤ MAX_EMBEDDING → d ≤ MAX_EMBEDDING → e ≤ MAX_EMBEDDING → first_known (a ∷ b ∷ c ∷ d ∷ e ∷ []) ≤ 200
few_known a b c d e l m n o p =
    one_known 200 a (b ∷ c ∷ d ∷ e ∷ []) (omega arith) (one_known 200 b (c ∷ d ∷ e ∷ []) (omega arith) (one_known 200 c (d ∷ e ∷ []) (omega arith)
    (one_known 200 d (e ∷ []) (omega arith) (one_known 200 e [] (omega arith) (omega arith)))))

-- those of a map
module _ {p : ℕ} (top : ℕ) (f : List Naming) (x a y b : List (List Factor)) (part : PairPart p) (more : MapPart p) where
  abbrev pub G : Given
  G = record { top = top; x = x; a = a; target = Some (record { map = f; y = y; b = b }) }

  abbrev pub W : Tables
  W = tables_of G part (Some (map_part G more))

  abbrev S : PairTables
  S = pair_tables top part

  abbrev M : MapTables
  M = map_part G more

  abbrev ts : List Table
  ts = more.matrices.items

  module _ (order : IsInOrder top part) (range_order : IsInOrder top more.range) (fits : IsTables p G W) where
    matrices_text_is : flat (map (text_of_line G W) (matrix_lines S M)) ≡ codes "matrix\n" ++ matrices_text ts
    matrices_text_is =
        let n : length S.cycles ≡ suc top = length_singles (suc top) (λ k. beside k (degrees_of part.cycles.items) (map (λ z. z.1) part.cycles.items)) in
        let d : length (map rows_of ts) ≡ top + 1 = fits.map.matrices.degrees in
        let l : length (map rows_of ts) ≡ length ts = length-map ts rows_of in
        matrices_are ts p top (λ k. length (in_degree M.range.cycles k)) (λ k. length (in_degree S.cycles k)) fits.map.matrices (text_of_line G W) (λ k r. refl)
        (length S.cycles) (omega (arith, n, d, l))

    pub map_is : flat (texts_of (tables_format p G) W)
        ≡ (((codes "pair domain\n" ++ section_text x a part) ++ codes "pair range\n") ++ section_text y b more.range)
        ++ ((((codes "values\n" ++ values_text f (together x a) (together y b) more) ++ codes "matrix\n") ++ matrices_text ts) ++ codes "end\n")
    map_is =
        let h : Line → List ℕ = text_of_line G W in
        let ps : List Line = pair_lines domain S in
        let qs : List Line = pair_lines range M.range in
        let vs : List Line = value_lines M in
        let xs : List Line = matrix_lines S M in
        let first : List ℕ = codes "pair domain\n" ++ section_text x a part in
        let third : List ℕ = codes "values\n" ++ values_text f (together x a) (together y b) more in
        let p1 : flat (map h ps) ≡ first = section_is domain x a top part order h (λ k i. refl) (λ k i. refl) (λ i. refl) in
        let p2 : flat (map h qs) ≡ codes "pair range\n" ++ section_text y b more.range = section_is range y b top more.range range_order h (λ k i. refl) (λ k i. refl) (λ i. refl) in
        let p3 : flat (map h vs) ≡ third = values_are f (together x a) (together y b) more M h fits.map.images refl (λ i. refl) (λ i m. refl) (λ i. refl) in
        flat_append h (ps ++ ((qs ++ vs) ++ xs)) (end ∷ []) ∙ ap (λ l. l ++ codes "end\n") (flat_append h ps ((qs ++ vs) ++ xs))
        ∙ ap (λ l. (l ++ flat (map h ((qs ++ vs) ++ xs))) ++ codes "end\n") p1
        ∙ ap (λ l. (first ++ l) ++ codes "end\n") (flat_append h (qs ++ vs) xs ∙ ap (λ l. l ++ flat (map h xs)) (flat_append h qs vs
        ∙ ap (λ l. l ++ flat (map h vs)) p2 ∙ ap (λ l. (codes "pair range\n" ++ section_text y b more.range) ++ l) p3)
        ∙ ap (λ l. ((codes "pair range\n" ++ section_text y b more.range) ++ third) ++ l) matrices_text_is)
        ∙ regrouped first (codes "pair range\n") (section_text y b more.range) third (codes "matrix\n") (matrices_text ts) (codes "end\n")

    pub map_whole : first_text p ++ map_text f x a y b part more ≡ text_by (tables_format p G) (record { version = 1; modulus = p; kind = kinds.Map }) W
    map_whole =
        headed (version_line 1) (modulus_line p) (kind_line kinds.Map)
        ((((codes "pair domain\n" ++ section_text x a part) ++ codes "pair range\n") ++ section_text y b more.range)
        ++ ((((codes "values\n" ++ values_text f (together x a) (together y b) more) ++ codes "matrix\n") ++ matrices_text ts) ++ codes "end\n"))
        ∙ ap (λ l. (version_line 1 ++ (modulus_line p ++ (kind_line kinds.Map ++ []))) ++ l) (sym map_is)

  -- what the parts of a text need
  pub of_values : IsTables p G W → IsOfValues f (together x a) (together y b) more
  of_values fits = record {
    vertices = fits.map.vertices;
    values = sym (length-map more.contractions.items (λ v. v.items)) ∙ fits.map.values;
    images = fits.map.images;
    fillings = λ i l. fits.map.fillings i (let e = fits.map.values in omega (arith, e, l));
  }

  pub few_matrices : IsTables p G W → top ≤ 200 → length more.matrices.items ≤ 255
  few_matrices fits l =
      let d : length (map rows_of ts) ≡ top + 1 = fits.map.matrices.degrees in
      let e : length (map rows_of ts) ≡ length ts = length-map ts rows_of in
      omega (arith, d, e, l)
