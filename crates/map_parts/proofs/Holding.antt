-- What is written for a map is accepted.
use Rattle.std.proofs.Common.{◌≡◌, ◌≢◌, ◌⊎◌, ℕ, ◌<◌, ◌≤◌, refl, sym, ap, ◌∙◌, arith, inl, inr, ⊎_elim, List, [], ◌∷◌, ◌++◌, length, max}
use Rattle.std.proofs.Common.{take, drop, true, cond, eqb, eqb-true, eq-eqb, ne_eqb, append_assoc, subst}
use Rattle.std.proofs.lemmas.Bool.{or_cases, cases_eq, cond_both}
use Rattle.std.proofs.lemmas.List.{append-nil}
use Rattle.std.proofs.lemmas.List.Elements.{All-from_recursion, All-map}
use Rattle.std.specs.Prelude.{codes, ◌||◌}
use Rattle.std.specs.List.{All, AllByRecursion, flat_map}
use Rattle.field_mod.specs.Moduli.{IsModulus}
use Rattle.elem_cubes.specs.Cells.{Factor}
use Rattle.cube_sets.specs.Sets.{Members, IsCubeSet, dimensions_agree}
use Rattle.cube_maps.specs.CubeMaps.{Naming, Mapping}
use Rattle.cell_complex.specs.Numbering.{IsRelativeComplex}
use Rattle.cell_complex.specs.Sorted.{IsSortedCells}
use Rattle.homology_basis.specs.Bases.{BasisOfLog, IsBasisWithContraction}
use Rattle.leray_conley.specs.Tables.{Table, IsTable}
use Rattle.map_checks.specs.Carriers.{AreOfOneDimension}
use Rattle.map_checks.specs.Faults.{HasNoSetFault}
use Rattle.witness_laws.specs.Lines.{numeral, lines_of, IsOneLine}
use Rattle.witness_laws.specs.Formats.{texts_of}
use Rattle.witness_laws.specs.Inputs.{Given, relative_cells}
use Rattle.witness_laws.specs.Sections.{Section, IsSection}
use Rattle.witness_laws.specs.Tables.{Tables, tables_format, text_of_line, lines_of_tables}
use Rattle.witness_laws.proofs.Texts.{texts_have_their_lines, feed_append, feed_numeral}
use Rattle.witness_types.specs.declared.heading.ClaimKind.TheVariants as kinds
use Rattle.witness_types.specs.Headers.{version_line, modulus_line, kind_line, IsHeader, body_of}
use Rattle.witness_types.specs.declared.part.PairPart.{PairPart}
use Rattle.witness_types.specs.declared.part.MapPart.{MapPart}
use Rattle.witness_types.specs.Inputs.{first_known}
use Rattle.witness_types.specs.Parts.{pair_tables, map_tables}
use Rattle.witness_writing.specs.Runs.{table_at}
use Rattle.witness_writing.proofs.Counting.{kept_are}
use Rattle.witness_parts.specs.Tables.{section_by, HasAtMost, IsPartOf}
use Rattle.witness_parts.specs.Witnesses.{top_of}
use Rattle.witness_parts.proofs.Based.{based_section, based_cochains}
use Rattle.witness_parts.proofs.Holding.{at_most}
use Rattle.map_parts.specs.Maps.{given_map, value_of_parts, map_text, top_of_map, AreMapTablesOf, IsMapPartOf, AreInducedTables, IsDomainPart, IsMapWitness}
use Rattle.map_parts.proofs.Meeting.{IsMapAccepted, map_accepted}

-- ---- dimensions

first_is : (d : ℕ) (ds : List ℕ) → ((d ≡ 0) × (first_known (d ∷ ds) ≡ first_known ds)) ⊎ ((d ≢ 0) × (first_known (d ∷ ds) ≡ d))
first_is d ds = ⊎_elim
    (λ e. inl (e, ap (λ v. cond v (first_known ds) d) (eq-eqb d 0 e)))
    (λ n. inr (n, ap (λ v. cond v (first_known ds) d) (ne_eqb d 0 n)))
    (cases_eq d 0)

agreed : (m d : ℕ) → dimensions_agree m d ≡ true → m ≢ 0 → d ≤ m
agreed m d e n = ⊎_elim
    (λ h. ⊎_elim
    (λ k. let s = eqb-true m d k in omega (arith, s))
    (λ k. absurd (n (eqb-true m 0 k)))
    (or_cases (eqb m d) (eqb m 0) h))
    (λ h. let s = eqb-true d 0 h in omega (arith, s))
    (or_cases (eqb m d || eqb m 0) (eqb d 0) e)

two_known : (n d e : ℕ) → d ≤ n → e ≤ n → first_known (d ∷ e ∷ []) ≤ n
two_known n d e l k =
    cond_both (eqb d 0) (first_known (e ∷ [])) d (λ (m : ℕ). m ≤ n) (λ _. cond_both (eqb e 0) 0 e (λ (m : ℕ). m ≤ n) (λ _. omega arith) (λ _. k)) (λ _. l)

module _ (f : Mapping) (x a y b : Members) (one : AreOfOneDimension f x a y b) where
  abbrev t : ℕ
  t = top_of_map f x a y b

  abbrev m : ℕ
  m = f.dimension

  below_x : top_of x a ≤ t
  below_x = ⊎_elim
      (λ u. ⊎_elim
      (λ v. ⊎_elim
      (λ w. let e : top_of x a ≡ 0 = ap (λ (d : ℕ). first_known (d ∷ a.dimension ∷ [])) v.0 ∙ ap (λ (d : ℕ). first_known (d ∷ [])) w.0 in omega (arith, e))
      (λ w. let e : top_of x a ≡ a.dimension = ap (λ (d : ℕ). first_known (d ∷ a.dimension ∷ [])) v.0 ∙ ap (λ q. cond q 0 a.dimension) (ne_eqb a.dimension 0 w.0) in omega (arith, e, u.1, v.1, w.1))
      (first_is a.dimension (y.dimension ∷ b.dimension ∷ [])))
      (λ v. let e : top_of x a ≡ x.dimension = ap (λ q. cond q (first_known (a.dimension ∷ [])) x.dimension) (ne_eqb x.dimension 0 v.0) in omega (arith, e, u.1, v.1))
      (first_is x.dimension (a.dimension ∷ y.dimension ∷ b.dimension ∷ [])))
      (λ u. let l = two_known m x.dimension a.dimension (agreed m x.dimension one.map_x u.0) (agreed m a.dimension one.map_a u.0) in omega (arith, l, u.1))
      (first_is m (x.dimension ∷ a.dimension ∷ y.dimension ∷ b.dimension ∷ []))

  below_y : top_of y b ≤ t
  below_y = ⊎_elim
      (λ u. ⊎_elim
      (λ v. ⊎_elim
      (λ w. omega (arith, u.1, v.1, w.1))
      (λ w. let l = two_known a.dimension y.dimension b.dimension (agreed a.dimension y.dimension one.a_y w.0) (agreed a.dimension b.dimension one.a_b w.0) in omega (arith, l, u.1, v.1, w.1))
      (first_is a.dimension (y.dimension ∷ b.dimension ∷ [])))
      (λ v. let l = two_known x.dimension y.dimension b.dimension (agreed x.dimension y.dimension one.x_y v.0) (agreed x.dimension b.dimension one.x_b v.0) in omega (arith, l, u.1, v.1))
      (first_is x.dimension (a.dimension ∷ y.dimension ∷ b.dimension ∷ [])))
      (λ u. let l = two_known m y.dimension b.dimension (agreed m y.dimension one.map_y u.0) (agreed m b.dimension one.map_b u.0) in omega (arith, l, u.1))
      (first_is m (x.dimension ∷ a.dimension ∷ y.dimension ∷ b.dimension ∷ []))

  -- the first known dimension is the greatest
  pub top_is_greatest : t ≡ max m (max (max x.dimension a.dimension) (max y.dimension b.dimension))
  top_is_greatest = ⊎_elim
      (λ u. ⊎_elim
      (λ v. ⊎_elim
      (λ w. ⊎_elim
      (λ r. ⊎_elim
      (λ s. omega (arith, u.0, u.1, v.0, v.1, w.0, w.1, r.0, r.1, s.0, s.1))
      (λ s. omega (arith, u.0, u.1, v.0, v.1, w.0, w.1, r.0, r.1, s.1))
      (first_is b.dimension []))
      (λ r. let l = agreed y.dimension b.dimension one.y_b r.0 in omega (arith, u.0, u.1, v.0, v.1, w.0, w.1, r.1, l))
      (first_is y.dimension (b.dimension ∷ [])))
      (λ w. let l = agreed a.dimension y.dimension one.a_y w.0 in let k = agreed a.dimension b.dimension one.a_b w.0 in omega (arith, u.0, u.1, v.0, v.1, w.1, l, k))
      (first_is a.dimension (y.dimension ∷ b.dimension ∷ [])))
      (λ v.
      let j = agreed x.dimension a.dimension one.x_a v.0 in
      let l = agreed x.dimension y.dimension one.x_y v.0 in
      let k = agreed x.dimension b.dimension one.x_b v.0 in
      omega (arith, u.0, u.1, v.1, j, l, k))
      (first_is x.dimension (a.dimension ∷ y.dimension ∷ b.dimension ∷ [])))
      (λ u.
      let i = agreed m x.dimension one.map_x u.0 in
      let j = agreed m a.dimension one.map_a u.0 in
      let l = agreed m y.dimension one.map_y u.0 in
      let k = agreed m b.dimension one.map_b u.0 in
      omega (arith, u.1, i, j, l, k))
      (first_is m (x.dimension ∷ a.dimension ∷ y.dimension ∷ b.dimension ∷ []))

  pub most_x : IsCubeSet x → HasAtMost t x.cells a.cells
  most_x h q e = let l = at_most x a h q e in omega (arith, l, below_x)

  pub most_y : IsCubeSet y → HasAtMost t y.cells b.cells
  most_y h q e = let l = at_most y b h q e in omega (arith, l, below_y)

-- ---- the lines of the text

all_of : {A : Type 0} (P : A → Type 0) → ((y : A) → P y) → (ys : List A) → All P ys
all_of {A} P h ys = All-from_recursion P ys (go ys)
  where
    go : (zs : List A) → AllByRecursion P zs
    go [] = tt
    go (z ∷ zs) = (h z, go zs)

module _ (p : ℕ) (G : Given) (W : Tables) where
  abbrev texts : List (List ℕ)
  texts = texts_of (tables_format p G) W

  abbrev body : List ℕ
  body = flat_map (λ t. t) texts

  body_lines : lines_of body ≡ texts
  body_lines = texts_have_their_lines.lines texts (All-map IsOneLine (text_of_line G W) (lines_of_tables W)
      (all_of (λ l. IsOneLine (text_of_line G W l)) (texts_have_their_lines.tables G W) (lines_of_tables W)))

  version_is : IsOneLine (version_line 1)
  version_is = record { before = codes "chomp witness " ++ numeral 1; none = refl; ends = refl }

  modulus_is : IsOneLine (modulus_line p)
  modulus_is = record { before = codes "mod " ++ numeral p; none = feed_append (codes "mod ") (numeral p) refl (feed_numeral p); ends = refl }

  kind_is : IsOneLine (kind_line kinds.Map)
  kind_is = record { before = codes "claim map"; none = refl; ends = refl }

  abbrev whole : List ℕ
  whole = map_text p G W

  split : whole ≡ version_line 1 ++ (modulus_line p ++ (kind_line kinds.Map ++ body))
  split =
      append_assoc (version_line 1) (modulus_line p ++ (kind_line kinds.Map ++ [])) body
      ∙ ap (λ l. version_line 1 ++ l) (append_assoc (modulus_line p) (kind_line kinds.Map ++ []) body ∙ ap (λ l. modulus_line p ++ (l ++ body)) (append-nil (kind_line kinds.Map)))

  whole_lines : lines_of whole ≡ version_line 1 ∷ modulus_line p ∷ kind_line kinds.Map ∷ texts
  whole_lines =
      ap lines_of split ∙ texts_have_their_lines.first (version_line 1) (modulus_line p ++ (kind_line kinds.Map ++ body)) version_is
      ∙ ap (λ ls. version_line 1 ∷ ls) (texts_have_their_lines.first (modulus_line p) (kind_line kinds.Map ++ body) modulus_is
      ∙ ap (λ ls. modulus_line p ∷ ls) (texts_have_their_lines.first (kind_line kinds.Map) body kind_is ∙ ap (λ ls. kind_line kinds.Map ∷ ls) body_lines))

  pub whole_header : IsModulus p → IsHeader whole (record { version = 1; modulus = p; kind = kinds.Map })
  whole_header known = record { lines = ap (take 3) whole_lines; version = refl; modulus = known }

  pub whole_body : body_of whole ≡ texts
  whole_body = ap (drop 3) whole_lines

-- ---- the whole

-- a basis of a pair gives a section
section_is : (p : ℕ) (x a cells : List (List Factor)) (A : BasisOfLog) → 1 ≤ p → IsSortedCells cells → IsRelativeComplex p x a cells A.log.complex
    → IsBasisWithContraction p A → IsSection p x a (relative_cells x a) (section_by p cells A)
section_is p x a cells A one sorted R w =
    subst (λ (l : List (List Factor)). IsSection p x a l (section_by p cells A)) (kept_are x a cells R.listing sorted) (based_section p x a cells A one R w)

-- the part of a domain that is made of a basis
pub based_domain : (p top : ℕ) (f : List Naming) (x a y b cells : List (List Factor)) (A : BasisOfLog) (Y : Section) (ms : List Table) (part : PairPart p)
    → 1 ≤ p → IsSortedCells cells → IsRelativeComplex p x a cells A.log.complex
    → IsBasisWithContraction p A → IsPartOf top x a (section_by p cells A) part → AreInducedTables p top f x a y b (section_by p cells A) Y ms → IsDomainPart p top f x a y b Y ms part
based_domain p top f x a y b cells A Y ms part one sorted R w is ind = record {
  X = section_by p cells A;
  is_section = section_is p x a cells A one sorted R w;
  cochains = based_cochains p x a cells A one R w;
  part_of = is;
  matrices = ind;
}

module _ (p : ℕ) (f : Mapping) (x a y b : Members) (cells : List (List Factor)) (B : BasisOfLog) (ms : List Table) (one : 1 ≤ p)
    (alike : AreOfOneDimension f x a y b) (nf : HasNoSetFault f.named x.cells a.cells y.cells b.cells) (sx : IsCubeSet x) (sy : IsCubeSet y) (sorted : IsSortedCells cells)
    (R : IsRelativeComplex p y.cells b.cells cells B.log.complex) (w : IsBasisWithContraction p B) (small : (k : ℕ) → k < length ms → IsTable p (table_at ms k))
    (top : ℕ) (e : top ≡ top_of_map f x a y b) (part : PairPart p) (more : MapPart p)
    (d : IsDomainPart p (top_of_map f x a y b) f.named x.cells a.cells y.cells b.cells (section_by p cells B) ms part)
    (is_more : IsMapPartOf p top f.named x.cells a.cells y.cells b.cells (section_by p cells B) ms more) where
  abbrev last : ℕ
  last = top_of_map f x a y b

  abbrev Y : Section
  Y = section_by p cells B

  more_tables : AreMapTablesOf p last f.named x.cells a.cells y.cells b.cells Y ms (map_tables last more)
  more_tables = (subst (λ (n : ℕ). IsMapPartOf p n f.named x.cells a.cells y.cells b.cells Y ms more) e is_more).tables

  pub parts_accepted : IsMapAccepted p (given_map f x a y b) (value_of_parts last part more)
  parts_accepted = map_accepted p last f.named x.cells a.cells y.cells b.cells d.X Y ms (pair_tables last part) (map_tables last more) nf
      d.is_section (section_is p y.cells b.cells cells B one sorted R w) d.cochains (based_cochains p y.cells b.cells cells B one R w)
      (most_x f x a y b alike sx) (most_y f x a y b alike sy) d.part_of.tables more_tables d.matrices small

  pub parts_written : IsModulus p → (bytes : List ℕ) → bytes ≡ map_text p (given_map f x a y b) (value_of_parts last part more) → IsMapWitness p f x a y b part cells B ms bytes
  parts_written known bytes same = record {
    more = map_tables last more;
    header = subst (λ (l : List ℕ). IsHeader l (record { version = 1; modulus = p; kind = kinds.Map })) (sym same) (whole_header p (given_map f x a y b) (value_of_parts last part more) known);
    accepted = record {
      has = record { fits = parts_accepted.fits; lines = sym (ap body_of same ∙ whole_body p (given_map f x a y b) (value_of_parts last part more)) };
      meets = parts_accepted.meets;
    };
    made = more_tables;
  }
