-- What is written for a pair is accepted.
use Rattle.std.proofs.Common.{◌≡◌, ℕ, ◌≤◌, refl, sym, ap, ◌∙◌, arith, ⊎_elim, List, [], ◌∷◌, ◌++◌, length, take, drop, true, cond, eqb, eqb-true, ne_eqb, append_assoc, subst}
use Rattle.std.proofs.lemmas.Bool.{true≢false, and_parts, cases_eq}
use Rattle.std.proofs.lemmas.List.{append-nil}
use Rattle.std.proofs.lemmas.List.Elements.{All-from_recursion, All-map}
use Rattle.std.specs.Prelude.{codes, not}
use Rattle.std.specs.List.{All, AllByRecursion, list_all, flat_map}
use Rattle.field_mod.specs.Moduli.{IsModulus}
use Rattle.field_mod.proofs.Sums.{total-zero}
use Rattle.elem_cubes.specs.Cells.{Factor, is_file_factor}
use Rattle.elem_cubes.proofs.Bits.{few_intervals}
use Rattle.elem_cubes.proofs.Members.{In-from}
use Rattle.cube_sets.specs.Sets.{Members, IsCubeSet, is_member}
use Rattle.cube_sets.specs.Closures.{cells_of, is_cell_of}
use Rattle.cube_sets.proofs.Covering.{cells_alike}
use Rattle.cell_complex.specs.Numbering.{IsRelativeComplex}
use Rattle.cell_complex.specs.Sorted.{IsSortedCells}
use Rattle.acyclic_values.proofs.Cells.{all_In, cells_listing}
use Rattle.homology_basis.specs.Bases.{BasisOfLog, IsBasisWithContraction}
use Rattle.witness_laws.specs.Lines.{numeral, lines_of, IsOneLine}
use Rattle.witness_laws.specs.Formats.{texts_of}
use Rattle.witness_laws.specs.Inputs.{all_cells}
use Rattle.witness_laws.specs.Sections.{IsSection}
use Rattle.witness_laws.specs.Tables.{PairTables, tables_format, text_of_line, lines_of_tables}
use Rattle.witness_laws.proofs.Texts.{texts_have_their_lines, feed_append, feed_numeral}
use Rattle.witness_types.specs.declared.heading.ClaimKind.TheVariants as kinds
use Rattle.witness_types.specs.Headers.{version_line, modulus_line, kind_line, IsHeader, body_of}
use Rattle.witness_types.specs.Inputs.{first_known, IsWithinTables}
use Rattle.witness_types.specs.Texts.{text_by}
use Rattle.witness_writing.proofs.Counting.{kept_are}
use Rattle.witness_parts.specs.Tables.{section_by, AreTablesOf, HasAtMost}
use Rattle.witness_parts.specs.Witnesses.{pair_given, pair_value, top_of, IsPairWitness}
use Rattle.witness_parts.proofs.Based.{based_section, based_cochains}
use Rattle.witness_parts.proofs.Meeting.{IsPairAccepted, pair_accepted}

-- ---- the dimension of relative cells

cell_member : (x : Members) → IsCubeSet x → (q : List Factor) → is_cell_of x.cells q ≡ true → length q ≡ x.dimension
cell_member x h q e =
    let m = all_In (is_member x.dimension) (cells_of x.cells) (cells_alike x.dimension x.cells h.alike) q (In-from (cells_of x.cells) q (((cells_listing x.cells).members q).0 e)) in
    eqb-true (length q) x.dimension (and_parts (eqb (length q) x.dimension) (list_all is_file_factor q) m).0

none_of_none : (q : List Factor) → is_cell_of [] q ≡ true → ⊥
none_of_none q e = true≢false (sym e)

top_is : (x a : Members) → (x.dimension ≡ 0 → ⊥) → top_of x a ≡ x.dimension
top_is x a n = ap (λ b. cond b (first_known (a.dimension ∷ [])) x.dimension) (ne_eqb x.dimension 0 n)

pub at_most : (x a : Members) → IsCubeSet x → HasAtMost (top_of x a) x.cells a.cells
at_most x a h q e =
    let c : is_cell_of x.cells q ≡ true = (and_parts (is_cell_of x.cells q) (not (is_cell_of a.cells q)) e).0 in
    let few = few_intervals q in
    let l = cell_member x h q c in
    ⊎_elim
    (λ z. absurd (none_of_none q (subst (λ (cells : List (List Factor)). is_cell_of cells q ≡ true) (h.unknown z) c)))
    (λ n. let t = top_is x a n in omega (arith, few, l, t))
    (cases_eq x.dimension 0)

-- ---- the lines of the text

all_of : {A : Type 0} (P : A → Type 0) → ((y : A) → P y) → (ys : List A) → All P ys
all_of {A} P h ys = All-from_recursion P ys (go ys)
  where
    go : (zs : List A) → AllByRecursion P zs
    go [] = tt
    go (z ∷ zs) = (h z, go zs)

module _ (p top : ℕ) (x a : List (List Factor)) (T : PairTables) where
  abbrev texts : List (List ℕ)
  texts = texts_of (tables_format p (pair_given top x a)) (pair_value T)

  abbrev body : List ℕ
  body = flat_map (λ t. t) texts

  body_lines : lines_of body ≡ texts
  body_lines = texts_have_their_lines.lines texts (All-map IsOneLine (text_of_line (pair_given top x a) (pair_value T)) (lines_of_tables (pair_value T))
      (all_of (λ l. IsOneLine (text_of_line (pair_given top x a) (pair_value T) l)) (texts_have_their_lines.tables (pair_given top x a) (pair_value T)) (lines_of_tables (pair_value T))))

  version_is : IsOneLine (version_line 1)
  version_is = record { before = codes "chomp witness " ++ numeral 1; none = refl; ends = refl }

  modulus_is : IsOneLine (modulus_line p)
  modulus_is = record { before = codes "mod " ++ numeral p; none = feed_append (codes "mod ") (numeral p) refl (feed_numeral p); ends = refl }

  kind_is : IsOneLine (kind_line kinds.Pair)
  kind_is = record { before = codes "claim pair"; none = refl; ends = refl }

  abbrev whole : List ℕ
  whole = text_by (tables_format p (pair_given top x a)) (record { version = 1; modulus = p; kind = kinds.Pair }) (pair_value T)

  split : whole ≡ version_line 1 ++ (modulus_line p ++ (kind_line kinds.Pair ++ body))
  split =
      append_assoc (version_line 1) (modulus_line p ++ (kind_line kinds.Pair ++ [])) body
      ∙ ap (λ l. version_line 1 ++ l) (append_assoc (modulus_line p) (kind_line kinds.Pair ++ []) body ∙ ap (λ l. modulus_line p ++ (l ++ body)) (append-nil (kind_line kinds.Pair)))

  whole_lines : lines_of whole ≡ version_line 1 ∷ modulus_line p ∷ kind_line kinds.Pair ∷ texts
  whole_lines =
      ap lines_of split ∙ texts_have_their_lines.first (version_line 1) (modulus_line p ++ (kind_line kinds.Pair ++ body)) version_is
      ∙ ap (λ ls. version_line 1 ∷ ls) (texts_have_their_lines.first (modulus_line p) (kind_line kinds.Pair ++ body) modulus_is
      ∙ ap (λ ls. modulus_line p ∷ ls) (texts_have_their_lines.first (kind_line kinds.Pair) body kind_is ∙ ap (λ ls. kind_line kinds.Pair ∷ ls) body_lines))

  pub whole_header : IsModulus p → IsHeader whole (record { version = 1; modulus = p; kind = kinds.Pair })
  whole_header known = record { lines = ap (take 3) whole_lines; version = refl; modulus = known }

  pub whole_body : body_of whole ≡ texts
  whole_body = ap (drop 3) whole_lines

-- ---- a pair within its limits

pub pair_within : (top : ℕ) (x a : List (List Factor)) → length (all_cells x a) ≤ 4096 → IsWithinTables (pair_given top x a)
pair_within top x a l = record {
  domain = l;
  range = omega arith;
  carrier = let z = total-zero (length (all_cells x a)) in omega (arith, z);
}

-- ---- the whole

module _ (p : ℕ) (x a : Members) (cells : List (List Factor)) (b : BasisOfLog) (one : 1 ≤ p) (h : IsCubeSet x) (sorted : IsSortedCells cells)
    (R : IsRelativeComplex p x.cells a.cells cells b.log.complex) (w : IsBasisWithContraction p b) (T : PairTables) (made : AreTablesOf p (top_of x a) x.cells a.cells (section_by p cells b) T) where
  pub accepted : IsPairAccepted p (top_of x a) x.cells a.cells T
  accepted = pair_accepted p (top_of x a) x.cells a.cells (section_by p cells b) T
      (subst (λ (l : List (List Factor)). IsSection p x.cells a.cells l (section_by p cells b)) (kept_are x.cells a.cells cells R.listing sorted) (based_section p x.cells a.cells cells b one R w))
      (based_cochains p x.cells a.cells cells b one R w) (at_most x a h) made

  pub is_witness : IsModulus p → (bytes : List ℕ) → bytes ≡ text_by (tables_format p (pair_given (top_of x a) x.cells a.cells)) (record { version = 1; modulus = p; kind = kinds.Pair }) (pair_value T)
      → IsPairWitness p x a cells b bytes
  is_witness known bytes e = record {
    tables = T;
    header = subst (λ (t : List ℕ). IsHeader t (record { version = 1; modulus = p; kind = kinds.Pair })) (sym e) (whole_header p (top_of x a) x.cells a.cells T known);
    accepted = record {
      has = record { fits = accepted.fits; lines = sym (ap body_of e ∙ whole_body p (top_of x a) x.cells a.cells T) };
      meets = accepted.meets;
    };
    made = made;
  }
