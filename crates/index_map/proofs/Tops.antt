-- A basis of a pair has no cycle above the number of factors: no cell has a higher dimension.
use Rattle.std.proofs.Common.{◌≡◌, ℕ, ◌<◌, ◌≤◌, refl, ap, ◌∙◌, arith, List, [], ◌∷◌, length, get_or, true}
use Rattle.std.specs.Prelude.{not}
use Rattle.std.specs.List.{Contains}
use Rattle.std.proofs.lemmas.Bool.{and_parts}
use Rattle.std.proofs.lemmas.List.{get_or-map}
use Rattle.elem_cubes.specs.Cells.{Factor, dimension_of}
use Rattle.elem_cubes.specs.Laws.{cell_at}
use Rattle.elem_cubes.proofs.Bits.{few_intervals}
use Rattle.elem_cubes.proofs.FaceLemmas.{face_length}
use Rattle.elem_cubes.proofs.Members.{from-In}
use Rattle.cube_sets.specs.Closures.{is_cell_of}
use Rattle.cell_complex.specs.RelativeComplex.{is_relative}
use Rattle.cell_complex.proofs.Numbering.{listed}
use Rattle.homology_basis.specs.Bases.{in_degree}
use Rattle.acyclic_values.proofs.Cells.{cell_in}
use Rattle.index_map.specs.Laws.{NoCyclesAbove}

-- the dimension of a relative cell is at most n
dimension_below : (n : ℕ) (x a : List (List Factor)) (s : List Factor) → ((q : List Factor) → Contains x q → length q ≤ n) → is_relative x a s ≡ true → dimension_of s ≤ n
dimension_below n x a s short on =
    let w = cell_in x s (and_parts (is_cell_of x s) (not (is_cell_of a s)) on).0 in
    omega (arith, few_intervals s, face_length w.0 s w.2, short w.0 (from-In x w.0 w.1))

empty_or : {X : Type 0} (xs : List X) → (0 < length xs → ⊥) → xs ≡ []
empty_or [] none = refl
empty_or (x ∷ xs) none = absurd (none (omega arith))

pub no_cycles_above : NoCyclesAbove
no_cycles_above p n k x a cells A r basis short above = empty_or (in_degree A.cycles k) (λ l.
    let i = basis.inclusions k in
    let at : i.at 0 < length cells = omega (arith, i.left.inside 0 l, r.complex.count) in
    let degree : get_or A.log.complex.degrees (i.at 0) 0 ≡ dimension_of (cell_at cells (i.at 0)) = ap (λ ds. get_or ds (i.at 0) 0) r.complex.degrees ∙ get_or-map dimension_of cells (i.at 0) [] 0 at in
    let few = dimension_below n x a (cell_at cells (i.at 0)) short (listed (is_relative x a) cells r.listing (i.at 0) at) in
    omega (arith, few, above, degree, i.left.of_degree 0 l))
