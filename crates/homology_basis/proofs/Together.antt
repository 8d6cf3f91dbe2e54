-- The parts of a prepared pair together
use Rattle.std.proofs.Common.{◌≡◌, refl, sym, ap, ◌∙◌, ℕ, List, [], ◌++◌, Bool, true, false, ◌||◌, subst}
use Rattle.std.specs.Prelude.{not}
use Rattle.std.specs.Cmp as cmp
use Rattle.std.proofs.lemmas.Bool.{and_parts, and_from, not-true, or_from, true≢false}
use Rattle.std.proofs.lemmas.List.Folds.{list_any-append}
use Rattle.elem_cubes.specs.Cells.{Factor}
use Rattle.elem_cubes.specs.Faces.{is_face}
use Rattle.elem_cubes.specs.Order.{cell_cmp}
use Rattle.cube_sets.specs.Sets.{Members}
use Rattle.cube_sets.specs.Sorted.{has}
use Rattle.cube_sets.specs.Closures.{is_cell_of}
use Rattle.algebraic_reduction.specs.Reduction.{Step}
use Rattle.cell_complex.specs.RelativeComplex.{is_relative}
use Rattle.cell_complex.specs.Sorted.{IsSortedCells}
use Rattle.cell_complex.specs.Numbering.{IsListing}
use Rattle.cell_complex.proofs.Numbering.{listed, found}
use Rattle.cell_complex.specs.Growth.{IsFinishedGrowth}
use Rattle.excision.specs.Taking.{TakeFaces}
use Rattle.excision.specs.Excision.{excised}
use Rattle.excision.proofs.Touching.{excision_keeps}
use Rattle.cell_complex.specs.FreePairs.{CollapsesTo, HasNoFreePair}
use Rattle.excision.specs.Left.{is_left}
use Rattle.excision.proofs.Leaving.{left_parts, left_from}
use Rattle.face_reduction.specs.Logs.{IsGrowthThenCollapse, IsCollapse}
use Rattle.face_reduction.proofs.Pairing.{go_on, free_alike, without_alike, none_behind}

pub whole_listing : (x a near : Members) (cells : List (List Factor)) → near ≡ excised x a → IsListing (is_relative x.cells near.cells) cells → IsListing (is_relative x.cells a.cells) cells
whole_listing x a near cells e l = subst (λ (t : List Factor → Bool). IsListing t cells) (λ i q. test q i) l
  where
    test : (q : List Factor) → is_relative x.cells near.cells q ≡ is_relative x.cells a.cells q
    test q = ap (λ (m : Members). is_relative x.cells m.cells q) e ∙ excision_keeps.cells x.cells a.cells q

pub whole_growth : (p : ℕ) (x a near : Members) (cubes : List (List Factor)) → near ≡ excised x a → IsFinishedGrowth p x.cells near.cells cubes → IsFinishedGrowth p x.cells a.cells cubes
whole_growth p x a near cubes e g = excision_keeps.growths p x.cells a.cells cubes (subst (λ (m : Members). IsFinishedGrowth p x.cells m.cells cubes) e g)

pub growth_then : (cells cubes : List (List Factor)) (ss : List Step) → IsSortedCells cells → TakeFaces cells cubes ss → IsGrowthThenCollapse cells ss
growth_then cells cubes ss sorted t = record { cubes = cubes; first = ss; later = []; steps = sym (none_behind cells sorted ss); growth = t; collapse = tt }

-- the cells that the growth leaves are those that its log leaves
pub grown_left : (x a cells cubes : List (List Factor)) (ss : List Step) → IsSortedCells cells → IsListing (is_relative x a) cells → TakeFaces cells cubes ss → (c : List Factor) → is_left cells ss c ≡ is_relative x (a ++ cubes) c
grown_left x a cells cubes ss sorted l t c = cmp.both_ways (is_left cells ss c) (is_relative x (a ++ cubes) c)
    (λ e.
    let w = left_parts cells sorted ss c e in
    let r = and_parts (is_cell_of x c) (not (is_cell_of a c)) (ap (is_relative x a) (sym w.2) ∙ listed (is_relative x a) cells l w.0 w.1) in
    let out : is_cell_of (a ++ cubes) c ≡ false = list_any-append (λ s. is_face s c) a cubes ∙ or_from (is_cell_of a c) (is_cell_of cubes c) (not-true (is_cell_of a c) r.1) (ap (is_cell_of cubes) (sym w.2) ∙ (t w.0 w.1).0 w.3) in
    and_from (is_cell_of x c) (not (is_cell_of (a ++ cubes) c)) r.0 (ap not out))
    (λ e.
    let r = and_parts (is_cell_of x c) (not (is_cell_of (a ++ cubes) c)) e in
    let o = neither (is_cell_of a c) (is_cell_of cubes c) (sym (list_any-append (λ s. is_face s c) a cubes) ∙ not-true (is_cell_of (a ++ cubes) c) r.1) in
    let i = found (is_relative x a) cells l c (and_from (is_cell_of x c) (not (is_cell_of a c)) r.0 (ap not o.0)) in
    ap (is_left cells ss) (sym i.2) ∙ left_from cells sorted ss i.0 i.1 ((t i.0 i.1).1 (ap (is_cell_of cubes) i.2 ∙ o.1)))
  where
    neither : (u v : Bool) → (u || v) ≡ false → (u ≡ false) × (v ≡ false)
    neither true v e = absurd (true≢false e)
    neither false v e = (refl, e)

pub left_collapses : (x a cells cubes left : List (List Factor)) (grown collapsed : List Step) → IsSortedCells cells → IsListing (is_relative x a) cells → TakeFaces cells cubes grown → IsCollapse cells grown collapsed
    → ((c : List Factor) → has cell_cmp left c ≡ is_left cells collapsed c) → CollapsesTo (is_relative x (a ++ cubes)) (has cell_cmp left)
left_collapses x a cells cubes left grown collapsed sorted l t c h =
    let d = (go_on cells grown collapsed sorted c).0 in
    let same = grown_left x a cells cubes grown sorted l t in
    record {
      pairs = d.pairs;
      free = free_alike (is_left cells grown) (is_relative x (a ++ cubes)) d.pairs same d.free;
      left = λ q. h q ∙ d.left q ∙ without_alike (is_left cells grown) (is_relative x (a ++ cubes)) d.pairs q same;
    }

pub left_none : (cells left : List (List Factor)) (ss : List Step) → ((c : List Factor) → has cell_cmp left c ≡ is_left cells ss c) → HasNoFreePair (is_left cells ss) → HasNoFreePair (has cell_cmp left)
left_none cells left ss h none = subst HasNoFreePair (λ i c. sym (h c) i) none
