use Rattle.elem_cubes.specs.Order.{cell_cmp}
use Rattle.elem_cubes.specs.OrderLemmas.{cell_cmp_total}
use Rattle.cube_sets.proofs.SetLemmas.{has-intersection}
use Rattle.cube_sets.proofs.SetLemmas.{intersection_is_set}
use Rattle.cube_sets.proofs.cube_set.CubeSet.intersection.Goals as goal

pub invariant_of-result : goal.invariant_of-result
invariant_of-result c =
    let agree = rw (← c.self.view_is, ← c.other.view_is) at c.requires.agree in
    rw (c.max.ensures, c.in_ok-cells.ensures, c.deref.ensures.value, c.deref-2.ensures.value) (intersection_is_set _ _ c.self.invariant c.other.invariant agree)

pub returns-clause-members : goal.returns-clause-members
returns-clause-members c = λ d.
    rw (c.in_ok-cells.ensures, c.deref.ensures.value, c.deref-2.ensures.value, ← c.self.view_is, ← c.other.view_is) (has-intersection cell_cmp cell_cmp_total _ _ d)
