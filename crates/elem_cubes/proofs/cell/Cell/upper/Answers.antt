use Rattle.std.proofs.Common.{sym, subst, IsTrue, List, length, take, ◌-◌, pos}
use Rattle.std.specs.Prelude.{ℤ, int_lt}
use Rattle.std.specs.List.{list_all}
use Rattle.elem_cubes.specs.declared.range.TheConstants.{MAX_EMBEDDING}
use Rattle.elem_cubes.proofs.Keeping.{corner_kept}
use Rattle.elem_cubes.proofs.Words.{ends_of_corner}
use Rattle.elem_cubes.proofs.Making.{ends_below_max, upper_kept, upper_seen}
use Rattle.elem_cubes.proofs.cell.Cell.upper.Goals as goal

pub upper_ends-requires : goal.upper_ends-requires
upper_ends-requires c =
    let ls = take c.self.inside.len c.self.inside.ends in
    let P : List ℤ → Type 0 = λ es. IsTrue (list_all (λ e. int_lt e (pos 2147483647)) es) in
    subst P (sym c.self.invariant.rest) (ends_below_max ls (MAX_EMBEDDING - length ls) (ends_of_corner ls (corner_kept c.self.inside.ends c.self.inside.len c.self.inside.axes c.args.self.now c.self.invariant c.self.view_is).corner))

pub invariant_of-result : goal.invariant_of-result
invariant_of-result c = upper_kept c.self.inside.ends c.self.inside.len c.self.inside.axes c.args.self.now c.self.invariant c.self.view_is c.upper_ends.result c.upper_ends.ensures

pub returns : goal.returns
returns c = upper_seen c.self.inside.ends c.self.inside.len c.self.inside.axes c.args.self.now c.self.invariant c.self.view_is c.upper_ends.result c.upper_ends.ensures
