use Rattle.std.proofs.Common.{◌≡◌, ◌≤◌, ◌<◌, length, subst, IfOk, OnOk, Err}
use Rattle.cube_sets.specs.Sets.{Members}
use Rattle.cube_sets.specs.Changes.{spread_set}
use Rattle.cube_sets.specs.Closures.{closure}
use Rattle.cube_sets.specs.declared.change.Change.TheVariants.{LowerEnd, UpperEnd}
use Rattle.cube_sets.specs.declared.fault.SetFault.TheVariants.{TooMany}
use Rattle.cube_sets.proofs.Covering.{spread_to_ends, ends_alike}
use Rattle.cube_sets.proofs.cube_set.CubeSet.closure_within.Goals as goal

pub spread_within-requires : goal.spread_within-requires
spread_within-requires c = rw (← c.self.view_is) (ends_alike _ c.self.invariant)

pub returns-clause-cells : goal.returns-clause-cells
returns-clause-cells c =
    let e : spread_set LowerEnd UpperEnd c.args.self.now ≡ closure c.args.self.now = rw (← c.self.view_is) (spread_to_ends _ c.self.invariant) in
    let P : Members → Type 0 = λ m. IfOk c.spread_within.result (λ s. s ≡ m) in
    subst P e c.spread_within.ensures.cells

pub returns-clause-few : goal.returns-clause-few
returns-clause-few c =
    let e : spread_set LowerEnd UpperEnd c.args.self.now ≡ closure c.args.self.now = rw (← c.self.view_is) (spread_to_ends _ c.self.invariant) in
    let P : Members → Type 0 = λ m. OnOk c.spread_within.result (length m.cells ≤ c.args.limit) in
    subst P e c.spread_within.ensures.few

pub returns-clause-many : goal.returns-clause-many
returns-clause-many c =
    let e : spread_set LowerEnd UpperEnd c.args.self.now ≡ closure c.args.self.now = rw (← c.self.view_is) (spread_to_ends _ c.self.invariant) in
    let P : Members → Type 0 = λ m. c.spread_within.result ≡ Err TooMany → c.args.limit < length m.cells in
    subst P e c.spread_within.ensures.many
