use Rattle.std.proofs.Common.{◌∙◌, ap, arith}
use Rattle.std.specs.List.{list_all}
use Rattle.cube_sets.specs.Sets.{is_member}
use Rattle.excision.proofs.Sharing.{near_few, near_alike, near_is, near_relative}
use Rattle.excision.proofs.excising.excise.Goals as goal

pub of_cells-requires-clause-few : goal.of_cells-requires-clause-few
of_cells-requires-clause-few c = let h = near_few c.args.x.now c.args.a.now c.in_ok-near.near.items c.len.ensures.set c.in_ok-near.ensures in omega arith

pub of_cells-requires-clause-alike : goal.of_cells-requires-clause-alike
of_cells-requires-clause-alike c = ap (λ n. list_all (is_member n) c.in_ok-near.near.items) c.dimension.ensures.dimension ∙ near_alike c.args.x.now c.args.a.now c.in_ok-near.near.items c.len.ensures.set c.in_ok-near.ensures

pub returns-clause-excised : goal.returns-clause-excised
returns-clause-excised c = near_is c.args.x.now c.args.a.now c.in_ok-near.near.items c.len.ensures.set c.in_ok-near.ensures c.in_ok-near-2.near c.len-2.ensures.set (c.in_ok-near-2.ensures.dimension ∙ c.dimension.ensures.dimension) c.in_ok-near-2.ensures.members

pub returns-clause-relative : goal.returns-clause-relative
returns-clause-relative c = near_relative c.args.x.now c.args.a.now c.in_ok-near-2.near
    (near_is c.args.x.now c.args.a.now c.in_ok-near.near.items c.len.ensures.set c.in_ok-near.ensures c.in_ok-near-2.near c.len-2.ensures.set (c.in_ok-near-2.ensures.dimension ∙ c.dimension.ensures.dimension) c.in_ok-near-2.ensures.members)
