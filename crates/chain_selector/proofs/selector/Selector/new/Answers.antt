use Rattle.std.proofs.Common.{◌∙◌, ap, length}
use Rattle.chain_selector.proofs.Keeping.{none_kept, empty_selection}
use Rattle.chain_selector.proofs.selector.Selector.new.Goals as goal

pub invariant_of-result : goal.invariant_of-result
invariant_of-result g c =
    empty_selection g.row.P (record { carrying = c.args.carrier; images = c.in_ok-images.images.items }) c.dimension-dimension.ensures.carrier
    (c.in_ok-images.ensures.count ∙ c.len.ensures.count ∙ ap length c.domain_cells.ensures) c.in_ok-images.ensures.none

pub returns-clause-none : goal.returns-clause-none
returns-clause-none g c = none_kept (record { carrying = c.args.carrier; images = c.in_ok-images.images.items }) c.in_ok-images.ensures.none
