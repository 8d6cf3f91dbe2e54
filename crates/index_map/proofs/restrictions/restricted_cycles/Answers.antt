use Rattle.std.proofs.Common.{ℕ, sym, subst, arith, List}
use Rattle.field_mod.proofs.Table.{two_le}
use Rattle.homology_basis.specs.Bases.{in_degree}
use Rattle.chain_selector.specs.Renumbered.{IsRenumbered}
use Rattle.induced_map.specs.Within.{AreWithin}
use Rattle.induced_map.proofs.Each.{each_more}
use Rattle.induced_map.proofs.Restricting.{cycle_within}
use Rattle.index_map.proofs.restrictions.restricted_cycles.Goals as goal

pub renumbered-requires : goal.renumbered-requires
renumbered-requires g c = (
  (omega arith),
  (
    (omega arith),
    subst (λ (us : List (ℕ × ℕ)). AreWithin c.args.domain_cells.now us) (sym c.cycle-cycle.ensures)
        (cycle_within g.row.P c.args.degree c.loop-number.number c.args.domain.now c.args.domain_cells.now (omega (arith, two_le g.row.P c.args.field.listed)) c.dimension-number-end.ensures.basis c.requires (omega (arith, c.loop-number-test.true, c.dimension-number-end.ensures.dimension))),
  ),
)

pub loop-number-preserved : goal.loop-number-preserved
loop-number-preserved g c =
    each_more (IsRenumbered g.row.P c.args.domain_cells.now c.args.range_cells.now) (in_degree c.args.domain.now.cycles c.args.degree) c.loop-number.number c.loop-number.chains.items c.push.new.self.items
    c.cycle-cycle.result.now c.in_ok-renumbered.field-0 c.loop-number.invariant c.in_ok-push.ensures.items c.cycle-cycle.ensures c.in_ok-renumbered.ensures
