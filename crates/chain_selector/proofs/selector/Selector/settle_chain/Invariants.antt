use Rattle.std.proofs.Common.{◌≡◌, ℕ, ◌<◌, get_or, true}
use Rattle.elem_cubes.specs.Laws.{cell_at}
use Rattle.chain_selector.specs.Selections.{Extends, IsSelection, domain_cells, is_kept}
use Rattle.chain_selector.proofs.selector.Selector.settle_chain.Given as goal

abbrev pub invariant-loop-place : goal.invariant-loop-place
invariant-loop-place g l = record {
  extends : Extends l.fn.self l.self;
  selection : IsSelection g.row.P l.self;
  kept : (k : ℕ) → k < l.place → is_kept l.self (cell_at (domain_cells l.self) (get_or l.chain k (0, 0)).0) ≡ true;
}
