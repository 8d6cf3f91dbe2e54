use Rattle.std.proofs.Common.{◌∙◌, ◌<◌, ℕ, sym, ap, subst, arith, List, length}
use Rattle.elem_cubes.specs.Cells.{Factor}
use Rattle.elem_cubes.specs.Laws.{cell_at}
use Rattle.chain_selector.proofs.Settling.{extends_itself, extends_on}
use Rattle.chain_selector.proofs.Reading.{still_inside, number_cell, kept_more}
use Rattle.chain_selector.specs.Selections.{domain_cells}
use Rattle.chain_selector.proofs.selector.Selector.settle_chain.Goals as goal

pub loop-place-init : goal.loop-place-init
loop-place-init g c = record { extends = extends_itself c.args.self.now; selection = c.dimension-dimension.ensures.selection; kept = λ k l. absurd (omega arith) }

pub cell-cell-requires : goal.cell-cell-requires
cell-cell-requires g c =
    let l : c.term-number.result.0 < length (domain_cells c.args.self.now) = subst (λ (t : ℕ × ℕ). t.0 < length (domain_cells c.args.self.now)) (sym c.term-number.ensures.value) (c.requires c.loop-place.place (omega (arith, c.loop-place-test.true, c.len-place-end.ensures.count))) in
    subst (λ (cells : List (List Factor)). c.term-number.result.0 < length cells) (sym c.domain_cells.ensures) (still_inside c.args.self.now c.loop-place.self c.term-number.result.0 c.loop-place.invariant.extends l)

pub settle-requires : goal.settle-requires
settle-requires g c =
    let l : c.term-number.result.0 < length (domain_cells c.args.self.now) = subst (λ (t : ℕ × ℕ). t.0 < length (domain_cells c.args.self.now)) (sym c.term-number.ensures.value) (c.requires c.loop-place.place (omega (arith, c.loop-place-test.true, c.len-place-end.ensures.count))) in
    ((omega arith), ((omega arith), number_cell c.loop-place.self c.term-number.result.0 c.cell-cell.result (still_inside c.args.self.now c.loop-place.self c.term-number.result.0 c.loop-place.invariant.extends l) (c.cell-cell.ensures ∙ ap (λ (cells : List (List Factor)). cell_at cells c.term-number.result.0) c.domain_cells.ensures)))

pub loop-place-preserved : goal.loop-place-preserved
loop-place-preserved g c = record {
  extends = extends_on c.args.self.now c.loop-place.self c.settle.new.self c.loop-place.invariant.extends c.settle.ensures.extends;
  selection = c.settle.ensures.selection;
  kept = kept_more c.loop-place.self c.settle.new.self c.args.chain.now c.loop-place.place c.cell-cell.result c.settle.ensures.extends c.loop-place.invariant.kept
      (c.cell-cell.ensures ∙ ap (λ (cells : List (List Factor)). cell_at cells c.term-number.result.0) c.domain_cells.ensures ∙ ap (λ (t : ℕ × ℕ). cell_at (domain_cells c.loop-place.self) t.0) c.term-number.ensures.value) c.in_ok-settle.ensures.kept;
}

pub returns-clause-kept : goal.returns-clause-kept
returns-clause-kept g c = λ k l. c.loop-place.invariant.kept k (omega (arith, c.loop-place-test.false, c.len-place-end.ensures.count))
