use Rattle.std.proofs.Common.{ℕ, refl, get_or}
use Rattle.homology_basis.specs.Bases.{in_degree}
use Rattle.index_map.proofs.Combining.{combined_more}
use Rattle.index_map.proofs.combinations.combined_cocycles.Goals as goal

pub loop-number-preserved : goal.loop-number-preserved
loop-number-preserved g c =
    combined_more g.row.P c.loop-number.number (get_or c.args.numbers.now c.loop-number.number 0) (λ (i : ℕ). get_or c.args.numbers.now i 0) (in_degree c.args.basis.now.cocycles c.args.degree) c.cocycle.result.now c.loop-number.sum c.add_scaled.new.self
    c.loop-number.invariant refl c.cocycle.ensures c.in_ok-add_scaled.ensures.sum
