use Rattle.std.proofs.Common.{◌≡◌, ⊎_elim, ℕ, arith, rules, subst, get_or}
use Rattle.std.specs.Prelude.{pos, ◌+ℤ◌}
use Rattle.std.proofs.lemmas.Bool.{cases_lt}
use Rattle.map_checks.proofs.moves.are_ends_moved.Goals as goal

pub loop-i-preserved : goal.loop-i-preserved
loop-i-preserved c k l =
    let here : get_or c.args.from.now c.loop-i.i (pos 0) +ℤ get_or c.args.by.now c.loop-i.i (pos 0) ≡ get_or c.args.to.now c.loop-i.i (pos 0) = search rules in
    ⊎_elim
    (λ less. c.loop-i.invariant k less)
    (λ ge. let same : c.loop-i.i ≡ k = omega arith in subst (λ (i : ℕ). get_or c.args.from.now i (pos 0) +ℤ get_or c.args.by.now i (pos 0) ≡ get_or c.args.to.now i (pos 0)) same here)
    (cases_lt k c.loop-i.i)
