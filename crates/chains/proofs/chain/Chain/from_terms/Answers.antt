use Rattle.std.proofs.Common.{◌∙◌, ◌^◌, sym, ap, arith, mod-eq_of_lt, List, ℕ}
use Rattle.field_mod.proofs.Table.{two_le}
use Rattle.chains.specs.Terms.{coefficient, IsNormal}
use Rattle.chains.proofs.TermLists.{coefficient-lt}
use Rattle.chains.proofs.chain.Chain.from_terms.Goals as goal

pub returns-then-are_normal-clause-sum : goal.returns-then-are_normal-clause-sum
returns-then-are_normal-clause-sum g c h =
    let two = two_le g.row.P c.args.field.listed in
    let normal : IsNormal g.row.P c.args.terms.now = c.are_normal.ensures c.if-are_normal.true in
    let less = coefficient-lt g.row.P 0 (2 ^ 32) c.args.terms.now h (omega (arith, two)) normal in
    ap (λ (ts : List (ℕ × ℕ)). coefficient ts h) c.in_ok-packed.ensures.kept ∙ sym (mod-eq_of_lt less)
