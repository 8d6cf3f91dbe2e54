use Rattle.std.proofs.Common.{arith, ◌≡◌, ◌∙◌, ap, sym, subst, length, map}
use Rattle.witness_types.specs.Parts.{pair_tables}
use Rattle.witness_testing.specs.Claims.{AreSmall, AreMadeOf}
use Rattle.witness_testing.proofs.Claiming.{claimed}
use Rattle.witness_testing.proofs.claims.map_claim.Goals as goal

pub returns : goal.returns
returns g c =
    let dims = map length (pair_tables c.args.top c.args.part.now).cycles in
    let made = subst (λ ys. AreMadeOf c.args.others.rows.items ys (length ys) c.in_ok-matrices.matrices.items) (c.deref.ensures.value ∙ c.in_ok-domain.ensures) c.in_ok-matrices.ensures in
    claimed _ c.args.others.rows.items dims (map length (pair_tables c.args.top c.args.others.range).cycles) c.in_ok-domain.ensures c.in_ok-range.ensures c.requires.matrices.count c.requires.heights made

pub matrices_of-requires : goal.matrices_of-requires
matrices_of-requires g c =
    ((omega arith), ((omega arith), (subst (AreSmall c.args.others.rows.items) (sym (c.deref.ensures.value ∙ c.in_ok-domain.ensures)) c.requires.matrices)))
