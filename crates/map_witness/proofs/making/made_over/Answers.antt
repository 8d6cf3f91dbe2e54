use Rattle.std.proofs.Common.{inr, arith}
use Rattle.std.proofs.lemmas.Result.{err_from_is_err_and}
use Rattle.map_witness.proofs.Limiting.{limits_refused}
use Rattle.map_witness.proofs.making.made_over.Goals as goal

pub bases_of-requires : goal.bases_of-requires
bases_of-requires g c = ((omega arith), ((omega arith), (c.requires, c.in_ok-carrier.ensures.within.small)))

pub made_with-requires : goal.made_with-requires
made_with-requires g c = (
  (omega arith),
  ((omega arith), ((omega arith), (c.requires, (c.in_ok-carrier.ensures.within, (c.in_ok-carrier.ensures.carrier, c.in_ok-bases.ensures.bases))))),
)

pub returns-in_err-carrier : goal.returns-in_err-carrier
returns-in_err-carrier g c =
    let p = err_from_is_err_and c.from_residual.result c.from_residual.ensures.1 in
    rw (p.1, p.2) (limits_refused g.row.P c.args.wanted c.args.input.now c.in_err-carrier.field-0.0 c.in_err-carrier.ensures.fault)

pub returns-in_err-bases : goal.returns-in_err-bases
returns-in_err-bases g c =
    let p = err_from_is_err_and c.from_residual-in_err-bases.result c.from_residual-in_err-bases.ensures.1 in
    rw (p.1, p.2) (inr c.in_err-bases.ensures.fault)
