use Rattle.std.proofs.lemmas.Result.{err_from_is_err_and}
use Rattle.map_witness.proofs.Limiting.{cells_refused, values_refused, size_refused}
use Rattle.map_witness.proofs.making.carrier_within.Goals as goal

pub returns-in_err-test_pairs-clause-fault : goal.returns-in_err-test_pairs-clause-fault
returns-in_err-test_pairs-clause-fault g c =
    let p = err_from_is_err_and c.from_residual.result c.from_residual.ensures.1 in
    rw (p.1, p.2) (cells_refused g.row.P c.args.input.now c.in_err-test_pairs.field-0.0 c.in_err-test_pairs.ensures.fault)

pub returns-in_err-carrier-clause-fault : goal.returns-in_err-carrier-clause-fault
returns-in_err-carrier-clause-fault g c =
    let p = err_from_is_err_and c.from_residual-in_err-carrier.result c.from_residual-in_err-carrier.ensures.1 in
    rw (p.1, p.2) (values_refused g.row.P c.args.input.now c.in_err-carrier.field-0.0 c.in_ok-test_pairs.ensures.few c.in_err-carrier.ensures.fault)

pub returns-in_err-test_size-clause-fault : goal.returns-in_err-test_size-clause-fault
returns-in_err-test_size-clause-fault g c =
    let p = err_from_is_err_and c.from_residual-in_err-test_size.result c.from_residual-in_err-test_size.ensures.1 in
    rw (p.1, p.2) (size_refused g.row.P c.args.input.now c.in_err-test_size.field-0.0 c.in_ok-test_pairs.ensures.few c.in_ok-carrier.ensures.allowed c.in_err-test_size.ensures.fault)

pub returns-clause-within : goal.returns-clause-within
returns-clause-within g c = record { small = c.in_ok-test_pairs.ensures.few; allowed = c.in_ok-carrier.ensures.allowed; size = c.in_ok-test_size.ensures.size }
