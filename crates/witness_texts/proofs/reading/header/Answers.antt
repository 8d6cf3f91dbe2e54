use Rattle.std.proofs.Common.{rules}
use Rattle.witness_types.specs.Headers.{IsHeaderFault}
use Rattle.witness_texts.proofs.Heading.{fault_modulus, fault_kind}
use Rattle.witness_texts.proofs.reading.header.Goals as goal

pub returns-in_err-modulus-clause-err : goal.returns-in_err-modulus-clause-err
returns-in_err-modulus-clause-err c =
    let f : IsHeaderFault c.args.bytes.now c.in_err-modulus.field-0.0 =
    fault_modulus c.args.bytes.now _ _ c.in_ok-behind_version.ensures.ok c.in_err-modulus.ensures.line c.in_err-modulus.ensures.err in
    search (rules, f)

pub returns-in_err-kind-clause-err : goal.returns-in_err-kind-clause-err
returns-in_err-kind-clause-err c =
    let f : IsHeaderFault c.args.bytes.now c.in_err-kind.field-0.0 =
    fault_kind c.args.bytes.now _ _ c.in_ok-modulus.modulus _ c.in_ok-behind_version.ensures.ok c.in_ok-modulus.ensures.ok.listed c.in_ok-modulus.ensures.ok.split
    c.in_err-kind.ensures.line c.in_err-kind.ensures.err in
    search (rules, f)
