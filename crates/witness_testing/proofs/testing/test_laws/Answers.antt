use Rattle.std.proofs.Common.{arith, ◌≡◌, ◌∙◌, ap, sym, subst}
use Rattle.std.proofs.lemmas.Result.{IfOk-weaker, IfErr-weaker}
use Rattle.witness_laws.specs.Tables.{tables_format}
use Rattle.witness_types.specs.Inputs.{given_of, IsWitnessInput, IsWithinTables}
use Rattle.read_parts.specs.Values.{parts_value}
use Rattle.witness_testing.specs.Given.{pair_given, map_given, pair_parts, map_parts}
use Rattle.witness_testing.specs.Testing.{IsTested, IsTestFault}
use Rattle.witness_testing.proofs.Cases.{pair_alone, pair_testable, pair_tested_back, pair_fault_back, map_there, map_testable, map_tested_back, map_fault_back}
use Rattle.witness_testing.proofs.testing.test_laws.Goals as goal

pub returns-in-Pair-clause-ok : goal.returns-in-Pair-clause-ok
returns-in-Pair-clause-ok g c =
    let G = given_of c.args.input.now in
    let x = c.in-Pair.x.now in
    let a = c.in-Pair.a.now in
    let e = ap given_of c.in-Pair.is in
    let f = pair_alone G c.args.parts x a e c.requires.parts in
    IfOk-weaker c.test_pair.result (IsTested (pair_given x a) (parts_value (pair_given x a) (pair_parts c.args.parts.domain))) (IsTested G (parts_value G c.args.parts)) (λ claim h. pair_tested_back G c.args.parts x a e f claim h) c.test_pair.ensures.ok

pub returns-in-Pair-clause-err : goal.returns-in-Pair-clause-err
returns-in-Pair-clause-err g c =
    let P = g.row.P in
    let G = given_of c.args.input.now in
    let x = c.in-Pair.x.now in
    let a = c.in-Pair.a.now in
    let e = ap given_of c.in-Pair.is in
    let f = pair_alone G c.args.parts x a e c.requires.parts in
    IfErr-weaker c.test_pair.result (IsTestFault (tables_format P (pair_given x a)) (parts_value (pair_given x a) (pair_parts c.args.parts.domain))) (IsTestFault (tables_format P G) (parts_value G c.args.parts)) (λ fault h. pair_fault_back G c.args.parts x a e f fault h) c.test_pair.ensures.err

pub test_pair-requires : goal.test_pair-requires
test_pair-requires g c =
    ((omega arith), ((omega arith), ((omega arith), ((subst IsWitnessInput c.in-Pair.is c.requires.input), (((subst (λ z. IsWithinTables (given_of z)) c.in-Pair.is c.requires.limits).domain), (let G = given_of c.args.input.now in let e = ap given_of c.in-Pair.is in pair_testable G c.args.parts c.in-Pair.x.now c.in-Pair.a.now e (pair_alone G c.args.parts c.in-Pair.x.now c.in-Pair.a.now e c.requires.parts) c.requires.parts))))))

pub test_map-requires : goal.test_map-requires
test_map-requires g c =
    ((omega arith), ((omega arith), ((omega arith), ((omega arith), (((subst IsWitnessInput c.in-Map.is c.requires.input).0.x_a), (((subst IsWitnessInput c.in-Map.is c.requires.input).0.y_b), (((subst IsWitnessInput c.in-Map.is c.requires.input).1), (((subst (λ z. IsWithinTables (given_of z)) c.in-Map.is c.requires.limits).domain), (((subst (λ z. IsWithinTables (given_of z)) c.in-Map.is c.requires.limits).range), (map_testable (given_of c.args.input.now) c.args.parts c.in-Map.cubes.now c.in-Map.x.now c.in-Map.a.now c.in-Map.y.now c.in-Map.b.now (ap given_of c.in-Map.is) c.in-Some.part c.in-Some.is c.requires.parts))))))))))
