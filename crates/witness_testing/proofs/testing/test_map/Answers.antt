use Rattle.std.proofs.Common.{arith, ◌≡◌, ◌∙◌, ap, sym, subst, length, map}
use Rattle.field_mod.proofs.Table.{is_field}
use Rattle.witness_types.specs.Answers.{IsClaimWith}
use Rattle.witness_types.specs.Parts.{pair_tables}
use Rattle.witness_types.specs.Rows.{rows_of}
use Rattle.witness_testing.specs.Claims.{AreSmall, AreHigh}
use Rattle.witness_testing.proofs.Tested.{map_small, map_high, map_tested}
use Rattle.witness_testing.proofs.testing.test_map.Goals as goal

pub returns-clause-ok : goal.returns-clause-ok
returns-clause-ok g c =
    map_tested (is_field g.row.P c.args.field.listed) c.args.map.now c.args.x.now c.args.a.now c.args.y.now c.args.b.now c.args.domain.now c.args.part c.requires.parts c.in_ok-test_lines.ensures.ok c.in_ok-claim.claim
    (subst (λ n. IsClaimWith c.in_ok-claim.claim (map length (pair_tables n c.args.domain.now).cycles) (map length (pair_tables n c.args.part.range).cycles) (map rows_of c.args.part.rows.items)) c.map_dimension-top.ensures c.in_ok-claim.ensures)

pub map_claim-requires : goal.map_claim-requires
map_claim-requires g c =
    ((omega arith), ((omega arith), ((omega arith), (c.in_ok-test_lines.ensures.domain_few, (c.in_ok-test_lines.ensures.range_few, ((subst (λ n. AreSmall c.args.part.rows.items (map length (pair_tables n c.args.domain.now).cycles)) (sym c.map_dimension-top.ensures) (map_small (is_field g.row.P c.args.field.listed) c.args.map.now c.args.x.now c.args.a.now c.args.y.now c.args.b.now c.args.domain.now c.args.part c.requires.parts c.in_ok-test_lines.ensures.ok c.requires.few c.requires.range_few)), (subst (λ n. AreHigh c.args.part.rows.items (map length (pair_tables n c.args.part.range).cycles)) (sym c.map_dimension-top.ensures) (map_high (is_field g.row.P c.args.field.listed) c.args.map.now c.args.x.now c.args.a.now c.args.y.now c.args.b.now c.args.domain.now c.args.part c.requires.parts c.in_ok-test_lines.ensures.ok))))))))
