use Rattle.std.proofs.Common.{arith, ◌≡◌, ◌∙◌, ap, sym, subst, length, map}
use Rattle.std.proofs.lemmas.Result.{err_from_is_err_and}
use Rattle.cube_sets.specs.Closures.{cells_of}
use Rattle.witness_laws.specs.Inputs.{all_cells}
use Rattle.witness_types.specs.Parts.{pair_tables}
use Rattle.witness_sections.specs.Readings.{IsReadable}
use Rattle.witness_testing.specs.Sides.{SidePassed, IsSideFault}
use Rattle.witness_testing.proofs.Whole.{pair_readable, pair_all, pair_fault}
use Rattle.witness_testing.proofs.Tested.{pair_tested}
use Rattle.witness_testing.proofs.testing.test_pair.Goals as goal

pub returns-in_err-test_side-clause-err : goal.returns-in_err-test_side-clause-err
returns-in_err-test_side-clause-err g c =
    let p = err_from_is_err_and c.from_residual-in_err-test_side.result c.from_residual-in_err-test_side.ensures.1 in
    rw (p.1, p.2) (pair_fault c.args.x.now c.args.a.now c.args.part.now c.requires.part c.in_err-test_side.field-0.0
    (subst (λ n. IsSideFault g.row.P c.args.x.now.cells c.args.a.now.cells (pair_tables n c.args.part.now) 4 c.in_err-test_side.field-0.0) c.pair_dimension-top.ensures c.in_err-test_side.ensures.err))

pub returns-clause-ok : goal.returns-clause-ok
returns-clause-ok g c =
    let part = c.args.part.now in
    let e = c.pair_dimension-top.ensures in
    let all = pair_all c.args.x.now c.args.a.now part c.requires.part c.in_ok-test_side.field-0 (subst (λ n. SidePassed g.row.P c.args.x.now.cells c.args.a.now.cells (pair_tables n part) 4 c.in_ok-test_side.field-0) e c.in_ok-test_side.ensures.ok) in
    pair_tested c.args.x.now c.args.a.now part c.in_ok-claim.claim c.requires.part all (c.in_ok-claim.ensures.domain ∙ ap (λ n. map length (pair_tables n part).cycles) e) c.in_ok-claim.ensures.range c.in_ok-claim.ensures.matrices

pub test_side-requires : goal.test_side-requires
test_side-requires g c =
    ((omega arith), ((omega arith), ((c.in_ok-cells.ensures ∙ ap cells_of c.in_ok-set.ensures), (c.in_ok-relative.ensures.cells, (c.in_ok-relative.ensures.pair, ((λ few. let part = c.args.part.now in let cells_are = c.in_ok-cells.ensures ∙ ap cells_of c.in_ok-set.ensures in subst (λ n. IsReadable n (length c.in_ok-relative.relative) part) (sym (ap length cells_are)) (subst (λ n. IsReadable (length (all_cells c.args.x.now.cells c.args.a.now.cells)) n part) (sym (ap length c.in_ok-relative.ensures.cells)) (pair_readable c.args.x.now c.args.a.now part c.requires.part few))), (omega arith)))))))
