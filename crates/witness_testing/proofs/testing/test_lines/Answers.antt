use Rattle.std.proofs.Common.{◌≡◌, ◌+◌, ◌∙◌, ap, sym, subst, length, arith}
use Rattle.std.proofs.lemmas.Result.{err_from_is_err_and}
use Rattle.cube_sets.specs.Closures.{cells_of}
use Rattle.map_checks.specs.Faults.{together}
use Rattle.witness_laws.specs.Inputs.{all_cells}
use Rattle.witness_types.specs.Parts.{pair_tables}
use Rattle.witness_sections.specs.Readings.{AreRead, AreNamed, IsReadable}
use Rattle.witness_testing.specs.Given.{map_given, map_value}
use Rattle.witness_testing.specs.Sides.{SidePassed, IsSideFault, IsRowWitness, RowLinesPassed, IsRowLineFault, all_rows}
use Rattle.witness_testing.proofs.Values.{whole_pair, images_named, sides_are, has_witness, value_lines_few, row_witness}
use Rattle.witness_testing.proofs.Whole.{domain_readable, range_readable, domain_fault, range_fault, values_fault, matrices_fault, map_all}
use Rattle.witness_testing.proofs.testing.test_lines.Goals as goal

pub read_chains-requires : goal.read_chains-requires
read_chains-requires g c =
    let P = g.row.P in
    let mp = c.args.map.now in
    let x = c.args.x.now in
    let a = c.args.a.now in
    let y = c.args.y.now in
    let b = c.args.b.now in
    let part = c.args.domain.now in
    let m = c.args.part.now in
    let t = c.requires.parts in
    let nf = c.requires.faultless in
    let others_are = c.in_ok-others.ensures ∙ ap cells_of c.in_ok-range_set.ensures in
    ((omega arith), ((omega arith), subst (λ n. AreNamed n c.deref.result.now) (sym (ap length others_are)) (subst (AreNamed (length (all_cells y.cells b.cells))) (sym c.deref.ensures.value) (images_named mp x a y b part m nf t))))

pub returns-in_err-second-clause-err : goal.returns-in_err-second-clause-err
returns-in_err-second-clause-err g c =
    let P = g.row.P in
    let mp = c.args.map.now in
    let x = c.args.x.now in
    let a = c.args.a.now in
    let y = c.args.y.now in
    let b = c.args.b.now in
    let part = c.args.domain.now in
    let m = c.args.part.now in
    let t = c.requires.parts in
    let nf = c.requires.faultless in
    let p = err_from_is_err_and c.from_residual-in_err-second.result c.from_residual-in_err-second.ensures.1 in
    rw (p.1, p.2) (domain_fault mp x a y b part m t c.in_err-second.field-0.0 (subst (λ n. IsSideFault P x.cells a.cells (pair_tables n part) 4 c.in_err-second.field-0.0) c.requires.top c.in_err-second.ensures.err))

pub returns-in_err-third-clause-err : goal.returns-in_err-third-clause-err
returns-in_err-third-clause-err g c =
    let P = g.row.P in
    let mp = c.args.map.now in
    let x = c.args.x.now in
    let a = c.args.a.now in
    let y = c.args.y.now in
    let b = c.args.b.now in
    let part = c.args.domain.now in
    let m = c.args.part.now in
    let t = c.requires.parts in
    let nf = c.requires.faultless in
    let one = subst (λ n. SidePassed P x.cells a.cells (pair_tables n part) 4 c.in_ok-second.second) c.requires.top c.in_ok-second.ensures.ok in
    let p = err_from_is_err_and c.from_residual-in_err-third.result c.from_residual-in_err-third.ensures.1 in
    rw (p.1, p.2) (range_fault mp x a y b part m t c.in_ok-second.second one c.in_err-third.field-0.0 (subst (λ n. IsSideFault P y.cells b.cells (pair_tables n m.range) c.in_ok-second.second c.in_err-third.field-0.0) c.requires.top c.in_err-third.ensures.err))

pub returns-in_err-fourth-clause-err : goal.returns-in_err-fourth-clause-err
returns-in_err-fourth-clause-err g c =
    let P = g.row.P in
    let mp = c.args.map.now in
    let x = c.args.x.now in
    let a = c.args.a.now in
    let y = c.args.y.now in
    let b = c.args.b.now in
    let part = c.args.domain.now in
    let m = c.args.part.now in
    let t = c.requires.parts in
    let nf = c.requires.faultless in
    let cells_are = c.in_ok-cells.ensures ∙ ap cells_of c.in_ok-domain_set.ensures in
    let others_are = c.in_ok-others.ensures ∙ ap cells_of c.in_ok-range_set.ensures in
    let one = subst (λ n. SidePassed P x.cells a.cells (pair_tables n part) 4 c.in_ok-second.second) c.requires.top c.in_ok-second.ensures.ok in
    let two = subst (λ n. SidePassed P y.cells b.cells (pair_tables n m.range) c.in_ok-second.second c.in_ok-third.third) c.requires.top c.in_ok-third.ensures.ok in
    let are = sides_are mp x a y b part m nf t c.in_ok-sides.sides c.in_ok-domain_set.domain_set.cells c.in_ok-cells.cells c.in_ok-others.others c.deref-2.result.now c.in_ok-sides.ensures c.deref-2.ensures.value c.in_ok-domain_set.ensures cells_are others_are in
    let p = err_from_is_err_and c.from_residual-in_err-fourth.result c.from_residual-in_err-fourth.ensures.1 in
    rw (p.1, p.2) (values_fault mp x a y b part m t c.in_ok-second.second one c.in_ok-third.third two c.in_err-fourth.field-0.0 (c.in_err-fourth.ensures.err (map_given mp x a y b) (map_value (map_given mp x a y b).top part m) are))

pub returns-in_err-test_matrices-clause-err : goal.returns-in_err-test_matrices-clause-err
returns-in_err-test_matrices-clause-err g c =
    let P = g.row.P in
    let mp = c.args.map.now in
    let x = c.args.x.now in
    let a = c.args.a.now in
    let y = c.args.y.now in
    let b = c.args.b.now in
    let part = c.args.domain.now in
    let m = c.args.part.now in
    let t = c.requires.parts in
    let nf = c.requires.faultless in
    let cells_are = c.in_ok-cells.ensures ∙ ap cells_of c.in_ok-domain_set.ensures in
    let others_are = c.in_ok-others.ensures ∙ ap cells_of c.in_ok-range_set.ensures in
    let one = subst (λ n. SidePassed P x.cells a.cells (pair_tables n part) 4 c.in_ok-second.second) c.requires.top c.in_ok-second.ensures.ok in
    let two = subst (λ n. SidePassed P y.cells b.cells (pair_tables n m.range) c.in_ok-second.second c.in_ok-third.third) c.requires.top c.in_ok-third.ensures.ok in
    let are = sides_are mp x a y b part m nf t c.in_ok-sides.sides c.in_ok-domain_set.domain_set.cells c.in_ok-cells.cells c.in_ok-others.others c.deref-2.result.now c.in_ok-sides.ensures c.deref-2.ensures.value c.in_ok-domain_set.ensures cells_are others_are in
    let three = c.in_ok-fourth.ensures.ok (map_given mp x a y b) (map_value (map_given mp x a y b).top part m) are in
    let read = subst (λ ys. AreRead P c.in_ok-others.others c.in_ok-target.target c.deref.result.now ys) (sym c.deref-3.ensures.value) c.in_ok-images.ensures in
    let row = row_witness mp x a y b part m nf t c.in_ok-sides.sides c.in_ok-domain_set.domain_set.cells c.in_ok-cells.cells c.in_ok-others.others c.deref-2.result.now c.in_ok-sides.ensures c.deref-2.ensures.value c.in_ok-domain_set.ensures cells_are others_are c.in_ok-others.others c.in_ok-target.target c.deref.result.now c.deref-3.result.now others_are c.in_ok-target.ensures.cells c.deref.ensures.value read in
    let p = err_from_is_err_and c.from_residual-in_err-test_matrices.result c.from_residual-in_err-test_matrices.ensures.1 in
    rw (p.1, p.2) (matrices_fault mp x a y b part m t c.in_ok-second.second one c.in_ok-third.third two c.in_ok-fourth.fourth three c.in_err-test_matrices.field-0.0 (subst (λ n. IsRowLineFault c.in_ok-sides.sides.domain c.in_ok-sides.sides.range c.in_ok-target.target c.deref-3.result.now n part m all_rows (c.in_ok-fourth.fourth + 1) c.in_err-test_matrices.field-0.0) c.requires.top c.in_err-test_matrices.ensures.err (map_given mp x a y b) row))

pub returns-clause-ok : goal.returns-clause-ok
returns-clause-ok g c =
    let P = g.row.P in
    let mp = c.args.map.now in
    let x = c.args.x.now in
    let a = c.args.a.now in
    let y = c.args.y.now in
    let b = c.args.b.now in
    let part = c.args.domain.now in
    let m = c.args.part.now in
    let t = c.requires.parts in
    let nf = c.requires.faultless in
    let cells_are = c.in_ok-cells.ensures ∙ ap cells_of c.in_ok-domain_set.ensures in
    let others_are = c.in_ok-others.ensures ∙ ap cells_of c.in_ok-range_set.ensures in
    let one = subst (λ n. SidePassed P x.cells a.cells (pair_tables n part) 4 c.in_ok-second.second) c.requires.top c.in_ok-second.ensures.ok in
    let two = subst (λ n. SidePassed P y.cells b.cells (pair_tables n m.range) c.in_ok-second.second c.in_ok-third.third) c.requires.top c.in_ok-third.ensures.ok in
    let are = sides_are mp x a y b part m nf t c.in_ok-sides.sides c.in_ok-domain_set.domain_set.cells c.in_ok-cells.cells c.in_ok-others.others c.deref-2.result.now c.in_ok-sides.ensures c.deref-2.ensures.value c.in_ok-domain_set.ensures cells_are others_are in
    let three = c.in_ok-fourth.ensures.ok (map_given mp x a y b) (map_value (map_given mp x a y b).top part m) are in
    let read = subst (λ ys. AreRead P c.in_ok-others.others c.in_ok-target.target c.deref.result.now ys) (sym c.deref-3.ensures.value) c.in_ok-images.ensures in
    let row = row_witness mp x a y b part m nf t c.in_ok-sides.sides c.in_ok-domain_set.domain_set.cells c.in_ok-cells.cells c.in_ok-others.others c.deref-2.result.now c.in_ok-sides.ensures c.deref-2.ensures.value c.in_ok-domain_set.ensures cells_are others_are c.in_ok-others.others c.in_ok-target.target c.deref.result.now c.deref-3.result.now others_are c.in_ok-target.ensures.cells c.deref.ensures.value read in
    map_all mp x a y b part m t c.in_ok-second.second one c.in_ok-third.third two c.in_ok-fourth.fourth three c.in_ok-test_matrices.field-0 (subst (λ n. RowLinesPassed c.in_ok-sides.sides.domain c.in_ok-sides.sides.range c.in_ok-target.target c.deref-3.result.now n part m all_rows (c.in_ok-fourth.fourth + 1) c.in_ok-test_matrices.field-0) c.requires.top c.in_ok-test_matrices.ensures.ok (map_given mp x a y b) row)

pub test_side-requires : goal.test_side-requires
test_side-requires g c =
    ((omega arith), ((omega arith), ((c.in_ok-cells.ensures ∙ ap cells_of c.in_ok-domain_set.ensures), (c.in_ok-relative.ensures.cells, (c.in_ok-relative.ensures.pair, ((λ few. let P = g.row.P in let mp = c.args.map.now in let x = c.args.x.now in let a = c.args.a.now in let y = c.args.y.now in let b = c.args.b.now in let part = c.args.domain.now in let m = c.args.part.now in let t = c.requires.parts in let nf = c.requires.faultless in let cells_are = c.in_ok-cells.ensures ∙ ap cells_of c.in_ok-domain_set.ensures in subst (λ n. IsReadable n (length c.in_ok-relative.relative) part) (sym (ap length cells_are)) (subst (λ n. IsReadable (length (all_cells x.cells a.cells)) n part) (sym (ap length c.in_ok-relative.ensures.cells)) (domain_readable mp x a y b part m t few))), (omega arith)))))))

pub test_side-requires-2 : goal.test_side-requires-2
test_side-requires-2 g c =
    ((omega arith), ((omega arith), ((c.in_ok-others.ensures ∙ ap cells_of c.in_ok-range_set.ensures), (c.in_ok-target.ensures.cells, (c.in_ok-target.ensures.pair, ((λ few. let P = g.row.P in let mp = c.args.map.now in let x = c.args.x.now in let a = c.args.a.now in let y = c.args.y.now in let b = c.args.b.now in let part = c.args.domain.now in let m = c.args.part.now in let t = c.requires.parts in let nf = c.requires.faultless in let others_are = c.in_ok-others.ensures ∙ ap cells_of c.in_ok-range_set.ensures in subst (λ n. IsReadable n (length c.in_ok-target.target) m.range) (sym (ap length others_are)) (subst (λ n. IsReadable (length (all_cells y.cells b.cells)) n m.range) (sym (ap length c.in_ok-target.ensures.cells)) (range_readable mp x a y b part m t few))), (omega (arith, c.in_ok-second.ensures.next))))))))

pub sides_of-requires : goal.sides_of-requires
sides_of-requires g c =
    ((omega arith), ((omega arith), ((omega arith), ((let P = g.row.P in let mp = c.args.map.now in let x = c.args.x.now in let a = c.args.a.now in let y = c.args.y.now in let b = c.args.b.now in let part = c.args.domain.now in let m = c.args.part.now in let t = c.requires.parts in let nf = c.requires.faultless in let cells_are = c.in_ok-cells.ensures ∙ ap cells_of c.in_ok-domain_set.ensures in whole_pair (together x.cells a.cells) c.in_ok-cells.cells cells_are), ((let P = g.row.P in let mp = c.args.map.now in let x = c.args.x.now in let a = c.args.a.now in let y = c.args.y.now in let b = c.args.b.now in let part = c.args.domain.now in let m = c.args.part.now in let t = c.requires.parts in let nf = c.requires.faultless in let others_are = c.in_ok-others.ensures ∙ ap cells_of c.in_ok-range_set.ensures in whole_pair (together y.cells b.cells) c.in_ok-others.others others_are), (let P = g.row.P in let mp = c.args.map.now in let x = c.args.x.now in let a = c.args.a.now in let y = c.args.y.now in let b = c.args.b.now in let part = c.args.domain.now in let m = c.args.part.now in let t = c.requires.parts in let nf = c.requires.faultless in let others_are = c.in_ok-others.ensures ∙ ap cells_of c.in_ok-range_set.ensures in subst (λ n. AreNamed n c.deref-2.result.now) (sym (ap length others_are)) (subst (AreNamed (length (all_cells y.cells b.cells))) (sym c.deref-2.ensures.value) (images_named mp x a y b part m nf t))))))))

pub test_cells-requires : goal.test_cells-requires
test_cells-requires g c =
    ((omega arith), ((omega arith), ((omega arith), ((let P = g.row.P in let mp = c.args.map.now in let x = c.args.x.now in let a = c.args.a.now in let y = c.args.y.now in let b = c.args.b.now in let part = c.args.domain.now in let m = c.args.part.now in let t = c.requires.parts in let nf = c.requires.faultless in let cells_are = c.in_ok-cells.ensures ∙ ap cells_of c.in_ok-domain_set.ensures in let others_are = c.in_ok-others.ensures ∙ ap cells_of c.in_ok-range_set.ensures in has_witness mp x a y b part m nf t c.in_ok-sides.sides c.in_ok-domain_set.domain_set.cells c.in_ok-cells.cells c.in_ok-others.others c.deref-2.result.now c.in_ok-sides.ensures c.deref-2.ensures.value c.in_ok-domain_set.ensures cells_are others_are), (let P = g.row.P in let mp = c.args.map.now in let x = c.args.x.now in let a = c.args.a.now in let y = c.args.y.now in let b = c.args.b.now in let part = c.args.domain.now in let m = c.args.part.now in let t = c.requires.parts in let nf = c.requires.faultless in let cells_are = c.in_ok-cells.ensures ∙ ap cells_of c.in_ok-domain_set.ensures in let others_are = c.in_ok-others.ensures ∙ ap cells_of c.in_ok-range_set.ensures in let few = value_lines_few mp x a y b part m nf t c.in_ok-sides.sides c.in_ok-domain_set.domain_set.cells c.in_ok-cells.cells c.in_ok-others.others c.deref-2.result.now c.in_ok-sides.ensures c.deref-2.ensures.value c.in_ok-domain_set.ensures cells_are others_are c.requires.few c.requires.range_few in omega (arith, few, c.in_ok-second.ensures.next, c.in_ok-third.ensures.next))))))

pub test_matrices-requires : goal.test_matrices-requires
test_matrices-requires g c =
    ((omega arith), ((omega arith), ((omega arith), ((omega arith), ((let P = g.row.P in let mp = c.args.map.now in let x = c.args.x.now in let a = c.args.a.now in let y = c.args.y.now in let b = c.args.b.now in let part = c.args.domain.now in let m = c.args.part.now in let t = c.requires.parts in let nf = c.requires.faultless in let cells_are = c.in_ok-cells.ensures ∙ ap cells_of c.in_ok-domain_set.ensures in let others_are = c.in_ok-others.ensures ∙ ap cells_of c.in_ok-range_set.ensures in let read = subst (λ ys. AreRead P c.in_ok-others.others c.in_ok-target.target c.deref.result.now ys) (sym c.deref-3.ensures.value) c.in_ok-images.ensures in let row = row_witness mp x a y b part m nf t c.in_ok-sides.sides c.in_ok-domain_set.domain_set.cells c.in_ok-cells.cells c.in_ok-others.others c.deref-2.result.now c.in_ok-sides.ensures c.deref-2.ensures.value c.in_ok-domain_set.ensures cells_are others_are c.in_ok-others.others c.in_ok-target.target c.deref.result.now c.deref-3.result.now others_are c.in_ok-target.ensures.cells c.deref.ensures.value read in record { given = map_given mp x a y b; are = subst (λ n. IsRowWitness c.in_ok-sides.sides.domain c.in_ok-sides.sides.range c.in_ok-target.target c.deref-3.result.now n part m (map_given mp x a y b)) (sym c.requires.top) row }), (c.in_ok-second.ensures.few, (let P = g.row.P in let mp = c.args.map.now in let x = c.args.x.now in let a = c.args.a.now in let y = c.args.y.now in let b = c.args.b.now in let part = c.args.domain.now in let m = c.args.part.now in let t = c.requires.parts in let nf = c.requires.faultless in let cells_are = c.in_ok-cells.ensures ∙ ap cells_of c.in_ok-domain_set.ensures in let others_are = c.in_ok-others.ensures ∙ ap cells_of c.in_ok-range_set.ensures in let few = value_lines_few mp x a y b part m nf t c.in_ok-sides.sides c.in_ok-domain_set.domain_set.cells c.in_ok-cells.cells c.in_ok-others.others c.deref-2.result.now c.in_ok-sides.ensures c.deref-2.ensures.value c.in_ok-domain_set.ensures cells_are others_are c.requires.few c.requires.range_few in omega (arith, few, c.in_ok-second.ensures.next, c.in_ok-third.ensures.next, c.in_ok-fourth.ensures.next))))))))

pub overflow_add-fourth : goal.overflow_add-fourth
overflow_add-fourth g c =
    let P = g.row.P in
    let mp = c.args.map.now in
    let x = c.args.x.now in
    let a = c.args.a.now in
    let y = c.args.y.now in
    let b = c.args.b.now in
    let part = c.args.domain.now in
    let m = c.args.part.now in
    let t = c.requires.parts in
    let nf = c.requires.faultless in
    let cells_are = c.in_ok-cells.ensures ∙ ap cells_of c.in_ok-domain_set.ensures in
    let others_are = c.in_ok-others.ensures ∙ ap cells_of c.in_ok-range_set.ensures in
    let few = value_lines_few mp x a y b part m nf t c.in_ok-sides.sides c.in_ok-domain_set.domain_set.cells c.in_ok-cells.cells c.in_ok-others.others c.deref-2.result.now c.in_ok-sides.ensures c.deref-2.ensures.value c.in_ok-domain_set.ensures cells_are others_are c.requires.few c.requires.range_few in
    omega (arith, few, c.in_ok-second.ensures.next, c.in_ok-third.ensures.next, c.in_ok-fourth.ensures.next)
