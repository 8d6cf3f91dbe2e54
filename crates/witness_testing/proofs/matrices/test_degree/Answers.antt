use Rattle.std.proofs.Common.{◌≡◌, ◌∙◌, ◌<◌, ◌≤◌, ap, sym, subst, length, map, get_or, arith, eqb-true}
use Rattle.leray_conley.proofs.Totals.{positive_from_test}
use Rattle.std.proofs.lemmas.List.{length-map}
use Rattle.std.proofs.lemmas.Result.{err_from_is_err_and}
use Rattle.witness_types.specs.Parts.{beside, degrees_of}
use Rattle.witness_sections.specs.Readings.{AreRead}
use Rattle.witness_sections.proofs.Termwise.{beside-few}
use Rattle.witness_rows.specs.Rows.{AreProducts, RowsPassed, IsRowFault}
use Rattle.witness_testing.proofs.Rows.{no_columns, no_rows, cocycles_many, rows_passed_of, rows_fault_of}
use Rattle.witness_testing.proofs.matrices.test_degree.Goals as goal
use Rattle.witness_testing.proofs.matrices.test_degree.Goals.{then-is_empty-via-then-is_empty, then-is_empty-via-else-is_empty+then-rows-eq0}

pub returns-then-is_empty-clause-ok : goal.returns-then-is_empty-clause-ok
returns-then-is_empty-clause-ok g c =
    let D = c.args.domain.now in
    let m = c.args.map.now in
    let k = c.args.degree in
    let t = c.index-table.result.now in
    let zd = c.in_ok-cycles.cycles.items in
    let rz = subst (λ ys. AreRead g.row.P D D (beside k (degrees_of ys) (map (λ z. z.1) ys)) zd) c.deref.ensures.value c.in_ok-cycles.ensures in
    elim c.then-is_empty.branch [
      | then-is_empty-via-then-is_empty w ↦ no_columns D c.args.range.now c.args.kept.now c.args.images.now c.args.top c.args.part.now m k c.requires.degree zd rz (let o = c.in_ok-cycles.cycles.ok.0 in let z = eqb-true c.in_ok-cycles.cycles.len 0 (sym c.is_empty.ensures ∙ w.if-is_empty.true) in omega (arith, o, z)) c.args.line
      | then-is_empty-via-else-is_empty+then-rows-eq0 w ↦ no_rows D c.args.range.now c.args.kept.now c.args.images.now c.args.top c.args.part.now m k c.requires.degree t c.index-table.ensures (sym w.rows.ensures.value ∙ w.if-rows-eq0.true) c.args.line
    ]

pub products-requires : goal.products-requires
products-requires g c =
    let D = c.args.domain.now in
    let k = c.args.degree in
    let cs = c.args.part.now.cycles.items in
    let zd = c.in_ok-cycles.cycles.items in
    let rz = subst (λ ys. AreRead g.row.P D D (beside k (degrees_of ys) (map (λ z. z.1) ys)) zd) c.deref.ensures.value c.in_ok-cycles.ensures in
    let a = ap length c.deref-2.ensures.value in
    let b = rz.count in
    let d = beside-few k (degrees_of cs) (map (λ z. z.1) cs) in
    let e = length-map cs (λ z. z.1) in
    ((omega arith), ((omega arith), omega (arith, a, b, d, e, c.requires.few)))

pub test_rows-requires : goal.test_rows-requires
test_rows-requires g c =
    let m = c.args.map.now in
    let k = c.args.degree in
    let t = c.index-table.result.now in
    let cs = c.in_ok-cocycles.cocycles.items in
    let rc = subst (λ ys. AreRead g.row.P c.args.range.now c.args.kept.now (beside k (degrees_of ys) m.range.cocycles.items) cs) c.deref-3.ensures.value
    (subst (λ ys. AreRead g.row.P c.args.range.now c.args.kept.now (beside k (degrees_of c.deref-3.result.now) ys) cs) c.deref-4.ensures.value c.in_ok-cocycles.ensures) in
    let a = cocycles_many c.args.domain.now c.args.range.now c.args.kept.now c.args.images.now c.args.top c.args.part.now m k c.requires.degree t c.index-table.ensures c.requires.witness.given c.requires.witness.are cs rc in
    let b = ap length c.deref-6.ensures.value in
    ((omega arith), ((omega arith), ((omega arith), (omega (arith, a, b), omega (arith, c.requires.room, c.rows.ensures.value, c.rows.type_inv)))))

pub returns-in_err-next-clause-err : goal.returns-in_err-next-clause-err
returns-in_err-next-clause-err g c =
    let P = g.row.P in
    let D = c.args.domain.now in
    let R = c.args.range.now in
    let K = c.args.kept.now in
    let us = c.args.images.now in
    let m = c.args.map.now in
    let k = c.args.degree in
    let t = c.index-table.result.now in
    let zd = c.in_ok-cycles.cycles.items in
    let rows = c.in_ok-rows.rows.items in
    let cs = c.in_ok-cocycles.cocycles.items in
    let rz = subst (λ ys. AreRead P D D (beside k (degrees_of ys) (map (λ z. z.1) ys)) zd) c.deref.ensures.value c.in_ok-cycles.ensures in
    let rc = subst (λ ys. AreRead P R K (beside k (degrees_of ys) m.range.cocycles.items) cs) c.deref-3.ensures.value
    (subst (λ ys. AreRead P R K (beside k (degrees_of c.deref-3.result.now) ys) cs) c.deref-4.ensures.value c.in_ok-cocycles.ensures) in
    let products = subst (λ ys. AreProducts P c.len.result us ys rows) c.deref-2.ensures.value c.in_ok-rows.ensures.value in
    let some : 0 < t.rows = omega (arith, c.rows.ensures.value, c.if-rows-eq0.false) in
    let o = c.in_ok-cycles.cycles.ok.0 in
    let z = positive_from_test c.in_ok-cycles.cycles.len (sym c.is_empty.ensures ∙ c.if-is_empty.false) in
    let columns : 0 < length zd = omega (arith, o, z) in
    let here = subst (λ ys. IsRowFault P t ys c.deref-6.result.now c.args.line c.in_err-next.field-0.0) c.deref-5.ensures.value c.in_err-next.ensures.err in
    let fault = subst (λ ys. IsRowFault P t rows ys c.args.line c.in_err-next.field-0.0) c.deref-6.ensures.value here in
    let p = err_from_is_err_and c.from_residual-in_err-next.result c.from_residual-in_err-next.ensures.1 in
    rw (p.1, p.2) (rows_fault_of D R K us c.args.top c.args.part.now m k c.requires.degree t c.index-table.ensures zd rows cs c.len.result rz c.len.ensures.count c.in_ok-rows.ensures.count products rc c.rows.ensures.table some columns c.args.line c.in_err-next.field-0.0 fault)

pub returns-clause-ok : goal.returns-clause-ok
returns-clause-ok g c =
    let P = g.row.P in
    let D = c.args.domain.now in
    let R = c.args.range.now in
    let K = c.args.kept.now in
    let us = c.args.images.now in
    let m = c.args.map.now in
    let k = c.args.degree in
    let t = c.index-table.result.now in
    let zd = c.in_ok-cycles.cycles.items in
    let rows = c.in_ok-rows.rows.items in
    let cs = c.in_ok-cocycles.cocycles.items in
    let rz = subst (λ ys. AreRead P D D (beside k (degrees_of ys) (map (λ z. z.1) ys)) zd) c.deref.ensures.value c.in_ok-cycles.ensures in
    let rc = subst (λ ys. AreRead P R K (beside k (degrees_of ys) m.range.cocycles.items) cs) c.deref-3.ensures.value
    (subst (λ ys. AreRead P R K (beside k (degrees_of c.deref-3.result.now) ys) cs) c.deref-4.ensures.value c.in_ok-cocycles.ensures) in
    let products = subst (λ ys. AreProducts P c.len.result us ys rows) c.deref-2.ensures.value c.in_ok-rows.ensures.value in
    let some : 0 < t.rows = omega (arith, c.rows.ensures.value, c.if-rows-eq0.false) in
    let o = c.in_ok-cycles.cycles.ok.0 in
    let z = positive_from_test c.in_ok-cycles.cycles.len (sym c.is_empty.ensures ∙ c.if-is_empty.false) in
    let columns : 0 < length zd = omega (arith, o, z) in
    let here = subst (λ ys. RowsPassed P t ys c.deref-6.result.now c.args.line c.in_ok-next.next) c.deref-5.ensures.value c.in_ok-next.ensures.ok in
    let passed = subst (λ ys. RowsPassed P t rows ys c.args.line c.in_ok-next.next) c.deref-6.ensures.value here in
    rows_passed_of D R K us c.args.top c.args.part.now m k c.requires.degree t c.index-table.ensures zd rows cs c.len.result rz c.len.ensures.count c.in_ok-rows.ensures.count products rc c.rows.ensures.table some columns c.args.line c.in_ok-next.next passed
