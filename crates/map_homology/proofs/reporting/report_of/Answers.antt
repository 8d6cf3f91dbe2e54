use Rattle.std.proofs.Common.{inr, refl, ℕ, subst, arith}
use Rattle.std.proofs.lemmas.Result.{err_from_is_err_and}
use Rattle.map_homology.specs.Bases.{IsPartOf, cycles_alone}
use Rattle.map_homology.proofs.Basing.{names}
use Rattle.map_homology.proofs.Inducing.{right_map}
use Rattle.map_homology.proofs.reporting.report_of.Goals as goal

pub induce-requires : goal.induce-requires
induce-requires g c = ((omega arith), ((omega arith), ((omega arith), ((omega arith), ((omega arith), (c.requires.bases, c.requires.few))))))

pub part_of-requires : goal.part_of-requires
part_of-requires g c =
    let some = c.requires.bases in
    record { names = λ k l. names g.row.P some.map.x.cells some.map.a.cells c.args.domain c.args.cycles.now c.args.field.listed some.bases.bases.of_domain k }

pub part_of-requires-2 : goal.part_of-requires-2
part_of-requires-2 g c =
    let some = c.requires.bases in
    record { names = λ k l. names g.row.P some.map.y.cells some.map.b.cells c.args.range (cycles_alone c.args.basis.now) c.args.field.listed some.bases.bases.of_range k }

pub returns-in_err-made-clause-fault : goal.returns-in_err-made-clause-fault
returns-in_err-made-clause-fault g c =
    let p = err_from_is_err_and c.from_residual.result c.from_residual.ensures.1 in
    rw (p.1, p.2) c.in_err-made.ensures.fault

pub returns-in_err-domain-clause-fault : goal.returns-in_err-domain-clause-fault
returns-in_err-domain-clause-fault g c =
    let p = err_from_is_err_and c.from_residual-in_err-domain.result c.from_residual-in_err-domain.ensures.1 in
    rw (p.1, p.2) (inr refl)

pub returns-in_err-range-clause-fault : goal.returns-in_err-range-clause-fault
returns-in_err-range-clause-fault g c =
    let p = err_from_is_err_and c.from_residual-in_err-range.result c.from_residual-in_err-range.ensures.1 in
    rw (p.1, p.2) (inr refl)

pub returns-clause-report : goal.returns-clause-report
returns-clause-report g c = λ m h.
    let last = c.dimension-last.ensures.dimension in
    let made = c.in_ok-made.ensures in
    right_map g.row.P m c.args.carrier c.args.domain c.args.cycles.now c.args.range c.args.basis.now c.args.field.listed h.bases c.args.wanted
    _ c.in_ok-made.made.matrices.items made.matrices.count made.matrices.each made.printed.ranks_of made.printed.tables_of
    (subst (λ (n : ℕ). IsPartOf c.args.domain c.args.cycles.now.cycles n c.in_ok-domain.domain) last c.in_ok-domain.ensures)
    (subst (λ (n : ℕ). IsPartOf c.args.range c.args.basis.now.cycles n c.in_ok-range.range) last c.in_ok-range.ensures)
    h.included made.printed.index_part
