use Rattle.std.proofs.Common.{inr, refl, ℕ, subst, arith}
use Rattle.std.proofs.lemmas.Result.{err_from_is_err_and}
use Rattle.map_homology.specs.Bases.{IsPartOf, cycles_alone}
use Rattle.map_homology.proofs.Basing.{names}
use Rattle.map_homology.proofs.Inducing.{right_map}
use Rattle.witness_types.specs.Inputs.{IsWithinTables}
use Rattle.map_parts.specs.Maps.{given_map}
use Rattle.map_witness.proofs.Printing.{carrying_of, domain_part_of, file_of_map}
use Rattle.map_witness.proofs.printed.report_and_file.Goals as goal

pub induce-requires : goal.induce-requires
induce-requires g c = (
  (omega arith),
  ((omega arith), ((omega arith), ((omega arith), ((omega arith), (record { map = c.args.input.now; bases = c.requires.bases }, c.requires.few))))),
)

pub map_witness-requires : goal.map_witness-requires
map_witness-requires g c =
    let m = c.args.input.now in
    let made = c.in_ok-made.ensures in
    let limits : IsWithinTables (given_map m.map m.x m.a m.y m.b) = record { domain = c.requires.within.small.domain; range = c.requires.within.small.range; carrier = c.requires.within.size } in
    let carried = carrying_of g.row.P m c.args.carrier c.in_ok-made.made.selector.carrying c.requires.bases.bases.carrier made.carrying in
    let domain = domain_part_of g.row.P m c.args.carrier c.args.domain c.args.range c.args.basis.now c.args.field.listed c.requires.fits.alike c.args.cycles.now c.args.part.now c.in_ok-made.made.matrices.items c.requires.bases.bases c.requires.part
    made.matrices.count made.matrices.each in (
      (omega arith),
      (
        (omega arith),
        (
          (omega arith),
          (
            (omega arith),
            (
              (omega arith),
              (
                c.requires.fits.alike,
                (c.requires.bases.bases.carrier.sets, (limits, (carried, (c.requires.bases.bases.of_range.relative, domain)))),
              ),
            ),
          ),
        ),
      ),
    )

pub part_of-requires : goal.part_of-requires
part_of-requires g c =
    let m = c.args.input.now in
    record { names = λ k l. names g.row.P m.x.cells m.a.cells c.args.domain c.args.cycles.now c.args.field.listed c.requires.bases.bases.of_domain k }

pub part_of-requires-2 : goal.part_of-requires-2
part_of-requires-2 g c =
    let m = c.args.input.now in
    record { names = λ k l. names g.row.P m.y.cells m.b.cells c.args.range (cycles_alone c.args.basis.now) c.args.field.listed c.requires.bases.bases.of_range k }

pub returns-in_err-made-clause-fault : goal.returns-in_err-made-clause-fault
returns-in_err-made-clause-fault g c =
    let p = err_from_is_err_and c.from_residual.result c.from_residual.ensures.1 in
    rw (p.1, p.2) c.in_err-made.ensures.fault

pub returns-in_err-bytes-clause-fault : goal.returns-in_err-bytes-clause-fault
returns-in_err-bytes-clause-fault g c =
    let p = err_from_is_err_and c.from_residual-in_err-bytes.result c.from_residual-in_err-bytes.ensures.1 in
    rw (p.1, p.2) (inr refl)

pub returns-in_err-domain-clause-fault : goal.returns-in_err-domain-clause-fault
returns-in_err-domain-clause-fault g c =
    let p = err_from_is_err_and c.from_residual-in_err-domain.result c.from_residual-in_err-domain.ensures.1 in
    rw (p.1, p.2) (inr refl)

pub returns-in_err-range-clause-fault : goal.returns-in_err-range-clause-fault
returns-in_err-range-clause-fault g c =
    let p = err_from_is_err_and c.from_residual-in_err-range.result c.from_residual-in_err-range.ensures.1 in
    rw (p.1, p.2) (inr refl)

pub returns-clause-report : goal.returns-clause-report
returns-clause-report g c =
    let last = c.dimension-last.ensures.dimension in
    let made = c.in_ok-made.ensures in
    right_map g.row.P c.args.input.now c.args.carrier c.args.domain c.args.cycles.now c.args.range c.args.basis.now c.args.field.listed c.requires.bases.bases c.args.wanted
    _ c.in_ok-made.made.matrices.items made.matrices.count made.matrices.each made.printed.ranks_of made.printed.tables_of
    (subst (λ (n : ℕ). IsPartOf c.args.domain c.args.cycles.now.cycles n c.in_ok-domain.domain) last c.in_ok-domain.ensures)
    (subst (λ (n : ℕ). IsPartOf c.args.range c.args.basis.now.cycles n c.in_ok-range.range) last c.in_ok-range.ensures)
    c.requires.bases.included made.printed.index_part

pub returns-clause-file : goal.returns-clause-file
returns-clause-file g c =
    let last = c.dimension-last.ensures.dimension in
    let made = c.in_ok-made.ensures in
    file_of_map g.row.P c.args.input.now c.args.carrier c.args.domain c.args.range c.args.basis.now c.args.field.listed c.requires.fits.alike c.args.cycles.now c.args.part.now c.in_ok-made.made.matrices.items c.requires.bases.bases c.requires.part
    made.matrices.count c.in_ok-bytes.bytes.items c.in_ok-bytes.ensures c.in_ok-domain.domain c.in_ok-range.range
    (subst (λ (n : ℕ). IsPartOf c.args.domain c.args.cycles.now.cycles n c.in_ok-domain.domain) last c.in_ok-domain.ensures)
    (subst (λ (n : ℕ). IsPartOf c.args.range c.args.basis.now.cycles n c.in_ok-range.range) last c.in_ok-range.ensures)
    c.in_ok-made.made.printed.tables.items made.printed.tables_of
