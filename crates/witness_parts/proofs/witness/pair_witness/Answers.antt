use Rattle.std.proofs.Common.{ℕ, ◌≤◌, arith, subst}
use Rattle.field_mod.proofs.Table.{two_le}
use Rattle.witness_types.specs.Parts.{pair_tables}
use Rattle.witness_parts.specs.Tables.{section_by, IsPartOf}
use Rattle.witness_parts.specs.Witnesses.{top_of}
use Rattle.witness_parts.proofs.Holding.{pair_within, accepted, is_witness}
use Rattle.witness_parts.proofs.witness.pair_witness.Goals as goal

pub write_witness-text-requires : goal.write_witness-text-requires
write_witness-text-requires g c =
    let p = g.row.P in
    let x = c.args.x.now in
    let a = c.args.a.now in
    let b = c.args.basis.now in
    let part = c.in_ok-part.part in
    let made = subst (λ (t : ℕ). IsPartOf t x.cells a.cells (section_by p c.args.cells.now b) part) c.known.ensures c.in_ok-part.ensures in
    let one : 1 ≤ p = omega (arith, two_le p c.args.field.listed) in
    let acc = accepted p x a c.args.cells.now b one c.len-members.ensures.set c.len-count.ensures.sorted c.requires.relative c.dimension-dimension.ensures.basis (pair_tables (top_of x a) part) made.tables in (
      (omega arith),
      (
        (omega arith),
        (
          (omega arith),
          (c.requires.agree, (pair_within (top_of x a) x.cells a.cells c.requires.few, (made.order, (tt, record { fits = acc.fits; first = acc.meets.first })))),
        ),
      ),
    )

pub returns : goal.returns
returns g c =
    let p = g.row.P in
    let x = c.args.x.now in
    let a = c.args.a.now in
    let b = c.args.basis.now in
    let part = c.in_ok-part.part in
    let made = subst (λ (t : ℕ). IsPartOf t x.cells a.cells (section_by p c.args.cells.now b) part) c.known.ensures c.in_ok-part.ensures in
    let one : 1 ≤ p = omega (arith, two_le p c.args.field.listed) in
    is_witness p x a c.args.cells.now b one c.len-members.ensures.set c.len-count.ensures.sorted c.requires.relative c.dimension-dimension.ensures.basis (pair_tables (top_of x a) part) made.tables
    c.args.field.listed c.in_ok-text.field-0.items c.in_ok-text.ensures
