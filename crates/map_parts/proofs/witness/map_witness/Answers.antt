use Rattle.std.proofs.Common.{ℕ, ◌<◌, ◌≤◌, arith, List, length, subst}
use Rattle.field_mod.proofs.Table.{two_le}
use Rattle.leray_conley.specs.Tables.{Table, IsTable}
use Rattle.witness_types.specs.Parts.{IsInOrder}
use Rattle.witness_writing.specs.Runs.{table_at}
use Rattle.map_parts.proofs.Holding.{parts_accepted, parts_written}
use Rattle.map_parts.proofs.witness.map_witness.Goals as goal

pub map_part-requires : goal.map_part-requires
map_part-requires g c = (
  (omega arith),
  (
    (omega arith),
    (
      (omega arith),
      (
        (omega arith),
        (
          (omega arith),
          (
            c.requires.alike.x_a,
            (c.requires.alike.y_b, (c.requires.limits.domain, (c.requires.limits.range, (c.requires.carrying, c.requires.relative)))),
          ),
        ),
      ),
    ),
  ),
)

pub written-requires : goal.written-requires
written-requires g c =
    let p = g.row.P in
    let one : 1 ≤ p = omega (arith, two_le p c.args.field.listed) in
    let acc = parts_accepted p c.args.cube_map.now c.args.x.now c.args.a.now c.args.y.now c.args.b.now c.args.cells.now c.args.basis.now c.args.matrices.items one c.requires.alike c.requires.faultless
    c.len-members.ensures.set c.len-range_members.ensures.set c.len-count.ensures.sorted c.requires.relative c.dimension-dimension.ensures.basis
    (subst (λ (ms : List Table). (k : ℕ) → k < length ms → IsTable p (table_at ms k)) c.deref.ensures.value c.see_tables.ensures)
    c.known_of_map-top.result c.known_of_map-top.ensures c.args.domain.now c.in_ok-more.more c.requires.domain c.in_ok-more.ensures in (
      (omega arith),
      (
        (omega arith),
        (
          (omega arith),
          (
            c.requires.alike,
            (
              c.requires.faultless,
              (
                c.requires.limits,
                (
                  c.requires.domain.part_of.order,
                  (subst (λ (t : ℕ). IsInOrder t c.in_ok-more.more.range) c.known_of_map-top.ensures c.in_ok-more.ensures.order, record { fits = acc.fits; first = acc.meets.first }),
                ),
              ),
            ),
          ),
        ),
      ),
    )

pub returns : goal.returns
returns g c =
    let p = g.row.P in
    let one : 1 ≤ p = omega (arith, two_le p c.args.field.listed) in
    parts_written p c.args.cube_map.now c.args.x.now c.args.a.now c.args.y.now c.args.b.now c.args.cells.now c.args.basis.now c.args.matrices.items one c.requires.alike c.requires.faultless
    c.len-members.ensures.set c.len-range_members.ensures.set c.len-count.ensures.sorted c.requires.relative c.dimension-dimension.ensures.basis
    (subst (λ (ms : List Table). (k : ℕ) → k < length ms → IsTable p (table_at ms k)) c.deref.ensures.value c.see_tables.ensures)
    c.known_of_map-top.result c.known_of_map-top.ensures c.args.domain.now c.in_ok-more.more c.requires.domain c.in_ok-more.ensures c.args.field.listed c.in_ok-text.text.items c.in_ok-text.ensures
