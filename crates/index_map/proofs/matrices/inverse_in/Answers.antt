use Rattle.std.proofs.Common.{ℕ, refl, subst, arith, List, length, get_or}
use Rattle.field_mod.proofs.Table.{two_le, is_field}
use Rattle.homology_basis.specs.Bases.{in_degree}
use Rattle.leray_conley.specs.Tables.{entry}
use Rattle.index_map.specs.Combinations.{IsCombination}
use Rattle.index_map.proofs.Sides.{killed_sized, square}
use Rattle.index_map.proofs.Solving.{killed_by, missed_by, inverse_is}
use Rattle.index_map.proofs.matrices.inverse_in.Goals as goal

pub returns-in-Some-clause-fault : goal.returns-in-Some-clause-fault
returns-in-Some-clause-fault g c =
    let q = rw c.in-Some.is at c.in_ok-numbers.ensures in (
      refl,
      killed_by g.row.P c.args.degree c.args.domain_cells.now c.args.domain.now c.args.range_cells.now c.args.range.now c.dimension-columns.ensures.basis c.dimension-rows.ensures.basis (omega (arith, two_le g.row.P c.args.field.listed))
          c.in_ok-inclusion.inclusion c.in-Some.numbers.items c.in_ok-cycle.cycle c.in_ok-inclusion.ensures q c.in_ok-cycle.ensures.normal
          (subst (λ (xs : List ℕ). IsCombination g.row.P (λ i. get_or xs i 0) (in_degree c.args.domain.now.cycles c.args.degree) (length (in_degree c.args.domain.now.cycles c.args.degree)) c.in_ok-cycle.cycle) c.deref.ensures.value c.in_ok-cycle.ensures.combination),
    )

pub returns-in-Some-2-clause-fault : goal.returns-in-Some-2-clause-fault
returns-in-Some-2-clause-fault g c =
    let unkilled = rw c.in_default.is at c.in_ok-numbers.ensures in
    let q = rw c.in-Some-2.is at c.in_ok-numbers-2.ensures in (
      refl,
      missed_by g.row.P c.args.degree c.args.domain_cells.now c.args.domain.now c.args.range_cells.now c.args.range.now c.dimension-columns.ensures.basis c.dimension-rows.ensures.basis (omega (arith, two_le g.row.P c.args.field.listed))
          c.in_ok-inclusion.inclusion c.in-Some-2.numbers.items c.in_ok-cocycle.cocycle c.in_ok-inclusion.ensures unkilled q c.in_ok-cocycle.ensures.normal
          (subst (λ (xs : List ℕ). IsCombination g.row.P (λ i. get_or xs i 0) (in_degree c.args.range.now.cocycles c.args.degree) (length (in_degree c.args.range.now.cycles c.args.degree)) c.in_ok-cocycle.cocycle) c.deref-in-Some-2.ensures.value c.in_ok-cocycle.ensures.combination),
    )

pub inverse-requires : goal.inverse-requires
inverse-requires g c =
    let right = rw c.in_default.is at c.in_ok-numbers.ensures in
    let left = rw c.in_default-2.is at c.in_ok-numbers-2.ensures in
    ((omega arith), ((omega arith), square g.row.P c.in_ok-inclusion.inclusion.rows c.in_ok-inclusion.inclusion.columns (entry c.in_ok-inclusion.inclusion) (is_field g.row.P c.args.field.listed) right left))

pub returns-in-Ok-clause-inverse : goal.returns-in-Ok-clause-inverse
returns-in-Ok-clause-inverse g c =
    let right = rw c.in_default.is at c.in_ok-numbers.ensures in
    let left = rw c.in_default-2.is at c.in_ok-numbers-2.ensures in
    inverse_is g.row.P c.args.degree c.args.domain_cells.now c.args.domain.now c.args.range_cells.now c.args.range.now c.dimension-columns.ensures.basis c.dimension-rows.ensures.basis (omega (arith, two_le g.row.P c.args.field.listed))
    c.in_ok-inclusion.inclusion c.in-Ok.inverse c.in_ok-inclusion.ensures
    (square g.row.P c.in_ok-inclusion.inclusion.rows c.in_ok-inclusion.inclusion.columns (entry c.in_ok-inclusion.inclusion) (is_field g.row.P c.args.field.listed) right left)
    c.in-Ok.ensures.rows c.in-Ok.ensures.columns c.in-Ok.ensures.inverse

pub unreachable-requires : goal.unreachable-requires
unreachable-requires g c =
    let right = rw c.in_default.is at c.in_ok-numbers.ensures in
    let left = rw c.in_default-2.is at c.in_ok-numbers-2.ensures in
    let fault = rw c.in-Err-Singular.field-0-is at c.in-Err-Singular.ensures.fault in
    right (λ i. get_or c.in-Err-Singular.field-0-0.items i 0)
    (killed_sized g.row.P c.in_ok-inclusion.inclusion.rows c.in_ok-inclusion.inclusion.rows c.in_ok-inclusion.inclusion.rows c.in_ok-inclusion.inclusion.columns (entry c.in_ok-inclusion.inclusion) (λ i. get_or c.in-Err-Singular.field-0-0.items i 0) refl
    (square g.row.P c.in_ok-inclusion.inclusion.rows c.in_ok-inclusion.inclusion.columns (entry c.in_ok-inclusion.inclusion) (is_field g.row.P c.args.field.listed) right left) fault.0.killed)
