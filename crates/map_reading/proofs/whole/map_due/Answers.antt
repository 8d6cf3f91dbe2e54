use Rattle.std.proofs.Common.{◌≤◌, ap, arith, length, List, map, subst, sym}
use Rattle.elem_cubes.specs.Cells.{Factor}
use Rattle.cube_sets.specs.Closures.{cells_of}
use Rattle.map_checks.specs.Faults.{AreNamed}
use Rattle.map_lines.specs.Whole.{map_given}
use Rattle.map_reading.proofs.Stages.{into_same, pairs_stop, in_values, in_matrices, whole_map}
use Rattle.map_reading.proofs.whole.map_due.Goals as goal

pub returns-in-Ok-matrices_due-clause-ok : goal.returns-in-Ok-matrices_due-clause-ok
returns-in-Ok-matrices_due-clause-ok g c =
    whole_map g.row.P (map_given c.args.map.now c.args.x.now c.args.a.now c.args.y.now c.args.b.now) c.args.bytes.now c.args.top c.requires.top
    c.in-Ok.domain c.in-Ok.range c.in-Ok.behind.now c.in-Ok.ensures.ok c.in_ok-cubes.cubes.cells c.in_ok-cubes.others.cells c.in_ok-cubes.ensures
    c.in-Ok-values_due.cells.vertices.items (map (λ v. v.items) c.in-Ok-values_due.cells.contractions.items) c.in-Ok-values_due.cells.images.items c.in-Ok-values_due.last.now
    c.in-Ok-values_due.ensures.ok c.in-Ok-matrices_due.rows.items c.joined.result c.joined.ensures.range (ap (λ v. v.items) c.joined.ensures.vertices)
    (ap (λ w. map (λ v. v.items) w.items) c.joined.ensures.contractions) (ap (λ v. v.items) c.joined.ensures.images) (ap (λ v. v.items) c.joined.ensures.rows)
    c.deref-in-Ok-values_due.result.now c.deref.result.now c.deref-in-Ok-values_due.ensures.value c.deref.ensures.value c.in-Ok-matrices_due.ensures.ok

pub returns-in-Ok-values_due-clause-err : goal.returns-in-Ok-values_due-clause-err
returns-in-Ok-values_due-clause-err g c =
    in_matrices g.row.P (map_given c.args.map.now c.args.x.now c.args.a.now c.args.y.now c.args.b.now) c.args.bytes.now c.args.top c.requires.top
    c.in-Ok.domain c.in-Ok.range c.in-Ok.behind.now c.in-Ok.ensures.ok c.in_ok-cubes.cubes.cells c.in_ok-cubes.others.cells c.in_ok-cubes.ensures
    c.in-Ok-values_due.cells.vertices.items (map (λ v. v.items) c.in-Ok-values_due.cells.contractions.items) c.in-Ok-values_due.cells.images.items c.in-Ok-values_due.last.now
    c.in-Ok-values_due.ensures.ok c.deref-in-Ok-values_due.result.now c.deref.result.now c.deref-in-Ok-values_due.ensures.value c.deref.ensures.value c.in-Err-matrices_due.stop c.in-Err-matrices_due.ensures.err

pub returns-in-Ok-clause-err : goal.returns-in-Ok-clause-err
returns-in-Ok-clause-err g c =
    in_values g.row.P (map_given c.args.map.now c.args.x.now c.args.a.now c.args.y.now c.args.b.now) c.args.bytes.now c.args.top c.requires.top
    c.in-Ok.domain c.in-Ok.range c.in-Ok.behind.now c.in-Ok.ensures.ok c.in_ok-cubes.cubes.cells c.in_ok-cubes.others.cells c.in_ok-cubes.ensures
    c.in-Err-values_due.stop c.in-Err-values_due.ensures.err

pub returns-clause-err : goal.returns-clause-err
returns-clause-err g c =
    pairs_stop g.row.P (map_given c.args.map.now c.args.x.now c.args.a.now c.args.y.now c.args.b.now) c.args.bytes.now c.args.top c.requires.top c.in-Err.stop c.in-Err.ensures.err

pub values_due-requires : goal.values_due-requires
values_due-requires g c =
    let e = c.in_ok-cubes.ensures in (
      omega arith,
      (
        omega arith,
        (
          subst (λ (l : List (List Factor)). AreNamed c.args.map.now.named l) (sym e.0) c.requires.faultless.named,
          (
            into_same c.args.map.now.named c.in_ok-cubes.cubes.cells c.in_ok-cubes.others.cells _ _ e.0 e.1 c.requires.faultless.inside,
            (
              subst (λ (l : List (List Factor)). length (cells_of l) ≤ 4096) (sym e.0) c.requires.few,
              subst (λ (l : List (List Factor)). length (cells_of l) ≤ 4096) (sym e.1) c.requires.few_range,
            ),
          ),
        ),
      ),
    )
