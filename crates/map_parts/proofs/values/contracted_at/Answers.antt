use Rattle.std.proofs.Common.{◌≡◌, ◌<◌, List, length, ap, arith, ◌∙◌, subst}
use Rattle.elem_cubes.specs.Cells.{Factor}
use Rattle.cube_sets.specs.Closures.{cells_of}
use Rattle.witness_writing.specs.Runs.{value_in}
use Rattle.witness_writing.proofs.Filling.{values_inside}
use Rattle.map_parts.specs.Values.{IsFiledContraction}
use Rattle.map_parts.proofs.Contracting.{value_sorted, value_closed, value_acyclic}
use Rattle.map_parts.proofs.values.contracted_at.Goals as goal

pub value_of-requires-clause-named : goal.value_of-requires-clause-named
value_of-requires-clause-named g c = c.requires.carrier.1.named

pub value_of-requires-clause-into : goal.value_of-requires-clause-into
value_of-requires-clause-into g c = c.requires.carrier.1.acyclic.inside

pub contracted-requires : goal.contracted-requires
contracted-requires g c =
    let p = g.row.P in
    let f = c.args.cube_map.now.named in
    let d = c.args.domain.now.cells in
    let r = c.args.range.now.cells in
    let i = c.args.place in
    let v = c.deref.result.now in
    let l : i < length (cells_of d) = omega (arith, ap length c.requires.cells, c.requires.inside) in
    let e : v ≡ value_in f d r i = c.deref.ensures.value ∙ c.in_ok-value.ensures in (
      (omega arith),
      (
        (omega arith),
        (
          value_sorted p f d r v i c.requires.carrier l e,
          (
            value_closed p f d r v i c.requires.carrier l e,
            (value_acyclic p f d r v i c.requires.carrier l e, (values_inside f d r i v c.args.all.now e c.requires.all, c.requires.few)),
          ),
        ),
      ),
    )

pub returns : goal.returns
returns g c =
    let f = c.args.cube_map.now.named in
    let d = c.args.domain.now.cells in
    let r = c.args.range.now.cells in
    let made = c.in_ok-made.made in
    subst (λ (l : List (List Factor)). IsFiledContraction g.row.P l (value_in f d r c.args.place) made.0 made.1.items) c.requires.all
    (subst (λ (v : List (List Factor)). IsFiledContraction g.row.P c.args.all.now v made.0 made.1.items) (c.deref.ensures.value ∙ c.in_ok-value.ensures) c.in_ok-made.ensures)
