use Rattle.std.proofs.Common.{◌≡◌, ◌<◌, List, length, ap, arith, ◌∙◌, subst}
use Rattle.std.proofs.lemmas.Result.{IfOk-weaker}
use Rattle.elem_cubes.specs.Cells.{Factor}
use Rattle.elem_cubes.specs.Laws.{cell_at}
use Rattle.cube_sets.specs.Closures.{is_cell_of, cells_of}
use Rattle.acyclic_values.specs.Values.{IsValueAt}
use Rattle.witness_writing.specs.Runs.{value_in}
use Rattle.witness_writing.proofs.Filling.{cell_listed, value_is}
use Rattle.map_parts.proofs.values.value_of.Goals as goal

pub value_at-requires-clause-cell : goal.value_at-requires-clause-cell
value_at-requires-clause-cell c =
    let d = c.args.domain.now.cells in
    let l : c.args.place < length (cells_of d) = omega (arith, ap length c.requires.cells, c.requires.inside) in
    ap (is_cell_of d) (c.cell.ensures ∙ ap (λ (all : List (List Factor)). cell_at all c.args.place) c.requires.cells) ∙ cell_listed d c.args.place l

pub returns : goal.returns
returns c =
    let f = c.args.cube_map.now.named in
    let d = c.args.domain.now.cells in
    let r = c.args.range.now.cells in
    let i = c.args.place in
    let l : i < length (cells_of d) = omega (arith, ap length c.requires.cells, c.requires.inside) in
    let e = c.cell.ensures ∙ ap (λ (all : List (List Factor)). cell_at all i) c.requires.cells in
    IfOk-weaker c.value_at.result (λ value. IsValueAt f d c.cell.result value.items) (λ value. value.items ≡ value_in f d r i)
    (λ value h. value_is f d r value.items i c.requires.into l (subst (λ (q : List Factor). IsValueAt f d q value.items) e h)) c.value_at.ensures
