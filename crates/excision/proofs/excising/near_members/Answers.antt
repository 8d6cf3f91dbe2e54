use Rattle.std.proofs.Common.{◌∙◌, ◌+◌, ap, sym, take, List}
use Rattle.std.specs.List.{filter}
use Rattle.elem_cubes.specs.Cells.{Factor}
use Rattle.excision.specs.Excision.{touches}
use Rattle.excision.proofs.Sharing.{touch_told, near_skip, near_more}
use Rattle.excision.proofs.excising.near_members.Goals as goal

pub loop-cell-preserved-then-not-has_vertex_in : goal.loop-cell-preserved-then-not-has_vertex_in
loop-cell-preserved-then-not-has_vertex_in c =
    let t = touches c.args.x.now.cells in
    let i = c.loop-cell.cell-index in
    let e = c.cells-cell-items.ensures.cells in
    near_skip t c.cells-cell-items.result.now c.loop-cell.near.items i c.cell-item.result c.loop-cell-test.true c.cell-item.is
    (sym (touch_told c.args.x.now c.in_ok-faces.faces c.cell-item.result c.has_vertex_in.result c.in_ok-faces.ensures c.has_vertex_in.ensures) ∙ c.if-not-has_vertex_in.true)
    (c.loop-cell.invariant ∙ ap (λ (xs : List (List Factor)). filter t (take i xs)) (sym e))
    ∙ ap (λ (xs : List (List Factor)). filter t (take (i + 1) xs)) e

pub loop-cell-preserved : goal.loop-cell-preserved
loop-cell-preserved c =
    let t = touches c.args.x.now.cells in
    let i = c.loop-cell.cell-index in
    let e = c.cells-cell-items.ensures.cells in
    near_more t c.cells-cell-items.result.now c.loop-cell.near.items c.push.new.self.items i c.cell-item.result c.loop-cell-test.true c.cell-item.is
    (sym (touch_told c.args.x.now c.in_ok-faces.faces c.cell-item.result c.has_vertex_in.result c.in_ok-faces.ensures c.has_vertex_in.ensures) ∙ c.if-not-has_vertex_in.false) c.in_ok-push.ensures.items
    (c.loop-cell.invariant ∙ ap (λ (xs : List (List Factor)). filter t (take i xs)) (sym e))
    ∙ ap (λ (xs : List (List Factor)). filter t (take (i + 1) xs)) e
