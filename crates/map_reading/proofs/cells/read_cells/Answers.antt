use Rattle.std.proofs.Common.{◌≡◌, ◌<◌, ◌∙◌, ℕ, List, [], ap, arith, length, map, subst, sym}
use Rattle.elem_cubes.specs.Cells.{Factor}
use Rattle.cube_maps.specs.CubeMaps.{Naming}
use Rattle.map_lines.specs.Cells.{AreSides, HasAllCells}
use Rattle.map_lines.proofs.Growing.{AreCells, no_cells, one_more, cell_stops}
use Rattle.map_reading.proofs.cells.read_cells.Goals as goal

-- nothing is read at first
none_read : (p : ℕ) (f : List Naming) (domain range : List (List Factor)) (bytes vs : List ℕ) (cs : List (List (List (ℕ × ℕ)))) (ms : List (List (ℕ × ℕ)))
    → vs ≡ [] → cs ≡ [] → ms ≡ [] → AreCells p f domain range 0 bytes vs cs ms bytes
none_read p f domain range bytes vs cs ms a b d =
    subst (λ (l : List ℕ). AreCells p f domain range 0 bytes l cs ms bytes) (sym a)
    (subst (λ (l : List (List (List (ℕ × ℕ)))). AreCells p f domain range 0 bytes [] l ms bytes) (sym b)
    (subst (λ (l : List (List (ℕ × ℕ))). AreCells p f domain range 0 bytes [] [] l bytes) (sym d) (no_cells p f domain range bytes)))

-- all cells are read at last
all_read : (p : ℕ) (f : List Naming) (domain range cells all : List (List Factor)) (count : ℕ) (bytes vs : List ℕ) (cs : List (List (List (ℕ × ℕ)))) (ms : List (List (ℕ × ℕ))) (rest : List ℕ)
    → AreSides f domain range cells all → count ≡ length cells → AreCells p f domain range count bytes vs cs ms rest → HasAllCells p f domain range bytes vs cs ms rest
all_read p f domain range cells all count bytes vs cs ms rest sides e h = record { many = h.many ∙ e ∙ ap length sides.cells_are; cells = h.cells }

pub loop-place-init : goal.loop-place-init
loop-place-init g c =
    none_read g.row.P c.args.cube_map.now.named c.args.domain.now.cells c.args.range.now.cells c.args.bytes.now c.new.result.items (map (λ v. v.items) c.new-2.result.items) c.new-3.result.items
    c.new.ensures.items (ap (map (λ v. v.items)) c.new-2.ensures.items) c.new-3.ensures.items

pub read_cell-requires : goal.read_cell-requires
read_cell-requires g c =
    let l : c.loop-place.place < length c.args.cells.now = omega (arith, c.loop-place-test.true, c.len-place-end.ensures.count) in
    ((omega arith), ((omega arith), (c.requires, (c.deref.ensures.value ∙ c.in_ok-kinds.ensures, l))))

pub loop-place-preserved : goal.loop-place-preserved
loop-place-preserved g c =
    one_more g.row.P c.args.cube_map.now.named c.args.domain.now.cells c.args.range.now.cells c.loop-place.place c.args.bytes.now
    c.loop-place.parts.vertices.items (map (λ v. v.items) c.loop-place.parts.contractions.items) c.loop-place.parts.images.items c.loop-place.rest.now
    c.in-Ok.part.vertex c.in-Ok.part.contraction.items c.in-Ok.part.image c.in-Ok.behind.now
    c.keep_cell.new.parts.vertices.items (map (λ v. v.items) c.keep_cell.new.parts.contractions.items) c.keep_cell.new.parts.images.items
    c.in_ok-keep_cell-in-Ok.ensures.vertices c.in_ok-keep_cell-in-Ok.ensures.fillings c.in_ok-keep_cell-in-Ok.ensures.images c.loop-place.invariant c.in-Ok.ensures.ok

pub returns-in-Err-clause-err : goal.returns-in-Err-clause-err
returns-in-Err-clause-err g c =
    cell_stops g.row.P c.args.cube_map.now.named c.args.domain.now.cells c.args.range.now.cells c.loop-place.place c.args.bytes.now
    c.loop-place.parts.vertices.items (map (λ v. v.items) c.loop-place.parts.contractions.items) c.loop-place.parts.images.items c.loop-place.rest.now c.in-Err.stop
    (omega (arith, c.loop-place-test.true, c.len-place-end.ensures.count, ap length c.requires.cells_are)) c.loop-place.invariant c.in-Err.ensures.err

pub returns-clause-ok : goal.returns-clause-ok
returns-clause-ok g c =
    all_read g.row.P c.args.cube_map.now.named c.args.domain.now.cells c.args.range.now.cells c.args.cells.now c.args.all.now c.loop-place.place c.args.bytes.now
    c.loop-place.parts.vertices.items (map (λ v. v.items) c.loop-place.parts.contractions.items) c.loop-place.parts.images.items c.loop-place.rest.now c.requires
    (omega (arith, c.loop-place-test.false, c.len-place-end.ensures.count, c.loop-place.auto.place-end)) c.loop-place.invariant
