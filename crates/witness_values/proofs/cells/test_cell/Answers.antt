use Rattle.std.proofs.Common.{◌≡◌, ◌∙◌, ◌<◌, [], length, get_or, map, sym, ap, subst, arith}
use Rattle.std.proofs.lemmas.Result.{err_from_is_err_and}
use Rattle.std.proofs.lemmas.List.{get_or-map, get_or_default}
use Rattle.witness_sections.specs.Readings.{AreRead}
use Rattle.witness_values.specs.Images.{IsImageOutcome}
use Rattle.witness_values.proofs.Sides.{value_pair}
use Rattle.witness_values.proofs.Celling.{fillings_fault_of, cell_passed, image_fault_of, fillings_size, cell_in_complex, images_size, image_inside, image_named}
use Rattle.witness_values.proofs.cells.test_cell.Goals as goal

pub complex_of-requires : goal.complex_of-requires
complex_of-requires g c =
    let s = c.args.sides.now in
    let m = c.args.map.now.named in
    let set = c.args.set.now.cells in
    let part = c.args.part.now in
    let i = c.args.cell in
    let w = c.requires.witness in
    ((omega arith), ((omega arith), value_pair s m set part w.given w.tables w.are i c.requires.cell c.in_ok-value.value (c.in_ok-value.ensures w.given w.tables w.are)))

pub test_fillings-requires : goal.test_fillings-requires
test_fillings-requires g c =
    let s = c.args.sides.now in
    let m = c.args.map.now.named in
    let set = c.args.set.now.cells in
    let part = c.args.part.now in
    let i = c.args.cell in
    let w = c.requires.witness in
    let xs = part.contractions.items in
    let r = c.index-chains.result.now in
    let lx : i < length xs = let e = w.are.filling_count in omega (arith, e, c.requires.cell) in
    let is_chains : c.deref.result.now ≡ get_or (map (λ u. u.items) xs) i [] = c.deref.ensures.value ∙ sym (get_or-map (λ u. u.items) xs i r [] lx ∙ ap (λ u. u.items) (sym c.index-chains.ensures)) in
    let a = ap length c.deref-2.ensures.value in
    let b = c.in_ok-fillings.ensures.count in
    let d = ap length is_chains in
    let size = fillings_size s m set part w.given w.tables w.are i c.requires.cell c.in_ok-value.value c.deref-2.result.now c.deref.result.now (length c.in_ok-complex.complex.boundaries) (c.in_ok-value.ensures w.given w.tables w.are) is_chains (a ∙ b) c.in_ok-complex.ensures.count in
    ((omega arith), ((omega arith), ((omega arith), (size, omega (arith, a, b, d, c.requires.room)))))

pub returns-in_err-next-clause-err : goal.returns-in_err-next-clause-err
returns-in_err-next-clause-err g c =
    let s = c.args.sides.now in
    let m = c.args.map.now.named in
    let set = c.args.set.now.cells in
    let part = c.args.part.now in
    let i = c.args.cell in
    let w = c.requires.witness in
    let xs = part.contractions.items in
    let r = c.index-chains.result.now in
    let lx : i < length xs = let e = w.are.filling_count in omega (arith, e, c.requires.cell) in
    let is_chains : c.deref.result.now ≡ get_or (map (λ u. u.items) xs) i [] = c.deref.ensures.value ∙ sym (get_or-map (λ u. u.items) xs i r [] lx ∙ ap (λ u. u.items) (sym c.index-chains.ensures)) in
    let V = c.in_ok-value.value in
    let K = c.in_ok-complex.complex in
    let hs = c.deref-2.result.now in
    let read = subst (λ ys. AreRead g.row.P s.range V c.deref.result.now ys) (sym c.deref-2.ensures.value) c.in_ok-fillings.ensures in
    let lv : i < length part.vertices.items = let e = w.are.vertex_count in omega (arith, e, c.requires.cell) in
    let number : c.index.result.now ≡ get_or part.vertices.items i 0 = c.index.ensures ∙ get_or_default part.vertices.items i c.index.result.now 0 lv in
    let p = err_from_is_err_and c.from_residual-in_err-next.result c.from_residual-in_err-next.ensures.1 in
    rw (p.1, p.2) (fillings_fault_of s m set part i c.requires.cell V K hs c.deref.result.now c.vertex_place-vertex.result c.index.result.now c.in_ok-value.ensures c.in_ok-complex.ensures read is_chains number c.vertex_place-vertex.ensures c.args.line 0 c.in_err-next.field-0.0 c.in_err-next.ensures.err)

pub image_fault-requires : goal.image_fault-requires
image_fault-requires g c =
    let s = c.args.sides.now in
    let m = c.args.map.now.named in
    let set = c.args.set.now.cells in
    let part = c.args.part.now in
    let i = c.args.cell in
    let w = c.requires.witness in
    let image = c.index-image.result.now in
    let chain : image ≡ get_or part.images.items i [] = c.index-image.ensures ∙ get_or_default part.images.items i image [] (image_inside s m set part w.given w.tables w.are i c.requires.cell) in
    ((omega arith), ((omega arith), ((omega arith), (cell_in_complex s m set part w.given w.tables w.are i c.requires.cell, (ap length c.deref-3.ensures.value ∙ images_size s m set part w.given w.tables w.are i c.requires.cell, image_named s m set part w.given w.tables w.are i c.requires.cell image chain)))))

pub returns-in-Some-clause-err : goal.returns-in-Some-clause-err
returns-in-Some-clause-err g c =
    let s = c.args.sides.now in
    let m = c.args.map.now.named in
    let set = c.args.set.now.cells in
    let part = c.args.part.now in
    let i = c.args.cell in
    let w = c.requires.witness in
    let xs = part.contractions.items in
    let r = c.index-chains.result.now in
    let lx : i < length xs = let e = w.are.filling_count in omega (arith, e, c.requires.cell) in
    let is_chains : c.deref.result.now ≡ get_or (map (λ u. u.items) xs) i [] = c.deref.ensures.value ∙ sym (get_or-map (λ u. u.items) xs i r [] lx ∙ ap (λ u. u.items) (sym c.index-chains.ensures)) in
    let V = c.in_ok-value.value in
    let K = c.in_ok-complex.complex in
    let hs = c.deref-2.result.now in
    let read = subst (λ ys. AreRead g.row.P s.range V c.deref.result.now ys) (sym c.deref-2.ensures.value) c.in_ok-fillings.ensures in
    let lv : i < length part.vertices.items = let e = w.are.vertex_count in omega (arith, e, c.requires.cell) in
    let number : c.index.result.now ≡ get_or part.vertices.items i 0 = c.index.ensures ∙ get_or_default part.vertices.items i c.index.result.now 0 lv in
    let image = c.index-image.result.now in
    let chain : image ≡ get_or part.images.items i [] = c.index-image.ensures ∙ get_or_default part.images.items i image [] (image_inside s m set part w.given w.tables w.are i c.requires.cell) in
    let outcome = subst (λ ys. IsImageOutcome g.row.P s.domain_complex s.range_complex s.range V image ys i c.in_ok-fault.fault) c.deref-3.ensures.value c.in_ok-fault.ensures.outcome in
    image_fault_of s m set part i c.requires.cell V K hs c.deref.result.now c.vertex_place-vertex.result c.index.result.now c.in_ok-value.ensures c.in_ok-complex.ensures read is_chains number c.vertex_place-vertex.ensures c.args.line c.in_ok-next.next c.in_ok-next.ensures.ok image chain c.in_ok-fault.fault outcome c.in-Some.law c.in-Some.is

pub returns-clause-ok : goal.returns-clause-ok
returns-clause-ok g c =
    let s = c.args.sides.now in
    let m = c.args.map.now.named in
    let set = c.args.set.now.cells in
    let part = c.args.part.now in
    let i = c.args.cell in
    let w = c.requires.witness in
    let xs = part.contractions.items in
    let r = c.index-chains.result.now in
    let lx : i < length xs = let e = w.are.filling_count in omega (arith, e, c.requires.cell) in
    let is_chains : c.deref.result.now ≡ get_or (map (λ u. u.items) xs) i [] = c.deref.ensures.value ∙ sym (get_or-map (λ u. u.items) xs i r [] lx ∙ ap (λ u. u.items) (sym c.index-chains.ensures)) in
    let V = c.in_ok-value.value in
    let K = c.in_ok-complex.complex in
    let hs = c.deref-2.result.now in
    let read = subst (λ ys. AreRead g.row.P s.range V c.deref.result.now ys) (sym c.deref-2.ensures.value) c.in_ok-fillings.ensures in
    let lv : i < length part.vertices.items = let e = w.are.vertex_count in omega (arith, e, c.requires.cell) in
    let number : c.index.result.now ≡ get_or part.vertices.items i 0 = c.index.ensures ∙ get_or_default part.vertices.items i c.index.result.now 0 lv in
    let image = c.index-image.result.now in
    let chain : image ≡ get_or part.images.items i [] = c.index-image.ensures ∙ get_or_default part.images.items i image [] (image_inside s m set part w.given w.tables w.are i c.requires.cell) in
    let outcome = subst (λ ys. IsImageOutcome g.row.P s.domain_complex s.range_complex s.range V image ys i c.in_ok-fault.fault) c.deref-3.ensures.value c.in_ok-fault.ensures.outcome in
    cell_passed s m set part i c.requires.cell V K hs c.deref.result.now c.vertex_place-vertex.result c.index.result.now c.in_ok-value.ensures c.in_ok-complex.ensures read is_chains number c.vertex_place-vertex.ensures c.args.line c.in_ok-next.next c.in_ok-next.ensures.ok image chain c.in_ok-fault.fault outcome c.in-None.is
