use Rattle.std.proofs.Common.{◌≡◌, ◌∙◌, length, sym, subst}
use Rattle.field_mod.proofs.Table.{two_le}
use Rattle.witness_sections.specs.Readings.{AreRead}
use Rattle.witness_sections.proofs.Parting.{transposed_as, complex_as, section_from}
use Rattle.witness_sections.proofs.section.section_of.Goals as goal

pub returns-clause-section : goal.returns-clause-section
returns-clause-section g c =
    let p = g.row.P in
    let cells = c.args.cells.now in
    let to = c.args.to.now in
    let K = c.of-complex.result in
    let bs : c.deref.result.now ≡ K.boundaries = c.deref.ensures.value ∙ sym c.of-complex.ensures.boundaries in
    section_from c.args.x.now.cells c.args.a.now.cells cells to c.args.part.now c.args.top _ c.requires.cells c.requires.relative (two_le p c.args.field.listed)
    (complex_as p to K c.in_ok-complex.complex (c.of-complex.ensures.degrees ∙ c.into_parts-degrees.ensures.degrees) (c.of-complex.ensures.boundaries ∙ c.into_parts-degrees.ensures.boundaries) c.in_ok-complex.ensures)
    (c.in_ok-coboundaries.ensures.count ∙ c.len.ensures.count)
    (transposed_as p c.len.result (length to) c.deref.result.now K.boundaries c.in_ok-coboundaries.coboundaries.items c.len.ensures.count bs c.in_ok-coboundaries.ensures.value)
    c.in_ok-degrees.ensures c.requires.readable.each
    (subst (λ ys. AreRead p cells to ys c.in_ok-homotopies.homotopies.items) c.deref-2.ensures.value c.in_ok-homotopies.ensures)
