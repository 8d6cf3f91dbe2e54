use Rattle.std.proofs.Common.{◌≡◌, ◌∷◌, [], suc, ap, ◌∙◌, arith}
use Rattle.std.specs.Prelude.{codes}
use Rattle.elem_cubes.specs.Laws.{cell_at}
use Rattle.cell_complex.specs.Numbering.{number_of}
use Rattle.witness_laws.specs.Lines.{chain_line}
use Rattle.witness_laws.specs.Parts.{nth}
use Rattle.witness_writing.proofs.Filling.{grown, found_at}
use Rattle.witness_writing.proofs.sections.put_homotopies.Goals as goal

pub loop-place-preserved : goal.loop-place-preserved
loop-place-preserved g c =
    let all = c.args.all.now in
    let i = c.loop-place.place in
    let n : c.number_in-number.result ≡ suc (number_of all (cell_at c.args.cells.now i)) = c.number_in-number.ensures ∙ ap (λ q. suc (number_of all q)) c.cell.ensures in
    let e = found_at c.args.chains.now i _ [] (omega (arith, c.loop-place-test.true, c.requires.count, c.len-place-end.ensures.count)) c.index-chains-place.is in
    grown i (λ j. chain_line (codes "h") (suc (number_of all (cell_at c.args.cells.now j)) ∷ []) (nth c.args.chains.now j)) _ _ _ _ c.in_ok-put_chain_line.ensures
    (ap (λ m. chain_line (codes "h") (m ∷ []) c.index-chains-place.result) n ∙ ap (chain_line (codes "h") (suc (number_of all (cell_at c.args.cells.now i)) ∷ [])) e) c.loop-place.invariant
