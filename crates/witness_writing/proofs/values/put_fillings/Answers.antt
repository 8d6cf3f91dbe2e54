use Rattle.std.proofs.Common.{◌≡◌, ◌∷◌, [], suc, ap, ◌∙◌, arith}
use Rattle.std.specs.Prelude.{codes}
use Rattle.elem_cubes.specs.Laws.{cell_at}
use Rattle.cell_complex.specs.Numbering.{number_of}
use Rattle.witness_laws.specs.Lines.{chain_line}
use Rattle.witness_laws.specs.Parts.{nth}
use Rattle.witness_writing.proofs.Filling.{grown, found_at}
use Rattle.witness_writing.proofs.values.put_fillings.Goals as goal

pub loop-place-preserved : goal.loop-place-preserved
loop-place-preserved g c =
    let all = c.args.all.now in
    let i = c.loop-place.place in
    let q = found_at c.args.value.now i c.index-value-place.result [] (omega (arith, c.loop-place-test.true, c.requires.count)) c.index-value-place.is in
    let n : c.number_in.result ≡ suc (number_of all (cell_at c.args.value.now i)) = c.number_in.ensures ∙ ap (λ r. suc (number_of all r)) q in
    let e = found_at c.args.chains.now i c.index-chains-place.result [] c.loop-place-test.true c.index-chains-place.is in
    grown i (λ m. chain_line (codes "g") (c.args.number ∷ suc (number_of all (cell_at c.args.value.now m)) ∷ []) (nth c.args.chains.now m)) c.args.to.now.items c.loop-place.to.items c.put_chain_line.new.to.items
    (chain_line (codes "g") (c.args.number ∷ c.number_in.result ∷ []) c.index-chains-place.result) c.in_ok-put_chain_line.ensures
    (ap (λ m. chain_line (codes "g") (c.args.number ∷ m ∷ []) c.index-chains-place.result) n ∙ ap (chain_line (codes "g") (c.args.number ∷ suc (number_of all (cell_at c.args.value.now i)) ∷ [])) e) c.loop-place.invariant
