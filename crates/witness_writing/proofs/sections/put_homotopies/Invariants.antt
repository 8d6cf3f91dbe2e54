use Rattle.std.proofs.Common.{◌≡◌, ◌++◌, ◌∷◌, [], suc}
use Rattle.std.specs.Prelude.{codes}
use Rattle.elem_cubes.specs.Laws.{cell_at}
use Rattle.cell_complex.specs.Numbering.{number_of}
use Rattle.witness_laws.specs.Lines.{each, chain_line}
use Rattle.witness_laws.specs.Parts.{nth}
use Rattle.witness_writing.proofs.sections.put_homotopies.Given as goal

abbrev pub invariant-loop-place : goal.invariant-loop-place
invariant-loop-place g l = l.to.items ≡ l.initial.to.items ++ each l.place (λ i. chain_line (codes "h") (suc (number_of l.all (cell_at l.cells i)) ∷ []) (nth l.chains i))
