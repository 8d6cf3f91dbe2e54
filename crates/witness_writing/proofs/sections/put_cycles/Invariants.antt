use Rattle.std.proofs.Common.{◌≡◌, ◌++◌, ◌∷◌, [], map}
use Rattle.std.specs.Prelude.{codes, slice_index}
use Rattle.witness_laws.specs.Lines.{each, chain_line}
use Rattle.witness_laws.specs.Parts.{nth}
use Rattle.witness_types.specs.Parts.{degrees_of}
use Rattle.witness_writing.proofs.sections.put_cycles.Given as goal

abbrev pub invariant-loop-place : goal.invariant-loop-place
invariant-loop-place g l = l.to.items ≡ l.initial.to.items ++ each l.place (λ i. chain_line (codes "z") (slice_index (degrees_of l.cycles) i ∷ []) (nth (map (λ z. z.1) l.cycles) i))
