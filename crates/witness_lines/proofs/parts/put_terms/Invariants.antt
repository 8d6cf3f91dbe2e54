use Rattle.std.proofs.Common.{◌≡◌, ◌++◌, take}
use Rattle.witness_laws.specs.Lines.{chain_text}
use Rattle.witness_lines.proofs.parts.put_terms.Given as goal

abbrev pub invariant-loop-place : goal.invariant-loop-place
invariant-loop-place g l = l.to.items ≡ l.initial.to.items ++ chain_text (take l.place l.chain)
