use Rattle.std.proofs.Common.{◌≡◌, drop}
use Rattle.parsing.proofs.Finding.{with_operands}
use Rattle.parsing.proofs.found.add_operands.Given as goal

abbrev pub invariant-loop-word : goal.invariant-loop-word
invariant-loop-word l = with_operands l.arguments (drop l.word-index l.words) ≡ with_operands l.fn.arguments l.words
