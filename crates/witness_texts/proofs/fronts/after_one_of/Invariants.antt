use Rattle.std.proofs.Common.{drop}
use Rattle.witness_texts.specs.Fronts.{NamesNone}
use Rattle.witness_texts.proofs.fronts.after_one_of.Given as goal

abbrev pub invariant-loop-modulus : goal.invariant-loop-modulus
invariant-loop-modulus l = NamesNone l.bytes (drop l.modulus-index l.moduli) → NamesNone l.bytes l.moduli
