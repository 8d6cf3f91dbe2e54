use Rattle.std.proofs.Common.{◌^◌, ◌≤◌, take}
use Rattle.chains.specs.Terms.{IsNormalWithin}
use Rattle.chains.proofs.terms.are_normal.Given as goal

abbrev pub invariant-loop-generator : goal.invariant-loop-generator
invariant-loop-generator g l = IsNormalWithin g.row.P 0 l.least (take l.generator-index l.terms) × (l.least ≤ 2 ^ 32)
