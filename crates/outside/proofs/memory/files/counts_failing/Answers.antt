-- What is left to show of `counts_failing`.
use Rattle.std.proofs.Common.{◌+◌, arith, sym}
use Rattle.outside.proofs.Absent.{not_among}
use Rattle.outside.proofs.memory.files.counts_failing.Goals as goal

pub returns-in-None-clause-value : goal.returns-in-None-clause-value
returns-in-None-clause-value c = sym (not_among c.args.failing.now (c.args.calls.now + 1)
    (λ k h. let fits = c.type_inv.failing k in let none = c.in-None.ensures in omega (arith, fits, none)))
