-- What is left to show of `append`.
use Rattle.std.proofs.Common.{◌≡◌, ◌∙◌, sym, inr, arith, Result, Ok, Err, OnOk, OnErr, is_err, true, false}
use Rattle.outside.proofs.Held.{stays-may, tears-may}
use Rattle.outside.proofs.memory.files.MemFilesFiles.append.Goals as goal

at_err : {T E : Type 0} (r : Result T E) (P : Type 0) → is_err r ≡ true → OnErr r P → P
at_err (Ok x) P h p = absurd (cc)
at_err (Err e) P h p = p

at_ok : {T E : Type 0} (r : Result T E) (P : Type 0) → is_err r ≡ false → OnOk r P → P
at_ok (Ok x) P h p = p
at_ok (Err e) P h p = absurd (cc)

pub returns-then-is_err-clause-failed : goal.returns-then-is_err-clause-failed
returns-then-is_err-clause-failed c = stays-may _ _ _ _ _ (at_err c.tear.result _ (sym c.is_err.ensures.value ∙ c.if-is_err.true) c.tear.ensures.err)

pub returns-then-is_err-clause-fails : goal.returns-then-is_err-clause-fails
returns-then-is_err-clause-fails c =
    inr (omega (arith, c.saturating_add-self-then-is_err.ensures), at_err c.tear.result _ (sym c.is_err.ensures.value ∙ c.if-is_err.true) c.tear.ensures.err)

pub returns-else-is_err-clause-failed : goal.returns-else-is_err-clause-failed
returns-else-is_err-clause-failed c = tears-may c.args.self.now.keeps _ _ _ _ _ (at_ok c.tear.result _ (sym c.is_err.ensures.value ∙ c.if-is_err.false) c.tear.ensures.ok)

pub returns-then-is_err-2-clause-failed : goal.returns-then-is_err-2-clause-failed
returns-then-is_err-2-clause-failed c = stays-may _ _ _ _ _ (at_err c.put.result _ (sym c.is_err-2.ensures.value ∙ c.if-is_err-2.true) c.put.ensures.err)

pub returns-then-is_err-2-clause-fails : goal.returns-then-is_err-2-clause-fails
returns-then-is_err-2-clause-fails c =
    inr (omega (arith, c.saturating_add-self-then-is_err-2.ensures), at_err c.put.result _ (sym c.is_err-2.ensures.value ∙ c.if-is_err-2.true) c.put.ensures.err)
