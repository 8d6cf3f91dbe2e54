use Rattle.std.proofs.Common.{◌≡◌, ◌≤◌, ℕ, Bool, true, false, cond, arith, sym, subst}
use Rattle.word_tests.proofs.word_tests.words_alive.Goals as goal

-- a state that is 0 or 1
few : (b : Bool) (s : ℕ) → s ≡ cond b 1 0 → s ≤ 1
few true s e = omega arith
few false s e = omega arith

pub returns : goal.returns
returns c = λ q. few _ _ (c.in_ok-words.ensures.states q)
