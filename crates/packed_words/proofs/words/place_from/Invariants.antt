use Rattle.std.proofs.Common.{◌≡◌, ◌≤◌, ◌-◌, true, get_or}
use Rattle.std.specs.declared.cmp.Ordering.TheVariants.{Less}
use Rattle.packed_words.specs.Words.{key_cmp, no_key}
use Rattle.packed_words.proofs.words.place_from.Given as goal

abbrev pub invariant-few : goal.invariant-few
invariant-few l = l.below ≡ true → (1 ≤ l.place) × (key_cmp (get_or l.keys (l.place - 1) no_key) l.key ≡ Less)
