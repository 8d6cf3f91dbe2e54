-- A number that is above all those of a list is not among them.
use Rattle.std.proofs.Common.{◌≡◌, ℕ, suc, ◌<◌, List, [], ◌∷◌, length, get_or, refl, arith, false, eqb}
use Rattle.std.proofs.lemmas.Bool.Decides.{nat_tests}
use Rattle.outside.specs.Memory.{is_among}

pub not_among : (xs : List ℕ) (n : ℕ) → ((k : ℕ) → k < length xs → get_or xs k 0 < n) → is_among xs n ≡ false
not_among [] n below = refl
not_among (x ∷ xs) n below =
    let here : x < n = below 0 (omega arith) in
    let e : eqb x n ≡ false = grind (arith, nat_tests) in
    rw e (not_among xs n (λ k h. below (suc k) (omega arith)))
