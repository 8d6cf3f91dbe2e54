-- The bytes at the front that pass a test, as long as possible.
use Rattle.std.proofs.Common.{◌≡◌, ℕ, ◌≤◌, List, [], ◌∷◌, length, Bool, true, false, cond, ap, ◌∙◌, arith, take_while}
use Rattle.std.proofs.lemmas.List.Sums.{take_while-cons, prefix_len-le-length}
use Rattle.std.proofs.lemmas.List.Folds.{length-prefix_len}

pub take_while-yes : (p : ℕ → Bool) (b : ℕ) (bs : List ℕ) → p b ≡ true → take_while p (b ∷ bs) ≡ b ∷ take_while p bs
take_while-yes p b bs h = take_while-cons p b bs ∙ ap (λ t. cond t (b ∷ take_while p bs) []) h

pub take_while-no : (p : ℕ → Bool) (b : ℕ) (bs : List ℕ) → p b ≡ false → take_while p (b ∷ bs) ≡ []
take_while-no p b bs h = take_while-cons p b bs ∙ ap (λ t. cond t (b ∷ take_while p bs) []) h

pub length-take_while-le : (p : ℕ → Bool) (bs : List ℕ) → length (take_while p bs) ≤ length bs
length-take_while-le p bs = omega (arith, length-prefix_len p bs, prefix_len-le-length p bs)
