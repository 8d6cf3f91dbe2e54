-- Sums of multiples of chains, while they are gathered.
use Rattle.std.proofs.Common.{◌≡◌, ℕ, ◌+◌, ◌*◌, ◌%◌, ◌<◌, ◌≤◌, ◌∙◌, List, [], length, get_or, take}
use Rattle.std.proofs.lemmas.List.{get_or_default}
use Rattle.field_mod.specs.Modular.{Same}
use Rattle.chains.specs.Terms.{coefficient}
use Rattle.chains.specs.ChainComplex.{boundary}
use Rattle.chains.proofs.Boundary.{products_next, products_end}

-- the chain b of one more term t, times the number of t
pub summed_more : (p : ℕ) (bs : List (List (ℕ × ℕ))) (ts : List (ℕ × ℕ)) (i : ℕ) (t : ℕ × ℕ) (b now new : List (ℕ × ℕ)) → i < length ts → t ≡ get_or ts i (0, 0) → t.0 < length bs → b ≡ get_or bs t.0 []
    → ((h : ℕ) → Same p (coefficient now h) (boundary bs (coefficient (take i ts)) h)) → ((h : ℕ) → Same p (coefficient new h) (coefficient now h + t.1 * coefficient b h)) → (h : ℕ) → Same p (coefficient new h) (boundary bs (coefficient (take (i + 1) ts)) h)
summed_more p bs ts i t b now new l term inside at so_far added h =
    products_next p bs ts b t i h (coefficient now h) (coefficient new h) l term inside (at ∙ get_or_default bs t.0 [] b inside) (so_far h) (added h)

pub summed_end : (p : ℕ) (bs : List (List (ℕ × ℕ))) (ts : List (ℕ × ℕ)) (i : ℕ) (now new : List (ℕ × ℕ)) → length ts ≤ i → ((h : ℕ) → Same p (coefficient now h) (boundary bs (coefficient (take i ts)) h)) → ((h : ℕ) → coefficient new h ≡ coefficient now h % p)
    → (h : ℕ) → coefficient new h ≡ boundary bs (coefficient ts) h % p
summed_end p bs ts i now new l so_far e h = products_end p bs ts i h (coefficient new h) (coefficient now h) l (so_far h) (e h)
