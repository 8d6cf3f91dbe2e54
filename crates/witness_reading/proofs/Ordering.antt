-- The degrees of cycles that were read never fall.
use Rattle.std.proofs.Common.{ℕ, zero, suc, ◌<◌, ◌≤◌, arith, List, [], ◌∷◌, length, get_or}
use Rattle.witness_reading.proofs.Flat.{Rising}

-- each is between the bounds
pub between : (low high : ℕ) (ds : List ℕ) → Rising low high ds → (i : ℕ) → i < length ds → (low ≤ get_or ds i 0) × (get_or ds i 0 ≤ high)
between low high [] r i l = absurd (omega arith)
between low high (d ∷ ds) r zero l = (r.0, r.1)
between low high (d ∷ ds) r (suc i) l =
    let w = between d high ds r.2 i (omega arith) in
    let a : low ≤ d = r.0 in
    let b : d ≤ get_or ds i 0 = w.0 in
    (omega arith, w.1)

-- and none is above a later one
pub never_fall : (low high : ℕ) (ds : List ℕ) → Rising low high ds → (i j : ℕ) → i < j → j < length ds → get_or ds i 0 ≤ get_or ds j 0
never_fall low high [] r i j l q = absurd (omega arith)
never_fall low high (d ∷ ds) r i zero l q = absurd (omega arith)
never_fall low high (d ∷ ds) r zero (suc j) l q = (between d high ds r.2 j (omega arith)).0
never_fall low high (d ∷ ds) r (suc i) (suc j) l q = never_fall d high ds r.2 i j (omega arith) (omega arith)
