-- A text written by several writes, each of which is handed all that is left.
use Rattle.std.specs.Prelude.{ℕ, ◌+◌, ◌<◌, ◌⊎◌, List, length, drop, Result, Ok, Err}

-- Writes took so many of the bytes, each handed all that was left; this is the sink then. `write`
-- says which writes may happen: the sink before, the piece, the answer, the sink after.
pub data Handed {S E : Type 0} (write : S → List ℕ → Result ℕ E → S → Type 0) (before : S)
    (bytes : List ℕ) : ℕ → S → Type 0 where
  none : Handed write before bytes 0 before
  more : (sent n : ℕ) (s t : S) → Handed write before bytes sent s
      → write s (drop sent bytes) (Ok n) t → Handed write before bytes (sent + n) t

-- All were taken so; or the write that was handed the rest failed, or took nothing.
abbrev pub HandsAll : {S E : Type 0} → (S → List ℕ → Result ℕ E → S → Type 0) → S → List ℕ
    → Result (Unit {0}) E → S → Type 0
HandsAll write before bytes (Ok _) now = Handed write before bytes (length bytes) now
HandsAll {S} write before bytes (Err e) now = (sent : ℕ) × (last : S) × (sent < length bytes)
    × Handed write before bytes sent last
    × (write last (drop sent bytes) (Err e) now ⊎ write last (drop sent bytes) (Ok 0) now)
