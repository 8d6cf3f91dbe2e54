-- Reads and writes of real files and streams, told by what the standard library tells of them.
use Rattle.std.specs.Prelude.{◌≡◌, ℕ, ◌+◌, ◌<◌, ◌≤◌, List, length, drop, Option, Some, IfSome, IsSome, Result, Ok, Err}
use Rattle.outside.specs.Disk.{ReadsFrom}

-- A write took nothing, or failed.
abbrev pub TakesNothing : {E : Type 0} → Result ℕ E → Type 0
TakesNothing (Ok n) = n ≡ 0
TakesNothing (Err e) = Unit {0}

-- Where a file tells at which place it stands and all its bytes, reads give the bytes from there
-- on.
abbrev pub ReadsGoOn : {F : Type 0} → (F → Option (List ℕ)) → (F → Option ℕ)
    → (F → Option (List ℕ)) → Type 0
ReadsGoOn {F} remaining position bytes = (file : F)
    → IfSome (position file)
    (λ at. IfSome (bytes file) (λ all. remaining file ≡ Some (drop at all)))

-- The first n bytes of the buffer are those from the place on; they are fewer than fit only at the
-- end.
pub record FillsFrom (bytes : List ℕ) (at n : ℕ) (buf : List ℕ) : Type 0 where
  pub reads : ReadsFrom bytes at n buf
  pub short : n < length buf → length bytes ≤ at + n

-- A file that tells its place and its bytes before a call was read from this place.
abbrev pub IsFilledFrom : Option ℕ → Option (List ℕ) → ℕ → ℕ → List ℕ → Type 0
IsFilledFrom position bytes at n buf =
    IfSome position (λ _. IfSome bytes (λ all. FillsFrom all at n buf))

-- Each file that is opened tells where it stands, and that it holds these bytes.
pub record Tells {F : Type 0} (position : F → Option ℕ) (bytes : F → Option (List ℕ))
    (all : List ℕ) : Type 0 where
  pub place : (file : F) → IsSome (position file)
  pub bytes_are : (file : F) → bytes file ≡ Some all
