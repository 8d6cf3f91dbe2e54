-- Files by their names: what a disk holds, and what reads and appends do.
use Rattle.std.specs.Prelude.{◌≡◌, ◌≢◌, ◌⊎◌, Bool, ℕ, ◌+◌, ◌<◌, ◌≤◌, List, [], ◌∷◌, ◌++◌, if◌then◌else◌, take, length, Option, None, Some, unwrap_or}
use Rattle.std.specs.Str.{bytes_eq}

-- The bytes of each file that is there, by its name.
abbrev pub Disk : Type 0
Disk = List ℕ → Option (List ℕ)

-- The bytes of a file; one that is not there has none.
abbrev pub content : Disk → List ℕ → List ℕ
content disk name = unwrap_or (disk name) []

-- The files of a list of names and contents: the first of a name counts.
abbrev pub held : {N B : Type 0} → (N → List ℕ) → (B → List ℕ) → List (N × B) → Disk
held name_of bytes_of [] name = None
held name_of bytes_of (f ∷ fs) name = if bytes_eq (name_of f.0) name then Some (bytes_of f.1)
    else held name_of bytes_of fs name

-- The first n bytes of the buffer are those of the file from that place on, and n is 0 only at the
-- end or for an empty buffer.
pub record ReadsFrom (bytes : List ℕ) (at n : ℕ) (buf : List ℕ) : Type 0 where
  pub front : take (at + n) bytes ≡ take at bytes ++ take n buf
  pub end : n ≡ 0 → 0 < length buf → length bytes ≤ at

-- The most bytes that one append takes.
abbrev pub most_piece : ℕ
most_piece = 65536

-- What an append keeps of a file: nothing where it makes the file anew.
abbrev pub kept : Bool → Disk → List ℕ → List ℕ
kept first disk name = if first then [] else content disk name

-- The file has these bytes now, and all others stay.
pub record Puts (name bytes : List ℕ) (before now : Disk) : Type 0 where
  pub put : now name ≡ Some bytes
  pub others : (other : List ℕ) → other ≢ name → now other ≡ before other

-- The file stays, or has a front of the piece behind what is kept; all others stay.
pub record MayPut (first : Bool) (name piece : List ℕ) (before now : Disk) : Type 0 where
  pub put : (now name ≡ before name) ⊎ ((n : ℕ)
      × (now name ≡ Some (kept first before name ++ take n piece)))
  pub others : (other : List ℕ) → other ≢ name → now other ≡ before other

-- A failed append that keeps n bytes of its piece, or all of a shorter one: the file has them
-- behind what is kept. Where n is 0 all files stay.
pub record Tears (n : ℕ) (first : Bool) (name piece : List ℕ) (before now : Disk) : Type 0 where
  pub none : n ≡ 0 → now ≡ before
  pub some : 0 < n → Puts name (kept first before name ++ take n piece) before now
