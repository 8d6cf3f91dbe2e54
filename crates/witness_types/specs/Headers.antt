-- The first three lines of a witness file.
use Rattle.std.specs.Prelude.{◌≡◌, ℕ, zero, suc, ◌+◌, ◌<◌, List, [], ◌∷◌, ◌++◌, take, drop, codes}
use Rattle.std.specs.Prelude.{slice_index_or}
use Rattle.field_mod.specs.Moduli.{IsModulus}
use Rattle.witness_laws.specs.declared.law.Law.TheVariants as laws
use Rattle.witness_laws.specs.declared.law.WitnessFault.{WitnessFault}
use Rattle.witness_laws.specs.declared.law.WitnessFault.TheVariants.{At, NoMemory}
use Rattle.witness_laws.specs.Lines.{numeral, lines_of}
use Rattle.witness_types.specs.declared.heading.ClaimKind.{ClaimKind}
use Rattle.witness_types.specs.declared.heading.ClaimKind.TheVariants.{Pair, Map}
use Rattle.witness_types.specs.declared.heading.Header.{Header}

abbrev pub version_line : ℕ → List ℕ
version_line v = codes "chomp witness " ++ numeral v ++ codes "\n"

abbrev pub modulus_line : ℕ → List ℕ
modulus_line p = codes "mod " ++ (numeral p ++ codes "\n")

abbrev pub kind_line : ClaimKind → List ℕ
kind_line Pair = codes "claim pair\n"
kind_line Map = codes "claim map\n"

-- the lines of a header
abbrev pub header_lines : Header → List (List ℕ)
header_lines h = version_line h.version ∷ modulus_line h.modulus ∷ kind_line h.kind ∷ []

-- there is a form of files with this number
abbrev pub IsVersion : ℕ → Type 0
IsVersion v = v ≡ 1

-- the lines begin with those of the header
pub record IsHeaderOf (ts : List (List ℕ)) (h : Header) : Type 0 where
  pub lines : take 3 ts ≡ header_lines h
  pub version : IsVersion h.version
  pub modulus : IsModulus h.modulus

abbrev pub IsHeader : List ℕ → Header → Type 0
IsHeader bytes h = IsHeaderOf (lines_of bytes) h

-- the text is one that may stand as line i, counted from 0
abbrev pub MayHead : ℕ → List ℕ → Type 0
MayHead zero t = (v : ℕ) × IsVersion v × (t ≡ version_line v)
MayHead (suc zero) t = (p : ℕ) × IsModulus p × (t ≡ modulus_line p)
MayHead (suc (suc i)) t = (kind : ClaimKind) × (t ≡ kind_line kind)

-- line k, counted from 0, is the first of the three that may not stand there, or is missing
pub record IsFirstHeading (ts : List (List ℕ)) (k : ℕ) : Type 0 where
  pub head : k < 3
  pub before : (i : ℕ) → i < k → MayHead i (slice_index_or ts i [])
  pub here : MayHead k (slice_index_or ts k []) → ⊥

-- the fault tells that line, where lines count from 1
abbrev pub IsHeaderFault : List ℕ → WitnessFault → Type 0
IsHeaderFault bytes (At line law) =
    (k : ℕ) × (line ≡ k + 1) × (law ≡ laws.Header) × IsFirstHeading (lines_of bytes) k
IsHeaderFault bytes NoMemory = ⊥

-- the lines behind the header; the first has the number 4
abbrev pub body_of : List ℕ → List (List ℕ)
body_of bytes = drop 3 (lines_of bytes)
