-- What a witness shows that is accepted, what it claims, and why one is refused.
use Rattle.std.specs.Prelude.{◌≡◌, ℕ, ◌+◌, ◌<◌, List, [], length, map, IfSome, slice_index}
use Rattle.std.specs.Prelude.{slice_index_or}
use Rattle.leray_conley.specs.Tables.{Table}
use Rattle.witness_laws.specs.Lines.{domain, range}
use Rattle.witness_laws.specs.Formats.{Format, IsAccepted, IsFirstFault}
use Rattle.witness_laws.specs.Inputs.{IsPairClaim, IsMapClaim}
use Rattle.witness_laws.specs.Parts.{entry_of}
use Rattle.witness_laws.specs.Tables.{Tables, section_at, tables_format, map_of}
use Rattle.witness_laws.specs.declared.law.WitnessFault.{WitnessFault}
use Rattle.witness_laws.specs.declared.law.WitnessFault.TheVariants.{At, NoMemory}
use Rattle.witness_types.specs.declared.input.Input.{Input}
use Rattle.witness_types.specs.declared.part.Claim.{Claim}
use Rattle.witness_types.specs.Headers.{IsHeader, body_of}
use Rattle.witness_types.specs.Inputs.{given_of, kind_of}
use Rattle.witness_types.specs.Rows.{rows_of}

-- the text begins with a header of this version, for this modulus and input
abbrev pub IsHeaded : ℕ → ℕ → Input → List ℕ → Type 0
IsHeaded version p input bytes =
    IsHeader bytes (record { version = version; modulus = p; kind = kind_of input })

-- the first failing line and law, where lines count from 1 and the header has three
abbrev pub IsFault : {V : Type 0} → Format V → List ℕ → WitnessFault → Type 0
IsFault F bytes (At line law) = (k : ℕ) × (line ≡ k + 4) × IsFirstFault F (body_of bytes) k law
IsFault F bytes NoMemory = Unit {0}

-- the matrix has these rows, and its size
pub record IsMatrixOf (t : Table) (height width : ℕ) (ms : List (List ℕ)) : Type 0 where
  pub rows : t.rows ≡ height
  pub columns : t.columns ≡ width
  pub entries : rows_of t ≡ ms

-- the claim has these dimensions and matrices
pub record IsClaimWith {p : ℕ} (claim : Claim p) (dimensions others : List ℕ)
    (matrices : List (List (List ℕ))) : Type 0 where
  pub domain : claim.domain.items ≡ dimensions
  pub range : claim.range.items ≡ others
  pub count : length claim.matrices.items ≡ length matrices
  pub each : (k : ℕ) (t : Table) → k < length matrices
      → IsMatrixOf (slice_index_or claim.matrices.items k t) (slice_index others k)
      (slice_index dimensions k) (slice_index_or matrices k [])

-- what an accepted text of version 1 shows, and claims: the cycles of the domain are bases, and for
-- a map the values are acyclic, a carried map exists, and the matrices are those of all such maps
pub record ShowsTables {p : ℕ} (input : Input) (bytes : List ℕ) (claim : Claim p) : Type 0 where
  pub tables : Tables
  pub accepted : IsAccepted (tables_format p (given_of input)) (body_of bytes) tables
  pub claimed : IsClaimWith claim (map length tables.domain.cycles)
      (map length (map_of tables).range.cycles) (map_of tables).matrices
  pub bases : IsPairClaim p (given_of input).x (given_of input).a
      (section_at (given_of input) tables domain)
  pub carried : IfSome (given_of input).target
      (λ T. IsMapClaim p (given_of input).x (given_of input).a T
      (section_at (given_of input) tables domain) (section_at (given_of input) tables range)
      (entry_of (map_of tables).matrices))
