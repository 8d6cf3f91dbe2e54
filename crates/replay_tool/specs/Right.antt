-- What a report on an accepted witness must be to be right.
use Rattle.std.specs.Prelude.{◌≡◌, ℕ, ◌<◌, List, [], length, map, Option, None, Some, slice_index, slice_index_or}
use Rattle.leray_conley.specs.Tables.{Table, entry}
use Rattle.leray_conley.specs.Ranks.{IsRank}
use Rattle.witness_laws.specs.Lines.{domain, range}
use Rattle.witness_laws.specs.Formats.{IsAccepted}
use Rattle.witness_laws.specs.Inputs.{Target, Given, IsPairClaim, IsMapClaim}
use Rattle.witness_laws.specs.Parts.{entry_of}
use Rattle.witness_laws.specs.Tables.{Tables, section_at, tables_format, map_of}
use Rattle.witness_types.specs.Headers.{body_of}
use Rattle.witness_types.specs.Answers.{IsMatrixOf}
use Rattle.report.specs.declared.accepted.Accepted.{Accepted}
use Rattle.report.specs.declared.accepted.AcceptedMap.{AcceptedMap}

-- the matrix of so many rows and columns with these rows has this rank
pub record HasRank (p height width : ℕ) (rows : List (List ℕ)) (rank : ℕ) : Type 0 where
  pub table : Table
  pub is : IsMatrixOf table height width rows
  pub ranks : IsRank p height width (entry table) rank

-- the ranks are those of the matrices, by degree
pub record AreRanks (p : ℕ) (heights widths : List ℕ) (matrices : List (List (List ℕ)))
    (ranks : List ℕ) : Type 0 where
  pub count : length ranks ≡ length matrices
  pub each : (k : ℕ) → k < length matrices
      → HasRank p (slice_index heights k) (slice_index widths k) (slice_index_or matrices k [])
      (slice_index ranks k)

-- what is told of the map is what the file says of it; and the values are acyclic, some chain map is
-- carried, and the matrices are those of every one that is
pub record IsRightTarget (p : ℕ) (G : Given) (T : Target) (W : Tables) (report : AcceptedMap)
    : Type 0 where
  pub dimensions : report.range ≡ map length (map_of W).range.cycles
  pub matrices : report.matrices.items ≡ (map_of W).matrices
  pub ranks : AreRanks p (map length (map_of W).range.cycles) (map length W.domain.cycles)
      (map_of W).matrices report.ranks
  pub shown : IsMapClaim p G.x G.a T (section_at G W domain) (section_at G W range)
      (entry_of (map_of W).matrices)

-- there is a part on the map where there is a map
abbrev pub IsRightPart : ℕ → Given → Option Target → Tables → Option AcceptedMap → Type 0
IsRightPart p G None W None = Unit {0}
IsRightPart p G (Some T) W (Some report) = IsRightTarget p G T W report
IsRightPart p G target W report = ⊥

-- The report is right: the lines of the file have a value that meets all laws, the dimensions are
-- the numbers of its cycles by degree, and these are bases of the pair.
pub record IsRightReport (p : ℕ) (G : Given) (bytes : List ℕ) (report : Accepted) : Type 0 where
  pub tables : Tables
  pub accepted : IsAccepted (tables_format p G) (body_of bytes) tables
  pub dimensions : report.domain ≡ map length tables.domain.cycles
  pub bases : IsPairClaim p G.x G.a (section_at G tables domain)
  pub map : IsRightPart p G G.target tables report.map
