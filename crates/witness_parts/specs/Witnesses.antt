-- What a file holds that is written for a pair: an accepted text, made of a basis.
use Rattle.std.specs.Prelude.{ℕ, List, [], ◌∷◌, None}
use Rattle.elem_cubes.specs.Cells.{Factor}
use Rattle.cube_sets.specs.Sets.{Members}
use Rattle.homology_basis.specs.Bases.{BasisOfLog}
use Rattle.witness_laws.specs.Formats.{IsAccepted}
use Rattle.witness_laws.specs.Inputs.{Given}
use Rattle.witness_laws.specs.Tables.{Tables, PairTables, tables_format}
use Rattle.witness_types.specs.declared.heading.ClaimKind.TheVariants as kinds
use Rattle.witness_types.specs.Headers.{IsHeader, body_of}
use Rattle.witness_types.specs.Inputs.{first_known}
use Rattle.witness_parts.specs.Tables.{section_by, AreTablesOf}

-- a pair to the laws, and its value
abbrev pub pair_given : ℕ → List (List Factor) → List (List Factor) → Given
pair_given top x a = record { top = top; x = x; a = a; target = None }

abbrev pub pair_value : PairTables → Tables
pair_value T = record { domain = T; map = None }

-- the dimension of a pair
abbrev pub top_of : Members → Members → ℕ
top_of x a = first_known (x.dimension ∷ a.dimension ∷ [])

-- the bytes have a header for this modulus and a pair, and lines that are accepted; the cycles, the
-- cocycles and the chains of the cells are those of the basis
pub record IsPairWitness (p : ℕ) (x a : Members) (cells : List (List Factor)) (b : BasisOfLog)
    (bytes : List ℕ) : Type 0 where
  pub tables : PairTables
  pub header : IsHeader bytes (record { version = 1; modulus = p; kind = kinds.Pair })
  pub accepted : IsAccepted (tables_format p (pair_given (top_of x a) x.cells a.cells))
      (body_of bytes) (pair_value tables)
  pub made : AreTablesOf p (top_of x a) x.cells a.cells (section_by p cells b) tables
