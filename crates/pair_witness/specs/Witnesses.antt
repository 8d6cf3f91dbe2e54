-- What a witness of the homology of a pair has to be.
use Rattle.std.specs.Prelude.{◌≡◌, ℕ, ◌<◌, ◌≤◌, List, [], length, slice_index_or, max}
use Rattle.field_mod.specs.Modular.{Same}
use Rattle.elem_cubes.specs.Cells.{Factor}
use Rattle.cell_complex.specs.Numbering.{cell_coefficient}
use Rattle.homology_basis.specs.Bases.{in_degree}
use Rattle.basis_reports.specs.Right.{CyclesOver}
use Rattle.loading.specs.declared.two_sets.TwoSets.{TwoSets}
use Rattle.witness_laws.specs.Formats.{IsAccepted}
use Rattle.witness_laws.specs.Inputs.{Given, all_cells}
use Rattle.witness_laws.specs.Parts.{chain_of, nth}
use Rattle.witness_laws.specs.Tables.{PairTables, tables_format}
use Rattle.witness_types.specs.declared.heading.ClaimKind.TheVariants.{Pair}
use Rattle.witness_types.specs.Headers.{IsHeader, body_of}
use Rattle.witness_parts.specs.Witnesses.{pair_given, pair_value, top_of}

-- the pair as the laws of witness files see it
abbrev pub given_pair : TwoSets → Given
given_pair pair = pair_given (top_of pair.x pair.y) pair.x.cells pair.y.cells

-- a witness file has fewer bytes, so that the limit of such a file never refuses it
abbrev pub witness_bytes : ℕ
witness_bytes = 1073741824

-- the chains of the witness, whose terms number all cells from 1, are these cycles
pub record AreTheCycles (p : ℕ) (all : List (List Factor)) (zs : List (List (ℕ × ℕ)))
    (cycles : List (List (List Factor × ℕ))) : Type 0 where
  pub count : length zs ≡ length cycles
  pub same : (i : ℕ) → i < length cycles → (q : List Factor)
      → Same p (chain_of all (nth zs i) q) (cell_coefficient (slice_index_or cycles i []) q)

-- the bytes are a witness of the pair modulo p with these cycles: they begin with the header, and
-- the lines behind it have a value that meets all laws of witness files; and they are not too many
pub record IsPairWitness (p : ℕ) (pair : TwoSets) (cycles : CyclesOver (List Factor))
    (bytes : List ℕ) : Type 0 where
  pub header : IsHeader bytes (record { version = 1; modulus = p; kind = Pair })
  pub tables : PairTables
  pub accepted : IsAccepted (tables_format p (given_pair pair)) (body_of bytes) (pair_value tables)
  pub cycles_are : (k : ℕ) → k ≤ max pair.x.dimension pair.y.dimension
      → AreTheCycles p (all_cells pair.x.cells pair.y.cells) (in_degree tables.cycles k)
      (slice_index_or cycles k [])
  pub few : length bytes < witness_bytes
