-- A witness as it stands in a file: that of an edge relative to its end points.
use Rattle.std.proofs.Common.{◌≡◌, refl, [], ◌∷◌, None, pos}
use Rattle.std.specs.Prelude.{codes}
use Rattle.elem_cubes.specs.Cells.{point, interval}
use Rattle.witness_laws.specs.Formats.{texts_of}
use Rattle.witness_laws.specs.Inputs.{Given}
use Rattle.witness_laws.specs.Tables.{Tables, tables_format}

abbrev edge : Given
edge = record { top = 1; x = (interval (pos 0) ∷ []) ∷ []; a = (point (pos 0) ∷ []) ∷ (point (pos 1) ∷ []) ∷ []; target = None }

abbrev tables : Tables
tables = record {
  domain = record { cycles = [] ∷ (((2, 1) ∷ []) ∷ []) ∷ []; cocycles = [] ∷ (((2, 1) ∷ []) ∷ []) ∷ []; homotopies = [] ∷ [] };
  map = None;
}

sample : texts_of (tables_format 2 edge) tables ≡ codes "pair domain\n" ∷ codes "z 1: 1*2\n" ∷ codes "c 1: 1*2\n" ∷ codes "h 2:\n" ∷ codes "end\n" ∷ []
sample = refl
