-- The lines that are printed on faults.
use Rattle.std.specs.Prelude.{ℕ, List, ◌++◌, codes, decimal}
use Rattle.faults.specs.declared.cause.Cause.{Cause}
use Rattle.faults.specs.declared.cause.Cause.TheVariants.{BadByte, BadNumber, NotClosed, MixedDimension, DimensionTooLarge, CoordinateTooLarge, NotElementary, NotFull, UnknownGenerator, RepeatedGenerator}
use Rattle.faults.specs.declared.law.Law.{Law}
use Rattle.faults.specs.declared.law.Law.TheVariants as laws
use Rattle.faults.specs.declared.fault.Fault.{Fault}
use Rattle.faults.specs.declared.fault.Fault.TheVariants.{NoTool, NotAForm, CannotRead, BadText, NotComplex, Dimension, Limit, Undefined, LeavesRange, LeavesSubset, EmptyValue, NotAcyclic, NotInRange, NotInSubset, Killed, Missed, LawFails, CannotWriteOut, CannotWrite, OutOfMemory}
use Rattle.elem_cubes.specs.Cells.{Factor, lower_of}
use Rattle.corner_texts.specs.CornerText.{corner_text}
use Rattle.faults.specs.ChainText.{cell_text, chain_text}
use Rattle.faults.specs.declared.limit_name.LimitName.{LimitName}
use Rattle.faults.specs.declared.limit_name.LimitName.TheVariants.{FileBytes, Cubes, MapPairs, Cells, MatrixEntries, Generators, Terms, WitnessCells, CarrierSize, Coordinates}

-- the name of a count that has a limit
abbrev pub limit_name : LimitName → List ℕ
limit_name FileBytes = codes "file-bytes"
limit_name Cubes = codes "cubes"
limit_name MapPairs = codes "map-pairs"
limit_name Cells = codes "cells"
limit_name MatrixEntries = codes "matrix-entries"
limit_name Generators = codes "generators"
limit_name Terms = codes "terms"
limit_name WitnessCells = codes "witness-cells"
limit_name CarrierSize = codes "carrier-size"
limit_name Coordinates = codes "coordinates"

-- why a text is refused at a place
abbrev pub cause_text : Cause → List ℕ
cause_text BadByte = codes "bad byte"
cause_text BadNumber = codes "bad number"
cause_text NotClosed = codes "not closed"
cause_text MixedDimension = codes "mixed dimension"
cause_text DimensionTooLarge = codes "dimension too large"
cause_text CoordinateTooLarge = codes "coordinate too large"
cause_text NotElementary = codes "not an elementary cube"
cause_text NotFull = codes "not a full cube"
cause_text UnknownGenerator = codes "unknown generator"
cause_text RepeatedGenerator = codes "repeated generator"

-- the name of a law on the lines of a witness file
abbrev pub law_name : Law → List ℕ
law_name laws.Header = codes "Header"
law_name laws.Text = codes "Text"
law_name laws.Cell = codes "Cell"
law_name laws.Cycle = codes "Cycle"
law_name laws.Dual = codes "Dual"
law_name laws.Cocycle = codes "Cocycle"
law_name laws.Contraction = codes "Contraction"
law_name laws.ValueContraction = codes "ValueContraction"
law_name laws.Carried = codes "Carried"
law_name laws.Augmentation = codes "Augmentation"
law_name laws.Commutes = codes "Commutes"
law_name laws.Matrix = codes "Matrix"

-- a full cube by its lower corner
abbrev pub cube_text : List Factor → List ℕ
cube_text q = corner_text (lower_of q)

-- a value of a map, at a cube
abbrev pub pair_text : List Factor → List Factor → List ℕ
pair_text q v = cube_text q ++ codes " -> " ++ cube_text v

-- the line on a fault
abbrev pub fault_text : Fault → List ℕ
fault_text NoTool = codes "error: words: no tool of that name\n"
fault_text (NotAForm tool) = codes "error: words: not a form of " ++ tool ++ codes "\n"
fault_text (CannotRead name) = codes "error: cannot read " ++ name ++ codes "\n"
fault_text (BadText name place cause) =
    codes "error: " ++ name ++ codes ": byte " ++ decimal place ++ codes ": " ++ cause_text cause
    ++ codes "\n"
fault_text (NotComplex name degree generator value at) =
    codes "error: " ++ name ++ codes ": dimension " ++ decimal degree
    ++ codes ": # " ++ decimal generator ++ codes ": boundary of boundary has " ++ decimal value
    ++ codes " * " ++ decimal at ++ codes "\n"
fault_text (Dimension name found before) =
    codes "error: " ++ name ++ codes ": dimension " ++ decimal found ++ codes ", but "
    ++ decimal before ++ codes " before\n"
fault_text (Limit count number) =
    codes "error: limit: " ++ limit_name count ++ codes ": " ++ decimal number ++ codes "\n"
fault_text (Undefined cube) = codes "error: map: no value at " ++ cube_text cube ++ codes "\n"
fault_text (LeavesRange cube value) =
    codes "error: map: " ++ pair_text cube value ++ codes " leaves the range\n"
fault_text (LeavesSubset cube value) =
    codes "error: map: " ++ pair_text cube value ++ codes " leaves the range's subset\n"
fault_text (EmptyValue cell) =
    codes "error: map: value at " ++ cell_text cell ++ codes " is empty\n"
fault_text (NotAcyclic cell degree cycle cocycle) =
    codes "error: map: value at " ++ cell_text cell ++ codes " is not acyclic in degree "
    ++ decimal degree
    ++ codes ": cycle " ++ chain_text cell_text cycle ++ codes ", cocycle "
    ++ chain_text cell_text cocycle ++ codes "\n"
fault_text (NotInRange cube) =
    codes "error: index: " ++ cube_text cube ++ codes " is not in the range\n"
fault_text (NotInSubset cube) =
    codes "error: index: " ++ cube_text cube ++ codes " is not in the range's subset\n"
fault_text (Killed degree chain) =
    codes "error: index: degree " ++ decimal degree ++ codes ": killed: "
    ++ chain_text cell_text chain ++ codes "\n"
fault_text (Missed degree chain) =
    codes "error: index: degree " ++ decimal degree ++ codes ": missed: "
    ++ chain_text cell_text chain ++ codes "\n"
fault_text (LawFails name line law) =
    codes "error: " ++ name ++ codes ": line " ++ decimal line ++ codes ": " ++ law_name law
    ++ codes "\n"
fault_text CannotWriteOut = codes "error: cannot write standard output\n"
fault_text (CannotWrite name) = codes "error: cannot write " ++ name ++ codes "\n"
fault_text OutOfMemory = codes "error: out of memory\n"
