use Rattle.elem_cubes.specs.Covers.{covers_of}
use Rattle.map_checks.specs.declared.value.TheConstants.{MOST}
use Rattle.map_checks.proofs.Narrowing.{IsNarrowed}
use Rattle.map_checks.proofs.value.value_set.Given as goal

abbrev pub invariant-loop-cube : goal.invariant-loop-cube
invariant-loop-cube l = IsNarrowed l.map l.domain.cells (covers_of l.cell) l.cube-iterator MOST l.so_far
