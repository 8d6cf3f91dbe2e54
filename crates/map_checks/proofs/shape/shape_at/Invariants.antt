use Rattle.elem_cubes.specs.Covers.{covers_of}
use Rattle.map_checks.proofs.Shaping.{IsShaped}
use Rattle.map_checks.proofs.shape.shape_at.Given as goal

abbrev pub invariant-loop-cube : goal.invariant-loop-cube
invariant-loop-cube l = IsShaped l.map.named l.domain.cells (covers_of l.cell) l.cube-iterator l.shape
