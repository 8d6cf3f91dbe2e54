-- Laws of excision and growth: each is the contract of a function of the crate with an empty body.
use Rattle.std.specs.Prelude.{◌≡◌, ◌↔◌, ℕ, ◌<◌, ◌≤◌, true, List, [], ◌∷◌, ◌++◌, length, filter, slice_index}
use Rattle.std.specs.List.{Contains}
use Rattle.field_mod.specs.Modular.{Same, IsField}
use Rattle.elem_cubes.specs.Cells.{Factor, dimension_of}
use Rattle.elem_cubes.specs.Faces.{IsFace}
use Rattle.cube_sets.specs.Neighbours.{cells_meet}
use Rattle.chains.specs.ChainComplex.{ChainComplex}
use Rattle.algebraic_reduction.specs.Reduction.{Step, IsUnpaired}
use Rattle.algebraic_reduction.specs.Laws.{AreStepsOf, left_of, NothingLeft}
use Rattle.algebraic_reduction.specs.Restrictions.{LeaveRestrictions, AreWithin}
use Rattle.cell_complex.specs.RelativeComplex.{is_relative, IsClosedList}
use Rattle.cell_complex.specs.Numbering.{IsComplexOf, IsRelativeComplex}
use Rattle.cell_complex.specs.Acyclic.{IsAcyclic}
use Rattle.cell_complex.specs.Growth.{IsMovable, IsFinishedGrowth}
use Rattle.excision.specs.Taking.{TakeFaces, is_number_of_new}
use Rattle.excision.specs.Excision.{touches}

-- one move of a growth: further steps, each within the faces of the cube that are new, until no
-- boundary is left among these, take exactly them, and leave restrictions
abbrev pub MovesLeaveRestrictions : Type 0
MovesLeaveRestrictions =
    (p : ℕ) (x a cells cubes : List (List Factor)) (K : ChainComplex) (ss more : List Step)
    (q : List Factor)
    → 2 ≤ p → IsRelativeComplex p x a cells K → Contains x q → IsMovable p (a ++ cubes) q
    → LeaveRestrictions p K ss → TakeFaces cells cubes ss
    → AreStepsOf p K (ss ++ more) → AreWithin (is_number_of_new cells (a ++ cubes) q) more
    → ((h g : ℕ) → is_number_of_new cells (a ++ cubes) q h ≡ true
    → is_number_of_new cells (a ++ cubes) q g ≡ true → Same p (left_of p K (ss ++ more) h g) 0)
    → LeaveRestrictions p K (ss ++ more) × TakeFaces cells (cubes ++ q ∷ []) (ss ++ more)

-- steps that take exactly the faces of some cubes leave restrictions
abbrev pub FacesLeaveRestrictions : Type 0
FacesLeaveRestrictions =
    (p : ℕ) (cells cubes : List (List Factor)) (K : ChainComplex) (ss : List Step)
    → IsComplexOf p cells K → AreStepsOf p K ss → TakeFaces cells cubes ss
    → LeaveRestrictions p K ss

-- the members of a that do not touch x make no difference to the relative cells, nor to growths
pub record ExcisionKeepsCells : Type 0 where
  pub cells : (x a : List (List Factor)) (q : List Factor)
      → is_relative x (filter (touches x) a) q ≡ is_relative x a q
  pub growths : (p : ℕ) (x a cubes : List (List Factor))
      → IsFinishedGrowth p x (filter (touches x) a) cubes → IsFinishedGrowth p x a cubes

-- two cells share a point where they have a vertex in common, and only there
abbrev pub TouchingCellsShareVertices : Type 0
TouchingCellsShareVertices =
    (s c : List Factor) → (cells_meet s c ≡ true) ↔
    ((v : List Factor) × (dimension_of v ≡ 0) × IsFace s v × IsFace c v)

-- what is left of a closed list of cells when it is reduced until no boundary is left: one vertex
-- alone
pub record IsOneVertex (K : ChainComplex) (ss : List Step) : Type 0 where
  pub vertex : ℕ
  pub inside : vertex < length K.boundaries
  pub degree : slice_index K.degrees vertex ≡ 0
  pub unpaired : IsUnpaired ss vertex
  pub only : (g : ℕ) → g < length K.boundaries → IsUnpaired ss g → g ≡ vertex

-- a list of cells with all their faces is acyclic exactly where a reduction leaves one vertex
abbrev pub ReductionsShowAcyclicity : Type 0
ReductionsShowAcyclicity =
    (p : ℕ) (cells : List (List Factor)) (K : ChainComplex) (ss : List Step)
    → IsField p → IsClosedList cells → IsRelativeComplex p cells [] cells K → AreStepsOf p K ss
    → NothingLeft p K ss
    → IsAcyclic p cells ↔ IsOneVertex K ss
