-- The images of cells, read over the numbers of the cells of the range.
use Rattle.std.specs.Prelude.{◌≡◌, ℕ, ◌-◌, ◌<◌, List, length, slice_index, slice_index_or, Option, Some, None}
use Rattle.std.specs.List.{Contains}
use Rattle.field_mod.specs.Modular.{Same}
use Rattle.elem_cubes.specs.Cells.{Factor}
use Rattle.elem_cubes.specs.Laws.{cell_at}
use Rattle.chains.specs.Terms.{nth_chain, augmentation}
use Rattle.chains.specs.ChainComplex.{ChainComplex, boundary, incidence}
use Rattle.cell_complex.specs.Numbering.{IsComplexOf}
use Rattle.witness_laws.specs.declared.law.Law.{Law}
use Rattle.witness_laws.specs.declared.law.Law.TheVariants as laws
use Rattle.witness_laws.specs.Lines.{image}
use Rattle.witness_laws.specs.Inputs.{Given, all_cells}
use Rattle.witness_laws.specs.Parts.{nth, value_at, range_cells}
use Rattle.witness_laws.specs.Tables.{Tables, map_of, holds}
use Rattle.witness_sections.specs.Outcomes.{IsLineOutcome}
use Rattle.witness_sections.specs.Readings.{AreRead, IsNamed}

-- each term of the chain, by its number among the cells, which counts from 1, names a cell of the
-- value
abbrev pub IsCarriedBy : List (List Factor) → List (List Factor) → List (ℕ × ℕ) → Type 0
IsCarriedBy cells value ts =
    (k : ℕ) → k < length ts → Contains value (cell_at cells ((slice_index_or ts k (0, 0)).0 - 1))

-- in degree 0 the coefficients of the chain add up to 1
abbrev pub AugmentsBy : ℕ → List ℕ → List (List (ℕ × ℕ)) → ℕ → Type 0
AugmentsBy p degrees us i = slice_index degrees i ≡ 0 → Same p (augmentation (nth us i)) 1

-- the boundary of the i-th chain is the sum of the chains, each times its coefficient in the
-- boundary of i
abbrev pub CommutesBy : ℕ → ChainComplex → ChainComplex → List (List (ℕ × ℕ)) → ℕ → Type 0
CommutesBy p K L us i =
    (g : ℕ) → Same p (boundary L.boundaries (nth_chain us i) g)
    (boundary us (incidence K.boundaries i) g)

-- what is told of the i-th image: nothing, or the first of the three that fails
abbrev pub IsImageOutcome : ℕ → ChainComplex → ChainComplex → List (List Factor)
    → List (List Factor) → List (ℕ × ℕ) → List (List (ℕ × ℕ)) → ℕ → Option Law → Type 0
IsImageOutcome p K L cells value ts us i None =
    IsCarriedBy cells value ts × AugmentsBy p K.degrees us i × CommutesBy p K L us i
IsImageOutcome p K L cells value ts us i (Some laws.Carried) = ¬ IsCarriedBy cells value ts
IsImageOutcome p K L cells value ts us i (Some laws.Augmentation) =
    IsCarriedBy cells value ts × ¬ AugmentsBy p K.degrees us i
IsImageOutcome p K L cells value ts us i (Some laws.Commutes) =
    IsCarriedBy cells value ts × AugmentsBy p K.degrees us i × ¬ CommutesBy p K L us i
IsImageOutcome p K L cells value ts us i (Some law) = ⊥

-- the complexes are those of all cells of domain and range, and the chains are the images
pub record AreImagesOf (p : ℕ) (K L : ChainComplex) (us : List (List (ℕ × ℕ))) (G : Given)
    (W : Tables) : Type 0 where
  pub domain : IsComplexOf p (all_cells G.x G.a) K
  pub range : IsComplexOf p (range_cells G) L
  pub images : AreRead p (range_cells G) (range_cells G) (map_of W).images us
  pub count : length (map_of W).images ≡ length (all_cells G.x G.a)
  pub named : (i : ℕ) → IsNamed (length (range_cells G)) (nth (map_of W).images i)

-- what is told of the line of the i-th image, whatever witness has these images
abbrev pub IsImageTold : ℕ → ChainComplex → ChainComplex → List (List Factor) → List (List Factor)
    → List (ℕ × ℕ) → List (List (ℕ × ℕ)) → ℕ → Option Law → Type 0
IsImageTold p K L cells value ts us i o =
    (G : Given) (W : Tables) → AreImagesOf p K L us G W → cells ≡ range_cells G
    → value ≡ value_at G i → ts ≡ nth (map_of W).images i → i < length (all_cells G.x G.a)
    → IsLineOutcome (holds p G W) (image i) o
