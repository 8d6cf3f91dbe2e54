-- What a selector keeps: right images of some cells of the domain and of their faces.
use Rattle.std.specs.Prelude.{◌≡◌, ℕ, ◌<◌, ◌≤◌, List, [], length, slice_index_or, Option, Some, None, Bool, true, false}
use Rattle.field_mod.specs.Modular.{Same}
use Rattle.elem_cubes.specs.Cells.{Factor}
use Rattle.elem_cubes.specs.Laws.{cell_at}
use Rattle.chains.specs.Terms.{coefficient, IsNormal}
use Rattle.cube_sets.specs.Closures.{is_cell_of, cells_of}
use Rattle.cell_complex.specs.RelativeComplex.{IsClosed}
use Rattle.cell_complex.specs.Numbering.{by_cell, number_of}
use Rattle.acyclic_values.specs.Values.{in_value}
use Rattle.acyclic_values.specs.CarriedMaps.{image, IsCarriedAt, IsCarriedMap}
use Rattle.map_checks.specs.Carriers.{Carrying, IsCarrier}

-- a carrier, and for each number of a cell of the domain the image that is kept, a chain of numbers
-- of cells of the range
pub record Selection : Type 0 where
  pub carrying : Carrying
  pub images : List (Option (List (ℕ × ℕ)))

abbrev pub is_some : Option (List (ℕ × ℕ)) → Bool
is_some None = false
is_some (Some c) = true

abbrev pub terms_or_none : Option (List (ℕ × ℕ)) → List (ℕ × ℕ)
terms_or_none None = []
terms_or_none (Some c) = c

-- the cells of the domain, and those of the range
abbrev pub domain_cells : Selection → List (List Factor)
domain_cells s = cells_of s.carrying.domain

abbrev pub range_cells : Selection → List (List Factor)
range_cells s = cells_of s.carrying.range

-- the cell has a kept image
abbrev pub is_kept : Selection → List Factor → Bool
is_kept s q = is_some (slice_index_or s.images (number_of (domain_cells s) q) None)

-- the kept image of a cell, as a chain of numbers, and as one of cells; that of any other is empty
abbrev pub kept_terms : Selection → List Factor → List (ℕ × ℕ)
kept_terms s q = terms_or_none (slice_index_or s.images (number_of (domain_cells s) q) None)

abbrev pub kept_image : Selection → List Factor → List Factor → ℕ
kept_image s q = by_cell (range_cells s) (coefficient (kept_terms s q))

-- the cells with a kept image are cells of the domain, and with each its faces; and each kept image
-- is right, and names no number past the cells of the range
pub record IsSelection (p : ℕ) (s : Selection) : Type 0 where
  pub carrier : IsCarrier p s.carrying
  pub sizes : length s.images ≡ length (domain_cells s)
  pub closed : IsClosed (is_kept s)
  pub within : (q : List Factor) → is_kept s q ≡ true → is_cell_of s.carrying.domain q ≡ true
  pub numbers : (q : List Factor) (g : ℕ) → length (range_cells s) ≤ g
      → coefficient (kept_terms s q) g ≡ 0
  pub right : (q : List Factor) → is_kept s q ≡ true
      → IsCarriedAt p (domain_cells s) (range_cells s)
      (in_value s.carrying.map s.carrying.domain q) (kept_image s) q

-- one carried map, defined on all cells of the domain, has all kept images
pub record IsOfOneMap (p : ℕ) (s : Selection) : Type 0 where
  pub map : List Factor → List Factor → ℕ
  pub carried : IsCarriedMap p s.carrying.map s.carrying.domain s.carrying.range map
  pub kept : (q : List Factor) → is_kept s q ≡ true → map q ≡ kept_image s q

-- a later selection: of the same carrier, and all images that were kept are kept still
pub record Extends (old new : Selection) : Type 0 where
  pub carrying : new.carrying ≡ old.carrying
  pub kept : (q : List Factor) → is_kept old q ≡ true
      → (is_kept new q ≡ true) × (kept_terms new q ≡ kept_terms old q)

-- the terms of a chain name cells of the domain by their numbers
abbrev pub IsInDomain : Selection → List (ℕ × ℕ) → Type 0
IsInDomain s ts = (k : ℕ) → k < length ts → (slice_index_or ts k (0, 0)).0 < length (domain_cells s)

-- the cells of a chain of numbers have kept images
abbrev pub AreKept : Selection → List (ℕ × ℕ) → Type 0
AreKept s ts =
    (k : ℕ) → k < length ts → is_kept s (cell_at (domain_cells s) (slice_index_or ts k (0, 0)).0) ≡
    true

-- the chain b of numbers is the image of c, the sum of the kept images
pub record IsImageOf (p : ℕ) (s : Selection) (c b : List (ℕ × ℕ)) : Type 0 where
  pub normal : IsNormal p b
  pub within : (g : ℕ) → length (range_cells s) ≤ g → coefficient b g ≡ 0
  pub value : (g : ℕ) → g < length (range_cells s)
      → Same p (coefficient b g)
      (image (domain_cells s) (kept_image s) (by_cell (domain_cells s) (coefficient c))
      (cell_at (range_cells s) g))
