-- What the index part of a report on a map of pairs must be to be right. It speaks of the cells of
-- the whole sets and of chains on them. (Mrozek: Leray functor and cohomological Conley index for
-- discrete dynamical systems, 1990)
use Rattle.std.specs.Prelude.{◌≡◌, ℕ, ◌+◌, ◌-◌, ◌≤◌, List, [], length, slice_index, slice_index_or}
use Rattle.elem_cubes.specs.Cells.{Factor}
use Rattle.cell_complex.specs.Numbering.{cell_coefficient}
use Rattle.leray_conley.specs.Ranks.{IsRank}
use Rattle.leray_conley.specs.Splitting.{Splitting, IsLeraySplitting}
use Rattle.report.specs.declared.index_part.LerayRows.{LerayRows}
use Rattle.report.specs.declared.index_part.IndexPart.{IndexPart}
use Rattle.pair_maps.specs.declared.inputs.PairMap.{PairMap}
use Rattle.pair_maps.specs.Inputs.{domain_of, range_of, dimension_of_map}
use Rattle.index_map.specs.Inclusion.{IsIncluded, IsInvertibleInclusion, IsIndexMatrix}
use Rattle.index_part.specs.Tables.{HaveEntries}

-- a cycle by its terms, as a chain of cells
abbrev pub nth_cycle : List (List (List Factor × ℕ)) → ℕ → List Factor → ℕ
nth_cycle zs j = cell_coefficient (slice_index_or zs j [])

-- the rows are those of a Leray splitting of this square matrix of size d
pub record IsRightLeray (p d : ℕ) (matrix : ℕ → ℕ → ℕ) (rows : LerayRows) : Type 0 where
  pub splitting : Splitting
  pub is_splitting : IsLeraySplitting p d matrix splitting
  pub image : HaveEntries p d splitting.rank splitting.image rows.image
  pub kernel : HaveEntries p d (d - splitting.rank) splitting.kernel rows.kernel
  pub reduced : HaveEntries p splitting.rank splitting.rank splitting.reduced rows.reduced
  pub reduced_inverse : HaveEntries p splitting.rank splitting.rank splitting.reduced_inverse
      rows.reduced_inverse
  pub split_inverse : HaveEntries p d d splitting.split_inverse rows.split_inverse

-- the inclusion of the pair of the domain in that of the range is invertible in degree k
abbrev pub IsInvertibleIn : ℕ → PairMap → ℕ → Type 0
IsInvertibleIn p m = IsInvertibleInclusion p m.x.cells m.a.cells m.y.cells m.b.cells

-- in degree k the rows are those of the index matrix for every chain map that the map carries, in
-- the cycles zs of the pair of the domain; the rank is its rank, and the splitting one of it
pub record IsRightIndexIn (p : ℕ) (m : PairMap) (k : ℕ) (zs : List (List (List Factor × ℕ)))
    (rank : ℕ) (rows : List (List ℕ)) (leray : LerayRows) : Type 0 where
  pub matrix : ℕ → ℕ → ℕ
  pub entries : HaveEntries p (length zs) (length zs) matrix rows
  pub index : IsIndexMatrix p m.map.named (domain_of m) (range_of m) m.y.cells m.b.cells k
      (length zs) (nth_cycle zs) matrix
  pub is_rank : IsRank p (length zs) (length zs) matrix rank
  pub splitting : IsRightLeray p (length zs) matrix leray

-- what is read past the end of a list of splittings
abbrev pub no_leray : LerayRows
no_leray =
    record { image = []; kernel = []; reduced = []; reduced_inverse = []; split_inverse = [] }

-- the pair of the domain is included in that of the range, invertibly in each degree; and by degree
-- from 0 to the dimension of the map, the part is right in the cycles
pub record IsRightIndex (p : ℕ) (m : PairMap) (cycles : ℕ → List (List (List Factor × ℕ)))
    (part : IndexPart) : Type 0 where
  pub included : IsIncluded m.x.cells m.a.cells m.y.cells m.b.cells
  pub invertible : (k : ℕ) → IsInvertibleIn p m k
  pub rank_degrees : length part.ranks ≡ dimension_of_map m + 1
  pub matrix_degrees : length part.matrices.items ≡ dimension_of_map m + 1
  pub leray_degrees : length part.leray.items ≡ dimension_of_map m + 1
  pub each : (k : ℕ) → k ≤ dimension_of_map m → IsRightIndexIn p m k (cycles k)
      (slice_index part.ranks k) (slice_index_or part.matrices.items k [])
      (slice_index_or part.leray.items k no_leray)
