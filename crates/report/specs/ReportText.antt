-- The texts of reports.
use Rattle.std.specs.Prelude.{ℕ, ◌+◌, ◌==◌, if◌then◌else◌, List, [], ◌∷◌, ◌++◌, map, get_or, length, Option, None, Some, codes, decimal}
use Rattle.std.specs.List.{flat_map}
use Rattle.faults.specs.ChainText.{cell_text, number_text, chain_text}
use Rattle.report.specs.declared.pair.PairReport.{PairReport}
use Rattle.report.specs.declared.map_report.MapReport.{MapReport}
use Rattle.report.specs.declared.index_part.IndexPart.{IndexPart}
use Rattle.report.specs.declared.index_part.LerayRows.{LerayRows}
use Rattle.report.specs.declared.reports.Report.{Report}
use Rattle.report.specs.declared.reports.Report.TheVariants.{Pair, Map, Chain}
use Rattle.report.specs.declared.reports.Report.TheVariants as reports
use Rattle.report.specs.declared.accepted.Accepted.{Accepted}
use Rattle.report.specs.declared.accepted.AcceptedMap.{AcceptedMap}
use Rattle.report.specs.declared.reports.Shown.{Shown}

-- the vector space of that dimension over the field of p elements: 0, Z_p or Z_p^d
abbrev pub group_text : ℕ → ℕ → List ℕ
group_text p d = if d == 0 then codes "0"
    else if d == 1 then codes "Z_" ++ decimal p
    else codes "Z_" ++ decimal p ++ codes "^" ++ decimal d

-- the line on the homology group of degree k
abbrev pub group_line : ℕ → ℕ → ℕ → List ℕ
group_line p k d = codes "H_" ++ decimal k ++ codes " = " ++ group_text p d ++ codes "\n"

-- the line on the cycle of number j in degree k
abbrev pub cycle_line : {G : Type 0} → (G → List ℕ) → ℕ → ℕ → List (G × ℕ) → List ℕ
cycle_line write k j z =
    codes "z_" ++ decimal k ++ codes "_" ++ decimal j ++ codes " = " ++ chain_text write z
    ++ codes "\n"

-- the lines on these cycles of degree k, which are numbered from j
abbrev pub cycle_lines_from : {G : Type 0} → (G → List ℕ) → ℕ → ℕ → List (List (G × ℕ)) → List ℕ
cycle_lines_from write k j [] = []
cycle_lines_from write k j (z ∷ zs) = cycle_line write k j z ++ cycle_lines_from write k (j + 1) zs

-- the lines on the cycles of degree k, which are numbered from 1
abbrev pub cycle_lines : {G : Type 0} → (G → List ℕ) → ℕ → List (List (G × ℕ)) → List ℕ
cycle_lines write k zs = cycle_lines_from write k 1 zs

-- the lines of degree k: the group of dimension d, and the cycles
abbrev pub degree_lines : {G : Type 0} → (G → List ℕ) → ℕ → ℕ → ℕ → List (List (G × ℕ)) → List ℕ
degree_lines write p k d zs = group_line p k d ++ cycle_lines write k zs

-- the lines of degree k and up, for these dimensions and the cycles of all degrees from 0
abbrev pub group_lines_from : {G : Type 0} → (G → List ℕ) → ℕ → ℕ → List ℕ
    → List (List (List (G × ℕ))) → List ℕ
group_lines_from write p k [] cycles = []
group_lines_from write p k (d ∷ ds) cycles =
    degree_lines write p k d (get_or cycles k []) ++ group_lines_from write p (k + 1) ds cycles

-- the lines of degree 0 and up
abbrev pub group_lines : {G : Type 0} → (G → List ℕ) → ℕ → List ℕ → List (List (List (G × ℕ)))
    → List ℕ
group_lines write p ds cycles = group_lines_from write p 0 ds cycles

-- the cycles that are printed
abbrev pub shown_cycles : {G : Type 0} → Shown → List (List (List (G × ℕ)))
    → List (List (List (G × ℕ)))
shown_cycles shown cycles = if shown.cycles then cycles else []

-- the line on a count of this name
abbrev pub count_line : List ℕ → ℕ → List ℕ
count_line name count = name ++ codes " " ++ decimal count ++ codes "\n"

-- the lines on the relative cells of a pair, the members that were moved, and the cells that were
-- left
abbrev pub count_lines : PairReport → List ℕ
count_lines pair = count_line (codes "cells") pair.cells
    ++ count_line (codes "grown") (length pair.grown)
    ++ count_line (codes "left") (length pair.left)

-- those that are printed
abbrev pub shown_counts : Shown → PairReport → List ℕ
shown_counts shown pair = if shown.stats then count_lines pair else []

-- the lines on a pair
abbrev pub pair_lines : PairReport → Shown → List ℕ
pair_lines pair shown =
    group_lines cell_text shown.modulus pair.dimensions (shown_cycles shown pair.cycles)
    ++ shown_counts shown pair

-- ---- maps

-- an entry of a matrix, behind a space
abbrev pub entry_text : ℕ → List ℕ
entry_text entry = codes " " ++ decimal entry

-- the line on a row of a matrix: two spaces, then the entries with one space between them; a row
-- without entries has no line
abbrev pub row_line : List ℕ → List ℕ
row_line [] = []
row_line (entry ∷ entries) =
    codes " " ++ flat_map entry_text (entry ∷ entries) ++ codes "\n"

-- the line on the rank of a map of this letter in degree k
abbrev pub rank_line : List ℕ → ℕ → ℕ → List ℕ
rank_line letter k rank =
    letter ++ codes "_" ++ decimal k ++ codes " rank " ++ decimal rank ++ codes "\n"

-- the rows that are printed
abbrev pub shown_rows : Shown → List (List ℕ) → List (List ℕ)
shown_rows shown rows = if shown.matrix then rows else []

-- the lines on a map of this letter in degree k: its rank, and the rows of its matrix
abbrev pub map_degree_lines : Shown → List ℕ → ℕ → ℕ → List (List ℕ) → List ℕ
map_degree_lines shown letter k rank rows =
    rank_line letter k rank ++ flat_map row_line (shown_rows shown rows)

-- the lines of degree k and up, for these ranks and the matrices of all degrees from 0
abbrev pub map_lines_from : Shown → ℕ → List ℕ → List (List (List ℕ)) → List ℕ
map_lines_from shown k [] matrices = []
map_lines_from shown k (rank ∷ ranks) matrices =
    map_degree_lines shown (codes "F") k rank (get_or matrices k [])
    ++ map_lines_from shown (k + 1) ranks matrices

-- ---- index matrices

-- the line on the size of a reduced Leray matrix in degree k
abbrev pub size_line : ℕ → ℕ → List ℕ
size_line k size = codes "L_" ++ decimal k ++ codes " = " ++ decimal size ++ codes "\n"

-- the reduced Leray matrices, by degree
abbrev pub reduced_of : List LerayRows → List (List (List ℕ))
reduced_of leray = map (λ l. l.reduced) leray

-- the lines on an index matrix in degree k, and the size and the rows of its reduced Leray matrix
abbrev pub index_degree_lines : Shown → ℕ → ℕ → List (List ℕ) → List (List ℕ) → List ℕ
index_degree_lines shown k rank rows reduced =
    map_degree_lines shown (codes "N") k rank rows
    ++ size_line k (length reduced) ++ flat_map row_line (shown_rows shown reduced)

-- the lines of degree k and up, for these ranks and the matrices of all degrees from 0
abbrev pub index_lines_from : Shown → ℕ → List ℕ → List (List (List ℕ))
    → List (List (List ℕ)) → List ℕ
index_lines_from shown k [] matrices reduced = []
index_lines_from shown k (rank ∷ ranks) matrices reduced =
    index_degree_lines shown k rank (get_or matrices k []) (get_or reduced k [])
    ++ index_lines_from shown (k + 1) ranks matrices reduced

-- the lines on index matrices
abbrev pub index_text : IndexPart → Shown → List ℕ
index_text index shown = codes "index\n"
    ++ index_lines_from shown 0 index.ranks index.matrices.items (reduced_of index.leray.items)

-- those that are wanted
abbrev pub wanted_text : Option IndexPart → Shown → List ℕ
wanted_text None shown = []
wanted_text (Some index) shown = index_text index shown

-- the lines on a map, and on the pairs between which it goes
abbrev pub map_text : MapReport → Shown → List ℕ
map_text map shown =
    codes "domain\n" ++ pair_lines map.domain shown
    ++ codes "range\n" ++ pair_lines map.range shown
    ++ codes "map\n" ++ map_lines_from shown 0 map.ranks map.matrices.items
    ++ wanted_text map.index shown

-- ---- witness files that are accepted

-- the lines on the groups of these dimensions in degree k and up
abbrev pub dimension_lines : ℕ → ℕ → List ℕ → List ℕ
dimension_lines p k [] = []
dimension_lines p k (d ∷ ds) = group_line p k d ++ dimension_lines p (k + 1) ds

-- the lines on the ranks of a map in degree k and up
abbrev pub rank_lines : ℕ → List ℕ → List ℕ
rank_lines k [] = []
rank_lines k (rank ∷ ranks) = rank_line (codes "F") k rank ++ rank_lines (k + 1) ranks

-- the lines on both pairs of a map, and on its ranks
abbrev pub accepted_map_text : ℕ → List ℕ → AcceptedMap → List ℕ
accepted_map_text p domain map =
    codes "domain\n" ++ dimension_lines p 0 domain
    ++ codes "range\n" ++ dimension_lines p 0 map.range
    ++ codes "map\n" ++ rank_lines 0 map.ranks

-- the lines on a pair, or on a map
abbrev pub accepted_part : ℕ → List ℕ → Option AcceptedMap → List ℕ
accepted_part p domain None = dimension_lines p 0 domain
accepted_part p domain (Some map) = accepted_map_text p domain map

abbrev pub accepted_text : Accepted → Shown → List ℕ
accepted_text accepted shown =
    codes "accepted\n" ++ accepted_part shown.modulus accepted.domain accepted.map

-- ---- reports

-- the text of a report
abbrev pub report_text : Report → Shown → List ℕ
report_text (Pair pair) shown = pair_lines pair shown
report_text (Map map) shown = map_text map shown
report_text (Chain dimensions cycles) shown =
    group_lines number_text shown.modulus dimensions (shown_cycles shown cycles)
report_text (reports.Accepted accepted) shown = accepted_text accepted shown
