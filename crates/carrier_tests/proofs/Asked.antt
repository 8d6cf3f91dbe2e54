-- What the calls ask for: cells of the domain, numbers of these, pairs that a map goes between, and
-- matrices of the sizes of their bases.
use Rattle.std.proofs.Common.{◌≡◌, ℕ, ◌+◌, ◌<◌, ◌≤◌, sym, subst, arith, ⊎_elim, List, length, get_or, true}
use Rattle.std.specs.List.{Contains}
use Rattle.elem_cubes.specs.Cells.{Factor}
use Rattle.cube_sets.specs.Closures.{is_cell_of, cells_of}
use Rattle.cell_complex.specs.Numbering.{IsRelativeComplex}
use Rattle.acyclic_values.specs.CarriedMaps.{IsTogether, GoesInto}
use Rattle.acyclic_values.proofs.Cells.{cells_listing}
use Rattle.cube_maps.specs.CubeMaps.{Naming}
use Rattle.map_checks.specs.Carriers.{Carrying}
use Rattle.map_checks.specs.Faults.{together}
use Rattle.map_checks.proofs.Firsts.{together_to, left_together, right_together}
use Rattle.homology_basis.specs.Bases.{BasisOfLog, CyclesOfLog, IsBasisByCycles, IsBasisWithContraction}
use Rattle.leray_conley.specs.Tables.{Table}
use Rattle.chain_selector.specs.Selections.{Selection, IsInDomain, domain_cells}
use Rattle.induced_map.specs.Matrices.{ArePairsOfMap, IsPairOfBasis, IsMatrixOf, nth}
use Rattle.index_map.specs.Inclusion.{IsIncluded}
use Rattle.index_map.specs.Pairs.{AreIncludedPairs, AreSized}
use Rattle.index_map.proofs.Tops.{no_cycles_above}
use Rattle.pair_maps.specs.declared.inputs.PairMap.{PairMap}
use Rattle.pair_maps.specs.Refusals.{IsCarrierOf}

-- a cell that is listed is one of the domain
pub is_cell : (x : List (List Factor)) (q : List Factor) → Contains (cells_of x) q → is_cell_of x q ≡ true
is_cell x q w = ((cells_listing x).members q).1 w

-- the one term of a chain names a cell of the domain
pub one_inside : (s : Selection) (ts : List (ℕ × ℕ)) (t : ℕ × ℕ) → length ts ≡ 1 → t ≡ get_or ts 0 (0, 0) → t.0 < length (domain_cells s) → IsInDomain s ts
one_inside s ts t one first inside k l = at_first k (omega (arith, one, l))
  where
    at_first : (k : ℕ) → k ≡ 0 → (get_or ts k (0, 0)).0 < length (domain_cells s)
    at_first k e = subst (λ (n : ℕ). (get_or ts n (0, 0)).0 < length (domain_cells s)) (sym e) (subst (λ (u : ℕ × ℕ). u.0 < length (domain_cells s)) first inside)

whole : (all x a : List (List Factor)) → all ≡ together x a → IsTogether all x a
whole all x a e = subst (λ (d : List (List Factor)). IsTogether d x a) (sym e)
    (λ q. (λ w. together_to x a q w, λ w. ⊎_elim (λ u. left_together x a q u) (λ u. right_together x a q u) w))

-- a basis without its cocycles
abbrev cycles_alone : BasisOfLog → CyclesOfLog
cycles_alone b = record { log = b.log; cycles = b.cycles }

by_cycles : (p : ℕ) (B : BasisOfLog) → IsBasisWithContraction p B → IsBasisByCycles p (cycles_alone B)
by_cycles p B h = record {
  complex = h.complex;
  reduction = h.reduction;
  nothing_left = h.nothing_left;
  cycles = h.cycles;
  few = h.few;
  normal = h.normal;
  first = h.first;
  inclusions = h.inclusions;
}

-- a map, its carrier, and bases of its pairs
module _ (p : ℕ) (m : PairMap) (c : Carrying) (domain_cells range_cells : List (List Factor)) (A : CyclesOfLog) (B : BasisOfLog) (h : IsCarrierOf p m c)
    (of_domain : IsRelativeComplex p m.x.cells m.a.cells domain_cells A.log.complex) (of_range : IsRelativeComplex p m.y.cells m.b.cells range_cells B.log.complex) where
  pair_of_basis : IsPairOfBasis p c m.x.cells m.a.cells m.y.cells m.b.cells domain_cells A range_cells B
  pair_of_basis = record {
    domain = of_domain;
    range = of_range;
    domain_whole = whole c.domain m.x.cells m.a.cells h.domain;
    range_whole = whole c.range m.y.cells m.b.cells h.range;
    carried = subst (λ (map : List Naming). GoesInto map m.a.cells m.b.cells) (sym h.map) h.sets.carried;
  }

  -- the pairs of the map
  pub pairs_of : ArePairsOfMap p c domain_cells A range_cells B
  pairs_of = record { x = m.x.cells; a = m.a.cells; y = m.y.cells; b = m.b.cells; pairs = pair_of_basis }

  -- the first of which is included in the second
  pub included_of : IsIncluded m.x.cells m.a.cells m.y.cells m.b.cells → AreIncludedPairs p domain_cells A range_cells B
  included_of i = record { x = m.x.cells; a = m.a.cells; y = m.y.cells; b = m.b.cells; pairs = record { included = i; domain = of_domain; range = of_range } }

  domain_short : (q : List Factor) → Contains m.x.cells q → length q ≤ c.dimension
  domain_short q w = let e = h.carrier.dimension q (subst (λ (d : List (List Factor)). Contains d q) (sym h.domain) (left_together m.x.cells m.a.cells q w)) in omega (arith, e)

  range_short : (q : List Factor) → Contains m.y.cells q → length q ≤ c.dimension
  range_short q w = let e = h.carrier.range_dimension q (subst (λ (d : List (List Factor)). Contains d q) (sym h.range) (left_together m.y.cells m.b.cells q w)) in omega (arith, e)

  -- the matrices of the map have the sizes of the bases
  pub sized : IsBasisByCycles p A → IsBasisWithContraction p B → (all : List Table) → length all ≡ c.dimension + 1 → c.dimension ≤ 255
      → ((k : ℕ) → k < length all → IsMatrixOf p c domain_cells A range_cells B k (nth all k)) → AreSized A B all
  sized cycles basis all count few matrices = record {
    few = omega (arith, count, few);
    rows = λ k l. (matrices k l m.x.cells m.a.cells m.y.cells m.b.cells pair_of_basis).rows;
    columns = λ k l. (matrices k l m.x.cells m.a.cells m.y.cells m.b.cells pair_of_basis).columns;
    no_cycles = λ k l. no_cycles_above p c.dimension k m.x.cells m.a.cells domain_cells A of_domain cycles domain_short (omega (arith, l, count));
    no_range_cycles = λ k l. no_cycles_above p c.dimension k m.y.cells m.b.cells range_cells (cycles_alone B) of_range (by_cycles p B basis) range_short (omega (arith, l, count));
  }
