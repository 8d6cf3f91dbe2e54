-- What a fault of a map of pairs refuses, and what a carrier shows that nothing refuses.
use Rattle.std.proofs.Common.{◌≡◌, ◌<◌, ◌⊎◌, inl, inr, ⊎_elim, ℕ, refl, sym, subst, arith, List, []}
use Rattle.std.specs.List.{Contains}
use Rattle.elem_cubes.specs.Cells.{Factor}
use Rattle.cube_sets.specs.Closures.{cells_of}
use Rattle.cube_maps.specs.CubeMaps.{Naming}
use Rattle.cell_complex.specs.CellCount.{cell_count}
use Rattle.acyclic_values.specs.CarriedMaps.{IsAcyclicMap}
use Rattle.acyclic_values.specs.Deciding.{IsNormalHole}
use Rattle.acyclic_values.specs.Faults.{IsHoleOf}
use Rattle.acyclic_values.specs.declared.hole.Hole.{Hole}
use Rattle.acyclic_values.specs.declared.hole.Hole.TheVariants.{Empty, Class}
use Rattle.acyclic_values.proofs.Cells.{cells_listing}
use Rattle.map_checks.specs.Faults.{together, IsHollowAt, HasNoSetFault, IsMapFault}
use Rattle.map_checks.specs.Carriers.{Carrying, IsCarrier}
use Rattle.map_checks.specs.declared.map_fault.MapFault.{MapFault}
use Rattle.map_checks.specs.declared.map_fault.MapFault.TheVariants as maps
use Rattle.faults.specs.declared.fault.Fault.{Fault}
use Rattle.faults.specs.declared.fault.Fault.TheVariants.{Limit, OutOfMemory}
use Rattle.faults.specs.declared.limit_name.LimitName.TheVariants.{Cells}
use Rattle.loading.specs.Jobs.{IsAllowed}
use Rattle.pair_maps.specs.declared.inputs.PairMap.{PairMap}
use Rattle.pair_maps.specs.Inputs.{domain_of, range_of}
use Rattle.pair_maps.specs.MapRefusals.{IsFirstHollow, RefusesMap}
use Rattle.pair_maps.specs.Telling.{hole_fault, IsTold, HasItsHole}
use Rattle.pair_maps.specs.Refusals.{most_cells, HasTooMany, HasFew, RefusesMapOf, RefusesPairMap}
use Rattle.pair_maps.proofs.Refusing.{none_refuses}

-- ---- what a fault of the map refuses

pub its_hole : (p : ℕ) (map : List Naming) (x a y b : List (List Factor)) (fault : MapFault p) → IsMapFault p map x a y b fault → HasItsHole p fault
its_hole p map x a y b (maps.NotAcyclic cell value hole) h = h.3
its_hole p map x a y b (maps.Undefined cube) h = tt
its_hole p map x a y b (maps.LeavesRange cube value) h = tt
its_hole p map x a y b (maps.NotCarried cube value) h = tt
its_hole p map x a y b maps.NoMemory h = tt

module _ (p : ℕ) (map : List Naming) (x a y b : List (List Factor)) where
  hole_refuses : (cell : List Factor) (value : List (List Factor)) (hole : Hole p) → HasNoSetFault map x a y b → IsFirstHollow p map (together x a) cell value
      → IsHoleOf p value hole → IsNormalHole p hole → RefusesMap p map x a y b (hole_fault p cell value hole)
  hole_refuses cell value Empty goes first h n = (goes, subst (λ (v : List (List Factor)). IsFirstHollow p map (together x a) cell v) h first)
  hole_refuses cell value (Class k z w) goes first h n = (
    goes,
    value,
    first,
    record { z = z; w = w; hole = h; normal_cycle = n.0; normal_cocycle = n.1; cycle_is = refl; cocycle_is = refl },
  )

  pub map_refused : (fault : MapFault p) → IsMapFault p map x a y b fault → (told : Fault) → IsTold p fault told → RefusesMap p map x a y b told ⊎ (told ≡ OutOfMemory)
  map_refused (maps.Undefined cube) h told t = inl (subst (RefusesMap p map x a y b) (sym t) h)
  map_refused (maps.LeavesRange cube value) h told t = inl (subst (RefusesMap p map x a y b) (sym t) h)
  map_refused (maps.NotCarried cube value) h told t = inl (subst (RefusesMap p map x a y b) (sym t) h)
  map_refused (maps.NotAcyclic cell value hole) h told t =
      inl (subst (RefusesMap p map x a y b) (sym t.0) (hole_refuses cell value.items hole h.0 (record { first = h.1; is = h.2 }) h.3 t.1))
  map_refused maps.NoMemory h told t = inr t

  pub carried : HasNoSetFault map x a y b → (c : Carrying) → c.map ≡ map → c.domain ≡ together x a → IsCarrier p c → (fault : Fault) → RefusesMap p map x a y b fault → ⊥
  carried h c em ed is = none_refuses p map x a y b h full
    where
      on_map : IsAcyclicMap p map c.domain c.range
      on_map = subst (λ (m : List Naming). IsAcyclicMap p m c.domain c.range) em is.acyclic

      on_domain : IsAcyclicMap p map (together x a) c.range
      on_domain = subst (λ (d : List (List Factor)). IsAcyclicMap p map d c.range) ed on_map

      full : (s : List Factor) → Contains (cells_of (together x a)) s → IsHollowAt p map (together x a) s → ⊥
      full s w v = v.hollow (on_domain.acyclic s v.value (((cells_listing (together x a)).members s).1 w) v.is)

-- ---- the first refusal

pub never_both : (m : PairMap) → HasTooMany m → HasFew m → ⊥
never_both m (inl more) few = omega (arith, more, few.domain)
never_both m (inr more) few = omega (arith, more, few.range)

pub allowed : (p : ℕ) (m : PairMap) → HasFew m → IsAllowed (RefusesMapOf p) m → IsAllowed (RefusesPairMap p) m
allowed p m few none fault (inl r) = never_both m r.0 few
allowed p m few none fault (inr r) = none fault r.1

module _ (p : ℕ) (m : PairMap) (fault : Fault) where
  pub domain_refused : ((most_cells < cell_count (domain_of m)) × (fault ≡ Limit Cells most_cells)) ⊎ (fault ≡ OutOfMemory) → RefusesPairMap p m fault ⊎ (fault ≡ OutOfMemory)
  domain_refused r = ⊎_elim (λ l. inl (inl (inl l.0, l.1))) (λ e. inr e) r

  pub range_refused : ((most_cells < cell_count (range_of m)) × (fault ≡ Limit Cells most_cells)) ⊎ (fault ≡ OutOfMemory) → RefusesPairMap p m fault ⊎ (fault ≡ OutOfMemory)
  range_refused r = ⊎_elim (λ l. inl (inl (inr l.0, l.1))) (λ e. inr e) r

  pub fault_refused : HasFew m → RefusesMapOf p m fault ⊎ (fault ≡ OutOfMemory) → RefusesPairMap p m fault ⊎ (fault ≡ OutOfMemory)
  fault_refused few r = ⊎_elim (λ l. inl (inr (few, l))) (λ e. inr e) r
