-- Which faults refuse a map of pairs: one can be found or there is none, and all that do are one but for its chains.
use Rattle.std.proofs.Common.{◌≡◌, ◌≢◌, ◌⊎◌, inl, inr, ⊎_elim, ℕ, ◌<◌, ◌≤◌, ◌^◌, refl, sym, ap, ◌∙◌, subst, List, [], length, Bool, true, false}
use Rattle.std.specs.List.{Contains}
use Rattle.std.proofs.lemmas.Bool.{true≢false, cases_Bool}
use Rattle.field_mod.specs.Modular.{IsField}
use Rattle.elem_cubes.specs.Cells.{Factor}
use Rattle.cube_sets.specs.Closures.{cells_of}
use Rattle.cube_maps.specs.CubeMaps.{Naming, names, value_of}
use Rattle.cell_complex.specs.Acyclic.{IsAcyclic}
use Rattle.cell_complex.specs.Numbering.{cell_terms}
use Rattle.cell_complex.proofs.Deciding.{has_from, from_has}
use Rattle.acyclic_values.specs.Values.{IsValueAt}
use Rattle.acyclic_values.specs.CarriedMaps.{GoesInto}
use Rattle.acyclic_values.specs.Faults.{IsHoleOf}
use Rattle.acyclic_values.specs.Deciding.{DecidedValue, IsNormalHole}
use Rattle.acyclic_values.specs.declared.hole.Hole.{Hole}
use Rattle.acyclic_values.specs.declared.hole.Hole.TheVariants.{Empty, Class}
use Rattle.acyclic_values.proofs.Cells.{cells_listing}
use Rattle.acyclic_values.proofs.Values.{values_are_one}
use Rattle.acyclic_values.proofs.Deciding.{values_are_decided, holes_have_one_degree}
use Rattle.acyclic_values.proofs.Contracting.{never_both}
use Rattle.map_checks.specs.Firsts.{IsFirstOf}
use Rattle.map_checks.specs.Faults.{together, AreNamed, Leaves, IsFirstOutside, IsHollowAt, HasNoSetFault}
use Rattle.faults.specs.declared.fault.Fault.{Fault}
use Rattle.faults.specs.declared.fault.Fault.TheVariants.{NoTool, NotAForm, CannotRead, BadText, NotComplex, Dimension, Limit, Undefined, LeavesRange, LeavesSubset, EmptyValue, NotAcyclic, NotInRange, NotInSubset, Killed, Missed, LawFails, CannotWriteOut, CannotWrite, OutOfMemory}
use Rattle.faults.specs.Statuses.{status_of, without_chain}
use Rattle.faults.specs.declared.status.Status.TheVariants as statuses
use Rattle.pair_maps.specs.MapRefusals.{IsShownHole, IsFirstHollow, RefusesMap}
use Rattle.pair_maps.proofs.FirstCells.{first_or_none, first_is_one}
use Rattle.cube_sets.specs.Sorted.{has}
use Rattle.elem_cubes.specs.Order.{cell_cmp}
use Rattle.cell_complex.proofs.Deciding.{has_is}

contains_or : (set : List (List Factor)) (v : List Factor) → Contains set v ⊎ (Contains set v → ⊥)
contains_or set v = ⊎_elim
    (λ e. inl (from_has set v (sym (has_is set v) ∙ e)))
    (λ e. inr (λ w. true≢false (sym (has_is set v ∙ has_from set v w) ∙ e)))
    (cases_Bool (has cell_cmp set v))

not_contains_or : (set : List (List Factor)) (v : List Factor) → (Contains set v → ⊥) ⊎ ((Contains set v → ⊥) → ⊥)
not_contains_or set v = ⊎_elim (λ w. inr (λ n. n w)) (λ n. inl n) (contains_or set v)

not_true : (b : Bool) → (b ≡ false → ⊥) → b ≡ true
not_true true n = refl
not_true false n = absurd (n refl)

unnamed_or : (map : List Naming) (q : List Factor) → (names map q ≡ false) ⊎ (names map q ≡ false → ⊥)
unnamed_or map q = ⊎_elim (λ e. inr (λ f. true≢false (sym e ∙ f))) (λ e. inl e) (cases_Bool (names map q))

module _ (map : List Naming) (set : List (List Factor)) where
  first_value : (q : List Factor) → ((v : List Factor) × IsFirstOf (value_of map q) (λ w. Contains set w → ⊥) v) ⊎ ((v : List Factor) → Contains (value_of map q) v → (Contains set v → ⊥) → ⊥)
  first_value q = first_or_none (λ w. Contains set w → ⊥) (value_of map q) (λ v w. not_contains_or set v)

  leaves_or : (q : List Factor) → Leaves map set q ⊎ (Leaves map set q → ⊥)
  leaves_or q = ⊎_elim
      (λ (v, f). inl (v, record { value = f.there; outside = f.here }))
      (λ none. inr (λ (v, o). none v o.value o.outside))
      (first_value q)

  first_out : (q : List Factor) → Leaves map set q → (v : List Factor) × IsFirstOf (value_of map q) (λ w. Contains set w → ⊥) v
  first_out q (v, o) = ⊎_elim (λ r. r) (λ none. absurd (none v o.value o.outside)) (first_value q)

  goes : (cubes : List (List Factor)) → ((q : List Factor) → Contains cubes q → Leaves map set q → ⊥) → GoesInto map cubes set
  goes cubes none q v w u = ⊎_elim (λ h. h) (λ n. absurd (none q w (v, record { value = u; outside = n }))) (contains_or set v)

  -- the first of the cubes that leaves the set, with its first such value, or all go into it
  outside_or : (cubes : List (List Factor)) → ((q : List Factor) × (v : List Factor) × IsFirstOutside map cubes set q v) ⊎ GoesInto map cubes set
  outside_or cubes = ⊎_elim
      (λ (q, first). let v = first_out q first.here in inl (q, v.0, record { cube = first; value = v.1 }))
      (λ none. inr (goes cubes none))
      (first_or_none (Leaves map set) cubes (λ q w. leaves_or q))

  leaving_inside : (cubes : List (List Factor)) (q v : List Factor) → IsFirstOutside map cubes set q v → GoesInto map cubes set → ⊥
  leaving_inside cubes q v f into = f.value.here (into q v f.cube.there f.value.there)

  -- the first of the cubes that leaves the set is one, and so is its first such value
  outside_is_one : (cubes : List (List Factor)) (q v r u : List Factor) → IsFirstOutside map cubes set q v → IsFirstOutside map cubes set r u → (q ≡ r) × (v ≡ u)
  outside_is_one cubes q v r u f g =
      let e : q ≡ r = first_is_one (Leaves map set) cubes q r f.cube g.cube in
      (e, first_is_one (λ w. Contains set w → ⊥) (value_of map r) v u (subst (λ (s : List Factor). IsFirstOf (value_of map s) (λ w. Contains set w → ⊥) v) e f.value) g.value)

module _ (p : ℕ) (map : List Naming) (x a y b : List (List Factor)) where
  abbrev pub domain : List (List Factor)
  domain = together x a

  abbrev pub range : List (List Factor)
  range = together y b

  module _ (field : IsField p) (few : length (cells_of range) < 2 ^ 32) (ft : HasNoSetFault map x a y b) where
    at_cell : (s : List Factor) → Contains (cells_of domain) s → DecidedValue p map domain s
    at_cell s w = values_are_decided p map domain range s field ft.inside few (((cells_listing domain).members s).1 w)

    hollow_hole : (value : List (List Factor)) (hole : Hole p) → IsHoleOf p value hole → IsAcyclic p value → ⊥
    hollow_hole value Empty h ac = ac.some h
    hollow_hole value (Class k z w) h ac = never_both p value k _ _ field.above_one ac h.0

    hollow_or : (s : List Factor) → Contains (cells_of domain) s → IsHollowAt p map domain s ⊎ (IsHollowAt p map domain s → ⊥)
    hollow_or s w =
        let d = at_cell s w in
        ⊎_elim
        (λ ac. inr (λ h. h.hollow (subst (IsAcyclic p) (values_are_one map domain s d.value h.value d.is h.is) ac)))
        (λ hole. inl (record { value = d.value; is = d.is; hollow = hollow_hole d.value hole.hole hole.of_cells }))
        d.decided

    by_hole : (s : List Factor) → IsFirstOf (cells_of domain) (IsHollowAt p map domain) s → (value : List (List Factor)) → IsValueAt map domain s value
        → (hole : Hole p) → IsHoleOf p value hole → IsNormalHole p hole → (fault : Fault) × RefusesMap p map x a y b fault
    by_hole s first value is Empty h n = (EmptyValue s, (ft, record { first = first; is = subst (λ (v : List (List Factor)). IsValueAt map domain s v) h is }))
    by_hole s first value is (Class k z w) h n = (
      NotAcyclic s k (cell_terms value z) (cell_terms value w),
      (ft, value, record { first = first; is = is }, record { z = z; w = w; hole = h; normal_cycle = n.0; normal_cocycle = n.1; cycle_is = refl; cocycle_is = refl }),
    )

    at_first : (s : List Factor) → IsFirstOf (cells_of domain) (IsHollowAt p map domain) s → (fault : Fault) × RefusesMap p map x a y b fault
    at_first s first =
        let d = at_cell s first.there in
        ⊎_elim
        (λ ac. absurd (first.here.hollow (subst (IsAcyclic p) (values_are_one map domain s d.value first.here.value d.is first.here.is) ac)))
        (λ hole. by_hole s first d.value d.is hole.hole hole.of_cells hole.normal)
        d.decided

  -- nothing refuses the map, with what that means for its values
  pub none_refuses : HasNoSetFault map x a y b → ((s : List Factor) → Contains (cells_of domain) s → IsHollowAt p map domain s → ⊥) → (fault : Fault) → RefusesMap p map x a y b fault → ⊥
  none_refuses ft none (Undefined cube) r = true≢false (sym (ft.named cube r.there) ∙ r.here)
  none_refuses ft none (LeavesRange cube value) r = leaving_inside map range domain cube value r.1 ft.inside
  none_refuses ft none (LeavesSubset cube value) r = leaving_inside map b a cube value r.2 ft.carried
  none_refuses ft none (EmptyValue cell) r = none cell r.1.first.there r.1.first.here
  none_refuses ft none (NotAcyclic cell degree cycle cocycle) r = none cell r.2.first.there r.2.first.here
  none_refuses ft none NoTool r = r
  none_refuses ft none (NotAForm tool) r = r
  none_refuses ft none (CannotRead name) r = r
  none_refuses ft none (BadText name place cause) r = r
  none_refuses ft none (NotComplex name degree generator value at) r = r
  none_refuses ft none (Dimension name found earlier) r = r
  none_refuses ft none (Limit count number) r = r
  none_refuses ft none (NotInRange cube) r = r
  none_refuses ft none (NotInSubset cube) r = r
  none_refuses ft none (Killed degree chain) r = r
  none_refuses ft none (Missed degree chain) r = r
  none_refuses ft none (LawFails name line law) r = r
  none_refuses ft none CannotWriteOut r = r
  none_refuses ft none (CannotWrite name) r = r
  none_refuses ft none OutOfMemory r = r

  pub refusal_or_none : IsField p → length (cells_of range) < 2 ^ 32 → ((fault : Fault) × RefusesMap p map x a y b fault) ⊎ ((fault : Fault) → RefusesMap p map x a y b fault → ⊥)
  refusal_or_none field few = ⊎_elim
      (λ (q, first). inl (Undefined q, first))
      (λ all_named.
      let named : AreNamed map domain = λ q w. not_true (names map q) (all_named q w) in
      ⊎_elim
      (λ (q, v, first). inl (LeavesRange q v, (named, first)))
      (λ inside.
      ⊎_elim
      (λ (q, v, first). inl (LeavesSubset q v, (named, inside, first)))
      (λ carried.
      let ft : HasNoSetFault map x a y b = record { named = named; inside = inside; carried = carried } in
      ⊎_elim
      (λ (s, first). inl (at_first field few ft s first))
      (λ acyclic. inr (none_refuses ft acyclic))
      (first_or_none (IsHollowAt p map domain) (cells_of domain) (hollow_or field few ft)))
      (outside_or map b a))
      (outside_or map range domain))
      (first_or_none (λ q. names map q ≡ false) domain (λ q w. unnamed_or map q))

  -- ---- refusals are one but for their chains

  record OfUndefined (fault : Fault) : Type 0 where
    cube : List Factor
    is : fault ≡ Undefined cube
    first : IsFirstOf domain (λ q. names map q ≡ false) cube

  record OfLeaving (fault : Fault) : Type 0 where
    cube : List Factor
    value : List Factor
    is : fault ≡ LeavesRange cube value
    named : AreNamed map domain
    first : IsFirstOutside map domain range cube value

  record OfSubset (fault : Fault) : Type 0 where
    cube : List Factor
    value : List Factor
    is : fault ≡ LeavesSubset cube value
    named : AreNamed map domain
    inside : GoesInto map domain range
    first : IsFirstOutside map a b cube value

  record OfHole (fault : Fault) (cell : List Factor) (value : List (List Factor)) : Type 0 where
    degree : ℕ
    cycle : List (List Factor × ℕ)
    cocycle : List (List Factor × ℕ)
    is : fault ≡ NotAcyclic cell degree cycle cocycle
    shown : IsShownHole p value degree cycle cocycle

  record OfHollow (fault : Fault) : Type 0 where
    cell : List Factor
    value : List (List Factor)
    goes : HasNoSetFault map x a y b
    first : IsFirstHollow p map domain cell value
    why : ((fault ≡ EmptyValue cell) × (value ≡ [])) ⊎ OfHole fault cell value

  abbrev View : Fault → Type 0
  View fault = OfUndefined fault ⊎ (OfLeaving fault ⊎ (OfSubset fault ⊎ OfHollow fault))

  view : (fault : Fault) → RefusesMap p map x a y b fault → View fault
  view (Undefined cube) r = inl (record { cube = cube; is = refl; first = r })
  view (LeavesRange cube value) r = inr (inl (record { cube = cube; value = value; is = refl; named = r.0; first = r.1 }))
  view (LeavesSubset cube value) r = inr (inr (inl (record { cube = cube; value = value; is = refl; named = r.0; inside = r.1; first = r.2 })))
  view (EmptyValue cell) r = inr (inr (inr (record { cell = cell; value = []; goes = r.0; first = r.1; why = inl (refl, refl) })))
  view (NotAcyclic cell degree cycle cocycle) r = inr (inr (inr (record { cell = cell; value = r.1; goes = r.0; first = r.2; why = inr (record { degree = degree; cycle = cycle; cocycle = cocycle; is = refl; shown = r.3 }) })))
  view NoTool r = absurd r
  view (NotAForm tool) r = absurd r
  view (CannotRead name) r = absurd r
  view (BadText name place cause) r = absurd r
  view (NotComplex name degree generator value at) r = absurd r
  view (Dimension name found earlier) r = absurd r
  view (Limit count number) r = absurd r
  view (NotInRange cube) r = absurd r
  view (NotInSubset cube) r = absurd r
  view (Killed degree chain) r = absurd r
  view (Missed degree chain) r = absurd r
  view (LawFails name line law) r = absurd r
  view CannotWriteOut r = absurd r
  view (CannotWrite name) r = absurd r
  view OutOfMemory r = absurd r

  leaving_same : (f g : Fault) → OfLeaving f → OfLeaving g → f ≡ g
  leaving_same f g v w =
      let e = outside_is_one map range domain v.cube v.value w.cube w.value v.first w.first in
      v.is ∙ ap (λ q. LeavesRange q v.value) e.0 ∙ ap (λ q. LeavesRange w.cube q) e.1 ∙ sym w.is

  subset_same : (f g : Fault) → OfSubset f → OfSubset g → f ≡ g
  subset_same f g v w =
      let e = outside_is_one map b a v.cube v.value w.cube w.value v.first w.first in
      v.is ∙ ap (λ q. LeavesSubset q v.value) e.0 ∙ ap (λ q. LeavesSubset w.cube q) e.1 ∙ sym w.is

  hole_some : (value : List (List Factor)) (degree : ℕ) (cycle cocycle : List (List Factor × ℕ)) → IsShownHole p value degree cycle cocycle → value ≢ []
  hole_some value degree cycle cocycle s = s.hole.0.some

  hollow_same : 2 ≤ p → (f g : Fault) → OfHollow f → OfHollow g → without_chain f ≡ without_chain g
  hollow_same two f g v w =
      let e : v.cell ≡ w.cell = first_is_one (IsHollowAt p map domain) (cells_of domain) v.cell w.cell v.first.first w.first.first in
      let u : v.value ≡ w.value = values_are_one map domain w.cell v.value w.value (subst (λ (s : List Factor). IsValueAt map domain s v.value) e v.first.is) w.first.is in
      ⊎_elim
      (λ h. ⊎_elim
      (λ k. ap without_chain (h.0 ∙ ap (λ q. EmptyValue q) e ∙ sym k.0))
      (λ k. absurd (hole_some w.value k.degree k.cycle k.cocycle k.shown (sym u ∙ h.1)))
      w.why)
      (λ h. ⊎_elim
      (λ k. absurd (hole_some v.value h.degree h.cycle h.cocycle h.shown (u ∙ k.1)))
      (λ k.
      let s : IsShownHole p w.value h.degree h.cycle h.cocycle = subst (λ (c : List (List Factor)). IsShownHole p c h.degree h.cycle h.cocycle) u h.shown in
      let d : h.degree ≡ k.degree = holes_have_one_degree p w.value h.degree k.degree _ _ _ _ two s.hole.0 k.shown.hole.0 in
      ap without_chain h.is ∙ ap (λ q. NotAcyclic q h.degree [] []) e ∙ ap (λ n. NotAcyclic w.cell n [] []) d ∙ sym (ap without_chain k.is))
      w.why)
      v.why

  unnamed_named : (f : Fault) → OfUndefined f → AreNamed map domain → ⊥
  unnamed_named f v named = true≢false (sym (named v.cube v.first.there) ∙ v.first.here)

  leaving_goes : (f : Fault) → OfLeaving f → GoesInto map domain range → ⊥
  leaving_goes f v into = leaving_inside map range domain v.cube v.value v.first into

  subset_goes : (f : Fault) → OfSubset f → GoesInto map a b → ⊥
  subset_goes f v into = leaving_inside map b a v.cube v.value v.first into

  views_alike : 2 ≤ p → (f g : Fault) → View f → View g → without_chain f ≡ without_chain g
  views_alike two f g (inl v) (inl w) = ap without_chain (v.is ∙ ap (λ q. Undefined q) (first_is_one (λ q. names map q ≡ false) domain v.cube w.cube v.first w.first) ∙ sym w.is)
  views_alike two f g (inl v) (inr (inl w)) = absurd (unnamed_named f v w.named)
  views_alike two f g (inl v) (inr (inr (inl w))) = absurd (unnamed_named f v w.named)
  views_alike two f g (inl v) (inr (inr (inr w))) = absurd (unnamed_named f v w.goes.named)
  views_alike two f g (inr (inl v)) (inl w) = absurd (unnamed_named g w v.named)
  views_alike two f g (inr (inl v)) (inr (inl w)) = ap without_chain (leaving_same f g v w)
  views_alike two f g (inr (inl v)) (inr (inr (inl w))) = absurd (leaving_goes f v w.inside)
  views_alike two f g (inr (inl v)) (inr (inr (inr w))) = absurd (leaving_goes f v w.goes.inside)
  views_alike two f g (inr (inr (inl v))) (inl w) = absurd (unnamed_named g w v.named)
  views_alike two f g (inr (inr (inl v))) (inr (inl w)) = absurd (leaving_goes g w v.inside)
  views_alike two f g (inr (inr (inl v))) (inr (inr (inl w))) = ap without_chain (subset_same f g v w)
  views_alike two f g (inr (inr (inl v))) (inr (inr (inr w))) = absurd (subset_goes f v w.goes.carried)
  views_alike two f g (inr (inr (inr v))) (inl w) = absurd (unnamed_named g w v.goes.named)
  views_alike two f g (inr (inr (inr v))) (inr (inl w)) = absurd (leaving_goes g w v.goes.inside)
  views_alike two f g (inr (inr (inr v))) (inr (inr (inl w))) = absurd (subset_goes g w v.goes.carried)
  views_alike two f g (inr (inr (inr v))) (inr (inr (inr w))) = hollow_same two f g v w

  pub refusals_alike : 2 ≤ p → (f g : Fault) → RefusesMap p map x a y b f → RefusesMap p map x a y b g → without_chain f ≡ without_chain g
  refusals_alike two f g r s = views_alike two f g (view f r) (view g s)

  view_status : (f : Fault) → View f → status_of f ≡ statuses.MapRefused
  view_status f (inl v) = ap status_of v.is
  view_status f (inr (inl v)) = ap status_of v.is
  view_status f (inr (inr (inl v))) = ap status_of v.is
  view_status f (inr (inr (inr v))) = ⊎_elim (λ h. ap status_of h.0) (λ h. ap status_of h.is) v.why

  pub refusal_status : (f : Fault) → RefusesMap p map x a y b f → status_of f ≡ statuses.MapRefused
  refusal_status f r = view_status f (view f r)
