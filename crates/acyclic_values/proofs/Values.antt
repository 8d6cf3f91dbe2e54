-- The values of a map with acyclic values carry, and a pair goes into a pair.
use Rattle.std.proofs.Common.{◌≡◌, ◌≢◌, ◌↔◌, ℕ, inl, inr, refl, sym, ◌∙◌, ⊎_elim, List, [], ◌∷◌, filter, Bool, true, false, ◌&&◌, ◌||◌, subst}
use mathlib.Core.Path.{fun_ext}
use Rattle.std.specs.Prelude.{not}
use Rattle.std.specs.List.{Contains}
use Rattle.std.proofs.lemmas.Bool.{true≢false, and_parts, not-true}
use Rattle.std.specs.Cmp.{both_ways}
use Rattle.std.proofs.lemmas.List.Kept.{IsStrictlySortedBy-filter}
use Rattle.field_mod.proofs.Modular.{same_sym, same_trans}
use Rattle.elem_cubes.specs.Cells.{Factor}
use Rattle.elem_cubes.specs.Faces.{IsFace, is_face}
use Rattle.elem_cubes.specs.Order.{cell_cmp}
use Rattle.elem_cubes.specs.Laws.{cell_at}
use Rattle.elem_cubes.proofs.Members.{In-from, from-In}
use Rattle.elem_cubes.proofs.FaceLemmas.{face_trans}
use Rattle.chains.specs.Homology.{IsCycle, IsNull}
use Rattle.cube_sets.specs.Sorted.{has}
use Rattle.cube_sets.proofs.SameSets.{same_sets}
use Rattle.cube_sets.specs.Closures.{is_cell_of, cells_of}
use Rattle.cube_sets.proofs.Covering.{cells_are_faces}
use Rattle.cell_complex.specs.RelativeComplex.{is_relative, complex_on, IsClosed, IsClosedList}
use Rattle.cell_complex.specs.Numbering.{IsListing}
use Rattle.cell_complex.proofs.Deciding.{closed, cells_of_sets_are_closed, face_true, face_from, has_is, has_from, from_has}
use Rattle.cube_maps.specs.CubeMaps.{Naming, value_of}
use Rattle.cell_complex.specs.Acyclic.{IsAcyclic}
use Rattle.acyclic_values.specs.Values.{in_value, InValue, IsValueAt}
use Rattle.acyclic_values.specs.CarriedMaps.{IsTogether, GoesInto, IsAcyclicMap}
use Rattle.acyclic_values.specs.Laws.{ValuesAreOne}
use Rattle.acyclic_values.proofs.Cells.{all_In, In_all, filter_In, In_filter, cell_in, cell_from, cells_listing, corner, corner_face, corner_dimension, sum_within}
use Rattle.acyclic_values.proofs.Carrying.{IsAcyclicOn, IsCarrying}
use Rattle.acyclic_values.proofs.Agreeing.{IsPairOfMap}

-- ---- the test of being in a value

test_from : (a b : Bool) → (a ≡ true → b ≡ true) → (not a || b) ≡ true
test_from true b h = h refl
test_from false b h = refl

test_to : (a b : Bool) → (not a || b) ≡ true → a ≡ true → b ≡ true
test_to true b h e = h
test_to false b h e = absurd (true≢false (sym e))

module _ (map : List Naming) (domain : List (List Factor)) where
  pub value_to : (s g : List Factor) → in_value map domain s g ≡ true → InValue map domain s g
  value_to s g h q w f = test_to (is_face q s) (is_cell_of (value_of map q) g) (all_In (λ r. not (is_face r s) || is_cell_of (value_of map r) g) domain h q (In-from domain q w)) (face_from q s f)

  pub value_from : (s g : List Factor) → InValue map domain s g → in_value map domain s g ≡ true
  value_from s g h = In_all (λ r. not (is_face r s) || is_cell_of (value_of map r) g) domain (λ q w. test_from (is_face q s) (is_cell_of (value_of map q) g) (λ e. h q (from-In domain q w) (face_true q s e)))

  pub values_closed : (s : List Factor) → IsClosed (in_value map domain s)
  values_closed s g r f h = value_from s r (λ q w e. closed (value_of map q) g r f (value_to s g h q w e))

  pub values_grow : (s r g : List Factor) → IsFace s r → in_value map domain r g ≡ true → in_value map domain s g ≡ true
  values_grow s r g f h = value_from s g (λ q w e. value_to r g h q w (face_trans q s r e f))

  -- a value lies in what all values of some cubes lie in
  pub value_inside : (a b : List (List Factor)) → ((q : List Factor) → Contains a q → Contains domain q) → GoesInto map a b → (s g : List Factor) → is_cell_of a s ≡ true → in_value map domain s g ≡ true → is_cell_of b g ≡ true
  value_inside a b sub into s g at h =
      let w = cell_in a s at in
      let c = cell_in (value_of map w.0) g (value_to s g h w.0 (sub w.0 (from-In a w.0 w.1)) w.2) in
      cell_from b c.0 g (In-from b c.0 (into w.0 c.0 (from-In a w.0 w.1) (from-In (value_of map w.0) c.0 c.1))) c.2

  -- the value at a cell, as a list
  abbrev pub value_list : List (List Factor) → List Factor → List (List Factor)
  value_list range s = filter (in_value map domain s) (cells_of range)

  pub value_list_is : (range : List (List Factor)) (s : List Factor) → ((g : List Factor) → in_value map domain s g ≡ true → is_cell_of range g ≡ true) → IsValueAt map domain s (value_list range s)
  value_list_is range s sub = record {
    sorted = IsStrictlySortedBy-filter cell_cmp (in_value map domain s) (cells_of range) (cells_are_faces.sorted range);
    cells = λ g. (
      λ w. value_to s g (filter_In (in_value map domain s) (cells_of range) g (In-from (value_list range s) g w)).1,
      λ h. let t = value_from s g h in from-In (value_list range s) g (In_filter (in_value map domain s) (cells_of range) g (In-from (cells_of range) g (((cells_listing range).members g).0 (sub g t))) t),
    );
  }

-- the list is one
pub values_are_one : ValuesAreOne
values_are_one map domain s V W v w = same_sets V W v.sorted w.sorted (λ g. both_ways (has cell_cmp V g) (has cell_cmp W g) (λ e. to V W v w g e) (λ e. to W V w v g e))
  where
    to : (V W : List (List Factor)) → IsValueAt map domain s V → IsValueAt map domain s W → (g : List Factor) → has cell_cmp V g ≡ true → has cell_cmp W g ≡ true
    to V W v w g e = has_is W g ∙ has_from W g ((w.cells g).1 ((v.cells g).0 (from_has V g (sym (has_is V g) ∙ e))))

-- ---- acyclic lists

-- a list of cells, closed under faces, and a test that tells them
module _ (p : ℕ) (V : List (List Factor)) (T : List Factor → Bool) (tells : (g : List Factor) → Contains V g ↔ (T g ≡ true)) (tc : IsClosed T) where
  list_closed : IsClosedList V
  list_closed q r f w = (tells r).1 (tc q r f ((tells q).0 w))

  same_test : (g : List Factor) → is_cell_of V g ≡ T g
  same_test g = both_ways (is_cell_of V g) (T g)
      (λ e. (tells g).0 ((cells_of_sets_are_closed.themselves V list_closed g).0 e))
      (λ e. (cells_of_sets_are_closed.themselves V list_closed g).1 ((tells g).1 e))

  same_tests : is_cell_of V ≡ T
  same_tests = fun_ext (λ g. same_test g)

  pub acyclic_on : (rs : List (List Factor)) (R : List Factor → Bool) → IsListing R rs → ((g : List Factor) → T g ≡ true → R g ≡ true) → IsAcyclic p V → IsAcyclicOn p rs T
  acyclic_on rs R lr sub ac = record {
    vertex = corner (cell_at V 0);
    here = tc (cell_at V 0) (corner (cell_at V 0)) (corner_face (cell_at V 0)) first;
    lowest = corner_dimension (cell_at V 0);
    null = λ k z h. subst (λ (t : List Factor → Bool). IsNull p (complex_on p t) k z) same_tests (ac.null k z (record {
      cycle = subst (λ (t : List Factor → Bool). IsCycle p (complex_on p t) k z) (sym same_tests) h.cycle;
      augmentation = λ o. same_trans (same_sym (sum_within p (is_cell_of V) R (cells_of V) rs (cells_listing V) lr (λ q e. sub q (sym (same_test q) ∙ e)) z (λ q e. h.cycle.chain.on q (sym (same_test q) ∙ e)))) (h.augmentation o);
    }));
  }
    where
      head : (V : List (List Factor)) → V ≢ [] → Contains V (cell_at V 0)
      head [] n = absurd (n refl)
      head (q ∷ qs) n = from-In (q ∷ qs) q (inl refl)

      first : T (cell_at V 0) ≡ true
      first = (tells (cell_at V 0)).0 (head V ac.some)

pub values_carry : (p : ℕ) (map : List Naming) (domain range : List (List Factor)) → IsAcyclicMap p map domain range → IsCarrying p (is_cell_of domain) (is_cell_of range) (cells_of domain) (cells_of range) (in_value map domain)
values_carry p map domain range am = record {
  domain = cells_listing domain;
  range = cells_listing range;
  domain_closed = closed domain;
  inside = inside;
  closed = λ s _. values_closed map domain s;
  grows = λ s r g _ f h. values_grow map domain s r g f h;
  acyclic = λ s l.
      let v = value_list_is map domain range s (λ g. inside s g l) in
      acyclic_on p (value_list map domain range s) (in_value map domain s) (λ g. ((λ w. value_from map domain s g ((v.cells g).0 w)), λ e. (v.cells g).1 (value_to map domain s g e))) (values_closed map domain s)
      (cells_of range) (is_cell_of range) (cells_listing range) (λ g. inside s g l) (am.acyclic s (value_list map domain range s) l v);
}
  where
    inside : (s g : List Factor) → is_cell_of domain s ≡ true → in_value map domain s g ≡ true → is_cell_of range g ≡ true
    inside = value_inside map domain domain range (λ q w. w) am.inside

-- ---- pairs

module _ (all x a : List (List Factor)) (t : IsTogether all x a) where
  pub whole_cell : (s : List Factor) → is_cell_of x s ≡ true → is_cell_of all s ≡ true
  whole_cell s h = let w = cell_in x s h in cell_from all w.0 s (In-from all w.0 ((t w.0).1 (inl (from-In x w.0 w.1)))) w.2

  pub relative_cell : (s : List Factor) → is_relative x a s ≡ true → is_cell_of all s ≡ true
  relative_cell s h = whole_cell s (and_parts (is_cell_of x s) (not (is_cell_of a s)) h).0

  pub relative_out : (s : List Factor) → is_relative x a s ≡ true → is_cell_of a s ≡ false
  relative_out s h = not-true (is_cell_of a s) (and_parts (is_cell_of x s) (not (is_cell_of a s)) h).1

  pub relative_rest : (s : List Factor) → is_cell_of all s ≡ true → is_relative x a s ≡ false → is_cell_of a s ≡ true
  relative_rest s h out =
      let w = cell_in all s h in
      ⊎_elim
      (λ c. rest (is_cell_of x s) (is_cell_of a s) (cell_from x w.0 s (In-from x w.0 c) w.2) out)
      (λ c. cell_from a w.0 s (In-from a w.0 c) w.2)
      ((t w.0).0 (from-In all w.0 w.1))
    where
      rest : (u v : Bool) → u ≡ true → (u && not v) ≡ false → v ≡ true
      rest true true e f = refl
      rest true false e f = absurd (true≢false f)
      rest false v e f = absurd (true≢false (sym e))

pub pair_of_map : (map : List Naming) (domain range x a y b : List (List Factor)) → IsTogether domain x a → IsTogether range y b → GoesInto map a b
    → IsPairOfMap (is_cell_of domain) (is_cell_of range) (is_relative x a) (is_cell_of a) (is_relative y b) (is_cell_of b) (in_value map domain)
pair_of_map map domain range x a y b td tr into = record {
  domain = relative_cell domain x a td;
  domain_rest = relative_rest domain x a td;
  subset = λ s g _ h e. value_inside map domain a b (λ q w. (td q).1 (inr w)) into s g h e;
  range_closed = closed range;
  b_closed = closed b;
  range = relative_cell range y b tr;
  range_out = relative_out range y b tr;
  range_rest = relative_rest range y b tr;
}
