-- What a contraction has, and what the values of a map are.
use Rattle.std.proofs.Common.{◌≡◌, ℕ, zero, suc, ◌+◌, ◌<◌, ◌≤◌, refl, sym, ap, ◌∙◌, arith, ⊎_elim, List, [], ◌∷◌, ◌++◌, length, get_or, true, subst}
use Rattle.std.specs.List.{Contains}
use Rattle.std.proofs.lemmas.List.Elements.{Contains-get_or}
use Rattle.std.proofs.lemmas.Bool.{cases_lt}
use Rattle.field_mod.specs.Modular.{Same, NonZero}
use Rattle.field_mod.proofs.Modular.{decide_zero}
use Rattle.elem_cubes.specs.Cells.{Factor}
use Rattle.elem_cubes.specs.Laws.{cell_at}
use Rattle.chains.specs.Terms.{coefficient}
use Rattle.cube_sets.specs.Closures.{is_cell_of, cells_of}
use Rattle.cube_maps.specs.CubeMaps.{Naming}
use Rattle.cell_complex.specs.Acyclic.{IsAcyclic}
use Rattle.cell_complex.specs.Numbering.{by_cell, number_of}
use Rattle.cell_complex.specs.RelativeComplex.{IsClosedList}
use Rattle.cell_complex.specs.Sorted.{IsSortedCells}
use Rattle.acyclic_values.specs.Values.{IsValueAt}
use Rattle.acyclic_values.specs.Contracted.{Contracted, IsContracted, homotopy_in}
use Rattle.acyclic_values.proofs.Values.{value_inside, value_list_is}
use Rattle.map_checks.specs.Carriers.{Carrying}
use Rattle.chain_selector.proofs.Values.{closed_value, sorted_value}
use Rattle.witness_writing.specs.Runs.{value_in}
use Rattle.witness_writing.proofs.Filling.{cell_listed}
use Rattle.witness_parts.specs.Filed.{AreFiled}
use Rattle.map_parts.specs.Values.{Carries, IsFiledContraction, AreFiledContractions}

-- the chain of a place names places of the list alone
pub homotopy_none : (p : ℕ) (value : List (List Factor)) (c : Contracted) (m : ℕ) (ts : List (ℕ × ℕ)) → IsContracted p value c → m < length value
    → ts ≡ get_or c.homotopies m [] → (g : ℕ) → length value ≤ g → Same p (coefficient ts g) 0
homotopy_none p value c m ts w l e g k = ⊎_elim
    (λ z. z)
    (λ nz. absurd (let r = w.contracts.raises m g l (subst (λ (us : List (ℕ × ℕ)). NonZero p (coefficient us g)) e nz) in let b = r.0 in omega (arith, b, k)))
    (decide_zero p (coefficient ts g))

-- its vertex is a cell of the list
pub vertex_inside : (p : ℕ) (value all : List (List Factor)) (c : Contracted) → IsContracted p value c → ((q : List Factor) → Contains value q → Contains all q) → Contains all (cell_at value c.vertex)
vertex_inside p value all c w inside = inside (cell_at value c.vertex) (Contains-get_or value c.vertex [] w.contracts.inside)

-- a vertex and the chains, filed
pub filed_contraction : (p : ℕ) (all value : List (List Factor)) (c : Contracted) (vertex : ℕ) (gs : List (List (ℕ × ℕ)))
    → IsContracted p value c → vertex ≡ suc (number_of all (cell_at value c.vertex))
    → AreFiled p all (length value) (λ m. by_cell value (homotopy_in c m)) gs → IsFiledContraction p all value vertex gs
filed_contraction p all value c vertex gs w n f = record {
  at = c.vertex;
  chains = homotopy_in c;
  contracts = w.contracts;
  named = n ∙ (let e : suc (number_of all (cell_at value c.vertex)) ≡ number_of all (cell_at value c.vertex) + 1 = omega arith in e);
  filed = f;
}

-- the value at a cell of the domain
module _ (p : ℕ) (f : List Naming) (domain range value : List (List Factor)) (i : ℕ) (w : Carries p f domain range) (l : i < length (cells_of domain)) (e : value ≡ value_in f domain range i) where
  abbrev c : Carrying
  c = record { dimension = w.0; map = f; domain = domain; range = range }

  abbrev s : List Factor
  s = cell_at (cells_of domain) i

  here : is_cell_of domain s ≡ true
  here = cell_listed domain i l

  is_value : IsValueAt f domain s value
  is_value = subst (IsValueAt f domain s) (sym e) (value_list_is f domain range s (λ g t. value_inside f domain domain range (λ q h. h) w.1.acyclic.inside s g here t))

  pub value_sorted : IsSortedCells value
  value_sorted = sorted_value p c w.1 s here value is_value

  pub value_closed : IsClosedList value
  value_closed = closed_value p c w.1 s here value is_value

  pub value_acyclic : IsAcyclic p value
  value_acyclic = w.1.acyclic.acyclic s value here is_value

-- ---- one more value

pub no_values : (p : ℕ) (f : List Naming) (domain range : List (List Factor)) (vs : List ℕ) (gs : List (List (List (ℕ × ℕ)))) → vs ≡ [] → gs ≡ [] → AreFiledContractions p f domain range 0 vs gs
no_values p f domain range vs gs a b = record { vertex_count = ap length a; count = ap length b; at = λ i l. absurd (omega arith) }

front : {A : Type 0} (xs : List A) (x d : A) (i : ℕ) → i < length xs → get_or (xs ++ x ∷ []) i d ≡ get_or xs i d
front [] x d i l = absurd (omega arith)
front (y ∷ xs) x d zero l = refl
front (y ∷ xs) x d (suc i) l = front xs x d i (omega arith)

last : {A : Type 0} (xs : List A) (x d : A) (i : ℕ) → i ≡ length xs → get_or (xs ++ x ∷ []) i d ≡ x
last [] x d zero e = refl
last [] x d (suc i) e = absurd (omega arith)
last (y ∷ xs) x d zero e = absurd (omega arith)
last (y ∷ xs) x d (suc i) e = last xs x d i (omega arith)

longer : {A : Type 0} (xs : List A) (x : A) → length (xs ++ x ∷ []) ≡ length xs + 1
longer [] x = refl
longer (y ∷ xs) x = let e = longer xs x in omega (arith, e)

one_value : (p : ℕ) (f : List Naming) (domain range : List (List Factor)) (n v : ℕ) (vs : List ℕ) (gs : List (List (List (ℕ × ℕ)))) (g : List (List (ℕ × ℕ)))
    → AreFiledContractions p f domain range n vs gs
    → IsFiledContraction p (cells_of range) (value_in f domain range n) v g → AreFiledContractions p f domain range (n + 1) (vs ++ v ∷ []) (gs ++ g ∷ [])
one_value p f domain range n v vs gs g w one = record {
  vertex_count = longer vs v ∙ ap (λ (k : ℕ). k + 1) w.vertex_count;
  count = longer gs g ∙ ap (λ (k : ℕ). k + 1) w.count;
  at = λ i l. ⊎_elim
      (λ h.
      subst (λ (k : ℕ). IsFiledContraction p (cells_of range) (value_in f domain range i) k (get_or (gs ++ g ∷ []) i [])) (sym (front vs v 0 i (let e = w.vertex_count in omega (arith, e, h))))
      (subst (λ (k : List (List (ℕ × ℕ))). IsFiledContraction p (cells_of range) (value_in f domain range i) (get_or vs i 0) k)
      (sym (front gs g [] i (let e = w.count in omega (arith, e, h)))) (w.at i h)))
      (λ h.
      let m : i ≡ n = omega (arith, l, h) in
      subst (λ (k : ℕ). IsFiledContraction p (cells_of range) (value_in f domain range i) k (get_or (gs ++ g ∷ []) i [])) (sym (last vs v 0 i (m ∙ sym w.vertex_count)))
      (subst (λ (k : List (List (ℕ × ℕ))). IsFiledContraction p (cells_of range) (value_in f domain range i) v k) (sym (last gs g [] i (m ∙ sym w.count)))
      (subst (λ (k : ℕ). IsFiledContraction p (cells_of range) (value_in f domain range k) v g) (sym m) one)))
      (cases_lt i n);
}

pub next_value : (p : ℕ) (f : List Naming) (domain range : List (List Factor)) (n v : ℕ) (vs us : List ℕ) (gs hs : List (List (List (ℕ × ℕ)))) (g : List (List (ℕ × ℕ)))
    → AreFiledContractions p f domain range n vs gs
    → IsFiledContraction p (cells_of range) (value_in f domain range n) v g → us ≡ vs ++ v ∷ [] → hs ≡ gs ++ g ∷ [] → AreFiledContractions p f domain range (n + 1) us hs
next_value p f domain range n v vs us gs hs g w one a b =
    subst (λ (us : List ℕ). AreFiledContractions p f domain range (n + 1) us hs) (sym a)
    (subst (λ (hs : List (List (List (ℕ × ℕ)))). AreFiledContractions p f domain range (n + 1) (vs ++ v ∷ []) hs) (sym b) (one_value p f domain range n v vs gs g w one))
