-- Faces that wait for their turn: after a pair was taken only facets of its cells may have become faces of free pairs
use Rattle.std.proofs.Common.{◌≡◌, ◌≢◌, ℕ, ◌<◌, ◌⊎◌, refl, sym, ap, ◌∙◌, arith, ⊎_elim, List, length, Bool, true, false, ◌||◌, subst}
use Rattle.std.specs.Prelude.{not}
use Rattle.excision.specs.Left.{is_one_of}
use Rattle.std.proofs.lemmas.Bool.{true≢false, cases_eq, cases_Bool, and_parts, and_from, not-true}
use Rattle.elem_cubes.specs.Cells.{Factor, dimension_of, same_cell}
use Rattle.elem_cubes.specs.Faces.{IsFacet}
use Rattle.elem_cubes.specs.Laws.{cell_at}
use Rattle.elem_cubes.specs.OrderLemmas.{cell_refl, cell_cases}
use Rattle.algebraic_reduction.specs.Reduction.{Step}
use Rattle.algebraic_reduction.specs.LogWords.{IsOneMore}
use Rattle.cell_complex.specs.FreePairs.{IsFreePair, without_pair, HasNoFreePair}
use Rattle.cell_complex.specs.Sorted.{IsSortedCells}
use Rattle.excision.specs.Left.{is_left}
use Rattle.excision.proofs.Leaving.{left_parts}
use Rattle.face_reduction.specs.Logs.{IsFreeNumber, IsFreeFace}
use Rattle.face_reduction.proofs.Pairing.{left_step}

module _ (cells : List (List Factor)) (ss new : List Step) (a b : ℕ) (sorted : IsSortedCells cells) (la : a < length cells) (f : IsFreeNumber cells ss a b) (o : IsOneMore ss new a b) where
  abbrev A : List Factor
  A = cell_at cells a

  abbrev B : List Factor
  B = cell_at cells b

  told : (c : List Factor) → is_left cells new c ≡ without_pair (A, B) (is_left cells ss) c
  told c = ap (λ (us : List Step). is_left cells us c) o.steps ∙ left_step cells sorted ss (record { a = a; b = b; inverse = o.inverse }) la f.inside c

  or_false : (u v : Bool) → (u || v) ≡ false → (u ≡ false) × (v ≡ false)
  or_false true v e = absurd (true≢false e)
  or_false false v e = (refl, e)

  before : (c : List Factor) → is_left cells new c ≡ true → (is_left cells ss c ≡ true) × (same_cell c A ≡ false) × (same_cell c B ≡ false)
  before c e =
      let w = and_parts (is_left cells ss c) (not (same_cell c A || same_cell c B)) (sym (told c) ∙ e) in
      let v = or_false (same_cell c A) (same_cell c B) (not-true (same_cell c A || same_cell c B) w.1) in
      (w.0, v.0, v.1)

  after : (c : List Factor) → is_left cells ss c ≡ true → same_cell c A ≡ false → same_cell c B ≡ false → is_left cells new c ≡ true
  after c e na nb = told c ∙ and_from (is_left cells ss c) (not (same_cell c A || same_cell c B)) e (ap not (ap (λ v. v || same_cell c B) na ∙ nb))

  pub still_idle : (old now : List ℕ)
      → ((k : ℕ) → k < length cells → is_one_of old k ≡ false → k ≢ a → ¬ IsFreeFace (is_left cells ss) (cell_at cells k))
      → ((k : ℕ) → is_one_of old k ≡ true → is_one_of now k ≡ true)
      → ((k : ℕ) → k < length cells → IsFacet A (cell_at cells k) → (is_one_of now k ≡ true) ⊎ (¬ IsFreeFace (is_left cells new) (cell_at cells k)))
      → ((k : ℕ) → k < length cells → IsFacet B (cell_at cells k) → (is_one_of now k ≡ true) ⊎ (¬ IsFreeFace (is_left cells new) (cell_at cells k)))
      → (k : ℕ) → k < length cells → is_one_of now k ≡ false → ¬ IsFreeFace (is_left cells new) (cell_at cells k)
  still_idle old now rest kept woken_a woken_b k l idle w = ⊎_elim
      (λ e. true≢false (sym (ap (λ c. same_cell c A) (ap (cell_at cells) e) ∙ cell_refl A) ∙ (before (cell_at cells k) w.1.face_alive).1))
      (λ d. rest k l was d (
        w.0,
        record {
          face_alive = (before (cell_at cells k) w.1.face_alive).0;
          coface_alive = (before w.0 w.1.coface_alive).0;
          facet = w.1.facet;
          only = λ c alive facet. ⊎_elim
              (λ e. absurd (⊎_elim (λ t. true≢false (sym t ∙ idle)) (λ none. none w) (woken_a k l (subst (λ (q : List Factor). IsFacet q (cell_at cells k)) e facet))))
              (λ na. ⊎_elim
              (λ e. absurd (⊎_elim (λ t. true≢false (sym t ∙ idle)) (λ none. none w) (woken_b k l (subst (λ (q : List Factor). IsFacet q (cell_at cells k)) e facet))))
              (λ nb. w.1.only c (after c alive na nb) facet)
              (cell_cases c B))
              (cell_cases c A);
        },
      ))
      (cases_eq k a)
    where
      was : is_one_of old k ≡ false
      was = ⊎_elim (λ t. absurd (true≢false (sym (kept k t) ∙ idle))) (λ e. e) (cases_Bool (is_one_of old k))

-- no face is left that is that of a free pair
pub none_at_all : (cells : List (List Factor)) (ss : List Step) → IsSortedCells cells → ((k : ℕ) → k < length cells → ¬ IsFreeFace (is_left cells ss) (cell_at cells k)) → HasNoFreePair (is_left cells ss)
none_at_all cells ss sorted none a b f =
    let w = left_parts cells sorted ss a f.face_alive in
    none w.0 w.1 (b, subst (λ (c : List Factor). IsFreePair (is_left cells ss) c b) (sym w.2) f)

-- the two cells of a free pair are not the same
pub free_apart : (cells : List (List Factor)) (ss : List Step) (a b : ℕ) → IsFreeNumber cells ss a b → b ≢ a
free_apart cells ss a b f e = let d = f.free.facet.1 in let q = ap (λ (k : ℕ). dimension_of (cell_at cells k)) e in absurd (omega (arith, d, q))

-- ---- the faces that wait

-- one less waits
pub idle_step : (cells : List (List Factor)) (alive : List Factor → Bool) (i : ℕ) (old now : List ℕ)
    → ((k : ℕ) → is_one_of old k ≡ true → (k ≡ i) ⊎ (is_one_of now k ≡ true))
    → ((k : ℕ) → k < length cells → is_one_of old k ≡ false → ¬ IsFreeFace alive (cell_at cells k))
    → (i < length cells → (b : List Factor) → ¬ IsFreePair alive (cell_at cells i) b)
    → (k : ℕ) → k < length cells → is_one_of now k ≡ false → ¬ IsFreeFace alive (cell_at cells k)
idle_step cells alive i old now kept idle none k l f w = ⊎_elim
    (λ t. ⊎_elim (λ e. none (subst (λ (m : ℕ). m < length cells) e l) w.0 (subst (λ (m : ℕ). IsFreePair alive (cell_at cells m) w.0) e w.1)) (λ v. true≢false (sym v ∙ f)) (kept k t))
    (λ d. idle k l d w)
    (cases_Bool (is_one_of old k))

-- all of them wait at first that are free
pub idle_first : (cells : List (List Factor)) (alive : List Factor → Bool) (now : List ℕ) → ((k : ℕ) → k < length cells → (is_one_of now k ≡ true) ⊎ (¬ IsFreeFace alive (cell_at cells k)))
    → (k : ℕ) → k < length cells → is_one_of now k ≡ false → ¬ IsFreeFace alive (cell_at cells k)
idle_first cells alive now all k l f w = ⊎_elim (λ t. true≢false (sym t ∙ f)) (λ none. none w) (all k l)

-- all but the face that was found
pub idle_rest : (cells : List (List Factor)) (alive : List Factor → Bool) (i : ℕ) (old now : List ℕ)
    → ((k : ℕ) → is_one_of old k ≡ true → (k ≡ i) ⊎ (is_one_of now k ≡ true))
    → ((k : ℕ) → k < length cells → is_one_of old k ≡ false → ¬ IsFreeFace alive (cell_at cells k))
    → (k : ℕ) → k < length cells → is_one_of now k ≡ false → k ≢ i → ¬ IsFreeFace alive (cell_at cells k)
idle_rest cells alive i old now kept idle k l f d = ⊎_elim
    (λ t. ⊎_elim (λ e. absurd (d e)) (λ v. absurd (true≢false (sym v ∙ f))) (kept k t))
    (λ g. idle k l g)
    (cases_Bool (is_one_of old k))
