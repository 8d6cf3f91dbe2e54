-- Whether the boundary of each boundary is 0, or where it is not first.
use Rattle.std.proofs.Common.{◌≡◌, ℕ, zero, suc, ◌+◌, ◌*◌, ◌%◌, ◌<◌, ◌≤◌, ◌⊎◌, inl, inr, List, [], ◌∷◌, length, get_or, refl, sym, ap, ◌∙◌, subst, arith, ⊎_elim, cond, eqb, ne_eqb}
use Rattle.std.proofs.lemmas.Bool.{cases_lt, cases_eq}
use Rattle.std.proofs.lemmas.List.{length-map}
use native.Mathlib.Nat.{mul-zero}
use Rattle.field_mod.specs.Modular.{Same}
use Rattle.field_mod.proofs.Sums.{total_same, total-same, total-zero}
use Rattle.field_mod.proofs.Modular.{same_refl, same_sym, same_trans, same-mul}
use Rattle.chains.specs.Terms.{coefficient}
use Rattle.chains.specs.ChainComplex.{incidence, boundary, IsNotZero, IsFirst}
use Rattle.chain_files.specs.Content.{Content, terms_of}
use Rattle.chain_files.specs.Complexes.{SquaresToZero, number_in_degree, IsNotComplexAt}
use Rattle.chain_files.specs.Laws.{ValuesHaveOneOutcome, FileComplexesAreComplexes}
use Rattle.chain_files.proofs.Alike.{reduced, file_alike}

-- ---- a search for the first place

record First (F : ℕ → Type 0) : Type 0 where
  at : ℕ
  here : F at
  before : (k : ℕ) → k < at → F k → ⊥

first_below : (F : ℕ → Type 0) → ((k : ℕ) → F k ⊎ (F k → ⊥)) → (m : ℕ) → First F ⊎ ((k : ℕ) → k < m → F k → ⊥)
first_below F decide zero = inr (λ k l f. omega arith)
first_below F decide (suc m) = ⊎_elim
    (λ r. inl r)
    (λ none. ⊎_elim
    (λ f. inl (record { at = m; here = f; before = none }))
    (λ n. inr (λ k l f. ⊎_elim (λ s. none k s f) (λ s. n (let e : k ≡ m = omega arith in subst F e f)) (cases_lt k m)))
    (decide m))
    (first_below F decide m)

-- ---- past the generators that are named

no_term_past : (ts : List (ℕ × ℕ)) → (n : ℕ) × ((g : ℕ) → n ≤ g → coefficient ts g ≡ 0)
no_term_past [] = (0, λ g l. refl)
no_term_past (t ∷ ts) = let r = no_term_past ts in (
  t.0 + 1 + r.0,
  λ g l. let z : cond (eqb t.0 g) t.1 0 ≡ 0 = rw (ne_eqb t.0 g (omega arith)) refl in let y = r.1 g (omega arith) in omega arith,
)

past_both : (b : List (ℕ × ℕ)) (bs : List (List (ℕ × ℕ))) (n m : ℕ) → ((g : ℕ) → n ≤ g → coefficient b g ≡ 0) → ((h g : ℕ) → m ≤ g → incidence bs h g ≡ 0)
    → (h g : ℕ) → n + m ≤ g → incidence (b ∷ bs) h g ≡ 0
past_both b bs n m here later zero g l = here g (omega arith)
past_both b bs n m here later (suc h) g l = later h g (omega arith)

none_past : (bs : List (List (ℕ × ℕ))) → (n : ℕ) × ((h g : ℕ) → n ≤ g → incidence bs h g ≡ 0)
none_past [] = (0, λ h g l. refl)
none_past (b ∷ bs) = let here = no_term_past b in let later = none_past bs in (here.0 + later.0, past_both b bs here.0 later.0 here.1 later.1)

module _ (p : ℕ) (bs : List (List (ℕ × ℕ))) where
  decide : (h g : ℕ) → IsNotZero p bs h g ⊎ (IsNotZero p bs h g → ⊥)
  decide h g = ⊎_elim
      (λ l. ⊎_elim
      (λ e. inr (λ n. n.nonzero (record { same = e })))
      (λ f. inl (record { generator = l; nonzero = λ s. f s.same }))
      (cases_eq (boundary bs (incidence bs h) g % p) (0 % p)))
      (λ l. inr (λ n. let q = n.generator in omega arith))
      (cases_lt h (length bs))

  boundary_past : (n : ℕ) → ((h g : ℕ) → n ≤ g → incidence bs h g ≡ 0) → (h g : ℕ) → n ≤ g → boundary bs (incidence bs h) g ≡ 0
  boundary_past n past h g l =
      total-same (length bs) (λ k. incidence bs h k * incidence bs k g) (λ k. 0) (λ k m. ap (λ v. incidence bs h k * v) (past k g l) ∙ mul-zero (incidence bs h k))
      ∙ total-zero (length bs)

  -- the first in the boundary of a generator
  in_row : (h : ℕ) → First (IsNotZero p bs h) ⊎ ((g : ℕ) → IsNotZero p bs h g → ⊥)
  in_row h =
      let past = none_past bs in
      ⊎_elim
      (λ r. inl r)
      (λ none. inr (λ g n. ⊎_elim
      (λ l. none g l n)
      (λ l. n.nonzero (subst (λ (v : ℕ). Same p v 0) (sym (boundary_past past.0 past.1 h g l)) (same_refl p 0)))
      (cases_lt g past.0)))
      (first_below (IsNotZero p bs h) (decide h) past.0)

  row_decided : (h : ℕ) → First (IsNotZero p bs h) ⊎ (First (IsNotZero p bs h) → ⊥)
  row_decided h = ⊎_elim (λ r. inl r) (λ none. inr (λ r. none r.at r.here)) (in_row h)

  no_row : (h : ℕ) → (First (IsNotZero p bs h) → ⊥) → (g : ℕ) → IsNotZero p bs h g → ⊥
  no_row h none g n = ⊎_elim (λ r. none r) (λ nowhere. nowhere g n) (in_row h)

  pub first_or_none : ((h : ℕ) × (g : ℕ) × IsFirst (IsNotZero p bs) h g) ⊎ ((h g : ℕ) → IsNotZero p bs h g → ⊥)
  first_or_none = ⊎_elim
      (λ r. inl (
        r.at,
        r.here.at,
        (record {
          here = r.here.here;
          before = λ j l k n. no_row j (r.before j l) k n;
          beside = λ k n. ⊎_elim (λ l. absurd (r.here.before k l n)) (λ l. l) (cases_lt k r.here.at);
        }),
      ))
      (λ none. inr (λ h g n. ⊎_elim (λ l. no_row h (none h l) g n) (λ l. let q = n.generator in omega arith) (cases_lt h (length bs))))
      (first_below (λ h. First (IsNotZero p bs h)) row_decided (length bs))

-- ---- there is one first place

module _ (F : ℕ → ℕ → Type 0) (h g j k : ℕ) (a : IsFirst F h g) (b : IsFirst F j k) where
  same_row : h ≡ j
  same_row = ⊎_elim
      (λ l. absurd (b.before h l g a.here))
      (λ l. ⊎_elim (λ m. absurd (a.before j m k b.here)) (λ m. omega arith) (cases_lt j h))
      (cases_lt h j)

  same_column : g ≡ k
  same_column =
      let there = a.beside k (subst (λ (n : ℕ). F n k) (sym same_row) b.here) in
      let back = b.beside g (subst (λ (n : ℕ). F n g) same_row a.here) in
      omega arith

some_outcome : (p : ℕ) (content : Content) → SquaresToZero p content ⊎ ((degree : ℕ) × (generator : ℕ) × (at : ℕ) × (value : ℕ) × IsNotComplexAt p content degree generator at value)
some_outcome p content = ⊎_elim
    (λ r. inr (
      get_or content.degrees r.0 0,
      number_in_degree content.degrees r.0,
      number_in_degree content.degrees r.1,
      boundary (terms_of content.boundaries) (incidence (terms_of content.boundaries) r.0) r.1 % p,
      record { h = r.0; g = r.1; first = r.2; degree_is = refl; generator_is = refl; at_is = refl; value_is = refl },
    ))
    (λ none. inl none)
    (first_or_none p (terms_of content.boundaries))

one_place : (p : ℕ) (content : Content) (degree other generator named at place value number : ℕ) → IsNotComplexAt p content degree generator at value → IsNotComplexAt p content other named place number
    → (degree ≡ other) × (generator ≡ named) × (at ≡ place) × (value ≡ number)
one_place p content degree other generator named at place value number a b =
    let row = same_row (IsNotZero p (terms_of content.boundaries)) a.h a.g b.h b.g a.first b.first in
    let column = same_column (IsNotZero p (terms_of content.boundaries)) a.h a.g b.h b.g a.first b.first in (
      a.degree_is ∙ ap (λ h. get_or content.degrees h 0) row ∙ sym b.degree_is,
      a.generator_is ∙ ap (number_in_degree content.degrees) row ∙ sym b.generator_is,
      a.at_is ∙ ap (number_in_degree content.degrees) column ∙ sym b.at_is,
      a.value_is ∙ ap (λ h. boundary (terms_of content.boundaries) (incidence (terms_of content.boundaries) h) a.g % p) row
          ∙ ap (λ g. boundary (terms_of content.boundaries) (incidence (terms_of content.boundaries) b.h) g % p) column ∙ sym b.value_is,
    )

pub one_outcome : ValuesHaveOneOutcome
one_outcome = record {
  some = some_outcome;
  one_place = one_place;
  never_both = λ p content degree generator at value squares r. squares r.h r.g r.first.here;
}

pub file_complexes : FileComplexesAreComplexes
file_complexes p content file f is_complex h g n =
    let ts = terms_of content.boundaries in
    let bs = file.complex.boundaries in
    let alike = file_alike p content file f in
    let inside : h < length content.boundaries = omega (arith, n.generator, long) in
    n.nonzero (same_trans (same_sym (alike.boundary (incidence ts h) g))
    (same_trans (total_same p (length bs) (λ k. incidence ts h k * incidence bs k g) (λ k. incidence bs h k * incidence bs k g)
    (λ k l. same-mul (same_sym (reduced p _ _ (f.incidences h k inside))) (same_refl p (incidence bs k g))))
    (is_complex.squares_to_zero h g (omega (arith, inside, f.sizes)))))
  where
    long : length (terms_of content.boundaries) ≡ length content.boundaries
    long = length-map content.boundaries (λ b. b.terms)
