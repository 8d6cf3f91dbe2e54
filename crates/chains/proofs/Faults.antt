-- The first fault of a boundary
use Rattle.std.proofs.Common.{◌≡◌, ◌≢◌, ℕ, ◌+◌, ◌%◌, ◌^◌, ◌<◌, ◌≤◌, sym, ap, ◌∙◌, arith, ⊎_elim, List, [], ◌∷◌, length, get_or, drop, subst, below_more}
use Rattle.std.proofs.lemmas.Bool.{cases_lt}
use Rattle.std.proofs.lemmas.List.{drop_more, drop_all, get_or_default}
use Rattle.field_mod.specs.Modular.{Same}
use native.Mathlib.Nat.{zero-mod}
use Rattle.chains.specs.Terms.{coefficient, IsNormal}
use Rattle.chains.specs.ChainComplex.{IsMisplaced, IsFirstAt, IsBadDegree, IsNotZero, IsFirst, boundary, incidence}
use Rattle.chains.proofs.TermLists.{Seeking, seek_start, seek_next_at, named_at, coefficient-below, raised}
use Rattle.field_mod.proofs.Modular.{decide_zero}

-- a generator that no term before i names, and that some term names, stands at i or after
at_or_after : (p g : ℕ) (ts : List (ℕ × ℕ)) (i : ℕ) → i < length ts → Seeking p g ts (drop i ts) → coefficient ts g ≢ 0 → (get_or ts i (0, 0)).0 ≤ g
at_or_after p g ts i l s n =
    let t = get_or ts i (0, 0) in
    let m = rw (drop_more ts i (0, 0) l) at s in
    ⊎_elim (λ k. absurd (n (m.same ∙ coefficient-below p t.0 (2 ^ 32) (t ∷ drop (i + 1) ts) g (raised p m.low t.0 (2 ^ 32) t (drop (i + 1) ts) m.reduced (omega arith)) k))) (λ k. k) (cases_lt g t.0)

pub head_first : (p : ℕ) (ts : List (ℕ × ℕ)) → IsNormal p ts → 0 < length ts → IsFirstAt (λ k. coefficient ts k ≢ 0) (get_or ts 0 (0, 0)).0
head_first p ts h l = record {
  here = let n = named_at p 0 (2 ^ 32) ts 0 h l in λ z. absurd (omega (arith, n.1, n.2));
  before = λ k n. at_or_after p k ts 0 l (seek_start p k ts h) n;
}

pub misplaced_start : (p h : ℕ) (degrees : List ℕ) (ts : List (ℕ × ℕ)) → IsNormal p ts → (g : ℕ) → IsMisplaced degrees h ts g → Seeking p g ts (drop 0 ts)
misplaced_start p h degrees ts c g m = seek_start p g ts c

pub misplaced_more : (p h i : ℕ) (degrees : List ℕ) (ts : List (ℕ × ℕ)) → i < length ts → ((g : ℕ) → IsMisplaced degrees h ts g → Seeking p g ts (drop i ts)) → (get_or ts i (0, 0)).0 < length degrees → get_or degrees (get_or ts i (0, 0)).0 0 + 1 ≡ get_or degrees h 0 → (g : ℕ) → IsMisplaced degrees h ts g → Seeking p g ts (drop (i + 1) ts)
misplaced_more p h i degrees ts l s below e g m = seek_next_at p g ts i l (s g m) (λ q. m.degree (rw q at below, rw q at e))

pub misplaced_here : (p h i : ℕ) (degrees : List ℕ) (ts : List (ℕ × ℕ)) → IsNormal p ts → i < length ts → ((g : ℕ) → IsMisplaced degrees h ts g → Seeking p g ts (drop i ts)) → ¬ (((get_or ts i (0, 0)).0 < length degrees) × (get_or degrees (get_or ts i (0, 0)).0 0 + 1 ≡ get_or degrees h 0)) → IsFirstAt (IsMisplaced degrees h ts) (get_or ts i (0, 0)).0
misplaced_here p h i degrees ts c l s n = record {
  here = record { named = let m = named_at p 0 (2 ^ 32) ts i c l in λ z. absurd (omega (arith, m.1, m.2)); degree = n };
  before = λ k m. at_or_after p k ts i l (s k m) m.named;
}

pub misplaced_none : (p h i : ℕ) (degrees : List ℕ) (ts : List (ℕ × ℕ)) → length ts ≤ i → ((g : ℕ) → IsMisplaced degrees h ts g → Seeking p g ts (drop i ts)) → (g : ℕ) → IsMisplaced degrees h ts g → ⊥
misplaced_none p h i degrees ts l s g m = m.named ((s g m).same ∙ ap (λ xs. coefficient xs g) (drop_all i ts l))

pub misplaced_at : (p h i : ℕ) (degrees : List ℕ) (ts : List (ℕ × ℕ)) (t : ℕ × ℕ) → t ≡ get_or ts i (0, 0) → IsNormal p ts → i < length ts → ((g : ℕ) → IsMisplaced degrees h ts g → Seeking p g ts (drop i ts)) → (t.0 < length degrees → get_or degrees t.0 0 + 1 ≡ get_or degrees h 0 → ⊥) → IsFirstAt (IsMisplaced degrees h ts) t.0
misplaced_at p h i degrees ts t e c l s n =
    subst (λ (u : ℕ × ℕ). (u.0 < length degrees → get_or degrees u.0 0 + 1 ≡ get_or degrees h 0 → ⊥) → IsFirstAt (IsMisplaced degrees h ts) u.0) (sym e) (λ m. misplaced_here p h i degrees ts c l s (λ w. m w.0 w.1)) n

-- ---- pair by pair

pub bad_more : (h : ℕ) (degrees : List ℕ) (bs : List (List (ℕ × ℕ))) (b : List (ℕ × ℕ)) → b ≡ get_or bs h b → h < length bs → ((j : ℕ) → j < h → (k : ℕ) → ¬ IsBadDegree degrees bs j k) → ((k : ℕ) → IsMisplaced degrees h b k → ⊥) → (j : ℕ) → j < h + 1 → (k : ℕ) → ¬ IsBadDegree degrees bs j k
bad_more h degrees bs b e l before here =
    below_more (λ j. (k : ℕ) → ¬ IsBadDegree degrees bs j k) h before (λ k w. here k (rw (e ∙ get_or_default bs h b [] l) w.misplaced))

pub bad_first : (h g : ℕ) (degrees : List ℕ) (bs : List (List (ℕ × ℕ))) (b : List (ℕ × ℕ)) → b ≡ get_or bs h b → h < length bs → ((j : ℕ) → j < h → (k : ℕ) → ¬ IsBadDegree degrees bs j k) → IsFirstAt (IsMisplaced degrees h b) g → IsFirst (IsBadDegree degrees bs) h g
bad_first h g degrees bs b e l before f =
    let q : b ≡ get_or bs h [] = e ∙ get_or_default bs h b [] l in
    record { here = record { generator = l; misplaced = rw (← q) f.here }; before = before; beside = λ k w. f.before k (rw q w.misplaced) }

pub chains_more : (p h : ℕ) (bs : List (List (ℕ × ℕ))) (b : List (ℕ × ℕ)) → b ≡ get_or bs h b → h < length bs → ((j : ℕ) → j < h → IsNormal p (get_or bs j [])) → IsNormal p b → (j : ℕ) → j < h + 1 → IsNormal p (get_or bs j [])
chains_more p h bs b e l before c =
    let q : b ≡ get_or bs h [] = e ∙ get_or_default bs h b [] l in
    below_more (λ j. IsNormal p (get_or bs j [])) h before (rw (← q) c)

pub square_is : (p h : ℕ) (bs : List (List (ℕ × ℕ))) (b t : List (ℕ × ℕ)) → b ≡ get_or bs h b → h < length bs → ((g : ℕ) → coefficient t g ≡ boundary bs (coefficient b) g % p) → (g : ℕ) → coefficient t g ≡ boundary bs (incidence bs h) g % p
square_is p h bs b t e l s g =
    let q : b ≡ get_or bs h [] = e ∙ get_or_default bs h b [] l in
    s g ∙ ap (λ (c : List (ℕ × ℕ)). boundary bs (coefficient c) g % p) q

not_zero : (p h g : ℕ) (bs : List (List (ℕ × ℕ))) (t : List (ℕ × ℕ)) → ((g : ℕ) → coefficient t g ≡ boundary bs (incidence bs h) g % p) → IsNotZero p bs h g → coefficient t g ≢ 0
not_zero p h g bs t s w z = w.nonzero (record { same = sym (s g) ∙ z ∙ sym (zero-mod p) })

pub square_more : (p h : ℕ) (bs : List (List (ℕ × ℕ))) (b t : List (ℕ × ℕ)) → b ≡ get_or bs h b → h < length bs → ((g : ℕ) → coefficient t g ≡ boundary bs (coefficient b) g % p) → ((j : ℕ) → j < h → (k : ℕ) → ¬ IsNotZero p bs j k) → ((g : ℕ) → coefficient t g ≡ 0) → (j : ℕ) → j < h + 1 → (k : ℕ) → ¬ IsNotZero p bs j k
square_more p h bs b t e l s before z = below_more (λ j. (k : ℕ) → ¬ IsNotZero p bs j k) h before (λ k w. not_zero p h k bs t (square_is p h bs b t e l s) w (z k))

pub square_first : (p h g : ℕ) (bs : List (List (ℕ × ℕ))) (b t : List (ℕ × ℕ)) → b ≡ get_or bs h b → h < length bs → ((g : ℕ) → coefficient t g ≡ boundary bs (coefficient b) g % p) → ((j : ℕ) → j < h → (k : ℕ) → ¬ IsNotZero p bs j k) → IsFirstAt (λ k. coefficient t k ≢ 0) g → IsFirst (IsNotZero p bs) h g
square_first p h g bs b t e l s before f =
    let q = square_is p h bs b t e l s in
    record {
      here = record { generator = l; nonzero = λ z. f.here (q g ∙ z.same ∙ zero-mod p) };
      before = before;
      beside = λ k w. f.before k (not_zero p h k bs t q w);
    }

pub all_squares : (p n : ℕ) (bs : List (List (ℕ × ℕ))) → length bs ≤ n → ((j : ℕ) → j < n → (k : ℕ) → ¬ IsNotZero p bs j k) → (h g : ℕ) → h < length bs → Same p (boundary bs (incidence bs h) g) 0
all_squares p n bs l none h g m = ⊎_elim (λ s. s) (λ x. absurd (none h (omega arith) g (record { generator = m; nonzero = x }))) (decide_zero p (boundary bs (incidence bs h) g))

pub no_bad : (n : ℕ) (degrees : List ℕ) (bs : List (List (ℕ × ℕ))) → length bs ≤ n → ((j : ℕ) → j < n → (k : ℕ) → ¬ IsBadDegree degrees bs j k) → (j k : ℕ) → ¬ IsBadDegree degrees bs j k
no_bad n degrees bs l none j k w = none j (omega (arith, w.generator)) k w
