-- Generators as chains, and chains on the generators that the steps leave.
use Rattle.std.proofs.Common.{◌≡◌, ◌≢◌, ℕ, ◌<◌, ◌≤◌, refl, sym, ap, arith, ⊎_elim, List, [], ◌∷◌, length, get_or}
use Rattle.std.proofs.lemmas.Bool.{cases_eq, ltb-false}
use Rattle.field_mod.specs.Modular.{Same}
use Rattle.chains.specs.Homology.{IsChain}
use Rattle.chains.specs.ChainComplex.{ChainComplex, IsComplex, system, incidence, boundary}
use Rattle.chains.proofs.Numbered.{degree_above}
use Rattle.algebraic_reduction.specs.Reduction.{single, Step, IsUnpaired, IsOnLeft}
use Rattle.algebraic_reduction.proofs.LinearMaps.{exact, single-other, total_picked_other}

-- a chain that has nothing at the generators in a step is one on what is left
pub on_left_by : (p : ℕ) (ss : List Step) (y : ℕ → ℕ) → ((g : ℕ) → (IsUnpaired ss g → ⊥) → Same p (y g) 0) → IsOnLeft p ss y
on_left_by p [] y off = tt
on_left_by p (s ∷ ss) y off = (record { at_a = off s.a (λ u. u.0 refl); at_b = off s.b (λ u. u.1 refl) }, on_left_by p ss y (λ g f. off g (λ u. f u.2)))

-- a chain on one generator that is in no step is one on what is left
pub on_left : (p : ℕ) (ss : List Step) (g : ℕ) (y : ℕ → ℕ) → IsUnpaired ss g → ((h : ℕ) → h ≢ g → Same p (y h) 0) → IsOnLeft p ss y
on_left p [] g y u off = tt
on_left p (s ∷ ss) g y u off = (record { at_a = off s.a (λ e. u.0 (sym e)); at_b = off s.b (λ e. u.1 (sym e)) }, on_left p ss g y u.2 off)

pub single_left : (p : ℕ) (ss : List Step) (g : ℕ) → IsUnpaired ss g → IsOnLeft p ss (single g)
single_left p ss g u = on_left p ss g (single g) u (λ h f. exact p _ 0 (single-other g h f))

-- a generator is a chain of its degree
pub single_chain : (p : ℕ) (K : ChainComplex) (s : ℕ) → s < length K.boundaries → IsChain p (system K) (get_or K.degrees s 0) (single s)
single_chain p K s q = record {
  on = λ g o. exact p _ 0 (single-other s g (λ e. absurd (omega (arith, ltb-false g (length K.boundaries) o))));
  of_degree = λ g f. exact p _ 0 (single-other s g (λ e. f (ap (λ v. get_or K.degrees v 0) e)));
}

-- the boundary of a generator has nothing past the generators
pub incidence_off : (p : ℕ) (K : ChainComplex) → IsComplex p K → (s g : ℕ) → s < length K.boundaries → length K.boundaries ≤ g → incidence K.boundaries s g ≡ 0
incidence_off p K c s g q l = ⊎_elim
    (λ z. z)
    (λ n. absurd (let d = degree_above p K c s g q n in let a = d.0 in let b = c.sizes in omega arith))
    (cases_eq (incidence K.boundaries s g) 0)

-- the boundary of a generator as a chain
pub boundary_single : (bs : List (List (ℕ × ℕ))) (s g : ℕ) → s < length bs → boundary bs (single s) g ≡ incidence bs s g
boundary_single bs s g q = total_picked_other (length bs) s (λ h. incidence bs h g) q
