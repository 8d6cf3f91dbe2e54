-- The reduction of a closed part of what a log leaves, generator by generator
use Rattle.std.proofs.Common.{◌≡◌, ℕ, ◌+◌, ◌%◌, ◌<◌, inl, inr, refl, sym, ap, ◌∙◌, arith, ⊎_elim, List, [], ◌∷◌, ◌++◌, length, get_or, Bool, true, subst, append_assoc, eqb, eq-eqb, eqb-true, zero, suc, ◌≤◌, ◌*◌, cond}
use Rattle.std.specs.List.{Contains}
use native.Mathlib.Nat.{zero-mod, mod-eq_of_lt}
use Rattle.std.proofs.lemmas.Bool.{cases_lt, cases_eq, cases_Bool}
use Rattle.std.proofs.lemmas.List.Folds.{list_any_at, Any-from_list_any}
use Rattle.field_mod.specs.Modular.{Same, NonZero, minus}
use Rattle.field_mod.proofs.Modular.{same_sym, same_trans}
use Rattle.chains.specs.Terms.{coefficient}
use Rattle.chains.specs.ChainComplex.{ChainComplex, incidence}
use Rattle.algebraic_reduction.specs.Reduction.{Step, IsUnpaired, left}
use Rattle.algebraic_reduction.specs.Laws.{left_of, IsReduction}
use Rattle.algebraic_reduction.specs.LogWords.{IsOneMore}
use Rattle.algebraic_reduction.specs.Restrictions.{IsClosedPart, AreWithin}
use Rattle.algebraic_reduction.proofs.KeptSteps.{left_all-append}
use Rattle.algebraic_reduction.proofs.LinearMaps.{exact}
use Rattle.algebraic_reduction.proofs.LeftBasis.{decide_unpaired}
use Rattle.algebraic_reduction.proofs.Restrictions.{left_all-parts, entry_kept, row_zero, closed_all}
use Rattle.excision.specs.Left.{is_one_of}
use Rattle.excision.specs.Taking.{AreFurtherWithin}

-- ---- a list of numbers

pub one_of-Contains : (ns : List ℕ) (g : ℕ) → is_one_of ns g ≡ true → Contains ns g
one_of-Contains ns g e = let w = Any-from_list_any (λ n. eqb n g) ns e in (w.0, w.2, let P : ℕ → Type 0 = λ m. get_or ns w.0 m ≡ m in subst P (eqb-true w.1 g w.4) w.3)

pub Contains-one_of : (ns : List ℕ) (g : ℕ) → Contains ns g → is_one_of ns g ≡ true
Contains-one_of ns g w = list_any_at (λ n. eqb n g) ns w.0 g w.1 (eq-eqb (get_or ns w.0 g) g w.2)

pub nonzero_by : (p v l : ℕ) → 0 < v → v < p → Same p v l → NonZero p l
nonzero_by p v l some small s z = let t = same_trans s z in let m : v % p ≡ v = mod-eq_of_lt small in absurd (let e : v ≡ 0 = sym m ∙ t.same ∙ zero-mod p in omega arith)

pub entry_nonzero : (p : ℕ) (b : List (ℕ × ℕ)) (t : ℕ × ℕ) (l : ℕ → ℕ) → coefficient b t.0 ≡ t.1 → 0 < t.1 → t.1 < p → ((g : ℕ) → Same p (coefficient b g) (l g)) → NonZero p (l t.0)
entry_nonzero p b t l e some small same = nonzero_by p t.1 (l t.0) some small (same_trans (exact p _ _ (sym e)) (same t.0))

pub place_in : (ns : List ℕ) (i : ℕ) → i < length ns → Contains ns (get_or ns i 0)
place_in ns i l = (i, l, default ns i (get_or ns i 0) l)
  where
    default : (ns : List ℕ) (i d : ℕ) → i < length ns → get_or ns i d ≡ get_or ns i 0
    default [] i d l = absurd (omega arith)
    default (n ∷ ns) zero d l = refl
    default (n ∷ ns) (suc i) d l = default ns i d (omega arith)

pub inside_now : (K L : ChainComplex) (part : List ℕ) (n : ℕ) → L ≡ K → ((m : ℕ) → Contains part m → m < length K.boundaries) → Contains part n → n < length L.boundaries
inside_now K L part n e inside w = let l = inside n w in omega (arith, ap (λ (M : ChainComplex). length M.boundaries) e)

-- what holds at all places of a list holds of its members
pub at_all : (P : ℕ → Type 0) (ns : List ℕ) (i : ℕ) → length ns ≤ i → ((k : ℕ) → k < i → P (get_or ns k 0)) → (n : ℕ) → Contains ns n → P n
at_all P ns i l h n w = subst P (default ns w.0 n w.1 ∙ w.2) (h w.0 (omega (arith, w.1)))
  where
    default : (ns : List ℕ) (i d : ℕ) → i < length ns → get_or ns i 0 ≡ get_or ns i d
    default [] i d l = absurd (omega arith)
    default (n ∷ ns) zero d l = refl
    default (n ∷ ns) (suc i) d l = default ns i d (omega arith)

-- ---- one more step, of a row that is 0

zero_kept : (p : ℕ) (E : ℕ → ℕ → ℕ) (part : ℕ → Bool) (closed : IsClosedPart p E part) (s : Step) → part s.a ≡ true → part s.b ≡ true → (h : ℕ) → ((g : ℕ) → Same p (E h g) 0) → (g : ℕ) → Same p (left p E s h g) 0
zero_kept p E part closed s ia ib h z g = ⊎_elim
    (λ e. exact p _ 0 (row_zero p E part closed s ia ib h g (inl e)))
    (λ na. ⊎_elim
    (λ e. exact p _ 0 (row_zero p E part closed s ia ib h g (inr e)))
    (λ nb. ⊎_elim
    (λ e. exact p (left p E s h g) 0 (column e))
    (λ nc. same_trans (entry_kept p E s h g na nb nc (inl (z s.a))) (z g))
    (cases_eq g s.b))
    (cases_eq h s.b))
    (cases_eq h s.a)
  where
    column : g ≡ s.b → left p E s h g ≡ 0
    column e = ap (λ v. cond v 0 (cond (eqb h s.b) 0 (cond (eqb h s.a) 0 (E h g + minus p (s.inverse * E h s.a * E s.b g))))) (eq-eqb g s.b e)

-- ---- the turns

pub record PartSo (p : ℕ) (K L : ChainComplex) (old now : List Step) (part : List ℕ) (i : ℕ) : Type 0 where
  pub complex : L ≡ K
  pub further : AreFurtherWithin (is_one_of part) old now
  pub done : (k : ℕ) → k < i → (g : ℕ) → Same p (left_of p L now (get_or part k 0) g) 0

pub part_first : (p : ℕ) (K : ChainComplex) (old : List Step) (part : List ℕ) → PartSo p K K old old part 0
part_first p K old part = record { complex = refl; further = record { more = []; steps = none old; within = tt }; done = λ k l. absurd (omega arith) }
  where
    none : (xs : List Step) → xs ≡ xs ++ []
    none [] = refl
    none (x ∷ xs) = ap (λ (ys : List Step). x ∷ ys) (none xs)

module _ (p : ℕ) (K L : ChainComplex) (old now : List Step) (part : List ℕ) (i h : ℕ) (is : h ≡ get_or part i 0) (s : PartSo p K L old now part i) where
  -- the row of this generator is 0 already
  pub part_zero : ((g : ℕ) → Same p (left_of p L now h g) 0) → PartSo p K L old now part (i + 1)
  part_zero z = record {
    complex = s.complex;
    further = s.further;
    done = λ k l. ⊎_elim (λ lt. s.done k lt) (λ ge g. subst (λ (m : ℕ). Same p (left_of p L now m g) 0) (is ∙ ap (λ j. get_or part j 0) (let e : i ≡ k = omega arith in e)) (z g)) (cases_lt k i);
  }

  pub part_dead : IsReduction p L now → ¬ IsUnpaired now h → PartSo p K L old now part (i + 1)
  part_dead r n = part_zero (λ g. (r.left_on_left g h n).1)

  pub part_empty : (b : List (ℕ × ℕ)) → b ≡ [] → ((g : ℕ) → Same p (coefficient b g) (left_of p L now h g)) → PartSo p K L old now part (i + 1)
  part_empty b e same = part_zero (λ g. same_trans (same_sym (same g)) (exact p _ 0 (ap (λ (c : List (ℕ × ℕ)). coefficient c g) e)))

  -- one more pair
  module _ (closed : IsClosedPart p (left_of p K old) (is_one_of part)) (inside : i < length part) (a : ℕ) (nonzero : NonZero p (left_of p L now h a)) where
    still_closed : IsClosedPart p (left_of p L now) (is_one_of part)
    still_closed = subst (λ (M : ChainComplex). IsClosedPart p (left_of p M now) (is_one_of part)) (sym s.complex)
        (subst (λ (us : List Step). IsClosedPart p (left_of p K us) (is_one_of part)) (sym s.further.steps)
        (subst (λ (E : ℕ → ℕ → ℕ). IsClosedPart p E (is_one_of part)) (sym (left_all-parts p (incidence K.boundaries) old s.further.more)) (closed_all p (left_of p K old) (is_one_of part) s.further.more closed s.further.within)))

    pub coface_listed : Contains part h
    coface_listed = (i, inside, at part i inside ∙ sym is)
      where
        at : (ns : List ℕ) (j : ℕ) → j < length ns → get_or ns j h ≡ get_or ns j 0
        at [] j l = absurd (omega arith)
        at (n ∷ ns) zero l = refl
        at (n ∷ ns) (suc j) l = at ns j (omega arith)

    pub face_listed : Contains part a
    face_listed = one_of-Contains part a (⊎_elim (λ e. e) (λ e. absurd (nonzero (still_closed h a (Contains-one_of part h coface_listed) e))) (cases_Bool (is_one_of part a)))

    pub face_alive : IsReduction p L now → IsUnpaired now a
    face_alive r = ⊎_elim (λ u. u) (λ n. absurd (nonzero ((r.left_on_left h a n).0))) (decide_unpaired now a)

    pub part_take : (M : ChainComplex) (new : List Step) → M ≡ L → IsOneMore now new a h → PartSo p K M old new part (i + 1)
    part_take M new e o = record {
      complex = e ∙ s.complex;
      further = record {
        more = s.further.more ++ step ∷ [];
        steps = o.steps ∙ ap (λ (us : List Step). us ++ step ∷ []) s.further.steps ∙ append_assoc old s.further.more (step ∷ []);
        within = both s.further.more s.further.within;
      };
      done = λ k l g. ⊎_elim
          (λ lt. moved (get_or part k 0) g (zero_kept p (left_of p L now) (is_one_of part) still_closed step in_a in_b (get_or part k 0) (s.done k lt) g))
          (λ ge. moved (get_or part k 0) g (exact p _ 0 (row_zero p (left_of p L now) (is_one_of part) still_closed step in_a in_b (get_or part k 0) g (inr (let e : k ≡ i = omega arith in ap (λ j. get_or part j 0) e ∙ sym is)))))
          (cases_lt k i);
    }
      where
        step : Step
        step = record { a = a; b = h; inverse = o.inverse }

        in_a : is_one_of part a ≡ true
        in_a = Contains-one_of part a face_listed

        in_b : is_one_of part h ≡ true
        in_b = Contains-one_of part h coface_listed

        both : (ms : List Step) → AreWithin (is_one_of part) ms → AreWithin (is_one_of part) (ms ++ step ∷ [])
        both [] w = (in_a, in_b, tt)
        both (m ∷ ms) w = (w.0, w.1, both ms w.2)

        moved : (k g : ℕ) → Same p (left p (left_of p L now) step k g) 0 → Same p (left_of p M new k g) 0
        moved k g z = subst (λ (N : ChainComplex). Same p (left_of p N new k g) 0) (sym e)
            (subst (λ (us : List Step). Same p (left_of p L us k g) 0) (sym o.steps)
            (same_trans (exact p _ _ (ap (λ (F : ℕ → ℕ → ℕ). F k g) (left_all-append p (incidence L.boundaries) now step))) z))

pub part_end : (p : ℕ) (K L : ChainComplex) (old now : List Step) (part : List ℕ) (i : ℕ) → length part ≤ i → PartSo p K L old now part i → (h g : ℕ) → Contains part h → Same p (left_of p L now h g) 0
part_end p K L old now part i l s h g w = subst (λ (m : ℕ). Same p (left_of p L now m g) 0) (at part w.0 w.1 ∙ w.2) (s.done w.0 (omega (arith, w.1)) g)
  where
    at : (ns : List ℕ) (j : ℕ) → j < length ns → get_or ns j 0 ≡ get_or ns j h
    at [] j l = absurd (omega arith)
    at (n ∷ ns) zero l = refl
    at (n ∷ ns) (suc j) l = at ns j (omega arith)
