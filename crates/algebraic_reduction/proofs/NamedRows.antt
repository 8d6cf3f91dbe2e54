-- Lists of generators that grow, and the index of the rows.
use Rattle.std.proofs.Common.{◌≡◌, ◌≢◌, ℕ, ◌+◌, ◌*◌, ◌<◌, ◌≤◌, refl, sym, ap, ◌∙◌, arith, ⊎_elim, List, [], ◌∷◌, ◌++◌, length, get_or, set, take, cond, eqb, ne_eqb, subst, length-append, length-set, get_or-set_same, get_or-set_other}
use Rattle.std.proofs.lemmas.Bool.{cases_eq}
use Rattle.std.proofs.lemmas.List.{take_more, get_or_append_left}
use Rattle.std.proofs.Math.Seq.{get_or-append_seam}
use Rattle.field_mod.specs.Modular.{Same, NonZero}
use Rattle.field_mod.proofs.Modular.{same_by}
use Rattle.chains.specs.Terms.{coefficient}
use Rattle.chains.proofs.TermLists.{coefficient-append}
use Rattle.algebraic_reduction.specs.Kept.{KeptStep, nth, b_at, row_at}
use Rattle.algebraic_reduction.specs.State.{StandsFrom, Names, NamesStay, AreNames}

-- ---- standing in a list

pub stands-push_new : (xs : List ℕ) (x : ℕ) → StandsFrom 0 (xs ++ x ∷ []) x
stands-push_new xs x = (length xs, (omega arith), (omega (arith, length-append xs (x ∷ []))), get_or-append_seam xs x [] 0)

pub stands-push : (k : ℕ) (xs : List ℕ) (y x : ℕ) → StandsFrom k xs x → StandsFrom k (xs ++ y ∷ []) x
stands-push k xs y x s = (s.0, s.1, (let l = s.2 in omega (arith, length-append xs (y ∷ []))), get_or_append_left xs (y ∷ []) 0 s.0 s.2 ∙ s.3)

-- ---- the lists at which a row is named

pub record Naming (old new : List (List ℕ)) (row : List (ℕ × ℕ)) (generator k : ℕ) : Type 0 where
  pub stay : NamesStay old new
  pub named : (g : ℕ) → g < length new → coefficient (take k row) g ≢ 0 → Names new g generator

pub naming_start : (lists : List (List ℕ)) (row : List (ℕ × ℕ)) (generator : ℕ) → Naming lists lists row generator 0
naming_start lists row generator = record { stay = λ g h s. s; named = λ g l f. absurd (f refl) }

pub coefficient_more : (row : List (ℕ × ℕ)) (k g : ℕ) → k < length row → coefficient (take (k + 1) row) g ≡ coefficient (take k row) g + (cond (eqb (get_or row k (0, 0)).0 g) (get_or row k (0, 0)).1 0 + 0)
coefficient_more row k g l = ap (λ (ts : List (ℕ × ℕ)). coefficient ts g) (take_more row k (0, 0) l) ∙ coefficient-append (take k row) (get_or row k (0, 0) ∷ []) g

pub coefficient_other : (row : List (ℕ × ℕ)) (k g : ℕ) → k < length row → (get_or row k (0, 0)).0 ≢ g → coefficient (take (k + 1) row) g ≡ coefficient (take k row) g
coefficient_other row k g l f = coefficient_more row k g l ∙ (rw (ne_eqb (get_or row k (0, 0)).0 g f) (omega arith))

-- a generator past the lists has none
pub naming_skip : (old new : List (List ℕ)) (row : List (ℕ × ℕ)) (generator k : ℕ) → Naming old new row generator k → k < length row → length new ≤ (get_or row k (0, 0)).0 → Naming old new row generator (k + 1)
naming_skip old new row generator k n l f = record {
  stay = n.stay;
  named = λ g q nz. n.named g q (λ v. nz (coefficient_other row k g l (λ e. absurd (omega arith)) ∙ v));
}

pub naming_push : (old new new' : List (List ℕ)) (row : List (ℕ × ℕ)) (generator k at : ℕ) (v : List ℕ) → Naming old new row generator k → k < length row → at ≡ (get_or row k (0, 0)).0 → at < length new → v ≡ get_or new at [] ++ generator ∷ [] → new' ≡ set new at v → Naming old new' row generator (k + 1)
naming_push old new new' row generator k at v n l ea inside ev en = record {
  stay = λ g h s. push_stays g h (n.stay g h s);
  named = λ g q nz. ⊎_elim
      (λ e. subst (λ (x : ℕ). Names new' x generator) (sym e) here)
      (λ ne. push_stays g generator (n.named g (let w = ap length en ∙ length-set new at v in omega arith) (λ x. nz (coefficient_other row k g l (λ e. ne (sym (ea ∙ e))) ∙ x))))
      (cases_eq g at);
}
  where
    other : (g : ℕ) → g ≢ at → get_or new' g [] ≡ get_or new g []
    other g f = ap (λ (ls : List (List ℕ)). get_or ls g []) en ∙ get_or-set_other new at g v [] f

    at_is : get_or new' at [] ≡ get_or new at [] ++ generator ∷ []
    at_is = ap (λ (ls : List (List ℕ)). get_or ls at []) en ∙ get_or-set_same new at v [] inside ∙ ev

    here : Names new' at generator
    here = subst (λ (xs : List ℕ). StandsFrom 0 xs generator) (sym at_is) (stands-push_new (get_or new at []) generator)

    push_stays : (g h : ℕ) → Names new g h → Names new' g h
    push_stays g h s = ⊎_elim
        (λ e. subst (λ (x : ℕ). Names new' x h) (sym e) (subst (λ (xs : List ℕ). StandsFrom 0 xs h) (sym at_is) (stands-push 0 (get_or new at []) generator h (subst (λ (x : ℕ). Names new x h) e s))))
        (λ f. subst (λ (xs : List ℕ). StandsFrom 0 xs h) (sym (other g f)) s)
        (cases_eq g at)

-- ---- the rows of steps, one by one

-- the first k steps are named
abbrev pub AreNamed : ℕ → List KeptStep → List (List ℕ) → ℕ → Type 0
AreNamed p ks lists k = (i g : ℕ) → i < k → g < length lists → NonZero p (row_at ks i g) → Names lists g (b_at ks i)

pub named_more : (p : ℕ) (ks : List KeptStep) (s : KeptStep) (lists lists' : List (List ℕ)) (k : ℕ) → AreNamed p ks lists k → length lists' ≡ length lists → NamesStay lists lists' → s ≡ nth ks k → ((g : ℕ) → g < length lists' → coefficient s.row g ≢ 0 → Names lists' g s.step.b) → AreNamed p ks lists' (k + 1)
named_more p ks s lists lists' k n count stay es new i g l q nz = ⊎_elim
    (λ e. subst (λ (x : ℕ). Names lists' g (b_at ks x)) (sym e)
    (subst (λ (t : KeptStep). Names lists' g t.step.b) es (new g q (λ z. nz (subst (λ (x : ℕ). Same p (row_at ks x g) 0) (sym e) (same_by p 0 0 _ _ (ap (λ v. v + p * 0) (ap (λ (t : KeptStep). coefficient t.row g) (sym es) ∙ z))))))))
    (λ f. stay g (b_at ks i) (n i g (omega arith) (omega arith) nz))
    (cases_eq i k)

-- where there is no list, or no generator
pub no_names : (p : ℕ) (n : ℕ) (ks : List KeptStep) (lists : List (List ℕ)) → lists ≡ [] → length lists ≡ n → AreNames p n ks lists
no_names p n ks lists e c = record { count = c; named = λ i g l q. absurd (let z = ap (λ (ls : List (List ℕ)). length ls) e in omega arith) }
