-- Steps with exactly one outcome.
use Rattle.std.proofs.Common.{◌≡◌, Result, Ok, Err, refl, sym, ◌∙◌, subst, ◌⊎◌, inl, inr, ⊎_elim}
use Rattle.faults.specs.declared.fault.Fault.{Fault}
use Rattle.loading.specs.Steps.{Then, Is, IsOne}

pub settled : {A : Type 0} (due : Result A Fault) → IsOne (Is due)
settled due = record { outcome = due; holds = refl; one = λ o r e f. e ∙ sym f }

module _ {A B : Type 0} (first : Result A Fault → Type 0) (next : A → Result B Fault → Type 0) (f_one : IsOne first) (n_one : (x : A) → IsOne (next x)) where
  continued : (x : A) (o : Result B Fault) → first (Ok x) → next x o → Then first next o
  continued x (Ok y) h k = (x, h, k)
  continued x (Err fault) h k = inr (x, h, k)

  begun : (o : Result A Fault) → first o → (r : Result B Fault) × Then first next r
  begun (Ok x) h = ((n_one x).outcome, continued x (n_one x).outcome h (n_one x).holds)
  begun (Err fault) h = (Err fault, inl h)

  record Ends (o : Result B Fault) : Type 0 where
    fault : Fault
    refused : first (Err fault)
    is : o ≡ Err fault

  parts : (o : Result B Fault) → Then first next o → Ends o ⊎ ((x : A) × first (Ok x) × next x o)
  parts (Ok y) t = inr t
  parts (Err fault) (inl h) = inl (record { fault = fault; refused = h; is = refl })
  parts (Err fault) (inr t) = inr t

  same_value : (x y : A) → first (Ok x) → first (Ok y) → x ≡ y
  same_value x y h k = let e : ◌≡◌ {A = Result A Fault} (Ok x) (Ok y) = f_one.one (Ok x) (Ok y) h k in cc

  never_both : (x : A) (fault : Fault) → first (Ok x) → first (Err fault) → ⊥
  never_both x fault h k = let e : ◌≡◌ {A = Result A Fault} (Ok x) (Err fault) = f_one.one (Ok x) (Err fault) h k in cc

  same_fault : (f g : Fault) → first (Err f) → first (Err g) → ◌≡◌ {A = Result B Fault} (Err f) (Err g)
  same_fault f g h k = let e : ◌≡◌ {A = Result A Fault} (Err f) (Err g) = f_one.one (Err f) (Err g) h k in cc

  one_then : (o r : Result B Fault) → Then first next o → Then first next r → o ≡ r
  one_then o r t u = ⊎_elim
      (λ e. ⊎_elim
      (λ d. e.is ∙ same_fault e.fault d.fault e.refused d.refused ∙ sym d.is)
      (λ (x, h, k). absurd (never_both x e.fault h e.refused))
      (parts r u))
      (λ (x, h, k). ⊎_elim
      (λ d. absurd (never_both x d.fault h d.refused))
      (λ (y, i, l). (n_one x).one o r k (subst (λ (v : A). next v r) (sym (same_value x y h i)) l))
      (parts r u))
      (parts o t)

  pub then_one : IsOne (Then first next)
  then_one = let b = begun f_one.outcome f_one.holds in record { outcome = b.0; holds = b.1; one = one_then }
