-- At most one answer on the lines of a text is right.
use Rattle.std.proofs.Common.{◌≡◌, ℕ, zero, suc, ◌<◌, ◌≤◌, refl, sym, ap, ◌∙◌, arith, ⊎_elim, List, [], ◌∷◌, ◌++◌, length, get_or, take, append_assoc, subst}
use Rattle.std.proofs.lemmas.Bool.{cases_lt}
use Rattle.std.proofs.lemmas.List.{length-map}
use Rattle.std.specs.List.{Contains}
use Rattle.std.proofs.lemmas.List.Elements.{Contains-get_or}
use Rattle.witness_laws.specs.declared.law.Law.{Law}
use Rattle.witness_laws.specs.declared.law.Law.TheVariants as laws
use Rattle.witness_laws.specs.declared.law.Law.TheVariants.{Text, Cell}
use Rattle.witness_laws.specs.Formats.{Format, line_at, HasValue, AreFirstOf, IsTextFault, IsCellFault, MeetsFirst, IsLawFault, IsFirstFault, MeetsLaws, IsAccepted, HaveOneValue}
use Rattle.witness_laws.specs.Tables.{tables_format}
use Rattle.witness_laws.specs.Laws.{TablesHaveOneOutcome}
use Rattle.witness_laws.proofs.OneValue.{have_one_value}

front : {A : Type 0} (j l : ℕ) (ts : List A) → j ≤ l → (rest : List A) × (take l ts ≡ take j ts ++ rest)
front zero l ts q = (take l ts, refl)
front (suc j) zero ts q = absurd (omega arith)
front (suc j) (suc l) [] q = ([], refl)
front (suc j) (suc l) (t ∷ ts) q = let w = front j l ts (omega arith) in (w.0, ap (λ x. t ∷ x) w.1)

back : {A : Type 0} (j : ℕ) (ts : List A) → (rest : List A) × (ts ≡ take j ts ++ rest)
back zero ts = (ts, refl)
back (suc j) [] = ([], refl)
back (suc j) (t ∷ ts) = let w = back j ts in (w.0, ap (λ x. t ∷ x) w.1)

module _ {V : Type 0} (F : Format V) (ts : List (List ℕ)) where
  shorter : (j l : ℕ) (v : V) → j ≤ l → AreFirstOf F (take l ts) v → AreFirstOf F (take j ts) v
  shorter j l v q w =
      let f = front j l ts q in
      record { fits = w.fits; more = f.0 ++ w.more; lines = w.lines ∙ ap (λ x. x ++ w.more) f.1 ∙ append_assoc (take j ts) f.0 w.more }

  whole_begins : (j : ℕ) (v : V) → HasValue F ts v → AreFirstOf F (take j ts) v
  whole_begins j v h = let b = back j ts in record { fits = h.fits; more = b.0; lines = h.lines ∙ b.1 }

  count : (v : V) → HasValue F ts v → length (F.lines v) ≡ length ts
  count v h = sym (length-map (F.lines v) (F.text v)) ∙ ap length h.lines

  text_order : (k l : ℕ) → k < l → IsTextFault F ts k → IsTextFault F ts l → ⊥
  text_order k l q f g = f.here (let b = g.within in omega arith) (record { value = g.before.value; are = shorter (suc k) l g.before.value (omega arith) g.before.are })

  text_text : (k l : ℕ) → IsTextFault F ts k → IsTextFault F ts l → k ≡ l
  text_text k l f g = ⊎_elim (λ q. absurd (text_order k l q f g)) (λ q. ⊎_elim (λ r. absurd (text_order l k r g f)) (λ r. omega arith) (cases_lt l k)) (cases_lt k l)

  text_cell : (k l : ℕ) → IsTextFault F ts k → IsCellFault F ts l → ⊥
  text_cell k l f g = ⊎_elim
      (λ q. let v = f.before.value in g.here v (shorter (suc l) k v (omega arith) f.before.are) (f.meet v f.before.are l q))
      (λ q. f.here (let b = g.within in omega arith) (record { value = g.before.value; are = shorter (suc k) (suc l) g.before.value (omega arith) g.before.are }))
      (cases_lt l k)

  cell_order : (k l : ℕ) → k < l → IsCellFault F ts k → IsCellFault F ts l → ⊥
  cell_order k l q f g = let v = g.before.value in f.here v (shorter (suc k) (suc l) v (omega arith) g.before.are) (g.meet v (shorter l (suc l) v (omega arith) g.before.are) k q)

  cell_cell : (k l : ℕ) → IsCellFault F ts k → IsCellFault F ts l → k ≡ l
  cell_cell k l f g = ⊎_elim (λ q. absurd (cell_order k l q f g)) (λ q. ⊎_elim (λ r. absurd (cell_order l k r g f)) (λ r. omega arith) (cases_lt l k)) (cases_lt k l)

  cell_value : (k : ℕ) (v : V) → IsCellFault F ts k → HasValue F ts v → MeetsFirst F v → ⊥
  cell_value k v f h m = f.here v (whole_begins (suc k) v h) (m k (let e = count v h in let b = f.within in omega arith))

  law_accepted : (k : ℕ) (law : Law) (f : IsLawFault F ts k law) → MeetsLaws F f.value → ⊥
  law_accepted k law f m = f.here (m.second k (let e = count f.value f.has in let b = f.within in omega arith) law (subst (Contains F.second) (sym f.named) (Contains-get_or F.second f.at Text f.inside)))

  law_order : (k l : ℕ) (law other : Law) → k < l → (f : IsLawFault F ts k law) (g : IsLawFault F ts l other) → f.value ≡ g.value → ⊥
  law_order k l law other q f g e =
      f.here (subst (λ (v : V). F.holds v law (line_at F v k)) (sym e) (g.before.lines k q law (subst (Contains F.second) (sym f.named) (Contains-get_or F.second f.at Text f.inside))))

  law_line : (k l : ℕ) (law other : Law) (f : IsLawFault F ts k law) (g : IsLawFault F ts l other) → f.value ≡ g.value → k ≡ l
  law_line k l law other f g e = ⊎_elim (λ q. absurd (law_order k l law other q f g e)) (λ q. ⊎_elim (λ r. absurd (law_order l k other law r g f (sym e))) (λ r. omega arith) (cases_lt l k)) (cases_lt k l)

  place_order : (k : ℕ) (law other : Law) (f : IsLawFault F ts k law) (g : IsLawFault F ts k other) → f.value ≡ g.value → f.at < g.at → ⊥
  place_order k law other f g e q =
      f.here (subst (λ (v : V). F.holds v law (line_at F v k)) (sym e) (subst (λ (l : Law). F.holds g.value l (line_at F g.value k)) (sym f.named) (g.before.laws f.at q)))

  law_law : (k : ℕ) (law other : Law) (f : IsLawFault F ts k law) (g : IsLawFault F ts k other) → f.value ≡ g.value → law ≡ other
  law_law k law other f g e =
      ⊎_elim (λ q. absurd (place_order k law other f g e q)) (λ q. ⊎_elim (λ r. absurd (place_order k other law g f (sym e) r))
      (λ r. f.named ∙ ap (λ i. get_or F.second i Text) (let h : f.at ≡ g.at = omega arith in h) ∙ sym g.named) (cases_lt g.at f.at)) (cases_lt f.at g.at)

-- a fault is one of three kinds
data Kind {V : Type 0} (F : Format V) (ts : List (List ℕ)) (k : ℕ) (law : Law) : Type 0 where
  of_text : law ≡ Text → IsTextFault F ts k → Kind F ts k law
  of_cell : law ≡ Cell → IsCellFault F ts k → Kind F ts k law
  of_law : IsLawFault F ts k law → Kind F ts k law

kind_of : {V : Type 0} (F : Format V) (ts : List (List ℕ)) (k : ℕ) (law : Law) → IsFirstFault F ts k law → Kind F ts k law
kind_of F ts k laws.Text f = of_text refl f
kind_of F ts k laws.Cell f = of_cell refl f
kind_of F ts k laws.Header f = of_law f
kind_of F ts k laws.Cycle f = of_law f
kind_of F ts k laws.Dual f = of_law f
kind_of F ts k laws.Cocycle f = of_law f
kind_of F ts k laws.Contraction f = of_law f
kind_of F ts k laws.ValueContraction f = of_law f
kind_of F ts k laws.Carried f = of_law f
kind_of F ts k laws.Augmentation f = of_law f
kind_of F ts k laws.Commutes f = of_law f
kind_of F ts k laws.Matrix f = of_law f

module _ {V : Type 0} (F : Format V) (one : HaveOneValue F) (ts : List (List ℕ)) where
  same_fault : (k l : ℕ) (law other : Law) → Kind F ts k law → Kind F ts l other → (k ≡ l) × (law ≡ other)
  same_fault k l law other (of_text e f) (of_text d g) = (text_text F ts k l f g, e ∙ sym d)
  same_fault k l law other (of_text e f) (of_cell d g) = absurd (text_cell F ts k l f g)
  same_fault k l law other (of_text e f) (of_law g) = absurd (f.whole g.value g.has)
  same_fault k l law other (of_cell e f) (of_text d g) = absurd (text_cell F ts l k g f)
  same_fault k l law other (of_cell e f) (of_cell d g) = (cell_cell F ts k l f g, e ∙ sym d)
  same_fault k l law other (of_cell e f) (of_law g) = absurd (cell_value F ts k g.value f g.has g.first)
  same_fault k l law other (of_law f) (of_text d g) = absurd (g.whole f.value f.has)
  same_fault k l law other (of_law f) (of_cell d g) = absurd (cell_value F ts l f.value g f.has f.first)
  same_fault k l law other (of_law f) (of_law g) =
      let e : f.value ≡ g.value = one ts f.value g.value f.has g.has in
      let q : k ≡ l = law_line F ts k l law other f g e in
      (q, subst (λ (i : ℕ). (h : IsLawFault F ts i other) → f.value ≡ h.value → law ≡ other) q (λ h d. law_law F ts k law other f h d) g e)

  not_accepted : (k : ℕ) (law : Law) (v : V) → Kind F ts k law → IsAccepted F ts v → ⊥
  not_accepted k law v (of_text e f) a = f.whole v a.has
  not_accepted k law v (of_cell e f) a = cell_value F ts k v f a.has a.meets.first
  not_accepted k law v (of_law f) a = law_accepted F ts k law f (subst (MeetsLaws F) (one ts v f.value a.has f.has) a.meets)

pub tables_have_one_outcome : TablesHaveOneOutcome
tables_have_one_outcome p G =
    let F = tables_format p G in
    record {
      value = have_one_value p G;
      fault = λ ts k l law other f g. same_fault F (have_one_value p G) ts k l law other (kind_of F ts k law f) (kind_of F ts l other g);
      accepted = λ ts k law v f a. not_accepted F (have_one_value p G) ts k law v (kind_of F ts k law f) a;
    }
