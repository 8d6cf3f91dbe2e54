-- The first failing line, from what a form allows behind the lines that were read.
use Rattle.std.proofs.Common.{◌≡◌, ℕ, zero, suc, ◌+◌, ◌<◌, refl, sym, ap, ◌∙◌, arith, List, [], ◌∷◌, ◌++◌, length, get_or, take, append_assoc, subst}
use Rattle.std.proofs.lemmas.List.{map-append, length-map, length-append, get_or_append_left}
use Rattle.witness_laws.specs.Formats.{Format, texts_of, line_at, AreFirstOf, AreFirst, IsTextFault, IsCellFault, MeetsFirst}
use Rattle.witness_reading.proofs.Forms.{Item, no_item, texts, Names, Reads, behind}

-- the lists of lines of the values of a format are those of the form
pub record IsForm {V : Type 0} (F : Format V) (L : List Item → Type 0) : Type 0 where
  pub items : V → List Item
  pub are : (v : V) → F.fits v → L (items v)
  pub texts_are : (v : V) → F.fits v → texts (items v) ≡ texts_of F v
  pub names : (v : V) (i : ℕ) → F.fits v → i < length (items v) → Names (get_or (items v) i no_item) → F.first v (line_at F v i)
  pub named : (v : V) (i : ℕ) → F.fits v → i < length (items v) → F.first v (line_at F v i) → Names (get_or (items v) i no_item)
  pub value : (zs : List Item) → L zs → (v : V) × F.fits v × (texts_of F v ≡ texts zs)

-- the first texts, if any, are the same, or neither is there
abbrev pub BeginAlike : List (List ℕ) → List (List ℕ) → Type 0
BeginAlike [] [] = Unit {0}
BeginAlike (t ∷ ts) (u ∷ us) = t ≡ u
BeginAlike ts us = ⊥

alike : (ts us : List (List ℕ)) → ts ≡ us → BeginAlike ts us
alike [] [] e = tt
alike [] (u ∷ us) e = absurd (let q : 0 ≡ suc (length us) = ap length e in omega arith)
alike (t ∷ ts) [] e = absurd (let q : suc (length ts) ≡ 0 = ap length e in omega arith)
alike (t ∷ ts) (u ∷ us) e = ap (λ x. get_or x 0 []) e

front : {A : Type 0} (xs ys : List A) (k : ℕ) → k ≡ length xs → take k (xs ++ ys) ≡ xs
front [] ys zero e = refl
front [] ys (suc k) e = absurd (omega arith)
front (x ∷ xs) ys zero e = absurd (omega arith)
front (x ∷ xs) ys (suc k) e = ap (λ l. x ∷ l) (front xs ys k (omega arith))

front_next : {A : Type 0} (xs : List A) (y : A) (ys : List A) (k : ℕ) → k ≡ length xs → take (suc k) (xs ++ y ∷ ys) ≡ xs ++ y ∷ []
front_next [] y ys zero e = refl
front_next [] y ys (suc k) e = absurd (omega arith)
front_next (x ∷ xs) y ys zero e = absurd (omega arith)
front_next (x ∷ xs) y ys (suc k) e = ap (λ l. x ∷ l) (front_next xs y ys k (omega arith))

at_seam : (xs : List Item) (z : Item) (ys : List Item) (k : ℕ) → k ≡ length xs → get_or (xs ++ z ∷ ys) k no_item ≡ z
at_seam [] z ys zero e = refl
at_seam [] z ys (suc k) e = absurd (omega arith)
at_seam (x ∷ xs) z ys zero e = absurd (omega arith)
at_seam (x ∷ xs) z ys (suc k) e = at_seam xs z ys k (omega arith)

module _ {V : Type 0} (F : Format V) (L : List Item → Type 0) (form : IsForm F L) (xs : List Item) (M : List Item → Type 0)
    (r : Reads L xs M) (k : ℕ) (many : k ≡ length xs) where
  many_texts : k ≡ length (texts xs)
  many_texts = many ∙ sym (length-map xs (λ (z : Item). z.text))

  -- each value whose text begins with these lines begins with them
  goes : (v : V) (more : List (List ℕ)) → F.fits v → texts_of F v ≡ texts xs ++ more → (ys : List Item) × (form.items v ≡ xs ++ ys) × M ys
  goes v more f e = r.goes (form.items v) more (form.are v f) (form.texts_are v f ∙ e)

  -- some value begins with them
  some : (ys : List Item) → M ys → AreFirst F (texts xs)
  some ys m =
      let w = form.value (xs ++ ys) (r.sound ys m) in
      record { value = w.0; are = record { fits = w.1; more = texts ys; lines = w.2 ∙ map-append (λ (z : Item). z.text) xs ys } }

  names_here : (v : V) (ys : List Item) (i : ℕ) → F.fits v → form.items v ≡ xs ++ ys → i < length xs → Names (get_or xs i no_item) → F.first v (line_at F v i)
  names_here v ys i f e l h =
      let n : length (form.items v) ≡ length xs + length ys = ap length e ∙ length-append xs ys in
      form.names v i f (omega arith) (subst Names (sym (ap (λ t. get_or t i no_item) e ∙ get_or_append_left xs ys no_item i l)) h)

  module _ (ts rest : List (List ℕ)) (split : ts ≡ texts xs ++ rest) (names : (i : ℕ) → i < length xs → Names (get_or xs i no_item)) where
    taken : take k ts ≡ texts xs
    taken = ap (take k) split ∙ front (texts xs) rest k many_texts

    meet : (v : V) → AreFirstOf F (take k ts) v → (i : ℕ) → i < k → F.first v (line_at F v i)
    meet v a i l =
        let w = goes v a.more a.fits (a.lines ∙ ap (λ t. t ++ a.more) taken) in
        names_here v w.0 i a.fits w.1 (omega arith) (names i (omega arith))

    count : length ts ≡ k + length rest
    count = ap length split ∙ length-append (texts xs) rest ∙ ap (λ (n : ℕ). n + length rest) (sym many_texts)

    module _ (ys : List Item) (m : M ys) (refused : (zs : List Item) → M zs → BeginAlike (texts zs) rest → ⊥) where
      -- what a value whose text goes on so would have behind the lines
      none : (v : V) (more : List (List ℕ)) → F.fits v → texts_of F v ≡ texts xs ++ more → BeginAlike more rest → ⊥
      none v more f e h =
          let w = goes v more f e in
          refused w.0 w.2 (subst (λ (t : List (List ℕ)). BeginAlike t rest) (sym (behind (form.items v) xs w.0 more w.1 (form.texts_are v f ∙ e))) h)

      here : (us : List (List ℕ)) → us ≡ rest → k < length ts → AreFirst F (take (suc k) ts) → ⊥
      here [] e l a = let q : 0 ≡ length rest = ap length e in let c = count in omega arith
      here (u ∷ us) e l a =
          let v : V = a.value in
          let f : texts_of F v ≡ texts xs ++ (u ∷ a.are.more) = a.are.lines
          ∙ ap (λ t. take (suc k) t ++ a.are.more) (split ∙ ap (λ t. texts xs ++ t) (sym e))
          ∙ ap (λ t. t ++ a.are.more) (front_next (texts xs) u us k many_texts)
          ∙ append_assoc (texts xs) (u ∷ []) a.are.more in
          none v (u ∷ a.are.more) a.are.fits f (subst (BeginAlike (u ∷ a.are.more)) e refl)

      pub text_fault : IsTextFault F ts k
      text_fault = record {
        within = let c = count in omega arith;
        before = subst (AreFirst F) (sym taken) (some ys m);
        meet = meet;
        here = here rest refl;
        whole = λ v h. none v rest h.fits (h.lines ∙ split) (alike rest rest refl);
      }

  module _ (z : Item) (N : List Item → Type 0) (s : Reads M (z ∷ []) N) (ys : List Item) (m : N ys) (ts rest : List (List ℕ)) (split : ts ≡ texts xs ++ (z.text ∷ rest))
      (names : (i : ℕ) → i < length xs → Names (get_or xs i no_item)) (other : Names z → ⊥) where
    taken_next : take (suc k) ts ≡ texts xs ++ z.text ∷ []
    taken_next = ap (take (suc k)) split ∙ front_next (texts xs) z.text rest k many_texts

    before : AreFirst F (texts xs ++ z.text ∷ [])
    before =
        let w = form.value (xs ++ (z ∷ ys)) (r.sound (z ∷ ys) (s.sound ys m)) in
        record {
          value = w.0;
          are = record {
            fits = w.1;
            more = texts ys;
            lines = w.2 ∙ map-append (λ (x : Item). x.text) xs (z ∷ ys) ∙ sym (append_assoc (texts xs) (z.text ∷ []) (texts ys));
          };
        }

    not_here : (v : V) → AreFirstOf F (take (suc k) ts) v → F.first v (line_at F v k) → ⊥
    not_here v a h =
        let e : texts_of F v ≡ texts xs ++ (z.text ∷ a.more) = a.lines ∙ ap (λ t. t ++ a.more) taken_next ∙ append_assoc (texts xs) (z.text ∷ []) a.more in
        let w = goes v (z.text ∷ a.more) a.fits e in
        let u = s.goes w.0 a.more w.2 (behind (form.items v) xs w.0 (z.text ∷ a.more) w.1 (form.texts_are v a.fits ∙ e)) in
        let q : form.items v ≡ xs ++ (z ∷ u.0) = w.1 ∙ ap (λ t. xs ++ t) u.1 in
        let n : length (form.items v) ≡ length xs + suc (length u.0) = ap length q ∙ length-append xs (z ∷ u.0) in
        other (subst Names (ap (λ t. get_or t k no_item) q ∙ at_seam xs z u.0 k many) (form.named v k a.fits (omega arith) h))

    pub cell_fault : IsCellFault F ts k
    cell_fault = record {
      within = let c : length ts ≡ k + suc (length rest) = ap length split ∙ length-append (texts xs) (z.text ∷ rest)
          ∙ ap (λ (n : ℕ). n + suc (length rest)) (sym many_texts) in omega arith;
      before = subst (AreFirst F) (sym taken_next) before;
      meet = meet ts (z.text ∷ rest) split names;
      here = not_here;
    }

-- all lines were read, and the value is known
pub meets_first : {V : Type 0} (F : Format V) (L : List Item → Type 0) (form : IsForm F L) (v : V) → F.fits v
    → ((i : ℕ) → i < length (form.items v) → Names (get_or (form.items v) i no_item)) → MeetsFirst F v
meets_first F L form v f h i l =
    let n : length (form.items v) ≡ length (F.lines v) =
    sym (length-map (form.items v) (λ (z : Item). z.text)) ∙ ap length (form.texts_are v f) ∙ length-map (F.lines v) (F.text v) in
    form.names v i f (omega arith) (h i (omega arith))
