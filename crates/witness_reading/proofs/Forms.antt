-- Forms of lists of lines, and what a form allows behind the lines that were read.
use Rattle.std.proofs.Common.{◌≡◌, ℕ, suc, refl, sym, ap, ◌∙◌, List, [], ◌∷◌, ◌++◌, length, get_or, map, drop, append_assoc, subst}
use Rattle.std.proofs.lemmas.List.{map-append, append_cancel_left}
use Rattle.witness_runs.specs.Kinds.{NamesKind}

-- a line: its text, and the terms that are to name cells of a kind, with the table of kinds
pub record Item : Type 0 where
  pub text : List ℕ
  pub kinds : List ℕ
  pub wanted : ℕ
  pub terms : List (ℕ × ℕ)

abbrev pub no_item : Item
no_item = record { text = []; kinds = []; wanted = 0; terms = [] }

abbrev pub texts : List Item → List (List ℕ)
texts zs = map (λ z. z.text) zs

abbrev pub Names : Item → Type 0
Names z = NamesKind z.kinds z.wanted z.terms

-- ---- what is read, and what may stand behind it

-- lists of the first form may begin with these lines, and then go on as the second form says
pub record Reads (L : List Item → Type 0) (xs : List Item) (M : List Item → Type 0) : Type 0 where
  pub sound : (ys : List Item) → M ys → L (xs ++ ys)
  pub goes : (zs : List Item) (more : List (List ℕ)) → L zs → texts zs ≡ texts xs ++ more
      → (ys : List Item) × (zs ≡ xs ++ ys) × M ys

pub reads_none : (L : List Item → Type 0) → Reads L [] L
reads_none L = record { sound = λ ys m. m; goes = λ zs more l e. (zs, refl, l) }

-- the texts behind the lines that were read
pub behind : (zs xs ys : List Item) (more : List (List ℕ)) → zs ≡ xs ++ ys → texts zs ≡ texts xs ++ more
    → texts ys ≡ more
behind zs xs ys more e f =
    append_cancel_left (texts xs) (texts ys) more (sym (map-append (λ (z : Item). z.text) xs ys) ∙ sym (ap texts e) ∙ f)

pub reads_both : (L : List Item → Type 0) (xs : List Item) (M : List Item → Type 0) (ys : List Item)
    (N : List Item → Type 0) → Reads L xs M → Reads M ys N → Reads L (xs ++ ys) N
reads_both L xs M ys N r s = record {
  sound = λ zs n. subst L (sym (append_assoc xs ys zs)) (r.sound (ys ++ zs) (s.sound zs n));
  goes = λ zs more l e.
      let f : texts zs ≡ texts xs ++ (texts ys ++ more) = e ∙ ap (λ t. t ++ more) (map-append (λ (z : Item). z.text) xs ys)
      ∙ append_assoc (texts xs) (texts ys) more in
      let w = r.goes zs (texts ys ++ more) l f in
      let v = s.goes w.0 more w.2 (behind zs xs w.0 (texts ys ++ more) w.1 f) in
      (v.0, w.1 ∙ ap (λ t. xs ++ t) v.1 ∙ sym (append_assoc xs ys v.0), v.2);
}

-- ---- one line

-- a line of which P holds, and behind it what K says of that line
abbrev pub Then : (Item → Type 0) → (Item → List Item → Type 0) → List Item → Type 0
Then P K [] = ⊥
Then P K (z ∷ zs) = P z × K z zs

-- the text tells the line
abbrev pub IsTold : (Item → Type 0) → Type 0
IsTold P = (y z : Item) → P y → P z → y.text ≡ z.text → y ≡ z

line_goes : (P : Item → Type 0) (K : Item → List Item → Type 0) (z : Item) → IsTold P → P z
    → (zs : List Item) (more : List (List ℕ)) → Then P K zs → texts zs ≡ z.text ∷ more
    → (ys : List Item) × (zs ≡ z ∷ ys) × K z ys
line_goes P K z t p [] more l e = absurd l
line_goes P K z t p (y ∷ ys) more l e =
    let q : y ≡ z = t y z l.0 p (ap (λ x. get_or x 0 []) e) in
    (ys, ap (λ (x : Item). x ∷ ys) q, subst (λ (x : Item). K x ys) q l.1)

pub reads_line : (P : Item → Type 0) (K : Item → List Item → Type 0) (z : Item) → IsTold P → P z
    → Reads (Then P K) (z ∷ []) (K z)
reads_line P K z t p = record { sound = λ ys k. (p, k); goes = λ zs more l e. line_goes P K z t p zs more l e }

-- ---- runs: a line for each head

abbrev pub Run : {A : Type 0} → (A → Item → Type 0) → List A → (List Item → List Item → Type 0)
    → List Item → Type 0
Run P [] K = K []
Run P (n ∷ ns) K = Then (P n) (λ z. Run P ns (λ xs. K (z ∷ xs)))

-- the lines are first ones of the run
abbrev pub AreRun : {A : Type 0} → (A → Item → Type 0) → List A → List Item → Type 0
AreRun P ns [] = Unit {0}
AreRun P [] (x ∷ xs) = ⊥
AreRun P (n ∷ ns) (x ∷ xs) = P n x × AreRun P ns xs

pub reads_run : {A : Type 0} (P : A → Item → Type 0) (ns : List A) (K : List Item → List Item → Type 0)
    (xs : List Item) → ((n : A) → IsTold (P n)) → AreRun P ns xs
    → Reads (Run P ns K) xs (Run P (drop (length xs) ns) (λ ys. K (xs ++ ys)))
reads_run P ns K [] t a = reads_none (Run P ns K)
reads_run P [] K (x ∷ xs) t a = absurd a
reads_run P (n ∷ ns) K (x ∷ xs) t a =
    reads_both (Run P (n ∷ ns) K) (x ∷ []) (Run P ns (λ ys. K (x ∷ ys))) xs
    (Run P (drop (length xs) ns) (λ ys. K (x ∷ (xs ++ ys))))
    (reads_line (P n) (λ z. Run P ns (λ ys. K (z ∷ ys))) x (t n) a.0)
    (reads_run P ns (λ ys. K (x ∷ ys)) xs t a.1)

-- a run can be filled up
pub run_some : {A : Type 0} (P : A → Item → Type 0) (ns : List A) (K : List Item → List Item → Type 0)
    → ((n : A) → (z : Item) × P n z)
    → ((xs : List Item) → AreRun P ns xs → length xs ≡ length ns → (ys : List Item) × K xs ys)
    → (zs : List Item) × Run P ns K zs
run_some P [] K f g = g [] tt refl
run_some P (n ∷ ns) K f g =
    let w = f n in
    let r = run_some P ns (λ xs. K (w.0 ∷ xs)) f (λ xs a e. g (w.0 ∷ xs) (w.1, a) (ap suc e)) in
    (w.0 ∷ r.0, (w.1, r.1))
