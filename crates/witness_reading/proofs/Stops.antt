-- Where the lines of a text leave a form, or name other cells, and what that says of its first failing line.
use Rattle.std.proofs.Common.{◌≡◌, ℕ, zero, suc, ◌+◌, ◌<◌, refl, sym, ap, ◌∙◌, arith, List, [], ◌∷◌, ◌++◌, length, get_or, append_assoc, subst}
use Rattle.std.proofs.lemmas.List.{map-append, length-append, append_cancel_left}
use Rattle.witness_laws.specs.Formats.{Format, IsTextFault, IsCellFault}
use Rattle.witness_reading.proofs.Forms.{Item, no_item, texts, Names, Reads, behind, Then, IsTold}
use Rattle.witness_reading.proofs.Faults.{IsForm, BeginAlike, text_fault, cell_fault}

abbrev pub AllNames : List Item → Type 0
AllNames [] = Unit {0}
AllNames (z ∷ zs) = Names z × AllNames zs

pub all_names : (xs ys : List Item) → AllNames xs → AllNames ys → AllNames (xs ++ ys)
all_names [] ys a b = b
all_names (x ∷ xs) ys a b = (a.0, all_names xs ys a.1 b)

pub names_at : (xs : List Item) → AllNames xs → (i : ℕ) → i < length xs → Names (get_or xs i no_item)
names_at [] a i l = absurd (omega arith)
names_at (x ∷ xs) a zero l = a.0
names_at (x ∷ xs) a (suc i) l = names_at xs a.1 i (omega arith)

-- the texts begin with t
abbrev pub BeginsWith : List ℕ → List (List ℕ) → Type 0
BeginsWith t [] = ⊥
BeginsWith t (u ∷ us) = t ≡ u

first_alike : (t : List ℕ) (ts rest : List (List ℕ)) → BeginAlike (t ∷ ts) rest → BeginsWith t rest
first_alike t ts [] h = absurd h
first_alike t ts (u ∷ us) h = h

-- behind k lines that are first ones of the form stands none that the form allows there
pub record StopsText (L : List Item → Type 0) (ts : List (List ℕ)) (k : ℕ) : Type 0 where
  pub xs : List Item
  pub many : k ≡ length xs
  pub rest : List (List ℕ)
  pub split : ts ≡ texts xs ++ rest
  pub names : AllNames xs
  pub goes : (zs : List Item) (more : List (List ℕ)) → L zs → texts zs ≡ texts xs ++ more → (ys : List Item) × (zs ≡ xs ++ ys)
  pub filled : List Item
  pub allowed : L (xs ++ filled)
  pub refused : (zs : List Item) (more : List (List ℕ)) → L zs → texts zs ≡ texts xs ++ more → BeginAlike more rest → ⊥

-- or one that names other cells
pub record StopsCell (L : List Item → Type 0) (ts : List (List ℕ)) (k : ℕ) : Type 0 where
  pub xs : List Item
  pub many : k ≡ length xs
  pub line : Item
  pub rest : List (List ℕ)
  pub split : ts ≡ texts xs ++ (line.text ∷ rest)
  pub names : AllNames xs
  pub other : Names line → ⊥
  pub goes : (zs : List Item) (more : List (List ℕ)) → L zs → texts zs ≡ texts xs ++ more → (ys : List Item) × (zs ≡ xs ++ ys)
  pub next : (zs : List Item) (more : List (List ℕ)) → L zs → texts zs ≡ texts xs ++ (line.text ∷ more) → (ys : List Item) × (zs ≡ xs ++ (line ∷ ys))
  pub filled : List Item
  pub allowed : L (xs ++ (line ∷ filled))

-- ---- behind lines that were read

joined : (xs ys : List Item) (more : List (List ℕ)) → texts (xs ++ ys) ++ more ≡ texts xs ++ (texts ys ++ more)
joined xs ys more = ap (λ t. t ++ more) (map-append (λ (z : Item). z.text) xs ys) ∙ append_assoc (texts xs) (texts ys) more

module _ (L : List Item → Type 0) (xs : List Item) (M : List Item → Type 0) (r : Reads L xs M) where
  -- lines of which those behind begin with ys
  goes_behind : (ys : List Item) → ((zs : List Item) (more : List (List ℕ)) → M zs → texts zs ≡ texts ys ++ more → (us : List Item) × (zs ≡ ys ++ us))
      → (zs : List Item) (more : List (List ℕ)) → L zs → texts zs ≡ texts (xs ++ ys) ++ more → (us : List Item) × (zs ≡ (xs ++ ys) ++ us)
  goes_behind ys g zs more l e =
      let f : texts zs ≡ texts xs ++ (texts ys ++ more) = e ∙ joined xs ys more in
      let w = r.goes zs (texts ys ++ more) l f in
      let v = g w.0 more w.2 (behind zs xs w.0 (texts ys ++ more) w.1 f) in
      (v.0, w.1 ∙ ap (λ t. xs ++ t) v.1 ∙ sym (append_assoc xs ys v.0))

  pub text_behind : (ts : List (List ℕ)) (k : ℕ) → AllNames xs → StopsText M ts k → StopsText L (texts xs ++ ts) (length xs + k)
  text_behind ts k n s = record {
    xs = xs ++ s.xs;
    many = ap (λ (i : ℕ). length xs + i) s.many ∙ sym (length-append xs s.xs);
    rest = s.rest;
    split = ap (λ t. texts xs ++ t) s.split ∙ sym (joined xs s.xs s.rest);
    names = all_names xs s.xs n s.names;
    goes = goes_behind s.xs s.goes;
    filled = s.filled;
    allowed = subst L (sym (append_assoc xs s.xs s.filled)) (r.sound (s.xs ++ s.filled) s.allowed);
    refused = λ zs more l e h.
        let f : texts zs ≡ texts xs ++ (texts s.xs ++ more) = e ∙ joined xs s.xs more in
        let w = r.goes zs (texts s.xs ++ more) l f in
        s.refused w.0 more w.2 (behind zs xs w.0 (texts s.xs ++ more) w.1 f) h;
  }

  pub cell_behind : (ts : List (List ℕ)) (k : ℕ) → AllNames xs → StopsCell M ts k → StopsCell L (texts xs ++ ts) (length xs + k)
  cell_behind ts k n s = record {
    xs = xs ++ s.xs;
    many = ap (λ (i : ℕ). length xs + i) s.many ∙ sym (length-append xs s.xs);
    line = s.line;
    rest = s.rest;
    split = ap (λ t. texts xs ++ t) s.split ∙ sym (joined xs s.xs (s.line.text ∷ s.rest));
    names = all_names xs s.xs n s.names;
    other = s.other;
    goes = goes_behind s.xs s.goes;
    next = λ zs more l e.
        let f : texts zs ≡ texts xs ++ (texts s.xs ++ (s.line.text ∷ more)) = e ∙ joined xs s.xs (s.line.text ∷ more) in
        let w = r.goes zs (texts s.xs ++ (s.line.text ∷ more)) l f in
        let v = s.next w.0 more w.2 (behind zs xs w.0 (texts s.xs ++ (s.line.text ∷ more)) w.1 f) in
        (v.0, w.1 ∙ ap (λ t. xs ++ t) v.1 ∙ sym (append_assoc xs s.xs (s.line ∷ v.0)));
    filled = s.filled;
    allowed = subst L (sym (append_assoc xs s.xs (s.line ∷ s.filled))) (r.sound (s.xs ++ (s.line ∷ s.filled)) s.allowed);
  }

-- ---- at the first line

module _ (P : Item → Type 0) (K : Item → List Item → Type 0) where
  none : (ts : List (List ℕ)) → ((z : Item) → P z → BeginsWith z.text ts → ⊥) → (zs : List Item) (more : List (List ℕ)) → Then P K zs → texts zs ≡ more
      → BeginAlike more ts → ⊥
  none ts r [] more l e h = l
  none ts r (z ∷ zs) more l e h = r z l.0 (first_alike z.text (texts zs) ts (subst (λ (t : List (List ℕ)). BeginAlike t ts) (sym e) h))

  pub text_here : (ts : List (List ℕ)) (filled : List Item) → Then P K filled → ((z : Item) → P z → BeginsWith z.text ts → ⊥) → StopsText (Then P K) ts 0
  text_here ts filled a r = record {
    xs = [];
    many = refl;
    rest = ts;
    split = refl;
    names = tt;
    goes = λ zs more l e. (zs, refl);
    filled = filled;
    allowed = a;
    refused = none ts r;
  }

  line_next : (z : Item) → IsTold P → P z → (zs : List Item) (more : List (List ℕ)) → Then P K zs → texts zs ≡ z.text ∷ more → (ys : List Item) × (zs ≡ z ∷ ys)
  line_next z t p [] more l e = absurd l
  line_next z t p (y ∷ ys) more l e = (ys, ap (λ (x : Item). x ∷ ys) (t y z l.0 p (ap (λ x. get_or x 0 []) e)))

  pub cell_here : (z : Item) (rest : List (List ℕ)) (filled : List Item) → IsTold P → P z → K z filled → (Names z → ⊥) → StopsCell (Then P K) (z.text ∷ rest) 0
  cell_here z rest filled t p a o = record {
    xs = [];
    many = refl;
    line = z;
    rest = rest;
    split = refl;
    names = tt;
    other = o;
    goes = λ zs more l e. (zs, refl);
    next = line_next z t p;
    filled = filled;
    allowed = (p, a);
  }

-- no line is allowed
abbrev pub Nothing : List Item → Type 0
Nothing [] = Unit {0}
Nothing (z ∷ zs) = ⊥

over : (t : List ℕ) (ts : List (List ℕ)) (zs : List Item) (more : List (List ℕ)) → Nothing zs → texts zs ≡ more → BeginAlike more (t ∷ ts) → ⊥
over t ts [] more l e h = subst (λ (u : List (List ℕ)). BeginAlike u (t ∷ ts)) (sym e) h
over t ts (z ∷ zs) more l e h = l

pub text_over : (t : List ℕ) (ts : List (List ℕ)) → StopsText Nothing (t ∷ ts) 0
text_over t ts = record {
  xs = [];
  many = refl;
  rest = t ∷ ts;
  split = refl;
  names = tt;
  goes = λ zs more l e. (zs, refl);
  filled = [];
  allowed = tt;
  refused = over t ts;
}

-- ---- faults

module _ {V : Type 0} (F : Format V) (L : List Item → Type 0) (form : IsForm F L) (ts : List (List ℕ)) (k : ℕ) where
  reads : (xs : List Item) → ((zs : List Item) (more : List (List ℕ)) → L zs → texts zs ≡ texts xs ++ more → (ys : List Item) × (zs ≡ xs ++ ys))
      → Reads L xs (λ ys. L (xs ++ ys))
  reads xs g = record { sound = λ ys l. l; goes = λ zs more l e. let w = g zs more l e in (w.0, w.1, subst L w.1 l) }

  pub text_stop : StopsText L ts k → IsTextFault F ts k
  text_stop s = text_fault F L form s.xs (λ ys. L (s.xs ++ ys)) (reads s.xs s.goes) k s.many ts s.rest s.split (names_at s.xs s.names) s.filled s.allowed
      (λ zs l h. s.refused (s.xs ++ zs) (texts zs) l (map-append (λ (z : Item). z.text) s.xs zs) h)

  pub cell_stop : StopsCell L ts k → IsCellFault F ts k
  cell_stop s = cell_fault F L form s.xs (λ ys. L (s.xs ++ ys)) (reads s.xs s.goes) k s.many s.line (λ ys. L (s.xs ++ (s.line ∷ ys)))
      (record {
        sound = λ ys l. l;
        goes = λ zs more l e.
            let w = s.next (s.xs ++ zs) more l (map-append (λ (z : Item). z.text) s.xs zs ∙ ap (λ t. texts s.xs ++ t) e) in
            let q : zs ≡ s.line ∷ w.0 = append_cancel_left s.xs zs (s.line ∷ w.0) w.1 in
            (w.0, q, subst (λ (t : List Item). L (s.xs ++ t)) q l);
      })
      s.filled s.allowed ts s.rest s.split (names_at s.xs s.names) s.other
