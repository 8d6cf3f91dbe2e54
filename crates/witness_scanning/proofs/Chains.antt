-- How terms and chains are read.
use Rattle.std.proofs.Common.{◌≡◌, ℕ, ◌+◌, ◌^◌, ◌<◌, ◌≤◌, refl, sym, ap, ◌∙◌, arith, List, [], ◌∷◌, ◌++◌, length, get_or, drop, append_assoc, subst}
use Rattle.std.proofs.lemmas.List.{map-append, length-append}
use Rattle.std.specs.Prelude.{codes}
use Rattle.witness_laws.specs.Lines.{numeral, chain_text}
use Rattle.witness_laws.specs.Parts.{AreTerms}
use Rattle.witness_scanning.specs.Numbers.{NoDigit, HasMarked, HasNoMarked, value_of, clipped, IsLast}
use Rattle.witness_scanning.specs.Terms.{clipped_terms, HasTerm, HasNoTerm, HasNext, HasNoNext, ReadsFrom, HasChain, HasNoChain}
use Rattle.witness_scanning.proofs.Progress.{AreWithin, HasRead}
use Rattle.witness_scanning.proofs.Digits.{numeral_split, value_of_numeral, some_digits}

-- ---- a term

pub no_coefficient : (p : ℕ) (bs : List ℕ) → HasNoMarked 32 bs → HasNoTerm p bs
no_coefficient p bs h c n rest a b d e = h c (42 ∷ (numeral n ++ rest)) refl e

-- behind a coefficient that is there
coefficient_is : (bs ds behind : List ℕ) (c : ℕ) (u : List ℕ) (h : HasMarked 32 bs ds behind) → bs ≡ 32 ∷ (numeral c ++ (42 ∷ u)) → (h.number ≡ c) × (behind ≡ 42 ∷ u)
coefficient_is bs ds behind c u h e =
    numeral_split h.number c behind (42 ∷ u) h.ends refl (ap (λ l. l ++ behind) (sym h.written) ∙ ap (drop 1) (sym h.split ∙ e))

pub no_star : (p : ℕ) (bs ds behind : List ℕ) → HasMarked 32 bs ds behind → HasNoMarked 42 behind → HasNoTerm p bs
no_star p bs ds behind h k c n rest a b d e = k n rest d (coefficient_is bs ds behind c (numeral n ++ rest) h e).1

pub no_coefficient_here : (p : ℕ) (bs ds behind : List ℕ) (v : ℕ) → HasMarked 32 bs ds behind → v ≡ clipped (value_of ds) → p < 2 ^ 16 → ((0 < v) → (v < p) → ⊥) → HasNoTerm p bs
no_coefficient_here p bs ds behind v h e s k c n rest a b d q =
    let w = (coefficient_is bs ds behind c (numeral n ++ rest) h q).0 in
    let x : value_of ds ≡ h.number = ap value_of h.written ∙ value_of_numeral h.number in
    k (omega arith) (omega arith)

pub has_term : (p : ℕ) (bs ds behind digits rest : List ℕ) (v : ℕ) → HasMarked 32 bs ds behind → HasMarked 42 behind digits rest → v ≡ clipped (value_of ds) → p < 2 ^ 16 → 0 < v → v < p
    → HasTerm p bs v digits rest
has_term p bs ds behind digits rest v h k e s a b =
    let x : value_of ds ≡ h.number = ap value_of h.written ∙ value_of_numeral h.number in
    let y : h.number ≡ v = omega arith in
    record {
      number = k.number;
      written = k.written;
      some = a;
      below = b;
      split = h.split ∙ ap (λ l. 32 ∷ (l ++ behind)) (h.written ∙ ap numeral y) ∙ ap (λ l. 32 ∷ (numeral v ++ l)) k.split;
      ends = k.ends;
    }

-- two terms at one place
term_is : (p : ℕ) (bs : List ℕ) (v : ℕ) (digits rest : List ℕ) (h : HasTerm p bs v digits rest) (c n : ℕ) (u : List ℕ) → NoDigit u → bs ≡ 32 ∷ (numeral c ++ (42 ∷ (numeral n ++ u)))
    → (v ≡ c) × (h.number ≡ n) × (rest ≡ u)
term_is p bs v digits rest h c n u d e =
    let x : 32 ∷ (numeral v ++ (42 ∷ (digits ++ rest))) ≡ 32 ∷ (numeral c ++ (42 ∷ (numeral n ++ u))) = sym h.split ∙ e in
    let a = numeral_split v c (42 ∷ (digits ++ rest)) (42 ∷ (numeral n ++ u)) refl refl (ap (drop 1) x) in
    let b = numeral_split h.number n rest u h.ends d (ap (λ l. l ++ rest) (sym h.written) ∙ ap (drop 1) a.1) in
    (a.0, b.0, b.1)

-- ---- the next term

pub no_term : (p : ℕ) (last bs : List ℕ) → HasNoTerm p bs → HasNoNext p last bs
no_term p last bs h low c n rest l q a b d e = h c n rest a b d e

pub not_above : (p : ℕ) (last bs : List ℕ) (v : ℕ) (digits rest : List ℕ) (h : HasTerm p bs v digits rest) → ((low : ℕ) → IsLast last low → low ≤ h.number → ⊥) → HasNoNext p last bs
not_above p last bs v digits rest h f low c n u l q a b d e =
    let w = term_is p bs v digits rest h c n u d e in
    f low l (subst (λ (k : ℕ). low ≤ k) (sym w.1) q)

-- ---- a chain

-- the text of a term, and what stands behind it
abbrev term_text : ℕ × ℕ → List ℕ → List ℕ
term_text t u = 32 ∷ (numeral t.1 ++ (42 ∷ (numeral t.0 ++ u)))

pub term_row : (t : ℕ × ℕ) (u v : List ℕ) → ((((codes " " ++ numeral t.1) ++ codes "*") ++ numeral t.0) ++ u) ++ v ≡ term_text t (u ++ v)
term_row t u v =
    append_assoc (((codes " " ++ numeral t.1) ++ codes "*") ++ numeral t.0) u v
    ∙ append_assoc ((codes " " ++ numeral t.1) ++ codes "*") (numeral t.0) (u ++ v)
    ∙ append_assoc (codes " " ++ numeral t.1) (codes "*") (numeral t.0 ++ (u ++ v))

chain_push : (ts : List (ℕ × ℕ)) (t : ℕ × ℕ) (u : List ℕ) → chain_text (ts ++ t ∷ []) ++ u ≡ chain_text ts ++ term_text t u
chain_push [] t u = term_row t [] u
chain_push (s ∷ ts) t u =
    term_row s (chain_text (ts ++ t ∷ [])) u ∙ ap (term_text s) (chain_push ts t u) ∙ sym (term_row s (chain_text ts) (term_text t u))

within_push : (p low high : ℕ) (ts : List (ℕ × ℕ)) (t : ℕ × ℕ) → AreWithin p low high ts → high ≤ t.0 → 0 < t.1 → t.1 < p → AreWithin p low (t.0 + 1) (ts ++ t ∷ [])
within_push p low high [] t h a b c = (omega arith, b, c, omega arith)
within_push p low high (s ∷ ts) t h a b c = (h.0, h.1, h.2, within_push p (s.0 + 1) high ts t h.3 a b c)

are_terms : (p low high : ℕ) (ts : List (ℕ × ℕ)) → AreWithin p low high ts → AreTerms p low ts
are_terms p low high [] h = tt
are_terms p low high (t ∷ ts) h = (h.0, h.1, h.2, are_terms p (t.0 + 1) high ts h.3)

pub read_none : (p : ℕ) (bs : List ℕ) → HasRead p bs [] [] bs
read_none p bs = record { low = 0; last_is = refl; terms = []; are = omega arith; split = refl; kept_is = refl; onward = λ r. r }

last_from : (ds : List ℕ) (n : ℕ) → ds ≡ numeral n → IsLast ds (n + 1)
last_from [] n e = absurd (let q = some_digits n in let l = ap length e in omega arith)
last_from (d ∷ ds) n e = (n, e, refl)

stops : (ts : List (ℕ × ℕ)) (u : List ℕ) → NoDigit (chain_text ts ++ 10 ∷ u)
stops [] u = refl
stops (t ∷ ts) u = refl

onward_by : (p low : ℕ) (last bs : List ℕ) (v : ℕ) (digits rest : List ℕ) (h : HasNext p last bs v digits rest) (ts : List (ℕ × ℕ)) (u : List ℕ) → AreTerms p low ts → bs ≡ chain_text ts ++ 10 ∷ u
    → ReadsFrom p (h.term.number + 1) rest
onward_by p low last bs v digits rest h [] u a e = absurd (let q : 32 ≡ 10 = ap (λ l. get_or l 0 0) (sym h.term.split ∙ e) in omega arith)
onward_by p low last bs v digits rest h (t ∷ ts) u a e =
    let x : bs ≡ term_text t (chain_text ts ++ 10 ∷ u) = e ∙ term_row t (chain_text ts) (10 ∷ u) in
    let w = term_is p bs v digits rest h.term t.1 t.0 (chain_text ts ++ 10 ∷ u) (stops ts u) x in
    record { terms = ts; rest = u; are = subst (λ (k : ℕ). AreTerms p (k + 1) ts) (sym w.1) a.3; split = w.2 }

-- what is left behind a term
onward_from : (p low : ℕ) (last bs : List ℕ) (v : ℕ) (digits rest : List ℕ) (h : HasNext p last bs v digits rest) → ReadsFrom p low bs → ReadsFrom p (h.term.number + 1) rest
onward_from p low last bs v digits rest h r = onward_by p low last bs v digits rest h r.terms r.rest r.are r.split

pub read_more : (p : ℕ) (bs : List ℕ) (kept more : List (ℕ × ℕ)) (last rest : List ℕ) (v k : ℕ) (digits behind : List ℕ) → HasRead p bs kept last rest → HasNext p last rest v digits behind
    → k ≡ clipped (value_of digits) → more ≡ kept ++ (k, v) ∷ [] → HasRead p bs more digits behind
read_more p bs kept more last rest v k digits behind r h e m =
    let n : ℕ = h.term.number in
    let t : ℕ × ℕ = (n, v) in
    let x : k ≡ clipped n = e ∙ ap (λ l. clipped (value_of l)) h.term.written ∙ ap clipped (value_of_numeral n) in
    record {
      low = n + 1;
      last_is = last_from digits n h.term.written;
      terms = r.terms ++ t ∷ [];
      are = within_push p 0 r.low r.terms t r.are (h.above r.low r.last_is) h.term.some h.term.below;
      split = r.split ∙ ap (λ l. chain_text r.terms ++ l) (h.term.split ∙ ap (λ l. 32 ∷ (numeral v ++ (42 ∷ (l ++ behind)))) h.term.written) ∙ sym (chain_push r.terms t behind);
      kept_is = m ∙ ap (λ l. l ++ (k, v) ∷ []) r.kept_is ∙ ap (λ (j : ℕ). clipped_terms r.terms ++ (j, v) ∷ []) x ∙ sym (map-append (λ t. (clipped t.0, t.1)) r.terms (t ∷ []));
      onward = λ q. onward_from p r.low last rest v digits behind h (r.onward q);
    }

pub read_smaller : (p : ℕ) (last bs : List ℕ) (v : ℕ) (digits rest : List ℕ) → HasNext p last bs v digits rest → length rest < length bs
read_smaller p last bs v digits rest h =
    let e = ap length h.term.split in
    let a = length-append (numeral v) (42 ∷ (digits ++ rest)) in
    let b = length-append digits rest in omega arith

pub read_whole : (p : ℕ) (bs : List ℕ) (kept : List (ℕ × ℕ)) (last rest behind : List ℕ) → HasRead p bs kept last rest → rest ≡ codes "\n" ++ behind → HasChain p bs kept behind
read_whole p bs kept last rest behind r e = record { terms = r.terms; are = are_terms p 0 r.low r.terms r.are; split = r.split ∙ ap (λ l. chain_text r.terms ++ l) e; kept_is = r.kept_is }

no_chain_by : (p low : ℕ) (last rest : List ℕ) (ts : List (ℕ × ℕ)) (u : List ℕ) → IsLast last low → HasNoNext p last rest → ((w : List ℕ) → rest ≡ codes "\n" ++ w → ⊥) → AreTerms p low ts
    → rest ≡ chain_text ts ++ 10 ∷ u → ⊥
no_chain_by p low last rest [] u l h f a e = f u e
no_chain_by p low last rest (t ∷ ts) u l h f a e = h low t.1 t.0 (chain_text ts ++ 10 ∷ u) l a.0 a.1 a.2 (stops ts u) (e ∙ term_row t (chain_text ts) (10 ∷ u))

pub no_chain : (p : ℕ) (bs : List ℕ) (kept : List (ℕ × ℕ)) (last rest : List ℕ) → HasRead p bs kept last rest → HasNoNext p last rest → ((w : List ℕ) → rest ≡ codes "\n" ++ w → ⊥) → HasNoChain p bs
no_chain p bs kept last rest r h f q =
    let w = r.onward q in
    no_chain_by p r.low last rest w.terms w.rest r.last_is h f w.are w.split
