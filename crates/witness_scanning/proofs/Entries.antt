-- How the entries of a row are read.
use Rattle.std.proofs.Common.{◌≡◌, ℕ, suc, ◌+◌, ◌-◌, ◌^◌, ◌<◌, ◌≤◌, refl, sym, ap, ◌∙◌, arith, List, [], ◌∷◌, ◌++◌, length, drop, append_assoc, subst}
use Rattle.std.proofs.lemmas.List.{length-append}
use Rattle.std.specs.Prelude.{codes}
use Rattle.witness_laws.specs.Lines.{numeral, numbers_text}
use Rattle.witness_scanning.specs.Numbers.{NoDigit, HasMarked, HasNoMarked, value_of, clipped}
use Rattle.witness_scanning.specs.Terms.{HasEntry, HasNoEntry, AreBelow, HasEntries, HasNoEntries}
use Rattle.witness_scanning.proofs.Progress.{HasReadEntries}
use Rattle.witness_scanning.proofs.Digits.{numeral_split, value_of_numeral}

pub no_entry : (p : ℕ) (bs : List ℕ) → HasNoMarked 32 bs → HasNoEntry p bs
no_entry p bs h n rest a d e = h n rest d e

pub entry_above : (p : ℕ) (bs ds rest : List ℕ) (v : ℕ) → HasMarked 32 bs ds rest → v ≡ clipped (value_of ds) → p < 2 ^ 16 → p ≤ v → HasNoEntry p bs
entry_above p bs ds rest v h e s k n u a d q =
    let x : value_of ds ≡ h.number = ap value_of h.written ∙ value_of_numeral h.number in
    let y : ds ++ rest ≡ numeral n ++ u = ap (drop 1) (sym h.split ∙ q) in
    let w = (numeral_split h.number n rest u h.ends d (ap (λ l. l ++ rest) (sym h.written) ∙ y)).0 in
    omega arith

pub has_entry : (p : ℕ) (bs ds rest : List ℕ) (v : ℕ) → HasMarked 32 bs ds rest → v ≡ clipped (value_of ds) → p < 2 ^ 16 → v < p → HasEntry p bs v rest
has_entry p bs ds rest v h e s k =
    let x : value_of ds ≡ h.number = ap value_of h.written ∙ value_of_numeral h.number in
    let y : h.number ≡ v = omega arith in
    record { below = k; split = h.split ∙ ap (λ l. 32 ∷ (l ++ rest)) (h.written ∙ ap numeral y); ends = h.ends }

entry_row : (n : ℕ) (t u : List ℕ) → ((codes " " ++ numeral n) ++ t) ++ u ≡ 32 ∷ (numeral n ++ (t ++ u))
entry_row n t u = append_assoc (codes " " ++ numeral n) t u

pub numbers_push : (es : List ℕ) (n : ℕ) (u : List ℕ) → numbers_text (es ++ n ∷ []) ++ u ≡ numbers_text es ++ (32 ∷ (numeral n ++ u))
numbers_push [] n u = entry_row n [] u
numbers_push (e ∷ es) n u =
    entry_row e (numbers_text (es ++ n ∷ [])) u ∙ ap (λ l. 32 ∷ (numeral e ++ l)) (numbers_push es n u) ∙ sym (entry_row e (numbers_text es) (32 ∷ (numeral n ++ u)))

below_push : (p : ℕ) (es : List ℕ) (n : ℕ) → AreBelow p es → n < p → AreBelow p (es ++ n ∷ [])
below_push p [] n h b = (b, tt)
below_push p (e ∷ es) n h b = (h.0, below_push p es n h.1 b)

numbers_stop : (es : List ℕ) (u : List ℕ) → NoDigit (numbers_text es ++ 10 ∷ u)
numbers_stop [] u = refl
numbers_stop (e ∷ es) u = refl

pub none_read : (p width : ℕ) (bs : List ℕ) → HasReadEntries p width bs [] bs
none_read p width bs =
    let z : width ≡ width - 0 = omega arith in
    record { short = omega arith; below = tt; split = refl; onward = λ es u h. (es, subst (λ (k : ℕ). HasEntries p k bs es u) z h) }

next_entries : (p k : ℕ) (rest : List ℕ) (n : ℕ) (behind es u : List ℕ) → HasEntry p rest n behind → HasEntries p (suc k) rest es u → (more : List ℕ) × HasEntries p k behind more u
next_entries p k rest n behind [] u h q = absurd (let m = q.many in omega arith)
next_entries p k rest n behind (e ∷ es) u h q =
    let x : rest ≡ 32 ∷ (numeral e ++ (numbers_text es ++ 10 ∷ u)) = q.split ∙ entry_row e (numbers_text es) (10 ∷ u) in
    let w = numeral_split n e behind (numbers_text es ++ 10 ∷ u) h.ends (numbers_stop es u) (ap (drop 1) (sym h.split ∙ x)) in
    (es, record { many = let m = q.many in omega arith; below = q.below.1; split = w.1 })

pub entries_more : (p width : ℕ) (bs es more rest : List ℕ) (n : ℕ) (behind : List ℕ) → length es < width → HasReadEntries p width bs es rest → HasEntry p rest n behind
    → more ≡ es ++ n ∷ [] → HasReadEntries p width bs more behind
entries_more p width bs es more rest n behind l r h m =
    let c : length more ≡ length es + 1 = ap length m ∙ length-append es (n ∷ []) in
    let k : ℕ = width - length more in
    let s : width - length es ≡ suc k = omega arith in
    record {
      short = omega arith;
      below = subst (AreBelow p) (sym m) (below_push p es n r.below h.below);
      split = r.split ∙ ap (λ l. numbers_text es ++ l) h.split ∙ sym (numbers_push es n behind) ∙ ap (λ l. numbers_text l ++ behind) (sym m);
      onward = λ fs u q. let w = r.onward fs u q in next_entries p k rest n behind w.0 u h (subst (λ (j : ℕ). HasEntries p j rest w.0 u) s w.1);
    }

entries_stop_by : (p k : ℕ) (rest es u : List ℕ) → 0 < k → HasNoEntry p rest → HasEntries p k rest es u → ⊥
entries_stop_by p k rest [] u l h q = let m = q.many in omega arith
entries_stop_by p k rest (e ∷ es) u l h q = h e (numbers_text es ++ 10 ∷ u) q.below.0 (numbers_stop es u) (q.split ∙ entry_row e (numbers_text es) (10 ∷ u))

pub entries_stop : (p width : ℕ) (bs es rest : List ℕ) → length es < width → HasReadEntries p width bs es rest → HasNoEntry p rest → HasNoEntries p width bs
entries_stop p width bs es rest l r h fs u q =
    let w = r.onward fs u q in
    entries_stop_by p (width - length es) rest w.0 u (omega arith) h w.1

pub entries_whole : (p width : ℕ) (bs es rest behind : List ℕ) → width ≤ length es → HasReadEntries p width bs es rest → rest ≡ codes "\n" ++ behind → HasEntries p width bs es behind
entries_whole p width bs es rest behind l r e =
    record { many = let s = r.short in omega arith; below = r.below; split = r.split ∙ ap (λ l. numbers_text es ++ l) e }

entries_over_by : (p : ℕ) (rest es u : List ℕ) (k : ℕ) → k ≡ 0 → ((w : List ℕ) → rest ≡ codes "\n" ++ w → ⊥) → HasEntries p k rest es u → ⊥
entries_over_by p rest [] u k z f q = f u q.split
entries_over_by p rest (e ∷ es) u k z f q = let m = q.many in omega arith

pub entries_over : (p width : ℕ) (bs es rest : List ℕ) → width ≤ length es → HasReadEntries p width bs es rest → ((w : List ℕ) → rest ≡ codes "\n" ++ w → ⊥) → HasNoEntries p width bs
entries_over p width bs es rest l r f fs u q =
    let w = r.onward fs u q in
    entries_over_by p rest w.0 u (width - length es) (omega arith) f w.1
