-- Generators counted by their degree.
use Rattle.std.proofs.Common.{◌≡◌, ◌≢◌, ◌≤◌, ◌<◌, ◌==◌, ℕ, ◌+◌, List, length, take, get_or, set, replicate, sym, ap, ◌∙◌, arith, ⊎_elim, eq-eqb, ne_eqb}
use Rattle.std.proofs.lemmas.List.{length-replicate, get_or-replicate, length-set, get_or-set_same, get_or-set_other, get_or_default, take_all}
use Rattle.std.proofs.lemmas.List.Sums.{count_by_more_yes, count_by_more_no}
use Rattle.std.proofs.lemmas.Bool.{cases_eq}
use Rattle.chain_files.specs.Complexes.{count_in}
use Rattle.chain_files.specs.Making.{AreCounts}

pub record Counts (degrees : List ℕ) (place top : ℕ) (counts : List ℕ) : Type 0 where
  pub long : length counts ≡ top + 1
  pub each : (k : ℕ) → k < length counts → get_or counts k 0 ≡ count_in (take place degrees) k
  pub few : (k : ℕ) → k < length counts → get_or counts k 0 ≤ place

pub count_yes : (degrees : List ℕ) (i k : ℕ) → i < length degrees → get_or degrees i 0 ≡ k → count_in (take (i + 1) degrees) k ≡ count_in (take i degrees) k + 1
count_yes degrees i k lt e = count_by_more_yes (λ d. d == k) degrees i 0 lt (eq-eqb (get_or degrees i 0) k e)

pub count_no : (degrees : List ℕ) (i k : ℕ) → i < length degrees → get_or degrees i 0 ≢ k → count_in (take (i + 1) degrees) k ≡ count_in (take i degrees) k
count_no degrees i k lt n = count_by_more_no (λ d. d == k) degrees i 0 lt (ne_eqb (get_or degrees i 0) k n)

none_counted : (top : ℕ) (counts : List ℕ) → counts ≡ replicate (top + 1) 0 → (k : ℕ) → k < length counts → get_or counts k 0 ≡ 0
none_counted top counts e k lt = ap (λ l. get_or l k 0) e ∙ get_or-replicate (top + 1) k 0 0 (omega (arith, ap length e, length-replicate {A = ℕ} (top + 1) 0))

pub no_counts : (degrees : List ℕ) (top : ℕ) (counts : List ℕ) → counts ≡ replicate (top + 1) 0 → Counts degrees 0 top counts
no_counts degrees top counts e = record {
  long = ap length e ∙ length-replicate {A = ℕ} (top + 1) 0;
  each = λ k lt. none_counted top counts e k lt;
  few = λ k lt. let z = none_counted top counts e k lt in omega (arith, z);
}

module _ (degrees : List ℕ) (place top : ℕ) (counts : List ℕ) (h : Counts degrees place top counts) (lt : place < length degrees) (d : ℕ) (e : get_or degrees place 0 ≡ d) where
  counted_more : d < length counts → Counts degrees (place + 1) top (set counts d (get_or counts d 0 + 1))
  counted_more l = record {
    long = length-set counts d (get_or counts d 0 + 1) ∙ h.long;
    each = λ k m.
        let m' : k < length counts = omega (arith, m, length-set counts d (get_or counts d 0 + 1)) in
        ⊎_elim
        (λ (q : k ≡ d). rw q (get_or-set_same counts d (get_or counts d 0 + 1) 0 l ∙ ap (λ n. n + 1) (h.each d l) ∙ sym (count_yes degrees place d lt e)))
        (λ n. get_or-set_other counts d k (get_or counts d 0 + 1) 0 n ∙ h.each k m' ∙ sym (count_no degrees place k lt (λ q. n (sym q ∙ e))))
        (cases_eq k d);
    few = λ k m.
        let m' : k < length counts = omega (arith, m, length-set counts d (get_or counts d 0 + 1)) in
        ⊎_elim
        (λ (q : k ≡ d). rw q (let s = get_or-set_same counts d (get_or counts d 0 + 1) 0 l in omega (arith, s, h.few d l)))
        (λ n. let s = get_or-set_other counts d k (get_or counts d 0 + 1) 0 n in omega (arith, s, h.few k m'))
        (cases_eq k d);
  }

  pub counts_more : (v : ℕ) → v ≡ get_or counts d v → d < length counts → Counts degrees (place + 1) top (set counts d (v + 1))
  counts_more v q l = rw (q ∙ get_or_default counts d v 0 l) (counted_more l)

  pub counts_skip : length counts ≤ d → Counts degrees (place + 1) top counts
  counts_skip l = record {
    long = h.long;
    each = λ k m. h.each k m ∙ sym (count_no degrees place k lt (λ q. let q' = sym q ∙ e in omega (arith, q', l, m)));
    few = λ k m. omega (arith, h.few k m);
  }

pub counts_end : (degrees : List ℕ) (place top : ℕ) (counts : List ℕ) → Counts degrees place top counts → length degrees ≤ place → AreCounts degrees top counts
counts_end degrees place top counts h le = record {
  long = h.long;
  each = λ k m. h.each k m ∙ ap (λ l. count_in l k) (take_all place degrees le);
}
