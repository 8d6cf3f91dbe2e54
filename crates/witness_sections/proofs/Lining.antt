-- Lines of a list, one after the other.
use Rattle.std.proofs.Common.{◌≡◌, ℕ, zero, suc, ◌+◌, ◌<◌, refl, sym, ap, ◌∙◌, arith, List, [], ◌∷◌, ◌++◌, length, length-append, append_assoc, subst}
use Rattle.witness_laws.specs.declared.law.Law.{Law}
use Rattle.witness_laws.specs.Lines.{Line, each}
use Rattle.witness_sections.specs.Outcomes.{Meet, Fails}

module _ (H : Law → Line → Type 0) where
  pub meet_append : (ks ls : List Line) → Meet H ks → Meet H ls → Meet H (ks ++ ls)
  meet_append [] ls m n = n
  meet_append (k ∷ ks) ls m n = (m.0, meet_append ks ls m.1 n)

  pub meet_front : (ks ls : List Line) → Meet H (ks ++ ls) → Meet H ks
  meet_front [] ls m = tt
  meet_front (k ∷ ks) ls m = (m.0, meet_front ks ls m.1)

  pub meet_back : (ks ls : List Line) → Meet H (ks ++ ls) → Meet H ls
  meet_back [] ls m = m
  meet_back (k ∷ ks) ls m = meet_back ks ls m.1

  pub fails_front : (ks ls : List Line) (n : ℕ) (law : Law) → Fails H ks n law → Fails H (ks ++ ls) n law
  fails_front [] ls n law f = absurd f
  fails_front (k ∷ ks) ls zero law f = f
  fails_front (k ∷ ks) ls (suc n) law f = (f.0, fails_front ks ls n law f.1)

  pub fails_behind : (ks ls : List Line) (n : ℕ) (law : Law) → Meet H ks → Fails H ls n law → Fails H (ks ++ ls) (length ks + n) law
  fails_behind [] ls n law m f = subst (λ (j : ℕ). Fails H ls j law) (let e : n ≡ 0 + n = omega arith in e) f
  fails_behind (k ∷ ks) ls n law m f = later (fails_behind ks ls n law m.1 f)
    where
      later : Fails H (ks ++ ls) (length ks + n) law → Fails H (k ∷ (ks ++ ls)) (suc (length ks) + n) law
      later g = subst (λ (j : ℕ). Fails H (k ∷ (ks ++ ls)) j law) (let e : suc (length ks + n) ≡ suc (length ks) + n = omega arith in e) (m.0, g)

  -- one after the other
  append_nothing : (ls : List Line) → ls ++ [] ≡ ls
  append_nothing [] = refl
  append_nothing (l ∷ ls) = ap (λ (ms : List Line). l ∷ ms) (append_nothing ls)

  each_next : (n : ℕ) (f : ℕ → List Line) → each (suc n) f ≡ each n f ++ f n
  each_next zero f = append_nothing (f 0)
  each_next (suc n) f = ap (λ (ls : List Line). f 0 ++ ls) (each_next n (λ i. f (suc i))) ∙ sym (append_assoc (f 0) (each n (λ i. f (suc i))) (f (suc n)))

  pub each_more : (n : ℕ) (f : ℕ → List Line) → each (n + 1) f ≡ each n f ++ f n
  each_more n f = ap (λ (m : ℕ). each m f) (let e : n + 1 ≡ suc n = omega arith in e) ∙ each_next n f

  pub meet_more : (n : ℕ) (f : ℕ → List Line) → Meet H (each n f) → Meet H (f n) → Meet H (each (n + 1) f)
  meet_more n f m here = subst (λ (ls : List Line). Meet H ls) (sym (each_more n f)) (meet_append (each n f) (f n) m here)

  pub fails_in_each : (n m k : ℕ) (law : Law) (f : ℕ → List Line) → n < m → Meet H (each n f) → Fails H (f n) k law → Fails H (each m f) (length (each n f) + k) law
  fails_in_each n zero k law f l met fails = absurd (omega (arith, l))
  fails_in_each zero (suc m) k law f l met fails = subst (λ (j : ℕ). Fails H (f 0 ++ each m (λ i. f (suc i))) j law) (let e : k ≡ 0 + k = omega arith in e) (fails_front (f 0) (each m (λ i. f (suc i))) k law fails)
  fails_in_each (suc n) (suc m) k law f l met fails =
      let rest = fails_in_each n m k law (λ i. f (suc i)) (omega (arith, l)) (meet_back (f 0) (each n (λ i. f (suc i))) met) fails in
      let whole = fails_behind (f 0) (each m (λ i. f (suc i))) (length (each n (λ i. f (suc i))) + k) law (meet_front (f 0) (each n (λ i. f (suc i))) met) rest in
      subst (λ (j : ℕ). Fails H (f 0 ++ each m (λ i. f (suc i))) j law) (let e = length-append (f 0) (each n (λ i. f (suc i))) in omega (arith, e)) whole

pub length_each : (n : ℕ) (line : ℕ → Line) → length (each n (λ i. line i ∷ [])) ≡ n
length_each zero line = refl
length_each (suc n) line = ap suc (length_each n (λ i. line (suc i)))

pub length_more : (n : ℕ) (f : ℕ → List Line) → length (each (n + 1) f) ≡ length (each n f) + length (f n)
length_more n f = ap length (each_more (λ law line. Unit {0}) n f) ∙ length-append (each n f) (f n)
