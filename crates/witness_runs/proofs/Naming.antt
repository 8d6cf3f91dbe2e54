-- Terms that name cells of a kind, and chains of them.
use Rattle.std.proofs.Common.{◌≡◌, ℕ, zero, suc, ◌+◌, ◌-◌, ◌%◌, ◌^◌, ◌<◌, ◌≤◌, refl, sym, ap, ◌∙◌, arith, List, [], ◌∷◌, ◌++◌, length, get_or, take, subst}
use Rattle.std.proofs.lemmas.List.{take_more}
use Rattle.std.proofs.Math.Nat.{mod-eq_of_lt}
use Rattle.chains.specs.Terms.{coefficient, IsNormal, IsNormalWithin}
use Rattle.chains.proofs.TermLists.{one_list, coefficient-lt}
use Rattle.std.specs.Prelude.{codes}
use Rattle.witness_laws.specs.Lines.{numbers_line}
use Rattle.witness_laws.specs.Parts.{AreTerms}
use Rattle.witness_scanning.specs.Numbers.{clipped}
use Rattle.witness_scanning.specs.Terms.{clipped_terms}
use Rattle.witness_scanning.specs.Lines.{HasChainLine, HasCycleLine, HasVertexLine}
use Rattle.witness_runs.specs.Kinds.{IsOfKind, NamesKind}
use Rattle.witness_runs.specs.Due.{IsDueChain, IsOtherChain, MissesChain, MissesKind, IsDueCycle, MissesCycle, IsDueVertex, IsOtherVertex}
use Rattle.witness_runs.specs.declared.miss.Miss.{Miss}
use Rattle.witness_runs.specs.declared.miss.Miss.TheVariants as misses

names_push : (kinds : List ℕ) (wanted : ℕ) (ts : List (ℕ × ℕ)) (t : ℕ × ℕ) → NamesKind kinds wanted ts → IsOfKind kinds wanted t.0 → NamesKind kinds wanted (ts ++ t ∷ [])
names_push kinds wanted [] t h k = (k, tt)
names_push kinds wanted (s ∷ ts) t h k = (h.0, names_push kinds wanted ts t h.1 k)

pub names_more : (kinds : List ℕ) (wanted : ℕ) (ts : List (ℕ × ℕ)) (i : ℕ) (d : ℕ × ℕ) → i < length ts → NamesKind kinds wanted (take i ts) → IsOfKind kinds wanted (get_or ts i d).0
    → NamesKind kinds wanted (take (i + 1) ts)
names_more kinds wanted ts i d l h k =
    subst (NamesKind kinds wanted) (sym (take_more ts i d l)) (names_push kinds wanted (take i ts) (get_or ts i d) h k)

pub names_get : (kinds : List ℕ) (wanted : ℕ) (ts : List (ℕ × ℕ)) (i : ℕ) (d : ℕ × ℕ) → i < length ts → NamesKind kinds wanted ts → IsOfKind kinds wanted (get_or ts i d).0
names_get kinds wanted [] i d l h = absurd (omega arith)
names_get kinds wanted (t ∷ ts) zero d l h = h.0
names_get kinds wanted (t ∷ ts) (suc i) d l h = names_get kinds wanted ts i d (omega arith) h.1

-- ---- what is kept

kept_names : (kinds : List ℕ) (wanted : ℕ) (ts : List (ℕ × ℕ)) → length kinds < 2 ^ 32 - 1 → NamesKind kinds wanted (clipped_terms ts) → clipped_terms ts ≡ ts
kept_names kinds wanted [] s h = refl
kept_names kinds wanted (t ∷ ts) s h =
    let k : clipped t.0 ≤ length kinds = h.0.1 in
    let e : clipped t.0 ≡ t.0 = omega arith in
    ap (λ (n : ℕ). (n, t.1) ∷ clipped_terms ts) e ∙ ap (λ (l : List (ℕ × ℕ)). t ∷ l) (kept_names kinds wanted ts s h.1)

named_kept : (kinds : List ℕ) (wanted : ℕ) (ts : List (ℕ × ℕ)) → length kinds < 2 ^ 32 - 1 → NamesKind kinds wanted ts → clipped_terms ts ≡ ts
named_kept kinds wanted [] s h = refl
named_kept kinds wanted (t ∷ ts) s h =
    let k : t.0 ≤ length kinds = h.0.1 in
    let e : clipped t.0 ≡ t.0 = omega arith in
    ap (λ (n : ℕ). (n, t.1) ∷ clipped_terms ts) e ∙ ap (λ (l : List (ℕ × ℕ)). t ∷ l) (named_kept kinds wanted ts s h.1)

normal_from : (p low : ℕ) (kinds : List ℕ) (wanted : ℕ) (ts : List (ℕ × ℕ)) → length kinds < 2 ^ 32 - 1 → low ≤ length kinds + 1 → NamesKind kinds wanted ts → AreTerms p low ts
    → IsNormalWithin p low (2 ^ 32) ts
normal_from p low kinds wanted [] s l h a = omega arith
normal_from p low kinds wanted (t ∷ ts) s l h a =
    let k : t.0 ≤ length kinds = h.0.1 in
    (a.0, a.1, a.2, normal_from p (t.0 + 1) kinds wanted ts s (omega arith) h.1 a.3)

chain_is : (p : ℕ) (c ts : List (ℕ × ℕ)) → 0 < p → IsNormal p c → IsNormal p ts → ((g : ℕ) → coefficient c g ≡ coefficient ts g % p) → c ≡ ts
chain_is p c ts s n m h = one_list p 0 (2 ^ 32) c ts n m (λ g. h g ∙ mod-eq_of_lt (coefficient-lt p 0 (2 ^ 32) ts g s m))

pub due_from : (p : ℕ) (word ns kinds : List ℕ) (wanted : ℕ) (bytes : List ℕ) (kept c : List (ℕ × ℕ)) (rest : List ℕ) → 0 < p → length kinds < 2 ^ 32 - 1 → HasChainLine word ns p bytes kept rest
    → NamesKind kinds wanted kept → IsNormal p c → ((g : ℕ) → coefficient c g ≡ coefficient kept g % p) → IsDueChain p word ns kinds wanted bytes c rest
due_from p word ns kinds wanted bytes kept c rest pos s h k n q =
    let a : NamesKind kinds wanted (clipped_terms h.terms) = subst (NamesKind kinds wanted) h.kept_is k in
    let e : kept ≡ h.terms = h.kept_is ∙ kept_names kinds wanted h.terms s a in
    let b : NamesKind kinds wanted h.terms = subst (NamesKind kinds wanted) e k in
    let m : IsNormal p h.terms = normal_from p 0 kinds wanted h.terms s (omega arith) b h.are in
    let r : c ≡ h.terms = chain_is p c h.terms pos n m (λ g. q g ∙ ap (λ (l : List (ℕ × ℕ)). coefficient l g % p) e) in
    subst (λ (l : List (ℕ × ℕ)). IsDueChain p word ns kinds wanted bytes l rest) (sym r) (record { are = h.are; split = h.split; names = b })

pub other_from : (p : ℕ) (word ns kinds : List ℕ) (wanted : ℕ) (bytes : List ℕ) (kept : List (ℕ × ℕ)) (rest : List ℕ) → length kinds < 2 ^ 32 - 1 → HasChainLine word ns p bytes kept rest
    → (NamesKind kinds wanted kept → ⊥) → IsOtherChain p word ns kinds wanted bytes
other_from p word ns kinds wanted bytes kept rest s h f = record {
  terms = h.terms;
  rest = rest;
  are = h.are;
  split = h.split;
  other = λ k. f (subst (NamesKind kinds wanted) (sym (h.kept_is ∙ named_kept kinds wanted h.terms s k)) k);
}

pub miss_from : (p : ℕ) (word ns kinds : List ℕ) (wanted : ℕ) (bytes : List ℕ) (kept : List (ℕ × ℕ)) (rest : List ℕ) (miss : Miss) → length kinds < 2 ^ 32 - 1 → HasChainLine word ns p bytes kept rest
    → MissesKind kinds wanted kept miss → MissesChain p word ns kinds wanted bytes miss
miss_from p word ns kinds wanted bytes kept rest misses.Text s h f = absurd f
miss_from p word ns kinds wanted bytes kept rest misses.Cell s h f = other_from p word ns kinds wanted bytes kept rest s h f
miss_from p word ns kinds wanted bytes kept rest misses.NoMemory s h f = tt

-- ---- cycles and vertices

pub due_cycle_from : (p low top : ℕ) (kinds bytes : List ℕ) (k : ℕ) (kept c : List (ℕ × ℕ)) (rest : List ℕ) → 0 < p → length kinds < 2 ^ 32 - 1 → HasCycleLine low top p bytes k kept rest
    → NamesKind kinds (k + 1) kept → IsNormal p c → ((g : ℕ) → coefficient c g ≡ coefficient kept g % p) → IsDueCycle p low top kinds bytes k c rest
due_cycle_from p low top kinds bytes k kept c rest pos s h a n q =
    record { above = h.above; below = h.below; due = due_from p (codes "z") (k ∷ []) kinds (k + 1) bytes kept c rest pos s h.line a n q }

pub miss_cycle_from : (p low top : ℕ) (kinds bytes : List ℕ) (k : ℕ) (kept : List (ℕ × ℕ)) (rest : List ℕ) (miss : Miss) → length kinds < 2 ^ 32 - 1 → HasCycleLine low top p bytes k kept rest
    → MissesKind kinds (k + 1) kept miss → MissesCycle p low top kinds bytes miss
miss_cycle_from p low top kinds bytes k kept rest misses.Text s h f = absurd f
miss_cycle_from p low top kinds bytes k kept rest misses.Cell s h f =
    record { degree = k; above = h.above; below = h.below; other = other_from p (codes "z") (k ∷ []) kinds (k + 1) bytes kept rest s h.line f }
miss_cycle_from p low top kinds bytes k kept rest misses.NoMemory s h f = tt

pub due_vertex_from : (i : ℕ) (kinds : List ℕ) (wanted : ℕ) (bytes : List ℕ) (v : ℕ) (rest : List ℕ) → length kinds < 2 ^ 32 - 1 → HasVertexLine i bytes v rest → IsOfKind kinds wanted v
    → IsDueVertex i kinds wanted bytes v rest
due_vertex_from i kinds wanted bytes v rest s h k =
    let a = h.kept_is in
    let b : v ≤ length kinds = k.1 in
    let e : h.vertex ≡ v = omega arith in
    record { split = h.split ∙ ap (λ (j : ℕ). numbers_line (codes "v") (i ∷ j ∷ []) ++ rest) e; names = k }

pub other_vertex_from : (i : ℕ) (kinds : List ℕ) (wanted : ℕ) (bytes : List ℕ) (v : ℕ) (rest : List ℕ) → length kinds < 2 ^ 32 - 1 → HasVertexLine i bytes v rest → (IsOfKind kinds wanted v → ⊥)
    → IsOtherVertex i kinds wanted bytes
other_vertex_from i kinds wanted bytes v rest s h f = record {
  vertex = h.vertex;
  rest = rest;
  split = h.split;
  other = λ k. let a = h.kept_is in let b : h.vertex ≤ length kinds = k.1 in let e : h.vertex ≡ v = omega arith in f (subst (IsOfKind kinds wanted) e k);
}
