-- How cycles are read.
use Rattle.std.proofs.Common.{◌≡◌, ℕ, ◌+◌, ◌<◌, ◌≤◌, refl, sym, ap, ◌∙◌, arith, List, [], ◌∷◌, ◌++◌, length, append_assoc, subst}
use Rattle.std.proofs.lemmas.List.{append-nil, length-append}
use Rattle.std.specs.Prelude.{codes}
use Rattle.witness_laws.specs.Lines.{chain_line}
use Rattle.witness_laws.specs.Parts.{AreTerms}
use Rattle.witness_runs.specs.declared.miss.Miss.{Miss}
use Rattle.witness_runs.specs.declared.miss.Miss.TheVariants as misses
use Rattle.witness_runs.specs.Misses.{stop_at}
use Rattle.witness_runs.specs.Kinds.{NamesKind}
use Rattle.witness_runs.specs.Due.{IsDueCycle, MissesCycle}
use Rattle.witness_runs.specs.Cycles.{BeginsWithZ, cycles_text, AreCycles, NameDegrees, last_degree, HasCycles, StopsCycles}

text_push : (zs : List (ℕ × List (ℕ × ℕ))) (z : ℕ × List (ℕ × ℕ)) (u : List ℕ) → cycles_text (zs ++ z ∷ []) ++ u ≡ cycles_text zs ++ (chain_line (codes "z") (z.0 ∷ []) z.1 ++ u)
text_push [] z u = ap (λ t. t ++ u) (append-nil (chain_line (codes "z") (z.0 ∷ []) z.1))
text_push (y ∷ zs) z u =
    let a : List ℕ = chain_line (codes "z") (y.0 ∷ []) y.1 in
    append_assoc a (cycles_text (zs ++ z ∷ [])) u ∙ ap (λ t. a ++ t) (text_push zs z u) ∙ sym (append_assoc a (cycles_text zs) (chain_line (codes "z") (z.0 ∷ []) z.1 ++ u))

are_push : (p low high : ℕ) (zs : List (ℕ × List (ℕ × ℕ))) (z : ℕ × List (ℕ × ℕ)) → AreCycles p low high zs → high ≤ z.0 → AreTerms p 0 z.1 → AreCycles p low z.0 (zs ++ z ∷ [])
are_push p low high [] z h l a = (omega arith, a, omega arith)
are_push p low high (y ∷ zs) z h l a = (h.0, h.1, are_push p y.0 high zs z h.2 l a)

names_push : (kinds : List ℕ) (zs : List (ℕ × List (ℕ × ℕ))) (z : ℕ × List (ℕ × ℕ)) → NameDegrees kinds zs → NamesKind kinds (z.0 + 1) z.1 → NameDegrees kinds (zs ++ z ∷ [])
names_push kinds [] z h k = (k, tt)
names_push kinds (y ∷ zs) z h k = (h.0, names_push kinds zs z h.1 k)

last_push : (low : ℕ) (zs : List (ℕ × List (ℕ × ℕ))) (z : ℕ × List (ℕ × ℕ)) → last_degree low (zs ++ z ∷ []) ≡ z.0
last_push low [] z = refl
last_push low (y ∷ zs) z = last_push y.0 zs z

pub cycles_none : (p top : ℕ) (kinds bytes : List ℕ) → HasCycles p top kinds bytes [] 0 bytes
cycles_none p top kinds bytes = record { last = refl; are = omega arith; below = omega arith; split = refl; names = tt }

pub cycles_more : (p top : ℕ) (kinds bytes : List ℕ) (zs more : List (ℕ × List (ℕ × ℕ))) (low : ℕ) (rest : List ℕ) (k : ℕ) (c : List (ℕ × ℕ)) (behind : List ℕ) → HasCycles p top kinds bytes zs low rest
    → IsDueCycle p low top kinds rest k c behind → more ≡ zs ++ (k, c) ∷ [] → HasCycles p top kinds bytes more k behind
cycles_more p top kinds bytes zs more low rest k c behind h d e =
    subst (λ (x : List (ℕ × List (ℕ × ℕ))). HasCycles p top kinds bytes x k behind) (sym e) (record {
      last = sym (last_push 0 zs (k, c));
      are = are_push p 0 low zs (k, c) h.are d.above d.due.are;
      below = d.below;
      split = h.split ∙ ap (λ t. cycles_text zs ++ t) d.due.split ∙ sym (text_push zs (k, c) behind);
      names = names_push kinds zs (k, c) h.names d.due.names;
    })

line_length : (w u : List ℕ) → length u < length ((w ++ codes "\n") ++ u)
line_length w u = let a = length-append (w ++ codes "\n") u in let b = length-append w (codes "\n") in omega arith

pub cycles_smaller : (p low top : ℕ) (kinds rest : List ℕ) (k : ℕ) (c : List (ℕ × ℕ)) (behind : List ℕ) → IsDueCycle p low top kinds rest k c behind → length behind < length rest
cycles_smaller p low top kinds rest k c behind d =
    let e = ap length d.due.split in
    let a = length-append (chain_line (codes "z") (k ∷ []) c) behind in
    let b : 0 < length (chain_line (codes "z") (k ∷ []) c) = omega arith in omega arith

pub stop_cycles : (p top : ℕ) (kinds bytes : List ℕ) (zs : List (ℕ × List (ℕ × ℕ))) (low : ℕ) (rest : List ℕ) (left : ℕ) (miss : Miss) → HasCycles p top kinds bytes zs low rest → BeginsWithZ rest
    → left ≡ length rest → MissesCycle p low top kinds rest miss → StopsCycles p top kinds bytes (stop_at left miss)
stop_cycles p top kinds bytes zs low rest left misses.Text h b e m = record { low = low; cycles = zs; rest = rest; has = h; begins = b; left_is = e; here = m }
stop_cycles p top kinds bytes zs low rest left misses.Cell h b e m = record { low = low; cycles = zs; rest = rest; has = h; begins = b; left_is = e; here = m }
stop_cycles p top kinds bytes zs low rest left misses.NoMemory h b e m = tt
