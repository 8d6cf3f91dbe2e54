-- How runs are read.
use Rattle.std.proofs.Common.{◌≡◌, ℕ, zero, suc, ◌+◌, ◌<◌, refl, sym, ap, ◌∙◌, arith, ⊎_elim, List, [], ◌∷◌, ◌++◌, length, get_or, append_assoc, subst, Option}
use Rattle.std.proofs.lemmas.List.{length-append, append-nil}
use Rattle.std.proofs.lemmas.Bool.{cases_lt}
use Rattle.witness_laws.specs.Lines.{chain_line}
use Rattle.witness_laws.specs.Parts.{AreTerms, nth}
use Rattle.witness_runs.specs.Kinds.{NamesKind}
use Rattle.witness_runs.specs.Due.{IsDueChain, MissesChain}
use Rattle.witness_runs.specs.Runs.{head_of, run_text, HasRun, NameKinds, StopsRun}
use Rattle.witness_runs.specs.Misses.{stop_at}
use Rattle.witness_runs.specs.declared.miss.Miss.{Miss}
use Rattle.witness_runs.specs.declared.miss.Miss.TheVariants as misses

at_old : (cs : List (List (ℕ × ℕ))) (c : List (ℕ × ℕ)) (i : ℕ) → i < length cs → nth (cs ++ c ∷ []) i ≡ nth cs i
at_old [] c i l = absurd (omega arith)
at_old (d ∷ cs) c zero l = refl
at_old (d ∷ cs) c (suc i) l = at_old cs c i (omega arith)

at_new : (cs : List (List (ℕ × ℕ))) (c : List (ℕ × ℕ)) → nth (cs ++ c ∷ []) (length cs) ≡ c
at_new [] c = refl
at_new (d ∷ cs) c = at_new cs c

text_none : (word : List ℕ) (first : Option ℕ) (ns : List ℕ) → run_text word first ns [] ≡ []
text_none word first [] = refl
text_none word first (n ∷ ns) = refl

text_push : (word : List ℕ) (first : Option ℕ) (ns : List ℕ) (cs : List (List (ℕ × ℕ))) (c : List (ℕ × ℕ)) (u : List ℕ) → length cs < length ns
    → run_text word first ns (cs ++ c ∷ []) ++ u ≡ run_text word first ns cs ++ (chain_line word (head_of first (get_or ns (length cs) 0)) c ++ u)
text_push word first [] cs c u l = absurd (omega arith)
text_push word first (n ∷ ns) [] c u l =
    ap (λ t. (chain_line word (head_of first n) c ++ t) ++ u) (text_none word first ns) ∙ ap (λ t. t ++ u) (append-nil (chain_line word (head_of first n) c))
text_push word first (n ∷ ns) (d ∷ cs) c u l =
    let a : List ℕ = chain_line word (head_of first n) d in
    append_assoc a (run_text word first ns (cs ++ c ∷ [])) u
    ∙ ap (λ t. a ++ t) (text_push word first ns cs c u (omega arith))
    ∙ sym (append_assoc a (run_text word first ns cs) (chain_line word (head_of first (get_or ns (length cs) 0)) c ++ u))

pub run_none : (p : ℕ) (word : List ℕ) (first : Option ℕ) (ns bytes : List ℕ) → HasRun p word first ns 0 bytes [] bytes
run_none p word first ns bytes = record { many = refl; are = λ i l. absurd (omega arith); split = ap (λ t. t ++ bytes) (sym (text_none word first ns)) }

below_next : (P : ℕ → Type 0) (i n : ℕ) → n ≡ i + 1 → ((j : ℕ) → j < i → P j) → P i → (j : ℕ) → j < n → P j
below_next P i n e h k j l = ⊎_elim (λ q. h j q) (λ q. subst P (let x : i ≡ j = omega arith in x) k) (cases_lt j i)

run_push : (p : ℕ) (word : List ℕ) (first : Option ℕ) (ns : List ℕ) (i n : ℕ) (bytes : List ℕ) (cs : List (List (ℕ × ℕ))) (c : List (ℕ × ℕ)) (rest behind : List ℕ) → n ≡ i + 1 → i < length ns
    → HasRun p word first ns i bytes cs rest → AreTerms p 0 c → rest ≡ chain_line word (head_of first (get_or ns i 0)) c ++ behind → HasRun p word first ns n bytes (cs ++ c ∷ []) behind
run_push p word first ns i n bytes cs c rest behind e l r a s =
    let m : length cs ≡ i = r.many in
    let here : nth (cs ++ c ∷ []) i ≡ c = ap (nth (cs ++ c ∷ [])) (sym m) ∙ at_new cs c in
    record {
      many = length-append cs (c ∷ []) ∙ ap (λ (k : ℕ). k + 1) m ∙ sym e;
      are = below_next (λ j. AreTerms p 0 (nth (cs ++ c ∷ []) j)) i n e
          (λ j q. subst (AreTerms p 0) (sym (at_old cs c j (omega arith))) (r.are j q)) (subst (AreTerms p 0) (sym here) a);
      split = r.split ∙ ap (λ t. run_text word first ns cs ++ t) (s ∙ ap (λ (k : ℕ). chain_line word (head_of first (get_or ns k 0)) c ++ behind) (sym m))
          ∙ sym (text_push word first ns cs c behind (omega arith));
    }

names_push : (kinds wanted : List ℕ) (i n : ℕ) (cs : List (List (ℕ × ℕ))) (c : List (ℕ × ℕ)) → n ≡ i + 1 → length cs ≡ i → NameKinds kinds wanted cs i → NamesKind kinds (get_or wanted i 0) c
    → NameKinds kinds wanted (cs ++ c ∷ []) n
names_push kinds wanted i n cs c e m h k =
    let here : nth (cs ++ c ∷ []) i ≡ c = ap (nth (cs ++ c ∷ [])) (sym m) ∙ at_new cs c in
    below_next (λ j. NamesKind kinds (get_or wanted j 0) (nth (cs ++ c ∷ []) j)) i n e
    (λ j q. subst (NamesKind kinds (get_or wanted j 0)) (sym (at_old cs c j (omega arith))) (h j q)) (subst (NamesKind kinds (get_or wanted i 0)) (sym here) k)

pub run_more : (p : ℕ) (word : List ℕ) (first : Option ℕ) (ns kinds wanted : List ℕ) (i : ℕ) (bytes : List ℕ) (cs more : List (List (ℕ × ℕ))) (c : List (ℕ × ℕ)) (rest behind : List ℕ) → i < length ns
    → HasRun p word first ns i bytes cs rest → NameKinds kinds wanted cs i → IsDueChain p word (head_of first (get_or ns i 0)) kinds (get_or wanted i 0) rest c behind → more ≡ cs ++ c ∷ []
    → HasRun p word first ns (i + 1) bytes more behind × NameKinds kinds wanted more (i + 1)
run_more p word first ns kinds wanted i bytes cs more c rest behind l r h d e =
    subst (λ (x : List (List (ℕ × ℕ))). HasRun p word first ns (i + 1) bytes x behind × NameKinds kinds wanted x (i + 1)) (sym e)
    (run_push p word first ns i (i + 1) bytes cs c rest behind refl l r d.are d.split, names_push kinds wanted i (i + 1) cs c refl r.many h d.names)

pub stop_from : (p : ℕ) (word : List ℕ) (first : Option ℕ) (ns kinds wanted : List ℕ) (i : ℕ) (bytes : List ℕ) (cs : List (List (ℕ × ℕ))) (rest : List ℕ) (left : ℕ) (miss : Miss) → i < length ns
    → HasRun p word first ns i bytes cs rest → NameKinds kinds wanted cs i → left ≡ length rest → MissesChain p word (head_of first (get_or ns i 0)) kinds (get_or wanted i 0) rest miss
    → StopsRun p word first ns kinds wanted bytes (stop_at left miss)
stop_from p word first ns kinds wanted i bytes cs rest left misses.Text l r h e m = record { line = i; within = l; chains = cs; rest = rest; run = r; names = h; left_is = e; here = m }
stop_from p word first ns kinds wanted i bytes cs rest left misses.Cell l r h e m = record { line = i; within = l; chains = cs; rest = rest; run = r; names = h; left_is = e; here = m }
stop_from p word first ns kinds wanted i bytes cs rest left misses.NoMemory l r h e m = tt
