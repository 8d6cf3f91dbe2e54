-- Whole lines: their fronts, and what stands behind.
use Rattle.std.proofs.Common.{◌≡◌, ℕ, ◌^◌, ◌<◌, ◌≤◌, refl, sym, ap, ◌∙◌, arith, List, [], ◌∷◌, ◌++◌, drop, false, append_assoc}
use Rattle.std.proofs.lemmas.List.{append_cancel_left}
use Rattle.std.specs.Prelude.{codes}
use Rattle.std.specs.Char.{is_ascii_digit}
use Rattle.witness_laws.specs.Lines.{numeral, chain_text, numbers_text, numbers_line}
use Rattle.witness_scanning.specs.Fronts.{BeginsOtherwise, numbers_front}
use Rattle.witness_scanning.specs.Numbers.{HasMarked, HasNoMarked, value_of, clipped}
use Rattle.witness_scanning.specs.Terms.{HasChain, HasNoChain, HasEntries, HasNoEntries}
use Rattle.witness_scanning.specs.Lines.{HasChainLine, HasNoChainLine, HasRowLine, HasNoRowLine, HasNumberBefore, HasNoNumberBefore, HasVertexLine, HasNoVertexLine, HasDegree, HasNoDegree, HasCycleLine, HasNoCycleLine}
use Rattle.witness_scanning.proofs.Digits.{numeral_split, value_of_numeral}
use Rattle.witness_scanning.proofs.Entries.{numbers_push}

-- a line by its front, its chain and what follows
row_of : (f c u : List ℕ) → ((f ++ c) ++ codes "\n") ++ u ≡ f ++ (c ++ 10 ∷ u)
row_of f c u = append_assoc (f ++ c) (codes "\n") u ∙ append_assoc f c (10 ∷ u)

pub chain_line_here : (word ns : List ℕ) (p : ℕ) (bytes behind : List ℕ) (kept : List (ℕ × ℕ)) (rest : List ℕ) → bytes ≡ numbers_front word ns (codes ":") ++ behind → HasChain p behind kept rest
    → HasChainLine word ns p bytes kept rest
chain_line_here word ns p bytes behind kept rest e h =
    let f : List ℕ = numbers_front word ns (codes ":") in
    record { terms = h.terms; are = h.are; split = e ∙ ap (λ l. f ++ l) h.split ∙ sym (row_of f (chain_text h.terms) rest); kept_is = h.kept_is }

pub no_front : (word ns : List ℕ) (p : ℕ) (bytes : List ℕ) → BeginsOtherwise bytes (numbers_front word ns (codes ":")) → HasNoChainLine word ns p bytes
no_front word ns p bytes h ts rest a e =
    let f : List ℕ = numbers_front word ns (codes ":") in
    h (chain_text ts ++ 10 ∷ rest) (e ∙ row_of f (chain_text ts) rest)

pub no_chain_behind : (word ns : List ℕ) (p : ℕ) (bytes behind : List ℕ) → bytes ≡ numbers_front word ns (codes ":") ++ behind → HasNoChain p behind → HasNoChainLine word ns p bytes
no_chain_behind word ns p bytes behind e h ts rest a d =
    let f : List ℕ = numbers_front word ns (codes ":") in
    h (record { terms = ts; rest = rest; are = a; split = append_cancel_left f behind (chain_text ts ++ 10 ∷ rest) (sym e ∙ d ∙ row_of f (chain_text ts) rest) })

-- ---- rows

abbrev row_front : ℕ → List ℕ
row_front k = numbers_front (codes "m") (k ∷ []) (codes ":")

pub row_line_here : (k width p : ℕ) (bytes behind entries rest : List ℕ) → bytes ≡ row_front k ++ behind → HasEntries p width behind entries rest → HasRowLine k width p bytes entries rest
row_line_here k width p bytes behind entries rest e h =
    record { many = h.many; below = h.below; split = e ∙ ap (λ l. row_front k ++ l) h.split ∙ sym (row_of (row_front k) (numbers_text entries) rest) }

pub no_row_front : (k width p : ℕ) (bytes : List ℕ) → BeginsOtherwise bytes (row_front k) → HasNoRowLine k width p bytes
no_row_front k width p bytes h es rest q = h (numbers_text es ++ 10 ∷ rest) (q.split ∙ row_of (row_front k) (numbers_text es) rest)

pub no_entries_behind : (k width p : ℕ) (bytes behind : List ℕ) → bytes ≡ row_front k ++ behind → HasNoEntries p width behind → HasNoRowLine k width p bytes
no_entries_behind k width p bytes behind e h es rest q =
    h es rest (record { many = q.many; below = q.below; split = append_cancel_left (row_front k) behind (numbers_text es ++ 10 ∷ rest) (sym e ∙ q.split ∙ row_of (row_front k) (numbers_text es) rest) })

-- ---- numbers before a mark

pub no_number_here : (mark : ℕ) (bs : List ℕ) → is_ascii_digit mark ≡ false → HasNoMarked 32 bs → HasNoNumberBefore mark bs
no_number_here mark bs d h n rest e = h n (mark ∷ rest) d e

number_is : (mark : ℕ) (bs ds behind : List ℕ) (h : HasMarked 32 bs ds behind) (n : ℕ) (rest : List ℕ) → is_ascii_digit mark ≡ false → bs ≡ 32 ∷ (numeral n ++ (mark ∷ rest))
    → (h.number ≡ n) × (behind ≡ mark ∷ rest)
number_is mark bs ds behind h n rest d e =
    numeral_split h.number n behind (mark ∷ rest) h.ends d (ap (λ l. l ++ behind) (sym h.written) ∙ ap (drop 1) (sym h.split ∙ e))

pub no_mark_behind : (mark : ℕ) (bs ds behind : List ℕ) → is_ascii_digit mark ≡ false → HasMarked 32 bs ds behind → BeginsOtherwise behind (mark ∷ []) → HasNoNumberBefore mark bs
no_mark_behind mark bs ds behind d h f n rest e = f rest (number_is mark bs ds behind h n rest d e).1

pub number_here : (mark : ℕ) (bs ds behind rest : List ℕ) (v : ℕ) → HasMarked 32 bs ds behind → behind ≡ (mark ∷ []) ++ rest → v ≡ clipped (value_of ds) → HasNumberBefore mark bs v rest
number_here mark bs ds behind rest v h e k =
    let x : value_of ds ≡ h.number = ap value_of h.written ∙ value_of_numeral h.number in
    record { number = h.number; split = h.split ∙ ap (λ l. 32 ∷ (l ++ behind)) h.written ∙ ap (λ l. 32 ∷ (numeral h.number ++ l)) e; kept_is = k ∙ ap clipped x }

-- ---- vertices

abbrev vertex_front : ℕ → List ℕ
vertex_front i = codes "v" ++ numbers_text (i ∷ [])

vertex_row : (i j : ℕ) (rest : List ℕ) → numbers_line (codes "v") (i ∷ j ∷ []) ++ rest ≡ vertex_front i ++ (32 ∷ (numeral j ++ 10 ∷ rest))
vertex_row i j rest =
    let n : List ℕ = numbers_text (i ∷ j ∷ []) in
    append_assoc (codes "v" ++ n) (codes "\n") rest ∙ append_assoc (codes "v") n (10 ∷ rest)
    ∙ ap (λ l. codes "v" ++ l) (numbers_push (i ∷ []) j (10 ∷ rest))
    ∙ sym (append_assoc (codes "v") (numbers_text (i ∷ [])) (32 ∷ (numeral j ++ 10 ∷ rest)))

pub vertex_here : (i : ℕ) (bytes behind : List ℕ) (v : ℕ) (rest : List ℕ) → bytes ≡ vertex_front i ++ behind → HasNumberBefore 10 behind v rest → HasVertexLine i bytes v rest
vertex_here i bytes behind v rest e h =
    record { vertex = h.number; split = e ∙ ap (λ l. vertex_front i ++ l) h.split ∙ sym (vertex_row i h.number rest); kept_is = h.kept_is }

pub no_vertex_front : (i : ℕ) (bytes : List ℕ) → BeginsOtherwise bytes (vertex_front i) → HasNoVertexLine i bytes
no_vertex_front i bytes h j rest e = h (32 ∷ (numeral j ++ 10 ∷ rest)) (e ∙ vertex_row i j rest)

pub no_vertex_behind : (i : ℕ) (bytes behind : List ℕ) → bytes ≡ vertex_front i ++ behind → HasNoNumberBefore 10 behind → HasNoVertexLine i bytes
no_vertex_behind i bytes behind e h j rest d =
    h j rest (append_cancel_left (vertex_front i) behind (32 ∷ (numeral j ++ 10 ∷ rest)) (sym e ∙ d ∙ vertex_row i j rest))

-- ---- degrees of cycles

degree_row : (k : ℕ) (rest : List ℕ) → numbers_front (codes "z") (k ∷ []) (codes ":") ++ rest ≡ codes "z" ++ (32 ∷ (numeral k ++ 58 ∷ rest))
degree_row k rest =
    let n : List ℕ = numbers_text (k ∷ []) in
    append_assoc (codes "z" ++ n) (codes ":") rest ∙ append_assoc (codes "z") n (58 ∷ rest)
    ∙ ap (λ l. codes "z" ++ l) (numbers_push [] k (58 ∷ rest))

pub degree_here : (low top : ℕ) (bytes behind : List ℕ) (v : ℕ) (rest : List ℕ) → top < 2 ^ 8 → bytes ≡ codes "z" ++ behind → HasNumberBefore 58 behind v rest → low ≤ v → v ≤ top
    → HasDegree low top bytes v rest
degree_here low top bytes behind v rest s e h a b =
    let k = h.kept_is in
    let x : h.number ≡ v = omega arith in
    record { above = a; below = b; split = e ∙ ap (λ l. codes "z" ++ l) (h.split ∙ ap (λ j. 32 ∷ (numeral j ++ 58 ∷ rest)) x) ∙ sym (degree_row v rest) }

pub no_z : (low top : ℕ) (bytes : List ℕ) → BeginsOtherwise bytes (codes "z") → HasNoDegree low top bytes
no_z low top bytes h k rest a b e = h (32 ∷ (numeral k ++ 58 ∷ rest)) (e ∙ degree_row k rest)

pub no_degree_behind : (low top : ℕ) (bytes behind : List ℕ) → bytes ≡ codes "z" ++ behind → HasNoNumberBefore 58 behind → HasNoDegree low top bytes
no_degree_behind low top bytes behind e h k rest a b d =
    h k rest (append_cancel_left (codes "z") behind (32 ∷ (numeral k ++ 58 ∷ rest)) (sym e ∙ d ∙ degree_row k rest))

pub other_degree : (low top : ℕ) (bytes behind : List ℕ) (v : ℕ) (rest : List ℕ) → top < 2 ^ 8 → bytes ≡ codes "z" ++ behind → HasNumberBefore 58 behind v rest → (low ≤ v → v ≤ top → ⊥)
    → HasNoDegree low top bytes
other_degree low top bytes behind v rest s e h f k u a b d =
    let y : behind ≡ 32 ∷ (numeral k ++ 58 ∷ u) = append_cancel_left (codes "z") behind (32 ∷ (numeral k ++ 58 ∷ u)) (sym e ∙ d ∙ degree_row k u) in
    let w = (numeral_split h.number k (58 ∷ rest) (58 ∷ u) refl refl (ap (drop 1) (sym h.split ∙ y))).0 in
    let q = h.kept_is in
    f (omega arith) (omega arith)

-- ---- lines of cycles

abbrev cycle_front : ℕ → List ℕ
cycle_front k = numbers_front (codes "z") (k ∷ []) (codes ":")

pub cycle_line_here : (low top p : ℕ) (bytes behind : List ℕ) (k : ℕ) (kept : List (ℕ × ℕ)) (rest : List ℕ) → HasDegree low top bytes k behind → HasChain p behind kept rest
    → HasCycleLine low top p bytes k kept rest
cycle_line_here low top p bytes behind k kept rest d h =
    record { above = d.above; below = d.below; line = chain_line_here (codes "z") (k ∷ []) p bytes behind kept rest d.split h }

pub no_degree_here : (low top p : ℕ) (bytes : List ℕ) → HasNoDegree low top bytes → HasNoCycleLine low top p bytes
no_degree_here low top p bytes h k a b ts rest q e = h k (chain_text ts ++ 10 ∷ rest) a b (e ∙ row_of (cycle_front k) (chain_text ts) rest)

same_degree : (k l : ℕ) (u v : List ℕ) → cycle_front k ++ u ≡ cycle_front l ++ v → (k ≡ l) × (u ≡ v)
same_degree k l u v e =
    let w = numeral_split k l (58 ∷ u) (58 ∷ v) refl refl (ap (drop 2) (sym (degree_row k u) ∙ e ∙ degree_row l v)) in
    (w.0, ap (drop 1) w.1)

pub no_cycle_behind : (low top p : ℕ) (bytes behind : List ℕ) (k : ℕ) → HasDegree low top bytes k behind → HasNoChain p behind → HasNoCycleLine low top p bytes
no_cycle_behind low top p bytes behind k d h l a b ts rest q e =
    let w = same_degree k l behind (chain_text ts ++ 10 ∷ rest) (sym d.split ∙ e ∙ row_of (cycle_front l) (chain_text ts) rest) in
    h (record { terms = ts; rest = rest; are = q; split = w.1 })
