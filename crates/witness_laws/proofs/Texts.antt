-- Texts of lines have exactly these lines.
use Rattle.std.proofs.Common.{◌≡◌, ℕ, suc, ◌+◌, refl, sym, ap, ◌∙◌, arith, ⊎_elim, List, [], ◌∷◌, ◌++◌, get_or, map, true, cond, ne_eqb}
use Rattle.std.proofs.lemmas.List.{append-nil}
use Rattle.std.proofs.lemmas.Bool.{cases_Bool, and_parts, and_from, not-true}
use Rattle.std.specs.Prelude.{codes, not, ◌==◌}
use Rattle.std.specs.List.{All, flat_map}
use Rattle.std.specs.Int.Digits.{digits_of}
use Rattle.homology_basis.specs.Bases.{in_degree}
use Rattle.witness_laws.specs.Lines.{domain, range, Line, section, cycle, cocycle, homotopy, values, vertex, filling, image, matrix, row, end, numeral, numbers_text, chain_text, chain_line, numbers_line, row_line, last_line, lines_behind, lines_of, no_feed, IsOneLine}
use Rattle.witness_laws.specs.Inputs.{Given, x_of, a_of}
use Rattle.witness_laws.specs.Parts.{nth, relative_number, value_number}
use Rattle.witness_laws.specs.Tables.{Tables, pair_of, map_of, text_of_line}
use Rattle.witness_laws.specs.Laws.{TextsHaveTheirLines}

pub feed_append : (xs ys : List ℕ) → no_feed xs ≡ true → no_feed ys ≡ true → no_feed (xs ++ ys) ≡ true
feed_append [] ys h k = k
feed_append (c ∷ cs) ys h k = let w = and_parts (not (c == 10)) (no_feed cs) h in and_from (not (c == 10)) (no_feed (cs ++ ys)) w.0 (feed_append cs ys w.1 k)

feed_digits : (ds : List ℕ) → no_feed (map (λ d. 48 + d) ds) ≡ true
feed_digits [] = refl
feed_digits (d ∷ ds) = and_from (not (48 + d == 10)) (no_feed (map (λ d. 48 + d) ds)) (ap not (ne_eqb (48 + d) 10 (λ e. omega arith))) (feed_digits ds)

pub feed_numeral : (n : ℕ) → no_feed (numeral n) ≡ true
feed_numeral n = ⊎_elim
    (λ e. ap (λ b. no_feed (cond b (codes "0") (map (λ d. 48 + d) (digits_of 10 n)))) e)
    (λ e. ap (λ b. no_feed (cond b (codes "0") (map (λ d. 48 + d) (digits_of 10 n)))) e ∙ feed_digits (digits_of 10 n))
    (cases_Bool (n == 0))

feed_numbers : (ns : List ℕ) → no_feed (numbers_text ns) ≡ true
feed_numbers [] = refl
feed_numbers (n ∷ ns) = feed_append (codes " " ++ numeral n) (numbers_text ns) (feed_append (codes " ") (numeral n) refl (feed_numeral n)) (feed_numbers ns)

feed_chain : (ts : List (ℕ × ℕ)) → no_feed (chain_text ts) ≡ true
feed_chain [] = refl
feed_chain (t ∷ ts) =
    feed_append (codes " " ++ numeral t.1 ++ codes "*" ++ numeral t.0) (chain_text ts)
    (feed_append (codes " " ++ numeral t.1 ++ codes "*") (numeral t.0) (feed_append (codes " " ++ numeral t.1) (codes "*") (feed_append (codes " ") (numeral t.1) refl (feed_numeral t.1)) refl) (feed_numeral t.0))
    (feed_chain ts)

chain_line_is : (word ns : List ℕ) (ts : List (ℕ × ℕ)) → no_feed word ≡ true → IsOneLine (chain_line word ns ts)
chain_line_is word ns ts h = record {
  before = word ++ numbers_text ns ++ codes ":" ++ chain_text ts;
  none = feed_append (word ++ numbers_text ns ++ codes ":") (chain_text ts) (feed_append (word ++ numbers_text ns) (codes ":") (feed_append word (numbers_text ns) h (feed_numbers ns)) refl) (feed_chain ts);
  ends = refl;
}

numbers_line_is : (word ns : List ℕ) → no_feed word ≡ true → IsOneLine (numbers_line word ns)
numbers_line_is word ns h = record { before = word ++ numbers_text ns; none = feed_append word (numbers_text ns) h (feed_numbers ns); ends = refl }

row_line_is : (k : ℕ) (es : List ℕ) → IsOneLine (row_line k es)
row_line_is k es = record {
  before = codes "m" ++ numbers_text (k ∷ []) ++ codes ":" ++ numbers_text es;
  none = feed_append (codes "m" ++ numbers_text (k ∷ []) ++ codes ":") (numbers_text es) (feed_append (codes "m" ++ numbers_text (k ∷ [])) (codes ":") (feed_append (codes "m") (numbers_text (k ∷ [])) refl (feed_numbers (k ∷ []))) refl) (feed_numbers es);
  ends = refl;
}

of_tables : (G : Given) (W : Tables) (line : Line) → IsOneLine (text_of_line G W line)
of_tables G W (section domain) = record { before = codes "pair domain"; none = refl; ends = refl }
of_tables G W (section range) = record { before = codes "pair range"; none = refl; ends = refl }
of_tables G W (cycle side k i) = chain_line_is (codes "z") (k ∷ []) (nth (in_degree (pair_of W side).cycles k) i) refl
of_tables G W (cocycle side k i) = chain_line_is (codes "c") (k ∷ []) (nth (in_degree (pair_of W side).cocycles k) i) refl
of_tables G W (homotopy side i) = chain_line_is (codes "h") (relative_number (x_of G side) (a_of G side) i ∷ []) (nth (pair_of W side).homotopies i) refl
of_tables G W values = record { before = codes "values"; none = refl; ends = refl }
of_tables G W (vertex i) = numbers_line_is (codes "v") (suc i ∷ get_or (map_of W).vertices i 0 ∷ []) refl
of_tables G W (filling i m) = chain_line_is (codes "g") (suc i ∷ value_number G i m ∷ []) (nth (get_or (map_of W).fillings i []) m) refl
of_tables G W (image i) = chain_line_is (codes "f") (suc i ∷ []) (nth (map_of W).images i) refl
of_tables G W matrix = record { before = codes "matrix"; none = refl; ends = refl }
of_tables G W (row k r) = row_line_is k (get_or (get_or (map_of W).matrices k []) r [])
of_tables G W end = record { before = codes "end"; none = refl; ends = refl }

-- ---- the lines of a text

regrouped : (xs : List ℕ) (c : ℕ) (ys : List ℕ) → (xs ++ c ∷ []) ++ ys ≡ xs ++ c ∷ ys
regrouped [] c ys = refl
regrouped (x ∷ xs) c ys = ap (λ l. x ∷ l) (regrouped xs c ys)

read_line : (before rest line : List ℕ) → no_feed before ≡ true → lines_behind ((before ++ 10 ∷ []) ++ rest) line ≡ (line ++ (before ++ 10 ∷ [])) ∷ lines_behind rest []
read_line [] rest line h = refl
read_line (c ∷ cs) rest line h =
    let w = and_parts (not (c == 10)) (no_feed cs) h in
    ap (λ b. cond b ((line ++ c ∷ []) ∷ lines_behind ((cs ++ 10 ∷ []) ++ rest) []) (lines_behind ((cs ++ 10 ∷ []) ++ rest) (line ++ c ∷ []))) (not-true (c == 10) w.0)
    ∙ read_line cs rest (line ++ c ∷ []) w.1
    ∙ ap (λ l. l ∷ lines_behind rest []) (regrouped line c (cs ++ 10 ∷ []))

first_line : (t rest : List ℕ) → IsOneLine t → lines_of (t ++ rest) ≡ t ∷ lines_of rest
first_line t rest o = ap (λ l. lines_behind (l ++ rest) []) o.ends ∙ read_line o.before rest [] o.none ∙ ap (λ l. l ∷ lines_behind rest []) (sym o.ends)

have_lines : (ts : List (List ℕ)) → All IsOneLine ts → lines_of (flat_map (λ t. t) ts) ≡ ts
have_lines [] h = refl
have_lines (t ∷ ts) h =
    let o : IsOneLine t = h 0 [] (omega arith) in
    let rest : List ℕ = flat_map (λ t. t) ts in
    first_line t rest o ∙ ap (λ l. t ∷ l) (have_lines ts (λ k d l. h (suc k) d (omega arith)))

one_line : (line : List ℕ) → flat_map (λ t. t) (last_line line) ≡ line
one_line [] = refl
one_line (b ∷ bs) = append-nil (b ∷ bs)

joined : (bytes line : List ℕ) → flat_map (λ t. t) (lines_behind bytes line) ≡ line ++ bytes
joined [] line = one_line line ∙ sym (append-nil line)
joined (c ∷ cs) line = ⊎_elim
    (λ e.
    ap (λ b. flat_map (λ t. t) (cond b ((line ++ c ∷ []) ∷ lines_behind cs []) (lines_behind cs (line ++ c ∷ [])))) e
    ∙ ap (λ l. (line ++ c ∷ []) ++ l) (joined cs []) ∙ regrouped line c cs)
    (λ e.
    ap (λ b. flat_map (λ t. t) (cond b ((line ++ c ∷ []) ∷ lines_behind cs []) (lines_behind cs (line ++ c ∷ [])))) e
    ∙ joined cs (line ++ c ∷ []) ∙ regrouped line c cs)
    (cases_Bool (c == 10))

pub texts_have_their_lines : TextsHaveTheirLines
texts_have_their_lines = record { tables = of_tables; lines = have_lines; first = first_line; joined = λ bytes. joined bytes [] }
