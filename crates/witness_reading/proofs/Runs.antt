-- Runs of lines that were read, as items of a form.
use Rattle.std.proofs.Common.{◌≡◌, ℕ, zero, suc, ◌<◌, ◌≤◌, refl, ap, ◌∙◌, arith, List, [], ◌∷◌, ◌++◌, length, get_or, drop, true, append_assoc, Option}
use Rattle.std.specs.Prelude.{codes}
use Rattle.witness_laws.specs.Lines.{numeral, numbers_text, chain_text, chain_line, numbers_line, row_line, lines_of, no_feed, IsOneLine}
use Rattle.witness_laws.specs.Parts.{AreTerms, nth}
use Rattle.witness_laws.proofs.Texts.{feed_append, feed_numeral, texts_have_their_lines}
use Rattle.witness_runs.specs.Kinds.{NamesKind}
use Rattle.witness_runs.specs.Runs.{head_of, run_text}
use Rattle.witness_reading.proofs.Forms.{Item, texts, AreRun, IsTold}
use Rattle.witness_reading.proofs.Stops.{AllNames}
use Rattle.witness_reading.proofs.Shapes.{chain_item, IsChainItem, told_chain}

-- ---- lines are single lines

feed_numbers : (ns : List ℕ) → no_feed (numbers_text ns) ≡ true
feed_numbers [] = refl
feed_numbers (n ∷ ns) = feed_append (codes " " ++ numeral n) (numbers_text ns) (feed_append (codes " ") (numeral n) refl (feed_numeral n)) (feed_numbers ns)

feed_chain : (ts : List (ℕ × ℕ)) → no_feed (chain_text ts) ≡ true
feed_chain [] = refl
feed_chain (t ∷ ts) =
    feed_append (codes " " ++ numeral t.1 ++ codes "*" ++ numeral t.0) (chain_text ts)
    (feed_append (codes " " ++ numeral t.1 ++ codes "*") (numeral t.0)
    (feed_append (codes " " ++ numeral t.1) (codes "*") (feed_append (codes " ") (numeral t.1) refl (feed_numeral t.1)) refl) (feed_numeral t.0))
    (feed_chain ts)

pub one_chain : (word ns : List ℕ) (ts : List (ℕ × ℕ)) → no_feed word ≡ true → IsOneLine (chain_line word ns ts)
one_chain word ns ts h = record {
  before = word ++ numbers_text ns ++ codes ":" ++ chain_text ts;
  none = feed_append (word ++ numbers_text ns ++ codes ":") (chain_text ts)
      (feed_append (word ++ numbers_text ns) (codes ":") (feed_append word (numbers_text ns) h (feed_numbers ns)) refl) (feed_chain ts);
  ends = refl;
}

pub one_numbers : (word ns : List ℕ) → no_feed word ≡ true → IsOneLine (numbers_line word ns)
one_numbers word ns h = record { before = word ++ numbers_text ns; none = feed_append word (numbers_text ns) h (feed_numbers ns); ends = refl }

pub one_row : (k : ℕ) (es : List ℕ) → IsOneLine (row_line k es)
one_row k es = record {
  before = codes "m" ++ numbers_text (k ∷ []) ++ codes ":" ++ numbers_text es;
  none = feed_append (codes "m" ++ numbers_text (k ∷ []) ++ codes ":") (numbers_text es)
      (feed_append (codes "m" ++ numbers_text (k ∷ [])) (codes ":") (feed_append (codes "m") (numbers_text (k ∷ [])) refl (feed_numbers (k ∷ []))) refl) (feed_numbers es);
  ends = refl;
}

-- a line in front of others
pub first_line : (t u rest : List ℕ) → IsOneLine t → lines_of ((t ++ u) ++ rest) ≡ t ∷ lines_of (u ++ rest)
first_line t u rest o = ap lines_of (append_assoc t u rest) ∙ texts_have_their_lines.first t (u ++ rest) o

-- ---- runs

-- the numbers of lines, each with the kind beside it
abbrev pub heads : List ℕ → List ℕ → List (ℕ × ℕ)
heads [] ws = []
heads (n ∷ ns) [] = (n, 0) ∷ heads ns []
heads (n ∷ ns) (w ∷ ws) = (n, w) ∷ heads ns ws

pub length_heads : (ns ws : List ℕ) → length (heads ns ws) ≡ length ns
length_heads [] ws = refl
length_heads (n ∷ ns) [] = ap suc (length_heads ns [])
length_heads (n ∷ ns) (w ∷ ws) = ap suc (length_heads ns ws)

pub drop_heads : (i : ℕ) (ns ws : List ℕ) → i < length ns → drop i (heads ns ws) ≡ (get_or ns i 0, get_or ws i 0) ∷ drop (suc i) (heads ns ws)
drop_heads i [] ws l = absurd (omega arith)
drop_heads zero (n ∷ ns) [] l = refl
drop_heads zero (n ∷ ns) (w ∷ ws) l = refl
drop_heads (suc i) (n ∷ ns) [] l = drop_heads i ns [] (omega arith)
drop_heads (suc i) (n ∷ ns) (w ∷ ws) l = drop_heads i ns ws (omega arith)

module _ (p : ℕ) (word : List ℕ) (first : Option ℕ) (kinds : List ℕ) where
  -- a line of the run
  abbrev pub IsRunItem : ℕ × ℕ → Item → Type 0
  IsRunItem h z = IsChainItem p word (head_of first h.0) kinds h.1 z

  pub told_run : (h : ℕ × ℕ) → IsTold (IsRunItem h)
  told_run h = told_chain p word (head_of first h.0) kinds h.1

  -- one with no terms
  pub some_run : (h : ℕ × ℕ) → (z : Item) × IsRunItem h z
  some_run h = (chain_item word (head_of first h.0) kinds h.1 [], record { chain = []; are = tt; is = refl })

  -- the lines of chains
  abbrev pub run_items : List (ℕ × ℕ) → List (List (ℕ × ℕ)) → List Item
  run_items [] cs = []
  run_items (h ∷ hs) [] = []
  run_items (h ∷ hs) (c ∷ cs) = chain_item word (head_of first h.0) kinds h.1 c ∷ run_items hs cs

  pub run_length : (hs : List (ℕ × ℕ)) (cs : List (List (ℕ × ℕ))) → length cs ≤ length hs → length (run_items hs cs) ≡ length cs
  run_length [] [] l = refl
  run_length [] (c ∷ cs) l = absurd (omega arith)
  run_length (h ∷ hs) [] l = refl
  run_length (h ∷ hs) (c ∷ cs) l = ap suc (run_length hs cs (omega arith))

  pub run_are : (hs : List (ℕ × ℕ)) (cs : List (List (ℕ × ℕ))) → ((i : ℕ) → i < length cs → AreTerms p 0 (nth cs i)) → AreRun IsRunItem hs (run_items hs cs)
  run_are [] cs f = tt
  run_are (h ∷ hs) [] f = tt
  run_are (h ∷ hs) (c ∷ cs) f = (record { chain = c; are = f 0 (omega arith); is = refl }, run_are hs cs (λ i l. f (suc i) (omega arith)))

  pub run_names : (ns ws : List ℕ) (cs : List (List (ℕ × ℕ))) → ((i : ℕ) → i < length cs → NamesKind kinds (get_or ws i 0) (nth cs i)) → AllNames (run_items (heads ns ws) cs)
  run_names [] ws cs f = tt
  run_names (n ∷ ns) [] [] f = tt
  run_names (n ∷ ns) (w ∷ ws) [] f = tt
  run_names (n ∷ ns) [] (c ∷ cs) f = (f 0 (omega arith), run_names ns [] cs (λ i l. f (suc i) (omega arith)))
  run_names (n ∷ ns) (w ∷ ws) (c ∷ cs) f = (f 0 (omega arith), run_names ns ws cs (λ i l. f (suc i) (omega arith)))

  pub run_lines : no_feed word ≡ true → (ns ws : List ℕ) (cs : List (List (ℕ × ℕ))) (rest : List ℕ)
      → lines_of (run_text word first ns cs ++ rest) ≡ texts (run_items (heads ns ws) cs) ++ lines_of rest
  run_lines o [] ws cs rest = refl
  run_lines o (n ∷ ns) [] [] rest = refl
  run_lines o (n ∷ ns) (w ∷ ws) [] rest = refl
  run_lines o (n ∷ ns) [] (c ∷ cs) rest =
      let t : List ℕ = chain_line word (head_of first n) c in
      first_line t (run_text word first ns cs) rest (one_chain word (head_of first n) c o) ∙ ap (λ l. t ∷ l) (run_lines o ns [] cs rest)
  run_lines o (n ∷ ns) (w ∷ ws) (c ∷ cs) rest =
      let t : List ℕ = chain_line word (head_of first n) c in
      first_line t (run_text word first ns cs) rest (one_chain word (head_of first n) c o) ∙ ap (λ l. t ∷ l) (run_lines o ns ws cs rest)
