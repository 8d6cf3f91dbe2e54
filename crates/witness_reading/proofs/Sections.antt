-- The section of a pair as a form, and where the bytes leave it.
use Rattle.std.proofs.Common.{◌≡◌, ℕ, ◌≤◌, refl, sym, ap, ◌∙◌, arith, List, [], ◌∷◌, ◌++◌, get_or, Bool, Option, None}
use Rattle.std.specs.Prelude.{codes}
use Rattle.witness_laws.specs.Lines.{chain_line, lines_of, IsOneLine}
use Rattle.witness_laws.proofs.Texts.{texts_have_their_lines}
use Rattle.section_reading.specs.Section.{degrees_of, kinds_of, HasPair, HasSection}
use Rattle.witness_reading.proofs.Forms.{Item, texts, reads_line, Then, Run, run_some}
use Rattle.witness_reading.proofs.Shapes.{word_item, IsWordItem, told_word}
use Rattle.witness_reading.proofs.Runs.{heads, IsRunItem, some_run}
use Rattle.witness_reading.proofs.Cycling.{Cycles, FirstIsZ, IsOver}
use Rattle.witness_reading.proofs.Places.{StopsAt, at_behind, run_step, cycles_step}

-- ---- runs that do not begin like a cycle

-- a line of a word that does not begin so
other_byte : (p : ℕ) (word : List ℕ) (first : Option ℕ) (kinds : List ℕ) (h : ℕ × ℕ) (z : Item) → ((ns : List ℕ) (c : List (ℕ × ℕ)) → get_or (chain_line word ns c) 0 0 ≡ 122 → ⊥)
    → IsRunItem p word first kinds h z → get_or z.text 0 0 ≡ 122 → ⊥
other_byte p word first kinds h z f a e = f _ a.chain (ap (λ (x : Item). get_or x.text 0 0) (sym a.is) ∙ e)

run_over : (p : ℕ) (word : List ℕ) (first : Option ℕ) (kinds : List ℕ) (hs : List (ℕ × ℕ)) (K : List Item → List Item → Type 0)
    → ((ns : List ℕ) (c : List (ℕ × ℕ)) → get_or (chain_line word ns c) 0 0 ≡ 122 → ⊥)
    → ((xs ys : List Item) → K xs ys → FirstIsZ (texts ys) → ⊥) → (ys : List Item) → Run (IsRunItem p word first kinds) hs K ys → FirstIsZ (texts ys) → ⊥
run_over p word first kinds [] K f g ys r e = g [] ys r e
run_over p word first kinds (h ∷ hs) K f g [] r e = r
run_over p word first kinds (h ∷ hs) K f g (y ∷ ys) r e = other_byte p word first kinds h y f r.0 e

-- ---- the form

module _ (p top : ℕ) (kinds numbers wanted : List ℕ) (K : List (ℕ × List (ℕ × ℕ)) → List Item → Type 0) where
  abbrev pub Chains : List (ℕ × List (ℕ × ℕ)) → List Item → Type 0
  Chains cs = Run (IsRunItem p (codes "h") None kinds) (heads numbers wanted) (λ _. K cs)

  abbrev pub Cocycles : List (ℕ × List (ℕ × ℕ)) → List Item → Type 0
  Cocycles cs = Run (IsRunItem p (codes "c") None kinds) (heads (degrees_of cs) (kinds_of cs)) (λ _. Chains cs)

  abbrev pub Pair : List Item → Type 0
  Pair = Cycles p top kinds 0 Cocycles

  -- the first line, cycles, cocycles, chains, and what K says of the cycles
  abbrev pub Section : List ℕ → List Item → Type 0
  Section head = Then (IsWordItem head) (λ _. Pair)

  module _ (over : IsOver K) (fills : (cs : List (ℕ × List (ℕ × ℕ))) → (ys : List Item) × K cs ys) where
    chains_over : (cs : List (ℕ × List (ℕ × ℕ))) (ys : List Item) → Chains cs ys → FirstIsZ (texts ys) → ⊥
    chains_over cs ys = run_over p (codes "h") None kinds (heads numbers wanted) (λ _. K cs) (λ ns c (q : 104 ≡ 122). omega arith) (λ xs ys. over cs ys) ys

    pub pair_over : IsOver Cocycles
    pair_over cs ys = run_over p (codes "c") None kinds (heads (degrees_of cs) (kinds_of cs)) (λ _. Chains cs) (λ ns c (q : 99 ≡ 122). omega arith) (λ xs ys. chains_over cs ys) ys

    pub chains_some : (cs : List (ℕ × List (ℕ × ℕ))) → (ys : List Item) × Chains cs ys
    chains_some cs = run_some (IsRunItem p (codes "h") None kinds) (heads numbers wanted) (λ _. K cs) (some_run p (codes "h") None kinds) (λ xs a e. fills cs)

    pub cocycles_some : (cs : List (ℕ × List (ℕ × ℕ))) → (ys : List Item) × Cocycles cs ys
    cocycles_some cs = run_some (IsRunItem p (codes "c") None kinds) (heads (degrees_of cs) (kinds_of cs)) (λ _. Chains cs) (some_run p (codes "c") None kinds) (λ xs a e. chains_some cs)

    -- no cycles at all
    pub pair_some : (ys : List Item) × Pair ys
    pair_some = let w = cocycles_some [] in (w.0, record { cycles = []; rest = w.0; are = (let q : 0 ≤ top = omega arith in q); is = refl; allowed = w.1 })

    -- ---- behind the section

    pub pair_step : (b : Bool) (bytes : List ℕ) (cs : List (ℕ × List (ℕ × ℕ))) (cocycles homotopy : List (List (ℕ × ℕ))) (rest : List ℕ) (left : ℕ)
        → HasPair p top kinds numbers wanted bytes cs cocycles homotopy rest → StopsAt b (K cs) rest left → StopsAt b Pair bytes left
    pair_step b bytes cs cocycles homotopy rest left h s =
        cycles_step b p top kinds bytes Cocycles cs h.behind left pair_over h.first
        (run_step b p (codes "c") None kinds (degrees_of cs) (kinds_of cs) h.behind (Chains cs) cocycles h.last left refl h.second.run h.second.names
        (run_step b p (codes "h") None kinds numbers wanted h.last (K cs) homotopy rest left refl h.third h.names s))

    pub behind_head : (b : Bool) (head bytes behind : List ℕ) (left : ℕ) → IsOneLine head → bytes ≡ head ++ behind → StopsAt b Pair behind left → StopsAt b (Section head) bytes left
    behind_head b head bytes behind left o e s =
        at_behind b (Section head) (word_item head ∷ []) Pair bytes head behind left e (ap lines_of e ∙ texts_have_their_lines.first head behind o)
        (reads_line (IsWordItem head) (λ _. Pair) (word_item head) (told_word head) refl) (tt, tt) s

    pub section_step : (b : Bool) (head bytes : List ℕ) (cs : List (ℕ × List (ℕ × ℕ))) (cocycles homotopy : List (List (ℕ × ℕ))) (rest : List ℕ) (left : ℕ) → IsOneLine head
        → HasSection p head top kinds numbers wanted bytes cs cocycles homotopy rest → StopsAt b (K cs) rest left → StopsAt b (Section head) bytes left
    section_step b head bytes cs cocycles homotopy rest left o h s =
        behind_head b head bytes h.behind_head left o h.split (pair_step b h.behind_head cs cocycles homotopy rest left h.pair s)
