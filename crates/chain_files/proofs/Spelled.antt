-- A text that has a value by the grammar is read with it.
use Rattle.std.proofs.Common.{◌≡◌, ◌≤◌, ◌<◌, ℕ, ◌+◌, ℤ, pos, List, [], ◌∷◌, Bool, true, false, ◌==◌, ◌&&◌, nat_lt, nat_le, cond, Ok, refl, sym, ap, ◌∙◌, eq-eqb}
use Rattle.std.specs.Str.{bytes_eq}
use Rattle.std.specs.Ordering.{int_eq}
use Rattle.std.proofs.lemmas.Slice.Eq.{bytes_eq-Decides}
use Rattle.std.proofs.lemmas.Bool.Decides.{Decides-int_eq, Decides-ltb}
use Rattle.outside.specs.Tokens.{Lexeme, number, word, mark}
use Rattle.chain_files.specs.Content.{Content}
use Rattle.chain_files.specs.Known.{Known, residue, with_boundary, with_count, with_top}
use Rattle.chain_files.specs.Items.{Item, degree, zero_boundary, boundary, further_term, spelled, heading, Joins, Gathers}
use Rattle.chain_files.specs.Steps.{Step, goes, stops, for_word, judged, between, times, step, is_whole}
use Rattle.chain_files.specs.ChainFile.{said}
use Rattle.chain_files.specs.Reading.{read}
use Rattle.chain_files.specs.declared.due.Due.{Due}
use Rattle.chain_files.specs.declared.due.Due.TheVariants.{Chain, Complex, Max, Dimension, Top, Between, Degree, Colon, Count, Generator, Equals, First, Zero, Times, Target, Further, Coefficient}
use Rattle.chain_files.specs.declared.fault.ChainCause.TheVariants.{BadByte, BadNumber, TooManyTerms}
use Rattle.chain_files.specs.Numbers.{most_terms, chain_word, complex_word, max_word, dimension_word}
use Rattle.chain_files.proofs.Deciding.{le_tested, zero_mod, on_test}
use Rattle.chain_files.proofs.Refusing.{read_goes, read_end}

-- what is due behind an item, with a term or without
abbrev Behind : Bool → Due → Type 0
Behind b Between = b ≡ false
Behind b (Zero place) = b ≡ false
Behind b Further = b ≡ true
Behind b due = ⊥

same_word : (w : List ℕ) → bytes_eq w w ≡ true
same_word w = (bytes_eq-Decides w w).1 refl

word_found : (w : List ℕ) (x : Step) (at : ℕ) → for_word w x at (word w) ≡ x
word_found w x at = ap (λ b. cond b x (stops at BadByte)) (same_word w)

both_true : (a b : Bool) → a ≡ true → b ≡ true → (a && b) ≡ true
both_true a b h k = rw (h, k) refl

between_dimension : (s : Known) (at : ℕ) → s.next ≤ s.content.top → between s at (word dimension_word) ≡ goes s (Degree s.next)
between_dimension s at le = ap (λ b. cond b (goes s (Degree s.next)) (stops at BadByte)) (both_true (bytes_eq dimension_word dimension_word) (nat_le s.next s.content.top) (same_word dimension_word) (le_tested s.next s.content.top le))

between_boundary : (s : Known) (at : ℕ) → 0 < s.next → between s at (mark 35) ≡ goes s Generator
between_boundary s at lt = ap (λ b. cond b (goes s Generator) (stops at BadByte)) (both_true (35 == 35) (nat_lt 0 s.next) refl ((Decides-ltb 0 s.next).1 lt))

module _ (p end : ℕ) (content : Content) where
  dimension_step : (s : Known) (b : Bool) (due : Due) (at : ℕ) → Behind b due → s.next ≤ s.content.top → step p s due at (word dimension_word) ≡ goes s (Degree s.next)
  dimension_step s b Between at st le = between_dimension s at le
  dimension_step s b (Zero place) at st le = between_dimension s at le
  dimension_step s b Further at st le = between_dimension s at le
  dimension_step s b due at st le = absurd st

  boundary_step : (s : Known) (b : Bool) (due : Due) (at : ℕ) → Behind b due → 0 < s.next → step p s due at (mark 35) ≡ goes s Generator
  boundary_step s b Between at st lt = between_boundary s at lt
  boundary_step s b (Zero place) at st lt = between_boundary s at lt
  boundary_step s b Further at st lt = between_boundary s at lt
  boundary_step s b due at st lt = absurd st

  term_step : (s : Known) (b : Bool) (due : Due) (at : ℕ) → Behind b due → b ≡ true → step p s due at (mark 43) ≡ goes s Coefficient
  term_step s b Between at st e = cc
  term_step s b (Zero place) at st e = cc
  term_step s b Further at st e = refl
  term_step s b due at st e = absurd st

  whole_end : (s : Known) (b : Bool) (due : Due) → Behind b due → s.next ≡ s.content.top + 1 → is_whole s due ≡ true
  whole_end s b Between st w = eq-eqb s.next (s.content.top + 1) w
  whole_end s b (Zero place) st w = eq-eqb s.next (s.content.top + 1) w
  whole_end s b Further st w = eq-eqb s.next (s.content.top + 1) w
  whole_end s b due st w = absurd st

  -- tokens that say this are read with the value
  abbrev pub Reads : Known → Due → List Lexeme → Type 0
  Reads s due ls = (ts : List (ℕ × Lexeme)) → said ts ≡ ls → read p s due end ts ≡ Ok content

  one : (s s' : Known) (due : Due) (due' : ℕ → Due) (l : Lexeme) (ls : List Lexeme) → ((at : ℕ) → step p s due at l ≡ goes s' (due' at))
      → ((at : ℕ) → Reads s' (due' at) ls) → Reads s due (l ∷ ls)
  one s s' due due' l ls e h [] k = cc
  one s s' due due' l ls e h (t ∷ ts) k =
      let head : t.1 ≡ l = cc in
      read_goes p end s s' due (due' t.0) t ts (ap (step p s due t.0) head ∙ e t.0) ∙ h t.0 ts cc

  at_end : (s : Known) (b : Bool) (due : Due) → Behind b due → s.next ≡ s.content.top + 1 → content ≡ s.content → Reads s due []
  at_end s b due st w e [] k = read_end p end s due (whole_end s b due st w) ∙ ap Ok (sym e)
  at_end s b due st w e (t ∷ ts) k = cc

  -- a term from its `*` on
  product : (s now : Known) (due : Due) (c t : ℤ) (ls : List Lexeme) → ((at : ℕ) → (place : ℕ) × (step p s due at (mark 42) ≡ times s place (residue p c)))
      → Joins p s c t now → Reads now Further ls → Reads s due (mark 42 ∷ number t ∷ ls)
  product s now due c t ls e j h =
      one s (with_count s) due (λ _. Target (residue p c)) (mark 42) (number t ∷ ls)
      (λ at. (e at).1 ∙ ap (λ b. cond b (goes (with_count s) (Target (residue p c))) (stops (e at).0 TooManyTerms)) ((Decides-ltb s.terms most_terms).1 j.few))
      (λ _. one (with_count s) now (Target (residue p c)) (λ _. Further) (number t) ls (λ at. ap (judged at Further) j.joins) (λ _. h))

  abbrev first_due : ℕ → ℤ → Due
  first_due at c = cond (int_eq c (pos 0)) (Zero at) (Times at (residue p c))

  first_step : (s : Known) (at : ℕ) (c : ℤ) → step p s First at (number c) ≡ goes s (first_due at c)
  first_step s at c = on_test (int_eq c (pos 0)) (λ e. rw e refl) (λ e. rw e refl)

  zero_residue : (c : ℤ) → int_eq c (pos 0) ≡ true → 0 ≡ residue p c
  zero_residue c e = sym (ap (residue p) ((Decides-int_eq c (pos 0)).0 e) ∙ zero_mod p)

  first_times : (s : Known) (place : ℕ) (c : ℤ) (at : ℕ) → step p s (first_due place c) at (mark 42) ≡ times s place (residue p c)
  first_times s place c at = on_test (int_eq c (pos 0))
      (λ e. ap (λ b. step p s (cond b (Zero place) (Times place (residue p c))) at (mark 42)) e ∙ ap (times s place) (zero_residue c e))
      (λ e. ap (λ b. step p s (cond b (Zero place) (Times place (residue p c))) at (mark 42)) e)

  line : (s now : Known) (b : Bool) (due : Due) (g : ℤ) (ls : List Lexeme) → Behind b due → 0 < s.next → with_boundary s g ≡ Ok now → Reads now First ls
      → Reads s due (mark 35 ∷ number g ∷ mark 61 ∷ ls)
  line s now b due g ls st lt e h =
      one s s due (λ _. Generator) (mark 35) (number g ∷ mark 61 ∷ ls) (λ at. boundary_step s b due at st lt)
      (λ _. one s now Generator (λ _. Equals) (number g) (mark 61 ∷ ls) (λ at. ap (judged at Equals) e)
      (λ _. one now now Equals (λ _. First) (mark 61) ls (λ at. refl) (λ _. h)))

  pub items_read : (items : List Item) (s all : Known) (b : Bool) (due : Due) → Behind b due → Gathers p s b items all
      → all.next ≡ all.content.top + 1 → content ≡ all.content → Reads s due (spelled items)
  items_read [] s all b due st g w e = at_end s b due st (rw g at w) (rw g at e)
  items_read (degree k n ∷ items) s all b due st g w e =
      one s s due (λ _. Degree s.next) (word dimension_word) (number k ∷ mark 58 ∷ number n ∷ spelled items) (λ at. dimension_step s b due at st g.1.0)
      (λ _. one s s (Degree s.next) (λ _. Colon s.next) (number k) (mark 58 ∷ number n ∷ spelled items)
      (λ at. ap (λ x. cond x (goes s (Colon s.next)) (stops at BadNumber)) ((Decides-int_eq k (pos s.next)).1 g.1.1))
      (λ _. one s s (Colon s.next) (λ _. Count s.next) (mark 58) (number n ∷ spelled items) (λ at. refl)
      (λ _. one s g.0 (Count s.next) (λ _. Between) (number n) (spelled items) (λ at. ap (judged at Between) g.1.2)
      (λ _. items_read items g.0 all false Between refl g.2 w e))))
  items_read (zero_boundary n ∷ items) s all b due st g w e =
      line s g.0 b due n (number (pos 0) ∷ spelled items) st g.1.0 g.1.1
      (one g.0 g.0 First (λ at. Zero at) (number (pos 0)) (spelled items) (λ at. refl)
      (λ at. items_read items g.0 all false (Zero at) refl g.2 w e))
  items_read (boundary n c t ∷ items) s all b due st g w e =
      line s g.1.1 b due n (number c ∷ mark 42 ∷ number t ∷ spelled items) st g.1.0 g.1.2
      (one g.1.1 g.1.1 First (λ at. first_due at c) (number c) (mark 42 ∷ number t ∷ spelled items) (λ at. first_step g.1.1 at c)
      (λ place. product g.1.1 g.0 (first_due place c) c t (spelled items) (λ at. (place, first_times g.1.1 place c at)) g.1.3
      (items_read items g.0 all true Further refl g.2 w e)))
  items_read (further_term c t ∷ items) s all b due st g w e =
      one s s due (λ _. Coefficient) (mark 43) (number c ∷ mark 42 ∷ number t ∷ spelled items) (λ at. term_step s b due at st g.1.0)
      (λ _. one s s Coefficient (λ at. Times at (residue p c)) (number c) (mark 42 ∷ number t ∷ spelled items) (λ at. refl)
      (λ place. product s g.0 (Times place (residue p c)) c t (spelled items) (λ at. (place, refl)) g.1.1
      (items_read items g.0 all true Further refl g.2 w e)))

  pub heading_read : (s now : Known) (top : ℤ) (ls : List Lexeme) → with_top s top ≡ Ok now → Reads now Between ls → Reads s Chain (heading top ls)
  heading_read s now top ls e h =
      one s s Chain (λ _. Complex) (word chain_word) _ (λ at. word_found chain_word (goes s Complex) at)
      (λ _. one s s Complex (λ _. Max) (word complex_word) _ (λ at. word_found complex_word (goes s Max) at)
      (λ _. one s s Max (λ _. Dimension) (word max_word) _ (λ at. word_found max_word (goes s Dimension) at)
      (λ _. one s s Dimension (λ _. Top) (word dimension_word) _ (λ at. word_found dimension_word (goes s Top) at)
      (λ _. one s now Top (λ _. Between) (number top) ls (λ at. ap (judged at Between) e) (λ _. h)))))
