-- A text that is read with a value has it by the grammar.
use Rattle.std.proofs.Common.{◌≡◌, ◌≤◌, ◌<◌, ◌⊎◌, inl, inr, ⊎_elim, ℕ, ◌+◌, ℤ, pos, List, [], ◌∷◌, Bool, true, false, ◌==◌, ◌&&◌, nat_lt, nat_le, cond, Result, Ok, Err, refl, sym, ap, ◌∙◌, eqb-true}
use Rattle.std.specs.Str.{bytes_eq}
use Rattle.std.specs.Ordering.{int_eq}
use Rattle.std.proofs.lemmas.Slice.Eq.{bytes_eq-Decides}
use Rattle.std.proofs.lemmas.Bool.Decides.{Decides-int_eq, Decides-ltb}
use Rattle.outside.specs.Tokens.{Lexeme, number, wide, arrow, word, mark, other}
use Rattle.chain_files.specs.Content.{Content}
use Rattle.chain_files.specs.Known.{Known, residue, with_top, with_degree, with_boundary, with_count, with_term}
use Rattle.chain_files.specs.Items.{degree, zero_boundary, boundary, further_term}
use Rattle.chain_files.specs.Steps.{Step, goes, stops, for_word, for_mark, for_number, judged, between, times, is_the_mark, step, is_between, is_whole}
use Rattle.chain_files.specs.ChainFile.{said}
use Rattle.chain_files.specs.Reading.{Outcome, next, read}
use Rattle.chain_files.specs.declared.due.Due.{Due}
use Rattle.chain_files.specs.declared.due.Due.TheVariants.{Chain, Complex, Max, Dimension, Top, Between, Degree, Colon, Count, Generator, Equals, First, Zero, Times, Target, Further, Coefficient}
use Rattle.chain_files.specs.declared.fault.ChainCause.{ChainCause}
use Rattle.chain_files.specs.declared.fault.ChainCause.TheVariants.{BadByte, BadNumber, TooManyTerms, Unclosed}
use Rattle.chain_files.specs.Numbers.{most_terms, chain_word, complex_word, max_word, dimension_word}
use Rattle.chain_files.proofs.Deciding.{le_told, zero_mod, on_test, and_both}
use Rattle.chain_files.proofs.Refusing.{read_end, read_unclosed}
use Rattle.chain_files.proofs.Following.{Rest, Token, Made, AtDegree, AtTimes, AtCoefficient, AtFirst, AtEquals, AtGenerator, Follows}

-- what goes on behind a step that leads to a value
abbrev On : Step → (Known → Due → Outcome) → Outcome
On x f = next x f (λ place cause. Err (place, cause))

err_is_no_ok : (e : ℕ × ChainCause) (content : Content) → Err e ≡ Ok content → ⊥
err_is_no_ok e content h = cc

module _ (f : Known → Due → Outcome) (content : Content) where
  found : (b : Bool) (x : Step) (place : ℕ) (cause : ChainCause) → On (cond b x (stops place cause)) f ≡ Ok content → (b ≡ true) × (On x f ≡ Ok content)
  found true x place cause h = (refl, h)
  found false x place cause h = absurd (err_is_no_ok (place, cause) content h)

  told_word : (wanted : List ℕ) (s : Known) (due : Due) (at : ℕ) (l : Lexeme) → On (for_word wanted (goes s due) at l) f ≡ Ok content
      → (l ≡ word wanted) × (f s due ≡ Ok content)
  told_word wanted s due at (word w) h =
      let b = found (bytes_eq wanted w) (goes s due) at BadByte h in (ap word (sym ((bytes_eq-Decides wanted w).0 b.0)), b.1)
  told_word wanted s due at (number z) h = absurd (err_is_no_ok _ content h)
  told_word wanted s due at wide h = absurd (err_is_no_ok _ content h)
  told_word wanted s due at arrow h = absurd (err_is_no_ok _ content h)
  told_word wanted s due at (mark b) h = absurd (err_is_no_ok _ content h)
  told_word wanted s due at (other b) h = absurd (err_is_no_ok _ content h)

  told_mark : (wanted : ℕ) (x : Step) (at : ℕ) (l : Lexeme) → On (for_mark wanted x at l) f ≡ Ok content → (l ≡ mark wanted) × (On x f ≡ Ok content)
  told_mark wanted x at (mark b) h = let e = found (b == wanted) x at BadByte h in (ap mark (eqb-true b wanted e.0), e.1)
  told_mark wanted x at (number z) h = absurd (err_is_no_ok _ content h)
  told_mark wanted x at wide h = absurd (err_is_no_ok _ content h)
  told_mark wanted x at arrow h = absurd (err_is_no_ok _ content h)
  told_mark wanted x at (word w) h = absurd (err_is_no_ok _ content h)
  told_mark wanted x at (other b) h = absurd (err_is_no_ok _ content h)

  told_number : (make : ℤ → Step) (at : ℕ) (l : Lexeme) → On (for_number make at l) f ≡ Ok content → (z : ℤ) × (l ≡ number z) × (On (make z) f ≡ Ok content)
  told_number make at (number z) h = (z, refl, h)
  told_number make at wide h = absurd (err_is_no_ok _ content h)
  told_number make at arrow h = absurd (err_is_no_ok _ content h)
  told_number make at (word w) h = absurd (err_is_no_ok _ content h)
  told_number make at (mark b) h = absurd (err_is_no_ok _ content h)
  told_number make at (other b) h = absurd (err_is_no_ok _ content h)

  told_judged : (at : ℕ) (due : Due) (r : Result Known ChainCause) → On (judged at due r) f ≡ Ok content → (now : Known) × (r ≡ Ok now) × (f now due ≡ Ok content)
  told_judged at due (Ok now) h = (now, refl, h)
  told_judged at due (Err cause) h = absurd (err_is_no_ok _ content h)

  told_between : (s : Known) (at : ℕ) (l : Lexeme) → On (between s at l) f ≡ Ok content
      → ((l ≡ mark 35) × (0 < s.next) × (f s Generator ≡ Ok content)) ⊎ ((l ≡ word dimension_word) × (s.next ≤ s.content.top) × (f s (Degree s.next) ≡ Ok content))
  told_between s at (mark b) h =
      let e = found (b == 35 && nat_lt 0 s.next) (goes s Generator) at BadByte h in
      let both = and_both (b == 35) (nat_lt 0 s.next) e.0 in
      inl (ap mark (eqb-true b 35 both.0), (Decides-ltb 0 s.next).0 both.1, e.1)
  told_between s at (word w) h =
      let e = found (bytes_eq dimension_word w && nat_le s.next s.content.top) (goes s (Degree s.next)) at BadByte h in
      let both = and_both (bytes_eq dimension_word w) (nat_le s.next s.content.top) e.0 in
      inr (ap word (sym ((bytes_eq-Decides dimension_word w).0 both.0)), le_told s.next s.content.top both.1, e.1)
  told_between s at (number z) h = absurd (err_is_no_ok _ content h)
  told_between s at wide h = absurd (err_is_no_ok _ content h)
  told_between s at arrow h = absurd (err_is_no_ok _ content h)
  told_between s at (other b) h = absurd (err_is_no_ok _ content h)

  told_times : (s : Known) (place c : ℕ) → On (times s place c) f ≡ Ok content → (s.terms < most_terms) × (f (with_count s) (Target c) ≡ Ok content)
  told_times s place c h =
      let e = found (nat_lt s.terms most_terms) (goes (with_count s) (Target c)) place TooManyTerms h in
      ((Decides-ltb s.terms most_terms).0 e.0, e.1)

  told_mark_or : (wanted : ℕ) (x y : Step) (l : Lexeme) → On (cond (is_the_mark wanted l) x y) f ≡ Ok content
      → ((l ≡ mark wanted) × (On x f ≡ Ok content)) ⊎ (On y f ≡ Ok content)
  told_mark_or wanted x y (mark b) h = on_test (b == wanted)
      (λ (e : (b == wanted) ≡ true). inl (ap mark (eqb-true b wanted e), rw e at h))
      (λ (e : (b == wanted) ≡ false). inr (rw e at h))
  told_mark_or wanted x y (number z) h = inr h
  told_mark_or wanted x y wide h = inr h
  told_mark_or wanted x y arrow h = inr h
  told_mark_or wanted x y (word w) h = inr h
  told_mark_or wanted x y (other b) h = inr h

-- items that begin in front of what follows

degree_rest : (p : ℕ) (s : Known) (b : Bool) (content : Content) (ls : List Lexeme) → s.next ≤ s.content.top
    → AtDegree p s s.next content ls → Rest p s b content (word dimension_word ∷ ls)
degree_rest p s b content ls le h =
    let made = h.then.then in
    let rest = made.token.then in
    record {
      items = degree (pos s.next) made.z ∷ rest.items;
      all = rest.all;
      spelling = ap (λ l. word dimension_word ∷ l) (h.is ∙ ap (λ l. number (pos s.next) ∷ l) (h.then.is ∙ ap (λ l. mark 58 ∷ l) (made.token.is ∙ ap (λ l. number made.z ∷ l) rest.spelling)));
      gathers = (made.now, (le, refl, made.made), rest.gathers);
      whole = rest.whole;
      is_content = rest.is_content;
    }

zero_rest : (p : ℕ) (s now : Known) (b : Bool) (content : Content) (g : ℤ) (ls : List Lexeme) → 0 < s.next → with_boundary s g ≡ Ok now
    → Rest p now false content ls → Rest p s b content (mark 35 ∷ number g ∷ mark 61 ∷ number (pos 0) ∷ ls)
zero_rest p s now b content g ls lt e rest = record {
  items = zero_boundary g ∷ rest.items;
  all = rest.all;
  spelling = ap (λ l. mark 35 ∷ number g ∷ mark 61 ∷ number (pos 0) ∷ l) rest.spelling;
  gathers = (now, (lt, e), rest.gathers);
  whole = rest.whole;
  is_content = rest.is_content;
}

line_rest : (p : ℕ) (s now : Known) (b : Bool) (content : Content) (g : ℤ) (ls : List Lexeme) → 0 < s.next → with_boundary s g ≡ Ok now
    → AtCoefficient p now content ls → Rest p s b content (mark 35 ∷ number g ∷ mark 61 ∷ ls)
line_rest p s now b content g ls lt e h =
    let times = h.token.then in
    let made = times.token.then in
    let rest = made.token.then in
    record {
      items = boundary g h.c made.z ∷ rest.items;
      all = rest.all;
      spelling = ap (λ l. mark 35 ∷ number g ∷ mark 61 ∷ l)
          (h.token.is ∙ ap (λ l. number h.c ∷ l) (times.token.is ∙ ap (λ l. mark 42 ∷ l) (made.token.is ∙ ap (λ l. number made.z ∷ l) rest.spelling)));
      gathers = (made.now, (lt, now, e, record { few = times.few; joins = made.made }), rest.gathers);
      whole = rest.whole;
      is_content = rest.is_content;
    }

term_rest : (p : ℕ) (s : Known) (content : Content) (ls : List Lexeme) → AtCoefficient p s content ls → Rest p s true content (mark 43 ∷ ls)
term_rest p s content ls h =
    let times = h.token.then in
    let made = times.token.then in
    let rest = made.token.then in
    record {
      items = further_term h.c made.z ∷ rest.items;
      all = rest.all;
      spelling = ap (λ l. mark 43 ∷ l)
          (h.token.is ∙ ap (λ l. number h.c ∷ l) (times.token.is ∙ ap (λ l. mark 42 ∷ l) (made.token.is ∙ ap (λ l. number made.z ∷ l) rest.spelling)));
      gathers = (made.now, (refl, record { few = times.few; joins = made.made }), rest.gathers);
      whole = rest.whole;
      is_content = rest.is_content;
    }

first_rest : (p : ℕ) (s now : Known) (b : Bool) (content : Content) (g : ℤ) (ls : List Lexeme) → 0 < s.next → with_boundary s g ≡ Ok now
    → AtFirst p now content ls → Rest p s b content (mark 35 ∷ number g ∷ mark 61 ∷ ls)
first_rest p s now b content g ls lt e h = ⊎_elim
    (λ z. rw z.is (zero_rest p s now b content g z.rest lt e z.then))
    (λ c. line_rest p s now b content g ls lt e c) h

boundary_rest : (p : ℕ) (s : Known) (b : Bool) (content : Content) (ls : List Lexeme) → 0 < s.next → AtGenerator p s content ls → Rest p s b content (mark 35 ∷ ls)
boundary_rest p s b content ls lt h =
    let first = first_rest p s h.now b content h.z h.token.then.rest lt h.made h.token.then.then in
    rw (h.token.is, h.token.then.is) first

end_rest : (p : ℕ) (s : Known) (b : Bool) (content : Content) → s.next ≡ s.content.top + 1 → content ≡ s.content → Rest p s b content []
end_rest p s b content w e = record {
  items = [];
  all = s;
  spelling = refl;
  gathers = refl;
  whole = w;
  is_content = e;
}

-- at the end of the text

ended : (p : ℕ) (s : Known) (due : Due) (content : Content) → (is_between due && (s.next == s.content.top + 1)) ≡ true → content ≡ s.content → Follows p s due content []
ended p s Between content w e = end_rest p s false content (eqb-true s.next (s.content.top + 1) w) e
ended p s (Zero place) content w e = inl (end_rest p s false content (eqb-true s.next (s.content.top + 1) w) e)
ended p s Further content w e = end_rest p s true content (eqb-true s.next (s.content.top + 1) w) e
ended p s Chain content w e = cc
ended p s Complex content w e = cc
ended p s Max content w e = cc
ended p s Dimension content w e = cc
ended p s Top content w e = cc
ended p s (Degree k) content w e = cc
ended p s (Colon k) content w e = cc
ended p s (Count k) content w e = cc
ended p s Generator content w e = cc
ended p s Equals content w e = cc
ended p s First content w e = cc
ended p s (Times place c) content w e = cc
ended p s (Target c) content w e = cc
ended p s Coefficient content w e = cc

-- what follows a token, by what follows behind it

token : (l : Lexeme) (more : List Lexeme → Type 0) (l' : Lexeme) (ls : List Lexeme) → l' ≡ l → more ls → Token l more (l' ∷ ls)
token l more l' ls e h = record { rest = ls; is = ap (λ x. x ∷ ls) e; then = h }

module _ (p end : ℕ) (content : Content) (ts : List (ℕ × Lexeme)) (more : (s : Known) (due : Due) → read p s due end ts ≡ Ok content → Follows p s due content (said ts)) where
  abbrev on : Known → Due → Outcome
  on s due = read p s due end ts

  by_between : (s : Known) (b : Bool) (at : ℕ) (l : Lexeme) → On (between s at l) on ≡ Ok content → Rest p s b content (l ∷ said ts)
  by_between s b at l h = ⊎_elim
      (λ x. rw x.0 (boundary_rest p s b content (said ts) x.1 (more s Generator x.2)))
      (λ x. rw x.0 (degree_rest p s b content (said ts) x.1 (more s (Degree s.next) x.2)))
      (told_between on content s at l h)

  by_times : (s : Known) (place c : ℕ) (l : Lexeme) → l ≡ mark 42 → On (times s place c) on ≡ Ok content → AtTimes p s c content (l ∷ said ts)
  by_times s place c l e h =
      let t = told_times on content s place c h in
      record { few = t.0; token = token (mark 42) _ l (said ts) e (more (with_count s) (Target c) t.1) }

  by_made : (make : ℤ → Result Known ChainCause) (due : Due) (at : ℕ) (l : Lexeme) (then : Known → List Lexeme → Type 0)
      → ((now : Known) → on now due ≡ Ok content → then now (said ts))
      → On (for_number (λ z. judged at due (make z)) at l) on ≡ Ok content → Made make then (l ∷ said ts)
  by_made make due at l then f h =
      let n = told_number on content (λ z. judged at due (make z)) at l h in
      let j = told_judged on content at due (make n.0) n.2 in
      record { z = n.0; now = j.0; made = j.1; token = token (number n.0) (then j.0) l (said ts) n.1 (f j.0 j.2) }

  told_first : (s : Known) (at : ℕ) (z : ℤ) → On (cond (int_eq z (pos 0)) (goes s (Zero at)) (goes s (Times at (residue p z)))) on ≡ Ok content
      → ((z ≡ pos 0) × (on s (Zero at) ≡ Ok content)) ⊎ (on s (Times at (residue p z)) ≡ Ok content)
  told_first s at z h = on_test (int_eq z (pos 0))
      (λ (e : int_eq z (pos 0) ≡ true). inl ((Decides-int_eq z (pos 0)).0 e, rw e at h))
      (λ (e : int_eq z (pos 0) ≡ false). inr (rw e at h))

  -- the number 0 may be the coefficient of a term
  by_first : (s : Known) (at : ℕ) (l : Lexeme) (z : ℤ) → l ≡ number z
      → ((z ≡ pos 0) × (on s (Zero at) ≡ Ok content)) ⊎ (on s (Times at (residue p z)) ≡ Ok content) → AtFirst p s content (l ∷ said ts)
  by_first s at l z e h = ⊎_elim
      (λ x. ⊎_elim
      (λ rest. inl (token (number (pos 0)) _ l (said ts) (e ∙ ap number x.0) rest))
      (λ times. inr (record {
        c = pos 0;
        token = token (number (pos 0)) (AtTimes p s (residue p (pos 0)) content) l (said ts) (e ∙ ap number x.0) (rw (zero_mod p) times);
      }))
      (more s (Zero at) x.1))
      (λ x. inr (record { c = z; token = token (number z) _ l (said ts) e (more s (Times at (residue p z)) x) }))
      h

  by_step : (s : Known) (due : Due) (at : ℕ) (l : Lexeme) → On (step p s due at l) on ≡ Ok content → Follows p s due content (l ∷ said ts)
  by_step s Chain at l h = let w = told_word on content chain_word s Complex at l h in token (word chain_word) _ l (said ts) w.0 (more s Complex w.1)
  by_step s Complex at l h = let w = told_word on content complex_word s Max at l h in token (word complex_word) _ l (said ts) w.0 (more s Max w.1)
  by_step s Max at l h = let w = told_word on content max_word s Dimension at l h in token (word max_word) _ l (said ts) w.0 (more s Dimension w.1)
  by_step s Dimension at l h = let w = told_word on content dimension_word s Top at l h in token (word dimension_word) _ l (said ts) w.0 (more s Top w.1)
  by_step s Top at l h = by_made (with_top s) Between at l (λ now. Rest p now false content) (λ now e. more now Between e) h
  by_step s Between at l h = by_between s false at l h
  by_step s (Degree k) at l h =
      let n = told_number on content (λ z. cond (int_eq z (pos k)) (goes s (Colon k)) (stops at BadNumber)) at l h in
      let e = found on content (int_eq n.0 (pos k)) (goes s (Colon k)) at BadNumber n.2 in
      token (number (pos k)) _ l (said ts) (n.1 ∙ ap number ((Decides-int_eq n.0 (pos k)).0 e.0)) (more s (Colon k) e.1)
  by_step s (Colon k) at l h = let m = told_mark on content 58 (goes s (Count k)) at l h in token (mark 58) _ l (said ts) m.0 (more s (Count k) m.1)
  by_step s (Count k) at l h = by_made (with_degree s k) Between at l (λ now. Rest p now false content) (λ now e. more now Between e) h
  by_step s Generator at l h = by_made (with_boundary s) Equals at l (λ now. AtEquals p now content) (λ now e. more now Equals e) h
  by_step s Equals at l h = let m = told_mark on content 61 (goes s First) at l h in token (mark 61) _ l (said ts) m.0 (more s First m.1)
  by_step s First at l h =
      let n = told_number on content (λ z. cond (int_eq z (pos 0)) (goes s (Zero at)) (goes s (Times at (residue p z)))) at l h in
      by_first s at l n.0 n.1 (told_first s at n.0 n.2)
  by_step s (Zero place) at l h = ⊎_elim
      (λ x. inr (by_times s place 0 l x.0 x.1))
      (λ x. inl (by_between s false at l x))
      (told_mark_or on content 42 (times s place 0) (between s at l) l h)
  by_step s (Times place c) at l h = let m = told_mark on content 42 (times s place c) at l h in by_times s place c l m.0 m.1
  by_step s (Target c) at l h = by_made (with_term s c) Further at l (λ now. Rest p now true content) (λ now e. more now Further e) h
  by_step s Further at l h = ⊎_elim
      (λ x. rw x.0 (term_rest p s content (said ts) (more s Coefficient x.1)))
      (λ x. by_between s true at l x)
      (told_mark_or on content 43 (goes s Coefficient) (between s at l) l h)
  by_step s Coefficient at l h =
      let n = told_number on content (λ z. goes s (Times at (residue p z))) at l h in
      record { c = n.0; token = token (number n.0) _ l (said ts) n.1 (more s (Times at (residue p n.0)) n.2) }

abbrev valued : Content → Outcome
valued content = Ok content

ok_content : (content content' : Content) → valued content ≡ valued content' → content ≡ content'
ok_content content content' h = cc

pub told : (p end : ℕ) (content : Content) (ts : List (ℕ × Lexeme)) (s : Known) (due : Due) → read p s due end ts ≡ Ok content → Follows p s due content (said ts)
told p end content [] s due h = on_test (is_whole s due)
    (λ w. ended p s due content w (ok_content content s.content (sym h ∙ read_end p end s due w)))
    (λ w. absurd (err_is_no_ok (end, Unclosed) content (sym (read_unclosed p end s due w) ∙ h)))
told p end content (t ∷ ts) s due h = by_step p end content ts (λ s' due' e. told p end content ts s' due' e) s due t.0 t.1 h
