-- A text that has a value is given by parts, and its value is what these say.
use Rattle.std.proofs.Common.{◌≡◌, ◌≤◌, ◌<◌, ◌&&◌, ◌||◌, ◌==◌, nat_lt, nat_le, ℕ, ◌+◌, ◌-◌, ℤ, pos, negsuc, List, [], ◌∷◌, ◌++◌, length, Bool, true, false, cond, Some, Ok, Err, refl, sym, ap, ◌∙◌, arith, subst, length-append, length-set, eqb-true, ◌≢◌, ⊎_elim, replicate}
use Rattle.std.proofs.lemmas.List.{ext_get_or, length-replicate}
use Rattle.std.proofs.lemmas.Bool.{cases_eq}
use Rattle.std.proofs.lemmas.Bool.Decides.{Decides-ltb}
use Rattle.outside.specs.Tokens.{number, word, mark, tokens}
use Rattle.chain_files.specs.Content.{Boundary, not_given, Content}
use Rattle.chain_files.specs.Known.{Known, residue, nothing_known, number_in, with_top, with_generators, with_degree, boundary_at, with_boundary_at, opened, with_boundary, with_count}
use Rattle.chain_files.specs.Items.{Item, degree, zero_boundary, boundary, further_term, spelled, heading, Joins, Gathers}
use Rattle.chain_files.specs.ChainFile.{said, HasValue}
use Rattle.chain_files.specs.Numbers.{most_generators, most_terms, greatest_degree, dimension_word}
use Rattle.chain_files.specs.Parts.{Term, Line, Part, further_terms, sum_of, line_tokens, part_tokens, IsNumber, AreTerms, AreLines, AreParts, generators_in, line_terms, terms_in, Says, HasParts, ValuesAreByParts}
use Rattle.chain_files.specs.declared.block.Block.{Block}
use Rattle.chain_files.specs.declared.fault.ChainCause.TheVariants.{BadNumber, RepeatedGenerator, TooManyGenerators}
use Rattle.chain_files.proofs.Deciding.{le_told, le_tested, on_test, and_both}
use Rattle.chain_files.proofs.Grading.{accepted, refused, some_is, opened_as, joined_as}
use Rattle.chain_files.proofs.Outcomes.{one_outcome}
use Rattle.chain_files.proofs.Pieces.{part_items, spelled_parts, after_term, begun_line, after_parts, here_end, set_at, set_other, other_place, not_same, gathers_parts, all_known, parts_say}

-- what the numbers are that make something

number_as : (block : Block) (z : ℤ) (h : ℕ) → number_in block z ≡ Some h → (m : ℕ) × (z ≡ pos m) × IsNumber block.count m × (block.first + (m - 1) ≡ h)
number_as block (pos n) h e =
    let s = some_is (nat_lt 0 n && nat_le n block.count) (block.first + (n - 1)) h e in
    let both = and_both (nat_lt 0 n) (nat_le n block.count) s.0 in
    let above : 0 < n = (Decides-ltb 0 n).0 both.0 in
    (n, refl, ((omega (arith, above)), le_told n block.count both.1), s.1)
number_as block (negsuc n) h e = cc

degree_as : (s now : Known) (k : ℕ) (z : ℤ) → with_degree s k z ≡ Ok now
    → (m : ℕ) × (z ≡ pos m) × (here_end s + m ≤ most_generators) × (with_generators s k m ≡ now)
degree_as s now k (pos n) e =
    let a = accepted (nat_le (s.here.first + s.here.count + n) most_generators) (with_generators s k n) now TooManyGenerators e in
    (n, refl, le_told (s.here.first + s.here.count + n) most_generators a.0, a.1)
degree_as s now k (negsuc n) e = absurd (refused BadNumber now e)

top_as : (s now : Known) (z : ℤ) → with_top s z ≡ Ok now → (n : ℕ) × (z ≡ pos n) × (n ≤ greatest_degree) × (record s { content = record s.content { top = n } } ≡ now)
top_as s now (pos n) e =
    let a = accepted (nat_le n greatest_degree) (record s { content = record s.content { top = n } }) now BadNumber e in
    (n, refl, le_told n greatest_degree a.0, a.1)
top_as s now (negsuc n) e = absurd (refused BadNumber now e)

boundary_as : (s now : Known) (z : ℤ) → with_boundary s z ≡ Ok now
    → (m : ℕ) × (z ≡ pos m) × IsNumber s.here.count m × ((boundary_at s (s.here.first + (m - 1))).given ≡ false) × (begun_line s m ≡ now)
boundary_as s now z e =
    let o = opened_as s now (number_in s.here z) e in
    let m = number_as s.here z o.0 o.1 in
    let fresh : (boundary_at s o.0).given ≡ false = opened_fresh s now o.0 (sym (ap (opened s) o.1) ∙ e) in (
      m.0,
      m.1,
      m.2,
      ap (λ h. (boundary_at s h).given) m.3 ∙ fresh,
      ap (λ h. with_boundary_at s h (record { given = true; terms = [] })) m.3 ∙ o.2,
    )
  where
    opened_fresh : (s now : Known) (h : ℕ) → opened s (Some h) ≡ Ok now → (boundary_at s h).given ≡ false
    opened_fresh s now h e = on_test (boundary_at s h).given
        (λ g. absurd (refused RepeatedGenerator now (rw g at e)))
        (λ g. g)

term_as : (p : ℕ) (s now : Known) (c t : ℤ) → Joins p s c t now
    → (m : ℕ) × (t ≡ pos m) × IsNumber s.below.count m × (after_term p s (record { coefficient = c; target = m }) ≡ now)
term_as p s now c t j =
    let o = joined_as (with_count s) now (residue p c) (number_in s.below t) j.joins in
    let m = number_as s.below t o.0 o.1 in (
      m.0,
      m.1,
      m.2,
      ap (λ h. with_boundary_at (with_count s) s.last (record {
        given = (boundary_at s s.last).given;
        terms = (boundary_at s s.last).terms ++ (h, residue p c) ∷ [];
      })) m.3 ∙ o.2,
    )

-- what holds in front of items
record Before (s : Known) (b : Bool) (named : ℕ → Bool) : Type 0 where
  long : here_end s ≡ length s.content.boundaries
  fits : length s.content.boundaries ≤ most_generators
  terms : s.terms ≤ most_terms
  named_are : (g : ℕ) → IsNumber s.here.count g → named g ≡ true → (boundary_at s (s.here.first + (g - 1))).given ≡ true
  last : b ≡ true → s.last < length s.content.boundaries

-- the items as further terms, then boundaries, then degrees
record Parsed (p : ℕ) (s : Known) (b : Bool) (named : ℕ → Bool) (items : List Item) (all : Known) : Type 0 where
  ts : List Term
  ls : List Line
  ds : List Part
  are : spelled items ≡ further_terms ts (line_tokens ls (part_tokens s.next ds))
  none : b ≡ false → ts ≡ []
  terms_fit : AreTerms s.below.count ts
  lines_fit : AreLines s.below.count s.here.count named ls
  parts_fit : AreParts s.here.count ds
  few : here_end s + generators_in ds ≤ most_generators
  few_terms : s.terms + length ts + line_terms ls + terms_in ds ≤ most_terms
  whole : s.next + length ds ≡ all.next
  top : all.content.top ≡ s.content.top

weaker : (s : Known) (named : ℕ → Bool) → Before s true named → Before s false named
weaker s named h = record { long = h.long; fits = h.fits; terms = h.terms; named_are = h.named_are; last = λ e. cc }

before_degree : (s : Known) (b : Bool) (named : ℕ → Bool) (m : ℕ) → Before s b named → here_end s + m ≤ most_generators
    → Before (with_generators s s.next m) false (λ _. false)
before_degree s b named m h few =
    let longer = length-append s.content.boundaries (replicate m not_given) in
    let many : length (replicate m not_given) ≡ m = length-replicate m not_given in
    record {
      long = omega (arith, h.long, longer, many);
      fits = omega (arith, few, h.long, longer, many);
      terms = h.terms;
      named_are = λ g k e. cc;
      last = λ e. cc;
    }

before_line : (s : Known) (b : Bool) (named : ℕ → Bool) (m : ℕ) → Before s b named → IsNumber s.here.count m
    → Before (begun_line s m) true (λ g. g == m || named g)
before_line s b named m h k =
    let at = s.here.first + (m - 1) in
    let new : Boundary = record { given = true; terms = [] } in
    let long = length-set s.content.boundaries at new in
    let inside : at < length s.content.boundaries = omega (arith, k.0, k.1, h.long) in
    record {
      long = omega (arith, long, h.long);
      fits = omega (arith, long, h.fits);
      terms = h.terms;
      named_are = λ g i e. on_test (g == m)
          (λ (t : (g == m) ≡ true).
          let same : g ≡ m = eqb-true g m t in
          ap (λ x. (boundary_at (begun_line s m) (s.here.first + (x - 1))).given) same ∙ ap (λ (x : Boundary). x.given) (set_at s at new inside))
          (λ (f : (g == m) ≡ false).
          let other : s.here.first + (g - 1) ≢ at = other_place s.here.first s.here.first g m refl i.0 k.0 (not_same g m f) in
          ap (λ (x : Boundary). x.given) (set_other s at (s.here.first + (g - 1)) new other) ∙ h.named_are g i (rw f at e));
      last = λ e. omega (arith, long, inside);
    }

before_term : (p : ℕ) (s : Known) (named : ℕ → Bool) (t : Term) → Before s true named → s.terms < most_terms → Before (after_term p s t) true named
before_term p s named t h few =
    let new : Boundary = record {
      given = (boundary_at s s.last).given;
      terms = (boundary_at s s.last).terms ++ (s.below.first + (t.target - 1), residue p t.coefficient) ∷ [];
    } in
    let long = length-set s.content.boundaries s.last new in
    let inside = h.last refl in
    record {
      long = omega (arith, long, h.long);
      fits = omega (arith, long, h.fits);
      terms = omega (arith, few);
      named_are = λ g i e.
          let at = s.here.first + (g - 1) in
          ⊎_elim
          (λ (q : at ≡ s.last).
          ap (λ x. (boundary_at (after_term p s t) x).given) q ∙ ap (λ (x : Boundary). x.given) (set_at (with_count s) s.last new inside)
          ∙ ap (λ x. (boundary_at s x).given) (sym q) ∙ h.named_are g i e)
          (λ n. ap (λ (x : Boundary). x.given) (set_other (with_count s) s.last at new n) ∙ h.named_are g i e)
          (cases_eq at s.last);
      last = λ e. omega (arith, long, inside);
    }

fresh_name : (s : Known) (b : Bool) (named : ℕ → Bool) (m : ℕ) → Before s b named → IsNumber s.here.count m
    → (boundary_at s (s.here.first + (m - 1))).given ≡ false → named m ≡ false
fresh_name s b named m h k e = on_test (named m) (λ t. let g = h.named_are m k t in cc) (λ f. f)

parsed_degree : (p : ℕ) (s all : Known) (b : Bool) (named : ℕ → Bool) (k n : ℤ) (m : ℕ) (items : List Item) → k ≡ pos s.next → n ≡ pos m
    → Parsed p (with_generators s s.next m) false (λ _. false) items all → here_end s + m ≤ most_generators → s.terms ≤ most_terms
    → Parsed p s b named (degree k n ∷ items) all
parsed_degree p s all b named k n m items ek en r few terms =
    let none = r.none refl in
    record {
      ts = [];
      ls = [];
      ds = record { count = m; lines = r.ls } ∷ r.ds;
      are = ap (λ x. word dimension_word ∷ number x ∷ mark 58 ∷ number n ∷ spelled items) ek
          ∙ ap (λ x. word dimension_word ∷ number (pos s.next) ∷ mark 58 ∷ number x ∷ spelled items) en
          ∙ ap (λ x. word dimension_word ∷ number (pos s.next) ∷ mark 58 ∷ number (pos m) ∷ x)
          (r.are ∙ ap (λ x. further_terms x (line_tokens r.ls (part_tokens (s.next + 1) r.ds))) none);
      none = λ e. refl;
      terms_fit = tt;
      lines_fit = tt;
      parts_fit = (r.lines_fit, r.parts_fit);
      few = let x = r.few in omega (arith, x);
      few_terms = let x = r.few_terms in omega (arith, x, ap length none);
      whole = let x = r.whole in omega (arith, x);
      top = r.top;
    }

parsed_line : (p : ℕ) (s now all : Known) (b c : Bool) (named : ℕ → Bool) (m : ℕ) (first : List Term) (items : List Item) (item : Item)
    → now.below ≡ s.below → now.here ≡ s.here → now.next ≡ s.next → now.content.top ≡ s.content.top → now.terms ≡ s.terms + length first
    → (r : Parsed p now c (λ g. g == m || named g) items all)
    → spelled (item ∷ items) ≡ mark 35 ∷ number (pos m) ∷ mark 61 ∷ sum_of (first ++ r.ts) (line_tokens r.ls (part_tokens now.next r.ds))
    → IsNumber s.here.count m → named m ≡ false → AreTerms s.below.count first → Parsed p s b named (item ∷ items) all
parsed_line p s now all b c named m first items item below here next top came r are k fresh fit =
    let more = length-append first r.ts in
    record {
      ts = [];
      ls = record { generator = m; terms = first ++ r.ts } ∷ r.ls;
      ds = r.ds;
      are = are ∙ ap (λ x. mark 35 ∷ number (pos m) ∷ mark 61 ∷ sum_of (first ++ r.ts) (line_tokens r.ls (part_tokens x r.ds))) next;
      none = λ e. refl;
      terms_fit = tt;
      lines_fit = (
        k,
        fresh,
        both_fit first r.ts s.below.count fit (subst (λ (x : Block). AreTerms x.count r.ts) below r.terms_fit),
        subst (λ (x : Block). AreLines x.count s.here.count (λ g. g == m || named g) r.ls) below
            (subst (λ (x : Block). AreLines now.below.count x.count (λ g. g == m || named g) r.ls) here r.lines_fit),
      );
      parts_fit = subst (λ (x : Block). AreParts x.count r.ds) here r.parts_fit;
      few = let x = r.few in subst (λ (x : Block). x.first + x.count + generators_in r.ds ≤ most_generators) here x;
      few_terms = let x = r.few_terms in omega (arith, x, came, more);
      whole = let x = r.whole in omega (arith, x, next);
      top = r.top ∙ top;
    }
  where
    both_fit : (xs ys : List Term) (n : ℕ) → AreTerms n xs → AreTerms n ys → AreTerms n (xs ++ ys)
    both_fit [] ys n f g = g
    both_fit (x ∷ xs) ys n f g = (f.0, both_fit xs ys n f.1 g)

parsed_further : (p : ℕ) (s all : Known) (named : ℕ → Bool) (c t : ℤ) (m : ℕ) (items : List Item) → t ≡ pos m → IsNumber s.below.count m
    → Parsed p (after_term p s (record { coefficient = c; target = m })) true named items all → Parsed p s true named (further_term c t ∷ items) all
parsed_further p s all named c t m items e k r = record {
  ts = record { coefficient = c; target = m } ∷ r.ts;
  ls = r.ls;
  ds = r.ds;
  are = ap (λ x. mark 43 ∷ number c ∷ mark 42 ∷ number x ∷ spelled items) e
      ∙ ap (λ x. mark 43 ∷ number c ∷ mark 42 ∷ number (pos m) ∷ x) r.are;
  none = λ f. cc;
  terms_fit = (k, r.terms_fit);
  lines_fit = r.lines_fit;
  parts_fit = r.parts_fit;
  few = r.few;
  few_terms = let x = r.few_terms in omega (arith, x);
  whole = r.whole;
  top = r.top;
}

parse : (p : ℕ) (items : List Item) (s all : Known) (b : Bool) (named : ℕ → Bool) → Before s b named → Gathers p s b items all
    → Parsed p s b named items all
parse p [] s all b named h g = record {
  ts = [];
  ls = [];
  ds = [];
  are = refl;
  none = λ e. refl;
  terms_fit = tt;
  lines_fit = tt;
  parts_fit = tt;
  few = omega (arith, h.long, h.fits);
  few_terms = omega (arith, h.terms);
  whole = omega (arith, ap (λ (x : Known). x.next) g);
  top = ap (λ (x : Known). x.content.top) g;
}
parse p (degree k n ∷ items) s all b named h g =
    let m = degree_as s g.0 s.next n g.1.2 in
    parsed_degree p s all b named k n m.0 items g.1.1 m.1
    (parse p items (with_generators s s.next m.0) all false (λ _. false) (before_degree s b named m.0 h m.2)
    (subst (λ (x : Known). Gathers p x false items all) (sym m.3) g.2)) m.2 h.terms
parse p (zero_boundary z ∷ items) s all b named h g =
    let m = boundary_as s g.0 z g.1.1 in
    let now = begun_line s m.0 in
    let r = parse p items now all false (λ i. i == m.0 || named i) (weaker now (λ i. i == m.0 || named i) (before_line s b named m.0 h m.2))
    (subst (λ (x : Known). Gathers p x false items all) (sym m.4) g.2) in
    let none = r.none refl in
    parsed_line p s now all b false named m.0 [] items (zero_boundary z) refl refl refl refl (omega arith) r
    (ap (λ x. mark 35 ∷ number x ∷ mark 61 ∷ number (pos 0) ∷ spelled items) m.1
    ∙ ap (λ x. mark 35 ∷ number (pos m.0) ∷ mark 61 ∷ number (pos 0) ∷ x) r.are
    ∙ rw none refl)
    m.2 (fresh_name s b named m.0 h m.2 m.3) tt
parse p (boundary z c t ∷ items) s all b named h g =
    let m = boundary_as s g.1.1 z g.1.2 in
    let begun = begun_line s m.0 in
    let j = subst (λ (x : Known). Joins p x c t g.0) (sym m.4) g.1.3 in
    let k = term_as p begun g.0 c t j in
    let term : Term = record { coefficient = c; target = k.0 } in
    let now = after_term p begun term in
    let seen = λ (i : ℕ). i == m.0 || named i in
    let r = parse p items now all true seen (before_term p begun seen term (before_line s b named m.0 h m.2) j.few)
    (subst (λ (x : Known). Gathers p x true items all) (sym k.3) g.2) in
    parsed_line p s now all b true named m.0 (term ∷ []) items (boundary z c t) refl refl refl refl (omega arith) r
    (ap (λ x. mark 35 ∷ number x ∷ mark 61 ∷ number c ∷ mark 42 ∷ number t ∷ spelled items) m.1
    ∙ ap (λ x. mark 35 ∷ number (pos m.0) ∷ mark 61 ∷ number c ∷ mark 42 ∷ number x ∷ spelled items) k.1
    ∙ ap (λ x. mark 35 ∷ number (pos m.0) ∷ mark 61 ∷ number c ∷ mark 42 ∷ number (pos k.0) ∷ x) r.are)
    m.2 (fresh_name s b named m.0 h m.2 m.3) (k.2, tt)
parse p (further_term c t ∷ items) s all b named h g =
    let h' = subst (λ (x : Bool). Before s x named) g.1.0 h in
    let k = term_as p s g.0 c t g.1.1 in
    let term : Term = record { coefficient = c; target = k.0 } in
    subst (λ (x : Bool). Parsed p s x named (further_term c t ∷ items) all) (sym g.1.0)
    (parsed_further p s all named c t k.0 items k.1 k.2
    (parse p items (after_term p s term) all true named (before_term p s named term h' g.1.1.few)
    (subst (λ (x : Known). Gathers p x true items all) (sym k.3) g.2)))

-- texts

abbrev begun_with : ℕ → Known
begun_with top = record nothing_known { content = record nothing_known.content { top = top } }

abbrev content_by : ℕ → ℕ → List Part → Content
content_by p top ds = (after_parts p (begun_with top) ds).content

says_parts : (p top : ℕ) (ds : List Part) → AreParts 0 ds → Says p top ds (content_by p top ds)
says_parts p top ds fit =
    let a = all_known p ds (begun_with top) in
    record {
      top_is = a.top_is;
      degrees_are = a.degrees_are;
      long = let longer : length (content_by p top ds).boundaries ≡ 0 + generators_in ds = a.longer in omega (arith, longer);
      boundaries_are = λ i lt. parts_say p ds (begun_with top) refl fit i (omega arith) (omega (arith, lt));
    }

value_of_parts : (p top : ℕ) (ds : List Part) (text : List ℕ) → said (tokens text) ≡ heading (pos top) (part_tokens 0 ds)
    → top ≤ greatest_degree → length ds ≡ top + 1 → AreParts 0 ds → generators_in ds ≤ most_generators → terms_in ds ≤ most_terms
    → HasValue p text (content_by p top ds)
value_of_parts p top ds text e low whole fit few few_terms =
    let a = all_known p ds (begun_with top) in
    record {
      top = pos top;
      items = part_items 0 ds;
      begun = begun_with top;
      all = after_parts p (begun_with top) ds;
      spelling = e ∙ ap (heading (pos top)) (sym (spelled_parts 0 ds));
      begins = ap (λ b. cond b (Ok (begun_with top)) (Err BadNumber)) (le_tested top greatest_degree low);
      gathers = gathers_parts p ds (begun_with top) false refl fit (omega (arith, few)) (omega (arith, few_terms)) (omega (arith, whole));
      whole = omega (arith, a.next_is, a.top_is, whole);
      is_content = refl;
    }

abbrev made : ℕ → List ℕ → List Boundary → Content
made t d b = record { top = t; degrees = d; boundaries = b }

same_content : (t t' : ℕ) (d d' : List ℕ) (b b' : List Boundary) → t ≡ t' → d ≡ d' → b ≡ b'
    → made t d b ≡ made t' d' b'
same_content t t' d d' b b' e f g = ap (λ x. made x d b) e ∙ ap (λ x. made t' x b) f ∙ ap (λ x. made t' d' x) g

one_saying : (p top : ℕ) (ds : List Part) (a b : Content) → Says p top ds a → Says p top ds b → a ≡ b
one_saying p top ds a b x y = same_content a.top b.top a.degrees b.degrees a.boundaries b.boundaries
    (x.top_is ∙ sym y.top_is) (x.degrees_are ∙ sym y.degrees_are)
    (ext_get_or not_given a.boundaries b.boundaries (x.long ∙ sym y.long)
    (λ i lt. let inside : i < generators_in ds = omega (arith, lt, x.long) in x.boundaries_are i inside ∙ sym (y.boundaries_are i inside)))

no_lines : (below : ℕ) (named : ℕ → Bool) (ls : List Line) → AreLines below 0 named ls → ls ≡ []
no_lines below named [] h = refl
no_lines below named (l ∷ ls) h = absurd (omega (arith, h.0.0, h.0.1))

parts_of_value : (p : ℕ) (text : List ℕ) (content : Content) → HasValue p text content → HasParts p text content
parts_of_value p text content h =
    let n = top_as nothing_known h.begun h.top h.begins in
    let start = begun_with n.0 in
    let r = parse p h.items start h.all false (λ _. false)
    (record { long = refl; fits = omega arith; terms = omega arith; named_are = λ g i e. cc; last = λ e. cc })
    (subst (λ (x : Known). Gathers p x false h.items h.all) (sym n.3) h.gathers) in
    let none = r.none refl in
    let empty = no_lines 0 (λ _. false) r.ls r.lines_fit in
    let spelling : said (tokens text) ≡ heading (pos n.0) (part_tokens 0 r.ds) =
    h.spelling ∙ ap (λ x. heading x (spelled h.items)) n.1 ∙ ap (heading (pos n.0))
    (r.are ∙ ap (λ x. further_terms x (line_tokens r.ls (part_tokens 0 r.ds))) none ∙ ap (λ x. line_tokens x (part_tokens 0 r.ds)) empty) in
    let whole : length r.ds ≡ n.0 + 1 = omega (arith, r.whole, r.top, h.whole) in
    let few : generators_in r.ds ≤ most_generators = let x = r.few in omega (arith, x) in
    let few_terms : terms_in r.ds ≤ most_terms = let x = r.few_terms in omega (arith, x) in
    let value = value_of_parts p n.0 r.ds text spelling n.2 whole r.parts_fit few few_terms in
    record {
      top = n.0;
      degrees = r.ds;
      spelling = spelling;
      low = n.2;
      whole = whole;
      fit = r.parts_fit;
      few = few;
      few_terms = few_terms;
      says = subst (λ (x : Content). Says p n.0 r.ds x) (one_outcome.one_value p text (content_by p n.0 r.ds) content value h) (says_parts p n.0 r.ds r.parts_fit);
    }

pub values_by_parts : ValuesAreByParts
values_by_parts p text content = (
  parts_of_value p text content,
  λ h. subst (λ (x : Content). HasValue p text x)
      (one_saying p h.top h.degrees (content_by p h.top h.degrees) content (says_parts p h.top h.degrees h.fit) h.says)
      (value_of_parts p h.top h.degrees text h.spelling h.low h.whole h.fit h.few h.few_terms),
)
