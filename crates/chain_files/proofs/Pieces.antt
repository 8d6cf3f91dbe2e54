-- A text that is given by its parts has the value that these say.
use Rattle.std.proofs.Common.{◌≡◌, ◌≢◌, ◌≤◌, ◌<◌, ⊎_elim, ◌&&◌, ◌||◌, ◌==◌, nat_lt, nat_le, ℕ, ◌+◌, ◌-◌, pos, List, [], ◌∷◌, ◌++◌, length, replicate, Bool, true, false, cond, None, Some, Ok, Err, refl, sym, ap, ◌∙◌, arith, subst, length-append, length-set, eq-eqb, eqb-true, append_assoc}
use Rattle.std.proofs.lemmas.List.{append-nil, length-replicate, get_or_append_left, get_or-set_same, get_or-set_other}
use Rattle.std.proofs.lemmas.Bool.{cases_lt}
use Rattle.std.proofs.lemmas.Bool.Decides.{Decides-ltb}
use Rattle.outside.specs.Tokens.{number, word, mark}
use Rattle.chain_files.specs.Content.{Boundary, not_given}
use Rattle.chain_files.specs.Known.{Known, residue, number_in, with_generators, boundary_at, with_boundary_at, opened, with_boundary, with_count, joined}
use Rattle.chain_files.specs.Items.{Item, degree, zero_boundary, boundary, further_term, spelled, Joins, Gathers}
use Rattle.chain_files.specs.Numbers.{most_generators, most_terms, dimension_word}
use Rattle.chain_files.specs.Parts.{Term, Line, Part, further_terms, sum_of, line_tokens, part_tokens, IsNumber, AreTerms, AreLines, AreParts, generators_in, line_terms, terms_in, said_terms, boundary_of, boundary_by, degrees_by}
use Rattle.chain_files.specs.declared.block.Block.{Block}
use Rattle.chain_files.specs.declared.fault.ChainCause.TheVariants.{RepeatedGenerator, TooManyGenerators}
use Rattle.chain_files.proofs.Deciding.{le_tested, on_test}
use Rattle.chain_files.proofs.Grading.{absent_after}

-- the items of parts, and then more

abbrev pub further_items : List Term → List Item → List Item
further_items [] more = more
further_items (t ∷ ts) more = further_term t.coefficient (pos t.target) ∷ further_items ts more

abbrev pub sum_items : ℕ → List Term → List Item → List Item
sum_items g [] more = zero_boundary (pos g) ∷ more
sum_items g (t ∷ ts) more = boundary (pos g) t.coefficient (pos t.target) ∷ further_items ts more

abbrev pub line_items : List Line → List Item → List Item
line_items [] more = more
line_items (l ∷ ls) more = sum_items l.generator l.terms (line_items ls more)

abbrev pub part_items : ℕ → List Part → List Item
part_items k [] = []
part_items k (d ∷ ds) = degree (pos k) (pos d.count) ∷ line_items d.lines (part_items (k + 1) ds)

spelled_further : (ts : List Term) (more : List Item) → spelled (further_items ts more) ≡ further_terms ts (spelled more)
spelled_further [] more = refl
spelled_further (t ∷ ts) more =
    ap (λ l. mark 43 ∷ number t.coefficient ∷ mark 42 ∷ number (pos t.target) ∷ l) (spelled_further ts more)

spelled_sum : (g : ℕ) (ts : List Term) (more : List Item)
    → spelled (sum_items g ts more) ≡ mark 35 ∷ number (pos g) ∷ mark 61 ∷ sum_of ts (spelled more)
spelled_sum g [] more = refl
spelled_sum g (t ∷ ts) more =
    ap (λ l. mark 35 ∷ number (pos g) ∷ mark 61 ∷ number t.coefficient ∷ mark 42 ∷ number (pos t.target) ∷ l) (spelled_further ts more)

spelled_lines : (ls : List Line) (more : List Item) → spelled (line_items ls more) ≡ line_tokens ls (spelled more)
spelled_lines [] more = refl
spelled_lines (l ∷ ls) more = spelled_sum l.generator l.terms (line_items ls more)
    ∙ ap (λ r. mark 35 ∷ number (pos l.generator) ∷ mark 61 ∷ sum_of l.terms r) (spelled_lines ls more)

pub spelled_parts : (k : ℕ) (ds : List Part) → spelled (part_items k ds) ≡ part_tokens k ds
spelled_parts k [] = refl
spelled_parts k (d ∷ ds) = ap (λ l. word dimension_word ∷ number (pos k) ∷ mark 58 ∷ number (pos d.count) ∷ l)
    (spelled_lines d.lines (part_items (k + 1) ds) ∙ ap (line_tokens d.lines) (spelled_parts (k + 1) ds))

-- what is known behind them

abbrev pub after_term : ℕ → Known → Term → Known
after_term p s t = with_boundary_at (with_count s) s.last (record {
  given = (boundary_at s s.last).given;
  terms = (boundary_at s s.last).terms ++ (s.below.first + (t.target - 1), residue p t.coefficient) ∷ [];
})

abbrev pub after_terms : ℕ → Known → List Term → Known
after_terms p s [] = s
after_terms p s (t ∷ ts) = after_terms p (after_term p s t) ts

abbrev pub begun_line : Known → ℕ → Known
begun_line s g = with_boundary_at s (s.here.first + (g - 1)) (record { given = true; terms = [] })

abbrev pub after_line : ℕ → Known → Line → Known
after_line p s l = after_terms p (begun_line s l.generator) l.terms

abbrev pub after_lines : ℕ → Known → List Line → Known
after_lines p s [] = s
after_lines p s (l ∷ ls) = after_lines p (after_line p s l) ls

abbrev pub after_parts : ℕ → Known → List Part → Known
after_parts p s [] = s
after_parts p s (d ∷ ds) = after_parts p (after_lines p (with_generators s s.next d.count) d.lines) ds

-- what stays in a degree, and how many terms came
pub record Frame (s now : Known) (count : ℕ) : Type 0 where
  pub here : now.here ≡ s.here
  pub below : now.below ≡ s.below
  pub next : now.next ≡ s.next
  pub top : now.content.top ≡ s.content.top
  pub degrees : now.content.degrees ≡ s.content.degrees
  pub long : length now.content.boundaries ≡ length s.content.boundaries
  pub terms : now.terms ≡ s.terms + count

pub same_frame : (s : Known) → Frame s s 0
same_frame s = record { here = refl; below = refl; next = refl; top = refl; degrees = refl; long = refl; terms = omega arith }

pub frame_set : (s : Known) (h : ℕ) (b : Boundary) → Frame s (with_boundary_at s h b) 0
frame_set s h b = record { here = refl; below = refl; next = refl; top = refl; degrees = refl; long = length-set s.content.boundaries h b; terms = omega arith }

pub frame_term : (p : ℕ) (s : Known) (t : Term) → Frame s (after_term p s t) 1
frame_term p s t = record { here = refl; below = refl; next = refl; top = refl; degrees = refl; long = length-set s.content.boundaries s.last _; terms = refl }

pub frame_on : (s mid now : Known) (m n : ℕ) → Frame s mid m → Frame mid now n → Frame s now (m + n)
frame_on s mid now m n f g = record {
  here = g.here ∙ f.here;
  below = g.below ∙ f.below;
  next = g.next ∙ f.next;
  top = g.top ∙ f.top;
  degrees = g.degrees ∙ f.degrees;
  long = g.long ∙ f.long;
  terms = let x = f.terms in let y = g.terms in omega (arith, x, y);
}

pub frame_terms : (p : ℕ) (s : Known) (ts : List Term) → Frame s (after_terms p s ts) (length ts)
frame_terms p s [] = same_frame s
frame_terms p s (t ∷ ts) = subst (λ (n : ℕ). Frame s (after_terms p s (t ∷ ts)) n) (omega arith)
    (frame_on s (after_term p s t) (after_terms p (after_term p s t) ts) 1 (length ts) (frame_term p s t) (frame_terms p (after_term p s t) ts))

pub frame_line : (p : ℕ) (s : Known) (l : Line) → Frame s (after_line p s l) (length l.terms)
frame_line p s l = subst (λ (n : ℕ). Frame s (after_line p s l) n) (omega arith)
    (frame_on s (begun_line s l.generator) (after_line p s l) 0 (length l.terms) (frame_set s _ _) (frame_terms p (begun_line s l.generator) l.terms))

pub frame_lines : (p : ℕ) (s : Known) (ls : List Line) → Frame s (after_lines p s ls) (line_terms ls)
frame_lines p s [] = same_frame s
frame_lines p s (l ∷ ls) = frame_on s (after_line p s l) (after_lines p (after_line p s l) ls) (length l.terms) (line_terms ls)
    (frame_line p s l) (frame_lines p (after_line p s l) ls)

-- the boundaries behind terms

pub set_at : (s : Known) (h : ℕ) (b : Boundary) → h < length s.content.boundaries → boundary_at (with_boundary_at s h b) h ≡ b
set_at s h b lt = get_or-set_same s.content.boundaries h b not_given lt

pub set_other : (s : Known) (h i : ℕ) (b : Boundary) → i ≢ h → boundary_at (with_boundary_at s h b) i ≡ boundary_at s i
set_other s h i b n = get_or-set_other s.content.boundaries h i b not_given n

terms_other : (p : ℕ) (s : Known) (ts : List Term) (i : ℕ) → i ≢ s.last → boundary_at (after_terms p s ts) i ≡ boundary_at s i
terms_other p s [] i n = refl
terms_other p s (t ∷ ts) i n = terms_other p (after_term p s t) ts i n ∙ set_other s s.last i _ n

terms_at : (p : ℕ) (s : Known) (ts : List Term) (before : List (ℕ × ℕ)) → s.last < length s.content.boundaries
    → boundary_at s s.last ≡ record { given = true; terms = before }
    → boundary_at (after_terms p s ts) s.last ≡ record { given = true; terms = before ++ said_terms p s.below.first ts }
terms_at p s [] before lt e = e ∙ ap (λ l. record { given = true; terms = l }) (sym (append-nil before))
terms_at p s (t ∷ ts) before lt e =
    let x : ℕ × ℕ = (s.below.first + (t.target - 1), residue p t.coefficient) in
    let now : boundary_at (after_term p s t) s.last ≡ record { given = true; terms = before ++ x ∷ [] } =
    set_at s s.last _ lt ∙ ap (λ (b : Boundary). record { given = b.given; terms = b.terms ++ x ∷ [] }) e in
    let long = (frame_term p s t).long in
    let inside : s.last < length (after_term p s t).content.boundaries = omega (arith, lt, long) in
    terms_at p (after_term p s t) ts (before ++ x ∷ []) inside now
    ∙ ap (λ l. record { given = true; terms = l }) (append_assoc before (x ∷ []) (said_terms p s.below.first ts))

-- and behind a boundary

pub line_other : (p : ℕ) (s : Known) (l : Line) (i : ℕ) → i ≢ s.here.first + (l.generator - 1)
    → boundary_at (after_line p s l) i ≡ boundary_at s i
line_other p s l i n = terms_other p (begun_line s l.generator) l.terms i n ∙ set_other s (s.here.first + (l.generator - 1)) i _ n

pub line_at : (p : ℕ) (s : Known) (l : Line) → s.here.first + (l.generator - 1) < length s.content.boundaries
    → boundary_at (after_line p s l) (s.here.first + (l.generator - 1)) ≡ record { given = true; terms = said_terms p s.below.first l.terms }
line_at p s l lt =
    let h = s.here.first + (l.generator - 1) in
    terms_at p (begun_line s l.generator) l.terms [] (omega (arith, lt, length-set s.content.boundaries h (record { given = true; terms = [] })))
    (set_at s h (record { given = true; terms = [] }) lt)

-- a number of a generator, and what it makes

two_true : (a b : Bool) → a ≡ true → b ≡ true → (a && b) ≡ true
two_true a b h k = rw (h, k) refl

number_is : (block : Block) (g : ℕ) → IsNumber block.count g → number_in block (pos g) ≡ Some (block.first + (g - 1))
number_is block g h = ap (λ b. cond b (Some (block.first + (g - 1))) None)
    (two_true (nat_lt 0 g) (nat_le g block.count) ((Decides-ltb 0 g).1 (omega (arith, h.0))) (le_tested g block.count h.1))

open_is : (s : Known) (g : ℕ) → IsNumber s.here.count g → (boundary_at s (s.here.first + (g - 1))).given ≡ false
    → with_boundary s (pos g) ≡ Ok (begun_line s g)
open_is s g h e = ap (opened s) (number_is s.here g h) ∙ ap (λ b. cond b (Err RepeatedGenerator) (Ok (begun_line s g))) e

join_is : (p : ℕ) (s : Known) (t : Term) → IsNumber s.below.count t.target → s.terms < most_terms
    → Joins p s t.coefficient (pos t.target) (after_term p s t)
join_is p s t h lt = record { few = lt; joins = ap (joined (with_count s) (residue p t.coefficient)) (number_is s.below t.target h) }

-- parts stand one after the other

gathers_further : (p : ℕ) (ts : List Term) (s all : Known) (more : List Item) → AreTerms s.below.count ts
    → s.terms + length ts ≤ most_terms → Gathers p (after_terms p s ts) true more all → Gathers p s true (further_items ts more) all
gathers_further p [] s all more a few g = g
gathers_further p (t ∷ ts) s all more a few g = (
  after_term p s t,
  (refl, join_is p s t a.0 (omega (arith, few))),
  gathers_further p ts (after_term p s t) all more a.1 (omega (arith, few)) g,
)

gathers_sum : (p : ℕ) (ts : List Term) (s all : Known) (b : Bool) (g : ℕ) (more : List Item) → 0 < s.next
    → with_boundary s (pos g) ≡ Ok (begun_line s g) → AreTerms s.below.count ts → s.terms + length ts ≤ most_terms
    → ((c : Bool) → Gathers p (after_terms p (begun_line s g) ts) c more all) → Gathers p s b (sum_items g ts more) all
gathers_sum p [] s all b g more lt e a few on = (begun_line s g, (lt, e), on false)
gathers_sum p (t ∷ ts) s all b g more lt e a few on = (
  after_term p (begun_line s g) t,
  (lt, begun_line s g, e, join_is p (begun_line s g) t a.0 (omega (arith, few))),
  gathers_further p ts (after_term p (begun_line s g) t) all more a.1 (omega (arith, few)) (on true),
)

-- a degree with n generators from `first` on, above one with m from `bottom` on; of some the
-- boundary stands already, of the others none does
record Open (s : Known) (first n bottom m : ℕ) (named : ℕ → Bool) : Type 0 where
  first_is : s.here.first ≡ first
  count_is : s.here.count ≡ n
  bottom_is : s.below.first ≡ bottom
  below_is : s.below.count ≡ m
  inside : first + n ≤ length s.content.boundaries
  started : 0 < s.next
  fresh : (g : ℕ) → IsNumber n g → named g ≡ false → boundary_at s (first + (g - 1)) ≡ not_given

or_true : (a b : Bool) → b ≡ true → (a || b) ≡ true
or_true true b e = refl
or_true false b e = e

true_or : (a b : Bool) → a ≡ true → (a || b) ≡ true
true_or a b e = rw e refl

false_or : (a b : Bool) → a ≡ false → b ≡ false → (a || b) ≡ false
false_or a b e f = rw (e, f) refl

or_false : (a b : Bool) → (a || b) ≡ false → (a ≡ false) × (b ≡ false)
or_false true b e = cc
or_false false b e = (refl, e)

pub other_place : (first x g l : ℕ) → x ≡ first → 1 ≤ g → 1 ≤ l → g ≢ l → first + (g - 1) ≢ x + (l - 1)
other_place first x g l e a b n q = n (omega (arith, e, a, b, q))

pub not_same : (g l : ℕ) → (g == l) ≡ false → g ≢ l
not_same g l e q = let t : (g == l) ≡ true = eq-eqb g l q in cc

module _ (p first n bottom m : ℕ) where
  next_open : (s : Known) (l : Line) (named : ℕ → Bool) → Open s first n bottom m named → IsNumber n l.generator
      → Open (after_line p s l) first n bottom m (λ g. g == l.generator || named g)
  next_open s l named o h =
      let f = frame_line p s l in
      let long = f.long in
      let next = f.next in
      record {
        first_is = ap (λ (b : Block). b.first) f.here ∙ o.first_is;
        count_is = ap (λ (b : Block). b.count) f.here ∙ o.count_is;
        bottom_is = ap (λ (b : Block). b.first) f.below ∙ o.bottom_is;
        below_is = ap (λ (b : Block). b.count) f.below ∙ o.below_is;
        inside = omega (arith, long, o.inside);
        started = omega (arith, next, o.started);
        fresh = λ g k e.
            let two = or_false (g == l.generator) (named g) e in
            line_other p s l (first + (g - 1)) (other_place first s.here.first g l.generator o.first_is k.0 h.0 (not_same g l.generator two.0))
            ∙ o.fresh g k two.1;
      }

  gathers_lines : (ls : List Line) (s all : Known) (b : Bool) (named : ℕ → Bool) (more : List Item) → Open s first n bottom m named
      → AreLines m n named ls → s.terms + line_terms ls ≤ most_terms
      → ((c : Bool) → Gathers p (after_lines p s ls) c more all) → Gathers p s b (line_items ls more) all
  gathers_lines [] s all b named more o a few on = on b
  gathers_lines (l ∷ ls) s all b named more o a few on =
      let came = (frame_line p s l).terms in
      gathers_sum p l.terms s all b l.generator (line_items ls more) o.started
      (open_is s l.generator (a.0.0, (omega (arith, a.0.1, o.count_is)))
      (ap (λ x. (boundary_at s (x + (l.generator - 1))).given) o.first_is ∙ ap (λ (x : Boundary). x.given) (o.fresh l.generator a.0 a.1)))
      (subst (λ (k : ℕ). AreTerms k l.terms) (sym o.below_is) a.2)
      (omega (arith, few))
      (λ c. gathers_lines ls (after_line p s l) all c (λ g. g == l.generator || named g) more (next_open s l named o a.0) a.3 (omega (arith, few, came)) on)

  lines_stay : (ls : List Line) (s : Known) (named : ℕ → Bool) → Open s first n bottom m named → AreLines m n named ls
      → (g : ℕ) → IsNumber n g → named g ≡ true → boundary_at (after_lines p s ls) (first + (g - 1)) ≡ boundary_at s (first + (g - 1))
  lines_stay [] s named o a g h e = refl
  lines_stay (l ∷ ls) s named o a g h e =
      lines_stay ls (after_line p s l) (λ i. i == l.generator || named i) (next_open s l named o a.0) a.3 g h (or_true (g == l.generator) (named g) e)
      ∙ line_other p s l (first + (g - 1)) (other_place first s.here.first g l.generator o.first_is h.0 a.0.0
      (λ q. let f : named g ≡ false = ap named q ∙ a.1 in cc))

  lines_say : (ls : List Line) (s : Known) (named : ℕ → Bool) → Open s first n bottom m named → AreLines m n named ls
      → (g : ℕ) → IsNumber n g → named g ≡ false → boundary_at (after_lines p s ls) (first + (g - 1)) ≡ boundary_of p bottom ls g
  lines_say [] s named o a g h e = o.fresh g h e
  lines_say (l ∷ ls) s named o a g h e =
      let now = λ (i : ℕ). i == l.generator || named i in
      let value : ℕ → Boundary = λ x. record { given = true; terms = said_terms p x l.terms } in
      on_test (g == l.generator)
      (λ (t : (g == l.generator) ≡ true).
      let same : g ≡ l.generator = eqb-true g l.generator t in
      let place : first + (g - 1) ≡ s.here.first + (l.generator - 1) = omega (arith, same, o.first_is) in
      lines_stay ls (after_line p s l) now (next_open s l named o a.0) a.3 g h (true_or (g == l.generator) (named g) t)
      ∙ ap (boundary_at (after_line p s l)) place
      ∙ line_at p s l (omega (arith, a.0.0, a.0.1, o.first_is, o.inside))
      ∙ ap value o.bottom_is
      ∙ sym (ap (λ x. cond x (value bottom) (boundary_of p bottom ls g)) t))
      (λ (f : (g == l.generator) ≡ false).
      lines_say ls (after_line p s l) now (next_open s l named o a.0) a.3 g h (false_or (g == l.generator) (named g) f e)
      ∙ sym (ap (λ x. cond x (value bottom) (boundary_of p bottom ls g)) f))

  lines_old : (ls : List Line) (s : Known) (named : ℕ → Bool) → Open s first n bottom m named → AreLines m n named ls
      → (i : ℕ) → i < first → boundary_at (after_lines p s ls) i ≡ boundary_at s i
  lines_old [] s named o a i lt = refl
  lines_old (l ∷ ls) s named o a i lt =
      lines_old ls (after_line p s l) (λ g. g == l.generator || named g) (next_open s l named o a.0) a.3 i lt
      ∙ line_other p s l i (λ q. omega (arith, lt, q, o.first_is))

-- degrees

abbrev pub here_end : Known → ℕ
here_end s = s.here.first + s.here.count

-- a degree begins
begins_open : (s : Known) (n : ℕ) → here_end s ≡ length s.content.boundaries
    → Open (with_generators s s.next n) (here_end s) n s.here.first s.here.count (λ _. false)
begins_open s n long =
    let longer = length-append s.content.boundaries (replicate n not_given) in
    let many : length (replicate n not_given) ≡ n = length-replicate n not_given in
    record {
      first_is = refl;
      count_is = refl;
      bottom_is = refl;
      below_is = refl;
      inside = omega (arith, long, longer, many);
      started = omega arith;
      fresh = λ g h e. absent_after s.content.boundaries n (here_end s + (g - 1)) (omega (arith, long));
    }

module _ (p : ℕ) where
  abbrev degree_begun : Known → Part → Known
  degree_begun s d = with_generators s s.next d.count

  abbrev degree_done : Known → Part → Known
  degree_done s d = after_lines p (degree_begun s d) d.lines

  -- what is known behind a degree
  record Done (s : Known) (d : Part) : Type 0 where
    first_is : (degree_done s d).here.first ≡ here_end s
    count_is : (degree_done s d).here.count ≡ d.count
    next_is : (degree_done s d).next ≡ s.next + 1
    top_is : (degree_done s d).content.top ≡ s.content.top
    degrees_are : (degree_done s d).content.degrees ≡ s.content.degrees ++ replicate d.count s.next
    longer : length (degree_done s d).content.boundaries ≡ length s.content.boundaries + d.count
    terms_are : (degree_done s d).terms ≡ s.terms + line_terms d.lines

  done : (s : Known) (d : Part) → Done s d
  done s d =
      let f = frame_lines p (degree_begun s d) d.lines in
      let more = length-append s.content.boundaries (replicate d.count not_given) in
      let many : length (replicate d.count not_given) ≡ d.count = length-replicate d.count not_given in
      record {
        first_is = ap (λ (b : Block). b.first) f.here;
        count_is = ap (λ (b : Block). b.count) f.here;
        next_is = f.next;
        top_is = f.top;
        degrees_are = f.degrees;
        longer = let long = f.long in omega (arith, long, more, many);
        terms_are = f.terms;
      }

  done_long : (s : Known) (d : Part) → here_end s ≡ length s.content.boundaries → here_end (degree_done s d) ≡ length (degree_done s d).content.boundaries
  done_long s d long = let k = done s d in omega (arith, long, k.first_is, k.count_is, k.longer)

  pub gathers_parts : (ds : List Part) (s : Known) (b : Bool) → here_end s ≡ length s.content.boundaries → AreParts s.here.count ds
      → here_end s + generators_in ds ≤ most_generators → s.terms + terms_in ds ≤ most_terms → s.next + length ds ≤ s.content.top + 1
      → Gathers p s b (part_items s.next ds) (after_parts p s ds)
  gathers_parts [] s b long a few few_terms low = refl
  gathers_parts (d ∷ ds) s b long a few few_terms low =
      let k = done s d in
      let now = degree_done s d in (
        degree_begun s d,
        ((omega (arith, low)), refl, ap (λ x. cond x (Ok (degree_begun s d)) (Err TooManyGenerators)) (le_tested (here_end s + d.count) most_generators (omega (arith, few)))),
        gathers_lines p (here_end s) d.count s.here.first s.here.count d.lines (degree_begun s d) (after_parts p now ds) false (λ _. false)
            (part_items (s.next + 1) ds) (begins_open s d.count long) a.0 (omega (arith, few_terms))
            (λ c. subst (λ (i : ℕ). Gathers p now c (part_items i ds) (after_parts p now ds)) k.next_is
            (gathers_parts ds now c (done_long s d long) (subst (λ (i : ℕ). AreParts i ds) (sym k.count_is) a.1)
            (omega (arith, few, k.first_is, k.count_is)) (omega (arith, few_terms, k.terms_are)) (omega (arith, low, k.next_is, k.top_is)))),
      )

  -- what is known behind all degrees
  pub record All (s : Known) (ds : List Part) : Type 0 where
    pub top_is : (after_parts p s ds).content.top ≡ s.content.top
    pub next_is : (after_parts p s ds).next ≡ s.next + length ds
    pub degrees_are : (after_parts p s ds).content.degrees ≡ s.content.degrees ++ degrees_by s.next ds
    pub longer : length (after_parts p s ds).content.boundaries ≡ length s.content.boundaries + generators_in ds

  pub all_known : (ds : List Part) (s : Known) → All s ds
  all_known [] s = record { top_is = refl; next_is = omega arith; degrees_are = sym (append-nil s.content.degrees); longer = omega arith }
  all_known (d ∷ ds) s =
      let k = done s d in
      let r = all_known ds (degree_done s d) in
      let rest : (degree_done s d).content.degrees ++ degrees_by (degree_done s d).next ds ≡ (s.content.degrees ++ replicate d.count s.next) ++ degrees_by (s.next + 1) ds =
      ap (λ x. x ++ degrees_by (degree_done s d).next ds) k.degrees_are ∙ ap (λ i. (s.content.degrees ++ replicate d.count s.next) ++ degrees_by i ds) k.next_is in
      record {
        top_is = r.top_is ∙ k.top_is;
        next_is = omega (arith, r.next_is, k.next_is);
        degrees_are = r.degrees_are ∙ rest ∙ append_assoc s.content.degrees (replicate d.count s.next) (degrees_by (s.next + 1) ds);
        longer = omega (arith, r.longer, k.longer);
      }

  begun_old : (s : Known) (d : Part) (i : ℕ) → i < length s.content.boundaries → boundary_at (degree_begun s d) i ≡ boundary_at s i
  begun_old s d i lt = get_or_append_left s.content.boundaries (replicate d.count not_given) not_given i lt

  parts_old : (ds : List Part) (s : Known) → here_end s ≡ length s.content.boundaries → AreParts s.here.count ds
      → (i : ℕ) → i < length s.content.boundaries → boundary_at (after_parts p s ds) i ≡ boundary_at s i
  parts_old [] s long a i lt = refl
  parts_old (d ∷ ds) s long a i lt =
      let k = done s d in
      parts_old ds (degree_done s d) (done_long s d long) (subst (λ (j : ℕ). AreParts j ds) (sym k.count_is) a.1) i (omega (arith, lt, k.longer))
      ∙ lines_old p (here_end s) d.count s.here.first s.here.count d.lines (degree_begun s d) (λ _. false) (begins_open s d.count long) a.0 i (omega (arith, lt, long))
      ∙ begun_old s d i lt

  pub parts_say : (ds : List Part) (s : Known) → here_end s ≡ length s.content.boundaries → AreParts s.here.count ds
      → (i : ℕ) → here_end s ≤ i → i < here_end s + generators_in ds
      → boundary_at (after_parts p s ds) i ≡ boundary_by p s.here.first (here_end s) ds i
  parts_say [] s long a i le lt = absurd (omega (arith, le, lt))
  parts_say (d ∷ ds) s long a i le lt =
      let k = done s d in
      let now = degree_done s d in
      let rest = subst (λ (j : ℕ). AreParts j ds) (sym k.count_is) a.1 in
      let here = boundary_of p s.here.first d.lines (i - here_end s + 1) in
      let above = boundary_by p (here_end s) (here_end s + d.count) ds i in
      on_test (nat_lt i (here_end s + d.count))
      (λ (t : nat_lt i (here_end s + d.count) ≡ true).
      let within = (Decides-ltb i (here_end s + d.count)).0 t in
      let place : i ≡ here_end s + (i - here_end s + 1 - 1) = omega (arith, le) in
      parts_old ds now (done_long s d long) rest i (omega (arith, within, long, k.longer))
      ∙ ap (boundary_at now) place
      ∙ lines_say p (here_end s) d.count s.here.first s.here.count d.lines (degree_begun s d) (λ _. false) (begins_open s d.count long) a.0
      (i - here_end s + 1) ((omega arith), (omega (arith, le, within))) refl
      ∙ sym (ap (λ x. cond x here above) t))
      (λ (f : nat_lt i (here_end s + d.count) ≡ false).
      let past : here_end s + d.count ≤ i = not_below i (here_end s + d.count) f in
      parts_say ds now (done_long s d long) rest i (omega (arith, past, k.first_is, k.count_is)) (omega (arith, lt, k.first_is, k.count_is))
      ∙ ap (λ x. boundary_by p x (x + now.here.count) ds i) k.first_is
      ∙ ap (λ x. boundary_by p (here_end s) (here_end s + x) ds i) k.count_is
      ∙ sym (ap (λ x. cond x here above) f))
    where
      not_below : (i n : ℕ) → nat_lt i n ≡ false → n ≤ i
      not_below i n e = ⊎_elim (λ lt. let t = (Decides-ltb i n).1 lt in cc) (λ le. le) (cases_lt i n)
