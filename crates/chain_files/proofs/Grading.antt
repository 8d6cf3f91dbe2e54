-- In a chain file that has a value, each term of a boundary names a generator of one degree less.
use Rattle.std.proofs.Common.{◌≡◌, ◌≢◌, ◌≤◌, ◌<◌, ◌&&◌, nat_lt, nat_le, ℕ, ◌+◌, ◌-◌, ℤ, pos, negsuc, List, [], ◌∷◌, ◌++◌, length, replicate, get_or, set, Bool, true, false, cond, Option, None, Some, Result, Ok, Err, refl, sym, ap, ◌∙◌, arith, ⊎_elim, subst, length-append, length-set, ne_eqb}
use Rattle.std.proofs.lemmas.List.{length-replicate, get_or-replicate, get_or_append_left, get_or-append_right, get_or-set_same, get_or-set_other, get_or_past}
use Rattle.std.proofs.lemmas.Bool.{cases_lt, cases_eq}
use Rattle.std.proofs.lemmas.Bool.Decides.{Decides-ltb}
use Rattle.chains.specs.Terms.{coefficient}
use Rattle.chains.proofs.TermLists.{coefficient-append}
use Rattle.chain_files.specs.Content.{Boundary, not_given, Content}
use Rattle.chain_files.specs.Known.{Known, residue, nothing_known, number_in, with_top, with_generators, with_degree, boundary_at, with_boundary_at, opened, with_boundary, with_count, joined, with_term}
use Rattle.chain_files.specs.Items.{Item, degree, zero_boundary, boundary, further_term, Joins, Gathers}
use Rattle.chain_files.specs.ChainFile.{HasValue}
use Rattle.chain_files.specs.Complexes.{AreByDegree}
use Rattle.chain_files.specs.Making.{IsGraded}
use Rattle.chain_files.specs.declared.block.Block.{Block}
use Rattle.chain_files.specs.declared.fault.ChainCause.{ChainCause}
use Rattle.chain_files.specs.declared.fault.ChainCause.TheVariants.{BadNumber, UnknownGenerator, RepeatedGenerator, TooManyGenerators}
use Rattle.chain_files.specs.Numbers.{most_generators, greatest_degree}
use Rattle.chain_files.proofs.Deciding.{le_told, on_test, and_both}
use Rattle.chain_files.proofs.Files.{terms_at}

abbrev IsIn : ℕ → Block → Type 0
IsIn i block = (block.first ≤ i) × (i < block.first + block.count)

-- the terms of a boundary of the generator h name generators of one degree less
abbrev Names : List ℕ → ℕ → List (ℕ × ℕ) → Type 0
Names degrees h ts = (g : ℕ) → coefficient ts g ≢ 0 → (g < length degrees) × (get_or degrees g 0 + 1 ≡ get_or degrees h 0)

record Graded (s : Known) (behind_term : Bool) : Type 0 where
  long : length s.content.degrees ≡ length s.content.boundaries
  here : s.here.first + s.here.count ≡ length s.content.degrees
  of_here : (i : ℕ) → IsIn i s.here → get_or s.content.degrees i 0 + 1 ≡ s.next
  below : s.below.first + s.below.count ≤ length s.content.degrees
  of_below : (i : ℕ) → IsIn i s.below → get_or s.content.degrees i 0 + 2 ≡ s.next
  terms : (h : ℕ) → Names s.content.degrees h (get_or s.content.boundaries h not_given).terms
  ascending : (i j : ℕ) → i ≤ j → j < length s.content.degrees → get_or s.content.degrees i 0 ≤ get_or s.content.degrees j 0
  most : (i : ℕ) → i < length s.content.degrees → get_or s.content.degrees i 0 + 1 ≤ s.next
  last : behind_term ≡ true → IsIn s.last s.here

-- what is known behind an item

abbrev okay : Known → Result Known ChainCause
okay x = Ok x

pub accepted : (b : Bool) (x now : Known) (cause : ChainCause) → cond b (Ok x) (Err cause) ≡ Ok now → (b ≡ true) × (x ≡ now)
accepted true x now cause e = (refl, cc)
accepted false x now cause e = cc

pub refused : (cause : ChainCause) (now : Known) → Err cause ≡ Ok now → ⊥
refused cause now e = cc

ok_is : (x now : Known) → okay x ≡ okay now → x ≡ now
ok_is x now e = cc

pub some_is : (b : Bool) (n h : ℕ) → cond b (Some n) None ≡ Some h → (b ≡ true) × (n ≡ h)
some_is true n h e = (refl, cc)
some_is false n h e = cc

number_within : (block : Block) (z : ℤ) (h : ℕ) → number_in block z ≡ Some h → IsIn h block
number_within block (pos n) h e =
    let s = some_is (nat_lt 0 n && nat_le n block.count) (block.first + (n - 1)) h e in
    let both = and_both (nat_lt 0 n) (nat_le n block.count) s.0 in
    let above : 0 < n = (Decides-ltb 0 n).0 both.0 in
    let most = le_told n block.count both.1 in
    (omega (arith, s.1, above), omega (arith, s.1, above, most))
number_within block (negsuc n) h e = cc

pub opened_as : (s now : Known) (o : Option ℕ) → opened s o ≡ Ok now → (h : ℕ) × (o ≡ Some h) × (with_boundary_at s h (record { given = true; terms = [] }) ≡ now)
opened_as s now None e = absurd (refused UnknownGenerator now e)
opened_as s now (Some h) e = on_test (boundary_at s h).given
    (λ g. absurd (refused RepeatedGenerator now (rw g at e)))
    (λ g. (h, refl, ok_is _ now (rw g at e)))

pub joined_as : (s now : Known) (c : ℕ) (o : Option ℕ) → joined s c o ≡ Ok now
    → (g : ℕ) × (o ≡ Some g) × (with_boundary_at s s.last (record { given = (boundary_at s s.last).given; terms = (boundary_at s s.last).terms ++ (g, c) ∷ [] }) ≡ now)
joined_as s now c None e = absurd (refused UnknownGenerator now e)
joined_as s now c (Some g) e = (g, refl, ok_is _ now e)

-- each keeps the degrees

graded_start : (s : Known) (top : ℕ) → s ≡ nothing_known → Graded (record s { content = record s.content { top = top } }) false
graded_start s top e = rw e (record {
  long = refl;
  here = refl;
  of_here = λ i h. absurd (omega (arith, h.1));
  below = omega arith;
  of_below = λ i h. absurd (omega (arith, h.1));
  terms = λ h g n. absurd (n (ap (λ (b : Boundary). coefficient b.terms g) (get_or_past {X = Boundary} [] h not_given (omega arith))));
  ascending = λ i j le lt. absurd (omega (arith, lt));
  most = λ i lt. absurd (omega (arith, lt));
  last = λ f. cc;
})

pub absent_after : (bs : List Boundary) (n h : ℕ) → length bs ≤ h → get_or (bs ++ replicate n not_given) h not_given ≡ not_given
absent_after bs n h le =
    get_or-append_right bs (replicate n not_given) (length bs) h not_given refl le
    ∙ ⊎_elim
    (λ lt. get_or-replicate n (h - length bs) not_given not_given lt)
    (λ past. get_or_past (replicate n not_given) (h - length bs) not_given (omega (arith, past, length-replicate n not_given)))
    (cases_lt (h - length bs) n)

module _ (s : Known) (b : Bool) (h : Graded s b) where
  abbrev more_degrees : ℕ → List ℕ
  more_degrees n = s.content.degrees ++ replicate n s.next

  old_degree : (n i : ℕ) → i < length s.content.degrees → get_or (more_degrees n) i 0 ≡ get_or s.content.degrees i 0
  old_degree n i lt = get_or_append_left s.content.degrees (replicate n s.next) 0 i lt

  new_degree : (n i : ℕ) → length s.content.degrees ≤ i → i < length (more_degrees n) → get_or (more_degrees n) i 0 ≡ s.next
  new_degree n i le lt =
      let longer = length-append s.content.degrees (replicate n s.next) in
      let many : length (replicate n s.next) ≡ n = length-replicate n s.next in
      get_or-append_right s.content.degrees (replicate n s.next) (length s.content.degrees) i 0 refl le
      ∙ get_or-replicate n (i - length s.content.degrees) s.next 0 (omega (arith, le, lt, longer, many))

  graded_degree : (n : ℕ) → Graded (with_generators s s.next n) false
  graded_degree n =
      let bs = s.content.boundaries in
      let longer = length-append s.content.degrees (replicate n s.next) in
      let longer' = length-append bs (replicate n not_given) in
      let many : length (replicate n s.next) ≡ n = length-replicate n s.next in
      let many' : length (replicate n not_given) ≡ n = length-replicate n not_given in
      record {
        long = omega (arith, longer, longer', many, many', h.long);
        here = omega (arith, longer, many, h.here);
        of_here = λ i m. ap (λ d. d + 1) (new_degree n i (omega (arith, m.0, h.here)) (omega (arith, m.1, h.here, longer, many)));
        below = omega (arith, longer, h.here);
        of_below = λ i m.
            let left = old_degree n i (omega (arith, m.1, h.here)) in
            let old = h.of_here i m in
            omega (arith, left, old);
        terms = λ k g named. ⊎_elim
            (λ lt.
            let left = get_or_append_left bs (replicate n not_given) not_given k lt in
            let old = h.terms k g (λ z. named (ap (λ (b : Boundary). coefficient b.terms g) left ∙ z)) in
            let dg = old_degree n g old.0 in
            let dk = old_degree n k (omega (arith, lt, h.long)) in
            (omega (arith, old.0, longer), omega (arith, dg, dk, old.1)))
            (λ le. absurd (named (ap (λ (b : Boundary). coefficient b.terms g) (absent_after bs n k le))))
            (cases_lt k (length bs));
        ascending = λ i j le lt. ⊎_elim
            (λ inside.
            let first = old_degree n i (omega (arith, le, inside)) in
            let second = old_degree n j inside in
            let old = h.ascending i j le inside in
            omega (arith, first, second, old))
            (λ after.
            let second = new_degree n j after lt in
            ⊎_elim
            (λ inside. let first = old_degree n i inside in let old = h.most i inside in omega (arith, first, second, old))
            (λ after'. let first = new_degree n i after' (omega (arith, le, lt)) in omega (arith, first, second))
            (cases_lt i (length s.content.degrees)))
            (cases_lt j (length s.content.degrees));
        most = λ i lt. ⊎_elim
            (λ inside. let same = old_degree n i inside in let old = h.most i inside in omega (arith, same, old))
            (λ after. let same = new_degree n i after lt in omega (arith, same))
            (cases_lt i (length s.content.degrees));
        last = λ f. cc;
      }

  graded_set : (k : ℕ) (b' : Boundary) → IsIn k s.here → Names s.content.degrees k b'.terms → Graded (with_boundary_at s k b') true
  graded_set k b' inside names = record {
    long = h.long ∙ sym (length-set s.content.boundaries k b');
    here = h.here;
    of_here = h.of_here;
    below = h.below;
    of_below = h.of_below;
    terms = λ i g named. ⊎_elim
        (λ (e : i ≡ k).
        let at : get_or (set s.content.boundaries k b') i not_given ≡ b' = rw e (get_or-set_same s.content.boundaries k b' not_given (omega (arith, inside.1, h.here, h.long))) in
        rw e (names g (λ z. named (ap (λ (b : Boundary). coefficient b.terms g) at ∙ z))))
        (λ n.
        let at = get_or-set_other s.content.boundaries k i b' not_given n in
        h.terms i g (λ z. named (ap (λ (b : Boundary). coefficient b.terms g) at ∙ z)))
        (cases_eq i k);
    ascending = h.ascending;
    most = h.most;
    last = λ t. inside;
  }

  graded_counted : Graded (with_count s) b
  graded_counted = record { long = h.long; here = h.here; of_here = h.of_here; below = h.below; of_below = h.of_below; terms = h.terms; ascending = h.ascending; most = h.most; last = h.last }

  graded_weaker : Graded s false
  graded_weaker = record { long = h.long; here = h.here; of_here = h.of_here; below = h.below; of_below = h.of_below; terms = h.terms; ascending = h.ascending; most = h.most; last = λ f. cc }

  graded_opened : (now : Known) (z : ℤ) → with_boundary s z ≡ Ok now → Graded now true
  graded_opened now z e =
      let o = opened_as s now (number_in s.here z) e in
      subst (λ (x : Known). Graded x true) o.2 (graded_set o.0 _ (number_within s.here z o.0 o.1) (λ g n. absurd (n refl)))

  graded_term : b ≡ true → (now : Known) (c : ℕ) (z : ℤ) → with_term s c z ≡ Ok now → Graded now true
  graded_term t now c z e =
      let o = joined_as s now c (number_in s.below z) e in
      let inside = h.last t in
      let target = number_within s.below z o.0 o.1 in
      subst (λ (x : Known). Graded x true) o.2 (graded_set s.last _ inside (λ g n.
      let sum = coefficient-append (boundary_at s s.last).terms ((o.0, c) ∷ []) g in
      ⊎_elim
      (λ (q : o.0 ≡ g).
      let d = h.of_here s.last inside in
      let d' = h.of_below g (subst (λ (i : ℕ). IsIn i s.below) q target) in
      (omega (arith, q, target.1, h.below), omega (arith, d, d')))
      (λ m. h.terms s.last g (λ w. n (sum ∙ rw (w, ne_eqb o.0 g m) refl)))
      (cases_eq o.0 g)))

graded_joined : (p : ℕ) (s : Known) (c t : ℤ) (now : Known) → Graded s true → Joins p s c t now → Graded now true
graded_joined p s c t now h j = graded_term (with_count s) true (graded_counted s true h) refl now (residue p c) t j.joins

with_degree_as : (s now : Known) (k : ℕ) (z : ℤ) → with_degree s k z ≡ Ok now → (n : ℕ) × (with_generators s k n ≡ now)
with_degree_as s now k (pos n) e =
    (n, (accepted (nat_le (s.here.first + s.here.count + n) most_generators) (with_generators s k n) now TooManyGenerators e).1)
with_degree_as s now k (negsuc n) e = absurd (refused BadNumber now e)

with_top_as : (s now : Known) (z : ℤ) → with_top s z ≡ Ok now → (n : ℕ) × (record s { content = record s.content { top = n } } ≡ now)
with_top_as s now (pos n) e = (n, (accepted (nat_le n greatest_degree) (record s { content = record s.content { top = n } }) now BadNumber e).1)
with_top_as s now (negsuc n) e = absurd (refused BadNumber now e)

graded_items : (p : ℕ) (items : List Item) (s all : Known) (b : Bool) → Graded s b → Gathers p s b items all → (c : Bool) × Graded all c
graded_items p [] s all b h g = (b, subst (λ (x : Known). Graded x b) (sym g) h)
graded_items p (degree k n ∷ items) s all b h g =
    let m = with_degree_as s g.0 s.next n g.1.2 in
    graded_items p items g.0 all false (subst (λ (x : Known). Graded x false) m.1 (graded_degree s b h m.0)) g.2
graded_items p (zero_boundary z ∷ items) s all b h g =
    graded_items p items g.0 all false (graded_weaker g.0 true (graded_opened s b h g.0 z g.1.1)) g.2
graded_items p (boundary z c t ∷ items) s all b h g =
    graded_items p items g.0 all true (graded_joined p g.1.1 c t g.0 (graded_opened s b h g.1.1 z g.1.2) g.1.3) g.2
graded_items p (further_term c t ∷ items) s all b h g =
    graded_items p items g.0 all true (graded_joined p s c t g.0 (subst (λ (x : Bool). Graded s x) g.1.0 h) g.1.1) g.2

is_graded : (s : Known) (b : Bool) → Graded s b → IsGraded s.content
is_graded s b h i g bad =
    let named : coefficient (get_or s.content.boundaries i not_given).terms g ≢ 0 = λ z. bad.misplaced.named (ap (λ ts. coefficient ts g) (terms_at s.content.boundaries i) ∙ z) in
    bad.misplaced.degree (h.terms i g named)

graded_value : (p : ℕ) (text : List ℕ) (content : Content) → (h : HasValue p text content) → (b : Bool) × Graded h.all b
graded_value p text content h =
    let begun = with_top_as nothing_known h.begun h.top h.begins in
    let start = subst (λ (x : Known). Graded x false) begun.1 (graded_start nothing_known begun.0 refl) in
    graded_items p h.items h.begun h.all false start h.gathers

pub value_graded : (p : ℕ) (text : List ℕ) (content : Content) → HasValue p text content → IsGraded content
value_graded p text content h =
    let all = graded_value p text content h in
    rw h.is_content (is_graded h.all all.0 all.1)

-- and generators are numbered degree by degree

pub value_numbered : (p : ℕ) (text : List ℕ) (content : Content) → HasValue p text content → AreByDegree content.top content.degrees
value_numbered p text content h =
    let all = (graded_value p text content h).1 in
    let numbered : AreByDegree h.all.content.top h.all.content.degrees = record {
      ascending = all.ascending;
      most = λ i lt. let below = all.most i lt in omega (arith, below, h.whole);
    } in
    rw h.is_content numbered
