-- The first entry of a list with a name, and whether each entry of a list stands once, entry by entry.
use Rattle.std.proofs.Common.{◌≡◌, ℕ, zero, suc, ◌+◌, ◌<◌, Bool, true, false, cond, ◌||◌, ◌-◌, List, [], ◌∷◌, Some, decimal, length, get_or, drop, take, length-drop, refl, sym, ap, ◌∙◌, arith, eqb, eq-eqb}
use Rattle.std.specs.List.{list_any, range_with_len}
use Rattle.std.specs.Str.{bytes_eq}
use Rattle.command_line.specs.Operands.{named}
use Rattle.std.proofs.lemmas.List.{drop_more, take_all}
use Rattle.command_line.specs.declared.choice.Setting.{Setting}
use Rattle.command_line.specs.Forms.{is_set, are_once}

pub listed_at : (ns : List ℕ) (i : ℕ) → i < length ns → list_any (λ q. eqb q (get_or ns i 0)) ns ≡ true
listed_at [] i l = absurd (omega arith)
listed_at (n ∷ ns) zero l = rw (eq-eqb n n refl) refl
listed_at (n ∷ ns) (suc i) l = or_true (eqb n (get_or ns i 0)) (list_any (λ q. eqb q (get_or ns i 0)) ns) (listed_at ns i (omega arith))
  where
    or_true : (a b : Bool) → b ≡ true → (a || b) ≡ true
    or_true true b e = refl
    or_true false b e = e

-- the first of some numbers is not written so
pub number_missed : (word : List ℕ) (n left rest : ℕ) → left ≡ suc rest → bytes_eq word (decimal n) ≡ false → named decimal (range_with_len n left) word ≡ named decimal (range_with_len (n + 1) rest) word
number_missed word n left rest e missed =
    ap (λ k. named decimal (range_with_len n k) word) e
    ∙ ap (λ b. cond b (Some n) (named decimal (range_with_len (n + 1) rest) word)) missed

pub once_at : (ss : List Setting) (i : ℕ) (s : Setting) (b : Bool) → i < length ss → s ≡ get_or ss i s → b ≡ is_set s.choice (take (length ss - (i + 1)) (drop (i + 1) ss)) → are_once (drop i ss) ≡ cond b false (are_once (drop (i + 1) ss))
once_at ss i s b l e t = ap are_once (drop_more ss i s l) ∙ ap (λ r. are_once (r ∷ drop (i + 1) ss)) (sym e) ∙ tested b (t ∙ ap (is_set s.choice) (take_all (length ss - (i + 1)) (drop (i + 1) ss) (omega (arith, length-drop (i + 1) ss))))
  where
    tested : (b : Bool) → b ≡ is_set s.choice (drop (i + 1) ss) → are_once (s ∷ drop (i + 1) ss) ≡ cond b false (are_once (drop (i + 1) ss))
    tested true t = rw (← t) refl
    tested false t = rw (← t) refl
