-- What several reads took from a stream, and several writes gave to it, is what one would have.
use Rattle.std.proofs.Common.{◌≡◌, ℕ, ◌+◌, ◌-◌, ◌<◌, ◌≤◌, List, [], ◌++◌, IfOk, IfSome, Result, Ok, Err, take, drop, length, Option, None, Some, arith, append_assoc, ap, ◌∙◌, sym, length-append, length-drop}
use Rattle.std.proofs.lemmas.List.{take_at, take-append-drop, length-take-le, take_all}
use Rattle.std.proofs.Math.Seq.{take-add}
use Rattle.std.specs.Io.KnownBytes.{Appends, Consumes, IsAtEnd, Keeps}
use Rattle.std.specs.Io.Seek.{SeekMoves}
use Rattle.std.specs.declared.io.traits.SeekFrom.TheVariants.{Start}
use Rattle.outside.specs.Real.{FillsFrom, IsFilledFrom}

pub appends_again : (a b c : Option (List ℕ)) (x y z : List ℕ) → Appends a b x → Appends b c y → x ++ y ≡ z → Appends a c z
appends_again None b c x y z p q e = tt
appends_again (Some a) None c x y z p q e = absurd p
appends_again (Some a) (Some b) None x y z p q e = absurd q
appends_again (Some a) (Some b) (Some c) x y z p q e = q ∙ ap (λ t. t ++ y) p ∙ append_assoc a x y ∙ ap (λ t. a ++ t) e

pub consumes_again : (a b c : Option (List ℕ)) (x y z : List ℕ) → Consumes a b x → Consumes b c y → x ++ y ≡ z → Consumes a c z
consumes_again None b c x y z p q e = tt
consumes_again (Some a) None c x y z p q e = absurd p
consumes_again (Some a) (Some b) None x y z p q e = absurd q
consumes_again (Some a) (Some b) (Some c) x y z p q e = p ∙ ap (λ t. x ++ t) q ∙ sym (append_assoc x y c) ∙ ap (λ t. t ++ c) e

-- a piece is handed on from a place on
pub appends_more : (a b c : Option (List ℕ)) (k n : ℕ) (piece : List ℕ) → Appends a b (take k piece)
    → Appends b c (take n (take (length piece - k) (drop k piece))) → Appends a c (take (k + n) piece)
appends_more a b c k n piece p q =
    let all = take_all (length piece - k) (drop k piece) (omega (arith, length-drop k piece)) in
    appends_again a b c _ _ _ p q (ap (λ t. take k piece ++ take n t) all ∙ sym (take-add k n piece))

-- a buffer is filled from a place on
pub placed : (k n : ℕ) (buf ys post : List ℕ) → k ≤ length buf → n ≤ length ys → take (k + n) (take k buf ++ (ys ++ post)) ≡ take k buf ++ take n ys
placed k n buf ys post h l =
    let cut = ap (λ t. t ++ post) (sym (take-append-drop n ys)) ∙ append_assoc (take n ys) (drop n ys) post in
    ap (λ t. take (k + n) (take k buf ++ t)) cut
    ∙ ap (take (k + n)) (sym (append_assoc (take k buf) (take n ys) (drop n ys ++ post)))
    ∙ take_at (take k buf ++ take n ys) (drop n ys ++ post) (k + n)
    (omega (arith, length-append (take k buf) (take n ys), length-take-le k buf h, length-take-le n ys l))

pub placed_within : (k n : ℕ) (buf ys post : List ℕ) → k ≤ length buf → n ≤ length ys → k + n ≤ length (take k buf ++ (ys ++ post))
placed_within k n buf ys post h l = omega (arith, length-append (take k buf) (ys ++ post), length-append ys post, length-take-le k buf h)

pub consumes_more : (a b c : Option (List ℕ)) (k n : ℕ) (buf ys post : List ℕ) → k ≤ length buf → n ≤ length ys
    → Consumes a b (take k buf) → Consumes b c (take n ys) → Consumes a c (take (k + n) (take k buf ++ (ys ++ post)))
consumes_more a b c k n buf ys post h l p q = consumes_again a b c _ _ _ p q (sym (placed k n buf ys post h l))

-- what a read from a place on took
fills : (all buf rest : List ℕ) (at n : ℕ) → n ≤ length buf → drop at all ≡ take n buf ++ rest
    → (n < length buf → rest ≡ []) → FillsFrom all at n buf
fills all buf rest at n fits e done =
    let long : length (take n buf) ≡ n = length-take-le n buf fits in
    let behind : (rest ≡ []) → length all ≤ at + n = λ none.
    omega (arith, length-drop at all, ap length e, length-append (take n buf) rest, ap length none, long) in
    record {
      reads = record {
        front = take-add at n all ∙ ap (λ t. take at all ++ t) (ap (take n) e ∙ take_at (take n buf) rest n long);
        end = λ z room. omega (arith, behind (done (omega arith)));
      };
      short = λ less. behind (done less);
    }

-- a seek, and then reads
pub filled_from : {D E : Type 0} (p q : Option ℕ) (bs cs rem left : Option (List ℕ)) (at m : ℕ) (buf : List ℕ)
    (s : Result ℕ D) (r : Result ℕ E)
    → SeekMoves p q bs (Start at) s → s ≡ Ok m → Keeps bs cs
    → IfSome q (λ place. IfSome cs (λ all. rem ≡ Some (drop place all)))
    → IfOk r (λ n. n ≤ length buf) → IfOk r (λ n. Consumes rem left (take n buf))
    → IfOk r (λ n. n < length buf → IsAtEnd left) → IfOk r (λ n. IsFilledFrom p bs at n buf)
filled_from p q bs cs rem left at m buf s (Err e) moves is keeps go fits takes done = tt
filled_from None q bs cs rem left at m buf s (Ok n) moves is keeps go fits takes done = tt
filled_from (Some p) q None cs rem left at m buf s (Ok n) moves is keeps go fits takes done = tt
filled_from (Some p) q (Some all) None rem left at m buf s (Ok n) moves is keeps go fits takes done = absurd keeps
filled_from (Some p) q (Some all) (Some cs) rem left at m buf s (Ok n) moves is keeps go fits takes done =
    let moved = rw is at moves in
    let there : q ≡ Some at = moved.1 ∙ ap Some moved.0 in
    let rest : rem ≡ Some (drop at all) = (rw there at go) ∙ ap (λ t. Some (drop at t)) keeps in
    left_over left (rw rest at takes) done
  where
    left_over : (left : Option (List ℕ)) → Consumes (Some (drop at all)) left (take n buf) → (n < length buf → IsAtEnd left) → FillsFrom all at n buf
    left_over None takes done = absurd takes
    left_over (Some rest) takes done = fills all buf rest at n fits takes done
