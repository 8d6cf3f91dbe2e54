use Rattle.std.proofs.Common.{◌≡◌, ℕ, ◌<◌, ◌≤◌, ◌+◌, ◌∙◌, ap, sym, refl, arith, rules, List, ◌∷◌, length, drop, Bool, true, false, not}
use Rattle.std.specs.Prelude.{ℤ, FitsSigned}
use Rattle.std.specs.Int.{w8}
use Rattle.std.specs.List.{prefix_len}
use Rattle.std.proofs.lemmas.Int.{to_z-of_z}
use Rattle.elem_cubes.specs.Cells.{Factor, is_wide}
use Rattle.elem_cubes.specs.Faces.{ends_of}
use Rattle.elem_cubes.specs.Walks.{factor_at, is_wide_as, sign_of, left}
use Rattle.elem_cubes.proofs.Walking.{not_not, left_skip, left_end, stops_at, no_ends, faces_first, faces_second, gave, keeps_second, keeps_next}
use Rattle.elem_cubes.proofs.faces.FacesIterator.next.Goals as goal

pub invariant_of-self : goal.invariant_of-self
invariant_of-self c =
    let t = c.self.invariant.twice c.if-self.true in
    keeps_next true c.self.inside.cell c.self.inside.axis c.self.inside.negative (not c.self.inside.negative) t.0 c.self.invariant.signed t.1 refl

pub returns-then-self-clause-steps : goal.returns-then-self-clause-steps
returns-then-self-clause-steps c =
    let q = c.self.inside.cell in
    let a = c.self.inside.axis in
    let t = c.self.invariant.twice c.if-self.true in
    let f : FitsSigned w8 c.sign_of.result = search rules in
    let s = ap (λ b. sign_of (not b)) (sym c.self.invariant.signed) ∙ sym c.sign_of.ensures ∙ sym (to_z-of_z w8 c.sign_of.result f) in
    sym c.self.view_is ∙ ap (left ends_of q a) c.if-self.true ∙ faces_second q a t.0 t.1 ∙ λ i. (sym c.lower_end-face.ensures i, s i) ∷ left ends_of q (a + 1) false

-- at the next interval, or past the last
at_next : (q : List Factor) (a : ℕ) (second : Bool) (now : List (List Factor × ℤ)) (n : ℕ) → left ends_of q a second ≡ now → second ≡ false → n ≡ a + prefix_len (is_wide_as false) (drop a q) → now ≡ left ends_of q n false
at_next q a second now n v s e =
    sym v ∙ ap (left ends_of q a) s ∙ left_skip ends_of (is_wide_as false) no_ends q a (prefix_len (is_wide_as false) (drop a q)) refl ∙ ap (λ m. left ends_of q m false) (sym e)

wide_at : (q : List Factor) (a n : ℕ) → n ≡ a + prefix_len (is_wide_as false) (drop a q) → n < length q → a ≤ length q → is_wide (factor_at q n) ≡ true
wide_at q a n e h w = sym (not_not (is_wide (factor_at q n))) ∙ ap not (stops_at (is_wide_as false) q a n e h w)

pub returns-then-axis-len-clause-steps : goal.returns-then-axis-len-clause-steps
returns-then-axis-len-clause-steps c =
    let q = c.self.inside.cell in
    let n = c.next_axis-axis.result.0 in
    let e = c.if-axis-len.true ∙ c.len.ensures.len in (
      at_next q c.self.inside.axis c.self.inside.second c.args.self.now n c.self.view_is c.if-self.false c.next_axis-axis.ensures.place ∙ left_end ends_of q n false e refl,
      left_end ends_of q n c.self.inside.second e c.if-self.false,
    )

pub upper_end-requires-clause-wide : goal.upper_end-requires-clause-wide
upper_end-requires-clause-wide c =
    wide_at c.self.inside.cell c.self.inside.axis c.next_axis-axis.result.0 c.next_axis-axis.ensures.place (omega (arith, c.len.ensures.len, c.if-axis-len.false, c.next_axis-axis.ensures.within)) c.self.invariant.within

pub invariant_of-self-2 : goal.invariant_of-self-2
invariant_of-self-2 c =
    let h : c.next_axis-axis.result.0 < length c.self.inside.cell = omega (arith, c.len.ensures.len, c.if-axis-len.false, c.next_axis-axis.ensures.within) in
    keeps_second true c.self.inside.cell c.next_axis-axis.result.0 c.next_axis-axis.result.1 h c.next_axis-axis.ensures.signed
    (wide_at c.self.inside.cell c.self.inside.axis c.next_axis-axis.result.0 c.next_axis-axis.ensures.place h c.self.invariant.within)

pub returns-clause-steps : goal.returns-clause-steps
returns-clause-steps c =
    let q = c.self.inside.cell in
    let n = c.next_axis-axis.result.0 in
    let h : n < length q = omega (arith, c.len.ensures.len, c.if-axis-len.false, c.next_axis-axis.ensures.within) in
    let f : FitsSigned w8 c.sign_of-2.result = search rules in
    let s = ap sign_of (sym c.next_axis-axis.ensures.signed) ∙ sym c.sign_of-2.ensures ∙ sym (to_z-of_z w8 c.sign_of-2.result f) in
    at_next q c.self.inside.axis c.self.inside.second c.args.self.now n c.self.view_is c.if-self.false c.next_axis-axis.ensures.place
    ∙ faces_first q n h (wide_at q c.self.inside.axis n c.next_axis-axis.ensures.place h c.self.invariant.within)
    ∙ λ i. (sym c.upper_end.ensures i, s i) ∷ left ends_of q n true

pub returns-clause-goes : goal.returns-clause-goes
returns-clause-goes c = gave c.args.self.now _ _ (returns-clause-steps c)
