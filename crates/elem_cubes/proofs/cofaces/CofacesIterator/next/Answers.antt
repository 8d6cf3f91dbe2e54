use Rattle.std.proofs.Common.{◌≡◌, ℕ, ◌<◌, ◌≤◌, ◌+◌, ◌∙◌, ap, sym, refl, arith, rules, List, ◌∷◌, length, drop, Bool, true, false, not}
use Rattle.std.specs.Prelude.{ℤ, FitsSigned}
use Rattle.std.specs.Int.{w8}
use Rattle.std.specs.List.{prefix_len}
use Rattle.std.proofs.lemmas.Int.{to_z-of_z}
use Rattle.elem_cubes.specs.Cells.{Factor, is_wide}
use Rattle.elem_cubes.specs.Faces.{intervals_at}
use Rattle.elem_cubes.specs.Walks.{factor_at, is_wide_as, sign_of, left}
use Rattle.elem_cubes.proofs.Walking.{left_skip, left_end, stops_at, no_intervals, cofaces_first, cofaces_second, gave, keeps_second, keeps_next}
use Rattle.elem_cubes.proofs.cofaces.CofacesIterator.next.Goals as goal

pub invariant_of-self : goal.invariant_of-self
invariant_of-self c =
    let t = c.self.invariant.0.twice c.if-self.true in
    (keeps_next false c.self.inside.cell c.self.inside.axis c.self.inside.negative c.self.inside.negative t.0 c.self.invariant.0.signed t.1 refl, c.self.invariant.1)

pub returns-then-self-clause-steps : goal.returns-then-self-clause-steps
returns-then-self-clause-steps c =
    let q = c.self.inside.cell in
    let a = c.self.inside.axis in
    let t = c.self.invariant.0.twice c.if-self.true in
    let f : FitsSigned w8 c.sign_of.result = search rules in
    let s = ap sign_of (sym c.self.invariant.0.signed) ∙ sym c.sign_of.ensures ∙ sym (to_z-of_z w8 c.sign_of.result f) in
    sym c.self.view_is ∙ ap (left intervals_at q a) c.if-self.true ∙ cofaces_second q a t.0 t.1 ∙ λ i. (sym c.downward-coface.ensures i, s i) ∷ left intervals_at q (a + 1) false

-- at the next interval, or past the last
at_next : (q : List Factor) (a : ℕ) (second : Bool) (now : List (List Factor × ℤ)) (n : ℕ) → left intervals_at q a second ≡ now → second ≡ false → n ≡ a + prefix_len (is_wide_as true) (drop a q) → now ≡ left intervals_at q n false
at_next q a second now n v s e =
    sym v ∙ ap (left intervals_at q a) s ∙ left_skip intervals_at (is_wide_as true) no_intervals q a (prefix_len (is_wide_as true) (drop a q)) refl ∙ ap (λ m. left intervals_at q m false) (sym e)

narrow_at : (q : List Factor) (a n : ℕ) → n ≡ a + prefix_len (is_wide_as true) (drop a q) → n < length q → a ≤ length q → is_wide (factor_at q n) ≡ false
narrow_at q a n e h w = stops_at (is_wide_as true) q a n e h w

pub returns-then-axis-len-clause-steps : goal.returns-then-axis-len-clause-steps
returns-then-axis-len-clause-steps c =
    let q = c.self.inside.cell in
    let n = c.next_axis-axis.result.0 in
    let e = c.if-axis-len.true ∙ c.len.ensures.len in (
      at_next q c.self.inside.axis c.self.inside.second c.args.self.now n c.self.view_is c.if-self.false c.next_axis-axis.ensures.place ∙ left_end intervals_at q n false e refl,
      left_end intervals_at q n c.self.inside.second e c.if-self.false,
    )

pub invariant_of-self-2 : goal.invariant_of-self-2
invariant_of-self-2 c =
    let h : c.next_axis-axis.result.0 < length c.self.inside.cell = omega (arith, c.len.ensures.len, c.if-axis-len.false, c.next_axis-axis.ensures.within) in (
      keeps_second false c.self.inside.cell c.next_axis-axis.result.0 c.next_axis-axis.result.1 h c.next_axis-axis.ensures.signed
          (narrow_at c.self.inside.cell c.self.inside.axis c.next_axis-axis.result.0 c.next_axis-axis.ensures.place h c.self.invariant.0.within),
      c.self.invariant.1,
    )

pub returns-clause-steps : goal.returns-clause-steps
returns-clause-steps c =
    let q = c.self.inside.cell in
    let n = c.next_axis-axis.result.0 in
    let h : n < length q = omega (arith, c.len.ensures.len, c.if-axis-len.false, c.next_axis-axis.ensures.within) in
    let f : FitsSigned w8 c.sign_of-2.result = search rules in
    let s = ap (λ b. sign_of (not b)) (sym c.next_axis-axis.ensures.signed) ∙ sym c.sign_of-2.ensures ∙ sym (to_z-of_z w8 c.sign_of-2.result f) in
    at_next q c.self.inside.axis c.self.inside.second c.args.self.now n c.self.view_is c.if-self.false c.next_axis-axis.ensures.place
    ∙ cofaces_first q n h (narrow_at q c.self.inside.axis n c.next_axis-axis.ensures.place h c.self.invariant.0.within)
    ∙ λ i. (sym c.upward.ensures i, s i) ∷ left intervals_at q n true

pub returns-clause-goes : goal.returns-clause-goes
returns-clause-goes c = gave c.args.self.now _ _ (returns-clause-steps c)
