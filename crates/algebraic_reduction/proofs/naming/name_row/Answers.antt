use Rattle.std.proofs.Common.{arith, ap, ◌∙◌, ◌<◌, length, List, ℕ, [], ◌∷◌, ◌++◌}
use Rattle.std.proofs.lemmas.List.{get_or_default}
use Rattle.algebraic_reduction.proofs.NamedRows.{naming_push, naming_skip}
use Rattle.algebraic_reduction.proofs.naming.name_row.Goals as goal
use Rattle.algebraic_reduction.proofs.naming.name_row.Goals.{then-place-lists+in_ok-push, else-place-lists}

pub loop-index-preserved : goal.loop-index-preserved
loop-index-preserved g c =
    let l : c.loop-index.index < length c.args.row.now = omega (arith, c.loop-index-test.true, c.len-index-end.ensures.count) in
    let t = ap (λ (u : ℕ × ℕ). u.0) c.term-at.ensures.value in
    elim c.if-place-lists.branch [
      | then-place-lists+in_ok-push w ↦
          naming_push _ _ _ c.args.row.now _ _ _ _ c.loop-index.invariant l t w.if-place-lists.true (w.in_ok-push.ensures.ok ∙ ap (λ (xs : List ℕ). xs ++ c.args.generator ∷ []) (get_or_default _ _ _ _ w.if-place-lists.true)) w.lists-is
      | else-place-lists w ↦ rw w.lists-is (naming_skip _ _ c.args.row.now _ _ c.loop-index.invariant l (let past = w.if-place-lists.false in omega arith))
    ]
