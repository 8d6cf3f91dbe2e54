use Rattle.std.proofs.Common.{◌≡◌, ◌∙◌, ◌+◌, ℕ, List, [], length, ap, sym, get_or, subst}
use Rattle.std.proofs.lemmas.Bool.{true≢false, false_from_ne_true}
use Rattle.chains.specs.ChainComplex.{ChainComplex}
use Rattle.algebraic_reduction.proofs.OneMore.{written}
use Rattle.excision.specs.Left.{is_unpaired}
use Rattle.excision.proofs.Leaving.{unpaired_test}
use Rattle.face_reduction.specs.Cofaces.{AreTallies, AddsAt, is_coface}
use Rattle.face_reduction.proofs.Tallying.{tallies_none, tallies_more, tallies_skip}
use Rattle.face_reduction.proofs.cofaces.cofaces_of.Goals as goal
use Rattle.face_reduction.proofs.cofaces.cofaces_of.Goals.{then-alive, else-alive}

pub loop-coface-init : goal.loop-coface-init
loop-coface-init g c = record {
  size = c.in_ok-tallies.ensures.count ∙ c.len.ensures.count ∙ ap (λ (M : ChainComplex). length M.boundaries) c.complex-complex.ensures;
  tallies = tallies_none 0 (is_coface c.args.log.now.complex c.args.log.now.steps) c.in_ok-tallies.tallies.items c.in_ok-tallies.ensures.none;
}

pub loop-coface-preserved : goal.loop-coface-preserved
loop-coface-preserved g c = elim c.if-alive.branch [
  | then-alive w ↦
      let K = c.args.log.now.complex in
      let ss = c.args.log.now.steps in
      let j = c.loop-coface.coface in
      let V = c.loop-coface.tallies in
      let new = w.change_faces.new.tallies in
      let a = subst (λ (ts : List (ℕ × ℕ)). AddsAt w.boundary.result.now 1 j ts new) w.deref_mut.ensures.value w.change_faces.ensures in
      let n : V.len ≡ length new = V.ok.0 ∙ sym a.size in
      let at = w.boundary.ensures.value ∙ ap (λ (M : ChainComplex). get_or M.boundaries j []) c.complex-complex.ensures in
      let t = tallies_more K ss j V.items new w.boundary.result.now (c.alive.ensures.0 w.if-alive.true) at a c.loop-coface.invariant.tallies in
      rw w.tallies-is (record {
        size = ap (λ (ts : List (ℕ × ℕ)). length ts) (written V.len new _ n) ∙ a.size ∙ c.loop-coface.invariant.size;
        tallies = subst (λ (ts : List (ℕ × ℕ)). AreTallies (j + 1) (is_coface K ss) ts) (sym (written V.len new _ n)) t;
      })
  | else-alive w ↦
      let ss = c.args.log.now.steps in
      let j = c.loop-coface.coface in
      rw w.tallies-is (record {
        size = c.loop-coface.invariant.size;
        tallies = tallies_skip c.args.log.now.complex ss j c.loop-coface.tallies.items (false_from_ne_true (is_unpaired ss j) (λ e. true≢false (sym (c.alive.ensures.1 (unpaired_test ss j e)) ∙ w.if-alive.false))) c.loop-coface.invariant.tallies;
      })
]
