use Rattle.std.proofs.Common.{◌∙◌, ◌+◌, ◌%◌, sym, ap, subst, arith, ℕ, List, [], take}
use Rattle.std.specs.List.{Contains}
use Rattle.std.proofs.lemmas.Bool.{false≢true}
use Rattle.std.proofs.lemmas.Option.{get_or_from_slice_get, slice_get_within}
use Rattle.elem_cubes.specs.Cells.{Factor}
use Rattle.chains.specs.Terms.{coefficient}
use Rattle.witness_sections.proofs.Termwise.{IsReadTo, read_none, read_more, read_skip, read_end}
use Rattle.witness_sections.proofs.reading.read_chain.Goals as goal
use Rattle.witness_sections.proofs.reading.read_chain.Goals.{in-Some+in_ok-push, in_default}

pub loop-place-init : goal.loop-place-init
loop-place-init g c = read_none c.args.cells.now c.args.to.now c.args.chain.now c.in_ok-terms.terms.items c.in_ok-terms.ensures.items

pub loop-place-preserved : goal.loop-place-preserved
loop-place-preserved g c =
    elim c.match-number.branch [
      | in-Some+in_ok-push w ↦ rw w.terms-is (read_more c.args.cells.now c.args.to.now c.len-sorted.ensures.sorted.sorted c.args.chain.now c.loop-place.terms.items w.push.new.self.items c.loop-place.place
          c.term-number.result.0 c.term-number.result.1 w.in-Some.other (omega (arith, c.loop-place-test.true, c.len-place-end.ensures.count)) (ap (λ (t : ℕ × ℕ). t.0) c.term-number.ensures.value) (ap (λ (t : ℕ × ℕ). t.1) c.term-number.ensures.value)
          (slice_get_within c.args.to.now w.in-Some.other c.cell_of.result w.in-Some.ensures.place)
          (get_or_from_slice_get c.args.to.now w.in-Some.other c.cell_of.result [] w.in-Some.ensures.place ∙ c.cell_of.ensures)
          w.in_ok-push.ensures.items c.loop-place.invariant)
      | in_default w ↦ subst (λ ts. IsReadTo c.args.cells.now c.args.to.now (take (c.loop-place.place + 1) c.args.chain.now) ts) (sym (ap (λ v. v.items) w.terms-is)) (read_skip c.args.cells.now c.args.to.now c.len-sorted.ensures.sorted.sorted c.args.chain.now c.loop-place.terms.items c.loop-place.place
          c.term-number.result.0 c.term-number.result.1 (omega (arith, c.loop-place-test.true, c.len-place-end.ensures.count)) (ap (λ (t : ℕ × ℕ). t.0) c.term-number.ensures.value) (ap (λ (t : ℕ × ℕ). t.1) c.term-number.ensures.value)
          (λ q. false≢true (w.in_default.ensures.found.1 (subst (λ (r : List Factor). Contains c.args.to.now r) (sym c.cell_of.ensures) q)))
          c.loop-place.invariant)
    ]

pub returns : goal.returns
returns g c =
    read_end g.row.P c.args.cells.now c.args.to.now c.args.chain.now c.loop-place.terms.items c.in_ok-read.read c.loop-place.place (omega (arith, c.loop-place-test.false, c.len-place-end.ensures.count)) c.loop-place.invariant
    c.in_ok-read.ensures.normal (λ h. c.in_ok-read.ensures.sum h ∙ ap (λ ts. coefficient ts h % g.row.P) c.deref.ensures.value)
