use Rattle.std.proofs.Common.{◌≡◌, ◌∙◌, ◌≢◌, length, ℕ, sym, ap, subst, List, [], get_or, arith}
use Rattle.field_mod.proofs.Table.{two_le}
use Rattle.chains.specs.Terms.{coefficient}
use Rattle.chains.specs.ChainComplex.{ChainComplex}
use Rattle.face_reduction.proofs.Cofacing.{facet_named, waits_or_none, waits_still}
use Rattle.face_reduction.specs.Cofaces.{CountCofaces, WaitsIfFree}
use Rattle.algebraic_reduction.proofs.OneMore.{written}
use Rattle.face_reduction.proofs.Pairing.{collapse_both}
use Rattle.face_reduction.proofs.Taking.{took, one_less, steps_kept, complex_kept}
use Rattle.face_reduction.proofs.Turning.{idle_first, still_idle, none_at_all}
use Rattle.face_reduction.proofs.collapsing.collapse.Goals as goal

pub cofaces_of-requires : goal.cofaces_of-requires
cofaces_of-requires g c = omega (arith, c.requires.complex.count, c.requires.complex.short)

pub take_rising-requires : goal.take_rising-requires
take_rising-requires g c =
    let told = subst (λ (ts : List (ℕ × ℕ)). CountCofaces c.args.log.complex c.args.log.steps ts) (sym c.deref_mut.ensures.value) c.in_ok-tallies.ensures in
    (omega arith, (omega arith, (c.requires.complex, (c.requires.steps, told))))

pub pairs-init : goal.pairs-init
pairs-init g c =
    let cells = c.args.cells.now in
    let r = c.in_ok-log.ensures in
    let K = c.in_ok-log.log.complex in
    let V = c.in_ok-tallies.tallies in
    let w = written V.len c.take_rising.new.tallies _ (V.ok.0 ∙ c.in_ok-tallies.ensures.size ∙ ap (λ (M : ChainComplex). length M.boundaries) (sym r.complex) ∙ sym r.tallies.size) in
    let told = subst (λ (ts : List (ℕ × ℕ)). CountCofaces K c.in_ok-log.log.steps ts) (sym w) r.tallies in
    record {
      complex = r.complex;
      collapse = r.collapse;
      tallies = told;
      idle = idle_first cells _ c.in_ok-waiting.waiting (λ k l. waits_or_none g.row.P cells K (two_le g.row.P c.args.field.listed) c.len.ensures.sorted (complex_kept g.row.P cells c.args.log.complex K r.complex c.requires.complex) c.in_ok-log.log.steps _ told k l c.in_ok-waiting.waiting
          (subst (λ (ts : List (ℕ × ℕ)). WaitsIfFree ts c.in_ok-waiting.waiting k) c.deref.ensures.value (c.in_ok-waiting.ensures k (omega (arith, l, c.len.ensures.count)))));
    }

pub pairs-smaller : goal.pairs-smaller
pairs-smaller g c = one_less c.args.cells.now c.pairs.log.steps c.in_ok-log-2.log.steps c.in-Some.pair.0 c.in-Some.pair.1 c.len.ensures.sorted c.in-Some.ensures.some c.in_ok-log-2.ensures.taken

pub returns-clause-none_free : goal.returns-clause-none_free
returns-clause-none_free g c = none_at_all c.args.cells.now c.pairs.log.steps c.len.ensures.sorted c.in_default.ensures.none

pub take_pair-requires : goal.take_pair-requires
take_pair-requires g c =
    let i = c.pairs.invariant in
    let cells = c.args.cells.now in
    let complex = complex_kept g.row.P cells c.args.log.complex c.pairs.log.complex i.complex c.requires.complex in
    let steps = steps_kept cells c.args.log.steps c.pairs.log.steps c.len.ensures.sorted i.collapse c.requires.steps in
    let told = subst (λ (ts : List (ℕ × ℕ)). CountCofaces c.pairs.log.complex c.pairs.log.steps ts) (sym c.deref_mut-in-Some.ensures.value) i.tallies in
    (omega arith, (omega arith, (complex, (steps, (told, (c.in-Some.ensures.inside, c.in-Some.ensures.some))))))

pub pairs-preserved : goal.pairs-preserved
pairs-preserved g c =
    let cells = c.args.cells.now in
    let i = c.pairs.invariant in
    let a = c.in-Some.pair.0 in
    let b = c.in-Some.pair.1 in
    let r = c.in_ok-log-2.ensures in
    let K = c.in_ok-log-2.log.complex in
    let new = c.in_ok-log-2.log.steps in
    let first = c.in_ok-wake_faces.ensures in
    let second = c.in_ok-wake_faces-2.ensures in
    let two = two_le g.row.P c.args.field.listed in
    let free = c.in-Some.ensures.some in
    let C = complex_kept g.row.P cells c.args.log.complex K (r.complex ∙ i.complex) c.requires.complex in
    let at = λ (k : ℕ) (ts : List (ℕ × ℕ)) (M : ChainComplex) (e : ts ≡ get_or M.boundaries k []) (q : M ≡ K). e ∙ ap (λ (M : ChainComplex). get_or M.boundaries k []) q in
    let V = c.pairs.tallies in
    let counted = c.take_pair.new.tallies in
    let w = written V.len counted _ (V.ok.0 ∙ i.tallies.size ∙ ap (λ (M : ChainComplex). length M.boundaries) (sym r.complex) ∙ sym r.tallies.size) in
    let at_a = at a c.boundary.result.now _ c.boundary.ensures.value c.complex.ensures in
    let at_b = at b c.boundary-in-Some.result.now _ c.boundary-in-Some.ensures.value c.complex-in-Some.ensures in
    let now = c.wake_faces-in-Some.new.waiting in
    let waits = waits_or_none g.row.P cells K two c.len.ensures.sorted C new counted r.tallies in
    record {
      complex = r.complex ∙ i.complex;
      collapse = collapse_both cells c.args.log.steps c.pairs.log.steps new c.len.ensures.sorted i.collapse (took cells c.pairs.log.steps new a b free r.taken);
      tallies = subst (λ (ts : List (ℕ × ℕ)). CountCofaces K new ts) (sym w) r.tallies;
      idle = still_idle cells c.pairs.log.steps new a b c.len.ensures.sorted c.in-Some.ensures.inside free r.taken
          c.next_free.new.waiting now c.in-Some.ensures.rest (λ k h. second.kept k (first.kept k h))
          (λ k l x. waits k l now (waits_still counted c.wake_faces.new.waiting now k second.kept (subst (λ (ts : List (ℕ × ℕ)). WaitsIfFree ts c.wake_faces.new.waiting k) (c.deref-in-Some.ensures.value ∙ w)
          (first.woken k (subst (λ (ts : List (ℕ × ℕ)). coefficient ts k ≢ 0) (sym at_a) (facet_named g.row.P cells K two c.len.ensures.sorted C a k c.in-Some.ensures.inside x))))))
          (λ k l x. waits k l now (subst (λ (ts : List (ℕ × ℕ)). WaitsIfFree ts now k) (c.deref-in-Some-2.ensures.value ∙ w)
          (second.woken k (subst (λ (ts : List (ℕ × ℕ)). coefficient ts k ≢ 0) (sym at_b) (facet_named g.row.P cells K two c.len.ensures.sorted C b k free.inside x)))));
    }
