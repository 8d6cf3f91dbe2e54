use Rattle.std.proofs.Common.{◌≡◌, ◌∙◌, ℕ, ap, subst, List, [], get_or, arith, sym}
use Rattle.field_mod.proofs.Table.{two_le}
use Rattle.chains.specs.ChainComplex.{ChainComplex}
use Rattle.face_reduction.specs.Cofaces.{CountCofaces}
use Rattle.face_reduction.proofs.Tallying.{tallies_pair}
use Rattle.face_reduction.proofs.Taking.{may_take}
use Rattle.face_reduction.proofs.Turning.{free_apart}
use Rattle.face_reduction.proofs.free_pairs.take_pair.Goals as goal

pub reduce_pair-requires : goal.reduce_pair-requires
reduce_pair-requires g c =
    let m = may_take g.row.P c.args.cells.now c.args.log.complex c.args.log.steps c.args.pair.0 c.args.pair.1 (two_le g.row.P c.args.field.listed) c.len.ensures.sorted
    c.requires.complex c.step_count.ensures.steps c.requires.steps c.requires.inside c.requires.free in
    (omega arith, (omega arith, (m.a_alive, (m.b_alive, m.incident))))

pub returns-clause-tallies : goal.returns-clause-tallies
returns-clause-tallies g c =
    let a = c.args.pair.0 in
    let b = c.args.pair.1 in
    let K = c.args.log.complex in
    let new = c.in_ok-log.log.steps in
    let C = c.requires.complex in
    let m = may_take g.row.P c.args.cells.now K c.args.log.steps a b (two_le g.row.P c.args.field.listed) c.len.ensures.sorted C c.step_count.ensures.steps c.requires.steps c.requires.inside c.requires.free in
    let at = λ (k : ℕ) (ts : List (ℕ × ℕ)) (M : ChainComplex) (e : ts ≡ get_or M.boundaries k []) (q : M ≡ c.in_ok-log.log.complex). e ∙ ap (λ (M : ChainComplex). get_or M.boundaries k []) (q ∙ c.in_ok-log.ensures.complex) in
    subst (λ (M : ChainComplex). CountCofaces M new c.take_coface-2.new.tallies) (sym c.in_ok-log.ensures.complex)
    (tallies_pair K c.args.log.steps new a b c.boundary.result.now c.boundary-2.result.now c.args.tallies.now c.take_coface.new.tallies c.take_coface-2.new.tallies
    (omega (arith, C.count, C.short)) c.in_ok-log.ensures.one_more (omega (arith, C.count, c.requires.inside)) (omega (arith, C.count, c.requires.free.inside)) m.a_alive.1 m.b_alive.1 (free_apart c.args.cells.now c.args.log.steps a b c.requires.free)
    (at a c.boundary.result.now _ c.boundary.ensures.value c.complex.ensures) (at b c.boundary-2.result.now _ c.boundary-2.ensures.value c.complex-2.ensures)
    c.take_coface.ensures c.take_coface-2.ensures c.requires.tallies)
