use Rattle.std.proofs.Common.{◌∙◌, sym, arith, List}
use Rattle.std.proofs.lemmas.Bool.{true≢false}
use Rattle.elem_cubes.specs.Cells.{Factor}
use Rattle.elem_cubes.specs.Laws.{cell_at}
use Rattle.cell_complex.specs.FreePairs.{IsFreePair}
use Rattle.excision.specs.Left.{is_left}
use Rattle.face_reduction.specs.Logs.{IsFreeNumber}
use Rattle.face_reduction.proofs.Finding.{no_free_face, if_some_by, if_none_by}
use Rattle.face_reduction.proofs.Cofacing.{only_some, only_none, not_left}
use Rattle.face_reduction.proofs.free_pairs.free_coface.Goals as goal

pub alive-requires : goal.alive-requires
alive-requires g c = (omega arith, omega (arith, c.requires.complex.count, c.requires.face))

pub returns-then-not-alive-clause-none : goal.returns-then-not-alive-clause-none
returns-then-not-alive-clause-none g c = no_free_face (is_left c.args.cells.now c.args.log.now.steps) (cell_at c.args.cells.now c.args.face)
    (not_left g.row.P c.args.cells.now c.args.log.now.complex c.args.log.now.steps c.args.face c.len.ensures.sorted c.requires.complex c.requires.face (λ u. true≢false (sym (c.alive.ensures.1 u) ∙ c.if-not-alive.true)))

pub returns-clause-some : goal.returns-clause-some
returns-clause-some g c = if_some_by c.only_coface.result (IsFreeNumber c.args.cells.now c.args.log.now.steps c.args.face) (λ n e.
    only_some g.row.P c.args.cells.now c.args.log.now.complex c.requires.prime c.len.ensures.sorted c.requires.complex c.args.log.now.steps c.args.tallies.now c.requires.tallies c.args.face c.requires.face
    n (sym c.only_coface.ensures ∙ e) (c.alive.ensures.0 c.if-not-alive.false))

pub returns-clause-none : goal.returns-clause-none
returns-clause-none g c = if_none_by c.only_coface.result ((b : List Factor) → ¬ IsFreePair (is_left c.args.cells.now c.args.log.now.steps) (cell_at c.args.cells.now c.args.face) b) (λ e.
    only_none g.row.P c.args.cells.now c.args.log.now.complex c.requires.prime c.len.ensures.sorted c.requires.complex c.args.log.now.steps c.args.tallies.now c.requires.tallies c.args.face c.requires.face
    (sym c.only_coface.ensures ∙ e))
