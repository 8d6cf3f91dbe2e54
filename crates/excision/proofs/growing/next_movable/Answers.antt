use Rattle.std.proofs.Common.{◌∙◌, List, [], length, sym, ap, subst, arith, true≢false, ℕ}
use Rattle.std.proofs.lemmas.List.{length-map}
use Rattle.std.proofs.lemmas.Option.{get_or_from_slice_get}
use Rattle.elem_cubes.specs.Cells.{Factor}
use Rattle.elem_cubes.specs.Laws.{cell_at}
use Rattle.cube_sets.proofs.Covering.{member_parts}
use Rattle.excision.specs.Left.{is_gone, IsMovableInto}
use Rattle.excision.specs.Numbers.{face_numbers}
use Rattle.excision.proofs.Moved.{idle_next}
use Rattle.excision.proofs.Placing.{list_of}
use Rattle.excision.proofs.Remembering.{known_alike}
use Rattle.excision.proofs.growing.next_movable.Goals as goal

pub of_member-numbers-requires : goal.of_member-numbers-requires
of_member-numbers-requires g c = let e = ap (λ (fs : List (List ℕ)). length fs) c.requires.faces in let l = length-map c.args.x.now.cells (face_numbers c.args.cells.now) in omega arith

pub is_movable-requires : goal.is_movable-requires
is_movable-requires g c =
    let q = c.cell-cube.result in
    let parts = member_parts c.args.x.now.dimension q c.cell-cube.ensures.member in
    let at = get_or_from_slice_get c.args.x.now.cells c.in-Some.member q [] c.cell-cube.ensures.cell in (
      omega arith,
      (
        omega arith,
        (
          parts.1,
          (
            c.requires.complex,
            (
              c.requires.closed q (c.in-Some.member, omega arith, get_or_from_slice_get c.args.x.now.cells c.in-Some.member q q c.cell-cube.ensures.cell),
              (
                c.of_member-numbers.ensures ∙ list_of c.args.cells.now c.args.x.now.cells c.args.faces.now c.in-Some.member c.requires.faces (omega arith) ∙ ap (face_numbers c.args.cells.now) at,
                known_alike g.row.P c.args.x.now.dimension (length q) c.looking.known (sym parts.0) c.looking.invariant.known,
              ),
            ),
          ),
        ),
      ),
    )

pub looking-preserved : goal.looking-preserved
looking-preserved g c = record {
  known = known_alike g.row.P (length c.cell-cube.result) c.args.x.now.dimension c.is_movable.new.known (member_parts c.args.x.now.dimension c.cell-cube.result c.cell-cube.ensures.member).0 c.in_ok-is_movable.ensures.known;
  idle = idle_next (λ j. IsMovableInto g.row.P (is_gone c.args.cells.now c.args.log.now.steps) (cell_at c.args.x.now.cells j)) (length c.args.x.now.cells) c.in-Some.member c.looking.waiting _ c.in-Some.ensures.kept c.looking.invariant.idle
      (λ l m. true≢false (sym (c.in_ok-is_movable.ensures.movable.1 (subst (λ (q : List Factor). IsMovableInto g.row.P (is_gone c.args.cells.now c.args.log.now.steps) q) (get_or_from_slice_get c.args.x.now.cells c.in-Some.member c.cell-cube.result [] c.cell-cube.ensures.cell) m)) ∙ c.if-branch.false));
}

pub returns-then-branch-clause-known : goal.returns-then-branch-clause-known
returns-then-branch-clause-known g c = known_alike g.row.P (length c.cell-cube.result) c.args.x.now.dimension c.is_movable.new.known (member_parts c.args.x.now.dimension c.cell-cube.result c.cell-cube.ensures.member).0 c.in_ok-is_movable.ensures.known

pub returns-then-branch-clause-some : goal.returns-then-branch-clause-some
returns-then-branch-clause-some g c = subst (λ (q : List Factor). IsMovableInto g.row.P (is_gone c.args.cells.now c.args.log.now.steps) q) (sym (get_or_from_slice_get c.args.x.now.cells c.in-Some.member c.cell-cube.result [] c.cell-cube.ensures.cell))
    (c.in_ok-is_movable.ensures.movable.0 c.if-branch.true)
