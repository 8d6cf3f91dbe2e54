use Rattle.std.proofs.Common.{◌≡◌, ◌≢◌, ◌∙◌, ◌++◌, ◌∷◌, ℕ, ◌<◌, List, [], sym, ap, subst, arith, length, false}
use Rattle.excision.specs.Left.{is_one_of}
use Rattle.std.proofs.lemmas.List.{length-map}
use Rattle.std.proofs.lemmas.List.Elements.{Contains-get_or}
use Rattle.std.proofs.lemmas.Option.{get_or_from_slice_get}
use Rattle.field_mod.proofs.Table.{two_le}
use Rattle.elem_cubes.specs.Cells.{Factor}
use Rattle.elem_cubes.specs.Laws.{cell_at}
use Rattle.chains.specs.ChainComplex.{ChainComplex}
use Rattle.algebraic_reduction.specs.Laws.{AreStepsOf}
use Rattle.cell_complex.specs.Numbering.{IsComplexOf}
use Rattle.cell_complex.specs.Growth.{IsMovable, IsGrowth}
use Rattle.cell_complex.proofs.Going.{go_on}
use Rattle.excision.specs.Left.{is_gone, IsMovableInto}
use Rattle.excision.specs.Numbers.{face_numbers}
use Rattle.excision.specs.Taking.{TakeFaces}
use Rattle.excision.proofs.Counting.{fewer_missing}
use Rattle.excision.proofs.Leaving.{gone_closed, movable_into, movable_from}
use Rattle.excision.proofs.Moved.{finished_alone, some_of, none_of, all_members, numbers_inside, numbers_closed, move_takes, still_idle, are_at}
use Rattle.excision.proofs.Placing.{list_of, left_are}
use Rattle.excision.proofs.growing.grow.Goals as goal

pub next_movable-requires : goal.next_movable-requires
next_movable-requires g c =
    let i = c.moves.invariant in
    let x = c.args.x.now.cells in
    let a = c.args.a.now.cells in
    let L = c.requires.complex.listing in (
      omega arith,
      (
        omega arith,
        (
          subst (λ (M : ChainComplex). IsComplexOf g.row.P c.args.cells.now M) (sym i.complex) c.requires.complex.complex,
          (
            (λ q w. gone_closed x a c.args.cells.now c.moves.cubes c.moves.log.steps c.len.ensures.sorted L i.taken q w),
            (
              c.in_ok-faces.ensures,
              (
                i.known,
                (λ j l f m. i.idle j l f (movable_from x a c.args.cells.now c.moves.cubes c.moves.log.steps c.len.ensures.sorted L i.taken g.row.P (cell_at x j) (Contains-get_or x j [] l) m)),
              ),
            ),
          ),
        ),
      ),
    )

pub of_member-requires : goal.of_member-requires
of_member-requires g c =
    let x = c.args.x.now.cells in
    let inside = some_of c.in_ok-member.field-0 (λ m. m < length x) c.in-Some.member c.in-Some.is c.in_ok-member.ensures.member in
    let e = ap (λ (fs : List (List ℕ)). length fs) c.in_ok-faces.ensures in
    let l = length-map x (face_numbers c.args.cells.now) in
    omega arith

pub cell-requires : goal.cell-requires
cell-requires g c = some_of c.in_ok-member.field-0 (λ m. m < length c.args.x.now.cells) c.in-Some.member c.in-Some.is c.in_ok-member.ensures.member

pub wake-requires : goal.wake-requires
wake-requires g c n w =
    let i = c.moves.invariant in
    let x = c.args.x.now.cells in
    let q = cell_at x c.in-Some.member in
    let inside = some_of c.in_ok-member.field-0 (λ m. m < length x) c.in-Some.member c.in-Some.is c.in_ok-member.ensures.member in
    let left = left_are c.args.cells.now c.len.ensures.sorted c.moves.log.steps (length c.moves.log.complex.boundaries) q c.of_member.result.now c.in_ok-numbers.numbers.items (ap (λ (M : ChainComplex). length M.boundaries) i.complex ∙ c.requires.complex.complex.count)
    (c.of_member.ensures ∙ list_of c.args.cells.now x c.in_ok-faces.faces c.in-Some.member c.in_ok-faces.ensures inside) c.in_ok-numbers.ensures in
    let l = ((are_at c.args.cells.now c.moves.log.steps q c.in_ok-numbers.numbers.items c.deref.result.now c.deref.ensures.value left n).0 w).inside in
    omega (arith, c.in_ok-owners.ensures.count)

pub reduce_part-requires : goal.reduce_part-requires
reduce_part-requires g c =
    let i = c.moves.invariant in
    let x = c.args.x.now.cells in
    let a = c.args.a.now.cells in
    let q = cell_at x c.in-Some.member in
    let inside = some_of c.in_ok-member.field-0 (λ m. m < length x) c.in-Some.member c.in-Some.is c.in_ok-member.ensures.member in
    let w = Contains-get_or x c.in-Some.member [] inside in
    let m = movable_from x a c.args.cells.now c.moves.cubes c.moves.log.steps c.len.ensures.sorted c.requires.complex.listing i.taken g.row.P q w (some_of c.in_ok-member.field-0 (λ m. IsMovableInto g.row.P (is_gone c.args.cells.now c.moves.log.steps) (cell_at x m)) c.in-Some.member c.in-Some.is c.in_ok-member.ensures.some) in
    let steps = subst (λ (M : ChainComplex). AreStepsOf g.row.P M c.moves.log.steps) i.complex c.step_count.ensures.steps in
    let left = left_are c.args.cells.now c.len.ensures.sorted c.moves.log.steps (length c.moves.log.complex.boundaries) q c.of_member.result.now c.in_ok-numbers.numbers.items (ap (λ (M : ChainComplex). length M.boundaries) i.complex ∙ c.requires.complex.complex.count)
    (c.of_member.ensures ∙ list_of c.args.cells.now x c.in_ok-faces.faces c.in-Some.member c.in_ok-faces.ensures inside) c.in_ok-numbers.ensures in
    let ns = c.deref-in-Some.result.now in
    let are = are_at c.args.cells.now c.moves.log.steps q c.in_ok-numbers.numbers.items ns c.deref-in-Some.ensures.value left in (
      omega arith,
      (
        omega arith,
        (
          numbers_inside g.row.P x a c.args.cells.now c.moves.cubes c.args.log.complex c.moves.log.steps q (two_le g.row.P c.args.field.listed) c.requires.complex w m i.taken steps ns are c.moves.log.complex i.complex,
          numbers_closed g.row.P x a c.args.cells.now c.moves.cubes c.args.log.complex c.moves.log.steps q (two_le g.row.P c.args.field.listed) c.requires.complex w m i.taken steps ns are c.moves.log.complex i.complex,
        ),
      ),
    )

pub moves-smaller : goal.moves-smaller
moves-smaller g c =
    let i = c.moves.invariant in
    let x = c.args.x.now.cells in
    let a = c.args.a.now.cells in
    let q = cell_at x c.in-Some.member in
    let inside = some_of c.in_ok-member.field-0 (λ m. m < length x) c.in-Some.member c.in-Some.is c.in_ok-member.ensures.member in
    let w = Contains-get_or x c.in-Some.member [] inside in
    let m = movable_from x a c.args.cells.now c.moves.cubes c.moves.log.steps c.len.ensures.sorted c.requires.complex.listing i.taken g.row.P q w (some_of c.in_ok-member.field-0 (λ m. IsMovableInto g.row.P (is_gone c.args.cells.now c.moves.log.steps) (cell_at x m)) c.in-Some.member c.in-Some.is c.in_ok-member.ensures.some) in
    let pushed = c.in_ok-push.ensures.ok ∙ ap (λ (d : List Factor). c.moves.cubes ++ d ∷ []) (sym (get_or_from_slice_get x c.in-Some.member c.cell.result [] c.cell.ensures.cell)) in
    fewer_missing a c.moves.cubes c.push.new.self x q pushed w m.new

pub moves-preserved : goal.moves-preserved
moves-preserved g c =
    let i = c.moves.invariant in
    let x = c.args.x.now.cells in
    let a = c.args.a.now.cells in
    let q = cell_at x c.in-Some.member in
    let inside = some_of c.in_ok-member.field-0 (λ m. m < length x) c.in-Some.member c.in-Some.is c.in_ok-member.ensures.member in
    let w = Contains-get_or x c.in-Some.member [] inside in
    let m = movable_from x a c.args.cells.now c.moves.cubes c.moves.log.steps c.len.ensures.sorted c.requires.complex.listing i.taken g.row.P q w (some_of c.in_ok-member.field-0 (λ m. IsMovableInto g.row.P (is_gone c.args.cells.now c.moves.log.steps) (cell_at x m)) c.in-Some.member c.in-Some.is c.in_ok-member.ensures.some) in
    let steps = subst (λ (M : ChainComplex). AreStepsOf g.row.P M c.moves.log.steps) i.complex c.step_count.ensures.steps in
    let left = left_are c.args.cells.now c.len.ensures.sorted c.moves.log.steps (length c.moves.log.complex.boundaries) q c.of_member.result.now c.in_ok-numbers.numbers.items (ap (λ (M : ChainComplex). length M.boundaries) i.complex ∙ c.requires.complex.complex.count)
    (c.of_member.ensures ∙ list_of c.args.cells.now x c.in_ok-faces.faces c.in-Some.member c.in_ok-faces.ensures inside) c.in_ok-numbers.ensures in
    let ns = c.deref-in-Some.result.now in
    let are = are_at c.args.cells.now c.moves.log.steps q c.in_ok-numbers.numbers.items ns c.deref-in-Some.ensures.value left in
    let ms = c.deref.result.now in
    let these = are_at c.args.cells.now c.moves.log.steps q c.in_ok-numbers.numbers.items ms c.deref.ensures.value left in
    let others = some_of c.in_ok-member.field-0 (λ m. (j : ℕ) → j < length x → is_one_of c.next_movable.new.waiting j ≡ false → j ≢ m → ¬ IsMovableInto g.row.P (is_gone c.args.cells.now c.moves.log.steps) (cell_at x j)) c.in-Some.member c.in-Some.is c.in_ok-member.ensures.rest in
    let pushed = c.in_ok-push.ensures.ok ∙ ap (λ (d : List Factor). c.moves.cubes ++ d ∷ []) (sym (get_or_from_slice_get x c.in-Some.member c.cell.result [] c.cell.ensures.cell)) in
    record {
      complex = c.in_ok-log.ensures.complex ∙ i.complex;
      growth = subst (λ (cs : List (List Factor)). IsGrowth g.row.P x a cs) (sym pushed) (go_on g.row.P x a c.moves.cubes q i.growth w m);
      taken = subst (λ (cs : List (List Factor)). TakeFaces c.args.cells.now cs c.in_ok-log.log.steps) (sym pushed)
          (move_takes g.row.P x a c.args.cells.now c.moves.cubes c.args.log.complex c.moves.log.steps q (two_le g.row.P c.args.field.listed) c.requires.complex w m i.taken steps ns are c.in_ok-log.log.complex c.in_ok-log.log.steps (c.in_ok-log.ensures.complex ∙ i.complex) c.in_ok-log.ensures.further c.step_count-in-Some.ensures.steps c.in_ok-log.ensures.nothing_left);
      known = c.in_ok-member.ensures.known;
      idle = subst (λ (cs : List (List Factor)). (j : ℕ) → j < length x → is_one_of c.wake.new.waiting j ≡ false → ¬ IsMovable g.row.P (a ++ cs) (cell_at x j)) (sym pushed)
          (still_idle g.row.P x a c.args.cells.now c.moves.cubes c.args.log.complex c.moves.log.steps q (two_le g.row.P c.args.field.listed) c.requires.complex w m i.taken steps ms these c.in_ok-owners.owners c.next_movable.new.waiting c.wake.new.waiting c.len.ensures.sorted c.in_ok-owners.ensures.owners (λ j l f d. others j l f (λ e. d (ap (cell_at x) e))) c.in_ok-wake.ensures.kept c.in_ok-wake.ensures.woken);
    }

pub returns-clause-growth : goal.returns-clause-growth
returns-clause-growth g c =
    let i = c.moves.invariant in
    let x = c.args.x.now.cells in
    let a = c.args.a.now.cells in
    let none = none_of c.in_ok-member.field-0 ((j : ℕ) → j < length x → ¬ IsMovableInto g.row.P (is_gone c.args.cells.now c.moves.log.steps) (cell_at x j)) c.in_default.is c.in_ok-member.ensures.none in
    record {
      growth = i.growth;
      finished = λ q w m. all_members (IsMovableInto g.row.P (is_gone c.args.cells.now c.moves.log.steps)) x none q w (movable_into x a c.args.cells.now c.moves.cubes c.moves.log.steps c.len.ensures.sorted c.requires.complex.listing i.taken g.row.P q w m);
    }

pub returns-then-is_empty-clause-growth : goal.returns-then-is_empty-clause-growth
returns-then-is_empty-clause-growth g c = finished_alone g.row.P c.args.x.now.cells c.args.a.now.cells c.new-cubes.result (c.is_empty.ensures.0 c.if-is_empty.true) c.new-cubes.ensures
