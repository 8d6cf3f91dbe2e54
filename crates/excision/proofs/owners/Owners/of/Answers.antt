use Rattle.std.proofs.Common.{◌∙◌, ◌<◌, ℕ, List, [], length, sym, ap, subst, arith}
use Rattle.std.specs.List.{Contains}
use Rattle.std.proofs.lemmas.List.{length-map}
use Rattle.std.proofs.lemmas.Option.{slice_get-get_or}
use Rattle.elem_cubes.specs.Laws.{cell_at}
use Rattle.excision.specs.Numbers.{face_numbers}
use Rattle.excision.proofs.Owning.{owners_next}
use Rattle.excision.proofs.Placing.{list_of, number_face}
use Rattle.excision.proofs.owners.Owners.of.Goals as goal

pub of_member-requires : goal.of_member-requires
of_member-requires c = let e = ap (λ (fs : List (List ℕ)). length fs) c.requires in let l = length-map c.args.x.now.cells (face_numbers c.args.cells.now) in omega arith

pub loop-member-preserved : goal.loop-member-preserved
loop-member-preserved c =
    let cells = c.args.cells.now in
    let x = c.args.x.now.cells in
    let i = c.loop-member.member in
    let l : i < length x = omega (arith, c.loop-member-test.true, c.len-member-end.ensures.len) in
    owners_next cells x c.loop-member.owners c.add.new.self i (cell_at x i) (slice_get-get_or x i [] l) c.loop-member.invariant c.in_ok-add.ensures.count c.in_ok-add.ensures.kept
    (λ n small f. c.in_ok-add.ensures.added n
    (subst (λ (ns : List ℕ). Contains ns n) (sym (c.of_member.ensures ∙ list_of cells x c.args.faces.now i c.requires l)) (number_face cells c.len.ensures.sorted (cell_at x i) n small f))
    (let k = c.loop-member.invariant.count in omega arith))
