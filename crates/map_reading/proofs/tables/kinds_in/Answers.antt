use Rattle.std.proofs.Common.{◌≡◌, ◌<◌, ◌+◌, ◌∙◌, ℕ, List, [], suc, ap, arith, length, map, subst, sym}
use Rattle.std.proofs.lemmas.Bool.{false≢true}
use Rattle.std.proofs.lemmas.List.{length-map}
use Rattle.elem_cubes.specs.Cells.{Factor, dimension_of}
use Rattle.cell_complex.specs.Numbering.{number_of}
use Rattle.witness_writing.proofs.Filling.{found_at}
use Rattle.map_lines.proofs.KindTables.{AreKindsOf, kinds_none, kinds_taken, kinds_passed, kinds_all}
use Rattle.map_reading.proofs.tables.kinds_in.Goals as goal
use Rattle.map_reading.proofs.tables.kinds_in.Goals.{then-is_next+in_ok-push, else-is_next+in_ok-push-2}

-- a place of the numbers is one of the value
inside : (all value : List (List Factor)) (numbers : List ℕ) (place : ℕ) → numbers ≡ map (λ q. suc (number_of all q)) value → place < length numbers → place < length value
inside all value numbers place e l = let m = length-map value (λ q. suc (number_of all q)) in let n = ap length e in omega arith

-- the same kinds and place in other words
same_kinds : (all value : List (List Factor)) (cell place other : ℕ) (kinds others : List ℕ) → other ≡ place → others ≡ kinds → AreKindsOf all value cell place kinds → AreKindsOf all value cell other others
same_kinds all value cell place other kinds others e f h =
    subst (λ (n : ℕ). AreKindsOf all value cell n others) (sym e) (subst (λ (l : List ℕ). AreKindsOf all value cell place l) (sym f) h)

pub loop-cell-init : goal.loop-cell-init
loop-cell-init c = subst (λ (l : List ℕ). AreKindsOf c.args.all.now c.args.value.now 0 0 l) (sym c.new-kinds.ensures.items) (kinds_none c.args.all.now c.args.value.now)

pub bounds-value-place : goal.bounds-value-place
bounds-value-place c =
    inside c.args.all.now c.args.value.now c.args.numbers.now c.loop-cell.place c.requires (let t = c.is_next.ensures.0 c.if-is_next.true in t.0)

pub loop-cell-preserved : goal.loop-cell-preserved
loop-cell-preserved c =
    let all = c.args.all.now in
    let value = c.args.value.now in
    let cell = c.loop-cell.cell in
    let place = c.loop-cell.place in
    let l : cell < length all = omega (arith, c.loop-cell-test.true, c.len-cell-end.ensures.count) in
    elim c.if-is_next.branch [
      | then-is_next+in_ok-push w ↦
          let t = c.is_next.ensures.0 w.if-is_next.true in
          let q = found_at value place w.index-value-place.result [] (inside all value c.args.numbers.now place c.requires t.0) w.index-value-place.is in
          same_kinds all value (cell + 1) (place + 1) c.if-is_next.place w.push.new.self.items c.if-is_next.kinds.items w.place-is (ap (λ v. v.items) w.kinds-is)
          (kinds_taken all value c.args.numbers.now cell place c.loop-cell.kinds.items w.push.new.self.items w.kind_of.result c.requires l t (w.kind_of.ensures.value ∙ ap (λ r. suc (dimension_of r)) q)
          w.in_ok-push.ensures.items c.loop-cell.invariant)
      | else-is_next+in_ok-push-2 w ↦
          same_kinds all value (cell + 1) place c.if-is_next.place w.push-else-is_next.new.self.items c.if-is_next.kinds.items w.place-is (ap (λ v. v.items) w.kinds-is)
          (kinds_passed all value c.args.numbers.now cell place c.loop-cell.kinds.items w.push-else-is_next.new.self.items c.requires l (λ t. false≢true (sym w.if-is_next.false ∙ c.is_next.ensures.1 t)) w.in_ok-push-2.ensures.items c.loop-cell.invariant)
    ]

pub returns : goal.returns
returns c =
    kinds_all c.args.all.now c.args.value.now c.loop-cell.cell c.loop-cell.place c.loop-cell.kinds.items (omega (arith, c.loop-cell-test.false, c.len-cell-end.ensures.count)) c.loop-cell.invariant
