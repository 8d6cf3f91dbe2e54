use Rattle.std.proofs.Common.{◌≡◌, ◌∙◌, ◌+◌, ◌*◌, ◌<◌, ℕ, List, ap, arith, get_or, length, [], sym, subst}
use Rattle.std.proofs.lemmas.List.{get_or_read, length-append}
use Rattle.leray_conley.specs.Echelons.{IsRightBlock, cell}
use Rattle.leray_conley.proofs.Filling.{appended_below, block_more, block_read}
use Rattle.leray_conley.proofs.inverse.right_block.Goals as goal

pub unreachable-requires : goal.unreachable-requires
unreachable-requires g c =
    let w = c.requires.pivots c.loop-j.j (let t = c.loop-j-test.true in omega arith) in
    let size = c.requires.form.sizes in
    let l = w.1 in
    let k : w.0 < length c.args.echelon.now.pivots.items = omega arith in
    c.in-None.ensures w.0 k w.2

pub loop-j-preserved : goal.loop-j-preserved
loop-j-preserved g c =
    let d = c.args.size in
    let rows = c.args.echelon.now.rows.items in
    let pivots = c.args.echelon.now.pivots.items in
    let piv : ℕ → ℕ = λ k. get_or pivots k 0 in
    let es = c.loop-j.entries.items in
    let ys = c.after.result.now in
    let j = c.loop-j.j in
    let k = c.in-Some.k in
    let inv = c.loop-j.invariant in
    let size = c.requires.form.sizes in
    let count = inv.count in
    let at = c.in-Some.ensures in
    let lk0 = at.0 in
    let lk : k < length rows = omega arith in
    let w : c.index.result.now ≡ get_or rows k [] = get_or_read rows k _ lk c.index.ensures [] in
    let wide = ap length w ∙ c.requires.form.widths k lk in
    let len = c.after.ensures.len in
    let n : length ys ≡ d = omega arith in
    let e = c.in_ok-extend_from_slice-in-Some.ensures.items in
    let f = ap length e ∙ length-append es ys in
    record {
      count = omega arith;
      below = subst (λ (xs : List ℕ). (q : ℕ) → q < length xs → get_or xs q 0 < g.row.P) (sym e) (appended_below g.row.P es ys inv.below (λ q l. c.after.ensures.below q (omega arith)));
      block = subst (λ (xs : List ℕ). IsRightBlock d (length rows) (cell rows) piv (λ q i. get_or xs (q * d + i) 0) (j + 1)) (sym e)
          (block_more d (length rows) j k (cell rows) piv es ys inv.block count lk at.1 (λ i l. c.after.ensures.value i (omega arith) ∙ ap (λ (r : List ℕ). get_or r (d + i) 0) w));
    }

pub returns-clause-block : goal.returns-clause-block
returns-clause-block g c =
    let rows = c.args.echelon.now.rows.items in
    let pivots = c.args.echelon.now.pivots.items in
    let e : c.loop-j.j ≡ c.args.size = (let t = c.loop-j-test.false in omega arith) in
    block_read c.args.size (length rows) c.loop-j.j (cell rows) (λ (k : ℕ). get_or pivots k 0) c.loop-j.entries.items c.new.result c.loop-j.invariant.block e c.new.ensures.columns c.new.ensures.entries
