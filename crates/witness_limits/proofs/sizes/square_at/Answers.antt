use Rattle.std.proofs.Common.{ℕ, ◌≡◌, ◌≤◌, length, sym, ap, ◌∙◌, subst, arith}
use Rattle.witness_limits.specs.Limits.{square}
use Rattle.witness_limits.proofs.Measuring.{made_is, square_few}
use Rattle.witness_limits.proofs.sizes.square_at.Goals as goal

pub overflow_mul-result : goal.overflow_mul-result
overflow_mul-result c =
    let m = c.args.map.now in
    let s = c.args.cell.now in
    let e = made_is m c.requires.few c.requires.sound c.args.domain.now.cells s c.in_ok-value.value.items c.requires.domain c.requires.cell c.in_ok-value.ensures in
    let count : c.len-count.result ≡ length c.in_ok-value.value.items = omega (arith, c.len-count.ensures, c.in_ok-value.value.ok.0) in
    let n = count ∙ ap length e in
    let small = subst (λ (k : ℕ). square k ≤ 16777216) (sym n) (square_few m c.requires.few c.requires.sound s) in
    omega (arith, small)

pub returns-clause-square : goal.returns-clause-square
returns-clause-square c =
    let m = c.args.map.now in
    let s = c.args.cell.now in
    let e = made_is m c.requires.few c.requires.sound c.args.domain.now.cells s c.in_ok-value.value.items c.requires.domain c.requires.cell c.in_ok-value.ensures in
    let count : c.len-count.result ≡ length c.in_ok-value.value.items = omega (arith, c.len-count.ensures, c.in_ok-value.value.ok.0) in
    ap square (count ∙ ap length e)

pub returns-clause-small : goal.returns-clause-small
returns-clause-small c =
    let m = c.args.map.now in
    let s = c.args.cell.now in
    let e = made_is m c.requires.few c.requires.sound c.args.domain.now.cells s c.in_ok-value.value.items c.requires.domain c.requires.cell c.in_ok-value.ensures in
    let count : c.len-count.result ≡ length c.in_ok-value.value.items = omega (arith, c.len-count.ensures, c.in_ok-value.value.ok.0) in
    subst (λ (k : ℕ). square k ≤ 16777216) (sym (count ∙ ap length e)) (square_few m c.requires.few c.requires.sound s)
