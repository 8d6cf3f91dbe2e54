use Rattle.std.proofs.Common.{◌≡◌, ◌*◌, get_or, ℕ, arith}
use Rattle.leray_conley.proofs.Totals.{total-more, small_product}
use Rattle.leray_conley.proofs.products.dot.Goals as goal

pub loop-i-preserved : goal.loop-i-preserved
loop-i-preserved c =
    let i = c.loop-i.i in
    let e = total-more i (λ (k : ℕ). get_or c.args.a.now k 0 * get_or c.args.b.now k 0) in
    let p : c.from.result * c.from-in-loop-i.result ≡ get_or c.args.a.now i 0 * get_or c.args.b.now i 0 = cc in
    let x = c.type_inv.a i in
    let y = c.type_inv.b i in
    let b = small_product (get_or c.args.a.now i 0) (get_or c.args.b.now i 0) (omega arith) (omega arith) in
    record { value = omega arith; bound = omega arith }
