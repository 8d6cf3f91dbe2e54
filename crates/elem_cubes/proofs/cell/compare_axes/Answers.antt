use Rattle.std.proofs.Common.{◌∙◌, sym, arith}
use Rattle.std.specs.Prelude.{bit_xor}
use Rattle.std.specs.Int.{w8, trailing_zeros}
use Rattle.std.proofs.lemmas.Nat.{xor_lt}
use Rattle.std.proofs.lemmas.Nat.Bits.{shr_and_one, bit_at-lt}
use Rattle.elem_cubes.proofs.Uppers.{DifferFirst, differ_first, greater_uppers, less_uppers, equal_uppers, same_from_xor}
use Rattle.elem_cubes.proofs.cell.compare_axes.Goals as goal

pub overflow_shr-axes : goal.overflow_shr-axes
overflow_shr-axes c = (differ_first c.args.axes c.args.other (omega (arith, c.if-differing-eq0.false)) (xor_lt 8 c.args.axes c.args.other c.ranges.axes.fits c.ranges.other.fits)).within

pub returns-then-axes-differing-eq1 : goal.returns-then-axes-differing-eq1
returns-then-axes-differing-eq1 c =
    let t = trailing_zeros w8 (bit_xor c.args.axes c.args.other) in
    let d : DifferFirst c.args.axes c.args.other t = differ_first c.args.axes c.args.other (omega (arith, c.if-differing-eq0.false)) (xor_lt 8 c.args.axes c.args.other c.ranges.axes.fits c.ranges.other.fits) in
    greater_uppers c.args.axes c.args.other t d (sym (shr_and_one c.args.axes t) ∙ c.if-axes-differing-eq1.true)

pub returns-else-axes-differing-eq1 : goal.returns-else-axes-differing-eq1
returns-else-axes-differing-eq1 c =
    let t = trailing_zeros w8 (bit_xor c.args.axes c.args.other) in
    let d : DifferFirst c.args.axes c.args.other t = differ_first c.args.axes c.args.other (omega (arith, c.if-differing-eq0.false)) (xor_lt 8 c.args.axes c.args.other c.ranges.axes.fits c.ranges.other.fits) in
    less_uppers c.args.axes c.args.other t d (omega (arith, shr_and_one c.args.axes t, bit_at-lt c.args.axes t, c.if-axes-differing-eq1.false))

pub returns-then-differing-eq0 : goal.returns-then-differing-eq0
returns-then-differing-eq0 c = equal_uppers c.args.axes c.args.other (same_from_xor c.args.axes c.args.other c.if-differing-eq0.true)
