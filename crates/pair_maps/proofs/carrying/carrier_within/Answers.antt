use Rattle.std.proofs.Common.{arith}
use Rattle.pair_maps.proofs.Cells.{count_together}
use Rattle.pair_maps.proofs.Refused.{carried}
use Rattle.pair_maps.proofs.carrying.carrier_within.Goals as goal

pub check_values-requires : goal.check_values-requires
check_values-requires g c =
    let m = c.args.input.now in
    let d = count_together m.x.cells m.a.cells in
    let r = count_together m.y.cells m.b.cells in
    ((omega arith), ((omega arith), ((omega arith), (c.requires.fits.alike, ((omega (arith, d, c.requires.few.domain)), (omega (arith, r, c.requires.few.range)))))))

pub returns-in-Ok-clause-allowed : goal.returns-in-Ok-clause-allowed
returns-in-Ok-clause-allowed g c =
    let m = c.args.input.now in
    carried g.row.P m.map.named m.x.cells m.a.cells m.y.cells m.b.cells
    c.in-Ok.ensures.sets c.in-Ok.carrier c.in-Ok.ensures.map c.in-Ok.ensures.domain c.in-Ok.ensures.carrier
