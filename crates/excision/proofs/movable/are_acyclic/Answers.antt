use Rattle.std.proofs.Common.{arith}
use Rattle.std.specs.Prelude.{◌↔◌, IsTrue}
use Rattle.cell_complex.specs.Acyclic.{IsAcyclic}
use Rattle.cell_complex.specs.Growth.{cells_in}
use Rattle.excision.specs.Left.{is_gone}
use Rattle.excision.proofs.Gone.{dead_closed, acyclic_told, ok_by}
use Rattle.excision.proofs.movable.are_acyclic.Goals as goal

pub is_acyclic-requires : goal.is_acyclic-requires
is_acyclic-requires g c = (omega arith, dead_closed (is_gone c.args.cells.now c.args.log.now.steps) c.args.cell.now c.requires.closed c.in_ok-gone.gone c.in_ok-gone.ensures)

pub returns : goal.returns
returns g c =
    let t = is_gone c.args.cells.now c.args.log.now.steps in
    ok_by (λ b. IsTrue b ↔ IsAcyclic g.row.P c.in_ok-gone.gone) (λ b. IsTrue b ↔ IsAcyclic g.row.P (cells_in t c.args.cell.now)) c.is_acyclic.result c.is_acyclic.ensures
    (λ b h. acyclic_told t c.args.cell.now c.requires.closed c.in_ok-gone.gone c.in_ok-gone.ensures g.row.P b h)
