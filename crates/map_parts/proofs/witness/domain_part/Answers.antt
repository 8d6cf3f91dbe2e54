use Rattle.std.proofs.Common.{ℕ, subst}
use Rattle.witness_parts.specs.Tables.{section_by, IsPartOf}
use Rattle.map_parts.proofs.witness.domain_part.Goals as goal

pub returns : goal.returns
returns g c =
    subst (λ (t : ℕ). IsPartOf t c.args.x.now.cells c.args.a.now.cells (section_by g.row.P c.args.cells.now c.args.basis.now) c.in_ok-part.part) c.known_of_map-top.ensures c.in_ok-part.ensures
