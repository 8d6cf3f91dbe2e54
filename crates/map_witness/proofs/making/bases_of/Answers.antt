use Rattle.std.proofs.Common.{sym, subst, arith}
use Rattle.homology_basis.specs.Bases.{CyclesOfLog}
use Rattle.map_homology.specs.Bases.{IsBasisOfPair}
use Rattle.map_witness.proofs.Limiting.{counted_few}
use Rattle.map_witness.proofs.making.bases_of.Goals as goal

pub range_basis-requires : goal.range_basis-requires
range_basis-requires g c = ((omega arith), ((omega arith), (counted_few c.args.input.now.x.cells c.args.input.now.a.cells c.requires.small.domain)))

pub range_basis-requires-2 : goal.range_basis-requires-2
range_basis-requires-2 g c = ((omega arith), ((omega arith), (counted_few c.args.input.now.y.cells c.args.input.now.b.cells c.requires.small.range)))

pub returns-clause-bases : goal.returns-clause-bases
returns-clause-bases g c =
    let m = c.args.input.now in
    let same = c.without_cocycles-cycles.ensures in
    record {
      of_domain = subst (λ (z : CyclesOfLog). IsBasisOfPair g.row.P m.x.cells m.a.cells c.in_ok-domain.domain z) (sym same) c.in_ok-domain.ensures.basis;
      of_range = c.in_ok-range.ensures.basis;
      of_part = record { basis = c.in_ok-domain.whole; same = same; is = c.dimension-dimension.ensures.basis; is_part = c.in_ok-part.ensures };
    }
