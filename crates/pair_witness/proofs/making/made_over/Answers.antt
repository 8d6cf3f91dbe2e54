use Rattle.std.proofs.Common.{arith}
use Rattle.pair_witness.proofs.Judging.{allowed_so}
use Rattle.pair_witness.proofs.Witnessing.{witness_of_report}
use Rattle.pair_witness.proofs.making.made_over.Goals as goal

pub returns : goal.returns
returns g c =
    let pair = c.args.pair.now in
    let made = c.in_ok-report in (
      record {
        homology = made.ensures.right;
        counts = made.ensures.counts;
        witness = witness_of_report g.row.P pair made.field-0 c.requires made.ensures.basis c.in_ok-bytes.bytes.items c.in_ok-bytes.ensures (omega (arith, c.len.ensures, c.in_ok-bytes.bytes.ok.0));
      },
      allowed_so pair c.in_ok-prepared.ensures.few c.in_ok-test_cells.ensures.few,
    )
