use Rattle.std.proofs.Common.{◌+◌}
use Rattle.field_mod.proofs.Table.{two_le}
use Rattle.chains.specs.Terms.{coefficient}
use Rattle.witness_sections.proofs.Testing.{through, one_iff, three}
use Rattle.witness_sections.proofs.tests.is_sum.Goals as goal

pub returns : goal.returns
returns g c = through c.is_single.ensures.single (one_iff g.row.P c.args.generator c.add_scaled-2.new.self (λ h. coefficient c.args.first h + (coefficient c.args.second.now h + coefficient c.args.third.now h)) (two_le g.row.P c.args.field.listed) c.ranges.generator.fits c.is_single.ensures.normal
    (λ h. three g.row.P (coefficient c.args.first h) (coefficient c.args.second.now h) (coefficient c.args.third.now h) (coefficient c.add_scaled.new.self h) (coefficient c.add_scaled-2.new.self h) (c.in_ok-add_scaled.ensures.sum h) (c.in_ok-add_scaled-2.ensures.sum h)))
