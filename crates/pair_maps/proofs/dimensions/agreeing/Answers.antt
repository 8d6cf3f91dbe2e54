use Rattle.pair_maps.proofs.Fitting.{fitting}
use Rattle.pair_maps.proofs.dimensions.agreeing.Goals as goal

pub returns-clause-fits : goal.returns-clause-fits
returns-clause-fits c =
    fitting c.args.files.now c.args.map c.args.domain c.args.range c.in_ok-_known._known c.requires.domain c.requires.range c.in_ok-_known.ensures
