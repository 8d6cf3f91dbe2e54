use Rattle.std.proofs.Common.{◌≡◌, Some}
use Rattle.grid_files.proofs.WholeCubes.{full_corner, full_is}
use Rattle.grid_files.proofs.whole_cube.full_cube.Goals as goal

pub returns-in_default-clause-cell : goal.returns-in_default-clause-cell
returns-in_default-clause-cell c = λ xs is h kind set.
    absurd (c.in_default.not-Some xs (full_corner c.args.corner.now xs _ is h c.if-corner-gt-MAX_EMBEDDING.false c.of.ensures))

pub returns-clause-cell : goal.returns-clause-cell
returns-clause-cell c = λ xs is h.
    let e : c.of.result ≡ Some xs = full_corner c.args.corner.now xs _ is h c.if-corner-gt-MAX_EMBEDDING.false c.of.ensures in
    let f : c.of.result ≡ Some c.in-Some.lower = c.in-Some.is in
    let same : c.in-Some.lower ≡ xs = cc in
    full_is c.args.corner.now xs c.in-Some.lower _ _ is h c.if-corner-gt-MAX_EMBEDDING.false same c.full.ensures c.in_range.ensures.cell
