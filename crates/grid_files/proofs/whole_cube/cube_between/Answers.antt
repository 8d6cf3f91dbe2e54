use Rattle.std.proofs.Common.{◌≡◌, ◌<◌, Some, max, length, arith}
use Rattle.elem_cubes.specs.declared.range.TheConstants.{MAX_EMBEDDING}
use Rattle.grid_files.proofs.WholeCubes.{long_corner, too_large, uneven_cause, file_corner, between_is}
use Rattle.grid_files.proofs.whole_cube.cube_between.Goals as goal
use Rattle.grid_files.proofs.whole_cube.cube_between.Goals.{then-lower-gt-MAX_EMBEDDING-via-then-lower-gt-MAX_EMBEDDING, then-lower-gt-MAX_EMBEDDING-via-else-lower-gt-MAX_EMBEDDING+then-upper-gt-MAX_EMBEDDING}

pub returns-then-lower-gt-MAX_EMBEDDING-clause-cell : goal.returns-then-lower-gt-MAX_EMBEDDING-clause-cell
returns-then-lower-gt-MAX_EMBEDDING-clause-cell c = λ ls us il iu hl hu kind set.
    let long : MAX_EMBEDDING < max (length ls) (length us) = elim c.then-lower-gt-MAX_EMBEDDING.branch [
      | then-lower-gt-MAX_EMBEDDING-via-then-lower-gt-MAX_EMBEDDING w ↦ let l = long_corner c.args.lower.now ls il w.if-lower-gt-MAX_EMBEDDING.true in omega arith
      | then-lower-gt-MAX_EMBEDDING-via-else-lower-gt-MAX_EMBEDDING+then-upper-gt-MAX_EMBEDDING w ↦ let l = long_corner c.args.upper.now us iu w.if-upper-gt-MAX_EMBEDDING.true in omega arith
    ] in
    too_large kind set (max (length ls) (length us)) _ long

pub returns-then-lower-upper-clause-cell : goal.returns-then-lower-upper-clause-cell
returns-then-lower-upper-clause-cell c = λ ls us il iu hl hu kind set.
    uneven_cause kind set c.args.lower.now c.args.upper.now ls us il iu c.if-lower-gt-MAX_EMBEDDING.false c.if-upper-gt-MAX_EMBEDDING.false c.if-lower-upper.true

pub returns-in_default-of-clause-cell : goal.returns-in_default-of-clause-cell
returns-in_default-of-clause-cell c = λ ls us il iu hl hu kind set.
    absurd (c.in_default-of.not-Some ls (file_corner c.args.lower.now ls _ il hl c.if-lower-gt-MAX_EMBEDDING.false c.of.ensures))

pub returns-clause-cell : goal.returns-clause-cell
returns-clause-cell c = λ ls us il iu hl hu.
    let e : c.of.result ≡ Some ls = file_corner c.args.lower.now ls _ il hl c.if-lower-gt-MAX_EMBEDDING.false c.of.ensures in
    let f : c.of.result ≡ Some c.in-Some-of.corner = c.in-Some-of.is in
    let same : c.in-Some-of.corner ≡ ls = cc in
    between_is c.args.lower.now c.args.upper.now ls us c.in-Some-of.corner c.in-Some.axes _ _ il iu hl hu c.if-lower-gt-MAX_EMBEDDING.false c.if-lower-upper.false same
    c.in-Some.ensures.axes c.in-Some.ensures.few c.new.ensures c.in_range.ensures.cell
