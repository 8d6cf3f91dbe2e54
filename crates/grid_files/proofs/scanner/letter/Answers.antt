use Rattle.std.proofs.Common.{◌≤◌, ◌<◌, ◌≡◌, ◌⊎◌, inl, inr, get_or}
use Rattle.grid_files.specs.declared.piece.TheConstants.{DIMENSION}
use Rattle.grid_files.proofs.Scanning.{letter_matches, letter_differs}
use Rattle.grid_files.proofs.scanner.letter.Goals as goal
use Rattle.grid_files.proofs.scanner.letter.Goals.{else-matched-lt9-via-then-matched-lt9+else-matched-b, else-matched-lt9-via-else-matched-lt9}

pub returns-then-matched-b-clause-pieces : goal.returns-then-matched-b-clause-pieces
returns-then-matched-b-clause-pieces c = letter_matches c.args.at c.args.matched c.args.b c.if-matched-lt9.true c.if-matched-b.true c.requires.letter

pub returns-clause-pieces : goal.returns-clause-pieces
returns-clause-pieces c =
    let why : (9 ≤ c.args.matched) ⊎ ((c.args.matched < 9) × (get_or DIMENSION c.args.matched 0 ≡ c.args.b → ⊥)) =
    elim c.else-matched-lt9.branch [ else-matched-lt9-via-then-matched-lt9+else-matched-b w ↦ inr (w.if-matched-lt9.true, w.if-matched-b.false) | else-matched-lt9-via-else-matched-lt9 w ↦ inl w.if-matched-lt9.false ] in
    letter_differs c.args.at c.args.matched c.args.b why c.requires.letter
