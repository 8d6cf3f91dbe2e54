-- A number that goes on with a corner.
use Rattle.std.proofs.Common.{◌≡◌, ℤ, List, [], ◌∷◌, ◌++◌, Bool, true, false, if◌then◌else◌, None, Some, refl, ap, ◌∙◌, sym}
use Rattle.grid_files.specs.Items.{Open}
use Rattle.grid_files.specs.Reading.{Step, goes, stops, in_corner}
use Rattle.grid_files.specs.Corners.{end_test}
use Rattle.grid_files.specs.declared.fault.TextCause.TheVariants.{CoordinateTooLarge}
use Rattle.grid_files.specs.declared.piece.Piece.{Piece}
use Rattle.grid_files.specs.declared.piece.Piece.TheVariants.{Number}

some_end : (b : Bool) (z y : ℤ) → Some y ≡ (if b then Some z else None) → (b ≡ true) × (y ≡ z)
some_end true z y e = (refl, cc)
some_end false z y e = cc

pub number_leads : (full : Bool) (xs : List ℤ) (p : Piece) (z y : ℤ) → p ≡ Number z → Some y ≡ (if end_test full z then Some z else None)
    → (more : List ℤ → Open) (close : Step) → in_corner (end_test full) more close xs p ≡ goes (more (xs ++ y ∷ []))
number_leads full xs p z y is e more close =
    let s = some_end (end_test full z) z y e in
    ap (in_corner (end_test full) more close xs) is
    ∙ ap (λ b. if b then goes (more (xs ++ z ∷ [])) else stops CoordinateTooLarge) s.0
    ∙ ap (λ n. goes (more (xs ++ n ∷ []))) (sym s.1)
