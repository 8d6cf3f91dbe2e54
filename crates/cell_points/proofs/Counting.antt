-- How many cells there are at places, and the number of the first cell of each.
use Rattle.std.proofs.Common.{◌≡◌, ℕ, zero, suc, ◌+◌, ◌<◌, ◌≤◌, refl, sym, ap, ◌∙◌, arith, List, [], ◌∷◌, ◌++◌, length, take, get_or, length-append}
use Rattle.std.specs.List.{AllByRecursion}
use Rattle.std.specs.Int.RustNames.{count_ones}
use Rattle.std.proofs.lemmas.List.{length-map}
use Rattle.elem_cubes.specs.Cells.{cell_of}
use Rattle.cell_points.specs.Masks.{turned, ranks_of}
use Rattle.cell_points.specs.Places.{cells_at, cells_of_places, firsts_from, IsPlace}
use Rattle.cell_points.specs.declared.place.Place.{Place}
use Rattle.cell_points.proofs.Ranks.{length-mask}

pub length-place : (p : Place) → IsPlace p → length (cells_at p) ≡ count_ones p.mask
length-place p h = length-map (ranks_of p.mask) (λ r. cell_of p.corner (turned r)) ∙ length-mask p.mask h.small

pub length-next : (ps : List Place) (k : ℕ) (d : Place) → AllByRecursion IsPlace ps → k < length ps
    → length (cells_of_places (take (suc k) ps)) ≡ length (cells_of_places (take k ps)) + count_ones ((get_or ps k d).mask)
length-next [] k d h l = absurd (omega arith)
length-next (p ∷ ps) zero d h l = let e = length-place p h.0 in let a = length-append (cells_at p) [] in omega arith
length-next (p ∷ ps) (suc k) d h l =
    let rest = length-next ps k d h.1 (omega arith) in
    let a = length-append (cells_at p) (cells_of_places (take (suc k) ps)) in
    let b = length-append (cells_at p) (cells_of_places (take k ps)) in omega arith

pub length-front : (ps : List Place) (k : ℕ) → length (cells_of_places (take k ps)) ≤ length (cells_of_places ps)
length-front [] zero = omega arith
length-front [] (suc k) = omega arith
length-front (p ∷ ps) zero = omega arith
length-front (p ∷ ps) (suc k) =
    let rest = length-front ps k in
    let a = length-append (cells_at p) (cells_of_places (take k ps)) in
    let b = length-append (cells_at p) (cells_of_places ps) in omega arith

pub firsts-next : (ps : List Place) (k s : ℕ) (d : Place) → AllByRecursion IsPlace ps → k < length ps
    → firsts_from s (take (suc k) ps) ≡ firsts_from s (take k ps) ++ (s + length (cells_of_places (take k ps))) ∷ []
firsts-next [] k s d h l = absurd (omega arith)
firsts-next (p ∷ ps) zero s d h l = let e : s ≡ s + 0 = omega arith in ap (λ n. n ∷ []) e
firsts-next (p ∷ ps) (suc k) s d h l =
    let rest = firsts-next ps k (s + count_ones p.mask) d h.1 (omega arith) in
    let c = length-place p h.0 in
    let b = length-append (cells_at p) (cells_of_places (take k ps)) in
    let e : (s + count_ones p.mask) + length (cells_of_places (take k ps)) ≡ s + length (cells_at p ++ cells_of_places (take k ps)) = omega arith in
    ap (λ ns. s ∷ ns) (rest ∙ ap (λ n. firsts_from (s + count_ones p.mask) (take k ps) ++ n ∷ []) e)

-- the number of the first cell of a place
pub first_at : (ps : List Place) (k s : ℕ) → AllByRecursion IsPlace ps → k < length ps → get_or (firsts_from s ps) k 0 ≡ s + length (cells_of_places (take k ps))
first_at [] k s h l = absurd (omega arith)
first_at (p ∷ ps) zero s h l = let e : s ≡ s + 0 = omega arith in e
first_at (p ∷ ps) (suc k) s h l =
    let rest = first_at ps k (s + count_ones p.mask) h.1 (omega arith) in
    let c = length-place p h.0 in
    let b = length-append (cells_at p) (cells_of_places (take k ps)) in omega arith

pub length-firsts : (ps : List Place) (s : ℕ) → length (firsts_from s ps) ≡ length ps
length-firsts [] s = refl
length-firsts (p ∷ ps) s = ap suc (length-firsts ps (s + count_ones p.mask))

-- the same at the next place of a loop
pub length_step : (ps : List Place) (k : ℕ) (p : Place) → AllByRecursion IsPlace ps → k < length ps → p ≡ get_or ps k p
    → length (cells_of_places (take (k + 1) ps)) ≡ length (cells_of_places (take k ps)) + count_ones p.mask
length_step ps k p h l e =
    let s : k + 1 ≡ suc k = omega arith in
    ap (λ j. length (cells_of_places (take j ps))) s ∙ length-next ps k p h l ∙ ap (λ q. length (cells_of_places (take k ps)) + count_ones q.mask) (sym e)

pub firsts_step : (ps : List Place) (k : ℕ) (p : Place) → AllByRecursion IsPlace ps → k < length ps
    → firsts_from 0 (take (k + 1) ps) ≡ firsts_from 0 (take k ps) ++ length (cells_of_places (take k ps)) ∷ []
firsts_step ps k p h l =
    let s : k + 1 ≡ suc k = omega arith in
    let z : 0 + length (cells_of_places (take k ps)) ≡ length (cells_of_places (take k ps)) = omega arith in
    ap (λ j. firsts_from 0 (take j ps)) s ∙ firsts-next ps k 0 p h l ∙ ap (λ n. firsts_from 0 (take k ps) ++ n ∷ []) z
