-- A corner that goes on, closes or stops, in the item that it stands in.
use Rattle.std.proofs.Common.{◌≡◌, ℤ, List, [], ◌∷◌, ◌++◌, Bool, true, false, ◌&&◌, ◌==◌, not, if◌then◌else◌, refl, sym, ap, subst}
use Rattle.grid_files.specs.Items.{is_empty, is_full_end, in_full}
use Rattle.grid_files.specs.Items as sets
use Rattle.grid_files.specs.Reading as reading
use Rattle.grid_files.specs.Corners.{IsCorner, LeadsIn}
use Rattle.grid_files.specs.declared.corner.OpenCorner.{OpenCorner}
use Rattle.grid_files.specs.declared.corner.CornerStep.{CornerStep}
use Rattle.grid_files.specs.declared.corner.CornerStep.TheVariants.{More, Close, Stop}
use Rattle.grid_files.specs.declared.fault.TextCause.{TextCause}
use Rattle.grid_files.specs.declared.fault.TextCause.TheVariants.{BadByte, BadNumber, CoordinateTooLarge}
use Rattle.grid_files.specs.declared.piece.Piece.{Piece}
use Rattle.grid_files.specs.declared.piece.Piece.TheVariants.{Number, Wide, Mark, Arrow, Strange, SkippedLine, DimensionWord, DimensionNumber, NoNumber, Stray}
use Rattle.map_files.specs.Items.{single, Open, in_left, before_arrow, in_single, in_list, in_listed}
use Rattle.map_files.specs.Reading.{Step, goes, closes, stops, in_corner, step}
use Rattle.map_files.specs.Openings.{IsOpening, StepsAs, listed_in}
use Rattle.map_files.specs.declared.opening.Opening.{Opening}
use Rattle.map_files.specs.declared.opening.Opening.TheVariants.{InLeft, BeforeArrow, InSingle, InListed}
use Rattle.map_files.specs.declared.opening.Closing.TheVariants as closing
use Rattle.map_files.specs.declared.opening.Turn.{Turn}
use Rattle.map_files.specs.declared.opening.Turn.TheVariants.{Goes, Adds, Closes, Stops}

-- ---- the corner of a set file, read in a map file

number_goes : (b : Bool) (xs ys : List ℤ) (more : List ℤ → Open) → (if b then reading.goes (in_full xs) else reading.stops CoordinateTooLarge) ≡ reading.goes (in_full ys)
    → (if b then goes (more xs) else stops CoordinateTooLarge) ≡ goes (more ys)
number_goes true xs ys more e = let same : xs ≡ ys = cc in ap (λ l. goes (more l)) same
number_goes false xs ys more e = cc

no_mark_goes : (b : Bool) (ys : List ℤ) → (if b then reading.stops BadByte else reading.stops BadByte) ≡ reading.goes (in_full ys) → ⊥
no_mark_goes true ys e = cc
no_mark_goes false ys e = cc

corner_more : (xs ys : List ℤ) (p : Piece) → reading.in_corner is_full_end in_full (reading.stops BadByte) xs p ≡ reading.goes (in_full ys)
    → (more : List ℤ → Open) (close : Step) → in_corner more close xs p ≡ goes (more ys)
corner_more xs ys (Number z) e more close = number_goes (is_full_end z) (xs ++ z ∷ []) ys more e
corner_more xs ys (Mark b) e more close = absurd (no_mark_goes (b == 41 && not (is_empty xs)) ys e)
corner_more xs ys Wide e more close = cc
corner_more xs ys Arrow e more close = cc
corner_more xs ys Strange e more close = cc
corner_more xs ys SkippedLine e more close = cc
corner_more xs ys DimensionWord e more close = cc
corner_more xs ys (DimensionNumber z) e more close = cc
corner_more xs ys NoNumber e more close = cc
corner_more xs ys Stray e more close = cc

no_number_closes : (b : Bool) (xs : List ℤ) → (if b then reading.goes (in_full xs) else reading.stops CoordinateTooLarge) ≡ reading.closes sets.skipped_line → ⊥
no_number_closes true xs e = cc
no_number_closes false xs e = cc

mark_closes : (b : Bool) (close : Step) → (if b then reading.closes sets.skipped_line else reading.stops BadByte) ≡ reading.closes sets.skipped_line
    → (if b then close else stops BadByte) ≡ close
mark_closes true close e = refl
mark_closes false close e = cc

corner_close : (xs : List ℤ) (p : Piece) → reading.in_corner is_full_end in_full (reading.closes sets.skipped_line) xs p ≡ reading.closes sets.skipped_line
    → (more : List ℤ → Open) (close : Step) → in_corner more close xs p ≡ close
corner_close xs (Number z) e more close = absurd (no_number_closes (is_full_end z) (xs ++ z ∷ []) e)
corner_close xs (Mark b) e more close = mark_closes (b == 41 && not (is_empty xs)) close e
corner_close xs Wide e more close = cc
corner_close xs Arrow e more close = cc
corner_close xs Strange e more close = cc
corner_close xs SkippedLine e more close = cc
corner_close xs DimensionWord e more close = cc
corner_close xs (DimensionNumber z) e more close = cc
corner_close xs NoNumber e more close = cc
corner_close xs Stray e more close = cc

same_stop : (c cause : TextCause) → reading.stops c ≡ reading.stops cause → stops c ≡ stops cause
same_stop c cause e = let same : c ≡ cause = cc in ap stops same

number_stops : (b : Bool) (xs : List ℤ) (more : List ℤ → Open) (cause : TextCause) → (if b then reading.goes (in_full xs) else reading.stops CoordinateTooLarge) ≡ reading.stops cause
    → (if b then goes (more xs) else stops CoordinateTooLarge) ≡ stops cause
number_stops true xs more cause e = cc
number_stops false xs more cause e = same_stop CoordinateTooLarge cause e

mark_stops : (b : Bool) (close : Step) (cause : TextCause) → (if b then reading.closes sets.skipped_line else reading.stops BadByte) ≡ reading.stops cause
    → (if b then close else stops BadByte) ≡ stops cause
mark_stops true close cause e = cc
mark_stops false close cause e = same_stop BadByte cause e

corner_stop : (xs : List ℤ) (p : Piece) (cause : TextCause) → reading.in_corner is_full_end in_full (reading.closes sets.skipped_line) xs p ≡ reading.stops cause
    → (more : List ℤ → Open) (close : Step) → in_corner more close xs p ≡ stops cause
corner_stop xs (Number z) cause e more close = number_stops (is_full_end z) (xs ++ z ∷ []) more cause e
corner_stop xs (Mark b) cause e more close = mark_stops (b == 41 && not (is_empty xs)) close cause e
corner_stop xs Wide cause e more close = same_stop BadNumber cause e
corner_stop xs Arrow cause e more close = same_stop BadByte cause e
corner_stop xs Strange cause e more close = same_stop BadByte cause e
corner_stop xs SkippedLine cause e more close = same_stop BadByte cause e
corner_stop xs DimensionWord cause e more close = same_stop BadByte cause e
corner_stop xs (DimensionNumber z) cause e more close = same_stop BadByte cause e
corner_stop xs NoNumber cause e more close = same_stop BadByte cause e
corner_stop xs Stray cause e more close = same_stop BadByte cause e

-- ---- a corner's answer, in the item

abbrev pub TurnOf : CornerStep → (OpenCorner → Turn) → Turn → Turn
TurnOf (More corner) more close = more corner
TurnOf Close more close = close
TurnOf (Stop cause) more close = Stops cause

in_item : (vs : List (List ℤ)) (xs : List ℤ) (p : Piece) (r : CornerStep) (more : List ℤ → Open) (close : Step) (m : OpenCorner → Turn) (d : Turn)
    → LeadsIn true xs p r → ((c : OpenCorner) (ys : List ℤ) → IsCorner c ys → StepsAs vs (m c) (goes (more ys))) → StepsAs vs d close
    → StepsAs vs (TurnOf r m d) (in_corner more close xs p)
in_item vs xs p (More corner) more close m d l f g =
    subst (StepsAs vs (m corner)) (sym (corner_more xs l.0 p (l.2 in_full (reading.stops BadByte)) more close)) (f corner l.0 l.1)
in_item vs xs p Close more close m d l f g = subst (StepsAs vs d) (sym (corner_close xs p (l in_full (reading.closes sets.skipped_line)) more close)) g
in_item vs xs p (Stop cause) more close m d l f g =
    subst (StepsAs vs (Stops cause)) (sym (corner_stop xs p cause (l in_full (reading.closes sets.skipped_line)) more close)) refl

left_turn : (corner : OpenCorner) (p : Piece) (r : CornerStep) → ((xs : List ℤ) → IsCorner corner xs → LeadsIn true xs p r)
    → (o : Open) → IsOpening (InLeft corner) o → StepsAs (listed_in o) (TurnOf r (λ c. Goes (InLeft c)) (Goes (BeforeArrow corner))) (step o p)
left_turn corner p r f (in_left xs) h = in_item [] xs p r in_left (goes (before_arrow xs)) _ _ (f xs h) (λ c ys i. (i, refl)) (h, refl)
left_turn corner p r f o h = absurd h

single_turn : (left value : OpenCorner) (p : Piece) (r : CornerStep) → ((xs : List ℤ) → IsCorner value xs → LeadsIn true xs p r)
    → (o : Open) → IsOpening (InSingle left value) o → StepsAs (listed_in o) (TurnOf r (λ c. Goes (InSingle left c)) (Closes (closing.Single left value))) (step o p)
single_turn left value p r f (in_single q xs) h = in_item [] xs p r (in_single q) (closes (single q xs)) _ _ (f xs h.1) (λ c ys i. ((h.0, i), refl)) (h.0, h.1, refl)
single_turn left value p r f o h = absurd h

listed_turn : (left value : OpenCorner) (p : Piece) (r : CornerStep) → ((xs : List ℤ) → IsCorner value xs → LeadsIn true xs p r)
    → (o : Open) → IsOpening (InListed left value) o → StepsAs (listed_in o) (TurnOf r (λ c. Goes (InListed left c)) (Adds left value)) (step o p)
listed_turn left value p r f (in_listed q vs xs) h =
    in_item vs xs p r (in_listed q vs) (goes (in_list q (vs ++ xs ∷ []))) _ _ (f xs h.1) (λ c ys i. ((h.0, i), refl)) (h.0, (xs, h.1, refl))
listed_turn left value p r f o h = absurd h

-- the same, where what stands open is told by an equation
pub left_at : (opening : Opening) (corner : OpenCorner) (p : Piece) (r : CornerStep) → opening ≡ InLeft corner → ((xs : List ℤ) → IsCorner corner xs → LeadsIn true xs p r)
    → (o : Open) → IsOpening opening o → StepsAs (listed_in o) (TurnOf r (λ c. Goes (InLeft c)) (Goes (BeforeArrow corner))) (step o p)
left_at opening corner p r e f o h = left_turn corner p r f o (subst (λ (x : Opening). IsOpening x o) e h)

pub single_at : (opening : Opening) (left value : OpenCorner) (p : Piece) (r : CornerStep) → opening ≡ InSingle left value → ((xs : List ℤ) → IsCorner value xs → LeadsIn true xs p r)
    → (o : Open) → IsOpening opening o → StepsAs (listed_in o) (TurnOf r (λ c. Goes (InSingle left c)) (Closes (closing.Single left value))) (step o p)
single_at opening left value p r e f o h = single_turn left value p r f o (subst (λ (x : Opening). IsOpening x o) e h)

pub listed_at : (opening : Opening) (left value : OpenCorner) (p : Piece) (r : CornerStep) → opening ≡ InListed left value → ((xs : List ℤ) → IsCorner value xs → LeadsIn true xs p r)
    → (o : Open) → IsOpening opening o → StepsAs (listed_in o) (TurnOf r (λ c. Goes (InListed left c)) (Adds left value)) (step o p)
listed_at opening left value p r e f o h = listed_turn left value p r f o (subst (λ (x : Opening). IsOpening x o) e h)
