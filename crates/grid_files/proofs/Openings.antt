-- A corner that goes on, closes or stops, in the item that it stands in.
use Rattle.std.proofs.Common.{◌≡◌, ℤ, List, Bool, true, false, refl, sym, subst}
use Rattle.grid_files.specs.Items.{full, Open, in_full, in_lower, before_upper, in_upper, before_end}
use Rattle.grid_files.specs.Reading.{Step, goes, closes, in_corner, step}
use Rattle.grid_files.specs.Corners.{IsCorner, LeadsIn, end_test}
use Rattle.grid_files.specs.Openings.{IsOpening, StepsAs}
use Rattle.grid_files.specs.declared.corner.OpenCorner.{OpenCorner}
use Rattle.grid_files.specs.declared.corner.CornerStep.{CornerStep}
use Rattle.grid_files.specs.declared.corner.CornerStep.TheVariants.{More, Close, Stop}
use Rattle.grid_files.specs.declared.opening.Opening.{Opening}
use Rattle.grid_files.specs.declared.opening.Opening.TheVariants.{InFull, InLower, BeforeUpper, InUpper, BeforeEnd}
use Rattle.grid_files.specs.declared.opening.Closing.TheVariants as closing
use Rattle.grid_files.specs.declared.opening.Turn.{Turn}
use Rattle.grid_files.specs.declared.opening.Turn.TheVariants.{Goes, Closes, Stops}
use Rattle.grid_files.specs.declared.piece.Piece.{Piece}

-- a corner's answer, in the item
abbrev pub TurnOf : CornerStep → (OpenCorner → Turn) → Turn → Turn
TurnOf (More corner) more close = more corner
TurnOf Close more close = close
TurnOf (Stop cause) more close = Stops cause

in_item : (test : Bool) (xs : List ℤ) (p : Piece) (r : CornerStep) (more : List ℤ → Open) (close : Step) (m : OpenCorner → Turn) (d : Turn)
    → LeadsIn test xs p r → ((c : OpenCorner) (ys : List ℤ) → IsCorner c ys → StepsAs (m c) (goes (more ys))) → StepsAs d close
    → StepsAs (TurnOf r m d) (in_corner (end_test test) more close xs p)
in_item test xs p (More corner) more close m d l f g = subst (StepsAs (m corner)) (sym (l.2 more close)) (f corner l.0 l.1)
in_item test xs p Close more close m d l f g = subst (StepsAs d) (sym (l more close)) g
in_item test xs p (Stop cause) more close m d l f g = subst (StepsAs (Stops cause)) (sym (l more close)) refl

full_turn : (corner : OpenCorner) (p : Piece) (r : CornerStep) → ((xs : List ℤ) → IsCorner corner xs → LeadsIn true xs p r)
    → (o : Open) → IsOpening (InFull corner) o → StepsAs (TurnOf r (λ c. Goes (InFull c)) (Closes (closing.Full corner))) (step o p)
full_turn corner p r f (in_full xs) h = in_item true xs p r in_full (closes (full xs)) _ _ (f xs h) (λ c ys i. i) h
full_turn corner p r f o h = absurd h

lower_turn : (lower : OpenCorner) (p : Piece) (r : CornerStep) → ((xs : List ℤ) → IsCorner lower xs → LeadsIn false xs p r)
    → (o : Open) → IsOpening (InLower lower) o → StepsAs (TurnOf r (λ c. Goes (InLower c)) (Goes (BeforeUpper lower))) (step o p)
lower_turn lower p r f (in_lower ls) h = in_item false ls p r in_lower (goes (before_upper ls)) _ _ (f ls h) (λ c ys i. i) h
lower_turn lower p r f o h = absurd h

upper_turn : (lower upper : OpenCorner) (p : Piece) (r : CornerStep) → ((xs : List ℤ) → IsCorner upper xs → LeadsIn false xs p r)
    → (o : Open) → IsOpening (InUpper lower upper) o → StepsAs (TurnOf r (λ c. Goes (InUpper lower c)) (Goes (BeforeEnd lower upper))) (step o p)
upper_turn lower upper p r f (in_upper ls us) h = in_item false us p r (in_upper ls) (goes (before_end ls us)) _ _ (f us h.1) (λ c ys i. (h.0, i)) h
upper_turn lower upper p r f o h = absurd h

-- the same, where what stands open is told by an equation
pub full_at : (opening : Opening) (corner : OpenCorner) (p : Piece) (r : CornerStep) → opening ≡ InFull corner → ((xs : List ℤ) → IsCorner corner xs → LeadsIn true xs p r)
    → (o : Open) → IsOpening opening o → StepsAs (TurnOf r (λ c. Goes (InFull c)) (Closes (closing.Full corner))) (step o p)
full_at opening corner p r e f o h = full_turn corner p r f o (subst (λ (x : Opening). IsOpening x o) e h)

pub lower_at : (opening : Opening) (lower : OpenCorner) (p : Piece) (r : CornerStep) → opening ≡ InLower lower → ((xs : List ℤ) → IsCorner lower xs → LeadsIn false xs p r)
    → (o : Open) → IsOpening opening o → StepsAs (TurnOf r (λ c. Goes (InLower c)) (Goes (BeforeUpper lower))) (step o p)
lower_at opening lower p r e f o h = lower_turn lower p r f o (subst (λ (x : Opening). IsOpening x o) e h)

pub upper_at : (opening : Opening) (lower upper : OpenCorner) (p : Piece) (r : CornerStep) → opening ≡ InUpper lower upper → ((xs : List ℤ) → IsCorner upper xs → LeadsIn false xs p r)
    → (o : Open) → IsOpening opening o → StepsAs (TurnOf r (λ c. Goes (InUpper lower c)) (Goes (BeforeEnd lower upper))) (step o p)
upper_at opening lower upper p r e f o h = upper_turn lower upper p r f o (subst (λ (x : Opening). IsOpening x o) e h)
