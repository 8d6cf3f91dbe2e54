-- Cycles that are made are right as shown, and so are none where they are not shown.
use Rattle.std.proofs.Common.{◌≡◌, ℕ, List, [], Bool, true, false, cond, IsTrue, refl, ap}
use Rattle.report.specs.declared.reports.Shown.{Shown}
use Rattle.report.specs.ReportText.{group_lines, shown_cycles}
use Rattle.basis_reports.specs.Right.{AreAsShown}

pub shown_whole : {C : Type 0} (shown : Bool) (are_right : C → Type 0) (cycles : C) → are_right cycles → AreAsShown shown are_right cycles
shown_whole shown are_right cycles right = (cycles, right, λ t. refl)

pub left_out : {C : Type 0} (shown : Bool) (are_right : C → Type 0) (cycles : C) → shown ≡ false → ((all : C) × are_right all) → AreAsShown shown are_right cycles
left_out {C} shown are_right cycles off (all, right) = (all, right, λ t. absurd (never shown off t))
  where
    never : (b : Bool) → b ≡ false → b ≡ true → ⊥
    never b off on = cc

-- cycles that are not printed make no difference to the lines
pub same_lines : {G : Type 0} (write : G → List ℕ) (dimensions : List ℕ) (shown : Shown) (cycles all : List (List (List (G × ℕ)))) → (IsTrue shown.cycles → cycles ≡ all)
    → group_lines write shown.modulus dimensions (shown_cycles shown cycles) ≡ group_lines write shown.modulus dimensions (shown_cycles shown all)
same_lines write dimensions shown cycles all e = ap (group_lines write shown.modulus dimensions) (by shown.cycles e)
  where
    by : (b : Bool) → (IsTrue b → cycles ≡ all) → cond b cycles [] ≡ cond b all []
    by true e = e refl
    by false e = refl
