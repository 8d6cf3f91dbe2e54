-- What is told of lines: each law on the lines of its kind.
use Rattle.std.proofs.Common.{◌≡◌, ℕ, zero, suc, ◌<◌, refl, arith, length, get_or}
use Rattle.elem_cubes.specs.Laws.{cell_at}
use Rattle.witness_laws.specs.declared.law.Law.{Law}
use Rattle.witness_laws.specs.declared.law.Law.TheVariants as laws
use Rattle.witness_laws.specs.Lines.{Side, cycle, cocycle, homotopy, section as section_line}
use Rattle.witness_laws.specs.Inputs.{Given, x_of, a_of, relative_cells}
use Rattle.witness_laws.specs.Sections.{IsClosedAt, IsDualAt, IsCocycleAt, ContractsAt}
use Rattle.witness_laws.specs.Tables.{Tables, section_at, holds}
use Rattle.witness_sections.specs.Outcomes.{second, AllHold, FailsBy}

nine : length second ≡ 9
nine = refl

module _ (p : ℕ) (G : Given) (W : Tables) (side : Side) where
  pub section_holds : AllHold (holds p G W) (section_line side)
  section_holds law _ = every law
    where
      every : (law : Law) → holds p G W law (section_line side)
      every laws.Text = tt
      every laws.Header = tt
      every laws.Cell = tt
      every laws.Cycle = tt
      every laws.Dual = tt
      every laws.Cocycle = tt
      every laws.Contraction = tt
      every laws.ValueContraction = tt
      every laws.Carried = tt
      every laws.Augmentation = tt
      every laws.Commutes = tt
      every laws.Matrix = tt

  module _ (k i : ℕ) where
    abbrev Closed : Type 0
    Closed = IsClosedAt p (x_of G side) (a_of G side) ((section_at G W side).cycle k i)

    pub cycle_holds : Closed → AllHold (holds p G W) (cycle side k i)
    cycle_holds h law _ = every law
      where
        every : (law : Law) → holds p G W law (cycle side k i)
        every laws.Text = tt
        every laws.Header = tt
        every laws.Cell = tt
        every laws.Cycle = h
        every laws.Dual = tt
        every laws.Cocycle = tt
        every laws.Contraction = tt
        every laws.ValueContraction = tt
        every laws.Carried = tt
        every laws.Augmentation = tt
        every laws.Commutes = tt
        every laws.Matrix = tt

    pub cycle_fails : (Closed → ⊥) → FailsBy (holds p G W) (cycle side k i) laws.Cycle
    cycle_fails h = record { at = 0; inside = omega (arith, nine); named = refl; before = λ j l. absurd (omega (arith, l)); here = h }

    abbrev Dual : Type 0
    Dual = IsDualAt p (relative_cells (x_of G side) (a_of G side)) (section_at G W side) k i

    abbrev Closes : Type 0
    Closes = IsCocycleAt p (x_of G side) (a_of G side) (relative_cells (x_of G side) (a_of G side)) ((section_at G W side).cocycle k i)

    pub cocycle_holds : Dual → Closes → AllHold (holds p G W) (cocycle side k i)
    cocycle_holds d c law _ = every law
      where
        every : (law : Law) → holds p G W law (cocycle side k i)
        every laws.Text = tt
        every laws.Header = tt
        every laws.Cell = tt
        every laws.Cycle = tt
        every laws.Dual = d
        every laws.Cocycle = c
        every laws.Contraction = tt
        every laws.ValueContraction = tt
        every laws.Carried = tt
        every laws.Augmentation = tt
        every laws.Commutes = tt
        every laws.Matrix = tt

    pub dual_fails : (Dual → ⊥) → FailsBy (holds p G W) (cocycle side k i) laws.Dual
    dual_fails h = record { at = 1; inside = omega (arith, nine); named = refl; before = before; here = h }
      where
        before : (j : ℕ) → j < 1 → holds p G W (get_or second j laws.Text) (cocycle side k i)
        before zero l = tt
        before (suc j) l = absurd (omega (arith, l))

    pub cocycle_fails : Dual → (Closes → ⊥) → FailsBy (holds p G W) (cocycle side k i) laws.Cocycle
    cocycle_fails d h = record { at = 2; inside = omega (arith, nine); named = refl; before = before; here = h }
      where
        before : (j : ℕ) → j < 2 → holds p G W (get_or second j laws.Text) (cocycle side k i)
        before zero l = tt
        before (suc zero) l = d
        before (suc (suc j)) l = absurd (omega (arith, l))

  module _ (i : ℕ) where
    abbrev Contracts : Type 0
    Contracts = ContractsAt p (x_of G side) (a_of G side) (relative_cells (x_of G side) (a_of G side)) (section_at G W side) (cell_at (relative_cells (x_of G side) (a_of G side)) i)

    pub homotopy_holds : Contracts → AllHold (holds p G W) (homotopy side i)
    homotopy_holds h law _ = every law
      where
        every : (law : Law) → holds p G W law (homotopy side i)
        every laws.Text = tt
        every laws.Header = tt
        every laws.Cell = tt
        every laws.Cycle = tt
        every laws.Dual = tt
        every laws.Cocycle = tt
        every laws.Contraction = h
        every laws.ValueContraction = tt
        every laws.Carried = tt
        every laws.Augmentation = tt
        every laws.Commutes = tt
        every laws.Matrix = tt

    pub homotopy_fails : (Contracts → ⊥) → FailsBy (holds p G W) (homotopy side i) laws.Contraction
    homotopy_fails h = record { at = 3; inside = omega (arith, nine); named = refl; before = before; here = h }
      where
        before : (j : ℕ) → j < 3 → holds p G W (get_or second j laws.Text) (homotopy side i)
        before zero l = tt
        before (suc zero) l = tt
        before (suc (suc zero)) l = tt
        before (suc (suc (suc j))) l = absurd (omega (arith, l))
