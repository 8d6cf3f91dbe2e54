-- How the step that a generator is in is kept.
use Rattle.std.specs.Prelude.{ℕ, ◌-◌, Option, Some, None, if◌then◌else◌, ◌==◌}

-- the step that a number tells: 0 tells none, and each other number the step before it
abbrev pub step_in : ℕ → Option ℕ
step_in code = if code == 0 then None else Some (code - 1)
