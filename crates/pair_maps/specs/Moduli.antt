-- The modulus of a job.
use Rattle.std.specs.Prelude.{ℕ, if◌then◌else◌, ◌==◌}
use Rattle.std.specs.List.{list_any}
use Rattle.field_mod.specs.Moduli.{moduli}

-- the modulus of words, which is one of the table; 2 for any other number
abbrev pub modulus_of : ℕ → ℕ
modulus_of p = if list_any (λ q. q == p) moduli then p else 2
