-- The modulus of a job is of the table, and that of a field.
use Rattle.std.proofs.Common.{◌≡◌, ℕ, refl, ap, Bool, true, false, cond}
use Rattle.std.specs.List.{list_any}
use Rattle.std.specs.Prelude.{◌==◌}
use Rattle.field_mod.specs.Modular.{IsField}
use Rattle.field_mod.specs.Moduli.{moduli, IsModulus}
use Rattle.field_mod.proofs.Table.{is_field}
use Rattle.pair_maps.specs.Moduli.{modulus_of}

pub modulus_listed : (p : ℕ) → IsModulus (modulus_of p)
modulus_listed p = by (list_any (λ q. q == p) moduli) refl
  where
    by : (b : Bool) → list_any (λ q. q == p) moduli ≡ b → IsModulus (cond b p 2)
    by true e = e
    by false e = refl

pub modulus_is : (p : ℕ) → IsField (modulus_of p)
modulus_is p = is_field (modulus_of p) (modulus_listed p)

-- one of the table is itself
pub of_table : (p : ℕ) → IsModulus p → modulus_of p ≡ p
of_table p h = ap (λ t. cond t p 2) h
