-- What is remembered of full cubes: by the mask of those of their faces that a test tells, whether
-- they may be moved into these.
use Rattle.std.specs.Prelude.{◌≡◌, ◌↔◌, ℕ, ◌+◌, ◌*◌, List, [], ◌∷◌, length, Bool, true, IsTrue, Some, if◌then◌else◌}
use Rattle.std.specs.List.{list_all}
use Rattle.std.specs.Ordering.{nat_cmp}
use Rattle.std.specs.BTreeMap.{BTreeMap, get}
use Rattle.elem_cubes.specs.Cells.{Factor, is_wide}
use Rattle.elem_cubes.specs.Faces.{closure_of}
use Rattle.excision.specs.Left.{IsClosedIn, IsMovableInto}

-- the binary digits of m, and then one for each item of the list: 1 where the test tells it
abbrev pub mask_from : {A : Type 0} → ℕ → (A → Bool) → List A → ℕ
mask_from m test [] = m
mask_from m test (c ∷ cs) = mask_from (2 * m + (if test c then 1 else 0)) test cs

-- of each full cube with n factors b says whether it may be moved into what a closed test with this
-- mask tells
abbrev pub Tells : ℕ → ℕ → ℕ → Bool → Type 0
Tells p n mask b =
    (q : List Factor) (test : List Factor → Bool) → length q ≡ n → list_all is_wide q ≡ true
    → IsClosedIn q test
    → mask_from 0 test (closure_of q) ≡ mask → IsTrue b ↔ IsMovableInto p test q

-- all that is remembered is so
abbrev pub AreKnown : ℕ → ℕ → BTreeMap ℕ Bool → Type 0
AreKnown p n answers = (mask : ℕ) (b : Bool) → get nat_cmp answers mask ≡ Some b → Tells p n mask b
