-- What the model of a cell owes: its fields are those that its factors give.
use Rattle.std.proofs.Common.{◌≡◌, ℕ, zero, suc, ◌+◌, ◌*◌, ◌/◌, ◌%◌, ◌^◌, ◌<◌, refl, sym, ap, ◌∙◌, arith, List, [], ◌∷◌, length, take, Bool, true, false, cond, eqb}
use Rattle.std.specs.Prelude.{ℤ}
use Rattle.std.proofs.Math.Nat.{pow-suc}
use Rattle.elem_cubes.specs.declared.range.TheConstants.{MAX_EMBEDDING}
use Rattle.elem_cubes.specs.Cells.{Factor, point, interval, low, lower_of, axes_of, cell_of}
use Rattle.elem_cubes.specs.Packed.{padded, KeepsCell}

low-chosen : (b : Bool) (l : ℤ) → low (cond b (interval l) (point l)) ≡ l
low-chosen true l = refl
low-chosen false l = refl

pub lower-cell_of : (ls : List ℤ) (a : ℕ) → lower_of (cell_of ls a) ≡ ls
lower-cell_of [] a = refl
lower-cell_of (l ∷ ls) a = λ i. low-chosen (eqb (a % 2) 1) l i ∷ lower-cell_of ls (a / 2) i

pub length-cell_of : (ls : List ℤ) (a : ℕ) → length (cell_of ls a) ≡ length ls
length-cell_of [] a = refl
length-cell_of (l ∷ ls) a = ap suc (length-cell_of ls (a / 2))

axes-chosen : (b : Bool) (l : ℤ) (qs : List Factor)
    → axes_of (cond b (interval l) (point l) ∷ qs) ≡ cond b 1 0 + 2 * axes_of qs
axes-chosen true l qs = refl
axes-chosen false l qs = omega arith

bit_read : (n : ℕ) → n < 2 → cond (eqb n 1) 1 0 ≡ n
bit_read zero h = refl
bit_read (suc zero) h = refl
bit_read (suc (suc n)) h = absurd (omega arith)

pub axes-cell_of : (ls : List ℤ) (a : ℕ) → a < 2 ^ length ls → axes_of (cell_of ls a) ≡ a
axes-cell_of [] a h = omega arith
axes-cell_of (l ∷ ls) a h =
    let half : a / 2 < 2 ^ length ls = omega (arith, pow-suc 2 (length ls)) in
    axes-chosen (eqb (a % 2) 1) l (cell_of ls (a / 2))
    ∙ (let e = axes-cell_of ls (a / 2) half in let b = bit_read (a % 2)
    (omega arith) in omega arith)

pub unpacked : (ends : List ℤ) (len axes : ℕ) → KeepsCell ends len axes
    → (padded MAX_EMBEDDING (lower_of (cell_of (take len ends) axes)) ≡ ends)
    × (length (cell_of (take len ends) axes) ≡ len)
    × (axes_of (cell_of (take len ends) axes) ≡ axes)
unpacked ends len axes k = (
  ap (padded MAX_EMBEDDING) (lower-cell_of (take len ends) axes) ∙ sym k.rest,
  length-cell_of (take len ends) axes ∙ k.long,
  axes-cell_of (take len ends) axes (rw k.long k.few),
)
