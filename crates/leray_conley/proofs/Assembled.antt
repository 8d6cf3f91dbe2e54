-- The five matrices of a splitting, from the tables that the program makes one after the other
use Rattle.std.proofs.Common.{◌≡◌, ◌∙◌, ℕ, ◌+◌, ◌*◌, ◌%◌, ◌<◌, ◌≤◌, sym, arith, subst, ⊎_elim}
use Rattle.std.proofs.lemmas.Bool.{cases_lt}
use Rattle.std.proofs.lemmas.Nat.{mul-le}
use Rattle.field_mod.proofs.Modular.{same_trans}
use Rattle.leray_conley.specs.Products.{product, AreSame}
use Rattle.leray_conley.specs.Kernels.{IsKilled}
use Rattle.leray_conley.specs.Inverses.{IsInverse}
use Rattle.leray_conley.specs.Splitting.{beside, IsLeraySplitting, IsSplit}
use Rattle.leray_conley.specs.Tables.{Table, HasEntries, entry}
use Rattle.leray_conley.proofs.Algebra.{mul_right}
use Rattle.leray_conley.proofs.Halves.{reduced_unkilled, splitting}
use Rattle.leray_conley.proofs.Totals.{exact}
use Rattle.leray_conley.proofs.Transfers.{inverse_entries, product_same, unkilled_entries}

pub small_size : (d : ℕ) → d * d ≤ 16777216 → d ≤ 4096
small_size d h = ⊎_elim (λ l. let m = mul-le 4097 4097 d d l l in absurd (omega arith)) (λ l. l) (cases_lt 4096 d)

module _ (p : ℕ) (a image kernel sp w : Table) (square : a.rows ≡ a.columns) (ir : image.rows ≡ a.rows)
    (split : IsSplit p a.rows image.columns kernel.columns (entry a) (entry image) (entry kernel))
    (hs : HasEntries image.rows (image.columns + kernel.columns) (beside image.columns (entry image) (entry kernel)) sp) where
  abbrev both : ℕ → ℕ → ℕ
  both = beside image.columns (entry image) (entry kernel)

  at_size : HasEntries a.rows (image.columns + kernel.columns) both sp
  at_size = subst (λ (x : ℕ). HasEntries x (image.columns + kernel.columns) both sp) ir hs

  pub split_square : sp.rows ≡ sp.columns
  split_square = at_size.has_rows ∙ sym split.sizes ∙ sym at_size.has_columns

  pub split_free : (v : ℕ → ℕ) → IsKilled p sp.rows sp.rows (entry sp) v → ⊥
  split_free = unkilled_entries p a.rows sp at_size split.sizes split.unkilled

  module _ (wr : w.rows ≡ sp.rows) (wc : w.columns ≡ sp.rows) (wi : IsInverse p sp.rows (entry sp) (entry w)) where
    pub whole_rows : w.rows ≡ a.rows
    whole_rows = wr ∙ at_size.has_rows

    pub whole_columns : w.columns ≡ a.rows
    whole_columns = wc ∙ at_size.has_rows

    inverts : IsInverse p a.rows both (entry w)
    inverts = inverse_entries p a.rows sp (entry w) at_size split.sizes wi

    module _ (moved whole reduced : Table) (n : ℕ) (hm : HasEntries a.rows image.columns (λ i j. product a.columns (entry a) (entry image) i j % p) moved)
        (hw : HasEntries w.rows moved.columns (λ i j. product w.columns (entry w) (entry moved) i j % p) whole) (nr : n ≡ image.columns) (hr : HasEntries n whole.columns (entry whole) reduced) where
      moved_at : HasEntries a.rows image.columns (λ i j. product a.rows (entry a) (entry image) i j % p) moved
      moved_at = subst (λ (k : ℕ). HasEntries a.rows image.columns (λ i j. product k (entry a) (entry image) i j % p) moved) (sym square) hm

      whole_at : HasEntries a.rows image.columns (λ i j. product a.rows (entry w) (entry moved) i j % p) whole
      whole_at =
          subst (λ (x : ℕ). HasEntries x image.columns (λ i j. product a.rows (entry w) (entry moved) i j % p) whole) whole_rows
          (subst (λ (x : ℕ). HasEntries w.rows x (λ i j. product a.rows (entry w) (entry moved) i j % p) whole) hm.has_columns
          (subst (λ (k : ℕ). HasEntries w.rows moved.columns (λ i j. product k (entry w) (entry moved) i j % p) whole) whole_columns hw))

      pub reduced_rows : reduced.rows ≡ image.columns
      reduced_rows = hr.has_rows ∙ nr

      pub reduced_columns : reduced.columns ≡ image.columns
      reduced_columns = hr.has_columns ∙ whole_at.has_columns

      is_reduced : AreSame p image.columns image.columns (entry reduced) (product a.rows (entry w) (product a.rows (entry a) (entry image)))
      is_reduced = record {
        at = λ i j x y.
            let q = split.sizes in
            let l : i < a.rows = omega arith in
            let c = whole_at.has_columns in
            same_trans (exact (hr.at i j (omega arith) (omega arith))) (same_trans ((product_same p a.rows (entry w) (entry moved) whole whole_at).at i j l y)
            ((mul_right p a.rows a.rows image.columns (entry w) (entry moved) (product a.rows (entry a) (entry image)) (product_same p a.rows (entry a) (entry image) moved moved_at)).at i j l y));
      }

      pub reduced_square : reduced.rows ≡ reduced.columns
      reduced_square = reduced_rows ∙ sym reduced_columns

      pub reduced_free : (v : ℕ → ℕ) → IsKilled p reduced.rows reduced.rows (entry reduced) v → ⊥
      reduced_free v k = reduced_unkilled p a.rows image.columns kernel.columns (entry a) (entry image) (entry kernel) (entry w) split inverts (entry reduced) is_reduced v (subst (λ (x : ℕ). IsKilled p x x (entry reduced) v) reduced_rows k)

      pub assembled : (inverse : Table) → IsInverse p reduced.rows (entry reduced) (entry inverse)
          → IsLeraySplitting p a.rows (entry a) (record { rank = image.columns; image = entry image; kernel = entry kernel; reduced = entry reduced; reduced_inverse = entry inverse; split_inverse = entry w })
      assembled inverse i = splitting p a.rows image.columns kernel.columns (entry a) (entry image) (entry kernel) (entry w) split inverts (entry reduced) is_reduced (entry inverse)
          (let k : IsInverse p image.columns (entry reduced) (entry inverse) = subst (λ (x : ℕ). IsInverse p x (entry reduced) (entry inverse)) reduced_rows i in k.0)
