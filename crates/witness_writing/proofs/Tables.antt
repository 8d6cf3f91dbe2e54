-- The lines of matrices are the texts of matrices.
use Rattle.std.proofs.Common.{◌≡◌, ℕ, zero, suc, ◌<◌, refl, sym, ap, ◌∙◌, arith, List, [], ◌∷◌, ◌++◌, length, get_or, map, Bool, true, false, cond, eqb}
use Rattle.std.proofs.lemmas.List.{get_or-map}
use Rattle.leray_conley.specs.Tables.{Table, entry}
use Rattle.witness_laws.specs.Lines.{Line, matrix, row, each, row_line}
use Rattle.witness_laws.specs.Parts.{AreMatrices}
use Rattle.witness_laws.proofs.Runs.{length_singles}
use Rattle.witness_types.specs.Rows.{row_of, rows_of}
use Rattle.witness_writing.specs.Runs.{rows_text, matrix_text, matrices_text, table_at}
use Rattle.witness_writing.proofs.Grouping.{each_equal}
use Rattle.witness_writing.proofs.Pairs.{flat, flat_each, flat_once, each_below, get_singles}

flat_cond : (h : Line → List ℕ) (b : Bool) (u : List Line) → flat (map h (cond b [] u)) ≡ cond b [] (flat (map h u))
flat_cond h true u = refl
flat_cond h false u = refl

cond_none : (b : Bool) → ◌≡◌ {A = List ℕ} (cond b [] []) []
cond_none true = refl
cond_none false = refl

-- the matrices are of these sizes, and each line has this text
module _ (ts : List Table) (p top : ℕ) (height width : ℕ → ℕ) (ok : AreMatrices p top height width (map rows_of ts)) (h : Line → List ℕ)
    (at_row : (k r : ℕ) → h (row k r) ≡ row_line k (get_or (get_or (map rows_of ts) k []) r [])) where
  abbrev ms : List (List (List ℕ))
  ms = map rows_of ts

  abbrev pub row_lines : ℕ → List Line
  row_lines k = each (length (get_or ms k [])) (λ r. row k r ∷ [])

  abbrev pub lines : ℕ → List Line
  lines k = cond (eqb (width k) 0) [] (row_lines k)

  module _ (k : ℕ) (l : k < length ts) where
    abbrev t : Table
    t = table_at ts k

    rows_at : get_or ms k [] ≡ rows_of t
    rows_at = get_or-map rows_of ts k (record { rows = 0; columns = 0; entries = [] }) [] l

    rows_are : flat (map h (row_lines k)) ≡ rows_text k t
    rows_are =
        flat_once h (length (get_or ms k [])) (row k) ∙ each_equal (length (get_or ms k [])) _ _ (at_row k)
        ∙ ap (λ (rs : List (List ℕ)). each (length rs) (λ r. row_line k (get_or rs r []))) rows_at
        ∙ ap (λ (n : ℕ). each n (λ r. row_line k (get_or (rows_of t) r []))) (length_singles t.rows (row_of t))
        ∙ each_below t.rows _ _ (λ r m. ap (row_line k) (get_singles t.rows (row_of t) [] r m))

    wide : 0 < t.rows → width k ≡ t.columns
    wide q =
        let n : length (get_or ms k []) ≡ t.rows = ap length rows_at ∙ length_singles t.rows (row_of t) in
        sym (ok.columns k 0 (let e = ok.rows k in omega (arith, e, n, q))) ∙ ap (λ (rs : List (List ℕ)). length (get_or rs 0 [])) rows_at
        ∙ ap length (get_singles t.rows (row_of t) [] 0 q) ∙ length_singles t.columns (entry t 0)

    pub matrix_is : flat (map h (lines k)) ≡ matrix_text k t
    matrix_is = by t.rows refl
      where
        by : (n : ℕ) → t.rows ≡ n → flat (map h (lines k)) ≡ matrix_text k t
        by zero z =
            let e : rows_text k t ≡ [] = ap (λ (n : ℕ). each n (λ r. row_line k (row_of t r))) z in
            flat_cond h (eqb (width k) 0) (row_lines k) ∙ ap (cond (eqb (width k) 0) []) (rows_are ∙ e) ∙ cond_none (eqb (width k) 0)
            ∙ sym (ap (cond (eqb t.columns 0) []) e ∙ cond_none (eqb t.columns 0))
        by (suc n) z =
            flat_cond h (eqb (width k) 0) (row_lines k) ∙ ap (cond (eqb (width k) 0) []) rows_are
            ∙ ap (λ (c : ℕ). cond (eqb c 0) [] (rows_text k t)) (wide (omega (arith, z)))

  pub matrices_are : (n : ℕ) → n ≡ length ts → flat (map h (matrix ∷ each n lines)) ≡ h matrix ++ matrices_text ts
  matrices_are n e =
      ap (λ l. h matrix ++ l)
      (flat_each h n lines ∙ ap (λ (m : ℕ). each m (λ i. flat (map h (lines i)))) e ∙ each_below (length ts) _ _ matrix_is)
