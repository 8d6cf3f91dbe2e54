-- Products of restricted images with the cocycles are the entries of the matrix of a map.
use Rattle.std.proofs.Common.{◌≡◌, ℕ, ◌+◌, ◌*◌, ◌%◌, ◌<◌, ◌≤◌, sym, ap, ◌∙◌, subst, arith, ⊎_elim, List, [], ◌∷◌, ◌++◌, length, get_or}
use Rattle.std.specs.Prelude.{◌^◌}
use Rattle.std.proofs.lemmas.Bool.{cases_lt}
use Rattle.std.proofs.lemmas.List.{get_or_append_left, get_or_push, length_push}
use native.Mathlib.Nat.{mod-mod}
use Rattle.field_mod.specs.Sums.{total}
use Rattle.field_mod.specs.Modular.{Same}
use Rattle.field_mod.proofs.Sums.{total_same}
use Rattle.field_mod.proofs.Modular.{same_refl, same_trans, same-mul}
use Rattle.elem_cubes.specs.Cells.{Factor}
use Rattle.elem_cubes.specs.Laws.{cell_at}
use Rattle.elem_cubes.proofs.Modular.{exact}
use Rattle.chains.specs.Terms.{coefficient, product, IsNormal}
use Rattle.chains.proofs.Boundary.{product-total}
use Rattle.algebraic_reduction.proofs.NumbersKept.{product-turned}
use Rattle.cube_sets.specs.Closures.{cells_of}
use Rattle.cell_complex.specs.RelativeComplex.{is_relative}
use Rattle.cell_complex.specs.Numbering.{by_cell}
use Rattle.cell_complex.proofs.Numbering.{listed}
use Rattle.acyclic_values.specs.CarriedMaps.{image}
use Rattle.acyclic_values.proofs.Values.{relative_cell}
use Rattle.homology_basis.specs.Bases.{BasisOfLog, CyclesOfLog, in_degree, IsBasisByCycles, IsBasisWithContraction}
use Rattle.homology_basis.proofs.Dual.{within}
use Rattle.leray_conley.specs.Tables.{Table, entry}
use Rattle.map_checks.specs.Carriers.{Carrying, IsCarrier}
use Rattle.induced_map.specs.Within.{AreCellsOf}
use Rattle.induced_map.specs.Lists.{AreEach}
use Rattle.induced_map.specs.Images.{IsRestrictedImage, AreProducts}
use Rattle.induced_map.specs.Matrices.{none, nth, ArePairsOfMap, IsMatrixOf}
use Rattle.induced_map.proofs.Columns.{column_of_all}

-- the relative cells of the second pair are cells of the range
pub cells_of_range : (p : ℕ) (c : Carrying) (dc : List (List Factor)) (A : CyclesOfLog) (rc : List (List Factor)) (B : BasisOfLog) → ArePairsOfMap p c dc A rc B → AreCellsOf c.range rc
cells_of_range p c dc A rc B h g l = relative_cell c.range h.y h.b h.pairs.range_whole (cell_at rc g) (listed (is_relative h.y h.b) rc h.pairs.range.listing g l)

-- and the complex of the first has a generator for each of its relative cells
pub count_of_cells : (p : ℕ) (c : Carrying) (dc : List (List Factor)) (A : CyclesOfLog) (rc : List (List Factor)) (B : BasisOfLog) → ArePairsOfMap p c dc A rc B → length A.log.complex.boundaries ≡ length dc
count_of_cells p c dc A rc B h = h.pairs.domain.complex.count

-- the product of a cochain with a chain of numbers below n, by what the chain has at these
pub product_is : (p n : ℕ) (cochain ts : List (ℕ × ℕ)) (f : ℕ → ℕ) → IsNormal p ts → ((g : ℕ) → n ≤ g → coefficient ts g ≡ 0) → ((g : ℕ) → g < n → Same p (coefficient ts g) (f g))
    → Same p (product cochain ts % p) (total n (λ g. coefficient cochain g * f g))
product_is p n cochain ts f normal inside value =
    let a : product cochain ts ≡ total n (λ h. coefficient ts h * coefficient cochain h) = product-turned cochain ts ∙ product-total p 0 n ts cochain (within p 0 (2 ^ 32) n ts normal (omega arith) inside) in
    same_trans (record { same = mod-mod (product cochain ts) p }) (same_trans (exact p a) (total_same p n (λ h. coefficient ts h * coefficient cochain h) (λ h. coefficient cochain h * f h) (λ h l.
    same_trans (exact p (turned (coefficient ts h) (coefficient cochain h))) (same-mul (same_refl p (coefficient cochain h)) (value h l)))))
  where
    turned : (u v : ℕ) → u * v ≡ v * u
    turned u v = omega arith

module _ (p : ℕ) (c : Carrying) (is : IsCarrier p c) (one : 1 ≤ p) (dc : List (List Factor)) (A : CyclesOfLog) (rc : List (List Factor)) (B : BasisOfLog) (ba : IsBasisByCycles p A) (bb : IsBasisWithContraction p B) (k : ℕ) where
  abbrev zs : List (List (ℕ × ℕ))
  zs = in_degree A.cycles k

  abbrev cs : List (List (ℕ × ℕ))
  cs = in_degree B.cocycles k

  pub matrix_is : (images : List (List (ℕ × ℕ))) (entries : List ℕ) (m : Table) → AreEach (IsRestrictedImage p c dc rc) zs (length zs) images → AreProducts p cs images (length (in_degree B.cycles k)) entries
      → m.rows ≡ length (in_degree B.cycles k) → m.columns ≡ length zs → m.entries ≡ entries → IsMatrixOf p c dc A rc B k m
  matrix_is images entries m im pr rows columns same x a y b pairs = record {
    rows = rows;
    columns = columns;
    induced = λ e me j l.
        let i : IsRestrictedImage p c dc rc (get_or zs j []) (get_or images j []) = im.each j l in
        column_of_all p c.map c.domain c.range x a y b dc rc A B k j (λ r. entry m r j) i.map e one is.acyclic pairs.domain_whole pairs.range_whole pairs.carried pairs.domain pairs.range ba bb i.carried me l
        (λ r q. same_trans (exact p (at r j ∙ pr.products r j q (omega (arith, im.count)))) (product_is p (length rc) (get_or cs r []) (get_or images j []) (λ g. image (cells_of c.domain) i.map (by_cell dc (coefficient (get_or zs j []))) (cell_at rc g)) i.normal i.within i.value));
  }
    where
      at : (r j : ℕ) → entry m r j ≡ get_or entries (r * length images + j) 0
      at r j = ap (λ (es : List ℕ). get_or es (r * m.columns + j) 0) same ∙ ap (λ n. get_or entries (r * n + j) 0) (columns ∙ sym im.count)

  -- where the second basis is empty
  pub empty_matrix : (m : Table) → 0 ≡ length (in_degree B.cycles k) → m.rows ≡ 0 → m.columns ≡ length zs → IsMatrixOf p c dc A rc B k m
  empty_matrix m none_there rows columns x a y b pairs = record {
    rows = rows ∙ none_there;
    columns = columns;
    induced = λ e me j l.
        column_of_all p c.map c.domain c.range x a y b dc rc A B k j (λ r. entry m r j) e e one is.acyclic pairs.domain_whole pairs.range_whole pairs.carried pairs.domain pairs.range ba bb me me l
        (λ r q. absurd (omega arith));
  }

-- ---- one matrix more

-- the matrices of the degrees below n
pub record AreMatricesBelow (p : ℕ) (c : Carrying) (dc : List (List Factor)) (A : CyclesOfLog) (rc : List (List Factor)) (B : BasisOfLog) (n : ℕ) (all : List Table) : Type 0 where
  pub count : length all ≡ n
  pub each : (k : ℕ) → k < n → IsMatrixOf p c dc A rc B k (nth all k)

pub matrices_none : (p : ℕ) (c : Carrying) (dc : List (List Factor)) (A : CyclesOfLog) (rc : List (List Factor)) (B : BasisOfLog) (all : List Table) → all ≡ [] → AreMatricesBelow p c dc A rc B 0 all
matrices_none p c dc A rc B all e = record { count = ap length e; each = λ k l. absurd (omega arith) }

pub matrices_more : (p : ℕ) (c d : Carrying) (dc : List (List Factor)) (A : CyclesOfLog) (rc : List (List Factor)) (B : BasisOfLog) (n : ℕ) (all new : List Table) (m : Table) → d ≡ c
    → AreMatricesBelow p c dc A rc B n all → new ≡ all ++ m ∷ [] → IsMatrixOf p d dc A rc B n m → AreMatricesBelow p c dc A rc B (n + 1) new
matrices_more p c d dc A rc B n all new m same so_far e matrix = record {
  count = ap length e ∙ length_push all m ∙ ap (λ v. v + 1) so_far.count;
  each = λ k l. ⊎_elim
      (λ lt. subst (λ (t : Table). IsMatrixOf p c dc A rc B k t) (sym (ap (λ ts. get_or ts k none) e ∙ get_or_append_left all (m ∷ []) none k (omega (arith, so_far.count)))) (so_far.each k lt))
      (λ ge.
      let i : k ≡ n = omega arith in
      let at : get_or new k none ≡ m = ap (λ ts. get_or ts k none) e ∙ ap (λ j. get_or (all ++ m ∷ []) j none) i ∙ get_or_push all m none n so_far.count in
      subst (λ (t : Table). IsMatrixOf p c dc A rc B k t) (sym at)
      (subst (λ (j : ℕ). IsMatrixOf p c dc A rc B j m) (sym i) (subst (λ (x : Carrying). IsMatrixOf p x dc A rc B n m) same matrix)))
      (cases_lt k n);
}
