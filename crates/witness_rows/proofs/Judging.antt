-- The law of rows, over numbers and over the witness.
use Rattle.std.proofs.Common.{◌≡◌, ℕ, zero, suc, ◌+◌, ◌*◌, ◌%◌, ◌<◌, refl, sym, ap, ◌∙◌, subst, arith, ⊎_elim, List, [], ◌∷◌, length, get_or}
use Rattle.std.proofs.lemmas.Bool.{cases_lt}
use Rattle.std.proofs.lemmas.List.{get_or_default}
use Rattle.std.proofs.Math.Nat.{mod-eq_of_lt}
use Rattle.field_mod.specs.Sums.{total}
use Rattle.field_mod.specs.Modular.{Same}
use Rattle.field_mod.proofs.Sums.{total_same}
use Rattle.field_mod.proofs.Modular.{same_sym, same_trans, same-mul}
use Rattle.elem_cubes.specs.Cells.{Factor}
use Rattle.elem_cubes.specs.Laws.{cell_at}
use Rattle.elem_cubes.proofs.Modular.{exact}
use Rattle.chains.specs.Terms.{coefficient, nth_chain}
use Rattle.chains.specs.ChainComplex.{boundary, incidence}
use Rattle.cell_complex.specs.Numbering.{number_of}
use Rattle.cell_complex.proofs.Numbering.{number_at}
use Rattle.cube_sets.specs.Closures.{is_cell_of}
use Rattle.homology_basis.specs.Bases.{in_degree}
use Rattle.leray_conley.specs.Tables.{Table, entry}
use Rattle.map_checks.specs.Faults.{together}
use Rattle.acyclic_values.specs.CarriedMaps.{image}
use Rattle.acyclic_values.proofs.Cells.{cells_listing}
use Rattle.witness_laws.specs.declared.law.Law.{Law}
use Rattle.witness_laws.specs.declared.law.Law.TheVariants as laws
use Rattle.witness_laws.specs.declared.law.WitnessFault.TheVariants.{At}
use Rattle.witness_laws.specs.Lines.{domain as domain_side, range as range_side, row, each}
use Rattle.witness_laws.specs.Inputs.{Given, all_cells}
use Rattle.witness_laws.specs.Parts.{chain_of, nth, image_of, range_cells, entry_of}
use Rattle.witness_laws.specs.Sections.{product_of_image}
use Rattle.witness_laws.specs.Tables.{Tables, map_of, section_at, holds}
use Rattle.witness_types.specs.Rows.{row_of}
use Rattle.witness_sections.specs.Outcomes.{second, AllHold, FailsBy, Meet}
use Rattle.witness_sections.proofs.Lining.{meet_more}
use Rattle.witness_sections.proofs.Loops.{fault_in_row, passed_row}
use Rattle.witness_sections.proofs.Parting.{reduced}
use Rattle.witness_rows.specs.Rows.{AreRowsOf, Agrees, target_cells, RowsPassed, IsRowFault}

length_each : {A : Type 0} (n : ℕ) (f : ℕ → A) → length (each n (λ k. f k ∷ [])) ≡ n
length_each zero f = refl
length_each (suc n) f = ap suc (length_each n (λ k. f (suc k)))

each_at : {A : Type 0} (n : ℕ) (f : ℕ → A) (k : ℕ) (d : A) → k < n → get_or (each n (λ j. f j ∷ [])) k d ≡ f k
each_at zero f k d l = absurd (omega (arith, l))
each_at (suc n) f zero d l = refl
each_at (suc n) f (suc k) d l = each_at n (λ j. f (suc j)) k d (omega (arith, l))

nine : length second ≡ 9
nine = refl

module _ (p : ℕ) (t : Table) (us zs rows cs : List (List (ℕ × ℕ))) (k : ℕ) (G : Given) (W : Tables) (w : AreRowsOf p t us zs rows cs k G W) (r : ℕ) (lr : r < t.rows) where
  abbrev ds : List (List Factor)
  ds = all_cells G.x G.a

  abbrev C : List (List Factor)
  C = target_cells G

  abbrev product : ℕ → ℕ
  product s = product_of_image ds C (section_at G W domain_side) (section_at G W range_side) (image_of G (map_of W).images) k r s

  number_here : (h : ℕ) → h < length ds → nth (map_of W).images (number_of ds (cell_at ds h)) ≡ nth (map_of W).images h
  number_here h l = ap (nth (map_of W).images) (number_at (is_cell_of (together G.x G.a)) ds (cells_listing (together G.x G.a)) h l)

  image_is : (s g : ℕ) → g < length C → Same p (nth_chain rows g s) (image ds (image_of G (map_of W).images) ((section_at G W domain_side).cycle k s) (cell_at C g))
  image_is s g lg = same_trans (w.products g s lg) (same_trans
      (exact p (ap (λ n. total n (λ h. nth_chain zs s h * incidence us h g)) (w.images.count ∙ w.image_count)))
      (total_same p (length ds) (λ h. nth_chain zs s h * incidence us h g) (λ h. (section_at G W domain_side).cycle k s (cell_at ds h) * image_of G (map_of W).images (cell_at ds h) (cell_at C g))
      (λ h l. same-mul ((w.cycles.each s).at h l) (same_trans ((w.images.each h).at g lg) (exact p (ap (λ (ts : List (ℕ × ℕ)). chain_of (range_cells G) ts (cell_at C g)) (sym (number_here h l))))))))

  product_is : (s : ℕ) → Same p (boundary rows (nth_chain cs r) s) (product s)
  product_is s = same_trans (exact p (ap (λ n. total n (λ g. nth_chain cs r g * incidence rows g s)) w.count))
      (total_same p (length C) (λ g. nth_chain cs r g * incidence rows g s) (λ g. (section_at G W range_side).cocycle k r (cell_at C g) * image ds (image_of G (map_of W).images) ((section_at G W domain_side).cycle k s) (cell_at C g))
      (λ g l. same-mul ((w.cocycles.each r).at g l) (image_is s g l)))

  entry_is : (s : ℕ) → s < t.columns → entry_of (map_of W).matrices k r s ≡ entry t r s
  entry_is s ls =
      ap (λ (ms : List (List ℕ)). get_or (get_or ms r []) s 0) (sym w.table) ∙ ap (λ (es : List ℕ). get_or es s 0) (each_at t.rows (row_of t) r [] lr) ∙ each_at t.columns (λ c. entry t r c) s 0 ls

  abbrev Right : Type 0
  Right = (s : ℕ) → s < length (in_degree W.domain.cycles k) → Same p (entry_of (map_of W).matrices k r s) (product s)

  module _ (values c : List (ℕ × ℕ)) (lc : r < length cs) (read : c ≡ get_or cs r c) (sum : (s : ℕ) → coefficient values s ≡ boundary rows (coefficient c) s % p) where
    value_is : (s : ℕ) → coefficient values s ≡ boundary rows (nth_chain cs r) s % p
    value_is s = sum s ∙ ap (λ (us : List (ℕ × ℕ)). boundary rows (coefficient us) s % p) (read ∙ get_or_default cs r c [] lc)

    right_to : Agrees t r values → Right
    right_to h s ls =
        let inside : s < t.columns = let e = w.width in omega (arith, e, ls) in
        same_trans (exact p (entry_is s inside ∙ h s inside)) (same_trans (reduced p (coefficient values s) (boundary rows (nth_chain cs r) s) (value_is s)) (product_is s))

    right_from : Right → Agrees t r values
    right_from h s ls =
        let inside : s < length (in_degree W.domain.cycles k) = let e = w.width in omega (arith, e, ls) in
        let same = same_trans (exact p (sym (entry_is s ls))) (same_trans (h s inside) (same_sym (product_is s))) in
        sym (mod-eq_of_lt (w.below r s lr ls)) ∙ same.same ∙ sym (value_is s)

  row_holds : Right → AllHold (holds p G W) (row k r)
  row_holds h law _ = every law
    where
      every : (law : Law) → holds p G W law (row k r)
      every laws.Text = tt
      every laws.Header = tt
      every laws.Cell = tt
      every laws.Cycle = tt
      every laws.Dual = tt
      every laws.Cocycle = tt
      every laws.Contraction = tt
      every laws.ValueContraction = tt
      every laws.Carried = tt
      every laws.Augmentation = tt
      every laws.Commutes = tt
      every laws.Matrix = h

  row_fails : (Right → ⊥) → FailsBy (holds p G W) (row k r) laws.Matrix
  row_fails h = record { at = 8; inside = omega (arith, nine); named = refl; before = before; here = h }
    where
      before : (j : ℕ) → j < 8 → holds p G W (get_or second j laws.Text) (row k r)
      before zero l = tt
      before (suc zero) l = tt
      before (suc (suc zero)) l = tt
      before (suc (suc (suc zero))) l = tt
      before (suc (suc (suc (suc zero)))) l = tt
      before (suc (suc (suc (suc (suc zero))))) l = tt
      before (suc (suc (suc (suc (suc (suc zero)))))) l = tt
      before (suc (suc (suc (suc (suc (suc (suc zero))))))) l = tt
      before (suc (suc (suc (suc (suc (suc (suc (suc j)))))))) l = absurd (omega (arith, l))

module _ (p : ℕ) (t : Table) (rows cs : List (List (ℕ × ℕ))) where
  -- the rows so far are right, whatever witness has them
  abbrev pub RowsMeet : ℕ → Type 0
  RowsMeet n = (us zs : List (List (ℕ × ℕ))) (k : ℕ) (G : Given) (W : Tables) → AreRowsOf p t us zs rows cs k G W → Meet (holds p G W) (each n (λ r. row k r ∷ []))

  pub rows_none : RowsMeet 0
  rows_none us zs k G W w = tt

  height : (us zs : List (List (ℕ × ℕ))) (k : ℕ) (G : Given) (W : Tables) → AreRowsOf p t us zs rows cs k G W → length (get_or (map_of W).matrices k []) ≡ t.rows
  height us zs k G W w = ap length (sym w.table) ∙ length_each t.rows (row_of t)

  module _ (r : ℕ) (lr : r < t.rows) (values c : List (ℕ × ℕ)) (lc : r < length cs) (read : c ≡ get_or cs r c) (sum : (s : ℕ) → coefficient values s ≡ boundary rows (coefficient c) s % p) where
    pub rows_more : Agrees t r values → RowsMeet r → RowsMeet (r + 1)
    rows_more h so_far us zs k G W w = meet_more (holds p G W) r (λ j. row k j ∷ []) (so_far us zs k G W w) (row_holds p t us zs rows cs k G W w r lr (right_to p t us zs rows cs k G W w r lr values c lc read sum h), tt)

    pub rows_fault : (from : ℕ) → (Agrees t r values → ⊥) → RowsMeet r → IsRowFault p t rows cs from (At (from + r) laws.Matrix)
    rows_fault from h so_far us zs k G W w = fault_in_row (holds p G W) (row k) r (length (get_or (map_of W).matrices k [])) from laws.Matrix (let e = height us zs k G W w in omega (arith, e, lr)) (so_far us zs k G W w)
        (row_fails p t us zs rows cs k G W w r lr (λ q. h (right_from p t us zs rows cs k G W w r lr values c lc read sum q)))

  pub rows_passed : (r from : ℕ) → r ≡ t.rows → RowsMeet r → RowsPassed p t rows cs from (from + r)
  rows_passed r from e so_far us zs k G W w = passed_row (holds p G W) (row k) r (length (get_or (map_of W).matrices k [])) from (e ∙ sym (height us zs k G W w)) (so_far us zs k G W w)

-- ---- a row, entry by entry

pub agrees_more : (t : Table) (r : ℕ) (values : List (ℕ × ℕ)) (n e v : ℕ) → e ≡ entry t r n → v ≡ coefficient values n → e ≡ v → ((s : ℕ) → s < n → entry t r s ≡ coefficient values s) → (s : ℕ) → s < n + 1 → entry t r s ≡ coefficient values s
agrees_more t r values n e v ee ev same so_far s l = ⊎_elim
    (λ below. so_far s below)
    (λ above. let q : n ≡ s = omega (arith, above, l) in subst (λ (j : ℕ). entry t r j ≡ coefficient values j) q (sym ee ∙ same ∙ ev))
    (cases_lt s n)
