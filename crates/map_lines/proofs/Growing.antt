-- What is read of cells and of matrices, one more at a time.
use Rattle.std.proofs.Common.{◌≡◌, ℕ, zero, suc, ◌+◌, ◌*◌, ◌<◌, refl, sym, ap, ◌∙◌, arith, ⊎_elim, List, [], ◌∷◌, ◌++◌, length, get_or, map, cond, subst, Bool, true, false}
use Rattle.std.proofs.lemmas.Bool.{cases_Bool, eqb-true}
use Rattle.std.proofs.lemmas.List.{length-append}
use Rattle.std.proofs.Math.Nat.{zero-mul, suc-mul}
use Rattle.std.specs.Prelude.{◌==◌}
use Rattle.elem_cubes.specs.Cells.{Factor, dimension_of}
use Rattle.cube_sets.specs.Closures.{cells_of}
use Rattle.cell_complex.specs.Numbering.{number_of}
use Rattle.cube_maps.specs.CubeMaps.{Naming}
use Rattle.leray_conley.specs.Tables.{Table}
use Rattle.witness_scanning.specs.Terms.{AreBelow}
use Rattle.witness_types.specs.Parts.{beside, degrees_of}
use Rattle.witness_runs.specs.declared.miss.Stop.{Stop}
use Rattle.witness_runs.specs.declared.miss.Stop.TheVariants as stops
use Rattle.witness_runs.specs.Rows.{AreRows, joined, HasRows, StopsRows}
use Rattle.witness_reading.specs.Ends.{IfTold}
use Rattle.witness_reading.proofs.Flat.{each_of_list}
use Rattle.map_lines.specs.Cells.{numbers_in, kinds_above, HasCellAt, StopsAtCell, HasCells, StopsInCells}
use Rattle.map_lines.specs.Matrices.{size_in, row_lines, HasMatrix, HasMatrices, StopsInMatrices}

-- ---- tables in other words

pub numbers_told : (all value : List (List Factor)) (numbers : List ℕ) → numbers ≡ map (λ q. suc (number_of all q)) value → numbers ≡ numbers_in all value
numbers_told all value numbers e = e ∙ sym (each_of_list (λ q. suc (number_of all q)) value [])

pub above_told : (value : List (List Factor)) (kinds : List ℕ) → kinds ≡ map (λ q. suc (dimension_of q + 1)) value → kinds ≡ kinds_above value
above_told value kinds e = e ∙ sym (each_of_list (λ q. suc (dimension_of q + 1)) value [])

-- what holds of some holds of the same
pub all_six : (P : ℕ → List ℕ → List ℕ → List ℕ → List ℕ → ℕ → Type 0) (a b : ℕ) (t u n m w v k l : List ℕ) (c d : ℕ) → a ≡ b → t ≡ u → n ≡ m → w ≡ v → k ≡ l → c ≡ d → P a t n w k c → P b u m v l d
all_six P a b t u n m w v k l c d e f g h i j x =
    subst (λ (y : ℕ). P y u m v l d) e (subst (λ (y : List ℕ). P a y m v l d) f (subst (λ (y : List ℕ). P a t y v l d) g (subst (λ (y : List ℕ). P a t n y l d) h
    (subst (λ (y : List ℕ). P a t n w y d) i (subst (λ (y : ℕ). P a t n w k y) j x)))))

pub if_told : (S : Stop → Type 0) (stop : Stop) → S stop → IfTold S stop
if_told S (stops.At left law) s = s
if_told S stops.NoMemory s = tt

-- ---- cells

module _ (p : ℕ) (f : List Naming) (domain range : List (List Factor)) where
  pub cells_more : (i : ℕ) (bytes vs : List ℕ) (cs : List (List (List (ℕ × ℕ)))) (ms : List (List (ℕ × ℕ))) (middle : List ℕ) (j v : ℕ) (c : List (List (ℕ × ℕ))) (m : List (ℕ × ℕ)) (rest : List ℕ)
      → HasCells p f domain range i bytes vs cs ms middle → j ≡ i + length vs → HasCellAt p f domain range j middle v c m rest
      → HasCells p f domain range i bytes (vs ++ v ∷ []) (cs ++ c ∷ []) (ms ++ m ∷ []) rest
  cells_more i bytes [] [] [] middle j v c m rest h e k =
      let q : j ≡ i = omega arith in (
        rest,
        subst (λ (n : ℕ). HasCellAt p f domain range n bytes v c m rest) q (subst (λ (t : List ℕ). HasCellAt p f domain range j t v c m rest) (sym h) k),
        refl,
      )
  cells_more i bytes [] [] (y ∷ ms) middle j v c m rest h e k = absurd h
  cells_more i bytes [] (x ∷ cs) ms middle j v c m rest h e k = absurd h
  cells_more i bytes (w ∷ vs) [] ms middle j v c m rest h e k = absurd h
  cells_more i bytes (w ∷ vs) (x ∷ cs) [] middle j v c m rest h e k = absurd h
  cells_more i bytes (w ∷ vs) (x ∷ cs) (y ∷ ms) middle j v c m rest h e k =
      (h.0, h.1, cells_more (suc i) h.0 vs cs ms middle j v c m rest h.2 (let q : j ≡ suc i + length vs = omega arith in q) k)

  -- what is read so far
  pub record AreCells (count : ℕ) (bytes vs : List ℕ) (cs : List (List (List (ℕ × ℕ)))) (ms : List (List (ℕ × ℕ))) (rest : List ℕ) : Type 0 where
    pub many : length vs ≡ count
    pub cells : HasCells p f domain range 0 bytes vs cs ms rest

  pub no_cells : (bytes : List ℕ) → AreCells 0 bytes [] [] [] bytes
  no_cells bytes = record { many = refl; cells = refl }

  pub one_more : (count : ℕ) (bytes vs : List ℕ) (cs : List (List (List (ℕ × ℕ)))) (ms : List (List (ℕ × ℕ))) (middle : List ℕ) (v : ℕ) (c : List (List (ℕ × ℕ))) (m : List (ℕ × ℕ)) (rest : List ℕ)
      (ws : List ℕ) (ds : List (List (List (ℕ × ℕ)))) (ns : List (List (ℕ × ℕ))) → ws ≡ vs ++ v ∷ [] → ds ≡ cs ++ c ∷ [] → ns ≡ ms ++ m ∷ []
      → AreCells count bytes vs cs ms middle → HasCellAt p f domain range count middle v c m rest → AreCells (count + 1) bytes ws ds ns rest
  one_more count bytes vs cs ms middle v c m rest ws ds ns a b d h k = record {
    many = ap length a ∙ length-append vs (v ∷ []) ∙ ap (λ (n : ℕ). n + 1) h.many;
    cells = subst (λ (l : List ℕ). HasCells p f domain range 0 bytes l ds ns rest) (sym a)
        (subst (λ (l : List (List (List (ℕ × ℕ)))). HasCells p f domain range 0 bytes (vs ++ v ∷ []) l ns rest) (sym b)
        (subst (λ (l : List (List (ℕ × ℕ))). HasCells p f domain range 0 bytes (vs ++ v ∷ []) (cs ++ c ∷ []) l rest) (sym d)
        (cells_more 0 bytes vs cs ms middle count v c m rest h.cells (let q : length vs ≡ count = h.many in omega arith) k)));
  }

  pub cell_stops : (count : ℕ) (bytes vs : List ℕ) (cs : List (List (List (ℕ × ℕ)))) (ms : List (List (ℕ × ℕ))) (middle : List ℕ) (stop : Stop) → count < length (cells_of domain)
      → AreCells count bytes vs cs ms middle → IfTold (StopsAtCell p f domain range count middle) stop → IfTold (StopsInCells p f domain range bytes) stop
  cell_stops count bytes vs cs ms middle (stops.At left law) l h s = record {
    vertices = vs;
    fillings = cs;
    images = ms;
    behind = middle;
    within = let e = h.many in omega arith;
    before = h.cells;
    here = subst (λ (n : ℕ). StopsAtCell p f domain range n middle (stops.At left law)) (sym h.many) s;
  }
  cell_stops count bytes vs cs ms middle stops.NoMemory l h s = tt

-- ---- matrices

-- one more cycle counts where it is of the degree
count_push : (k : ℕ) (zs : List (ℕ × List (ℕ × ℕ))) (z : ℕ × List (ℕ × ℕ)) → size_in (zs ++ z ∷ []) k ≡ size_in zs k + cond (z.0 == k) 1 0
count_push k [] z = by (z.0 == k)
  where
    by : (b : Bool) → length (cond b (z.1 ∷ []) []) ≡ 0 + cond b 1 0
    by true = refl
    by false = refl
count_push k (y ∷ zs) z = by (y.0 == k) (count_push k zs z)
  where
    by : (b : Bool) → size_in (zs ++ z ∷ []) k ≡ size_in zs k + cond (z.0 == k) 1 0
        → length (cond b (y.1 ∷ beside k (degrees_of (zs ++ z ∷ [])) (map (λ (x : ℕ × List (ℕ × ℕ)). x.1) (zs ++ z ∷ []))) (beside k (degrees_of (zs ++ z ∷ [])) (map (λ (x : ℕ × List (ℕ × ℕ)). x.1) (zs ++ z ∷ []))))
        ≡ length (cond b (y.1 ∷ beside k (degrees_of zs) (map (λ (x : ℕ × List (ℕ × ℕ)). x.1) zs)) (beside k (degrees_of zs) (map (λ (x : ℕ × List (ℕ × ℕ)). x.1) zs))) + cond (z.0 == k) 1 0
    by true r = omega (arith, r)
    by false r = r

pub counts_one : (k : ℕ) (zs : List (ℕ × List (ℕ × ℕ))) (z : ℕ × List (ℕ × ℕ)) (n : ℕ) → (z.0 == k) ≡ true → n ≡ size_in zs k → n + 1 ≡ size_in (zs ++ z ∷ []) k
counts_one k zs z n t e = let r = count_push k zs z in let c : ◌≡◌ {A = ℕ} (cond (z.0 == k) 1 0) 1 = ap (λ b. cond b 1 0) t in omega (arith, r, c)

pub counts_none : (k : ℕ) (zs : List (ℕ × List (ℕ × ℕ))) (z : ℕ × List (ℕ × ℕ)) (n : ℕ) → (z.0 == k) ≡ false → n ≡ size_in zs k → n ≡ size_in (zs ++ z ∷ []) k
counts_none k zs z n t e = let r = count_push k zs z in let c : ◌≡◌ {A = ℕ} (cond (z.0 == k) 1 0) 0 = ap (λ b. cond b 1 0) t in omega (arith, r, c)

joined_many : (p w : ℕ) (rs : List (List ℕ)) → AreRows p w rs → length (joined rs) ≡ length rs * w
joined_many p w [] a = let z : 0 * w ≡ 0 = zero-mul w in omega arith
joined_many p w (r ∷ rs) a =
    let z : suc (length rs) * w ≡ length rs * w + w = suc-mul (length rs) w in
    let e = length-append r (joined rs) in
    let m = joined_many p w rs a.2 in
    let l = a.0 in omega arith

below_append : (p : ℕ) (xs ys : List ℕ) → AreBelow p xs → ((k : ℕ) → k < length ys → get_or ys k 0 < p) → (k : ℕ) → k < length (xs ++ ys) → get_or (xs ++ ys) k 0 < p
below_append p [] ys a f k l = f k l
below_append p (x ∷ xs) ys a f zero l = a.0
below_append p (x ∷ xs) ys a f (suc k) l = below_append p xs ys a.1 f k (omega arith)

joined_below : (p w : ℕ) (rs : List (List ℕ)) → AreRows p w rs → (k : ℕ) → k < length (joined rs) → get_or (joined rs) k 0 < p
joined_below p w [] a k l = absurd (omega arith)
joined_below p w (r ∷ rs) a k l = below_append p r (joined rs) a.1 (joined_below p w rs a.2) k l

-- the entries of a matrix, as many as it has, each below the modulus
pub entries_many : (p k h w : ℕ) (bytes es rest : List ℕ) → HasRows p k w (row_lines h w) bytes es rest → length es ≡ h * w
entries_many p k h w bytes es rest a =
    ap length a.entries_are ∙ joined_many p w a.rows a.are ∙ ap (λ (n : ℕ). n * w) a.many ∙ ⊎_elim
    (λ t. let z : w ≡ 0 = eqb-true w 0 t in
    subst (λ (v : ℕ). row_lines h v * v ≡ h * v) (sym z) (omega arith))
    (λ t. ap (λ b. cond b 0 h * w) t)
    (cases_Bool (w == 0))

pub entries_below : (p k h w : ℕ) (bytes es rest : List ℕ) → HasRows p k w (row_lines h w) bytes es rest → (i : ℕ) → i < length es → get_or es i 0 < p
entries_below p k h w bytes es rest a = subst (λ (l : List ℕ). (i : ℕ) → i < length l → get_or l i 0 < p) (sym a.entries_are) (joined_below p w a.rows a.are)

module _ (p top : ℕ) (height width : ℕ → ℕ) where
  matrices_more : (k : ℕ) (bytes : List ℕ) (ts : List Table) (middle : List ℕ) (j : ℕ) (t : Table) (rest : List ℕ) → HasMatrices p height width k bytes ts middle → j ≡ k + length ts
      → HasMatrix p j (height j) (width j) middle t rest → HasMatrices p height width k bytes (ts ++ t ∷ []) rest
  matrices_more k bytes [] middle j t rest h e m =
      let q : j ≡ k = omega arith in (
        rest,
        subst (λ (n : ℕ). HasMatrix p n (height n) (width n) bytes t rest) q (subst (λ (l : List ℕ). HasMatrix p j (height j) (width j) l t rest) (sym h) m),
        refl,
      )
  matrices_more k bytes (u ∷ ts) middle j t rest h e m = (h.0, h.1, matrices_more (suc k) h.0 ts middle j t rest h.2 (let q : j ≡ suc k + length ts = omega arith in q) m)

  pub record AreMatricesRead (count : ℕ) (bytes : List ℕ) (ts : List Table) (rest : List ℕ) : Type 0 where
    pub many : length ts ≡ count
    pub matrices : HasMatrices p height width 0 bytes ts rest

  pub no_matrices : (bytes : List ℕ) → AreMatricesRead 0 bytes [] bytes
  no_matrices bytes = record { many = refl; matrices = refl }

  pub one_matrix : (count : ℕ) (bytes : List ℕ) (ts : List Table) (middle : List ℕ) (t : Table) (rest : List ℕ) (us : List Table) → us ≡ ts ++ t ∷ [] → AreMatricesRead count bytes ts middle
      → HasMatrix p count (height count) (width count) middle t rest → AreMatricesRead (count + 1) bytes us rest
  one_matrix count bytes ts middle t rest us e h m = record {
    many = ap length e ∙ length-append ts (t ∷ []) ∙ ap (λ (n : ℕ). n + 1) h.many;
    matrices = subst (λ (l : List Table). HasMatrices p height width 0 bytes l rest) (sym e)
        (matrices_more 0 bytes ts middle count t rest h.matrices (let q : length ts ≡ count = h.many in omega arith) m);
  }

  pub matrix_stops : (count : ℕ) (bytes : List ℕ) (ts : List Table) (middle : List ℕ) (stop : Stop) → count < suc top → AreMatricesRead count bytes ts middle
      → StopsRows p count (width count) (row_lines (height count) (width count)) middle stop → IfTold (StopsInMatrices p top height width bytes) stop
  matrix_stops count bytes ts middle (stops.At left law) l h s = record {
    before = ts;
    behind = middle;
    within = let e = h.many in omega arith;
    matrices = h.matrices;
    here = subst (λ (n : ℕ). StopsRows p n (width n) (row_lines (height n) (width n)) middle (stops.At left law)) (sym h.many) s;
  }
  matrix_stops count bytes ts middle stops.NoMemory l h s = tt
