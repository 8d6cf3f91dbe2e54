-- Products with dual cocycles are the coefficients of a cycle in a basis, and so the entries of the matrix.
use Rattle.std.proofs.Common.{◌≡◌, ℕ, ◌+◌, ◌*◌, ◌<◌, ◌≤◌, sym, ap, ◌∙◌, arith, List, [], length, get_or, true, cond, eqb, ltb}
use Rattle.std.proofs.lemmas.Bool.{lt-ltb, le-ltb, ltb-true}
use Rattle.std.specs.Prelude.{◌^◌}
use Rattle.field_mod.specs.Sums.{total}
use Rattle.field_mod.specs.Modular.{Same}
use Rattle.field_mod.proofs.Sums.{total-same, total-single, total_same, total_none}
use Rattle.field_mod.proofs.Modular.{same_refl, same_sym, same_trans, same-add, same-scale, same-mul}
use Rattle.elem_cubes.specs.Cells.{Factor}
use Rattle.elem_cubes.specs.Laws.{cell_at}
use Rattle.elem_cubes.proofs.Modular.{exact}
use Rattle.chains.specs.Terms.{coefficient, nth_chain, product, IsNormal, IsNormalWithin}
use Rattle.chains.proofs.TermLists.{coefficient-lt}
use Rattle.chains.proofs.Boundary.{product-total}
use Rattle.chains.proofs.Systems.{chain-add, boundary-add}
use Rattle.algebraic_reduction.proofs.Residues.{same_zero}
use Rattle.algebraic_reduction.proofs.NumbersKept.{product-turned}
use Rattle.homology_basis.proofs.Dual.{within}
use Rattle.algebraic_reduction.proofs.Singles.{incidence_off}
use Rattle.chains.specs.Homology.{System, IsChain, IsCycle, IsSpanned, combination}
use Rattle.chains.specs.ChainComplex.{ChainComplex, IsComplex, system, incidence, boundary}
use Rattle.cube_sets.specs.Closures.{cells_of}
use Rattle.cell_complex.specs.RelativeComplex.{is_relative, relative_complex, restriction_to}
use Rattle.cell_complex.specs.Numbering.{IsRelativeComplex, by_cell, by_number, number_of}
use Rattle.cell_complex.proofs.Squares.{restriction-on, relative_complexes_are_complexes}
use Rattle.cell_complex.proofs.Numbering.{listed}
use Rattle.cell_complex.proofs.Matching.{IsMatch, boundary_matches, chain_matches, combination_back}
use Rattle.cell_complex.proofs.ByCell.{matching, by_cell_matches, bases_are_by_number_or_cell}
use Rattle.homology_basis.specs.Bases.{BasisOfLog, CyclesOfLog, in_degree, IsBasisByCycles, IsBasisWithContraction}
use Rattle.cube_maps.specs.CubeMaps.{Naming}
use Rattle.acyclic_values.specs.CarriedMaps.{image, IsCarriedMap, IsAcyclicMap, IsTogether, GoesInto, IsSameClass}
use Rattle.acyclic_values.proofs.Sums.{total_total, total_behind}
use Rattle.acyclic_values.proofs.Carried.{carried_maps_agree, images_are_relative_cycles}
use Rattle.induced_map.specs.Pairs.{nth_by_cell}
use Rattle.induced_map.specs.Laws.{ProductsAreTheMatrix}

-- ---- the products of a cocycle c as functions

module _ (p k : ℕ) (L : ChainComplex) (ws : List (List (ℕ × ℕ))) where
  abbrev n : ℕ
  n = length L.boundaries

  -- a cochain that is 0 on boundaries and takes the values v on the chains ws
  pub record IsDualTo (c : ℕ → ℕ) (v : ℕ → ℕ) : Type 0 where
    pub dual : (j : ℕ) → j < length ws → Same p (total n (λ g. c g * nth_chain ws j g)) (v j)
    pub closed : (s : ℕ) → s < n → Same p (total n (λ g. c g * incidence L.boundaries s g)) 0

  -- its product with a boundary is 0
  pub product_boundary : (c v u : ℕ → ℕ) → IsDualTo c v → Same p (total n (λ g. c g * boundary L.boundaries u g)) 0
  product_boundary c v u d =
      let a = total-same n (λ g. c g * boundary L.boundaries u g) (λ g. boundary L.boundaries u g * c g) (λ g _. omega arith) in
      let b = total_total n n u (incidence L.boundaries) c in
      same_trans (exact p (a ∙ b)) (total_none p n (λ h. u h * total n (λ g. incidence L.boundaries h g * c g)) (λ h l.
      same_trans (same-scale (u h) (same_trans (exact p (total-same n (λ g. incidence L.boundaries h g * c g) (λ g. c g * incidence L.boundaries h g) (λ g _. omega arith))) (d.closed h l))) (exact p (omega arith))))

  -- and with a combination of the ws, that of the values
  pub product_combination : (c v x : ℕ → ℕ) → IsDualTo c v → Same p (total n (λ g. c g * combination (length ws) x (nth_chain ws) g)) (total (length ws) (λ i. x i * v i))
  product_combination c v x d =
      let m = length ws in
      let a = total-same n (λ g. c g * combination m x (nth_chain ws) g) (λ g. combination m x (nth_chain ws) g * c g) (λ g _. omega arith) in
      let b = total_total m n x (nth_chain ws) c in
      same_trans (exact p (a ∙ b)) (total_same p m (λ i. x i * total n (λ g. nth_chain ws i g * c g)) (λ i. x i * v i) (λ i l. same-scale (x i)
      (same_trans (exact p (total-same n (λ g. nth_chain ws i g * c g) (λ g. c g * nth_chain ws i g) (λ g _. omega arith))) (d.dual i l))))

  -- so the product with a cycle that is spanned with the coefficients x is the sum of the x i * v i
  pub product_spanned : (c v y : ℕ → ℕ) → IsDualTo c v → (s : IsSpanned p (system L) k (length ws) (nth_chain ws) y) → Same p (total n (λ g. c g * y g)) (total (length ws) (λ i. s.x i * v i))
  product_spanned c v y d s =
      let e = total_same p n (λ g. c g * y g) (λ g. c g * (combination (length ws) s.x (nth_chain ws) g + boundary L.boundaries s.filling g)) (λ g l. same-scale (c g) (s.differs g (lt-ltb g n l))) in
      let f = total_behind n c (combination (length ws) s.x (nth_chain ws)) (boundary L.boundaries s.filling) in
      same_trans e (same_trans (exact p f) (same_trans (same-add (product_combination c v s.x d) (product_boundary c v s.filling d)) (exact p (omega arith))))

pub pick_one : (m i : ℕ) (x : ℕ → ℕ) → i < m → total m (λ j. x j * cond (eqb i j) 1 0) ≡ x i
pick_one m i x l = total-same m (λ j. x j * cond (eqb i j) 1 0) (λ j. cond (eqb i j) 1 0 * x j) (λ j _. omega arith) ∙ total-single m i 1 x l ∙ omega arith

-- a normal chain on the complex is normal within its generators
pub chain_within : (p k : ℕ) (L : ChainComplex) (ts : List (ℕ × ℕ)) → 1 ≤ p → IsNormal p ts → IsChain p (system L) k (coefficient ts) → IsNormalWithin p 0 (length L.boundaries) ts
chain_within p k L ts one normal chain = within p 0 (2 ^ 32) (length L.boundaries) ts normal (omega arith) (λ g l. same_zero p (coefficient ts g) (coefficient-lt p 0 (2 ^ 32) ts g one normal) (chain.on g (le-ltb g (length L.boundaries) l)))

-- the boundary of a generator has no coefficient past the generators
row_within : (p : ℕ) (L : ChainComplex) (s : ℕ) → 1 ≤ p → IsComplex p L → s < length L.boundaries → IsNormalWithin p 0 (length L.boundaries) (get_or L.boundaries s [])
row_within p L s one cx l = within p 0 (2 ^ 32) (length L.boundaries) (get_or L.boundaries s []) (cx.chains s l) (omega arith) (λ g past. incidence_off p L cx s g l past)

-- the i-th cocycle takes the value 1 on the i-th cycle, and 0 on the others and on boundaries
pub dual_to : (p k : ℕ) (B : BasisOfLog) → 1 ≤ p → IsBasisWithContraction p B → (i : ℕ) → i < length (in_degree B.cycles k) → IsDualTo p k B.log.complex (in_degree B.cycles k) (nth_chain (in_degree B.cocycles k) i) (λ j. cond (eqb i j) 1 0)
dual_to p k B one b i l =
    let L : ChainComplex = B.log.complex in
    let ws : List (List (ℕ × ℕ)) = in_degree B.cycles k in
    let cs : List (List (ℕ × ℕ)) = in_degree B.cocycles k in
    let d = b.cocycles k in
    let m : i < length cs = omega (arith, d.count) in
    let n = length L.boundaries in
    record {
      dual = λ j q.
          let w = get_or ws j [] in
          let e : product (get_or cs i []) w ≡ total n (λ h. coefficient w h * nth_chain cs i h) = product-turned (get_or cs i []) w ∙ product-total p 0 n w (get_or cs i []) (chain_within p k L w one (b.normal k j q) ((b.cycles k).cycles j q).chain) in
          let f : total n (λ h. coefficient w h * nth_chain cs i h) ≡ total n (λ h. nth_chain cs i h * nth_chain ws j h) = total-same n (λ h. coefficient w h * nth_chain cs i h) (λ h. nth_chain cs i h * nth_chain ws j h) (λ h _. omega arith) in
          same_trans (exact p (sym (e ∙ f))) (d.dual i j m q);
      closed = λ s q.
          let w = get_or L.boundaries s [] in
          let e : product (get_or cs i []) w ≡ total n (λ h. coefficient w h * nth_chain cs i h) = product-turned (get_or cs i []) w ∙ product-total p 0 n w (get_or cs i []) (row_within p L s one b.complex q) in
          let f : total n (λ h. coefficient w h * nth_chain cs i h) ≡ total n (λ h. nth_chain cs i h * incidence L.boundaries s h) = total-same n (λ h. coefficient w h * nth_chain cs i h) (λ h. nth_chain cs i h * incidence L.boundaries s h) (λ h _. omega arith) in
          same_trans (exact p (sym (e ∙ f))) (d.closed i s m q);
    }

-- ---- a class that is known by its products

module _ (p k : ℕ) (y b cells : List (List Factor)) (B : BasisOfLog) (one : 1 ≤ p) (R : IsRelativeComplex p y b cells B.log.complex) (bb : IsBasisWithContraction p B) where
  abbrev L : ChainComplex
  L = B.log.complex

  abbrev ws : List (List (ℕ × ℕ))
  ws = in_degree B.cycles k

  abbrev cs : List (List (ℕ × ℕ))
  cs = in_degree B.cocycles k

  -- a chain of cells whose restriction is a cycle of the pair differs by a null chain from the combination by its products with the
  -- cocycles
  pub class_by_products : (c : List Factor → ℕ) (v : ℕ → ℕ) → IsCycle p (relative_complex p y b) k (restriction_to (is_relative y b) c)
      → ((i : ℕ) → i < length ws → Same p (v i) (total (length cells) (λ g. nth_chain cs i g * c (cell_at cells g))))
      → IsSameClass p (relative_complex p y b) k c (combination (length ws) v (nth_by_cell cells ws))
  class_by_products c v cy products =
      let r : List Factor → ℕ = restriction_to (is_relative y b) c in
      let bn = bases_are_by_number_or_cell p y b cells L one R in
      let numbered = bn.cycle_by_number k r cy in
      let s = (bb.cycles k).spanning (by_number cells r) numbered in
      let M = matching p y b cells L R in
      let fm : IsMatch p (system L) (relative_complex p y b) M s.filling (by_cell cells s.filling) = by_cell_matches p y b cells L R s.filling in
      record {
        filling = by_cell cells s.filling;
        chain = chain_matches p (system L) (relative_complex p y b) M (k + 1) s.filling (by_cell cells s.filling) fm s.chain;
        differs = λ q e.
            let g : ℕ = number_of cells q in
            let on = M.back_on q e in
            let l : g < length cells = within_cells g on in
            let at : cell_at cells g ≡ q = M.there_back q e in
            let one_side : Same p (c q) (by_number cells r g) = exact p (sym (ap (λ t. cond t (r (cell_at cells g)) 0) (lt-ltb g (length cells) l) ∙ ap r at ∙ restriction-on (is_relative y b) c q e)) in
            let comb : Same p (combination (length ws) s.x (nth_chain ws) g) (combination (length ws) s.x (nth_by_cell cells ws) q) = combination_back p (system L) (relative_complex p y b) M (length ws) s.x (nth_chain ws) (nth_by_cell cells ws) (λ i _. by_cell_matches p y b cells L R (nth_chain ws i)) q e in
            let fill = boundary_matches p (system L) (relative_complex p y b) M s.filling (by_cell cells s.filling) fm q e in
            let values : Same p (combination (length ws) s.x (nth_by_cell cells ws) q) (combination (length ws) v (nth_by_cell cells ws) q) = total_same p (length ws) (λ i. s.x i * nth_by_cell cells ws i q) (λ i. v i * nth_by_cell cells ws i q) (λ i m. same-mul (coefficient_is s r products i m) (same_refl p (nth_by_cell cells ws i q))) in
            same_trans one_side (same_trans (s.differs g on) (same-add (same_trans comb values) fill));
      }
    where
      within_cells : (g : ℕ) → ltb g (length L.boundaries) ≡ true → g < length cells
      within_cells g e = omega (arith, ltb-true g (length L.boundaries) e, R.complex.count)

      -- the coefficients are the products
      coefficient_is : (s : IsSpanned p (system L) k (length ws) (nth_chain ws) (by_number cells (restriction_to (is_relative y b) c))) (r : List Factor → ℕ)
          → ((i : ℕ) → i < length ws → Same p (v i) (total (length cells) (λ g. nth_chain cs i g * c (cell_at cells g)))) → (i : ℕ) → i < length ws → Same p (s.x i) (v i)
      coefficient_is s r products i m =
          let d = dual_to p k B one bb i m in
          let t = product_spanned p k L ws (nth_chain cs i) (λ j. cond (eqb i j) 1 0) (by_number cells (restriction_to (is_relative y b) c)) d s in
          let u = total_same p (length cells) (λ g. nth_chain cs i g * by_number cells (restriction_to (is_relative y b) c) g) (λ g. nth_chain cs i g * c (cell_at cells g)) (λ g l. same-scale (nth_chain cs i g) (exact p (ap (λ t. cond t (restriction_to (is_relative y b) c (cell_at cells g)) 0) (lt-ltb g (length cells) l) ∙ restriction-on (is_relative y b) c (cell_at cells g) (listed (is_relative y b) cells R.listing g l)))) in
          same_trans (exact p (sym (pick_one (length ws) i s.x m))) (same_trans (same_sym t) (same_trans (exact p (ap (λ n. total n (λ g. nth_chain cs i g * by_number cells (restriction_to (is_relative y b) c) g)) R.complex.count)) (same_trans u (same_sym (products i m)))))

-- ---- classes

same_class_trans : (p k : ℕ) (y b : List (List Factor)) (u v w : List Factor → ℕ) → IsSameClass p (relative_complex p y b) k u v → IsSameClass p (relative_complex p y b) k v w → IsSameClass p (relative_complex p y b) k u w
same_class_trans p k y b u v w s t =
    let K : System (List Factor) = relative_complex p y b in
    record {
      filling = λ g. s.filling g + t.filling g;
      chain = chain-add p K (k + 1) s.filling t.filling s.chain t.chain;
      differs = λ g e.
          let a = boundary-add p K (relative_complexes_are_complexes.operator p y b) s.filling t.filling g e in
          let x : ℕ = K.boundary s.filling g in
          let z : ℕ = K.boundary t.filling g in
          same_trans (s.differs g e) (same_trans (same-add (t.differs g e) (same_refl p x)) (same_trans (exact p (let k : w g + z + x ≡ w g + (x + z) = omega arith in k)) (same-add (same_refl p (w g)) (same_sym a))));
    }

-- one column, by the products of the image under one carried map f: under each carried map e the
-- image of the chain is in the class of the column
pub column_of_all : (p : ℕ) (map : List Naming) (domain range x a y b domain_cells range_cells : List (List Factor)) (A : CyclesOfLog) (B : BasisOfLog) (k j : ℕ) (entry : ℕ → ℕ) (f e : List Factor → List Factor → ℕ)
    → 1 ≤ p → IsAcyclicMap p map domain range → IsTogether domain x a → IsTogether range y b → GoesInto map a b
    → IsRelativeComplex p x a domain_cells A.log.complex → IsRelativeComplex p y b range_cells B.log.complex
    → IsBasisByCycles p A → IsBasisWithContraction p B → IsCarriedMap p map domain range f → IsCarriedMap p map domain range e → j < length (in_degree A.cycles k)
    → ((i : ℕ) → i < length (in_degree B.cycles k) → Same p (entry i) (total (length range_cells)
    (λ g. nth_chain (in_degree B.cocycles k) i g * image (cells_of domain) f (nth_by_cell domain_cells (in_degree A.cycles k) j) (cell_at range_cells g))))
    → IsSameClass p (relative_complex p y b) k (image (cells_of domain) e (nth_by_cell domain_cells (in_degree A.cycles k) j))
    (combination (length (in_degree B.cycles k)) entry (nth_by_cell range_cells (in_degree B.cycles k)))
column_of_all p map domain range x a y b domain_cells range_cells A B k j entry f e one am td tr into ra rb ba bb mf me l products =
    let z : List Factor → ℕ = nth_by_cell domain_cells (in_degree A.cycles k) j in
    let bn = bases_are_by_number_or_cell p x a domain_cells A.log.complex one ra in
    let cy : IsCycle p (relative_complex p x a) k z = bn.cycle_by_cell k (nth_chain (in_degree A.cycles k) j) ((ba.cycles k).cycles j l) in
    let c : List Factor → ℕ = image (cells_of domain) f z in
    let d : List Factor → ℕ = image (cells_of domain) e z in
    let w : List Factor → ℕ = combination (length (in_degree B.cycles k)) entry (nth_by_cell range_cells (in_degree B.cycles k)) in
    same_class_trans p k y b d c w
    (carried_maps_agree p map domain range x a y b e f k z one am td tr into me mf cy)
    (class_by_products p k y b range_cells B one rb bb c entry (images_are_relative_cycles p map domain range x a y b f k z one am td tr into mf cy) products)

pub products_are_the_matrix : ProductsAreTheMatrix
products_are_the_matrix p map domain range x a y b domain_cells range_cells A B k entry f one am td tr into ra rb ba bb mf products e me j l =
    column_of_all p map domain range x a y b domain_cells range_cells A B k j (λ i. entry i j) f e one am td tr into ra rb ba bb mf me l (λ i m. products i j m l)
