-- Cells that are moved by whole numbers: their boundaries and closures move with them, and so acyclic lists stay acyclic
use Rattle.std.proofs.Common.{◌≡◌, ℕ, ◌+◌, ◌-◌, ◌*◌, refl, sym, ap, ◌∙◌, arith, List, [], ◌∷◌, ◌++◌, cond, map, subst}
use Rattle.std.specs.Prelude.{ℤ, pos, negsuc, ◌+ℤ◌, neg_ℤ}
use Rattle.std.specs.List.{Contains, flat_map}
use Rattle.std.specs.Cmp as cmp
use Rattle.std.proofs.lemmas.Int.{ints}
use Rattle.field_mod.proofs.Modular.{same_trans}
use Rattle.elem_cubes.specs.Cells.{Factor, point, interval, dimension_of}
use Rattle.elem_cubes.specs.Faces.{parts_of, closure_of}
use Rattle.elem_cubes.specs.Boundary.{boundary_at}
use Rattle.elem_cubes.specs.Order.{cell_cmp}
use Rattle.elem_cubes.proofs.Members.{In, In-from, from-In, In-map, map-In}
use Rattle.elem_cubes.proofs.Modular.{exact}
use Rattle.chains.specs.Homology.{IsChain, IsNull}
use Rattle.cube_sets.specs.Sorted.{has}
use Rattle.cell_complex.specs.RelativeComplex.{restriction_to}
use Rattle.cell_complex.specs.AcyclicLists.{complex_of_cells, augmentation_over, IsAcyclicList}
use Rattle.cell_complex.specs.Moved.{shift, moved}
use Rattle.cell_complex.proofs.Deciding.{has_is, has_from, from_has}

abbrev neg : List ℤ → List ℤ
neg = map neg_ℤ

back_and_forth : (v l : ℤ) → (l +ℤ v) +ℤ neg_ℤ v ≡ l
back_and_forth v l = omega (arith, ints)

pub back : (vs : List ℤ) (s : List Factor) → moved (neg vs) (moved vs s) ≡ s
back [] s = refl
back (v ∷ vs) [] = refl
back (v ∷ vs) (point l ∷ s) = λ j. point (back_and_forth v l j) ∷ back vs s j
back (v ∷ vs) (interval l ∷ s) = λ j. interval (back_and_forth v l j) ∷ back vs s j

pub forth : (vs : List ℤ) (s : List Factor) → moved vs (moved (neg vs) s) ≡ s
forth [] s = refl
forth (v ∷ vs) [] = refl
forth (v ∷ vs) (point l ∷ s) = let e : (l +ℤ neg_ℤ v) +ℤ v ≡ l = omega (arith, ints) in λ j. point (e j) ∷ forth vs s j
forth (v ∷ vs) (interval l ∷ s) = let e : (l +ℤ neg_ℤ v) +ℤ v ≡ l = omega (arith, ints) in λ j. interval (e j) ∷ forth vs s j

moved-dimension : (vs : List ℤ) (s : List Factor) → dimension_of (moved vs s) ≡ dimension_of s
moved-dimension [] s = refl
moved-dimension (v ∷ vs) [] = refl
moved-dimension (v ∷ vs) (point l ∷ s) = moved-dimension vs s
moved-dimension (v ∷ vs) (interval l ∷ s) = let e = moved-dimension vs s in omega arith

boundary-moved : (p : ℕ) (vs : List ℤ) (s : List Factor) (c : List Factor → ℕ) → boundary_at p (moved vs s) c ≡ boundary_at p s (λ t. c (moved vs t))
boundary-moved p [] s c = refl
boundary-moved p (v ∷ vs) [] c = refl
boundary-moved p (v ∷ vs) (point m ∷ rs) c =
    let a : (m +ℤ v) +ℤ negsuc 0 ≡ (m +ℤ negsuc 0) +ℤ v = omega (arith, ints) in
    let h = boundary-moved p vs rs (λ ts. c (point (m +ℤ v) ∷ ts)) in
    λ j. c (interval (a j) ∷ moved vs rs) + (p - 1) * c (interval (m +ℤ v) ∷ moved vs rs) + h j
boundary-moved p (v ∷ vs) (interval m ∷ rs) c = ap (λ x. (p - 1) * x) (boundary-moved p vs rs (λ ts. c (interval (m +ℤ v) ∷ ts)))

has-moved : (vs : List ℤ) (cells : List (List Factor)) (s : List Factor) → has cell_cmp (map (moved vs) cells) (moved vs s) ≡ has cell_cmp cells s
has-moved vs cells s = cmp.both_ways (has cell_cmp (map (moved vs) cells) (moved vs s)) (has cell_cmp cells s)
    (λ e.
    let w = In-map (moved vs) cells (moved vs s) (In-from (map (moved vs) cells) (moved vs s) (from_has (map (moved vs) cells) (moved vs s) (sym (has_is (map (moved vs) cells) (moved vs s)) ∙ e))) in
    let same : w.0 ≡ s = sym (back vs w.0) ∙ ap (moved (neg vs)) w.2 ∙ back vs s in
    has_is cells s ∙ has_from cells s (from-In cells s (subst (λ (t : List Factor). In cells t) same w.1)))
    (λ e. has_is (map (moved vs) cells) (moved vs s) ∙ has_from (map (moved vs) cells) (moved vs s)
    (from-In (map (moved vs) cells) (moved vs s) (map-In (moved vs) cells s (In-from cells s (from_has cells s (sym (has_is cells s) ∙ e))))))

over-moved : (vs : List ℤ) (cells : List (List Factor)) (c : List Factor → ℕ) → augmentation_over (map (moved vs) cells) c ≡ augmentation_over cells (λ s. c (moved vs s))
over-moved vs [] c = refl
over-moved vs (s ∷ cells) c = ap (λ n. c (moved vs s) + n) (over-moved vs cells c)

module _ (p : ℕ) (vs : List ℤ) (cells : List (List Factor)) where
  abbrev f : List Factor → List Factor
  f = moved vs

  abbrev g : List Factor → List Factor
  g = moved (neg vs)

  abbrev image : List (List Factor)
  image = map (moved vs) cells

  has-back : (s : List Factor) → has cell_cmp image s ≡ has cell_cmp cells (g s)
  has-back s = sym (ap (has cell_cmp image) (forth vs s)) ∙ has-moved vs cells (g s)

  boundary_in : (c : List Factor → ℕ) (s : List Factor) → boundary_at p (f s) (restriction_to (has cell_cmp image) c) ≡ boundary_at p s (restriction_to (has cell_cmp cells) (λ t. c (f t)))
  boundary_in c s = boundary-moved p vs s (restriction_to (has cell_cmp image) c) ∙ ap (boundary_at p s) (λ j t. cond (has-moved vs cells t j) (c (f t)) 0)

  boundary_out : (n : List Factor → ℕ) (s : List Factor) → boundary_at p s (restriction_to (has cell_cmp image) (λ t. n (g t))) ≡ boundary_at p (g s) (restriction_to (has cell_cmp cells) n)
  boundary_out n s = ap (λ (q : List Factor). boundary_at p q (restriction_to (has cell_cmp image) (λ t. n (g t)))) (sym (forth vs s))
      ∙ boundary_in (λ t. n (g t)) (g s) ∙ ap (λ (c : List Factor → ℕ). boundary_at p (g s) (restriction_to (has cell_cmp cells) c)) (λ j t. n (back vs t j))

  chain_in : (k : ℕ) (c : List Factor → ℕ) → IsChain p (complex_of_cells p image) k c → IsChain p (complex_of_cells p cells) k (λ s. c (f s))
  chain_in k c h = record {
    on = λ s e. h.on (f s) (has-moved vs cells s ∙ e);
    of_degree = λ s d. h.of_degree (f s) (λ e. d (sym (moved-dimension vs s) ∙ e));
  }

  chain_out : (k : ℕ) (n : List Factor → ℕ) → IsChain p (complex_of_cells p cells) k n → IsChain p (complex_of_cells p image) k (λ s. n (g s))
  chain_out k n h = record {
    on = λ s e. h.on (g s) (sym (has-back s) ∙ e);
    of_degree = λ s d. h.of_degree (g s) (λ e. d (sym (moved-dimension (neg vs) s) ∙ e));
  }

  null_out : (k : ℕ) (c : List Factor → ℕ) → IsNull p (complex_of_cells p cells) k (λ s. c (f s)) → IsNull p (complex_of_cells p image) k c
  null_out k c w = record {
    filling = λ s. w.filling (g s);
    chain = chain_out (k + 1) w.filling w.chain;
    fills = λ s e. same_trans (exact p (ap c (sym (forth vs s)))) (same_trans (w.fills (g s) (sym (has-back s) ∙ e)) (exact p (sym (boundary_out w.filling s))));
  }

  none : (xs : List (List Factor)) → map (moved vs) xs ≡ [] → xs ≡ []
  none [] e = refl
  none (x ∷ xs) e = absurd (let l = ap Rattle.std.specs.Prelude.length e in omega arith)

  pub acyclic_moved : IsAcyclicList p cells → IsAcyclicList p image
  acyclic_moved a = record {
    some = λ e. a.some (none cells e);
    points = λ c chain balanced. null_out 0 c (a.points (λ s. c (f s)) (chain_in 0 c chain) (same_trans (exact p (sym (over-moved vs cells c))) balanced));
    cycles = λ k z high cycle. null_out k z (a.cycles k (λ s. z (f s)) high (record {
      chain = chain_in k z cycle.chain;
      closed = λ s e. same_trans (exact p (sym (boundary_in z s))) (cycle.closed (f s) (has-moved vs cells s ∙ e));
    }));
  }

-- ---- closures

parts-moved : (v : ℤ) (q : Factor) → parts_of (shift v q) ≡ map (shift v) (parts_of q)
parts-moved v (point l) = refl
parts-moved v (interval l) = let e : (l +ℤ v) +ℤ pos 1 ≡ (l +ℤ pos 1) +ℤ v = omega (arith, ints) in λ j. point (l +ℤ v) ∷ interval (l +ℤ v) ∷ point (e j) ∷ []

pub closure-moved : (vs : List ℤ) (q : List Factor) → closure_of (moved vs q) ≡ map (moved vs) (closure_of q)
closure-moved [] q = sym (same (closure_of q))
  where
    same : (xs : List (List Factor)) → map (moved []) xs ≡ xs
    same [] = refl
    same (x ∷ xs) = ap (λ (ys : List (List Factor)). x ∷ ys) (same xs)
closure-moved (v ∷ vs) [] = refl
closure-moved (v ∷ vs) (q ∷ qs) =
    (λ j. flat_map (λ rs. map (λ r. r ∷ rs) (parts-moved v q j)) (closure-moved vs qs j)) ∙ over (closure_of qs)
  where
    fronts : (ps : List Factor) (rs : List Factor) → map (λ r. r ∷ moved vs rs) (map (shift v) ps) ≡ map (moved (v ∷ vs)) (map (λ r. r ∷ rs) ps)
    fronts [] rs = refl
    fronts (r ∷ ps) rs = ap (λ (ys : List (List Factor)). (shift v r ∷ moved vs rs) ∷ ys) (fronts ps rs)

    append-map : (xs ys : List (List Factor)) → map (moved (v ∷ vs)) (xs ++ ys) ≡ map (moved (v ∷ vs)) xs ++ map (moved (v ∷ vs)) ys
    append-map [] ys = refl
    append-map (x ∷ xs) ys = ap (λ (zs : List (List Factor)). moved (v ∷ vs) x ∷ zs) (append-map xs ys)

    over : (xs : List (List Factor)) → flat_map (λ rs. map (λ r. r ∷ rs) (map (shift v) (parts_of q))) (map (moved vs) xs) ≡ map (moved (v ∷ vs)) (flat_map (λ rs. map (λ r. r ∷ rs) (parts_of q)) xs)
    over [] = refl
    over (x ∷ xs) = (λ j. fronts (parts_of q) x j ++ over xs j) ∙ sym (append-map (map (λ r. r ∷ x) (parts_of q)) (flat_map (λ rs. map (λ r. r ∷ rs) (parts_of q)) xs))
