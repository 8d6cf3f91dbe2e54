-- From the two parts of a splitting to its five matrices
use Rattle.std.proofs.Common.{ℕ, ◌*◌, refl, arith, lt-ltb}
use Rattle.field_mod.proofs.Sums.{total-same}
use Rattle.field_mod.proofs.Modular.{same_trans}
use Rattle.leray_conley.specs.Products.{product, identity, none, AreSame}
use Rattle.leray_conley.specs.Kernels.{IsKilled}
use Rattle.leray_conley.specs.Inverses.{IsInverse}
use Rattle.leray_conley.specs.Splitting.{beside, IsLeraySplitting, IsSplit}
use Rattle.leray_conley.proofs.Algebra.{by, chain, mul_left, mul_right, assoc, one_mul, mul_none}
use Rattle.leray_conley.proofs.Totals.{exact}

module _ (p d r s : ℕ) (a image kernel w : ℕ → ℕ → ℕ) (h : IsSplit p d r s a image kernel) (i : IsInverse p d (beside r image kernel) w) where
  -- the first rows of the inverse undo the image
  top_image : AreSame p r r (product d w image) identity
  top_image = record { at = λ j k x y. let q = h.sizes in same_trans (exact (total-same d (λ l. w j l * image l k) (λ l. w j l * beside r image kernel l k) (λ l _. rw (lt-ltb k r y) refl))) (i.1.at j k (omega arith) (omega arith)) }

  module _ (reduced : ℕ → ℕ → ℕ) (is_reduced : AreSame p r r reduced (product d w (product d a image))) where
    reduced_map : AreSame p r r reduced h.map
    reduced_map = chain is_reduced (chain (mul_right p r d r w (product d a image) (product r image h.map) h.carried) (chain (by (assoc p r d r r w image h.map)) (chain (mul_left p r r r (product d w image) identity h.map top_image) (one_mul p r r h.map))))

    reduces : AreSame p d r (product d a image) (product r image reduced)
    reduces = chain h.carried (mul_right p d r r image h.map reduced (by reduced_map))

    pub reduced_unkilled : (v : ℕ → ℕ) → IsKilled p r r reduced v → ⊥
    reduced_unkilled v k =
        let x : ℕ → ℕ → ℕ = λ i j. v i in
        let z : AreSame p r 1 (product r reduced x) none = record { at = λ i j u w. k.kills i u } in
        k.nonzero (h.faithful v (chain (by (assoc p d d r 1 a image x)) (chain (mul_left p d r 1 (product d a image) (product r image reduced) x reduces) (chain (assoc p d r r 1 image reduced x) (chain (mul_right p d r 1 image (product r reduced x) none z) (mul_none p d r 1 image))))) k.place k.within)

    pub splitting : (inverse : ℕ → ℕ → ℕ) → AreSame p r r (product r reduced inverse) identity → IsLeraySplitting p d a (record { rank = r; image = image; kernel = kernel; reduced = reduced; reduced_inverse = inverse; split_inverse = w })
    splitting inverse e = record {
      fits = let q = h.sizes in omega arith;
      splits = i.0;
      dies = record { at = λ j k x y. h.dies.at j k x (let q = h.sizes in omega arith) };
      reduces = reduces;
      inverts = e;
    }
