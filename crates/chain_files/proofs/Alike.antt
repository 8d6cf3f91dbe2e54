-- Two systems with the same generators and boundaries that are the same modulo p have the same bases.
use Rattle.std.proofs.Common.{◌≡◌, ℕ, ◌+◌, ◌*◌, ◌%◌, ◌/◌, length, get_or, sym, ap, ◌∙◌, arith, nat_lt}
use Rattle.std.proofs.lemmas.List.{length-map}
use Rattle.field_mod.specs.Sums.{total}
use Rattle.field_mod.specs.Modular.{Same}
use Rattle.field_mod.proofs.Sums.{total_same}
use Rattle.field_mod.proofs.Modular.{same_by, same_refl, same_sym, same_trans, same-add, same-mul}
use Rattle.chains.specs.Terms.{nth_chain}
use Rattle.chains.specs.Homology.{System, IsChain, IsCycle, IsNull, IsSpanned, IsBasis, combination}
use Rattle.chains.specs.ChainComplex.{system, incidence, boundary}
use Rattle.chain_files.specs.Content.{Boundary, Content, terms_of}
use Rattle.chain_files.specs.Complexes.{FileComplex, IsFileComplex, listed}
use Rattle.chain_files.specs.Laws.{BasesAreOfTheFile}

pub record Alike (p : ℕ) (K L : System ℕ) : Type 0 where
  pub on : (g : ℕ) → K.on g ≡ L.on g
  pub degree : (g : ℕ) → K.degree g ≡ L.degree g
  pub boundary : (c : ℕ → ℕ) (g : ℕ) → Same p (K.boundary c g) (L.boundary c g)

turned : (p : ℕ) (K L : System ℕ) → Alike p K L → Alike p L K
turned p K L a = record { on = λ g. sym (a.on g); degree = λ g. sym (a.degree g); boundary = λ c g. same_sym (a.boundary c g) }

module _ (p : ℕ) (K L : System ℕ) (a : Alike p K L) where
  chain_alike : (k : ℕ) (c : ℕ → ℕ) → IsChain p K k c → IsChain p L k c
  chain_alike k c h = record { on = λ g off. h.on g (a.on g ∙ off); of_degree = λ g n. h.of_degree g (λ e. n (sym (a.degree g) ∙ e)) }

  cycle_alike : (k : ℕ) (z : ℕ → ℕ) → IsCycle p K k z → IsCycle p L k z
  cycle_alike k z h = record { chain = chain_alike k z h.chain; closed = λ g on. same_trans (same_sym (a.boundary z g)) (h.closed g (a.on g ∙ on)) }

  null_alike : (k : ℕ) (z : ℕ → ℕ) → IsNull p K k z → IsNull p L k z
  null_alike k z h = record {
    filling = h.filling;
    chain = chain_alike (k + 1) h.filling h.chain;
    fills = λ g on. same_trans (h.fills g (a.on g ∙ on)) (a.boundary h.filling g);
  }

  spanned_alike : (k n : ℕ) (zs : ℕ → ℕ → ℕ) (z : ℕ → ℕ) → IsSpanned p K k n zs z → IsSpanned p L k n zs z
  spanned_alike k n zs z h = record {
    x = h.x;
    filling = h.filling;
    chain = chain_alike (k + 1) h.filling h.chain;
    differs = λ g on. same_trans (h.differs g (a.on g ∙ on)) (same-add (same_refl p (combination n h.x zs g)) (a.boundary h.filling g));
  }

basis_alike : (p : ℕ) (K L : System ℕ) → Alike p K L → (k n : ℕ) (zs : ℕ → ℕ → ℕ) → IsBasis p K k n zs → IsBasis p L k n zs
basis_alike p K L a k n zs h = record {
  cycles = λ i lt. cycle_alike p K L a k (zs i) (h.cycles i lt);
  independent = λ x null. h.independent x (null_alike p L K (turned p K L a) k (combination n x zs) null);
  spanning = λ z cycle. spanned_alike p K L a k n zs z (h.spanning z (cycle_alike p L K (turned p K L a) k z cycle));
}

pub reduced : (p a b : ℕ) → a ≡ b % p → Same p a b
reduced p a b e = same_by p (b / p) 0 a b (omega (arith, e))

pub file_alike : (p : ℕ) (content : Content) (file : FileComplex) → IsFileComplex p content file → Alike p (system file.complex) (system (listed content))
file_alike p content file f =
    let bs = file.complex.boundaries in
    let ts = terms_of content.boundaries in
    let long : length bs ≡ length ts = f.sizes ∙ sym (length-map content.boundaries (λ (b : Boundary). b.terms)) in
    record {
      on = λ g. ap (nat_lt g) long;
      degree = λ g. ap (λ ds. get_or ds g 0) f.degrees;
      boundary = λ c g.
          let s : Same p (total (length ts) (λ h. c h * incidence bs h g)) (boundary ts c g) =
          total_same p (length ts) (λ h. c h * incidence bs h g) (λ h. c h * incidence ts h g)
          (λ h lt. same-mul (same_refl p (c h)) (reduced p _ _ (f.incidences h g (omega (arith, lt, long, f.sizes))))) in
          rw long s;
    }

pub bases_of_the_file : BasesAreOfTheFile
bases_of_the_file p k content file zs f = (
  basis_alike p (system file.complex) (system (listed content)) (file_alike p content file f) k (length zs) (nth_chain zs),
  basis_alike p (system (listed content)) (system file.complex) (turned p (system file.complex) (system (listed content)) (file_alike p content file f)) k (length zs) (nth_chain zs),
)
