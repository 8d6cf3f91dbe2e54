-- The degrees and kinds of cycles.
use Rattle.std.proofs.Common.{◌≡◌, ℕ, ◌+◌, ◌<◌, ◌≤◌, min, refl, ap, ◌∙◌, arith, List, [], ◌∷◌, map}
use Rattle.witness_runs.specs.Cycles.{AreCycles, AreCyclesAt}
use Rattle.section_reading.specs.Section.{degrees_of, kinds_of}

low_high : (p low high : ℕ) (zs : List (ℕ × List (ℕ × ℕ))) → AreCycles p low high zs → low ≤ high
low_high p low high [] h = h
low_high p low high (z ∷ zs) h = let a = h.0 in let b = low_high p z.0 high zs h.2 in omega arith

kinds_by : (p low high : ℕ) (zs : List (ℕ × List (ℕ × ℕ))) → high < 255 → AreCycles p low high zs → map (λ d. min (d + 1) 255) (degrees_of zs) ≡ kinds_of zs
kinds_by p low high [] s h = refl
kinds_by p low high (z ∷ zs) s h =
    let a = low_high p z.0 high zs h.2 in
    let e : min (z.0 + 1) 255 ≡ z.0 + 1 = omega arith in
    ap (λ (k : ℕ). k ∷ map (λ d. min (d + 1) 255) (degrees_of zs)) e ∙ ap (λ (l : List ℕ). (z.0 + 1) ∷ l) (kinds_by p z.0 high zs s h.2)

pub kinds_are : (p top : ℕ) (kinds bytes : List ℕ) (zs : List (ℕ × List (ℕ × ℕ))) (rest : List ℕ) → top < 255 → AreCyclesAt p top kinds bytes zs rest
    → map (λ d. min (d + 1) 255) (degrees_of zs) ≡ kinds_of zs
kinds_are p top kinds bytes zs rest s h = let b = h.has.below in kinds_by p 0 h.low zs (omega arith) h.has.are
