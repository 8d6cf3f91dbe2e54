-- Why lists of degrees and boundaries are no chain complex.
use Rattle.std.specs.Prelude.{◌≡◌, ℕ, List, ◌%◌}
use Rattle.chains.specs.ChainComplex.{IsFirst, IsBadDegree, IsNotZero, boundary, incidence}
use Rattle.chains.specs.declared.complex.ComplexFault.{ComplexFault}
use Rattle.chains.specs.declared.complex.ComplexFault.TheVariants.{BadDegree, NotZero, NoMemory}

-- BadDegree is at the first generator and the first term of its boundary that is absent or of a
-- wrong degree; NotZero comes only where there is none, at the first generator and the first place
-- at which the boundary of its boundary is not 0, with its value there
abbrev pub IsRefusal : ℕ → List ℕ → List (List (ℕ × ℕ)) → ComplexFault → Type 0
IsRefusal p degrees bs (BadDegree h g) = IsFirst (IsBadDegree degrees bs) h g
IsRefusal p degrees bs (NotZero h g value) =
    ((j k : ℕ) → ¬ IsBadDegree degrees bs j k) × IsFirst (IsNotZero p bs) h g
    × (value ≡ boundary bs (incidence bs h) g % p)
IsRefusal p degrees bs NoMemory = Unit {0}
