-- The numbers of limits and dimensions that are refused.
use Rattle.std.proofs.Common.{◌≡◌, ℕ, List, Bool, true, false, cond, Option, None, Some, Ok, Err, refl, sym, ap, ◌∙◌, inl, inr}
use Rattle.cube_sets.specs.Sets.{Members, dimensions_agree}
use Rattle.grid_files.specs.declared.fault.Kind.{Kind}
use Rattle.grid_files.specs.declared.fault.Kind.TheVariants.{Any}
use Rattle.grid_files.specs.declared.fault.TextCause.{TextCause}
use Rattle.grid_files.specs.declared.fault.TextCause.TheVariants.{BadByte, BadNumber, Unclosed, MixedDimension, DimensionTooLarge, CoordinateTooLarge, NotElementary, NotFull, TooMany}
use Rattle.faults.specs.declared.fault.Fault.TheVariants.{Dimension, Limit}
use Rattle.faults.specs.declared.limit_name.LimitName.{LimitName}
use Rattle.faults.specs.declared.limit_name.LimitName.TheVariants.{FileBytes, Cubes}
use Rattle.loading.specs.Readings.{Reading, Finds, file_bytes}
use Rattle.loading.specs.Sets.{IsSetIn, IsSubsetIn, text_fault, most_cubes}
use Rattle.loading.specs.TwoSets.{second_name}
use Rattle.loading.specs.Laws.{LimitsOfSets, DimensionsOfSets}
use Rattle.loading.specs.declared.two_sets.TwoSets.{TwoSets}

parts : (c d : LimitName) (m n : ℕ) → Limit c m ≡ Limit d n → (c ≡ d) × (m ≡ n)
parts c d m n e = ((let i : c ≡ d = cc in i), (let j : m ≡ n = cc in j))

pub limits : LimitsOfSets
limits kind name read count number (inl h) = inl (found h)
  where
    found : Finds read file_bytes name (Err (Limit count number)) → (count ≡ FileBytes) × (number ≡ file_bytes)
    found (inl (f, e, t)) = parts count FileBytes number file_bytes e
    found (inr (t, e)) = cc
limits kind name read count number (inr (text, f, (place, cause, refused, is))) = inr (by cause is)
  where
    by : (cause : TextCause) → Limit count number ≡ text_fault name place cause → (count ≡ Cubes) × (number ≡ most_cubes)
    by BadByte e = cc
    by BadNumber e = cc
    by Unclosed e = cc
    by MixedDimension e = cc
    by DimensionTooLarge e = cc
    by CoordinateTooLarge e = cc
    by NotElementary e = cc
    by NotFull e = cc
    by TooMany e = parts count Cubes number most_cubes e

-- no refusal of a set is that of a dimension
never_of_a_set : (kind : Kind) (name : List ℕ) (read : Reading) (other : List ℕ) (found before : ℕ) → IsSetIn kind name read (Err (Dimension other found before)) → ⊥
never_of_a_set kind name read other found before (inl (inl (f, e, t))) = cc
never_of_a_set kind name read other found before (inl (inr (t, e))) = cc
never_of_a_set kind name read other found before (inr (text, f, (place, cause, refused, is))) = by cause is
  where
    by : (cause : TextCause) → Dimension other found before ≡ text_fault name place cause → ⊥
    by BadByte e = cc
    by BadNumber e = cc
    by Unclosed e = cc
    by MixedDimension e = cc
    by DimensionTooLarge e = cc
    by CoordinateTooLarge e = cc
    by NotElementary e = cc
    by NotFull e = cc
    by TooMany e = cc

never_of_a_subset : (kind : Kind) (name : Option (List ℕ)) (read : Reading) (other : List ℕ) (found before : ℕ) → IsSubsetIn kind name read (Err (Dimension other found before)) → ⊥
never_of_a_subset kind None read other found before e = cc
never_of_a_subset kind (Some name) read other found before h = never_of_a_set kind name read other found before h

pub dimensions : DimensionsOfSets
dimensions x y read name found before (inl h) = absurd (never_of_a_set Any x read name found before h)
dimensions x y read name found before (inr (s, h, inl k)) = absurd (never_of_a_subset Any y read name found before k)
dimensions x y read name found before (inr (s, h, inr (t, k, e))) = by (dimensions_agree s.dimension t.dimension) refl (record { x = s; y = t }) e
  where
    by : (b : Bool) → b ≡ dimensions_agree s.dimension t.dimension → (sets : TwoSets) → Err (Dimension name found before) ≡ cond b (Ok sets) (Err (Dimension (second_name x y) t.dimension s.dimension))
        → (name ≡ second_name x y) × (u : Members) × (v : Members) × IsSetIn Any x read (Ok u) × IsSubsetIn Any y read (Ok v)
        × (found ≡ v.dimension) × (before ≡ u.dimension) × (dimensions_agree before found ≡ false)
    by true b sets e = cc
    by false b sets e =
        let n : name ≡ second_name x y = cc in
        let f : found ≡ t.dimension = cc in
        let g : before ≡ s.dimension = cc in
        (n, s, t, h, k, f, g, ap (λ m. dimensions_agree m found) g ∙ ap (λ m. dimensions_agree s.dimension m) f ∙ sym b)
