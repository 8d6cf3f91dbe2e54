-- The loading of two sets.
use Rattle.std.proofs.Common.{◌≡◌, ℕ, ◌*◌, Bool, true, false, cond, List, length, Option, Result, Ok, Err, IfOk, IfErr, sym, subst, ◌⊎◌, inl, inr}
use Rattle.outside.specs.Seen.{Seen}
use Rattle.cube_sets.specs.Sets.{Members, dimensions_agree}
use Rattle.grid_files.specs.declared.fault.Kind.TheVariants.{Any}
use Rattle.faults.specs.declared.fault.Fault.{Fault}
use Rattle.faults.specs.declared.fault.Fault.TheVariants.{Dimension, OutOfMemory}
use Rattle.loading.specs.Steps.{Then, Is, IsDue}
use Rattle.loading.specs.Readings.{Reading, read_bytes}
use Rattle.loading.specs.Sets.{IsSetIn, IsSubsetIn, and_subset}
use Rattle.loading.specs.TwoSets.{two_names, two_bytes, second_name, two_sets, AreTwoSetsIn}
use Rattle.loading.specs.Loads.{Loads}
use Rattle.loading.specs.declared.two_sets.TwoSets.{TwoSets}
use Rattle.loading.proofs.Steps.{settled}
use Rattle.loading.proofs.OfFiles.{IsPlain, IsOfFiles, then_files, made, set_in_files, subset_in_files}
use Rattle.loading.proofs.Loading.{then_loads, refused, after, named_itself, named_later}

module _ (x : List ℕ) (y : Option (List ℕ)) where
  abbrev pub Rest : Reading → Members → Result TwoSets Fault → Type 0
  Rest read s = Then (IsSubsetIn Any y read) (λ t. Is (two_sets (second_name x y) s t))

  plain : (s t : Members) (fault : Fault) → Is (two_sets (second_name x y) s t) (Err fault) → IsPlain fault
  plain s t fault e = by (dimensions_agree s.dimension t.dimension) (record { x = s; y = t }) e
    where
      by : (b : Bool) (sets : TwoSets) → Err fault ≡ cond b (Ok sets) (Err (Dimension (second_name x y) t.dimension s.dimension)) → IsPlain fault
      by true sets e = cc
      by false sets e = subst IsPlain (let i : Dimension (second_name x y) t.dimension s.dimension ≡ fault = cc in i) tt

  first_of_files : IsOfFiles (two_names x y) (IsSetIn Any x)
  first_of_files = set_in_files (two_names x y) Any x (named_itself (and_subset y) x)

  pub two_of_files : IsOfFiles (two_names x y) (AreTwoSetsIn x y)
  two_of_files = then_files (two_names x y) (IsSetIn Any x) Rest first_of_files
      (λ s. then_files (two_names x y) (IsSubsetIn Any y) (λ read t. Is (two_sets (second_name x y) s t)) (subset_in_files (two_names x y) Any y (named_later (and_subset y) x))
      (λ t. made (two_names x y) (Is (two_sets (second_name x y) s t)) (record { one = settled (two_sets (second_name x y) s t); plain = plain s t })))

  module _ (old between new : Seen) (s : Members) (h : Loads read_bytes (IsSetIn Any x) old between (Ok s)) where
    both : (result : Result TwoSets Fault) → Loads (length (and_subset y) * read_bytes) (λ read. Rest read s) between new result → Loads (two_bytes y) (AreTwoSetsIn x y) old new result
    both result k = after (two_names x y) read_bytes (length (and_subset y) * read_bytes) (IsSetIn Any x) Rest old between new s first_of_files h result k

    -- the second is refused
    pub second_refused : (fault : Fault) → Loads {A = Members} (length (and_subset y) * read_bytes) (IsSubsetIn Any y) between new (Err fault)
        → Loads (two_bytes y) (AreTwoSetsIn x y) old new (Err fault)
    second_refused fault k = both (Err fault) (refused (length (and_subset y) * read_bytes) (IsSubsetIn Any y) (λ read t. Is (two_sets (second_name x y) s t)) between new fault k)

    -- both are loaded
    pub two_load : (t : Members) → Loads {A = Members} (length (and_subset y) * read_bytes) (IsSubsetIn Any y) between new (Ok t)
        → (result : Result TwoSets Fault) → IsDue (two_sets (second_name x y) s t) result → Loads (two_bytes y) (AreTwoSetsIn x y) old new result
    two_load t k result due = both result
        (then_loads (length (and_subset y) * read_bytes) (IsSubsetIn Any y) (λ t. Is (two_sets (second_name x y) s t)) between new t k (plain s t) result (due_ok result due) (due_err result due))
      where
        due_ok : (r : Result TwoSets Fault) → IsDue (two_sets (second_name x y) s t) r → IfOk r (λ sets. Is (two_sets (second_name x y) s t) (Ok sets))
        due_ok (Ok sets) h = sym h
        due_ok (Err fault) h = tt

        due_err : (r : Result TwoSets Fault) → IsDue (two_sets (second_name x y) s t) r → IfErr r (λ fault. Is (two_sets (second_name x y) s t) (Err fault) ⊎ (fault ≡ OutOfMemory))
        due_err (Ok sets) h = tt
        due_err (Err fault) (inr e) = inr e
        due_err (Err fault) (inl e) = inl (sym e)
