-- The loading of maps.
use Rattle.std.proofs.Common.{◌≡◌, ℕ, List, Result, Ok, Err, IfOk, IfErr, Contains, refl, sym, ap, ◌∙◌, subst, ◌⊎◌, inl, inr}
use Rattle.outside.specs.Seen.{Seen}
use Rattle.cube_maps.specs.CubeMaps.{Mapping}
use Rattle.map_files.specs.MapFile.{HasValue, IsRefusedAt}
use Rattle.map_files.proofs.Outcomes.{one_outcome}
use Rattle.grid_files.specs.declared.fault.TextCause.{TextCause}
use Rattle.grid_files.specs.declared.fault.TextCause.TheVariants.{BadByte, BadNumber, Unclosed, MixedDimension, DimensionTooLarge, CoordinateTooLarge, NotElementary, NotFull, TooMany}
use Rattle.faults.specs.declared.fault.Fault.{Fault}
use Rattle.faults.specs.declared.fault.Fault.TheVariants.{OutOfMemory}
use Rattle.loading.specs.Steps.{IsOne}
use Rattle.loading.specs.Readings.{Finds, file_bytes, read_bytes}
use Rattle.loading.specs.Maps.{map_fault, IsMapOf, IsMapIn}
use Rattle.loading.specs.Loads.{Loads}
use Rattle.loading.proofs.OfFiles.{IsPlain, IsMade, IsOfFiles, made, of_file, then_files}
use Rattle.loading.proofs.Loading.{then_loads}

map_outcome : (name text : List ℕ) → ((map : Mapping) × HasValue text map) ⊎ ((place : ℕ) × (cause : TextCause) × IsRefusedAt text place cause) → (o : Result Mapping Fault) × IsMapOf name text o
map_outcome name text (inl v) = (Ok v.0, v.1)
map_outcome name text (inr r) = (Err (map_fault name r.0 r.1), (r.0, r.1, r.2, refl))

same_map : (name text : List ℕ) (o r : Result Mapping Fault) → IsMapOf name text o → IsMapOf name text r → o ≡ r
same_map name text (Ok s) (Ok t) h k = ap (λ v. Ok v) (one_outcome.one_value text s t h k)
same_map name text (Ok s) (Err g) h k = absurd (one_outcome.never_both text s k.0 k.1 h k.2)
same_map name text (Err f) (Ok t) h k = absurd (one_outcome.never_both text t h.0 h.1 k h.2)
same_map name text (Err f) (Err g) h k =
    let q = one_outcome.one_place text h.0 k.0 h.1 k.1 h.2 k.2 in
    ap (λ v. Err v) (h.3 ∙ ap (λ n. map_fault name n h.1) q.0 ∙ ap (λ c. map_fault name k.0 c) q.1 ∙ sym k.3)

map_plain : (name text : List ℕ) (fault : Fault) → IsMapOf name text (Err fault) → IsPlain fault
map_plain name text fault (place, cause, refused, is) = subst IsPlain (sym is) (by cause)
  where
    by : (cause : TextCause) → IsPlain (map_fault name place cause)
    by BadByte = tt
    by BadNumber = tt
    by Unclosed = tt
    by MixedDimension = tt
    by DimensionTooLarge = tt
    by CoordinateTooLarge = tt
    by NotElementary = tt
    by NotFull = tt
    by TooMany = tt

map_made : (name text : List ℕ) → IsMade (IsMapOf name text)
map_made name text = let o = map_outcome name text (one_outcome.some text) in record { one = record { outcome = o.0; holds = o.1; one = same_map name text }; plain = map_plain name text }

pub map_in_files : (names : List (List ℕ)) (name : List ℕ) → Contains names name → IsOfFiles names (IsMapIn name)
map_in_files names name within = then_files names (λ read. Finds read file_bytes name) (λ read. IsMapOf name) (of_file names file_bytes name within) (λ text. made names (IsMapOf name text) (map_made name text))

pub map_loads : (name text bytes : List ℕ) (old new : Seen) → bytes ≡ text → Loads read_bytes (λ read. Finds read file_bytes name) old new (Ok text) → (result : Result Mapping Fault)
    → IfOk result (λ map. IsMapOf name bytes (Ok map)) → IfErr result (λ fault. IsMapOf name bytes (Err fault) ⊎ (fault ≡ OutOfMemory)) → Loads read_bytes (IsMapIn name) old new result
map_loads name text bytes old new e h result ok err =
    then_loads read_bytes (λ read. Finds read file_bytes name) (IsMapOf name) old new text h (map_plain name text) result
    (subst (λ (b : List ℕ). IfOk result (λ map. IsMapOf name b (Ok map))) e ok) (subst (λ (b : List ℕ). IfErr result (λ fault. IsMapOf name b (Err fault) ⊎ (fault ≡ OutOfMemory))) e err)
