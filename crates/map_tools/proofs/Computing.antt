-- What is computed of a map and its sets, as promised of the job.
use Rattle.std.proofs.Common.{◌≡◌, ◌⊎◌, ℕ, sym, ap, ◌∙◌, subst, List, Result, Ok, Err, IfOk, IfErr, inr, inl, ⊎_elim}
use Rattle.field_mod.specs.Moduli.{IsModulus}
use Rattle.cell_complex.specs.CellCount.{cell_count}
use Rattle.faults.specs.declared.fault.Fault.{Fault}
use Rattle.faults.specs.declared.fault.Fault.TheVariants.{OutOfMemory}
use Rattle.loading.specs.Jobs.{Computes, IsAllowed}
use Rattle.pair_maps.specs.declared.inputs.PairMap.{PairMap}
use Rattle.pair_maps.specs.Inputs.{domain_of}
use Rattle.pair_maps.specs.Moduli.{modulus_of}
use Rattle.pair_maps.specs.Refusals.{RefusesPairMap}
use Rattle.pair_maps.proofs.Moduli.{of_table}
use Rattle.map_tools.specs.Jobs.{values_text, IsValuesText}

pub values_refused : (p : ℕ) (input : PairMap) (fault : Fault) → IsModulus p → RefusesPairMap p input fault ⊎ (fault ≡ OutOfMemory) → Computes (RefusesPairMap (modulus_of p)) IsValuesText input (Err fault)
values_refused p input fault h r = record {
  right = tt;
  allowed = tt;
  fault = subst (λ (q : ℕ). RefusesPairMap q input fault ⊎ (fault ≡ OutOfMemory)) (sym (of_table p h)) r;
}

pub values_computed : (p : ℕ) (input : PairMap) (count : ℕ) (result : Result (List ℕ) Fault) → IsModulus p → IsAllowed (RefusesPairMap p) input → count ≡ cell_count (domain_of input)
    → IfOk result (λ text. text ≡ values_text count) → IfErr result (λ fault. fault ≡ OutOfMemory) → Computes (RefusesPairMap (modulus_of p)) IsValuesText input result
values_computed p input count (Ok text) h none e t m = record {
  right = t ∙ ap values_text e;
  allowed = subst (λ (q : ℕ). IsAllowed (RefusesPairMap q) input) (sym (of_table p h)) none;
  fault = tt;
}
values_computed p input count (Err fault) h none e t m = record { right = tt; allowed = tt; fault = inr m }
