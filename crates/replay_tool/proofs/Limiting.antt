-- Whether a witness keeps the limits, step by step.
use Rattle.std.proofs.Common.{◌≡◌, ◌⊎◌, inl, inr, ℕ, zero, suc, ◌<◌, ◌≤◌, refl, sym, subst, arith, length, Result, Ok, Err, OnOk, IfErr}
use Rattle.field_mod.specs.Sums.{total}
use Rattle.faults.specs.declared.fault.Fault.{Fault}
use Rattle.faults.specs.declared.fault.Fault.TheVariants.{Limit, OutOfMemory}
use Rattle.faults.specs.declared.limit_name.LimitName.TheVariants.{WitnessCells, CarrierSize}
use Rattle.loading.specs.declared.two_sets.TwoSets.{TwoSets}
use Rattle.pair_maps.specs.declared.inputs.PairMap.{PairMap}
use Rattle.witness_laws.specs.Inputs.{Given, all_cells}
use Rattle.replay_tool.specs.declared.inputs.Subject.{Subject}
use Rattle.replay_tool.specs.declared.inputs.Subject.TheVariants as subjects
use Rattle.replay_tool.specs.Inputs.{given_of}
use Rattle.witness_limits.specs.Limits.{most_witness_cells, most_carried, domain_count, carrier_size, HasFew}
use Rattle.replay_tool.specs.Refusals.{RefusesSets, IsSound, IsReady, RefusesReading}

-- ---- a pair

no_sum : (n : ℕ) → total n (λ i. 0) ≡ 0
no_sum zero = refl
no_sum (suc n) = let e = no_sum n in omega (arith, e)

module _ (sets : TwoSets) where
  abbrev Speaks : Subject
  Speaks = subjects.Pair sets

  -- a pair has no values
  pub pair_ready : length (all_cells sets.x.cells sets.y.cells) ≤ most_witness_cells → IsReady Speaks
  pair_ready l =
      let e : carrier_size (given_of Speaks) ≡ 0 = no_sum (domain_count (given_of Speaks)) in
      record { sound = tt; few = record { domain = l; range = omega arith }; size = omega (arith, e) }

  pub pair_refused : (fault : Fault) → ((most_witness_cells < length (all_cells sets.x.cells sets.y.cells)) × (fault ≡ Limit WitnessCells most_witness_cells)) ⊎ (fault ≡ OutOfMemory)
      → RefusesReading Speaks fault ⊎ (fault ≡ OutOfMemory)
  pair_refused fault (inl (m, e)) = inl (inl (inl m, e))
  pair_refused fault (inr e) = inr e

  module _ {A : Type 0} (subject : Subject) (is : subject ≡ Speaks) where
    pub pair_on_ok : (result : Result A Fault) → OnOk result (length (all_cells sets.x.cells sets.y.cells) ≤ most_witness_cells) → OnOk result (IsReady subject)
    pair_on_ok (Ok made) l = subst IsReady (sym is) (pair_ready l)
    pair_on_ok (Err fault) l = tt

    pub pair_if_err : (result : Result A Fault)
        → IfErr result (λ fault. ((most_witness_cells < length (all_cells sets.x.cells sets.y.cells)) × (fault ≡ Limit WitnessCells most_witness_cells)) ⊎ (fault ≡ OutOfMemory))
        → IfErr result (λ fault. RefusesReading subject fault ⊎ (fault ≡ OutOfMemory))
    pair_if_err (Ok made) h = tt
    pair_if_err (Err fault) h = subst (λ (s : Subject). RefusesReading s fault ⊎ (fault ≡ OutOfMemory)) (sym is) (pair_refused fault h)

-- ---- a map

module _ (m : PairMap) where
  abbrev Maps : Subject
  Maps = subjects.Map m

  abbrev G : Given
  G = given_of Maps

  abbrev TooMany : ℕ → Fault → Type 0
  TooMany n fault = ((most_witness_cells < n) × (fault ≡ Limit WitnessCells most_witness_cells)) ⊎ (fault ≡ OutOfMemory)

  abbrev Refused : Fault → Type 0
  Refused fault = RefusesReading Maps fault ⊎ (fault ≡ OutOfMemory)

  pub few_cells : length (all_cells m.x.cells m.a.cells) ≤ most_witness_cells → length (all_cells m.y.cells m.b.cells) ≤ most_witness_cells → HasFew G
  few_cells l r = record { domain = l; range = r }

  pub domain_refused : (fault : Fault) → TooMany (length (all_cells m.x.cells m.a.cells)) fault → Refused fault
  domain_refused fault (inl (n, e)) = inl (inl (inl n, e))
  domain_refused fault (inr e) = inr e

  pub range_refused : (fault : Fault) → TooMany (length (all_cells m.y.cells m.b.cells)) fault → Refused fault
  range_refused fault (inl (n, e)) = inl (inl (inr n, e))
  range_refused fault (inr e) = inr e

  pub sets_refuse : (fault : Fault) → HasFew G → RefusesSets m fault → Refused fault
  sets_refuse fault few r = inl (inr (inl (few, r)))

  pub size_refuses : (fault : Fault) → HasFew G → IsSound Maps → ((most_carried < carrier_size G) × (fault ≡ Limit CarrierSize most_carried)) ⊎ (fault ≡ OutOfMemory) → Refused fault
  size_refuses fault few sound (inl (n, e)) = inl (inr (inr (few, sound, n, e)))
  size_refuses fault few sound (inr e) = inr e

  module _ {A : Type 0} where
    pub map_on_ok : (result : Result A Fault) → HasFew G → IsSound Maps → OnOk result (carrier_size G ≤ most_carried) → OnOk result (IsReady Maps)
    map_on_ok (Ok made) few sound l = record { sound = sound; few = few; size = l }
    map_on_ok (Err fault) few sound l = tt

    pub map_if_err : (result : Result A Fault) → HasFew G → IsSound Maps
        → IfErr result (λ fault. ((most_carried < carrier_size G) × (fault ≡ Limit CarrierSize most_carried)) ⊎ (fault ≡ OutOfMemory)) → IfErr result Refused
    map_if_err (Ok made) few sound h = tt
    map_if_err (Err fault) few sound h = size_refuses fault few sound h

    module _ (subject : Subject) (is : subject ≡ Maps) where
      pub ready_of_map : (result : Result A Fault) → OnOk result (IsReady Maps) → OnOk result (IsReady subject)
      ready_of_map (Ok made) h = subst IsReady (sym is) h
      ready_of_map (Err fault) h = tt

      pub refused_of_map : (result : Result A Fault) → IfErr result Refused → IfErr result (λ fault. RefusesReading subject fault ⊎ (fault ≡ OutOfMemory))
      refused_of_map (Ok made) h = tt
      refused_of_map (Err fault) h = subst (λ (s : Subject). RefusesReading s fault ⊎ (fault ≡ OutOfMemory)) (sym is) h
