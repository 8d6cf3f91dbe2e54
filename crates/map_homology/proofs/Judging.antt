-- The jobs of this crate are judged in one way.
use Rattle.std.proofs.Common.{◌≡◌, ◌≢◌, ◌⊎◌, inl, inr, ⊎_elim, ℕ, refl, sym, ap, ◌∙◌, Bool, true}
use Rattle.std.proofs.lemmas.Bool.{true≢false, cases_Bool}
use Rattle.field_mod.specs.Moduli.{IsModulus}
use Rattle.field_mod.proofs.Table.{is_field}
use Rattle.faults.specs.declared.fault.Fault.{Fault}
use Rattle.faults.specs.declared.fault.Fault.TheVariants.{Limit}
use Rattle.faults.specs.declared.limit_name.LimitName.TheVariants.{MatrixEntries}
use Rattle.faults.specs.Statuses.{status_of, without_chain}
use Rattle.faults.specs.declared.status.Status.TheVariants as statuses
use Rattle.loading.specs.Jobs.{IsAllowed, HasOneJudgement}
use Rattle.loading.proofs.Judging.{judged_once}
use Rattle.pair_maps.specs.declared.inputs.PairMap.{PairMap}
use Rattle.pair_maps.specs.Moduli.{modulus_of}
use Rattle.pair_maps.specs.Refusals.{RefusesPairMap}
use Rattle.pair_maps.proofs.Files.{map_of_files}
use Rattle.pair_maps.proofs.Judging as pairs
use Rattle.pair_maps.proofs.Moduli.{modulus_listed}
use Rattle.map_homology.specs.declared.map_job.MapJob.{MapJob}
use Rattle.index_part.specs.Refusals.{RefusesIndex}
use Rattle.index_part.proofs.Judging as indices
use Rattle.map_homology.specs.Refusals.{most_entries, HasLargeMatrix, RefusesMatrices, RefusesMapHomology}
use Rattle.map_homology.specs.Jobs.{map_job}
use Rattle.map_homology.proofs.Complexes.{pair_bases}
use Rattle.map_homology.proofs.Large.{large_or_none}

limit_never_writes : statuses.Limit ≡ statuses.Write → ⊥
limit_never_writes e = cc

-- nothing refuses a map that is not refused as one of pairs and has no matrix of too many entries
pub matrices_allowed : (p : ℕ) (m : PairMap) → IsAllowed (RefusesPairMap p) m → (HasLargeMatrix p m → ⊥) → IsAllowed (RefusesMatrices p) m
matrices_allowed p m none small fault (inl r) = none fault r
matrices_allowed p m none small fault (inr r) = small r.1

-- .. and none of index matrices, where these are wanted
pub allowed : (p : ℕ) (wanted : Bool) (m : PairMap) → IsAllowed (RefusesMatrices p) m → ((fault : Fault) → wanted ≡ true → RefusesIndex p m fault → ⊥) → IsAllowed (RefusesMapHomology p wanted) m
allowed p wanted m none free fault (inl r) = none fault r
allowed p wanted m none free fault (inr r) = free fault r.0 r.2

module _ (p : ℕ) (is_modulus : IsModulus p) where
  matrices_found : (m : PairMap) → ((fault : Fault) × RefusesMatrices p m fault) ⊎ IsAllowed (RefusesMatrices p) m
  matrices_found m = ⊎_elim
      (λ (fault, r). inl (fault, inl r))
      (λ none. let few = pairs.few_of p m none in ⊎_elim
      (λ large. inl (Limit MatrixEntries most_entries, inr (none, large, refl)))
      (λ small. inr (matrices_allowed p m none small))
      (large_or_none p m is_modulus
      (pair_bases p m.x.cells m.a.cells is_modulus (pairs.few_domain m few))
      (pair_bases p m.y.cells m.b.cells is_modulus (pairs.few_range m few))))
      (pairs.found p (is_field p is_modulus) m)

  matrices_alike : (m : PairMap) (f g : Fault) → RefusesMatrices p m f → RefusesMatrices p m g → without_chain f ≡ without_chain g
  matrices_alike m f g (inl r) (inl s) = pairs.alike p (is_field p is_modulus) m f g r s
  matrices_alike m f g (inl r) (inr s) = absurd (s.0 f r)
  matrices_alike m f g (inr r) (inl s) = absurd (r.0 g s)
  matrices_alike m f g (inr r) (inr s) = ap without_chain (r.2 ∙ sym s.2)

  matrices_before : (m : PairMap) (fault : Fault) → RefusesMatrices p m fault → status_of fault ≢ statuses.Write
  matrices_before m fault (inl r) e = pairs.before p (is_field p is_modulus) m fault r e
  matrices_before m fault (inr r) e = limit_never_writes (sym (ap status_of r.2) ∙ e)

  -- ---- with the index part

  module _ (wanted : Bool) where
    -- a map that the matrices do not refuse
    with_index : (m : PairMap) → IsAllowed (RefusesMatrices p) m → wanted ≡ true → ((fault : Fault) × RefusesMapHomology p wanted m fault) ⊎ IsAllowed (RefusesMapHomology p wanted) m
    with_index m none on =
        let few = pairs.few_of p m (λ fault r. none fault (inl r)) in
        ⊎_elim
        (λ (fault, r). inl (fault, inr (on, none, r)))
        (λ free. inr (allowed p wanted m none (λ fault _ r. free fault r)))
        (indices.index_found p m (is_field p is_modulus) (pairs.few_domain m few) (pairs.few_range m few))

    pub found : (m : PairMap) → ((fault : Fault) × RefusesMapHomology p wanted m fault) ⊎ IsAllowed (RefusesMapHomology p wanted) m
    found m = ⊎_elim
        (λ (fault, r). inl (fault, inl r))
        (λ none. ⊎_elim
        (λ on. with_index m none on)
        (λ off. inr (allowed p wanted m none (λ fault on r. true≢false (sym on ∙ off))))
        (cases_Bool wanted))
        (matrices_found m)

    pub alike : (m : PairMap) (f g : Fault) → RefusesMapHomology p wanted m f → RefusesMapHomology p wanted m g → without_chain f ≡ without_chain g
    alike m f g (inl r) (inl s) = matrices_alike m f g r s
    alike m f g (inl r) (inr s) = absurd (s.1 f r)
    alike m f g (inr r) (inl s) = absurd (r.1 g s)
    alike m f g (inr r) (inr s) = indices.index_alike p m f g r.2 s.2

    pub before : (m : PairMap) (fault : Fault) → RefusesMapHomology p wanted m fault → status_of fault ≢ statuses.Write
    before m fault (inl r) = matrices_before m fault r
    before m fault (inr r) = indices.index_before p m fault r.2

pub map_once : (job : MapJob) → HasOneJudgement (map_job job)
unfolding map_job
map_once job = judged_once (map_job job) (record {
  files = map_of_files job.files;
  found = found (modulus_of job.modulus) (modulus_listed job.modulus) job.index;
  alike = alike (modulus_of job.modulus) (modulus_listed job.modulus) job.index;
  before = before (modulus_of job.modulus) (modulus_listed job.modulus) job.index;
})
