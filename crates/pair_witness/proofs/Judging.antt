-- The jobs of this crate are judged in one way.
use Rattle.std.proofs.Common.{◌≡◌, ◌≢◌, ◌≤◌, ℕ, List, length, refl, sym, ap, ◌∙◌, ◌⊎◌, inl, inr, ⊎_elim, arith}
use Rattle.std.proofs.lemmas.Bool.{cases_lt}
use Rattle.faults.specs.declared.fault.Fault.{Fault}
use Rattle.faults.specs.declared.fault.Fault.TheVariants.{Limit}
use Rattle.faults.specs.declared.limit_name.LimitName.TheVariants.{Cells, WitnessCells}
use Rattle.loading.specs.Jobs.{IsAllowed, HasOneJudgement}
use Rattle.faults.specs.Statuses.{status_of, without_chain}
use Rattle.faults.specs.declared.status.Status.TheVariants as statuses
use Rattle.loading.specs.declared.two_sets.TwoSets.{TwoSets}
use Rattle.loading.proofs.Judging.{judged_once}
use Rattle.loading.proofs.LoadingTwo.{two_of_files}
use Rattle.pair_tool.specs.declared.homcubes.PairJob.{PairJob}
use Rattle.pair_tool.specs.Jobs.{most_cells, cells_of_pair, RefusesPair}
use Rattle.pair_tool.proofs.Judging.{few_allowed}
use Rattle.witness_laws.specs.Inputs.{all_cells}
use Rattle.witness_limits.specs.Limits.{most_witness_cells}
use Rattle.pair_witness.specs.Jobs.{RefusesWitness, witness_task}

abbrev all_of : TwoSets → ℕ
all_of pair = length (all_cells pair.x.cells pair.y.cells)

-- few cells, and few of both sets
pub allowed_so : (pair : TwoSets) → IsAllowed RefusesPair pair → all_of pair ≤ most_witness_cells → IsAllowed RefusesWitness pair
allowed_so pair none few fault (inl r) = none fault r
allowed_so pair none few fault (inr (none', more, is)) = omega (arith, more, few)

limit_never_writes : statuses.Limit ≡ statuses.Write → ⊥
limit_never_writes e = cc

pub witness_once : (job : PairJob) (file : List ℕ) → HasOneJudgement (witness_task job file).job
unfolding witness_task
witness_once job file = judged_once (witness_task job file).job (record { files = two_of_files job.x job.a; found = found; alike = alike; before = before })
  where
    found : (pair : TwoSets) → ((fault : Fault) × RefusesWitness pair fault) ⊎ IsAllowed RefusesWitness pair
    found pair = ⊎_elim
        (λ more. inl (Limit Cells most_cells, inl (more, refl)))
        (λ few. ⊎_elim
        (λ more. inl (Limit WitnessCells most_witness_cells, inr (few_allowed pair few, more, refl)))
        (λ small. inr (allowed_so pair (few_allowed pair few) small))
        (cases_lt most_witness_cells (all_of pair)))
        (cases_lt most_cells (cells_of_pair pair))

    alike : (pair : TwoSets) (f g : Fault) → RefusesWitness pair f → RefusesWitness pair g → without_chain f ≡ without_chain g
    alike pair f g (inl r) (inl s) = ap without_chain (r.1 ∙ sym s.1)
    alike pair f g (inl r) (inr s) = absurd (s.0 f r)
    alike pair f g (inr r) (inl s) = absurd (r.0 g s)
    alike pair f g (inr r) (inr s) = ap without_chain (r.2 ∙ sym s.2)

    before : (pair : TwoSets) (fault : Fault) → RefusesWitness pair fault → status_of fault ≢ statuses.Write
    before pair fault (inl r) e = limit_never_writes (sym (ap status_of r.1) ∙ e)
    before pair fault (inr r) e = limit_never_writes (sym (ap status_of r.2) ∙ e)
