-- A witness is refused in one way, and never like a failed write.
use Rattle.std.proofs.Common.{◌≡◌, ◌≢◌, inl, inr, ℕ, ◌+◌, ◌<◌, ◌≤◌, sym, ap, ◌∙◌, arith, List, true≢false}
use Rattle.faults.specs.declared.fault.Fault.{Fault}
use Rattle.faults.specs.declared.fault.Fault.TheVariants.{Undefined, LeavesRange, LeavesSubset, LawFails}
use Rattle.faults.specs.declared.status.Status.TheVariants as statuses
use Rattle.faults.specs.Statuses.{status_of, without_chain}
use Rattle.loading.specs.Jobs.{IsAllowed}
use Rattle.map_checks.specs.Faults.{HasNoSetFault}
use Rattle.pair_maps.specs.declared.inputs.PairMap.{PairMap}
use Rattle.pair_maps.specs.Refusals.{RefusesMapOf}
use Rattle.pair_maps.proofs.Refusing.{refusals_alike, refusal_status}
use Rattle.witness_laws.specs.declared.law.Law.{Law as WitnessLaw}
use Rattle.witness_laws.specs.Inputs.{Given}
use Rattle.witness_laws.proofs.Outcomes.{tables_have_one_outcome}
use Rattle.witness_types.specs.Headers.{body_of}
use Rattle.replay_tool.specs.declared.inputs.Subject.{Subject}
use Rattle.replay_tool.specs.declared.inputs.Subject.TheVariants as subjects
use Rattle.replay_tool.specs.Inputs.{Testimony, given_of}
use Rattle.witness_limits.specs.Limits.{most_carried, carrier_size, HasTooMany, HasFew}
use Rattle.replay_tool.specs.Refusals.{RefusesSets, RefusesSubject, IsSound, told_law, FailsBy, IsReady, RefusesReading, RefusesTestimony}

-- ---- limits

many_few : (G : Given) → HasTooMany G → HasFew G → ⊥
many_few G (inl more) few = omega (arith, more, few.domain)
many_few G (inr more) few = omega (arith, more, few.range)

large_small : (G : Given) → most_carried < carrier_size G → carrier_size G ≤ most_carried → ⊥
large_small G more less = omega (arith, more, less)

-- ---- the map and its sets

sets_refuse : (m : PairMap) (fault : Fault) → RefusesSets m fault → RefusesMapOf 2 m fault
sets_refuse m (Undefined cube) r = r
sets_refuse m (LeavesRange cube value) r = r
sets_refuse m (LeavesSubset cube value) r = r
sets_refuse m fault r = absurd r

unsound : (m : PairMap) (fault : Fault) → RefusesSets m fault → HasNoSetFault m.map.named m.x.cells m.a.cells m.y.cells m.b.cells → ⊥
unsound m (Undefined cube) r h = true≢false (sym (h.named cube r.there) ∙ r.here)
unsound m (LeavesRange cube value) r h = r.1.value.here (h.inside cube value r.1.cube.there r.1.value.there)
unsound m (LeavesSubset cube value) r h = r.2.value.here (h.carried cube value r.2.cube.there r.2.value.there)
unsound m fault r h = absurd r

subject_alike : (subject : Subject) (f g : Fault) → RefusesSubject subject f → RefusesSubject subject g → without_chain f ≡ without_chain g
subject_alike (subjects.Pair sets) f g r s = absurd r
subject_alike (subjects.Map m) f g r s = refusals_alike 2 m.map.named m.x.cells m.a.cells m.y.cells m.b.cells (omega arith) f g (sets_refuse m f r) (sets_refuse m g s)

subject_unsound : (subject : Subject) (fault : Fault) → RefusesSubject subject fault → IsSound subject → ⊥
subject_unsound (subjects.Pair sets) fault r h = r
subject_unsound (subjects.Map m) fault r h = unsound m fault r h

subject_status : (subject : Subject) (fault : Fault) → RefusesSubject subject fault → status_of fault ≡ statuses.MapRefused
subject_status (subjects.Pair sets) fault r = absurd r
subject_status (subjects.Map m) fault r = refusal_status 2 m.map.named m.x.cells m.a.cells m.y.cells m.b.cells fault (sets_refuse m fault r)

-- ---- before the laws

module _ (subject : Subject) where
  abbrev G : Given
  G = given_of subject

  reading_alike : (f g : Fault) → RefusesReading subject f → RefusesReading subject g → without_chain f ≡ without_chain g
  reading_alike f g (inl r) (inl s) = ap without_chain (r.1 ∙ sym s.1)
  reading_alike f g (inl r) (inr (inl s)) = absurd (many_few G r.0 s.0)
  reading_alike f g (inl r) (inr (inr s)) = absurd (many_few G r.0 s.0)
  reading_alike f g (inr (inl r)) (inl s) = absurd (many_few G s.0 r.0)
  reading_alike f g (inr (inl r)) (inr (inl s)) = subject_alike subject f g r.1 s.1
  reading_alike f g (inr (inl r)) (inr (inr s)) = absurd (subject_unsound subject f r.1 s.1)
  reading_alike f g (inr (inr r)) (inl s) = absurd (many_few G s.0 r.0)
  reading_alike f g (inr (inr r)) (inr (inl s)) = absurd (subject_unsound subject g s.1 r.1)
  reading_alike f g (inr (inr r)) (inr (inr s)) = ap without_chain (r.3 ∙ sym s.3)

  pub ready_read : IsReady subject → (fault : Fault) → RefusesReading subject fault → ⊥
  ready_read h fault (inl r) = many_few G r.0 h.few
  ready_read h fault (inr (inl r)) = subject_unsound subject fault r.1 h.sound
  ready_read h fault (inr (inr r)) = large_small G r.2 h.size

-- ---- the laws

module _ (name bytes : List ℕ) (p : ℕ) (G : Given) where
  abbrev told_as : ℕ → WitnessLaw → Fault
  told_as line law = LawFails name line (told_law law)

  one_law : (f g : Fault) → FailsBy name p G bytes f → FailsBy name p G bytes g → f ≡ g
  one_law f g r s =
      let q = (tables_have_one_outcome p G).fault (body_of bytes) r.first.0 s.first.0 r.law s.law r.first.2 s.first.2 in
      let line : r.line ≡ s.line = r.first.1 ∙ ap (λ k. k + 4) q.0 ∙ sym s.first.1 in
      r.is ∙ ap (λ n. told_as n r.law) line ∙ ap (told_as s.line) q.1 ∙ sym s.is

-- ---- all of them

limit_never_writes : statuses.Limit ≡ statuses.Write → ⊥
limit_never_writes e = cc

map_never_writes : statuses.MapRefused ≡ statuses.Write → ⊥
map_never_writes e = cc

witness_never_writes : statuses.Witness ≡ statuses.Write → ⊥
witness_never_writes e = cc

module _ (name : List ℕ) (t : Testimony) where
  pub alike : (f g : Fault) → RefusesTestimony name t f → RefusesTestimony name t g → without_chain f ≡ without_chain g
  alike f g (inl r) (inl s) = reading_alike t.subject f g r s
  alike f g (inl r) (inr s) = absurd (ready_read t.subject s.0 f r)
  alike f g (inr r) (inl s) = absurd (ready_read t.subject r.0 g s)
  alike f g (inr r) (inr s) = ap without_chain (one_law name t.bytes t.modulus (given_of t.subject) f g r.1 s.1)

  pub before : (fault : Fault) → RefusesTestimony name t fault → status_of fault ≢ statuses.Write
  before fault (inl (inl r)) e = limit_never_writes (sym (ap status_of r.1) ∙ e)
  before fault (inl (inr (inl r))) e = map_never_writes (sym (subject_status t.subject fault r.1) ∙ e)
  before fault (inl (inr (inr r))) e = limit_never_writes (sym (ap status_of r.3) ∙ e)
  before fault (inr r) e = witness_never_writes (sym (ap status_of r.1.is) ∙ e)

  -- an accepted witness is refused by nothing
  pub accepted_allowed : IsReady t.subject → ((fault : Fault) → FailsBy name t.modulus (given_of t.subject) t.bytes fault → ⊥) → IsAllowed (RefusesTestimony name) t
  accepted_allowed h none fault (inl r) = ready_read t.subject h fault r
  accepted_allowed h none fault (inr r) = none fault r.1
