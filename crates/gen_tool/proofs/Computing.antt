-- What the generator makes, as promised of its job.
use Rattle.std.proofs.Common.{◌≡◌, ◌≤◌, ◌<◌, ◌+◌, ◌*◌, ◌++◌, ℕ, List, [], ◌∷◌, length, Bool, true, false, Result, Ok, Err, IfOk, IfErr, refl, sym, ap, ◌∙◌, subst, ◌⊎◌, inl, inr, arith, true≢false, append-nil, filter}
use Rattle.outside.specs.Seen.{Seen}
use Rattle.elem_cubes.specs.Cells.{Factor}
use Rattle.elem_cubes.specs.Order.{cell_cmp}
use Rattle.cube_sets.specs.Sorted.{has}
use Rattle.cube_sets.specs.Sets.{Members, holds}
use Rattle.cell_complex.specs.CellCount.{cell_count}
use Rattle.excision.specs.Excision.{excised, touches}
use Rattle.report.specs.declared.pair.PairReport.{PairReport}
use Rattle.basis_reports.specs.Right.{AreAsShown, IsRightPair}
use Rattle.hole_squares.proofs.Counted.{squares_are_counted}
use Rattle.hole_squares.proofs.Closed.{cells_are_counted}
use Rattle.gen_tool.specs.Summaries.{IsRightSummary}
use Rattle.cube_sets.proofs.SameSets.{has_itself}
use Rattle.faults.specs.declared.fault.Fault.{Fault}
use Rattle.faults.specs.declared.fault.Fault.TheVariants.{OutOfMemory}
use Rattle.loading.specs.Jobs.{Computes, Answers, RestsOn}
use Rattle.hole_squares.specs.Holes.{IsHoleSet}
use Rattle.hole_squares.specs.Counts.{square_number, cell_number}
use Rattle.gen_tool.specs.declared.holes.HolesJob.{HolesJob}
use Rattle.gen_tool.specs.Jobs.{RefusesNothing, IsGenerated, IsEither, holes_job}

-- what is computed without files answers the job
pub answered_alone : (job : HolesJob) (old : Seen) (result : Result (List ℕ) Fault) → Computes RefusesNothing (IsGenerated job) tt result → Answers (holes_job job) old old result
unfolding holes_job
answered_alone job old (Ok text) c = record { right = (tt, (refl, λ fault r. r), c.right); fault = tt; given = omega arith; left = refl; writes = λ name. omega arith }
answered_alone job old (Err fault) c = record { right = tt; fault = rests c.fault; given = omega arith; left = refl; writes = λ name. omega arith }
  where
    rests : (⊥ ⊎ (fault ≡ OutOfMemory)) → RestsOn (holes_job job) old old fault
    rests (inl r) = absurd r
    rests (inr e) = inl (inl e)

pub computed : (job : HolesJob) (set_alone : Bool) (result : Result (List ℕ) Fault) → job.set_alone ≡ set_alone → IfOk result (IsEither set_alone job.modulus job.holes)
    → IfErr result (λ fault. fault ≡ OutOfMemory) → Computes RefusesNothing (IsGenerated job) tt result
computed job set_alone (Ok text) e right fault = record { right = subst (λ (b : Bool). IsEither b job.modulus job.holes text) (sym e) right; allowed = λ f r. r; fault = tt }
computed job set_alone (Err f) e right fault = record { right = tt; allowed = tt; fault = inr fault }

-- a set without members has none
none_are : (cells : List (List Factor)) → ((c : List Factor) → has cell_cmp cells c ≡ false) → cells ≡ []
none_are [] h = refl
none_are (q ∷ qs) h = absurd (true≢false (sym (has_itself q qs) ∙ h q))

-- ---- how many squares and cells

product_small : (n : ℕ) → n ≤ 527 → n * n ≤ 527 * 527
product_small n l = grind arith

pub squares_fit : (n : ℕ) (set : Members) → n ≤ 527 → IsHoleSet n set → length set.cells ≤ 1048576
squares_fit n set l is = let small = product_small n l in let number : 3 * n * n ≡ 3 * (n * n) = omega arith in omega (arith, squares_are_counted n set is, small, number)

module _ (n : ℕ) (set none : Members) (is : IsHoleSet n set) (empty : (c : List Factor) → holds none c ≡ has cell_cmp [] c) where
  without_members : none.cells ≡ []
  without_members = none_are none.cells empty

  pub never_many : n ≤ 527 → 4194304 < cell_count (set.cells ++ (excised set none).cells) → ⊥
  never_many l more =
      let small = product_small n l in
      let number : 15 * n * n ≡ 15 * (n * n) = omega arith in
      let count : cell_count (set.cells ++ (excised set none).cells) ≡ cell_number n = ap (λ a. cell_count (set.cells ++ filter (touches set.cells) a)) without_members ∙ ap cell_count (append-nil set.cells) ∙ cells_are_counted n set is in
      omega (arith, more, count, small, number)

  pub right_summary : (p m squares : ℕ) (homology : PairReport) → m ≡ n → squares ≡ length set.cells
      → AreAsShown false (IsRightPair p 2 set.cells none.cells homology.dimensions) homology.cycles
      → IsRightSummary p n (record { holes = n; squares = squares; cells = 15 * m * m + 24 * m + 9; homology = homology })
  right_summary p m squares homology same e (cycles, right, shown) = record {
    set = set;
    is_set = is;
    holes = refl;
    squares = e;
    cells = ap cell_number same ∙ sym (cells_are_counted n set is);
    dimensions = (cycles, subst (λ (a : List (List Factor)). IsRightPair p 2 set.cells a homology.dimensions cycles) without_members right);
  }
