-- A list of steps on a complex reduces it.
use Rattle.std.proofs.Common.{◌+◌, arith, length, ⊎_elim}
use Rattle.std.proofs.lemmas.Bool.{cases_lt}
use Rattle.chains.specs.ChainComplex.{incidence}
use Rattle.algebraic_reduction.specs.Laws.{StepsAreReductions}
use Rattle.algebraic_reduction.proofs.Bridge.{grade, grade_in, grade_past, is_boundary, to_grade, of_grade}
use Rattle.algebraic_reduction.proofs.Steps.{project_all-same, include_all-same, homotopy_all-same, log_identity, log_round_trip, log_include-boundary, log_project-boundary, project-off_all, project-degree, include-degree}
use Rattle.algebraic_reduction.proofs.Linear.{project_all-linear, include_all-linear, homotopy_all-linear, homotopy-degree, steps_apart, paired_dead, left_all_is_boundary}

pub steps_are_reductions : StepsAreReductions
steps_are_reductions p K ss two c l =
    let n = length K.boundaries in
    let d = grade K.degrees in
    let D = incidence K.boundaries in
    let bd = is_boundary p K c in
    let lb = left_all_is_boundary p n d two D ss bd l in
    record {
      steps = l;
      apart = steps_apart p n d two D ss bd l;
      left_squares_to_zero = lb.squares_to_zero;
      left_lowers = λ h k inside e. of_grade p k K _ c.sizes (λ g f. lb.lowers h g (λ q. f (let a = grade_in K.degrees h (omega (arith, c.sizes)) in omega arith)));
      left_bottom = λ h inside e g. lb.lowers h g (λ q. let a = grade_in K.degrees h (omega (arith, c.sizes)) in ⊎_elim
          (λ l. let b = grade_in K.degrees g l in omega arith)
          (λ l. let b = grade_past K.degrees g l in omega arith)
          (cases_lt g (length K.degrees)));
      left_on_left = λ h g w. let v = paired_dead p n d two D ss g bd l w in ((v.column h), (v.row h));
      project_linear = project_all-linear p n d two D ss bd l;
      project_same = project_all-same p n d two D ss bd l;
      project_on_left = project-off_all p n d two D ss bd l;
      project_degree = λ k x cx. of_grade p k K _ c.sizes (project-degree p n d two D ss bd l (k + 2) x (to_grade p k K x c.sizes cx));
      project_boundary = log_project-boundary p n d two D ss bd l;
      include_linear = include_all-linear p n d two D ss bd l;
      include_same = include_all-same p n d two D ss bd l;
      include_degree = λ k y cy. of_grade p k K _ c.sizes (include-degree p n d two D ss bd l (k + 2) y (to_grade p k K y c.sizes cy));
      include_boundary = log_include-boundary p n d two D ss bd l;
      homotopy_linear = homotopy_all-linear p n d two D ss bd l;
      homotopy_same = homotopy_all-same p n d two D ss bd l;
      homotopy_degree = λ k x cx. of_grade p (k + 1) K _ c.sizes (λ g f. homotopy-degree p n d two D ss bd l (k + 2) x (to_grade p k K x c.sizes cx) g (λ q. f (omega arith)));
      round_trip = log_round_trip p n d two D ss bd l;
      identity = log_identity p n d two D ss bd l;
    }
