use Rattle.std.proofs.Common.{subst}
use Rattle.field_mod.specs.Modular.{Same}
use Rattle.field_mod.proofs.Modular.{same_trans}
use Rattle.chains.specs.Terms.{coefficient}
use Rattle.algebraic_reduction.specs.Reduction.{single}
use Rattle.homology_basis.specs.Bases.{BasisOfLog, homotopy_in}
use Rattle.homology_basis.proofs.Beginning.{one_term}
use Rattle.homology_basis.proofs.bases.Basis.contraction_row.Goals as goal

pub returns : goal.returns
returns g c = λ x. subst (λ (b : BasisOfLog). Same g.row.P (coefficient c.in_ok-row.row x) (homotopy_in g.row.P b c.args.generator x)) c.self.view_is
    (same_trans (c.in_ok-row.ensures x) (c.self.invariant.reduction.homotopy_same (coefficient c.in_ok-single.single) (single c.args.generator) (one_term g.row.P c.args.generator c.in_ok-single.single c.in_ok-single.ensures.sum) x))
