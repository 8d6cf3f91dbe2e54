use Rattle.std.proofs.Common.{◌+◌, List, ℕ, sym, subst}
use Rattle.leray_conley.specs.Echelons.{AreFree}
use Rattle.leray_conley.proofs.Free.{free_passed, free_taken}
use Rattle.leray_conley.proofs.echelon.Echelon.take_free.Goals as goal

pub returns-in-Some : goal.returns-in-Some
returns-in-Some g c = free_passed c.args.column c.args.self.now.pivots.items c.args.free.now.items c.in-Some.field-0 c.requires c.in-Some.ensures.0 c.in-Some.ensures.1

pub returns-in_ok-push-in-None : goal.returns-in_ok-push-in-None
returns-in_ok-push-in-None g c = subst (λ (xs : List ℕ). AreFree (c.args.column + 1) c.args.self.now.pivots.items xs) (sym c.in_ok-push-in-None.ensures.items) (free_taken c.args.column c.args.self.now.pivots.items c.args.free.now.items c.requires c.in-None.ensures)
