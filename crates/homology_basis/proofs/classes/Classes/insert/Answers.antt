use Rattle.std.proofs.Common.{refl, ap, ◌∙◌, List}
use Rattle.homology_basis.specs.Bases.{in_degree}
use Rattle.homology_basis.specs.Classes.{ClassOf}
use Rattle.homology_basis.proofs.ByDegree.{pushed, longer}
use Rattle.homology_basis.proofs.classes.Classes.insert.Goals as goal

pub returns : goal.returns
returns g c = pushed (λ cs. cs.items) c.self.inside.by_degree.items _ c.args.self.now c.from-place.result c.args.degree c.push.new.self c.index_mut.result.now c.args.class
    (longer (λ cs. cs.items) c.self.inside.by_degree.items c.make_room.new.self c.from-place.result c.self.view_is c.in_ok-make_room.ensures.room) c.from-place.ensures c.index_mut.ensures.value c.in_ok-push.ensures.items refl
    (λ k. ap (λ (css : List (List ClassOf)). in_degree css k) c.self.view_is ∙ c.in_ok-make_room.ensures.same k)
