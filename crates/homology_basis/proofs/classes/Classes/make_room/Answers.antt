use Rattle.std.proofs.Common.{arith, refl, ap, ◌∙◌, List, [], ◌∷◌, length, length-append}
use Rattle.homology_basis.specs.Bases.{in_degree}
use Rattle.homology_basis.specs.Classes.{ClassOf}
use Rattle.homology_basis.proofs.ByDegree.{empty_more}
use Rattle.homology_basis.proofs.classes.Classes.make_room.Goals as goal

pub loop-alloc-init : goal.loop-alloc-init
loop-alloc-init g c = λ k. refl

pub loop-alloc-smaller : goal.loop-alloc-smaller
loop-alloc-smaller g c = let l = c.loop-alloc-test.true in let e = ap length c.in_ok-push.ensures.items in let f = length-append c.loop-alloc.self-inside.by_degree.items (c.new.result ∷ []) in omega arith

pub loop-alloc-preserved : goal.loop-alloc-preserved
loop-alloc-preserved g c = λ k. empty_more (λ cs. cs.items) c.loop-alloc.self-inside.by_degree.items c.push.new.self.items c.new.result c.new.ensures.items c.in_ok-push.ensures.items k ∙ c.loop-alloc.invariant k

pub returns-clause-same : goal.returns-clause-same
returns-clause-same g c = λ k. c.loop-alloc.invariant k ∙ ap (λ (css : List (List ClassOf)). in_degree css k) c.self.view_is
