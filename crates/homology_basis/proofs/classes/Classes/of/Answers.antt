use Rattle.std.proofs.Common.{◌+◌, List, ap, sym, ◌∙◌, get_or, subst, true≢false}
use Rattle.chains.specs.ChainComplex.{ChainComplex}
use Rattle.homology_basis.specs.Bases.{in_degree}
use Rattle.homology_basis.specs.Classes.{ClassOf, AreClassesBelow}
use Rattle.homology_basis.proofs.Collected.{next_class, no_class_more}
use Rattle.homology_basis.proofs.classes.Classes.of.Goals as goal
use Rattle.homology_basis.proofs.classes.Classes.of.Goals.{then-alive+in_ok-class+in_ok-insert, else-alive}

pub loop-generator-preserved : goal.loop-generator-preserved
loop-generator-preserved g c = elim c.if-alive.branch [
  | then-alive+in_ok-class+in_ok-insert w ↦ λ k. subst (λ (css : List (List ClassOf)). AreClassesBelow g.row.P c.args.log.now.complex c.args.log.now.steps c.args.wanted (c.loop-generator.generator + 1) k (in_degree css k)) (sym w.classes-is)
      (next_class g.row.P c.args.log.now.complex c.args.log.now.steps c.args.wanted c.loop-generator.generator w.degree.result c.loop-generator.classes w.insert.new.self w.in_ok-class.class c.loop-generator.invariant
      w.in_ok-class.ensures.class w.in_ok-class.ensures.generator (w.degree.ensures.value ∙ ap (λ (K : ChainComplex). get_or K.degrees c.loop-generator.generator 0) c.complex-complex.ensures) w.in_ok-insert.ensures k)
  | else-alive w ↦ no_class_more g.row.P c.args.log.now.complex c.args.log.now.steps c.args.wanted c.loop-generator.generator c.loop-generator.classes c.if-alive.classes c.loop-generator.invariant
      (λ u. true≢false (sym (c.alive.ensures.1 u) ∙ w.if-alive.false)) w.classes-is
]
