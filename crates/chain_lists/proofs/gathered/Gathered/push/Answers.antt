use Rattle.std.proofs.Common.{refl}
use Rattle.chain_lists.proofs.Gathering.{push_here, push_other, listed}
use Rattle.chain_lists.proofs.gathered.Gathered.push.Goals as goal

pub returns-clause-here : goal.returns-clause-here
returns-clause-here c = push_here (λ l. l.items) c.self.inside.lists.items _ c.args.self.now c.args.list c.push.new.self c.index_mut.result.now (c.args.generator, c.args.number) c.self.view_is (listed (λ l. l.items) c.self.inside.lists.items c.args.self.now c.args.list c.self.view_is c.requires) c.index_mut.ensures.value c.in_ok-push.ensures.items refl

pub returns-clause-others : goal.returns-clause-others
returns-clause-others c = push_other (λ l. l.items) c.self.inside.lists.items _ c.args.self.now c.args.list c.push.new.self c.index_mut.result.now (c.args.generator, c.args.number) c.self.view_is (listed (λ l. l.items) c.self.inside.lists.items c.args.self.now c.args.list c.self.view_is c.requires) c.index_mut.ensures.value c.in_ok-push.ensures.items refl
