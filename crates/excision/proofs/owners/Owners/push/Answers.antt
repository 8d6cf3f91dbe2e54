use Rattle.std.proofs.Common.{refl}
use Rattle.excision.proofs.Owning.{push_kept, push_added, push_only, listed}
use Rattle.excision.proofs.owners.Owners.push.Goals as goal

pub returns-clause-kept : goal.returns-clause-kept
returns-clause-kept c = push_kept (λ l. l.items) c.self.inside.lists.items _ c.args.self.now c.args.number c.args.number c.push.new.self c.index_mut.result.now c.args.member c.self.view_is (listed (λ l. l.items) c.self.inside.lists.items c.args.self.now c.args.number c.self.view_is c.requires) refl c.index_mut.ensures.value c.in_ok-push.ensures.ok refl

pub returns-clause-added : goal.returns-clause-added
returns-clause-added c = push_added (λ l. l.items) c.self.inside.lists.items _ c.args.self.now c.args.number c.args.number c.push.new.self c.index_mut.result.now c.args.member c.self.view_is (listed (λ l. l.items) c.self.inside.lists.items c.args.self.now c.args.number c.self.view_is c.requires) refl c.index_mut.ensures.value c.in_ok-push.ensures.ok refl

pub returns-clause-only : goal.returns-clause-only
returns-clause-only c = push_only (λ l. l.items) c.self.inside.lists.items _ c.args.self.now c.args.number c.args.number c.push.new.self c.index_mut.result.now c.args.member c.self.view_is (listed (λ l. l.items) c.self.inside.lists.items c.args.self.now c.args.number c.self.view_is c.requires) refl c.index_mut.ensures.value c.in_ok-push.ensures.ok refl
