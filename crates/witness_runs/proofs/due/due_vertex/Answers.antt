use Rattle.std.proofs.Common.{sym, ◌∙◌}
use Rattle.std.proofs.lemmas.Bool.{true≢false}
use Rattle.witness_runs.proofs.Naming.{due_vertex_from, other_vertex_from}
use Rattle.witness_runs.proofs.due.due_vertex.Goals as goal

pub returns-then-is_of_kind-clause-ok : goal.returns-then-is_of_kind-clause-ok
returns-then-is_of_kind-clause-ok c =
    due_vertex_from c.args.number c.args.kinds.now c.args.wanted c.args.bytes.now c.in-Some.vertex c.in-Some.rest.now c.requires c.in-Some.ensures (c.is_of_kind.ensures.0 c.if-is_of_kind.true)

pub returns-else-is_of_kind-clause-err : goal.returns-else-is_of_kind-clause-err
returns-else-is_of_kind-clause-err c =
    other_vertex_from c.args.number c.args.kinds.now c.args.wanted c.args.bytes.now c.in-Some.vertex c.in-Some.rest.now c.requires c.in-Some.ensures
    (λ k. true≢false (sym (c.is_of_kind.ensures.1 k) ∙ c.if-is_of_kind.false))
