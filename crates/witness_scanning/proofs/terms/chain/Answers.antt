use Rattle.witness_scanning.proofs.Chains.{read_more, read_whole, no_chain}
use Rattle.witness_scanning.proofs.terms.chain.Goals as goal

pub loop-coefficient-preserved : goal.loop-coefficient-preserved
loop-coefficient-preserved c =
    read_more c.args.modulus c.args.bytes.now c.loop-coefficient.terms.items c.push.new.self.items c.loop-coefficient.last.now c.loop-coefficient.rest.now c.in-Some.coefficient c.value.result
    c.in-Some.number.now c.in-Some.behind.now c.loop-coefficient.invariant c.in-Some.ensures c.value.ensures c.in_ok-push.ensures.items

pub returns-in-Some-after : goal.returns-in-Some-after
returns-in-Some-after c =
    read_whole c.args.modulus c.args.bytes.now c.loop-coefficient.terms.items c.loop-coefficient.last.now c.loop-coefficient.rest.now c.in-Some-after.behind.now c.loop-coefficient.invariant c.in-Some-after.ensures

pub returns : goal.returns
returns c =
    no_chain c.args.modulus c.args.bytes.now c.loop-coefficient.terms.items c.loop-coefficient.last.now c.loop-coefficient.rest.now c.loop-coefficient.invariant c.in_default.ensures c.in-None.ensures
