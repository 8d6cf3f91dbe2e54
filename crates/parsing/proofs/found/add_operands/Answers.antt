use Rattle.std.proofs.Common.{◌≡◌, ◌∙◌, ◌++◌, List, map, Option, None, Some, ap}
use Rattle.std.specs.Borrow.{Bor}
use Rattle.clap.specs.Walk.{Text}
use Rattle.parsing.proofs.Finding.{operand_more, operands_end, operands_found, same_list, with_operands}
use Rattle.parsing.proofs.found.add_operands.Goals as goal

pub loop-word-preserved : goal.loop-word-preserved
loop-word-preserved c =
    operand_more c.in-Some.words.now c.loop-word.word-index _ c.in_ok-operand.operand c.loop-word.arguments c.add_operand.new.self _
    c.loop-word-test.true c.in_ok-operand.ensures c.in_ok-add_operand.ensures c.loop-word.invariant

pub returns-in_default : goal.returns-in_default
returns-in_default c = λ said finds.
    let bad : ◌≡◌ {A = Option (List Text)} None (Some said.operands) = operands_found c.args.matches.now said finds None c.in_default.ensures in cc

pub returns : goal.returns
returns c = λ said finds.
    operands_end c.in-Some.words.now c.loop-word.word-index c.loop-word.arguments (with_operands c.args.arguments.now c.in-Some.words.now) c.loop-word-test.false c.loop-word.invariant
    ∙ ap (λ (ws : List Text). record { operands = c.args.arguments.now.operands ++ ws; settings = c.args.arguments.now.settings })
    (same_list (map (λ (w : Bor Text). w.now) c.in-Some.words.now) said.operands (operands_found c.args.matches.now said finds (Some (map (λ (w : Bor Text). w.now) c.in-Some.words.now)) c.in-Some.ensures))
