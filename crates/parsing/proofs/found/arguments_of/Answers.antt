use Rattle.parsing.proofs.Finding.{read_back}
use Rattle.parsing.proofs.found.arguments_of.Goals as goal

pub returns : goal.returns
returns c = λ said finds.
    read_back c.args.form.now.options c.options.result.now said c.new-arguments.result c.add_operands.new.arguments c.add_settings.new.arguments
    c.new-arguments.ensures (c.in_ok-add_operands.ensures said finds) c.options.ensures (c.in_ok-add_settings.ensures said finds)
