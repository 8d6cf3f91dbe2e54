use Rattle.std.proofs.Common.{◌∙◌, None, Some, cond, sym, ap}
use Rattle.parsing.specs.Found.{valued}
use Rattle.parsing.proofs.Finding.{bare_setting, flag_found, value_found}
use Rattle.parsing.proofs.found.setting_found.Goals as goal

pub returns-in_default : goal.returns-in_default
returns-in_default c = λ said finds.
    value_found c.args.choice c.args.matches.now said (sym c.takes_value.ensures ∙ c.if-takes_value.true) finds c.name.result.now c.name.ensures None c.in_default.ensures

pub returns-then-takes_value : goal.returns-then-takes_value
returns-then-takes_value c = λ said finds.
    ap (λ v. Some (valued c.args.choice v)) c.in_ok-of.ensures
    ∙ value_found c.args.choice c.args.matches.now said (sym c.takes_value.ensures ∙ c.if-takes_value.true) finds c.name.result.now c.name.ensures (Some c.in-Some.value.now) c.in-Some.ensures

pub returns-then-get_flag : goal.returns-then-get_flag
returns-then-get_flag c = λ said finds.
    sym (ap (λ b. cond b (Some (bare_setting c.args.choice)) None) c.if-get_flag.true)
    ∙ flag_found c.args.choice c.args.matches.now said (sym c.takes_value.ensures ∙ c.if-takes_value.false) finds c.name-2.result.now c.name-2.ensures c.get_flag.result
    c.get_flag.ensures.none c.get_flag.ensures.value c.get_flag.ensures.other

pub returns : goal.returns
returns c = λ said finds.
    sym (ap (λ b. cond b (Some (bare_setting c.args.choice)) None) c.if-get_flag.false)
    ∙ flag_found c.args.choice c.args.matches.now said (sym c.takes_value.ensures ∙ c.if-takes_value.false) finds c.name-2.result.now c.name-2.ensures c.get_flag.result
    c.get_flag.ensures.none c.get_flag.ensures.value c.get_flag.ensures.other
