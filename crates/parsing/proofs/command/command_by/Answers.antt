use Rattle.std.proofs.Common.{◌≡◌, ◌∙◌, true, None, refl, sym, ap, true≢false}
use Rattle.clap.specs.Words.{app_of}
use Rattle.clap.specs.declared.error.kind.ErrorKind.TheVariants as kind
use Rattle.command_line.specs.Forms.{spoken}
use Rattle.command_line.specs.Words.{formed, request_of}
use Rattle.std.specs.Prelude.{Option}
use Rattle.command_line.specs.Words.{Request}
use Rattle.parsing.proofs.Answering.{Taken, asked, not_formed, refused_words, simply, taken_words}
use Rattle.parsing.proofs.command.command_by.Goals as goal

pub returns-in-Err-2 : goal.returns-in-Err-2
returns-in-Err-2 c =
    let none : asked c.args.form.now c.args.words.now ≡ None =
    refused_words c.args.form.now c.args.words.now (app_of c.in_ok-syntax_of.field-0) (spoken c.args.words.now) c.in-Err.error c.requires c.in_ok-syntax_of.ensures refl
    (c.in-Err.ensures.kinds (simply c.args.form.now (app_of c.in_ok-syntax_of.field-0) c.in_ok-syntax_of.ensures))
    (λ m.
    let k : c.kind.result ≡ kind.OutOfMemory = c.kind.ensures ∙ m in
    let t : c.eq.result ≡ true = rw k at c.eq.ensures in
    absurd (true≢false (sym t ∙ c.if-eq.false))) in
    not_formed c.args.form.now c.name.result.now c.not_a_form.result (asked c.args.form.now c.args.words.now) none c.name.ensures c.not_a_form.ensures

pub returns-in-Some : goal.returns-in-Some
returns-in-Some c =
    let t : Taken c.args.form.now c.args.words.now c.in-Ok.matches =
    taken_words c.args.form.now c.args.words.now (app_of c.in_ok-syntax_of.field-0) (spoken c.args.words.now) c.in-Ok.matches c.requires c.in_ok-syntax_of.ensures refl
    (c.in-Ok.ensures.kinds (simply c.args.form.now (app_of c.in_ok-syntax_of.field-0) c.in_ok-syntax_of.ensures)) c.in-Ok.ensures.matches in
    ap (λ (o : Option Request). formed c.args.form.now o)
    (t.request ∙ ap (request_of c.args.form.now) (sym (c.in_ok-arguments.ensures t.said t.found)) ∙ sym c.in-Some.ensures)

pub returns : goal.returns
returns c =
    let t : Taken c.args.form.now c.args.words.now c.in-Ok.matches =
    taken_words c.args.form.now c.args.words.now (app_of c.in_ok-syntax_of.field-0) (spoken c.args.words.now) c.in-Ok.matches c.requires c.in_ok-syntax_of.ensures refl
    (c.in-Ok.ensures.kinds (simply c.args.form.now (app_of c.in_ok-syntax_of.field-0) c.in_ok-syntax_of.ensures)) c.in-Ok.ensures.matches in
    not_formed c.args.form.now c.name-in-None.result.now c.not_a_form-in-None.result (asked c.args.form.now c.args.words.now)
    (t.request ∙ ap (request_of c.args.form.now) (sym (c.in_ok-arguments.ensures t.said t.found)) ∙ sym c.in-None.ensures) c.name-in-None.ensures c.not_a_form-in-None.ensures
