use Rattle.std.proofs.Common.{◌∙◌, ◌^◌, ◌%◌, ap, arith}
use Rattle.packed_words.specs.Words.{PackedWords, state_of}
use Rattle.packed_words.proofs.Placed.{power_small}
use Rattle.packed_words.proofs.Keys.{made_fits, made_states}
use Rattle.packed_words.proofs.words.Words.enliven.Goals as goal

pub pow-unit-requires : goal.pow-unit-requires
pow-unit-requires c = power_small c.from.result (omega arith)

pub overflow_add-word : goal.overflow_add-word
overflow_add-word c =
    let e = c.pow-unit.ensures ∙ ap (λ n. 16 ^ n) (c.from.ensures ∙ ap (λ n. n % 16) c.axes.ensures.axes) in
    let fits = made_fits c.args.self.now c.args.cell.now c.len.ensures.words c.requires.placed c.requires.in_range (omega (arith, c.axes.ensures.few, c.axes.ensures.axes)) c.requires.dead c.place_near-place.result c.word.result c.pow-unit.result c.place_near-place.ensures.place c.word.ensures.value e in
    omega (arith, fits.small)

pub put-requires-clause-fits : goal.put-requires-clause-fits
put-requires-clause-fits c =
    let e = c.pow-unit.ensures ∙ ap (λ n. 16 ^ n) (c.from.ensures ∙ ap (λ n. n % 16) c.axes.ensures.axes) in
    made_fits c.args.self.now c.args.cell.now c.len.ensures.words c.requires.placed c.requires.in_range (omega (arith, c.axes.ensures.few, c.axes.ensures.axes)) c.requires.dead c.place_near-place.result c.word.result c.pow-unit.result c.place_near-place.ensures.place c.word.ensures.value e

pub returns-clause-states : goal.returns-clause-states
returns-clause-states c =
    let e = c.pow-unit.ensures ∙ ap (λ n. 16 ^ n) (c.from.ensures ∙ ap (λ n. n % 16) c.axes.ensures.axes) in
    λ q. ap (λ (w : PackedWords). state_of w q) c.put.ensures ∙ made_states c.args.self.now c.args.cell.now c.len.ensures.words c.requires.placed c.requires.in_range (omega (arith, c.axes.ensures.few, c.axes.ensures.axes)) c.requires.dead c.place_near-place.result c.word.result c.pow-unit.result c.place_near-place.ensures.place c.word.ensures.value e q
