use Rattle.std.proofs.Common.{◌∙◌, ap, arith, sym, subst, cond}
use Rattle.packed_words.specs.Words.{Key, AreKeysOf, state_of}
use Rattle.std.specs.Prelude.{List}
use Rattle.elem_cubes.specs.Cells.{same_cell}
use Rattle.packed_words.proofs.Keys.{word_there, not_yet, set_more}
use Rattle.packed_words.proofs.words.words_of.Goals as goal

pub enliven-requires-clause-placed : goal.enliven-requires-clause-placed
enliven-requires-clause-placed c = word_there c.args.cells.now c.in_ok-keys.keys.items c.cells.words.keys c.cells.number c.cell_near.result (omega (arith, c.len.ensures.count)) c.in_ok-keys.ensures.keys (c.cells.invariant.0 ∙ c.in_ok-words.ensures.keys) c.cell_near.ensures

pub enliven-requires-clause-dead : goal.enliven-requires-clause-dead
enliven-requires-clause-dead c = ap (state_of c.cells.words) c.cell_near.ensures ∙ not_yet c.args.cells.now c.args.alive.now c.in_ok-words.words.keys c.len.ensures.sorted c.cells.words c.cells.number (omega (arith, c.len.ensures.count)) c.cells.invariant

pub cells-preserved : goal.cells-preserved
cells-preserved c = set_more c.args.cells.now c.args.alive.now c.in_ok-words.words.keys c.len.ensures.sorted c.cells.words c.enliven.new.self c.cells.number (omega (arith, c.len.ensures.count)) c.if-not-alive-number.false c.cells.invariant c.enliven.ensures.keys
    (λ q. c.enliven.ensures.states q ∙ ap (λ x. cond (same_cell q x) 1 (state_of c.cells.words q)) c.cell_near.ensures)

pub returns-clause-keys : goal.returns-clause-keys
returns-clause-keys c = subst (λ (ks : List Key). AreKeysOf c.args.cells.now ks) (sym (c.cells.invariant.0 ∙ c.in_ok-words.ensures.keys)) c.in_ok-keys.ensures.keys
