use Rattle.std.proofs.Common.{◌≤◌, ◌∙◌, List, ap, length, subst, sym}
use Rattle.elem_cubes.specs.Cells.{Factor}
use Rattle.cube_sets.specs.Closures.{cells_of}
use Rattle.witness_writing.proofs.Counting.{relative_inside}
use Rattle.witness_reading.proofs.Tables.{table_told, numbers_told, wanted_told, table_short, as_many}
use Rattle.witness_reading.proofs.cells.pair_cells.Goals as goal

pub faces-requires : goal.faces-requires
faces-requires c = subst (λ (l : List (List Factor)). length (cells_of l) ≤ 4096) (sym c.in_ok-set.ensures) c.requires.few

pub numbers_of-requires-clause-inside : goal.numbers_of-requires-clause-inside
numbers_of-requires-clause-inside c =
    relative_inside c.args.x.now.cells c.args.a.now.cells c.in_ok-all.all c.in_ok-kept.kept (c.in_ok-all.ensures ∙ ap cells_of c.in_ok-set.ensures) c.in_ok-kept.ensures

pub numbers_of-requires-clause-few : goal.numbers_of-requires-clause-few
numbers_of-requires-clause-few c =
    subst (λ (l : List (List Factor)). length l ≤ 4096) (sym (c.in_ok-all.ensures ∙ ap cells_of c.in_ok-set.ensures)) c.requires.few

pub returns-clause-table : goal.returns-clause-table
returns-clause-table c =
    table_told c.args.x.now.cells c.args.a.now.cells c.in_ok-all.all c.in_ok-kept.kept c.in_ok-table.table.items (c.in_ok-all.ensures ∙ ap cells_of c.in_ok-set.ensures)
    c.in_ok-kept.ensures c.in_ok-table.ensures

pub returns-clause-numbers : goal.returns-clause-numbers
returns-clause-numbers c =
    numbers_told c.args.x.now.cells c.args.a.now.cells c.in_ok-all.all c.in_ok-kept.kept c.in_ok-numbers.numbers.items (c.in_ok-all.ensures ∙ ap cells_of c.in_ok-set.ensures)
    c.in_ok-kept.ensures c.in_ok-numbers.ensures

pub returns-clause-wanted : goal.returns-clause-wanted
returns-clause-wanted c =
    wanted_told c.args.x.now.cells c.args.a.now.cells c.in_ok-all.all c.in_ok-kept.kept c.in_ok-wanted.wanted.items c.in_ok-kept.ensures c.in_ok-wanted.ensures

pub returns-clause-short : goal.returns-clause-short
returns-clause-short c =
    table_short c.args.x.now.cells c.args.a.now.cells c.in_ok-all.all c.in_ok-kept.kept c.in_ok-table.table.items (c.in_ok-all.ensures ∙ ap cells_of c.in_ok-set.ensures)
    c.requires.few c.in_ok-table.ensures

pub returns-clause-beside : goal.returns-clause-beside
returns-clause-beside c =
    as_many c.args.x.now.cells c.args.a.now.cells c.in_ok-all.all c.in_ok-kept.kept c.in_ok-numbers.numbers.items c.in_ok-wanted.wanted.items c.in_ok-numbers.ensures c.in_ok-wanted.ensures
