use Rattle.std.proofs.Common.{length, max, Some}
use Rattle.elem_cubes.specs.Cells.{full_cell}
use Rattle.grid_files.specs.Items.{cell_between, cause_of, with_item}
use Rattle.grid_files.specs.Readers.{Joins}
use Rattle.grid_files.proofs.Gathering.{full_item, elementary_item}
use Rattle.grid_files.proofs.gathered.Gathered.join.Goals as goal

pub returns-in-Full-clause-joins : goal.returns-in-Full-clause-joins
returns-in-Full-clause-joins c = λ set item g is fit.
    full_item (λ item. Joins (cause_of c.args.self.now.kind set item) (with_item set item) c.join_cube.new.self c.join_cube.result) c.args.closing c.in-Full.corner item c.in-Full.is is fit
    (λ xs ic h. c.join_cube.ensures.joins set (length xs) (Some (full_cell xs)) g (c.full_cube.ensures.cell xs ic h))

pub returns-in-Elementary-clause-joins : goal.returns-in-Elementary-clause-joins
returns-in-Elementary-clause-joins c = λ set item g is fit.
    elementary_item (λ item. Joins (cause_of c.args.self.now.kind set item) (with_item set item) c.join_cube-in-Elementary.new.self c.join_cube-in-Elementary.result) c.args.closing c.in-Elementary.lower c.in-Elementary.upper item c.in-Elementary.is is fit
    (λ ls us il iu hl hu. c.join_cube-in-Elementary.ensures.joins set (max (length ls) (length us)) (cell_between ls us) g (c.cube_between.ensures.cell ls us il iu hl hu))
