use Rattle.std.proofs.Common.{◌≡◌, sym, ap, ◌∙◌, true, rules}
use Rattle.cube_sets.specs.Sets.{Members, holds}
use Rattle.cube_sets.specs.Closures.{is_cell_of}
use Rattle.map_checks.specs.Faults.{AreNamed}
use Rattle.value_tests.proofs.Faces.{is_cell_held, named_members}
use Rattle.value_tests.proofs.map_tests.plain_value.Goals as goal

pub value_at-requires : goal.value_at-requires
value_at-requires c =
    let held : c.holds.result ≡ true = search rules in
    let cell : is_cell_of c.args.x.now.cells c.args.cell.now ≡ true = is_cell_held c.args.x.now.cells c.args.cell.now (sym (c.holds.ensures ∙ ap (λ (s : Members). holds s c.args.cell.now) c.in-Ok-closure.ensures.cells) ∙ held) in
    let named : AreNamed c.args.map.now.named c.args.x.now.cells = named_members c.args.map.now.named c.args.x.now.cells c.args.x.now.cells c.in-Ok.ensures.ok.named in
    search rules
