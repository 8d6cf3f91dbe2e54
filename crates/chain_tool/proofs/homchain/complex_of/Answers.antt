use Rattle.std.proofs.Common.{refl}
use Rattle.chain_files.proofs.Squares.{file_complexes}
use Rattle.chain_tool.proofs.homchain.complex_of.Goals as goal

pub returns-in-Ok-clause-file : goal.returns-in-Ok-clause-file
returns-in-Ok-clause-file g c =
    let v = c.in-Ok.ensures.value in
    (v.0, (v.0, v.1, (file_complexes g.row.P v.0 c.in-Ok.file v.2 v.3, refl)), v.2)
