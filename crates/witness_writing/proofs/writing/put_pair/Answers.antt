use Rattle.std.specs.Prelude.{codes}
use Rattle.witness_writing.specs.Runs.{section_text}
use Rattle.witness_writing.proofs.Filling.{three_more}
use Rattle.witness_writing.proofs.writing.put_pair.Goals as goal

pub returns : goal.returns
returns g c =
    three_more c.args.to.now.items (codes "claim pair\npair domain\n") (section_text c.args.x.now.cells c.args.a.now.cells c.args.part.now) (codes "end\n") _ _ _
    c.in_ok-extend_from_slice.ensures.items c.in_ok-put_section.ensures c.in_ok-extend_from_slice-2.ensures.items
