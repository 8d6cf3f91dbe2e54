use Rattle.std.proofs.Common.{w64}
use Rattle.std.proofs.lemmas.Int.{to_z-of_z}
use Rattle.chain_files.proofs.reader.Reader.number.Goals as goal

pub returns-in-Top : goal.returns-in-Top
returns-in-Top g c = rw c.in-Top.is (c.then.ensures _ _ _ (rw (to_z-of_z w64 c.args.z c.ranges.z) at c.set_top.ensures))

pub returns-in-Count : goal.returns-in-Count
returns-in-Count g c = rw c.in-Count.is (c.then-in-Count.ensures _ _ _ (rw (to_z-of_z w64 c.args.z c.ranges.z) at c.add_degree-made.ensures))

pub returns-in-Generator : goal.returns-in-Generator
returns-in-Generator g c = rw c.in-Generator.is (c.then-in-Generator.ensures _ _ _ (rw (to_z-of_z w64 c.args.z c.ranges.z) at c.begin_boundary.ensures))

pub returns-in-Target : goal.returns-in-Target
returns-in-Target g c = rw c.in-Target.is (c.then-in-Target.ensures _ _ _ (rw (to_z-of_z w64 c.args.z c.ranges.z) at c.add_term.ensures))
