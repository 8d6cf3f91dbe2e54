use Rattle.std.proofs.Common.{◌≡◌, sum, ap, arith, length, subst, IfOk}
use Rattle.chain_files.specs.Complexes.{FileComplex, AreCountsBelow}
use Rattle.chain_files.specs.Making.{AreSumsBefore}
use Rattle.chain_files.proofs.Numbering.{few_sums, counts_below, if_ok_map}
use Rattle.chain_files.proofs.chain_file.ChainFile.counts_below.Goals as goal

pub sums_before-requires : goal.sums_before-requires
sums_before-requires g c =
    let all : sum c.deref.result.now ≡ sum c.self.inside.counts.items = ap sum c.deref.ensures.value in
    let few = few_sums c.self.inside.complex.degrees c.self.inside.counts.items c.self.inside.top c.self.invariant.0 in
    let complex = c.len-len.ensures.complex in
    omega (arith, all, few, complex.sizes, complex.short)

pub returns : goal.returns
returns g c =
    let inside = c.self.inside in
    let counts = inside.counts.items in
    subst (λ (f : FileComplex). IfOk c.sums_before.result (λ sums. AreCountsBelow f.complex.degrees f.top sums.items)) c.self.view_is
    (if_ok_map (λ sums. AreSumsBefore c.deref.result.now (length c.deref.result.now) sums.items) (λ sums. AreCountsBelow inside.complex.degrees inside.top sums.items) c.sums_before.result
    (λ sums h. counts_below inside.complex.degrees counts inside.top c.self.invariant.0 sums.items (subst (λ ns. AreSumsBefore ns (length ns) sums.items) c.deref.ensures.value h))
    c.sums_before.ensures)
