-- What is left to show of `made`.
use Rattle.std.proofs.Common.{refl, ◌∙◌}
use Rattle.chain_files.proofs.Files.{made_within, made_fault, made_file}
use Rattle.chain_files.proofs.chain_file.made.Goals as goal

pub complex_fault-requires-clause-within : goal.complex_fault-requires-clause-within
complex_fault-requires-clause-within g c =
    made_within g.row.P c.args.known.content c.as_slice.result.now c.into_parts-degrees.result.0.items c.as_slice-in-Err.result.now c.in_ok-chains.chains.items c.in_ok-chains.ensures
    (c.as_slice.ensures.value ∙ c.into_parts-degrees.ensures.boundaries) c.into_parts-degrees.ensures.degrees
    (c.as_slice-in-Err.ensures.value ∙ c.in_ok-kept.ensures.items ∙ c.as_slice-3.ensures.value)
    c.in-Err.fault c.into_parts-degrees.ensures.known.degrees c.requires.graded c.in-Err.ensures.err

pub returns-in-Ok-clause-ok : goal.returns-in-Ok-clause-ok
returns-in-Ok-clause-ok g c =
    let file = made_file g.row.P c.args.known.content c.as_slice.result.now c.into_parts-degrees.result.0.items c.into_parts-degrees.result.0.items c.in_ok-chains.chains.items c.in_ok-chains.ensures
    (c.as_slice.ensures.value ∙ c.into_parts-degrees.ensures.boundaries) c.into_parts-degrees.ensures.degrees refl
    c.top-top.result c.in-Ok.complex c.top-top.ensures c.in-Ok.ensures.ok.0 c.in-Ok.ensures.ok.1 in
    (file, c.in-Ok.ensures.ok.2)

pub returns-in-Err-clause-err : goal.returns-in-Err-clause-err
returns-in-Err-clause-err g c =
    rw c.complex_fault.ensures (made_fault g.row.P c.args.known.content c.as_slice.result.now c.into_parts-degrees.result.0.items c.as_slice-in-Err.result.now c.in_ok-chains.chains.items c.in_ok-chains.ensures
    (c.as_slice.ensures.value ∙ c.into_parts-degrees.ensures.boundaries) c.into_parts-degrees.ensures.degrees
    (c.as_slice-in-Err.ensures.value ∙ c.in_ok-kept.ensures.items ∙ c.as_slice-3.ensures.value)
    c.in-Err.fault c.requires.graded c.in-Err.ensures.err)
