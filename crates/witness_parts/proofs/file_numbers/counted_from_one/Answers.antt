use Rattle.std.proofs.Common.{◌≡◌, ap, ◌∙◌, ◌%◌, arith}
use Rattle.std.proofs.lemmas.List.{take_all}
use Rattle.field_mod.proofs.Table.{two_le}
use Rattle.chains.specs.Terms.{coefficient}
use Rattle.witness_parts.specs.Filed.{from_one}
use Rattle.witness_parts.proofs.Filing.{shifted_list}
use Rattle.witness_parts.proofs.file_numbers.counted_from_one.Goals as goal

pub returns : goal.returns
returns g c =
    let l : c.deref.result.now ≡ from_one c.args.chain.now =
    c.deref.ensures.value ∙ c.loop-place.invariant ∙ ap from_one (take_all c.loop-place.place c.args.chain.now (omega (arith, c.loop-place-test.false, c.len-place-end.ensures.count))) in
    shifted_list g.row.P c.args.chain.now c.in_ok-shifted.shifted (omega (arith, two_le g.row.P c.args.field.listed)) c.len-place-end.ensures.normal c.requires c.in_ok-shifted.ensures.normal
    (λ h. c.in_ok-shifted.ensures.sum h ∙ ap (λ ts. coefficient ts h % g.row.P) l)
