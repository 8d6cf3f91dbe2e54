use Rattle.std.proofs.Common.{◌≡◌, ◌++◌, sym, subst, IfSome, Some}
use Rattle.witness_laws.specs.Tables.{IsTables}
use Rattle.witness_types.specs.declared.input.Input.{Input}
use Rattle.witness_types.specs.declared.input.Input.TheVariants as inputs
use Rattle.witness_types.specs.Inputs.{given_of}
use Rattle.witness_types.specs.Parts.{IsInOrder, map_part, read, tables_of}
use Rattle.witness_types.specs.Texts.{tables_text}
use Rattle.witness_writing.specs.Runs.{first_text, pair_text, map_text}
use Rattle.witness_writing.proofs.Whole.{whole_given, pair_whole, map_whole}
use Rattle.witness_writing.proofs.writing.write_witness.Goals as goal

pub returns-in-Pair : goal.returns-in-Pair
returns-in-Pair g c =
    let p = g.row.P in
    let part = c.args.domain.now in
    let x = c.in-Pair.x.now.cells in
    let a = c.in-Pair.a.now.cells in
    let text = λ (z : Input). tables_text p z (tables_of (given_of z) part (read (λ m. map_part (given_of z) m.now) c.args.map)) in
    let Q : Input → Type 0 = λ z. IsInOrder (given_of z).top part → IsTables p (given_of z) (tables_of (given_of z) part (read (λ m. map_part (given_of z) m.now) c.args.map))
    → first_text p ++ pair_text x a part ≡ text z in
    let e = subst Q (sym c.in-Pair.is)
    (λ o t. pair_whole (given_of (inputs.Pair c.in-Pair.x c.in-Pair.a)).top x a part (read (λ m. map_part (given_of (inputs.Pair c.in-Pair.x c.in-Pair.a)) m.now) c.args.map) o t)
    c.requires.order c.requires.parts.fits in
    whole_given c.pair_file.result (λ b. b.items) (first_text p ++ pair_text x a part) (text c.args.input.now) e c.pair_file.ensures

pub returns-in-Some : goal.returns-in-Some
returns-in-Some g c =
    let p = g.row.P in
    let part = c.args.domain.now in
    let more = c.in-Some.part.now in
    let f = c.in-Map.cubes.now.named in
    let x = c.in-Map.x.now.cells in
    let a = c.in-Map.a.now.cells in
    let y = c.in-Map.y.now.cells in
    let b = c.in-Map.b.now.cells in
    let top = (given_of (inputs.Map c.in-Map.cubes c.in-Map.x c.in-Map.a c.in-Map.y c.in-Map.b)).top in
    let first = first_text p ++ map_text f x a y b part more in
    let Q : Input → Type 0 = λ z. IsInOrder (given_of z).top part → IsInOrder (given_of z).top more.range
    → IsTables p (given_of z) (tables_of (given_of z) part (read (λ m. map_part (given_of z) m.now) (Some c.in-Some.part)))
    → first ≡ tables_text p z (tables_of (given_of z) part (read (λ m. map_part (given_of z) m.now) (Some c.in-Some.part))) in
    let e = subst Q (sym c.in-Map.is) (λ o r t. map_whole top f x a y b part more o r t) c.requires.order in
    let z = c.args.input.now in
    let w = subst (λ m. IfSome m (λ k. IsInOrder (given_of z).top k.now.range) → IsTables p (given_of z) (tables_of (given_of z) part (read (λ k. map_part (given_of z) k.now) m))
    → first ≡ tables_text p z (tables_of (given_of z) part (read (λ k. map_part (given_of z) k.now) m))) (sym c.in-Some.is) e c.requires.range_order c.requires.parts.fits in
    whole_given c.map_file.result (λ v. v.items) first (tables_text p z (tables_of (given_of z) part (read (λ k. map_part (given_of z) k.now) c.args.map))) w c.map_file.ensures
