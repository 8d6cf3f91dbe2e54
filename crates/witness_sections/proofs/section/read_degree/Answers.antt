use Rattle.std.proofs.Common.{◌∙◌, ap, sym, subst, length, map, arith}
use Rattle.std.proofs.lemmas.List.{length-map}
use Rattle.witness_sections.proofs.Parting.{transposed_as}
use Rattle.witness_types.specs.Parts.{beside, degrees_of}
use Rattle.witness_sections.specs.Readings.{AreRead}
use Rattle.witness_sections.proofs.Termwise.{beside-few, beside-sizes}
use Rattle.witness_sections.proofs.section.read_degree.Goals as goal

pub transposed-requires : goal.transposed-requires
transposed-requires g c =
    let cs = c.deref.result.now in
    let a = c.in_ok-cycles.ensures.count in
    let b = beside-few c.args.degree (degrees_of cs) (map (λ z. z.1) cs) in
    let d = length-map cs (λ z. z.1) in
    let e = ap length c.deref.ensures.value in
    let f = ap length c.deref-4.ensures.value in
    ((omega arith), ((omega arith), omega (arith, a, b, d, e, f, c.requires.few)))

pub transposed-requires-2 : goal.transposed-requires-2
transposed-requires-2 g c =
    let a = c.in_ok-cocycles.ensures.count in
    let b = beside-few c.args.degree (degrees_of c.deref-2.result.now) c.deref-3.result.now in
    let e = ap length c.deref-3.ensures.value in
    let f = ap length c.deref-5.ensures.value in
    ((omega arith), ((omega arith), omega (arith, a, b, e, f, c.requires.sizes, c.requires.few)))

pub returns : goal.returns
returns g c =
    let p = g.row.P in
    let cells = c.args.cells.now in
    let to = c.args.to.now in
    let k = c.args.degree in
    let zs = c.args.part.now.cycles.items in
    let ws = c.args.part.now.cocycles.items in
    record {
      cycles = subst (λ ys. AreRead p cells to (beside k (degrees_of ys) (map (λ z. z.1) ys)) c.in_ok-cycles.cycles.items) c.deref.ensures.value c.in_ok-cycles.ensures;
      cocycles = subst (λ ys. AreRead p cells to (beside k (degrees_of ys) ws) c.in_ok-cocycles.cocycles.items) c.deref-2.ensures.value
          (subst (λ ys. AreRead p cells to (beside k (degrees_of c.deref-2.result.now) ys) c.in_ok-cocycles.cocycles.items) c.deref-3.ensures.value c.in_ok-cocycles.ensures);
      sizes = beside-sizes k (degrees_of zs) ws (map (λ z. z.1) zs) (c.requires.sizes ∙ sym (length-map zs (λ z. z.1)));
      at_count = c.in_ok-at_cycles.ensures.count ∙ c.len.ensures.count;
      at_cycles = transposed_as p c.len.result (length to) c.deref-4.result.now c.in_ok-cycles.cycles.items c.in_ok-at_cycles.at_cycles.items c.len.ensures.count c.deref-4.ensures.value c.in_ok-at_cycles.ensures.value;
      by_count = c.in_ok-at_cocycles.ensures.count ∙ c.len-2.ensures.count;
      at_cocycles = transposed_as p c.len-2.result (length to) c.deref-5.result.now c.in_ok-cocycles.cocycles.items c.in_ok-at_cocycles.at_cocycles.items c.len-2.ensures.count c.deref-5.ensures.value c.in_ok-at_cocycles.ensures.value;
    }
