use Rattle.std.proofs.Common.{◌≡◌, ◌≤◌, length, ap, ◌∙◌, arith}
use Rattle.cube_maps.specs.CubeMaps.{pairs_of}
use Rattle.cube_maps.specs.Parts.{namings_in}
use Rattle.cube_maps.proofs.Made.{AreSorted, made_map, made_names, made_pairs}
use Rattle.cube_maps.proofs.cube_map.CubeMap.of_parts.Goals as goal

pub invariant_of-result : goal.invariant_of-result
invariant_of-result c =
    let a : AreSorted c.args.dimension c.args.cubes.items c.sort_distinct.new.values.items c.args.pairs.items c.sort_distinct-2.new.values.items = record {
      axes = c.requires.axes;
      unknown = c.requires.unknown;
      full = c.requires.cubes;
      values = c.requires.values;
      named = c.requires.named;
      few = omega arith;
      few_pairs = omega arith;
      sorted = c.sort_distinct.ensures.sorted;
      sorted_pairs = c.sort_distinct-2.ensures.sorted;
      same = c.sort_distinct.ensures.members;
      same_pairs = c.sort_distinct-2.ensures.members;
      kept = c.sort_distinct.ensures.kept;
      kept_pairs = c.sort_distinct-2.ensures.kept;
      bound = omega arith;
      bound_pairs = omega arith;
    } in
    let es = c.in_ok-entries.entries.items in
    let is : es ≡ namings_in c.sort_distinct.new.values.items c.sort_distinct-2.new.values.items = c.in_ok-entries.ensures.entries ∙ ap (λ l. namings_in l c.deref-2.result.now) c.deref.ensures.value
    ∙ ap (namings_in c.sort_distinct.new.values.items) c.deref-2.ensures.value in
    let few : length (pairs_of es) ≤ length c.sort_distinct-2.new.values.items = rw (← c.deref-2.ensures.value) c.in_ok-entries.ensures.count in
    made_map c.args.dimension c.args.cubes.items c.sort_distinct.new.values.items c.args.pairs.items c.sort_distinct-2.new.values.items es a is few

pub returns-clause-map : goal.returns-clause-map
returns-clause-map c =
    let a : AreSorted c.args.dimension c.args.cubes.items c.sort_distinct.new.values.items c.args.pairs.items c.sort_distinct-2.new.values.items = record {
      axes = c.requires.axes;
      unknown = c.requires.unknown;
      full = c.requires.cubes;
      values = c.requires.values;
      named = c.requires.named;
      few = omega arith;
      few_pairs = omega arith;
      sorted = c.sort_distinct.ensures.sorted;
      sorted_pairs = c.sort_distinct-2.ensures.sorted;
      same = c.sort_distinct.ensures.members;
      same_pairs = c.sort_distinct-2.ensures.members;
      kept = c.sort_distinct.ensures.kept;
      kept_pairs = c.sort_distinct-2.ensures.kept;
      bound = omega arith;
      bound_pairs = omega arith;
    } in
    let es = c.in_ok-entries.entries.items in
    let is : es ≡ namings_in c.sort_distinct.new.values.items c.sort_distinct-2.new.values.items = c.in_ok-entries.ensures.entries ∙ ap (λ l. namings_in l c.deref-2.result.now) c.deref.ensures.value
    ∙ ap (namings_in c.sort_distinct.new.values.items) c.deref-2.ensures.value in
    let few : length (pairs_of es) ≤ length c.sort_distinct-2.new.values.items = rw (← c.deref-2.ensures.value) c.in_ok-entries.ensures.count in
    made_map c.args.dimension c.args.cubes.items c.sort_distinct.new.values.items c.args.pairs.items c.sort_distinct-2.new.values.items es a is few

pub returns-clause-names : goal.returns-clause-names
returns-clause-names c =
    let a : AreSorted c.args.dimension c.args.cubes.items c.sort_distinct.new.values.items c.args.pairs.items c.sort_distinct-2.new.values.items = record {
      axes = c.requires.axes;
      unknown = c.requires.unknown;
      full = c.requires.cubes;
      values = c.requires.values;
      named = c.requires.named;
      few = omega arith;
      few_pairs = omega arith;
      sorted = c.sort_distinct.ensures.sorted;
      sorted_pairs = c.sort_distinct-2.ensures.sorted;
      same = c.sort_distinct.ensures.members;
      same_pairs = c.sort_distinct-2.ensures.members;
      kept = c.sort_distinct.ensures.kept;
      kept_pairs = c.sort_distinct-2.ensures.kept;
      bound = omega arith;
      bound_pairs = omega arith;
    } in
    let es = c.in_ok-entries.entries.items in
    let is : es ≡ namings_in c.sort_distinct.new.values.items c.sort_distinct-2.new.values.items = c.in_ok-entries.ensures.entries ∙ ap (λ l. namings_in l c.deref-2.result.now) c.deref.ensures.value
    ∙ ap (namings_in c.sort_distinct.new.values.items) c.deref-2.ensures.value in
    made_names c.args.dimension c.args.cubes.items c.sort_distinct.new.values.items c.args.pairs.items c.sort_distinct-2.new.values.items es a is

pub returns-clause-pairs : goal.returns-clause-pairs
returns-clause-pairs c =
    let a : AreSorted c.args.dimension c.args.cubes.items c.sort_distinct.new.values.items c.args.pairs.items c.sort_distinct-2.new.values.items = record {
      axes = c.requires.axes;
      unknown = c.requires.unknown;
      full = c.requires.cubes;
      values = c.requires.values;
      named = c.requires.named;
      few = omega arith;
      few_pairs = omega arith;
      sorted = c.sort_distinct.ensures.sorted;
      sorted_pairs = c.sort_distinct-2.ensures.sorted;
      same = c.sort_distinct.ensures.members;
      same_pairs = c.sort_distinct-2.ensures.members;
      kept = c.sort_distinct.ensures.kept;
      kept_pairs = c.sort_distinct-2.ensures.kept;
      bound = omega arith;
      bound_pairs = omega arith;
    } in
    let es = c.in_ok-entries.entries.items in
    let is : es ≡ namings_in c.sort_distinct.new.values.items c.sort_distinct-2.new.values.items = c.in_ok-entries.ensures.entries ∙ ap (λ l. namings_in l c.deref-2.result.now) c.deref.ensures.value
    ∙ ap (namings_in c.sort_distinct.new.values.items) c.deref-2.ensures.value in
    made_pairs c.args.dimension c.args.cubes.items c.sort_distinct.new.values.items c.args.pairs.items c.sort_distinct-2.new.values.items es a is
