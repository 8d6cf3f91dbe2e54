use Rattle.std.proofs.Common.{◌≡◌, ◌⊎◌, inl, inr, sym, ap, ◌∙◌, length, ◌<◌, ◌≤◌, ◌==◌, arith, true, false}
use Rattle.std.specs.List.{list_all}
use Rattle.elem_cubes.specs.declared.range.TheConstants.{MAX_EMBEDDING}
use Rattle.cube_maps.specs.declared.parts.TheConstants.{MAP_PAIRS}
use Rattle.grid_files.proofs.Gathering.{on_ok}
use Rattle.map_files.specs.Elements.{changed, joined}
use Rattle.map_files.specs.Kept.{IsKept}
use Rattle.map_files.proofs.Gathering.{mixed_values, too_many, element_joins}
use Rattle.map_files.proofs.gathered.Gathered.join_cubes.Goals as goal
use Rattle.map_files.proofs.gathered.Gathered.join_cubes.Goals.{else-self-ne0-via-then-self-ne0+else-self-dimension, else-self-ne0-via-else-self-ne0}

pub returns-then-not-are_of : goal.returns-then-not-are_of
returns-then-not-are_of c = λ m q vs g a.
    let test : list_all (λ x. length x == length c.args.cube) c.args.values.now ≡ false =
    ap (λ n. list_all (λ x. length x == n) c.args.values.now) (sym c.embedding-dimension.ensures.embedding) ∙ sym c.are_of.ensures ∙ c.if-not-are_of.true in
    mixed_values m q vs c.args.cube c.args.values.now a test

pub returns-then-cube_count : goal.returns-then-cube_count
returns-then-cube_count c = λ m q vs g a.
    let agree : (c.args.self.now.dimension ≡ 0) ⊎ (c.args.self.now.dimension ≡ length c.args.cube) = elim c.else-self-ne0.branch [
      | else-self-ne0-via-then-self-ne0+else-self-dimension w ↦ inr (w.if-self-dimension.false ∙ c.embedding-dimension.ensures.embedding)
      | else-self-ne0-via-else-self-ne0 w ↦ inl w.if-self-ne0.false
    ] in
    let alike : list_all (λ x. length x == length c.args.cube) c.args.values.now ≡ true =
    ap (λ n. list_all (λ x. length x == n) c.args.values.now) (sym c.embedding-dimension.ensures.embedding) ∙ sym c.are_of.ensures ∙ c.if-not-are_of.false in
    let kept : IsKept c.join.new.self (changed c.args.cube (joined c.args.values.now) m.named) = on_ok c.join.result _ c.join.ensures (sym c.if-is_err.ensures.value) m.named g.kept in
    let many : MAP_PAIRS < length c.join.new.self.cubes = omega arith in
    too_many m c.args.self.now (record { dimension = 0; parts = c.join.new.self }) q vs c.args.cube c.args.values.now g a agree alike kept (inl many)

pub returns-then-pair_count : goal.returns-then-pair_count
returns-then-pair_count c = λ m q vs g a.
    let agree : (c.args.self.now.dimension ≡ 0) ⊎ (c.args.self.now.dimension ≡ length c.args.cube) = elim c.else-self-ne0.branch [
      | else-self-ne0-via-then-self-ne0+else-self-dimension w ↦ inr (w.if-self-dimension.false ∙ c.embedding-dimension.ensures.embedding)
      | else-self-ne0-via-else-self-ne0 w ↦ inl w.if-self-ne0.false
    ] in
    let alike : list_all (λ x. length x == length c.args.cube) c.args.values.now ≡ true =
    ap (λ n. list_all (λ x. length x == n) c.args.values.now) (sym c.embedding-dimension.ensures.embedding) ∙ sym c.are_of.ensures ∙ c.if-not-are_of.false in
    let kept : IsKept c.join.new.self (changed c.args.cube (joined c.args.values.now) m.named) = on_ok c.join.result _ c.join.ensures (sym c.if-is_err.ensures.value) m.named g.kept in
    let many : MAP_PAIRS < length c.join.new.self.pairs = omega arith in
    too_many m c.args.self.now (record { dimension = 0; parts = c.join.new.self }) q vs c.args.cube c.args.values.now g a agree alike kept (inr many)

pub returns : goal.returns
returns c = λ m q vs g a.
    let agree : (c.args.self.now.dimension ≡ 0) ⊎ (c.args.self.now.dimension ≡ length c.args.cube) = elim c.else-self-ne0.branch [
      | else-self-ne0-via-then-self-ne0+else-self-dimension w ↦ inr (w.if-self-dimension.false ∙ c.embedding-dimension.ensures.embedding)
      | else-self-ne0-via-else-self-ne0 w ↦ inl w.if-self-ne0.false
    ] in
    let alike : list_all (λ x. length x == length c.args.cube) c.args.values.now ≡ true =
    ap (λ n. list_all (λ x. length x == n) c.args.values.now) (sym c.embedding-dimension.ensures.embedding) ∙ sym c.are_of.ensures ∙ c.if-not-are_of.false in
    let kept : IsKept c.join.new.self (changed c.args.cube (joined c.args.values.now) m.named) = on_ok c.join.result _ c.join.ensures (sym c.if-is_err.ensures.value) m.named g.kept in
    let few : length c.join.new.self.cubes ≤ MAP_PAIRS = omega arith in
    let few_pairs : length c.join.new.self.pairs ≤ MAP_PAIRS = omega arith in
    let some : 1 ≤ length c.args.cube = omega arith in
    let axes : length c.args.cube ≤ MAX_EMBEDDING = omega arith in
    element_joins m c.args.self.now (record { dimension = c.embedding-dimension.result; parts = c.join.new.self }) q vs c.args.cube c.args.values.now g a agree alike kept
    c.embedding-dimension.ensures.embedding some axes few few_pairs
