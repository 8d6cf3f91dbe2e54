-- Where all known dimensions of a map and its sets are equal, it fits with its sets.
use Rattle.std.proofs.Common.{◌≡◌, ℕ, List, Bool, true, false, ◌||◌, ◌&&◌, cond, eqb-true, refl, sym, ap, ◌∙◌, subst, Result, Ok, Err}
use Rattle.std.specs.Prelude.{◌==◌}
use Rattle.std.proofs.lemmas.Bool.{true≢false}
use Rattle.elem_cubes.specs.Cells.{Factor}
use Rattle.cube_sets.specs.Sets.{Members, dimensions_agree}
use Rattle.cube_sets.specs.Neighbours.{are_full}
use Rattle.cube_maps.specs.CubeMaps.{Mapping}
use Rattle.map_checks.specs.Carriers.{AreOfOneDimension}
use Rattle.faults.specs.declared.fault.Fault.{Fault}
use Rattle.faults.specs.declared.fault.Fault.TheVariants.{Dimension}
use Rattle.loading.specs.TwoSets.{second_name}
use Rattle.loading.specs.declared.two_sets.TwoSets.{TwoSets}
use Rattle.pair_maps.specs.declared.inputs.MapFiles.{MapFiles}
use Rattle.pair_maps.specs.Inputs.{known, with_known, and_then, with_pair, agreed, pair_map, IsFullPair, IsFitting}

middle_true : (b c : Bool) → (b || true || c) ≡ true
middle_true true c = refl
middle_true false c = refl

first_true : (x y z : Bool) → y ≡ false → z ≡ false → (x || y || z) ≡ true → x ≡ true
first_true true y z e f h = refl
first_true false true z e f h = absurd (true≢false e)
first_true false false true e f h = absurd (true≢false f)
first_true false false false e f h = absurd (true≢false (sym h))

-- what agrees with the first known one of two that agree, agrees with both
with_first : (a b c : ℕ) → dimensions_agree (known a b) c ≡ true → dimensions_agree a c ≡ true
with_first a b c k = by (a == 0) refl
  where
    by : (t : Bool) → (a == 0) ≡ t → dimensions_agree a c ≡ true
    by true e = ap (λ t. (a == c) || t || (c == 0)) e ∙ middle_true (a == c) (c == 0)
    by false e = subst (λ (d : ℕ). dimensions_agree d c ≡ true) (ap (λ t. cond t b a) e) k

with_second : (a b c : ℕ) → dimensions_agree a b ≡ true → dimensions_agree (known a b) c ≡ true → dimensions_agree b c ≡ true
with_second a b c h k = by (a == 0) (b == 0) refl refl
  where
    by : (t u : Bool) → (a == 0) ≡ t → (b == 0) ≡ u → dimensions_agree b c ≡ true
    by true u e f = subst (λ (d : ℕ). dimensions_agree d c ≡ true) (ap (λ t. cond t b a) e) k
    by false true e f = ap (λ t. (b == c) || t || (c == 0)) f ∙ middle_true (b == c) (c == 0)
    by false false e f =
        let same : a ≡ b = eqb-true a b (first_true (a == b) (a == 0) (b == 0) e f h) in
        subst (λ (d : ℕ). dimensions_agree d c ≡ true) (ap (λ t. cond t b a) e ∙ same) k

-- ---- the steps

-- both steps gave a value
pub both_given : {A B : Type 0} (first : Result A Fault) (next : A → Result B Fault) (y : B) → and_then first next ≡ Ok y → (x : A) × (first ≡ Ok x) × (next x ≡ Ok y)
both_given (Ok x) next y e = (x, refl, e)
both_given {A} {B} (Err fault) next y e = let never : ◌≡◌ {A = Result B Fault} (Err fault) (Ok y) = e in cc

-- where a set is not refused, its dimension agrees with the one before
pub given_known : (before : ℕ) (name : List ℕ) (set : Members) (d : ℕ) → with_known before name set ≡ Ok d → (dimensions_agree before set.dimension ≡ true) × (known before set.dimension ≡ d)
given_known before name set d e = by (dimensions_agree before set.dimension) refl
  where
    at : (b : Bool) → dimensions_agree before set.dimension ≡ b → cond b (Ok (known before set.dimension)) (Err (Dimension name set.dimension before)) ≡ Ok d
    at b f = ap (λ c. cond c (Ok (known before set.dimension)) (Err (Dimension name set.dimension before))) (sym f) ∙ e

    by : (b : Bool) → dimensions_agree before set.dimension ≡ b → (dimensions_agree before set.dimension ≡ true) × (known before set.dimension ≡ d)
    by true f = let i : ◌≡◌ {A = Result ℕ Fault} (Ok (known before set.dimension)) (Ok d) = at true f in (f, (let j : known before set.dimension ≡ d = cc in j))
    by false f = let never : ◌≡◌ {A = Result ℕ Fault} (Err (Dimension name set.dimension before)) (Ok d) = at false f in cc

all_true : (s t u v : Bool) → s ≡ true → t ≡ true → u ≡ true → v ≡ true → (s && t && u && v) ≡ true
all_true true true true v e f g h = h
all_true true true false v e f g h = g
all_true true false u v e f g h = f
all_true false t u v e f g h = e

pub fitting : (files : MapFiles) (map : Mapping) (domain range : TwoSets) (d : ℕ) → IsFullPair domain → IsFullPair range → agreed files map domain range ≡ Ok d → IsFitting (pair_map map domain range)
fitting files map domain range d fd fr e =
    let m = map.dimension in
    let x = domain.x.dimension in
    let a = domain.y.dimension in
    let y = range.x.dimension in
    let b = range.y.dimension in
    let whole = both_given (with_pair m files.x files.a domain) (λ with_domain. with_pair with_domain files.y files.b range) d e in
    let first = both_given (with_known m files.x domain.x) (λ with_x. with_known with_x (second_name files.x files.a) domain.y) whole.0 whole.1 in
    let second = both_given (with_known whole.0 files.y range.x) (λ with_y. with_known with_y (second_name files.y files.b) range.y) d whole.2 in
    let at_x = given_known m files.x domain.x first.0 first.1 in
    let at_a = given_known first.0 (second_name files.x files.a) domain.y whole.0 first.2 in
    let at_y = given_known whole.0 files.y range.x second.0 second.1 in
    let at_b = given_known second.0 (second_name files.y files.b) range.y d second.2 in
    let agrees : (u v w : ℕ) → u ≡ v → dimensions_agree v w ≡ true → dimensions_agree u w ≡ true = λ u v w q h. subst (λ (n : ℕ). dimensions_agree n w ≡ true) (sym q) h in
    let a_with : dimensions_agree (known m x) a ≡ true = agrees (known m x) first.0 a at_x.1 at_a.0 in
    let y_with : dimensions_agree (known first.0 a) y ≡ true = agrees (known first.0 a) whole.0 y at_a.1 at_y.0 in
    let y_with_x : dimensions_agree (known m x) y ≡ true = agrees (known m x) first.0 y at_x.1 (with_first first.0 a y y_with) in
    let b_with : dimensions_agree (known whole.0 y) b ≡ true = agrees (known whole.0 y) second.0 b at_y.1 at_b.0 in
    let b_with_a : dimensions_agree (known first.0 a) b ≡ true = agrees (known first.0 a) whole.0 b at_a.1 (with_first whole.0 y b b_with) in
    let b_with_x : dimensions_agree (known m x) b ≡ true = agrees (known m x) first.0 b at_x.1 (with_first first.0 a b b_with_a) in
    record {
      alike = record {
        full = all_true (are_full domain.x.cells) (are_full domain.y.cells) (are_full range.x.cells) (are_full range.y.cells) fd.full_x fd.full_y fr.full_x fr.full_y;
        map_x = at_x.0;
        map_a = with_first m x a a_with;
        map_y = with_first m x y y_with_x;
        map_b = with_first m x b b_with_x;
        x_a = with_second m x a at_x.0 a_with;
        x_y = with_second m x y at_x.0 y_with_x;
        x_b = with_second m x b at_x.0 b_with_x;
        a_y = with_second first.0 a y at_a.0 y_with;
        a_b = with_second first.0 a b at_a.0 b_with_a;
        y_b = with_second whole.0 y b at_y.0 b_with;
      };
      few_x = fd.few_x;
      few_a = fd.few_y;
      few_y = fr.few_x;
      few_b = fr.few_y;
    }
