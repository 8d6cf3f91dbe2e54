-- Whether a list of cells is acyclic is told by what a log leaves
use Rattle.std.proofs.Common.{◌≡◌, ◌≢◌, ◌↔◌, ℕ, ◌+◌, ◌<◌, ◌⊎◌, refl, sym, ap, ◌∙◌, arith, ⊎_elim, List, [], length, Bool, true, false, subst}
use Rattle.std.specs.Prelude.{slice_index, IsTrue}
use Rattle.std.proofs.lemmas.Bool.{true≢false, cases_eq, and_parts, and_from}
use Rattle.field_mod.specs.Moduli.{IsModulus}
use Rattle.field_mod.proofs.Table.{is_field}
use Rattle.elem_cubes.specs.Cells.{Factor}
use Rattle.chains.specs.ChainComplex.{ChainComplex}
use Rattle.cube_sets.specs.Closures.{is_cell_of}
use Rattle.algebraic_reduction.specs.Reduction.{Step, IsUnpaired}
use Rattle.algebraic_reduction.specs.Laws.{AreStepsOf, NothingLeft}
use Rattle.cell_complex.specs.RelativeComplex.{is_relative, IsClosedList}
use Rattle.cell_complex.specs.Sorted.{IsSortedCells}
use Rattle.cell_complex.specs.Numbering.{IsListing, IsOfPair, IsComplexOf, IsRelativeComplex}
use Rattle.cell_complex.specs.Acyclic.{IsAcyclic}
use Rattle.cell_complex.proofs.Deciding.{cells_of_sets_are_closed}
use Rattle.cell_complex.proofs.Sorting.{apart}
use Rattle.excision.specs.Laws.{IsOneVertex}
use Rattle.excision.proofs.Points.{show}

-- ---- numbered cells that are closed are those of a pair

pub closed_listing : (cells : List (List Factor)) → IsSortedCells cells → IsClosedList cells → IsListing (is_relative cells []) cells
closed_listing cells sorted closed = record {
  members = λ q. (
    (λ e. (cells_of_sets_are_closed.themselves cells closed q).0 (and_parts (is_cell_of cells q) true e).0),
    (λ w. and_from (is_cell_of cells q) true ((cells_of_sets_are_closed.themselves cells closed q).1 w) refl),
  );
  once = apart cells sorted.sorted;
}

pub closed_pair : (cells : List (List Factor)) → IsSortedCells cells → IsClosedList cells → IsOfPair cells
closed_pair cells sorted closed = record { x = cells; a = []; listing = closed_listing cells sorted closed }

-- ---- the search for one vertex

-- among the first m generators none is left, or one vertex alone
pub record OneSo (K : ChainComplex) (ss : List Step) (m : ℕ) (found : Bool) : Type 0 where
  pub none : found ≡ false → (g : ℕ) → g < m → ¬ IsUnpaired ss g
  pub one : found ≡ true → (v : ℕ) × (v < m) × IsUnpaired ss v × (slice_index K.degrees v ≡ 0) × ((g : ℕ) → g < m → IsUnpaired ss g → g ≡ v)

pub one_first : (K : ChainComplex) (ss : List Step) → OneSo K ss 0 false
one_first K ss = record { none = λ e g l. absurd (omega arith); one = λ e. absurd (true≢false (sym e)) }

pub one_skip : (K : ChainComplex) (ss : List Step) (m : ℕ) (found : Bool) → ¬ IsUnpaired ss m → OneSo K ss m found → OneSo K ss (m + 1) found
one_skip K ss m found u s = record {
  none = λ e g l. ⊎_elim (λ q v. u (subst (λ (k : ℕ). IsUnpaired ss k) q v)) (λ d. s.none e g (omega arith)) (cases_eq g m);
  one = λ e. let w = s.one e in (w.0, omega (arith, w.1), w.2, w.3, λ g l v. ⊎_elim (λ q. absurd (u (subst (λ (k : ℕ). IsUnpaired ss k) q v))) (λ d. w.4 g (omega arith) v) (cases_eq g m));
}

pub one_found : (K : ChainComplex) (ss : List Step) (m : ℕ) (found : Bool) → found ≡ false → IsUnpaired ss m → slice_index K.degrees m ≡ 0 → OneSo K ss m found → OneSo K ss (m + 1) true
one_found K ss m found f u d s = record {
  none = λ e. absurd (true≢false e);
  one = λ e. (m, omega arith, u, d, λ g l v. ⊎_elim (λ q. q) (λ n. absurd (s.none f g (omega arith) v)) (cases_eq g m));
}

pub one_two : (K : ChainComplex) (ss : List Step) (m : ℕ) (found : Bool) → m < length K.boundaries → IsUnpaired ss m → (found ≡ true) ⊎ (slice_index K.degrees m ≢ 0) → OneSo K ss m found → ¬ IsOneVertex K ss
one_two K ss m found l u c s w = ⊎_elim
    (λ e. let v = s.one e in let a = w.only m l u in let b = w.only v.0 (omega (arith, v.1)) v.2 in let x = v.1 in absurd (omega arith))
    (λ d. d (ap (slice_index K.degrees) (w.only m l u) ∙ w.degree))
    c

pub one_end : (K : ChainComplex) (ss : List Step) (m : ℕ) (found : Bool) → m ≡ length K.boundaries → OneSo K ss m found → IsTrue found ↔ IsOneVertex K ss
one_end K ss m found e s = (
  λ t. let w = s.one t in record { vertex = w.0; inside = omega (arith, w.1); degree = w.3; unpaired = w.2; only = λ g l u. w.4 g (omega arith) u },
  λ w. told found s w,
)
  where
    told : (b : Bool) → OneSo K ss m b → IsOneVertex K ss → IsTrue b
    told true t w = refl
    told false t w = absurd (t.none refl w.vertex (omega (arith, w.inside)) w.unpaired)

-- ---- the test of a list by a log

pub told_by_log : (p : ℕ) (cells : List (List Factor)) (K L : ChainComplex) (ss : List Step) (b : Bool) → IsModulus p → IsSortedCells cells → IsClosedList cells → IsComplexOf p cells K → L ≡ K → AreStepsOf p L ss → NothingLeft p L ss
    → IsTrue b ↔ IsOneVertex L ss → IsTrue b ↔ IsAcyclic p cells
told_by_log p cells K L ss b modulus sorted closed C e steps nothing told =
    let R : IsRelativeComplex p cells [] cells L = record { listing = closed_listing cells sorted closed; complex = subst (λ (M : ChainComplex). IsComplexOf p cells M) (sym e) C } in
    let law = show p cells L ss (is_field p modulus) closed R steps nothing in
    ((λ t. law.1 (told.0 t)), (λ a. told.1 (law.0 a)))
