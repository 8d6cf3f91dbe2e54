-- From a witness with the cycles of a basis to one with the cycles of the report.
use Rattle.std.proofs.Common.{◌≡◌, ℕ, zero, suc, ◌<◌, ◌≤◌, refl, sym, ap, ◌∙◌, arith, subst, List, [], ◌∷◌, length, get_or, map, max, Bool, true, false, cond, ◌||◌, true≢false}
use Rattle.std.proofs.lemmas.Bool.Decides.{Decides-eqb}
use Rattle.std.proofs.lemmas.List.{length-map}
use Rattle.std.specs.Prelude.{◌==◌}
use Rattle.field_mod.specs.Modular.{Same}
use Rattle.elem_cubes.specs.Cells.{Factor}
use Rattle.chains.specs.Terms.{IsNormalWithin, coefficient}
use Rattle.cube_sets.specs.Sets.{dimensions_agree}
use Rattle.cell_complex.specs.RelativeComplex.{is_relative}
use Rattle.cell_complex.specs.Numbering.{cell_coefficient, cell_terms}
use Rattle.homology_basis.specs.Bases.{BasisOfLog, CyclesOfLog, in_degree, IsBasisByCycles, IsBasisWithContraction}
use Rattle.basis_reports.proofs.Normal.{in_normal_form}
use Rattle.chains.proofs.TermLists.{coefficient-above}
use Rattle.loading.specs.TwoSets.{AreOperands}
use Rattle.loading.specs.declared.two_sets.TwoSets.{TwoSets}
use Rattle.witness_laws.specs.Inputs.{all_cells}
use Rattle.witness_laws.specs.Parts.{chain_of, nth}
use Rattle.witness_types.specs.Inputs.{first_known}
use Rattle.witness_parts.specs.Witnesses as parts
use Rattle.pair_witness.specs.declared.bases.PairBasis.{PairBasis}
use Rattle.pair_witness.specs.Bases.{IsBasisOfReport}
use Rattle.pair_witness.specs.Witnesses.{AreTheCycles, IsPairWitness, witness_bytes}
use Rattle.basis_reports.proofs.Terms.{terms_by_cell}

-- a basis without its cocycles
abbrev pub cycles_alone : BasisOfLog → CyclesOfLog
cycles_alone b = record { log = b.log; cycles = b.cycles }

pub without_cocycles : (p : ℕ) (b : BasisOfLog) → IsBasisWithContraction p b → IsBasisByCycles p (cycles_alone b)
without_cocycles p b h = record {
  complex = h.complex;
  reduction = h.reduction;
  nothing_left = h.nothing_left;
  cycles = h.cycles;
  few = h.few;
  normal = h.normal;
  first = h.first;
  inclusions = h.inclusions;
}

-- the dimension that is known first is the greater one
pub first_is_greater : (d e : ℕ) → dimensions_agree d e ≡ true → first_known (d ∷ e ∷ []) ≡ max d e
first_is_greater d e agree = by (d == 0) (e == 0) (d == e) refl refl refl agree
  where
    by : (x y z : Bool) → (d == 0) ≡ x → (e == 0) ≡ y → (d == e) ≡ z → (z || x || y) ≡ true → cond x (cond y 0 e) d ≡ max d e
    by true true z a b c o = omega (arith, (Decides-eqb d 0).0 a, (Decides-eqb e 0).0 b)
    by true false z a b c o = omega (arith, (Decides-eqb d 0).0 a)
    by false true z a b c o = omega (arith, (Decides-eqb e 0).0 b)
    by false false true a b c o = omega (arith, (Decides-eqb d e).0 c)
    by false false false a b c o = absurd (true≢false (sym o))

named_at : (cells : List (List Factor)) (zs : List (List (ℕ × ℕ))) (i : ℕ) → get_or (map (cell_terms cells) zs) i [] ≡ cell_terms cells (get_or zs i [])
named_at cells [] i = refl
named_at cells (z ∷ zs) zero = refl
named_at cells (z ∷ zs) (suc i) = named_at cells zs i

module _ (p : ℕ) (pair : TwoSets) (made : PairBasis p) (agree : AreOperands pair) (b : IsBasisOfReport p pair made) (bytes : List ℕ)
    (h : parts.IsPairWitness p pair.x pair.y made.cells made.basis bytes) (few : length bytes < witness_bytes) where
  inside : (k i : ℕ) → i < length (in_degree made.basis.cycles k) → (g : ℕ) → length made.cells ≤ g → coefficient (get_or (in_degree made.basis.cycles k) i []) g ≡ 0
  inside k i l g m =
      coefficient-above p 0 (length made.cells) (get_or (in_degree made.basis.cycles k) i []) g
      (subst (λ (size : ℕ). IsNormalWithin p 0 size (get_or (in_degree made.basis.cycles k) i [])) b.relative.complex.count ((in_normal_form p (cycles_alone made.basis) (without_cocycles p made.basis b.basis) k).normal i l)) m

  same : (k i : ℕ) → k ≤ max pair.x.dimension pair.y.dimension → i < length (in_degree made.basis.cycles k) → (q : List Factor)
      → Same p (chain_of (all_cells pair.x.cells pair.y.cells) (nth (in_degree h.tables.cycles k) i) q) (cell_coefficient (get_or (map (cell_terms made.cells) (in_degree made.basis.cycles k)) i []) q)
  same k i l m q =
      subst (λ (n : ℕ). Same p (chain_of (all_cells pair.x.cells pair.y.cells) (nth (in_degree h.tables.cycles k) i) q) n)
      (sym (ap (λ ts. cell_coefficient ts q) (named_at made.cells (in_degree made.basis.cycles k) i)
      ∙ terms_by_cell (is_relative pair.x.cells pair.y.cells) made.cells b.relative.listing (get_or (in_degree made.basis.cycles k) i []) (inside k i m) q))
      (((h.made.cycles k (omega (arith, l, first_is_greater pair.x.dimension pair.y.dimension agree.agree))).at i m).same q)

  the_cycles : (k : ℕ) → k ≤ max pair.x.dimension pair.y.dimension
      → AreTheCycles p (all_cells pair.x.cells pair.y.cells) (in_degree h.tables.cycles k) (map (cell_terms made.cells) (in_degree made.basis.cycles k))
  the_cycles k l = record {
    count = (h.made.cycles k (omega (arith, l, first_is_greater pair.x.dimension pair.y.dimension agree.agree))).count ∙ sym (length-map (in_degree made.basis.cycles k) (cell_terms made.cells));
    same = λ i m q. same k i l (omega (arith, m, length-map (in_degree made.basis.cycles k) (cell_terms made.cells))) q;
  }

  pub witness_of_report : IsPairWitness p pair made.report.cycles bytes
  witness_of_report = record {
    header = h.header;
    tables = h.tables;
    accepted = h.accepted;
    cycles_are = λ k l. subst (λ (zs : List (List (List Factor × ℕ))). AreTheCycles p (all_cells pair.x.cells pair.y.cells) (in_degree h.tables.cycles k) zs) (sym (b.named.cycle k (omega (arith, l)))) (the_cycles k l);
    few = few;
  }
