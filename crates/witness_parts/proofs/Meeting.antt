-- The lines of a pair whose tables are those of a section meet all laws; a pair alone is accepted.
use Rattle.std.proofs.Common.{◌≡◌, ◌⊎◌, ℕ, zero, suc, ◌+◌, ◌<◌, ◌≤◌, refl, sym, ap, ◌∙◌, arith, inl, inr, ⊎_elim, List, [], ◌∷◌, ◌++◌, length, get_or, subst}
use Rattle.std.proofs.lemmas.Bool.{cases_lt}
use Rattle.std.proofs.lemmas.List.{get_or_past}
use Rattle.elem_cubes.specs.Cells.{Factor}
use Rattle.elem_cubes.proofs.Members.{In, In-append}
use Rattle.chains.specs.Homology.{IsChain}
use Rattle.cell_complex.specs.RelativeComplex.{relative_complex}
use Rattle.homology_basis.specs.Bases.{in_degree}
use Rattle.witness_laws.specs.declared.law.Law.{Law}
use Rattle.witness_laws.specs.declared.law.Law.TheVariants as laws
use Rattle.witness_laws.specs.Lines.{Side, domain, Line, section, cycle, cocycle, homotopy, end, each}
use Rattle.witness_laws.specs.Formats.{MeetsLaws}
use Rattle.witness_laws.specs.Inputs.{Given, x_of, a_of, relative_cells}
use Rattle.witness_laws.specs.Sections.{Section, IsSection}
use Rattle.witness_laws.specs.Tables.{PairTables, Tables, IsPairTables, IsTables, pair_of, pair_lines, lines_of_tables, names_cells, holds, tables_format}
use Rattle.witness_parts.specs.Tables.{AreTablesOf, HasAtMost}
use Rattle.witness_parts.specs.Witnesses.{pair_given, pair_value}
use Rattle.witness_parts.proofs.Alike.{closed_alike, dual_alike, coclosed_alike, contracts_alike, cycle_names, cocycle_names, homotopy_names}

-- ---- members of lists that are made one by one

pub each_In : {A : Type 0} (n : ℕ) (f : ℕ → List A) (y : A) → In (each n f) y → (i : ℕ) × (i < n) × In (f i) y
each_In zero f y w = absurd w
each_In (suc n) f y w = ⊎_elim
    (λ h. (0, (omega arith), h))
    (λ h. let r = each_In n (λ i. f (suc i)) y h in (suc r.0, (let l = r.1 in omega (arith, l)), r.2))
    (In-append (f 0) (each n (λ i. f (suc i))) y w)

pub once_In : {A : Type 0} (n : ℕ) (f : ℕ → A) (y : A) → In (each n (λ i. f i ∷ [])) y → (i : ℕ) × (i < n) × (f i ≡ y)
once_In n f y w = let r = each_In n (λ i. f i ∷ []) y w in (r.0, r.1, ⊎_elim (λ e. e) (λ z. absurd z) r.2)

pub In_at : {A : Type 0} (xs : List A) (i : ℕ) (d : A) → i < length xs → In xs (get_or xs i d)
In_at [] i d l = absurd (omega arith)
In_at (x ∷ xs) zero d l = inl refl
In_at (x ∷ xs) (suc i) d l = inr (In_at xs i d (omega arith))

-- ---- tables have the form of their format

module _ (p top : ℕ) (x a : List (List Factor)) (S : Section) (T : PairTables) (t : AreTablesOf p top x a S T) where
  low_or_none : (k : ℕ) (L : List (List (List (ℕ × ℕ)))) → length L ≡ top + 1 → (k ≤ top) ⊎ (in_degree L k ≡ [])
  low_or_none k L e = ⊎_elim (λ l. inl (omega (arith, l))) (λ l. inr (get_or_past L k [] (omega (arith, e, l)))) (cases_lt k (top + 1))

  low : (k i : ℕ) → i < length (in_degree T.cycles k) → k ≤ top
  low k i l = ⊎_elim (λ h. h) (λ e. absurd (let z = ap length e in omega (arith, z, l))) (low_or_none k T.cycles t.degrees)

  pub pair_fits : IsPairTables p top x a T
  pair_fits = record {
    degrees = t.degrees;
    cocycle_degrees = t.cocycle_degrees;
    sizes = λ k. ⊎_elim (λ l. (t.cocycles k l).count ∙ sym (t.cycles k l).count)
        (λ e. ⊎_elim (λ l. (t.cocycles k l).count ∙ sym (t.cycles k l).count) (λ f. ap length f ∙ sym (ap length e)) (low_or_none k T.cocycles t.cocycle_degrees))
        (low_or_none k T.cycles t.degrees);
    cells = t.homotopies.count;
    cycles = λ k i l. let h = low k i l in ((t.cycles k h).at i (let e = (t.cycles k h).count in omega (arith, e, l))).terms;
    cocycles = λ k i l. let h = low k i l in ((t.cocycles k h).at i (let e = (t.cycles k h).count in omega (arith, e, l))).terms;
    homotopies = λ i l. (t.homotopies.at i (let e = t.homotopies.count in omega (arith, e, l))).terms;
  }

-- ---- the lines of a side

pub record IsGood (p : ℕ) (G : Given) (W : Tables) (l : Line) : Type 0 where
  pub names : names_cells G W l
  pub laws : (law : Law) → holds p G W law l

module _ (p : ℕ) (G : Given) (W : Tables) (side : Side) (S : Section)
    (w : IsSection p (x_of G side) (a_of G side) (relative_cells (x_of G side) (a_of G side)) S)
    (cochains : (k i : ℕ) → i < S.size k → IsChain p (relative_complex p (x_of G side) (a_of G side)) k (S.cocycle k i))
    (most : HasAtMost G.top (x_of G side) (a_of G side))
    (t : AreTablesOf p G.top (x_of G side) (a_of G side) S (pair_of W side)) where
  abbrev x : List (List Factor)
  x = x_of G side

  abbrev a : List (List Factor)
  a = a_of G side

  abbrev T : PairTables
  T = pair_of W side

  section_laws : (law : Law) → holds p G W law (section side)
  section_laws laws.Text = tt
  section_laws laws.Header = tt
  section_laws laws.Cell = tt
  section_laws laws.Cycle = tt
  section_laws laws.Dual = tt
  section_laws laws.Cocycle = tt
  section_laws laws.Contraction = tt
  section_laws laws.ValueContraction = tt
  section_laws laws.Carried = tt
  section_laws laws.Augmentation = tt
  section_laws laws.Commutes = tt
  section_laws laws.Matrix = tt

  cycle_laws : (k i : ℕ) → k ≤ G.top → i < S.size k → (law : Law) → holds p G W law (cycle side k i)
  cycle_laws k i l m laws.Text = tt
  cycle_laws k i l m laws.Header = tt
  cycle_laws k i l m laws.Cell = tt
  cycle_laws k i l m laws.Cycle = closed_alike p G.top x a S T w most t k i l m
  cycle_laws k i l m laws.Dual = tt
  cycle_laws k i l m laws.Cocycle = tt
  cycle_laws k i l m laws.Contraction = tt
  cycle_laws k i l m laws.ValueContraction = tt
  cycle_laws k i l m laws.Carried = tt
  cycle_laws k i l m laws.Augmentation = tt
  cycle_laws k i l m laws.Commutes = tt
  cycle_laws k i l m laws.Matrix = tt

  cocycle_laws : (k i : ℕ) → k ≤ G.top → i < S.size k → (law : Law) → holds p G W law (cocycle side k i)
  cocycle_laws k i l m laws.Text = tt
  cocycle_laws k i l m laws.Header = tt
  cocycle_laws k i l m laws.Cell = tt
  cocycle_laws k i l m laws.Cycle = tt
  cocycle_laws k i l m laws.Dual = dual_alike p G.top x a S T w most t k i l m
  cocycle_laws k i l m laws.Cocycle = coclosed_alike p G.top x a S T w most t k i l m
  cocycle_laws k i l m laws.Contraction = tt
  cocycle_laws k i l m laws.ValueContraction = tt
  cocycle_laws k i l m laws.Carried = tt
  cocycle_laws k i l m laws.Augmentation = tt
  cocycle_laws k i l m laws.Commutes = tt
  cocycle_laws k i l m laws.Matrix = tt

  homotopy_laws : (i : ℕ) → i < length (relative_cells x a) → (law : Law) → holds p G W law (homotopy side i)
  homotopy_laws i l laws.Text = tt
  homotopy_laws i l laws.Header = tt
  homotopy_laws i l laws.Cell = tt
  homotopy_laws i l laws.Cycle = tt
  homotopy_laws i l laws.Dual = tt
  homotopy_laws i l laws.Cocycle = tt
  homotopy_laws i l laws.Contraction = contracts_alike p G.top x a S T w most t i l
  homotopy_laws i l laws.ValueContraction = tt
  homotopy_laws i l laws.Carried = tt
  homotopy_laws i l laws.Augmentation = tt
  homotopy_laws i l laws.Commutes = tt
  homotopy_laws i l laws.Matrix = tt

  cycle_good : (k i : ℕ) → k < length T.cycles → i < length (in_degree T.cycles k) → IsGood p G W (cycle side k i)
  cycle_good k i l m =
      let d = t.degrees in
      let h : k ≤ G.top = omega (arith, d, l) in
      let r : i < S.size k = (let e = (t.cycles k h).count in omega (arith, e, m)) in
      record { names = cycle_names p G.top x a S T w most t k i h r; laws = cycle_laws k i h r }

  cocycle_good : (k i : ℕ) → k < length T.cycles → i < length (in_degree T.cycles k) → IsGood p G W (cocycle side k i)
  cocycle_good k i l m =
      let d = t.degrees in
      let h : k ≤ G.top = omega (arith, d, l) in
      let r : i < S.size k = (let e = (t.cycles k h).count in omega (arith, e, m)) in
      record { names = cocycle_names p G.top x a S T w most t k i h r (cochains k i r); laws = cocycle_laws k i h r }

  homotopy_good : (i : ℕ) → i < length T.homotopies → IsGood p G W (homotopy side i)
  homotopy_good i l =
      let r : i < length (relative_cells x a) = (let e = t.homotopies.count in omega (arith, e, l)) in
      record { names = homotopy_names p G.top x a S T w most t i r; laws = homotopy_laws i r }

  abbrev firsts : List Line
  firsts = each (length T.cycles) (λ k. each (length (in_degree T.cycles k)) (λ i. cycle side k i ∷ []))

  abbrev seconds : List Line
  seconds = each (length T.cycles) (λ k. each (length (in_degree T.cycles k)) (λ i. cocycle side k i ∷ []))

  abbrev thirds : List Line
  thirds = each (length T.homotopies) (λ i. homotopy side i ∷ [])

  in_cycles : (l : Line) → In firsts l → IsGood p G W l
  in_cycles l h =
      let r = each_In (length T.cycles) (λ k. each (length (in_degree T.cycles k)) (λ i. cycle side k i ∷ [])) l h in
      let s = once_In (length (in_degree T.cycles r.0)) (cycle side r.0) l r.2 in
      subst (IsGood p G W) s.2 (cycle_good r.0 s.0 r.1 s.1)

  in_cocycles : (l : Line) → In seconds l → IsGood p G W l
  in_cocycles l h =
      let r = each_In (length T.cycles) (λ k. each (length (in_degree T.cycles k)) (λ i. cocycle side k i ∷ [])) l h in
      let s = once_In (length (in_degree T.cycles r.0)) (cocycle side r.0) l r.2 in
      subst (IsGood p G W) s.2 (cocycle_good r.0 s.0 r.1 s.1)

  in_homotopies : (l : Line) → In thirds l → IsGood p G W l
  in_homotopies l h =
      let s = once_In (length T.homotopies) (homotopy side) l h in
      subst (IsGood p G W) s.2 (homotopy_good s.0 s.1)

  pub side_good : (l : Line) → In (pair_lines side T) l → IsGood p G W l
  side_good l (inl e) = subst (IsGood p G W) e (record { names = tt; laws = section_laws })
  side_good l (inr h) = ⊎_elim
      (λ f. ⊎_elim (in_cycles l) (in_cocycles l) (In-append firsts seconds l f))
      (in_homotopies l)
      (In-append (firsts ++ seconds) thirds l h)

-- ---- a pair alone

pub end_good : (p : ℕ) (G : Given) (W : Tables) → IsGood p G W end
end_good p G W = record { names = tt; laws = at }
  where
    at : (law : Law) → holds p G W law end
    at laws.Text = tt
    at laws.Header = tt
    at laws.Cell = tt
    at laws.Cycle = tt
    at laws.Dual = tt
    at laws.Cocycle = tt
    at laws.Contraction = tt
    at laws.ValueContraction = tt
    at laws.Carried = tt
    at laws.Augmentation = tt
    at laws.Commutes = tt
    at laws.Matrix = tt

pub all_meet : (p : ℕ) (G : Given) (W : Tables) → ((l : Line) → In (lines_of_tables W) l → IsGood p G W l) → MeetsLaws (tables_format p G) W
all_meet p G W good = record {
  first = λ i l. (good (get_or (lines_of_tables W) i end) (In_at (lines_of_tables W) i end l)).names;
  second = λ i l law c. (good (get_or (lines_of_tables W) i end) (In_at (lines_of_tables W) i end l)).laws law;
}

-- what is accepted of a pair
pub record IsPairAccepted (p top : ℕ) (x a : List (List Factor)) (T : PairTables) : Type 0 where
  pub fits : IsTables p (pair_given top x a) (pair_value T)
  pub meets : MeetsLaws (tables_format p (pair_given top x a)) (pair_value T)

pub pair_accepted : (p top : ℕ) (x a : List (List Factor)) (S : Section) (T : PairTables) → IsSection p x a (relative_cells x a) S
    → ((k i : ℕ) → i < S.size k → IsChain p (relative_complex p x a) k (S.cocycle k i)) → HasAtMost top x a → AreTablesOf p top x a S T → IsPairAccepted p top x a T
pair_accepted p top x a S T w cochains most t = record {
  fits = record { domain = pair_fits p top x a S T t; map = tt };
  meets = all_meet p (pair_given top x a) (pair_value T) good;
}
  where
    good : (l : Line) → In (lines_of_tables (pair_value T)) l → IsGood p (pair_given top x a) (pair_value T) l
    good l h = ⊎_elim
        (λ f. ⊎_elim (side_good p (pair_given top x a) (pair_value T) domain S w cochains most t l) (λ z. absurd z) (In-append (pair_lines domain T) [] l f))
        (λ f. ⊎_elim (λ e. subst (IsGood p (pair_given top x a) (pair_value T)) e (end_good p (pair_given top x a) (pair_value T))) (λ z. absurd z) f)
        (In-append (pair_lines domain T ++ []) (end ∷ []) l h)
