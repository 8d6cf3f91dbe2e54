-- The lines of one cell of the domain.
use Rattle.std.proofs.Common.{◌≡◌, ℕ, suc, ◌+◌, ◌-◌, ◌<◌, sym, ap, ◌∙◌, subst, arith, List, [], ◌∷◌, length, length-append, get_or, map, Option, Some, None}
use Rattle.std.specs.List.{Contains}
use Rattle.elem_cubes.specs.Cells.{Factor}
use Rattle.elem_cubes.specs.Laws.{cell_at}
use Rattle.chains.specs.ChainComplex.{ChainComplex}
use Rattle.cube_maps.specs.CubeMaps.{Naming}
use Rattle.cell_complex.specs.Numbering.{IsComplexOf, number_of}
use Rattle.witness_laws.specs.declared.law.Law.{Law}
use Rattle.witness_laws.specs.declared.law.Law.TheVariants as laws
use Rattle.witness_laws.specs.declared.law.WitnessFault.{WitnessFault}
use Rattle.witness_laws.specs.declared.law.WitnessFault.TheVariants.{At, NoMemory}
use Rattle.witness_laws.specs.Lines.{Line, vertex, image}
use Rattle.witness_laws.specs.Inputs.{Given, all_cells}
use Rattle.witness_laws.specs.Parts.{value_at, range_cells, nth, vertex_of}
use Rattle.witness_laws.specs.Tables.{Tables, map_of, holds}
use Rattle.witness_laws.proofs.Mapping.{vertex_inside}
use Rattle.read_parts.specs.declared.parts.ReadMap.{ReadMap}
use Rattle.witness_sections.specs.Outcomes.{AllHold, IsLineOutcome}
use Rattle.witness_sections.specs.Readings.{AreRead, IsNamed}
use Rattle.witness_sections.proofs.Lining.{meet_append, fails_front, fails_behind}
use Rattle.witness_values.specs.Fillings.{IsValueOf, fillings_in, FillingsPassed, IsFillingFault}
use Rattle.witness_values.specs.Images.{IsImageOutcome}
use Rattle.witness_values.specs.declared.cells.MapSides.{MapSides}
use Rattle.witness_values.specs.Cells.{AreSidesOf, CellsPassed, IsCellFaultOf, cell_lines}
use Rattle.witness_values.proofs.Imaging.{image_told}

vertex_holds : (p : ℕ) (G : Given) (W : Tables) (i : ℕ) → AllHold (holds p G W) (vertex i)
vertex_holds p G W i law _ = every law
  where
    every : (law : Law) → holds p G W law (vertex i)
    every laws.Text = tt
    every laws.Header = tt
    every laws.Cell = tt
    every laws.Cycle = tt
    every laws.Dual = tt
    every laws.Cocycle = tt
    every laws.Contraction = tt
    every laws.ValueContraction = tt
    every laws.Carried = tt
    every laws.Augmentation = tt
    every laws.Commutes = tt
    every laws.Matrix = tt

module _ {p : ℕ} (s : MapSides p) (m : List Naming) (set : List (List Factor)) (part : ReadMap p) (i : ℕ) (li : i < length s.domain) where
  -- what is found of the value at the cell
  module _ (V : List (List Factor)) (K : ChainComplex) (hs chains : List (List (ℕ × ℕ))) (v n : ℕ) (is_value : (G : Given) (W : Tables) → AreSidesOf s m set part G W → V ≡ value_at G i) (complex : IsComplexOf p V K)
      (read : AreRead p s.range V chains hs) (chains_are : chains ≡ get_or (map (λ u. u.items) part.contractions.items) i []) (number : n ≡ get_or part.vertices.items i 0)
      (at : Contains V (cell_at s.range (n - 1)) → v ≡ number_of V (cell_at s.range (n - 1))) where
    value_of_witness : (G : Given) (W : Tables) → AreSidesOf s m set part G W → IsValueOf p K hs v G (map_of W) i
    value_of_witness G W w = record {
      complex = subst (λ (U : List (List Factor)). IsComplexOf p U K) e complex;
      chains = subst (λ (cs : List (List (ℕ × ℕ))). AreRead p (range_cells G) (value_at G i) cs hs) (chains_are ∙ ap (λ (fs : List (List (List (ℕ × ℕ)))). get_or fs i []) (sym w.fillings))
          (subst (λ (U : List (List Factor)). AreRead p (range_cells G) U chains hs) e (subst (λ (R : List (List Factor)). AreRead p R V chains hs) w.range read));
      count = w.counts i li;
      vertex = place;
      inside = subst (λ (k : ℕ). k < length (value_at G i)) (sym place) (vertex_inside G w.fault (map_of W).vertices i inside (w.named i li));
    }
      where
        e : V ≡ value_at G i
        e = is_value G W w

        inside : i < length (all_cells G.x G.a)
        inside = subst (λ (ds : List (List Factor)). i < length ds) w.domain li

        cell_is : cell_at s.range (n - 1) ≡ cell_at (range_cells G) (get_or (map_of W).vertices i 0 - 1)
        cell_is = ap (λ (R : List (List Factor)). cell_at R (n - 1)) w.range ∙ ap (λ k. cell_at (range_cells G) (k - 1)) (number ∙ ap (λ (vs : List ℕ). get_or vs i 0) (sym w.vertices))

        there : Contains V (cell_at s.range (n - 1))
        there = subst (λ (q : List Factor). Contains V q) (sym cell_is) (subst (λ (U : List (List Factor)). Contains U (cell_at (range_cells G) (get_or (map_of W).vertices i 0 - 1))) (sym e) (w.named i li).2.0)

        place : v ≡ vertex_of G (map_of W).vertices i
        place = at there ∙ ap (λ (q : List Factor). number_of V q) cell_is ∙ ap (λ (U : List (List Factor)). number_of U (cell_at (range_cells G) (get_or (map_of W).vertices i 0 - 1))) e

    module _ (from next : ℕ) where
      pub fillings_fault_of : (fault : WitnessFault) → IsFillingFault p K hs v (from + 1) fault → IsCellFaultOf s m set part (cell_lines i) from fault
      fillings_fault_of (At line law) here G W w =
          let f = here G W i (value_of_witness G W w) in
          (suc f.0, (let e = f.1 in omega (arith, e)), (vertex_holds p G W i, fails_front (holds p G W) (fillings_in i (map_of W)) (image i ∷ []) f.0 law f.2))
      fillings_fault_of NoMemory here G W w = tt

      module _ (passed : FillingsPassed p K hs v (from + 1) next) (ts : List (ℕ × ℕ)) (chain : ts ≡ nth part.images.items i) (o : Option Law) (outcome : IsImageOutcome p s.domain_complex s.range_complex s.range V ts s.images.items i o) where
        told : (G : Given) (W : Tables) → AreSidesOf s m set part G W → IsLineOutcome (holds p G W) (image i) o
        told G W w = image_told p s.domain_complex s.range_complex s.range V ts s.images.items i o outcome G W w.images w.range (is_value G W w) (chain ∙ ap (λ (fs : List (List (ℕ × ℕ))). nth fs i) (sym w.chains)) (subst (λ (ds : List (List Factor)). i < length ds) w.domain li)

        pub cell_passed : o ≡ None → CellsPassed s m set part (cell_lines i) from (next + 1)
        cell_passed none G W w =
            let a = passed G W i (value_of_witness G W w) in
            let fs : List Line = fillings_in i (map_of W) in
            record {
              next = let e = a.next in let l = length-append fs (image i ∷ []) in omega (arith, e, l);
              meet = (vertex_holds p G W i, meet_append (holds p G W) fs (image i ∷ []) a.meet (subst (IsLineOutcome (holds p G W) (image i)) none (told G W w), tt));
            }

        pub image_fault_of : (law : Law) → o ≡ Some law → IsCellFaultOf s m set part (cell_lines i) from (At next law)
        image_fault_of law some G W w =
            let a = passed G W i (value_of_witness G W w) in
            let fs : List Line = fillings_in i (map_of W) in (
              suc (length fs + 0),
              (let e = a.next in omega (arith, e)),
              (vertex_holds p G W i, fails_behind (holds p G W) fs (image i ∷ []) 0 law a.meet (subst (IsLineOutcome (holds p G W) (image i)) some (told G W w))),
            )

-- ---- what the part says of a cell

module _ {p : ℕ} (s : MapSides p) (m : List Naming) (set : List (List Factor)) (part : ReadMap p) (G : Given) (W : Tables) (w : AreSidesOf s m set part G W) (i : ℕ) (li : i < length s.domain) where
  in_domain : i < length (all_cells G.x G.a)
  in_domain = subst (λ (ds : List (List Factor)). i < length ds) w.domain li

  pub fillings_size : (V : List (List Factor)) (hs chains : List (List (ℕ × ℕ))) (n : ℕ) → V ≡ value_at G i → chains ≡ get_or (map (λ u. u.items) part.contractions.items) i [] → length hs ≡ length chains → n ≡ length V → length hs ≡ n
  fillings_size V hs chains n ev ec eh en =
      eh ∙ ap length (ec ∙ ap (λ (fs : List (List (List (ℕ × ℕ)))). get_or fs i []) (sym w.fillings)) ∙ w.counts i li ∙ ap length (sym ev) ∙ sym en

  pub cell_in_complex : i < length s.domain_complex.boundaries
  cell_in_complex = let c = w.images.domain.count in let l = in_domain in omega (arith, c, l)

  pub images_size : length s.images.items ≡ length s.domain_complex.boundaries
  images_size = w.images.images.count ∙ w.images.count ∙ sym w.images.domain.count

  pub image_inside : i < length part.images.items
  image_inside = let e = ap length w.chains in let c = w.images.count in let l = in_domain in omega (arith, c, l, e)

  pub image_named : (ts : List (ℕ × ℕ)) → ts ≡ nth part.images.items i → IsNamed (length s.range) ts
  image_named ts e =
      subst (λ (us : List (ℕ × ℕ)). IsNamed (length s.range) us) (sym (e ∙ ap (λ (fs : List (List (ℕ × ℕ))). nth fs i) (sym w.chains)))
      (subst (λ (R : List (List Factor)). IsNamed (length R) (nth (map_of W).images i)) (sym w.range) (w.images.named i))
