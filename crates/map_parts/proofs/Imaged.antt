-- Images of all cells under one carried map, by the numbers of a file, meet the laws of their lines.
use Rattle.std.proofs.Common.{◌≡◌, ℕ, ◌*◌, ◌<◌, ap, ⊎_elim, List, length}
use Rattle.std.specs.List.{Contains}
use Rattle.std.proofs.lemmas.Bool.{cases_Bool, cases_eq}
use Rattle.field_mod.specs.Modular.{Same, NonZero}
use Rattle.field_mod.proofs.Sums.{total_same}
use Rattle.field_mod.proofs.Modular.{same_sym, same_trans, same-scale}
use Rattle.elem_cubes.specs.Cells.{Factor, dimension_of}
use Rattle.elem_cubes.specs.Boundary.{boundary_coefficient}
use Rattle.elem_cubes.specs.Laws.{cell_at}
use Rattle.elem_cubes.proofs.Boundaries.{boundary_same}
use Rattle.elem_cubes.proofs.Modular.{exact}
use Rattle.cube_sets.specs.Closures.{is_cell_of}
use Rattle.cell_complex.proofs.Numbering.{listed, number_at}
use Rattle.acyclic_values.specs.CarriedMaps.{image, IsCarriedAt, IsCarriedMap}
use Rattle.acyclic_values.specs.Values.{in_value}
use Rattle.acyclic_values.proofs.Cells.{cells_listing}
use Rattle.acyclic_values.proofs.Values.{value_to}
use Rattle.map_checks.specs.Faults.{together}
use Rattle.witness_laws.specs.Inputs.{Given, Target, target_of, all_cells, IsWithoutFault}
use Rattle.witness_laws.specs.Parts.{chain_of, nth, cell_of, value_at, range_cells, image_of, IsOfOneDimension, IsCarriedTo, IsAugmented, Commutes}
use Rattle.witness_laws.proofs.Mapping.{value_here}
use Rattle.witness_parts.specs.Filed.{AreFiled}
use Rattle.witness_parts.proofs.Alike.{names_of}

module _ (p : ℕ) (G : Given) (images : List (List (ℕ × ℕ))) (nf : IsWithoutFault G (target_of G)) (f : List Factor → List Factor → ℕ)
    (carried : IsCarriedMap p (target_of G).map (together G.x G.a) (together (target_of G).y (target_of G).b) f)
    (filed : AreFiled p (range_cells G) (length (all_cells G.x G.a)) (λ i. f (cell_of G i)) images) where
  abbrev T : Target
  T = target_of G

  abbrev D : List (List Factor)
  D = together G.x G.a

  abbrev ds : List (List Factor)
  ds = all_cells G.x G.a

  abbrev rs : List (List Factor)
  rs = range_cells G

  same_image : (i : ℕ) → i < length ds → (q : List Factor) → Same p (image_of G images (cell_of G i) q) (f (cell_of G i) q)
  same_image i l q =
      same_trans (exact p (ap (λ (k : ℕ). chain_of rs (nth images k) q) (number_at (is_cell_of D) ds (cells_listing D) i l))) ((filed.at i l).same q)

  at : (i : ℕ) → i < length ds → IsCarriedAt p ds rs (in_value T.map D (cell_of G i)) f (cell_of G i)
  at i l = carried (cell_of G i) (listed (is_cell_of D) ds (cells_listing D) i l)

  pub degrees : (i : ℕ) → i < length ds → IsOfOneDimension G images i
  degrees i l = names_of rs (λ q. NonZero p (f (cell_of G i) q)) (λ q. dimension_of q ≡ dimension_of (cell_of G i))
      (λ q nz. ⊎_elim (λ e. e) (λ e. absurd (nz ((at i l).chain.of_degree q e))) (cases_eq (dimension_of q) (dimension_of (cell_of G i)))) (nth images i) (filed.at i l).names

  pub on_values : (i : ℕ) → i < length ds → IsCarriedTo G images i
  on_values i l = names_of rs (λ q. NonZero p (f (cell_of G i) q)) (Contains (value_at G i))
      (λ q nz. ⊎_elim (λ e. ((value_here G nf i l).cells q).1 (value_to T.map D (cell_of G i) q e)) (λ e. absurd (nz ((at i l).chain.on q e))) (cases_Bool (in_value T.map D (cell_of G i) q)))
      (nth images i) (filed.at i l).names

  pub augmented : (i : ℕ) → i < length ds → IsAugmented p G images i
  augmented i l z =
      same_trans (total_same p (length rs) (λ j. image_of G images (cell_of G i) (cell_at rs j)) (λ j. f (cell_of G i) (cell_at rs j)) (λ j _. same_image i l (cell_at rs j)))
      ((at i l).augmentation z)

  pub images_alike : (c : List Factor → ℕ) (q : List Factor) → Same p (image ds (image_of G images) c q) (image ds f c q)
  images_alike c q =
      total_same p (length ds) (λ i. c (cell_at ds i) * image_of G images (cell_at ds i) q) (λ i. c (cell_at ds i) * f (cell_at ds i) q) (λ i l. same-scale (c (cell_at ds i)) (same_image i l q))

  pub commuting : (i : ℕ) → i < length ds → Commutes p G images i
  commuting i l r =
      same_trans (boundary_same p r (image_of G images (cell_of G i)) (f (cell_of G i)) (λ s _. same_image i l s))
      (same_trans ((at i l).commutes r) (same_sym (images_alike (boundary_coefficient p (cell_of G i)) r)))
