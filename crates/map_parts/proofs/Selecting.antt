-- Images that are kept by a selector one after the other; and what is said of equal sets.
use Rattle.std.proofs.Common.{◌≡◌, ℕ, ◌+◌, ◌<◌, ◌≤◌, refl, sym, ap, ◌∙◌, arith, ⊎_elim, List, [], ◌∷◌, ◌++◌, length, true, subst}
use Rattle.std.proofs.lemmas.Bool.{cases_lt}
use Rattle.elem_cubes.specs.Cells.{Factor}
use Rattle.elem_cubes.specs.Laws.{cell_at}
use Rattle.elem_cubes.proofs.Modular.{exact}
use Rattle.field_mod.specs.Modular.{Same}
use Rattle.chains.specs.Terms.{coefficient}
use Rattle.cube_sets.specs.Closures.{is_cell_of, cells_of}
use Rattle.cube_maps.specs.CubeMaps.{Naming}
use Rattle.cell_complex.specs.Numbering.{by_cell}
use Rattle.cell_complex.proofs.Numbering.{listed}
use Rattle.acyclic_values.proofs.Cells.{cells_listing}
use Rattle.acyclic_values.specs.CarriedMaps.{IsCarriedMap}
use Rattle.map_checks.specs.Carriers.{Carrying, IsCarrier}
use Rattle.chain_selector.specs.Selections.{Selection, IsSelection, Extends, domain_cells, range_cells, is_kept, kept_terms, kept_image}
use Rattle.chain_selector.proofs.OneMap.{selections_are_of_one_map}
use Rattle.witness_laws.specs.Parts.{nth}
use Rattle.witness_parts.specs.Filed.{IsFiled, AreFiled}
use Rattle.witness_parts.proofs.Degrees.{filed_none, filed_more}
use Rattle.map_parts.specs.Values.{Carries}
use Rattle.map_parts.specs.Images.{AreFiledImages}
use Rattle.map_parts.specs.Maps.{AreCellwise}

-- the images of the first n cells are kept, and filed
pub record AreImagesSoFar (p : ℕ) (old s : Selection) (cells all : List (List Factor)) (n : ℕ) (images : List (List (ℕ × ℕ))) : Type 0 where
  pub extends : Extends old s
  pub kept : (i : ℕ) → i < n → is_kept s (cell_at cells i) ≡ true
  pub filed : AreFiled p all n (λ i. kept_image s (cell_at cells i)) images

pub extends_itself : (s : Selection) → Extends s s
extends_itself s = record { carrying = refl; kept = λ q k. (k, refl) }

extends_further : (s t u : Selection) → Extends s t → Extends t u → Extends s u
extends_further s t u v w = record {
  carrying = w.carrying ∙ v.carrying;
  kept = λ q k. let a = v.kept q k in let b = w.kept q a.0 in (b.0, b.1 ∙ a.1);
}

-- the cells stay what they are
pub same_domain : (s t : Selection) → Extends s t → domain_cells s ≡ domain_cells t
same_domain s t e = ap (λ (c : Carrying). cells_of c.domain) (sym e.carrying)

pub same_range : (s t : Selection) → Extends s t → range_cells s ≡ range_cells t
same_range s t e = ap (λ (c : Carrying). cells_of c.range) (sym e.carrying)

-- what is kept is the filed chain
pub kept_filed : (p : ℕ) (s t : Selection) (all : List (List Factor)) (q : List Factor) (ts us : List (ℕ × ℕ))
    → Extends s t → all ≡ range_cells s → ts ≡ kept_terms t q → IsFiled p all (by_cell all (coefficient ts)) us → IsFiled p all (kept_image t q) us
kept_filed p s t all q ts us e a k f =
    let r : all ≡ range_cells t = a ∙ same_range s t e in
    subst (λ (l : List (List Factor)). IsFiled p all (by_cell l (coefficient (kept_terms t q))) us) r (subst (λ (v : List (ℕ × ℕ)). IsFiled p all (by_cell all (coefficient v)) us) k f)

-- a cell at a place is one of the domain
pub cell_there : (s : Selection) (cells : List (List Factor)) (i : ℕ) → cells ≡ domain_cells s → i < length cells → is_cell_of s.carrying.domain (cell_at cells i) ≡ true
cell_there s cells i e l =
    let k : i < length (domain_cells s) = omega (arith, ap length e, l) in
    ap (λ (ds : List (List Factor)). is_cell_of s.carrying.domain (cell_at ds i)) e ∙ listed (is_cell_of s.carrying.domain) (domain_cells s) (cells_listing s.carrying.domain) i k

-- a kept image names cells of the range alone
pub kept_within : (p : ℕ) (s t : Selection) (all : List (List Factor)) (q : List Factor) (ts : List (ℕ × ℕ))
    → Extends s t → all ≡ range_cells s → IsSelection p t → ts ≡ kept_terms t q → (g : ℕ) → length all ≤ g → Same p (coefficient ts g) 0
kept_within p s t all q ts e a sel k g l =
    let r : all ≡ range_cells t = a ∙ same_range s t e in
    exact p (ap (λ (v : List (ℕ × ℕ)). coefficient v g) k ∙ sel.numbers q g (omega (arith, ap length r, l)))

still : (s t : Selection) → Extends s t → (q : List Factor) → is_kept s q ≡ true → kept_image t q ≡ kept_image s q
still s t e q k i = by_cell (cells_of (e.carrying i).range) (coefficient ((e.kept q k).1 i))

pub none_so_far : (p : ℕ) (s : Selection) (cells all : List (List Factor)) (images : List (List (ℕ × ℕ))) → images ≡ [] → AreImagesSoFar p s s cells all 0 images
none_so_far p s cells all images e = record {
  extends = extends_itself s;
  kept = λ i l. absurd (omega arith);
  filed = subst (AreFiled p all 0 (λ i. kept_image s (cell_at cells i))) (sym e) (filed_none p all (λ i. kept_image s (cell_at cells i)));
}

pub one_so_far : (p : ℕ) (old s t : Selection) (cells all : List (List Factor)) (n : ℕ) (images new : List (List (ℕ × ℕ))) (z : List (ℕ × ℕ)) → AreImagesSoFar p old s cells all n images → Extends s t
    → is_kept t (cell_at cells n) ≡ true → IsFiled p all (kept_image t (cell_at cells n)) z → new ≡ images ++ z ∷ [] → AreImagesSoFar p old t cells all (n + 1) new
one_so_far p old s t cells all n images new z w e k f m = record {
  extends = extends_further old s t w.extends e;
  kept = λ i l. ⊎_elim
      (λ h. (e.kept (cell_at cells i) (w.kept i h)).0)
      (λ h. let g : i ≡ n = omega (arith, l, h) in ap (λ (j : ℕ). is_kept t (cell_at cells j)) g ∙ k)
      (cases_lt i n);
  filed = subst (AreFiled p all (n + 1) (λ i. kept_image t (cell_at cells i))) (sym m)
      (filed_more p all n (λ i. kept_image t (cell_at cells i)) images z before f);
}
  where
    before : AreFiled p all n (λ i. kept_image t (cell_at cells i)) images
    before = record {
      count = w.filed.count;
      at = λ i l. subst (λ (c : List Factor → ℕ). IsFiled p all c (nth images i)) (sym (still s t e (cell_at cells i) (w.kept i l))) (w.filed.at i l);
    }

pub all_so_far : (p : ℕ) (old s : Selection) (cells all : List (List Factor)) (n : ℕ) (images : List (List (ℕ × ℕ))) → 1 ≤ p → AreImagesSoFar p old s cells all n images → n ≡ length cells
    → cells ≡ domain_cells old → all ≡ range_cells old → IsSelection p s → AreFiledImages p old.carrying images
all_so_far p old s cells all n images one w e d r sel =
    let m = selections_are_of_one_map p s one sel in
    let here : AreFiled p all (length cells) (λ i. m.map (cell_at cells i)) images = record {
      count = w.filed.count ∙ e;
      at = λ i l. let k : i < n = omega (arith, e, l) in
          subst (λ (c : List Factor → ℕ). IsFiled p all c (nth images i)) (sym (m.kept (cell_at cells i) (w.kept i k))) (w.filed.at i k);
    } in
    record {
      map = m.map;
      carried = subst (λ (c : Carrying). IsCarriedMap p c.map c.domain c.range m.map) w.extends.carrying m.carried;
      filed = subst (λ (l : List (List Factor)). AreFiled p l (length (domain_cells old)) (λ i. m.map (cell_at (domain_cells old) i)) images) r
          (subst (λ (l : List (List Factor)). AreFiled p all (length l) (λ i. m.map (cell_at l i)) images) d here);
    }

-- ---- the same of the map and the sets of a carrier

module _ (p : ℕ) (c : Carrying) (f : List Naming) (d r : List (List Factor)) (m : c.map ≡ f) (e : c.domain ≡ d) (h : c.range ≡ r) where
  pub images_over : (images : List (List (ℕ × ℕ))) → AreFiledImages p c images → AreFiledImages p (record { dimension = 0; map = f; domain = d; range = r }) images
  images_over images w = record {
    map = w.map;
    carried = subst (λ (g : List Naming). IsCarriedMap p g d r w.map) m
        (subst (λ (l : List (List Factor)). IsCarriedMap p c.map l r w.map) e (subst (λ (l : List (List Factor)). IsCarriedMap p c.map c.domain l w.map) h w.carried));
    filed = subst (λ (l : List (List Factor)). AreFiled p (cells_of r) (length (cells_of l)) (λ i. w.map (cell_at (cells_of l) i)) images) e
        (subst (λ (l : List (List Factor)). AreFiled p (cells_of l) (length (cells_of c.domain)) (λ i. w.map (cell_at (cells_of c.domain) i)) images) h w.filed);
  }

  pub carries_over : IsCarrier p c → Carries p f d r
  carries_over is =
      subst (λ (g : List Naming). Carries p g d r) m
      (subst (λ (l : List (List Factor)). Carries p c.map l r) e (subst (λ (l : List (List Factor)). Carries p c.map c.domain l) h (c.dimension, is)))

pub cellwise_over : (p : ℕ) (f : List Naming) (d r e s : List (List Factor)) (vs : List ℕ) (gs : List (List (List (ℕ × ℕ)))) (images : List (List (ℕ × ℕ)))
    → d ≡ e → r ≡ s → AreCellwise p f d r vs gs images → AreCellwise p f e s vs gs images
cellwise_over p f d r e s vs gs images a b w =
    subst (λ (l : List (List Factor)). AreCellwise p f e l vs gs images) b (subst (λ (l : List (List Factor)). AreCellwise p f l r vs gs images) a w)
