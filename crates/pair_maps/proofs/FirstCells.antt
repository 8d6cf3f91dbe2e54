-- The first cell of a list of which something holds: there is one or none, and it is one.
use Rattle.std.proofs.Common.{◌≡◌, ◌⊎◌, inl, inr, ⊎_elim, refl, sym, ap, ◌∙◌, subst, List, [], ◌∷◌}
use Rattle.std.specs.List.{Contains}
use Rattle.std.specs.declared.cmp.Ordering.{Ordering}
use Rattle.std.specs.declared.cmp.Ordering.TheVariants.{Less, Equal, Greater}
use Rattle.elem_cubes.specs.Cells.{Factor}
use Rattle.elem_cubes.specs.Order.{cell_cmp}
use Rattle.elem_cubes.specs.OrderLemmas.{cell_cmp_total, cell_cmp_itself, tied_cells}
use Rattle.elem_cubes.proofs.Members.{In, In-from, from-In}
use Rattle.cube_sets.proofs.Merging.{above}
use Rattle.map_checks.specs.Firsts.{IsFirstOf}

not_itself : (q : List Factor) → cell_cmp q q ≡ Less → ⊥
not_itself q e = let t = cell_cmp_itself q in cc

record Least (P : List Factor → Type 0) (cells : List (List Factor)) : Type 0 where
  cell : List Factor
  there : In cells cell
  here : P cell
  before : (r : List Factor) → In cells r → P r → cell_cmp r cell ≡ Less → ⊥

module _ (P : List Factor → Type 0) where
  with_head : (h : List Factor) (t : List (List Factor)) → P h → (l : Least P t) → (o : Ordering) → cell_cmp h l.cell ≡ o → Least P (h ∷ t)
  with_head h t p l Less e = record {
    cell = h;
    there = inl refl;
    here = p;
    before = λ r w q less. ⊎_elim
        (λ s. not_itself h (ap (λ c. cell_cmp c h) s ∙ less))
        (λ v. l.before r v q (cell_cmp_total.trans r h l.cell less e))
        w;
  }
  with_head h t p l Equal e = record {
    cell = l.cell;
    there = inr l.there;
    here = l.here;
    before = λ r w q less. ⊎_elim
        (λ s. not_itself l.cell (ap (λ c. cell_cmp c l.cell) (sym (tied_cells h l.cell e) ∙ s) ∙ less))
        (λ v. l.before r v q less)
        w;
  }
  with_head h t p l Greater e = record {
    cell = l.cell;
    there = inr l.there;
    here = l.here;
    before = λ r w q less. ⊎_elim
        (λ s. let f : cell_cmp h l.cell ≡ Less = ap (λ c. cell_cmp c l.cell) s ∙ less in let g : Greater ≡ Less = sym e ∙ f in cc)
        (λ v. l.before r v q less)
        w;
  }

  least : (cells : List (List Factor)) → ((q : List Factor) → In cells q → P q ⊎ (P q → ⊥)) → Least P cells ⊎ ((q : List Factor) → In cells q → P q → ⊥)
  least [] d = inr (λ q w p. w)
  least (h ∷ t) d = ⊎_elim
      (λ here. ⊎_elim
      (λ l. inl (with_head h t here l (cell_cmp h l.cell) refl))
      (λ none. inl (record { cell = h; there = inl refl; here = here; before = λ r w q less. ⊎_elim (λ s. not_itself h (ap (λ c. cell_cmp c h) s ∙ less)) (λ v. none r v q) w }))
      (least t (λ q w. d q (inr w))))
      (λ not. ⊎_elim
      (λ l. inl (record { cell = l.cell; there = inr l.there; here = l.here; before = λ r w q less. ⊎_elim (λ s. not (subst P (sym s) q)) (λ v. l.before r v q less) w }))
      (λ none. inr (λ q w p. ⊎_elim (λ s. not (subst P (sym s) p)) (λ v. none q v p) w))
      (least t (λ q w. d q (inr w))))
      (d h (inl refl))

  pub first_or_none : (cells : List (List Factor)) → ((q : List Factor) → Contains cells q → P q ⊎ (P q → ⊥)) → ((q : List Factor) × IsFirstOf cells P q) ⊎ ((q : List Factor) → Contains cells q → P q → ⊥)
  first_or_none cells d = ⊎_elim
      (λ l. inl (l.cell, record { there = from-In cells l.cell l.there; here = l.here; before = λ r w q less. l.before r (In-from cells r w) q less }))
      (λ none. inr (λ q w p. none q (In-from cells q w) p))
      (least cells (λ q w. d q (from-In cells q w)))

  pub first_is_one : (cells : List (List Factor)) (q r : List Factor) → IsFirstOf cells P q → IsFirstOf cells P r → q ≡ r
  first_is_one cells q r f g = by (cell_cmp q r) refl
    where
      by : (o : Ordering) → cell_cmp q r ≡ o → q ≡ r
      by Less e = absurd (g.before q f.there f.here e)
      by Equal e = tied_cells q r e
      by Greater e = absurd (f.before r g.there g.here (above cell_cmp cell_cmp_total q r e))
