-- Terms name cells as the law of the first pass says where they name cells of a kind, by the table of kinds.
use Rattle.std.proofs.Common.{◌≡◌, ℕ, suc, ◌-◌, ◌<◌, ◌≤◌, sym, ap, ◌∙◌, arith, ⊎_elim, List, [], ◌∷◌, length, get_or, Bool, true, cond}
use Rattle.std.proofs.lemmas.Bool.{cases_Bool}
use Rattle.std.proofs.lemmas.List.{length-map, get_or-map}
use Rattle.std.proofs.lemmas.List.Elements.{Contains-get_or}
use Rattle.std.specs.Prelude.{filter}
use Rattle.std.specs.List.{Contains}
use Rattle.elem_cubes.specs.Cells.{Factor, dimension_of}
use Rattle.elem_cubes.specs.Laws.{cell_at}
use Rattle.elem_cubes.proofs.Members.{from-In, In-from}
use Rattle.acyclic_values.proofs.Cells.{filter_In, In_filter}
use Rattle.witness_laws.specs.Parts.{NameCells}
use Rattle.witness_runs.specs.Kinds.{NamesKind}
use Rattle.witness_reading.specs.Kinds.{kinds_where}

module _ (on : List Factor → Bool) (cells : List (List Factor)) where
  abbrev kind : List Factor → ℕ
  kind q = cond (on q) (suc (dimension_of q)) 0

  -- a cell of the dimension that may be named
  abbrev pub IsNamed : ℕ → List Factor → Type 0
  IsNamed d q = (on q ≡ true) × (dimension_of q ≡ d)

  count : length (kinds_where on cells) ≡ length cells
  count = length-map cells kind

  kind_at : (n : ℕ) → 0 < n → n ≤ length cells → get_or (kinds_where on cells) (n - 1) 0 ≡ kind (cell_at cells (n - 1))
  kind_at n a b = get_or-map kind cells (n - 1) [] 0 (omega arith)

  named_kind : (q : List Factor) (d : ℕ) → kind q ≡ suc d → IsNamed d q
  named_kind q d h = ⊎_elim
      (λ e. let f : suc (dimension_of q) ≡ suc d = ap (λ b. cond b (suc (dimension_of q)) 0) (sym e) ∙ h in (e, omega arith))
      (λ e. absurd (let f : 0 ≡ suc d = ap (λ b. cond b (suc (dimension_of q)) 0) (sym e) ∙ h in omega arith))
      (cases_Bool (on q))

  kind_named : (q : List Factor) (d : ℕ) → IsNamed d q → kind q ≡ suc d
  kind_named q d h = ap (λ b. cond b (suc (dimension_of q)) 0) h.0 ∙ ap suc h.1

  pub names_cells : (d : ℕ) (ts : List (ℕ × ℕ)) → NamesKind (kinds_where on cells) (suc d) ts → NameCells cells (IsNamed d) ts
  names_cells d [] h = tt
  names_cells d (t ∷ ts) h =
      let a : 0 < t.0 = h.0.0 in
      let b : t.0 ≤ length cells = let l = h.0.1 in let c = count in omega arith in
      (a, b, named_kind (cell_at cells (t.0 - 1)) d (sym (kind_at t.0 a b) ∙ h.0.2), names_cells d ts h.1)

  pub names_kind : (d : ℕ) (ts : List (ℕ × ℕ)) → NameCells cells (IsNamed d) ts → NamesKind (kinds_where on cells) (suc d) ts
  names_kind d [] h = tt
  names_kind d (t ∷ ts) h =
      let a : 0 < t.0 = h.0 in
      let b : t.0 ≤ length cells = h.1 in
      let l : t.0 ≤ length (kinds_where on cells) = let c = count in omega arith in
      ((a, l, kind_at t.0 a b ∙ kind_named (cell_at cells (t.0 - 1)) d h.2), names_kind d ts h.3)

-- ---- the same cells, told in other words

pub name_others : (cells : List (List Factor)) (P Q : List Factor → Type 0) → ((i : ℕ) → i < length cells → P (cell_at cells i) → Q (cell_at cells i))
    → (ts : List (ℕ × ℕ)) → NameCells cells P ts → NameCells cells Q ts
name_others cells P Q f [] h = tt
name_others cells P Q f (t ∷ ts) h =
    let a : 0 < t.0 = h.0 in
    let b : t.0 ≤ length cells = h.1 in
    (a, b, f (t.0 - 1) (omega arith) h.2, name_others cells P Q f ts h.3)

-- a cell of the list is in the part where the test holds
pub test_of : (on : List Factor → Bool) (cells : List (List Factor)) (q : List Factor) → Contains (filter on cells) q → on q ≡ true
test_of on cells q w = (filter_In on cells q (In-from (filter on cells) q w)).1

pub in_part : (on : List Factor → Bool) (cells : List (List Factor)) (i : ℕ) → i < length cells → on (cell_at cells i) ≡ true → Contains (filter on cells) (cell_at cells i)
in_part on cells i l e =
    let q : List Factor = cell_at cells i in
    from-In (filter on cells) q (In_filter on cells q (In-from cells q (Contains-get_or cells i [] l)) e)
