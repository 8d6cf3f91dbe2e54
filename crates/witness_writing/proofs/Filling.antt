-- The lines of the values and images of the cells of the domain are the texts of a part; and texts as they grow.
use Rattle.std.proofs.Common.{◌≡◌, ℕ, zero, suc, ◌+◌, ◌<◌, sym, ap, ◌∙◌, arith, List, [], ◌∷◌, ◌++◌, length, get_or, map, append_assoc, true, subst}
use Rattle.std.proofs.lemmas.List.{append-nil, get_or-map}
use Rattle.std.specs.Prelude.{codes}
use Rattle.std.specs.List.{Contains}
use Rattle.elem_cubes.specs.Cells.{Factor}
use Rattle.elem_cubes.specs.Laws.{cell_at}
use Rattle.cube_sets.specs.Closures.{is_cell_of, cells_of}
use Rattle.cell_complex.specs.Numbering.{number_of}
use Rattle.cell_complex.proofs.Numbering.{listed}
use Rattle.cube_maps.specs.CubeMaps.{Naming}
use Rattle.acyclic_values.specs.Values.{in_value, IsValueAt}
use Rattle.acyclic_values.specs.CarriedMaps.{GoesInto}
use Rattle.acyclic_values.proofs.Cells.{cells_listing}
use Rattle.acyclic_values.proofs.Values.{value_inside, value_list_is, values_are_one}
use Rattle.witness_laws.specs.Lines.{Line, values, vertex, filling, image, each, chain_line, numbers_line}
use Rattle.witness_laws.specs.Parts.{nth}
use Rattle.witness_laws.specs.Tables.{MapTables, value_lines}
use Rattle.witness_types.specs.declared.part.MapPart.{MapPart}
use Rattle.witness_types.specs.Parts.{degrees_of}
use Rattle.witness_writing.specs.Runs.{value_in, fillings_in, fillings_text, value_text, cell_text, values_text, IsOfValues}
use Rattle.witness_writing.proofs.Counting.{in_filtered}
use Rattle.witness_writing.proofs.Grouping.{each_equal}
use Rattle.witness_writing.proofs.Pairs.{flat, flat_each, flat_once, flat_append}

-- ---- one text more

each_more : (n : ℕ) (f : ℕ → List ℕ) → each (suc n) f ≡ each n f ++ f n
each_more zero f = append-nil (f 0)
each_more (suc n) f = ap (λ l. f 0 ++ l) (each_more n (λ i. f (suc i))) ∙ sym (append_assoc (f 0) (each n (λ i. f (suc i))) (f (suc n)))

pub grown : (n : ℕ) (f : ℕ → List ℕ) (start before after here : List ℕ) → after ≡ before ++ here → here ≡ f n → before ≡ start ++ each n f → after ≡ start ++ each (n + 1) f
grown n f start before after here a e b =
    let s : n + 1 ≡ suc n = omega arith in
    a ∙ ap (λ t. before ++ t) e ∙ ap (λ t. t ++ f n) b ∙ append_assoc start (each n f) (f n) ∙ ap (λ t. start ++ t) (sym (each_more n f)) ∙ ap (λ (k : ℕ). start ++ each k f) (sym s)

pub three_more : (start a b c first second third : List ℕ) → first ≡ start ++ a → second ≡ first ++ b → third ≡ second ++ c → third ≡ start ++ ((a ++ b) ++ c)
three_more start a b c first second third e f g =
    g ∙ ap (λ l. l ++ c) (f ∙ ap (λ l. l ++ b) e ∙ append_assoc start a b) ∙ append_assoc start (a ++ b) c

-- ---- what stands at a place

pub found_at : {A : Type 0} (xs : List A) (i : ℕ) (x d : A) → i < length xs → x ≡ get_or xs i x → x ≡ get_or xs i d
found_at [] i x d l e = absurd (omega arith)
found_at (y ∷ ys) zero x d l e = e
found_at (y ∷ ys) (suc i) x d l e = found_at ys i x d (omega arith) e

pub mapped_at : {A B : Type 0} (f : A → B) (xs : List A) (i : ℕ) (x : A) (d : B) → i < length xs → x ≡ get_or xs i x → f x ≡ get_or (map f xs) i d
mapped_at f xs i x d l e = ap f e ∙ sym (get_or-map f xs i x d l)

-- the line of a chain with its degree
pub degree_line : (word : List ℕ) (zs : List (ℕ × List (ℕ × ℕ))) (cs : List (List (ℕ × ℕ))) (i d : ℕ) (z : ℕ × List (ℕ × ℕ)) (t : List (ℕ × ℕ))
    → i < length zs → z ≡ get_or zs i z → d ≡ z.0 → t ≡ get_or cs i [] → chain_line word (d ∷ []) t ≡ chain_line word (get_or (degrees_of zs) i 0 ∷ []) (nth cs i)
degree_line word zs cs i d z t l e f g =
    let n : d ≡ get_or (degrees_of zs) i 0 = f ∙ ap (λ (y : ℕ × List (ℕ × ℕ)). y.0) e ∙ sym (get_or-map (λ (y : ℕ × List (ℕ × ℕ)). y.0) zs i z 0 l) in
    ap (λ (m : ℕ). chain_line word (m ∷ []) t) n ∙ ap (chain_line word (get_or (degrees_of zs) i 0 ∷ [])) g

-- ---- the value at a cell

-- a cell of the domain is one
pub cell_listed : (domain : List (List Factor)) (i : ℕ) → i < length (cells_of domain) → is_cell_of domain (cell_at (cells_of domain) i) ≡ true
cell_listed domain i l = listed (is_cell_of domain) (cells_of domain) (cells_listing domain) i l

-- what is found as the value is its list
pub value_is : (f : List Naming) (domain range value : List (List Factor)) (i : ℕ) → GoesInto f domain range → i < length (cells_of domain)
    → IsValueAt f domain (cell_at (cells_of domain) i) value → value ≡ value_in f domain range i
value_is f domain range value i into l v =
    let s : List Factor = cell_at (cells_of domain) i in
    let c : is_cell_of domain s ≡ true = cell_listed domain i l in
    values_are_one f domain s value (value_in f domain range i) v (value_list_is f domain range s (λ g t. value_inside f domain domain range (λ q w. w) into s g c t))

-- its cells are cells of the range
pub values_inside : (f : List Naming) (domain range : List (List Factor)) (i : ℕ) (value all : List (List Factor)) → value ≡ value_in f domain range i → all ≡ cells_of range
    → (q : List Factor) → Contains value q → Contains all q
values_inside f domain range i value all e k q w =
    subst (λ (l : List (List Factor)). Contains l q) (sym k)
    (in_filtered (in_value f domain (cell_at (cells_of domain) i)) (cells_of range) q (subst (λ (l : List (List Factor)). Contains l q) e w))

pub same_value : (all others value other : List (List Factor)) (n m v w : ℕ) (gs hs : List (List (ℕ × ℕ))) (z y : List (ℕ × ℕ))
    → all ≡ others → value ≡ other → n ≡ m → v ≡ w → gs ≡ hs → z ≡ y → value_text all value n v gs z ≡ value_text others other m w hs y
same_value all others value other n m v w gs hs z y a b c d e f = λ i. value_text (a i) (b i) (c i) (d i) (e i) (f i)

-- what holds of two sets holds of their copies
pub goes_over : (f : List Naming) (domain range other further : List (List Factor)) → other ≡ domain → further ≡ range → GoesInto f domain range → GoesInto f other further
goes_over f domain range other further d r into =
    subst (λ (l : List (List Factor)). GoesInto f l further) (sym d) (subst (λ (l : List (List Factor)). GoesInto f domain l) (sym r) into)

pub values_over : {p : ℕ} (f : List Naming) (domain range other further : List (List Factor)) (part : MapPart p) → other ≡ domain → further ≡ range → IsOfValues f domain range part → IsOfValues f other further part
values_over f domain range other further part d r of =
    subst (λ (l : List (List Factor)). IsOfValues f l further part) (sym d) (subst (λ (l : List (List Factor)). IsOfValues f domain l part) (sym r) of)

-- ---- the lines

module _ {p : ℕ} (f : List Naming) (domain range : List (List Factor)) (part : MapPart p) (M : MapTables) (h : Line → List ℕ)
    (count : length M.images ≡ length (cells_of domain))
    (fills : M.fillings ≡ fillings_in part)
    (at_vertex : (i : ℕ) → h (vertex i) ≡ numbers_line (codes "v") (suc i ∷ get_or part.vertices.items i 0 ∷ []))
    (at_filling : (i m : ℕ) → h (filling i m) ≡ chain_line (codes "g") (suc i ∷ suc (number_of (cells_of range) (cell_at (value_in f domain range i) m)) ∷ []) (nth (get_or (fillings_in part) i []) m))
    (at_image : (i : ℕ) → h (image i) ≡ chain_line (codes "f") (suc i ∷ []) (nth part.images.items i)) where
  abbrev cell_lines : ℕ → List Line
  cell_lines i = vertex i ∷ each (length (get_or M.fillings i [])) (λ m. filling i m ∷ []) ++ image i ∷ []

  filled : (i : ℕ) → flat (map h (each (length (get_or M.fillings i [])) (λ m. filling i m ∷ []))) ≡ fillings_text (cells_of range) (value_in f domain range i) (suc i) (get_or (fillings_in part) i [])
  filled i =
      flat_once h (length (get_or M.fillings i [])) (filling i) ∙ each_equal (length (get_or M.fillings i [])) _ _ (at_filling i)
      ∙ ap (λ (gs : List (List (List (ℕ × ℕ)))). each (length (get_or gs i []))
      (λ m. chain_line (codes "g") (suc i ∷ suc (number_of (cells_of range) (cell_at (value_in f domain range i) m)) ∷ []) (nth (get_or (fillings_in part) i []) m))) fills

  cell_is : (i : ℕ) → flat (map h (cell_lines i)) ≡ cell_text f domain range part i
  cell_is i =
      let v : List ℕ = numbers_line (codes "v") (suc i ∷ get_or part.vertices.items i 0 ∷ []) in
      let g : List ℕ = fillings_text (cells_of range) (value_in f domain range i) (suc i) (get_or (fillings_in part) i []) in
      let z : List ℕ = chain_line (codes "f") (suc i ∷ []) (nth part.images.items i) in
      ap (λ l. h (vertex i) ++ l) (flat_append h (each (length (get_or M.fillings i [])) (λ m. filling i m ∷ [])) (image i ∷ []))
      ∙ ap (λ l. l ++ (flat (map h (each (length (get_or M.fillings i [])) (λ m. filling i m ∷ []))) ++ (h (image i) ++ []))) (at_vertex i)
      ∙ ap (λ l. v ++ (l ++ (h (image i) ++ []))) (filled i)
      ∙ ap (λ l. v ++ (g ++ l)) (append-nil (h (image i)) ∙ at_image i)
      ∙ sym (append_assoc v g z)

  pub values_are : flat (map h (value_lines M)) ≡ h values ++ values_text f domain range part
  values_are =
      ap (λ l. h values ++ l)
      (flat_each h (length M.images) cell_lines ∙ each_equal (length M.images) _ _ cell_is
      ∙ ap (λ (n : ℕ). each n (cell_text f domain range part)) count)
