-- The cells that a log leaves, listed
use Rattle.std.proofs.Common.{◌≡◌, ℕ, ◌+◌, ◌<◌, ◌≤◌, refl, sym, ap, ◌∙◌, List, [], ◌∷◌, ◌++◌, length, length-append, take, cond, get_or, true, false, Bool, subst, arith, ⊎_elim}
use Rattle.std.specs.Prelude.{◌↔◌, IsTrue}
use Rattle.std.proofs.Math.Seq.{get_or-append_seam}
use Rattle.std.specs.List.{filter}
use Rattle.std.specs.List.Sorted.{IsStrictlySortedBy}
use Rattle.std.proofs.lemmas.Bool.{true≢false, cases_lt, false_from_ne_true}
use Rattle.std.proofs.lemmas.List.{take_all, get_or_append_left}
use Rattle.std.proofs.lemmas.List.Elements.{filter_more}
use Rattle.std.proofs.lemmas.List.Kept.{IsStrictlySortedBy-filter}
use Rattle.elem_cubes.specs.Cells.{Factor}
use Rattle.elem_cubes.specs.Order.{cell_cmp}
use Rattle.elem_cubes.specs.Laws.{cell_at}
use Rattle.cube_sets.specs.Sorted.{has}
use Rattle.algebraic_reduction.specs.Reduction.{Step, IsUnpaired}
use Rattle.cell_complex.specs.Sorted.{IsSortedCells}
use Rattle.cell_complex.specs.Numbering.{number_of}
use Rattle.cell_complex.proofs.Meeting.{filtered}
use Rattle.cell_complex.proofs.Numbering.{number_at}
use Rattle.excision.specs.Left.{is_unpaired, is_left}
use Rattle.homology_basis.specs.Marks.{TellLeft}
use Rattle.excision.proofs.Leaving.{listing, test_unpaired, unpaired_test}

abbrev pub RemainTo : List (List Factor) → List Step → List (List Factor) → ℕ → Type 0
RemainTo cells ss left n = left ≡ filter (λ c. is_unpaired ss (number_of cells c)) (take n cells)

module _ (cells : List (List Factor)) (ss : List Step) (sorted : IsSortedCells cells) where
  abbrev keeps : List Factor → Bool
  keeps c = is_unpaired ss (number_of cells c)

  kept_at : (n : ℕ) → n < length cells → keeps (cell_at cells n) ≡ is_unpaired ss n
  kept_at n l = ap (is_unpaired ss) (number_at (has cell_cmp cells) cells (listing cells sorted) n l)

  one_more : (n : ℕ) (b : Bool) → n < length cells → is_unpaired ss n ≡ b → filter keeps (take (n + 1) cells) ≡ filter keeps (take n cells) ++ cond b (cell_at cells n ∷ []) []
  one_more n b l e = filter_more keeps cells n [] l ∙ ap (λ v. filter keeps (take n cells) ++ cond v (cell_at cells n ∷ []) []) (kept_at n l ∙ e)

  pub remain_first : (left : List (List Factor)) → left ≡ [] → RemainTo cells ss left 0
  remain_first left e = e

  pub remain_skip : (left : List (List Factor)) (n : ℕ) → n < length cells → ¬ IsUnpaired ss n → RemainTo cells ss left n → RemainTo cells ss left (n + 1)
  remain_skip left n l u r = r ∙ sym (one_more n false l (false_from_ne_true (is_unpaired ss n) (λ e. u (unpaired_test ss n e))) ∙ behind (filter keeps (take n cells)))
    where
      behind : (xs : List (List Factor)) → xs ++ [] ≡ xs
      behind [] = refl
      behind (x ∷ xs) = ap (λ (ys : List (List Factor)). x ∷ ys) (behind xs)

  pub remain_more : (left now : List (List Factor)) (n : ℕ) (c : List Factor) → n < length cells → IsUnpaired ss n → c ≡ cell_at cells n → now ≡ left ++ c ∷ [] → RemainTo cells ss left n → RemainTo cells ss now (n + 1)
  remain_more left now n c l u ec e r = e ∙ (λ j. r j ++ ec j ∷ []) ∙ sym (one_more n true l (test_unpaired ss n u))

  module _ (left : List (List Factor)) (n : ℕ) (l : length cells ≤ n) (r : RemainTo cells ss left n) where
    all_left : left ≡ filter keeps cells
    all_left = r ∙ ap (filter keeps) (take_all n cells l)

    pub remain_has : (c : List Factor) → has cell_cmp left c ≡ is_left cells ss c
    remain_has c = ap (λ (xs : List (List Factor)). has cell_cmp xs c) all_left ∙ filtered keeps cells c

    pub remain_sorted : IsStrictlySortedBy cell_cmp left
    remain_sorted = subst (λ (xs : List (List Factor)). IsStrictlySortedBy cell_cmp xs) (sym all_left) (IsStrictlySortedBy-filter cell_cmp keeps cells sorted.sorted)

-- ---- marks

alive_is : (b : Bool) (ss : List Step) (n : ℕ) → IsTrue b ↔ IsUnpaired ss n → b ≡ is_unpaired ss n
alive_is true ss n e = sym (test_unpaired ss n (e.0 refl))
alive_is false ss n e = sym (false_from_ne_true (is_unpaired ss n) (λ t. true≢false (sym (e.1 (unpaired_test ss n t)))))

pub count_more : (marks now : List Bool) (n : ℕ) (b : Bool) → length marks ≡ n → now ≡ marks ++ b ∷ [] → length now ≡ n + 1
count_more marks now n b e is = ap length is ∙ length-append marks (b ∷ []) ∙ ap (λ k. k + 1) e

pub mark_more : (ss : List Step) (marks now : List Bool) (n : ℕ) (b : Bool) → length marks ≡ n → TellLeft n ss marks → now ≡ marks ++ b ∷ [] → IsTrue b ↔ IsUnpaired ss n → TellLeft (n + 1) ss now
mark_more ss marks now n b e t is a k l = ap (λ (ms : List Bool). get_or ms k false) is ∙ ⊎_elim
    (λ lt. get_or_append_left marks (b ∷ []) false k (omega arith) ∙ t k lt)
    (λ ge. let q : k ≡ length marks = omega arith in
    ap (λ (i : ℕ). get_or (marks ++ b ∷ []) i false) q ∙ get_or-append_seam marks b [] false ∙ alive_is b ss n a ∙ ap (is_unpaired ss) (sym (q ∙ e)))
    (cases_lt k n)

pub not_marked : (ss : List Step) (marks : List Bool) (n m : ℕ) → TellLeft m ss marks → n < m → get_or marks n false ≡ false → ¬ IsUnpaired ss n
not_marked ss marks n m t l e u = true≢false (sym (test_unpaired ss n u) ∙ sym (t n l) ∙ e)

pub is_marked : (ss : List Step) (marks : List Bool) (n m : ℕ) → TellLeft m ss marks → n < m → get_or marks n false ≡ true → IsUnpaired ss n
is_marked ss marks n m t l e = unpaired_test ss n (sym (t n l) ∙ e)
