-- Laws of words that are reached by removals: each is the contract of a function of the crate with
-- an empty body.
use Rattle.std.specs.Prelude.{◌≡◌, ◌↔◌, ℕ, ◌+◌, ◌*◌, ◌-◌, ◌/◌, ◌<◌, ℤ, List, length, true, if◌then◌else◌}
use Rattle.std.specs.List.{Contains, position_or_len}
use Rattle.std.specs.Ordering.{is_eq}
use Rattle.elem_cubes.specs.Corners.{corner_cmp}
use Rattle.elem_cubes.specs.Cells.{Factor, same_cell, lower_of, axes_of}
use Rattle.elem_cubes.specs.Faces.{IsFacet}
use Rattle.cell_complex.specs.FreePairs.{IsFreePair, IsOnePointPair, AreFreeInTurn, without_pairs, differing_axis}
use Rattle.packed_words.specs.Words.{Key, PackedWords, AreWords, IsWordOf, state_of, is_alive, key_of, place_of, key_at, word_at}
use Rattle.word_sweeps.specs.Reached.{IsFreeIn, IsReachedBy, AreReached, IsTakenPair, word_without, words_without}

-- the removal of a pair changes the states of its two cells alone, and gives a word again
pub record RemovalsAreSwaps : Type 0 where
  pub states : (w : PackedWords) (t : List Factor × List Factor)
      → length w.words ≡ length w.keys → IsOnePointPair t.0 t.1
      → state_of w t.0 ≡ 1 → state_of w t.1 ≡ 1
      → (c : List Factor)
      → state_of (words_without t w) c ≡ (if same_cell c t.0 then 2 + differing_axis t.0 t.1 else
      (if same_cell c t.1 then 2 else state_of w c))
  pub words : (w : PackedWords) (t : List Factor × List Factor)
      → AreWords w → IsOnePointPair t.0 t.1 → state_of w t.0 ≡ 1 → state_of w t.1 ≡ 1
      → IsWordOf (key_at w (place_of w.keys (key_of t.0)))
      (word_without t (word_at w (place_of w.keys (key_of t.0))))

-- words are reached from themselves, and one more removal gives words that are reached
pub record RemovalsReach : Type 0 where
  pub itself : (w : PackedWords) → AreReached w w
  pub more : (first last : PackedWords) (t : List Factor × List Factor)
      → AreReached first last → IsFreeIn last t → AreReached first (words_without t last)

-- the removals are free pairs of the cells alive at first, and leave the cells alive at last;
-- nothing comes alive
pub record ReachedWordsCollapse : Type 0 where
  pub free : (first last : PackedWords) (ts : List (List Factor × List Factor))
      → length first.words ≡ length first.keys → IsReachedBy first ts last
      → AreFreeInTurn (is_alive first) ts
  pub left : (first last : PackedWords) (ts : List (List Factor × List Factor))
      → length first.words ≡ length first.keys → IsReachedBy first ts last
      → (c : List Factor) → is_alive last c ≡ without_pairs ts (is_alive first) c
  pub never_back : (first last : PackedWords) (c : List Factor)
      → length first.words ≡ length first.keys → AreReached first last
      → state_of last c ≡ 1 → state_of first c ≡ 1

-- the pairs that were removed are exactly those that the last words record
abbrev pub TakenPairsAreTold : Type 0
TakenPairsAreTold =
    (first last : PackedWords) (ts : List (List Factor × List Factor))
    → length first.words ≡ length first.keys → IsReachedBy first ts last
    → (t : List Factor × List Factor) → Contains ts t ↔ IsTakenPair first last t

-- ---- the order of the taken pairs

-- the first place of a corner among the keys, or their number
abbrev pub corner_place : List Key → List ℤ → ℕ
corner_place keys x = position_or_len (λ k. is_eq (corner_cmp k.corner x)) keys

-- the rank of a cell: by its corner ascending, and then by its upper axes descending. The cells of
-- one word have one rank
abbrev pub rank_of : List Key → List Factor → ℕ
rank_of keys c = 4 * corner_place keys (lower_of c) + (3 - axes_of c / 16)

-- some of the taken pairs are done: all of the ranks below r
pub record AreDoneTo
    (keys : List Key) (r : ℕ) (taken done : List (List Factor × List Factor)) : Type 0 where
  pub some : (t : List Factor × List Factor) → Contains done t → Contains taken t
  pub below : (t : List Factor × List Factor)
      → Contains taken t → rank_of keys t.0 < r → Contains done t

-- while a taken pair of a rank is not done, some such pair is free now; and each is free now where
-- no other cell of its rank that is left has the face as a facet
pub record OrderIsByRank : Type 0 where
  pub some_free : (first last : PackedWords) (taken done : List (List Factor × List Factor))
      (r : ℕ) (t : List Factor × List Factor)
      → AreWords first → IsReachedBy first taken last → AreDoneTo first.keys r taken done
      → Contains taken t → rank_of first.keys t.0 ≡ r → ¬ Contains done t
      → (u : List Factor × List Factor) × Contains taken u × (rank_of first.keys u.0 ≡ r)
      × (¬ Contains done u) × IsFreePair (without_pairs done (is_alive first)) u.0 u.1
  pub free_in_rank : (first last : PackedWords) (taken done : List (List Factor × List Factor))
      (r : ℕ) (t : List Factor × List Factor)
      → AreWords first → IsReachedBy first taken last → AreDoneTo first.keys r taken done
      → Contains taken t → rank_of first.keys t.0 ≡ r → ¬ Contains done t
      → ((c : List Factor)
      → rank_of first.keys c ≡ r → without_pairs done (is_alive first) c ≡ true
      → IsFacet c t.0 → c ≡ t.1)
      → IsFreePair (without_pairs done (is_alive first)) t.0 t.1
