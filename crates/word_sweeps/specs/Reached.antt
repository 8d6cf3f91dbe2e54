-- Words that are reached from words by removals of free one-point pairs.
use Rattle.std.specs.Prelude.{ℕ, ◌≡◌, ◌≤◌, ◌+◌, ◌*◌, ◌^◌, ◌↔◌, List, [], ◌∷◌, ◌++◌}
use Rattle.std.specs.List.{Contains}
use Rattle.elem_cubes.specs.Cells.{Factor}
use Rattle.cell_complex.specs.FreePairs.{IsFreePair, IsOnePointPair, without_pairs, differing_axis}
use Rattle.packed_words.specs.Words.{PackedWords, slot_of, key_of, place_of, word_at, with_word, state_of, is_alive}

-- the word after the removal of a pair of its cells: the state of the face goes from 1 to 2 + j,
-- that of the coface from 1 to 2
abbrev pub word_without : List Factor × List Factor → ℕ → ℕ
word_without t word = word + (1 + differing_axis t.0 t.1) * 16 ^ slot_of t.0 + 16 ^ slot_of t.1

abbrev pub words_without : List Factor × List Factor → PackedWords → PackedWords
words_without t w =
    let i = place_of w.keys (key_of t.0) in
    with_word w i (word_without t (word_at w i))

-- a one-point pair that is free in the words
pub record IsFreeIn (w : PackedWords) (t : List Factor × List Factor) : Type 0 where
  pub one_point : IsOnePointPair t.0 t.1
  pub free : IsFreePair (is_alive w) t.0 t.1

-- the last words come from the first by these removals, each of a pair that is free at its turn
abbrev pub IsReachedBy : PackedWords → List (List Factor × List Factor) → PackedWords → Type 0
IsReachedBy first [] last = last ≡ first
IsReachedBy first (t ∷ ts) last = IsFreeIn first t × IsReachedBy (words_without t first) ts last

abbrev pub AreReached : PackedWords → PackedWords → Type 0
AreReached first last = (ts : List (List Factor × List Factor)) × IsReachedBy first ts last

-- no one-point pair is free
abbrev pub HasNoOnePointPair : PackedWords → Type 0
HasNoOnePointPair w = (t : List Factor × List Factor) → ¬ IsFreeIn w t

-- each cell is alive or not there: none is taken
abbrev pub AreUntaken : PackedWords → Type 0
AreUntaken w = (c : List Factor) → state_of w c ≤ 1

-- the last words record that the pair was taken
pub record IsTakenPair (first last : PackedWords) (t : List Factor × List Factor) : Type 0 where
  pub one_point : IsOnePointPair t.0 t.1
  pub alive : state_of first t.0 ≡ 1
  pub face : state_of last t.0 ≡ 2 + differing_axis t.0 t.1

-- a pair that is free in the words, and that the last words record as taken
pub record IsTurn (w last : PackedWords) (t : List Factor × List Factor) : Type 0 where
  pub free : IsFreeIn w t
  pub face : state_of last t.0 ≡ 2 + differing_axis t.0 t.1

-- further removals, of pairs that the last words record, and the list of the pairs with them
pub record GoesOn
    (last old : PackedWords) (before : List (List Factor × List Factor))
    (new : PackedWords) (after : List (List Factor × List Factor)) : Type 0 where
  pub more : List (List Factor × List Factor)
  pub items : after ≡ before ++ more
  pub reached : IsReachedBy old more new
  pub listed : (t : List Factor × List Factor)
      → Contains more t → state_of last t.0 ≡ 2 + differing_axis t.0 t.1

-- the pairs are those that the last words record
abbrev pub AreTakenPairs
    : PackedWords → PackedWords → List (List Factor × List Factor) → Type 0
AreTakenPairs first last pairs =
    (t : List Factor × List Factor) → Contains pairs t ↔ IsTakenPair first last t

-- the cells that are alive at last are those alive at first without the pairs
abbrev pub Leave : PackedWords → PackedWords → List (List Factor × List Factor) → Type 0
Leave first last pairs =
    (c : List Factor) → is_alive last c ≡ without_pairs pairs (is_alive first) c
