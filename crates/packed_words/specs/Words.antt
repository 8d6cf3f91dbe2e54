-- The states of cells packed into words: a key is a lower corner with the axes above the fourth,
-- and its word has four bits for each set of the first four axes: 0 not there, 1 alive, 2 taken as
-- the coface of a pair, 2 + j taken as the face of a coface along axis j, counted from 1.
use Rattle.std.specs.Prelude.{◌≡◌, ◌≢◌, ◌↔◌, ℕ, zero, suc, ◌+◌, ◌*◌, ◌/◌, ◌%◌, ◌^◌, ◌<◌, ℤ, List, [], length, slice_index_or, slice_set, Bool, true, false, ◌&&◌, ◌==◌, nat_lt, if◌then◌else◌}
use Rattle.std.specs.List.{Contains, list_all, position_or_len}
use Rattle.std.specs.List.Sorted.{IsStrictlySortedBy}
use Rattle.std.specs.Ordering.{on, then_cmp, nat_cmp, is_eq}
use Rattle.std.specs.declared.cmp.Ordering.{Ordering}
use Rattle.elem_cubes.specs.Corners.{is_corner, corner_cmp}
use Rattle.elem_cubes.specs.Cells.{Factor, is_file_factor, same_cell, lower_of, axes_of, cell_of}
use Rattle.elem_cubes.specs.Laws.{cell_at}
use Rattle.cell_complex.specs.Numbering.{number_of}

-- a lower corner, and axes from the fifth on, the first axis in the lowest bit
pub record Key : Type 0 where
  pub corner : List ℤ
  pub upper : ℕ

-- the keys in order, and a word for each
pub record PackedWords : Type 0 where
  pub keys : List Key
  pub words : List ℕ

-- the order of keys: by corner, then by upper axes
abbrev pub key_cmp : Key → Key → Ordering
key_cmp = then_cmp (on (λ k. k.corner) corner_cmp) (on (λ k. k.upper) nat_cmp)

-- the key of a cell, and its place among the first four axes
abbrev pub key_of : List Factor → Key
key_of c = record { corner = lower_of c; upper = 16 * (axes_of c / 16) }

abbrev pub slot_of : List Factor → ℕ
slot_of c = axes_of c % 16

-- the place of a key, or the number of keys for one that is not there
abbrev pub place_of : List Key → Key → ℕ
place_of keys k = position_or_len (λ x. is_eq (key_cmp x k)) keys

abbrev pub no_key : Key
no_key = record { corner = []; upper = 0 }

abbrev pub key_at : PackedWords → ℕ → Key
key_at w i = slice_index_or w.keys i no_key

abbrev pub word_at : PackedWords → ℕ → ℕ
word_at w i = slice_index_or w.words i 0

-- the k-th four bits of a word
abbrev pub nibble : ℕ → ℕ → ℕ
nibble zero word = word % 16
nibble (suc k) word = nibble k (word / 16)

-- the state of a cell: 0 where it has no word
abbrev pub state_of : PackedWords → List Factor → ℕ
state_of w c = nibble (slot_of c) (word_at w (place_of w.keys (key_of c)))

abbrev pub is_alive : PackedWords → List Factor → Bool
is_alive w c = state_of w c == 1

-- the four bits of a slot of a key are those of a cell in range
abbrev pub is_slot : Key → ℕ → Bool
is_slot k slot =
    nat_lt (k.upper + slot) (2 ^ length k.corner)
    && list_all is_file_factor (cell_of k.corner (k.upper + slot))

-- a word of 64 bits, whose bits that belong to no cell in range are 0
pub record IsWordOf (k : Key) (word : ℕ) : Type 0 where
  pub small : word < 2 ^ 64
  pub cells : (slot : ℕ) → slot < 16 → nibble slot word ≢ 0 → is_slot k slot ≡ true

-- what packed words keep
pub record AreWords (w : PackedWords) : Type 0 where
  pub sorted : IsStrictlySortedBy key_cmp w.keys
  pub corners : (i : ℕ) → i < length w.keys → is_corner (key_at w i).corner ≡ true
  pub uppers : (i : ℕ) → i < length w.keys
      → ((key_at w i).upper % 16 ≡ 0) × ((key_at w i).upper < 64)
  pub count : length w.words ≡ length w.keys
  pub few : length w.keys < 2 ^ 32
  pub fit : (i : ℕ) → i < length w.keys → IsWordOf (key_at w i) (word_at w i)

-- another word at a place
abbrev pub with_word : PackedWords → ℕ → ℕ → PackedWords
with_word w i word = record { keys = w.keys; words = slice_set w.words i word }

-- what the keys of cells are
pub record IsKey (k : Key) : Type 0 where
  pub corner : is_corner k.corner ≡ true
  pub whole : k.upper % 16 ≡ 0
  pub small : k.upper < 64

-- the keys are those of the cells of the list
abbrev pub AreKeysOf : List (List Factor) → List Key → Type 0
AreKeysOf cells keys =
    (k : Key)
    → Contains keys k ↔ ((i : ℕ) × (i < length cells) × (key_of (cell_at cells i) ≡ k))

-- the flag of a cell of the list; false for others, where the list of flags is no longer
abbrev pub flag_of : List (List Factor) → List Bool → List Factor → Bool
flag_of cells flags c = slice_index_or flags (number_of cells c) false

-- each of the keys is one that cells can have
abbrev pub AreFit : List Key → Type 0
AreFit keys = (i : ℕ) → i < length keys → IsKey (slice_index_or keys i no_key)

-- a cell of the list is alive where its flag is set; all other cells have the state 0
abbrev pub HaveStates : List (List Factor) → List Bool → PackedWords → Type 0
HaveStates cells flags w =
    (c : List Factor) → state_of w c ≡ (if flag_of cells flags c then 1 else 0)

-- the cell is alive, and all other states are as they were
abbrev pub IsEnlivened : List Factor → PackedWords → PackedWords → Type 0
IsEnlivened q old new =
    (c : List Factor) → state_of new c ≡ (if same_cell c q then 1 else state_of old c)
