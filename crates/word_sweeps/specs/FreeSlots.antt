-- Free one-point pairs at a corner by words alone: its own, and those one step down along each axis.
use Rattle.std.specs.Prelude.{◌≡◌, ℕ, ◌+◌, ◌/◌, ◌%◌, ◌^◌, ◌<◌, ◌≤◌, ℤ, pos, negsuc, ◌+ℤ◌, List, length, false, slice_index_or, slice_set}
use Rattle.elem_cubes.specs.Cells.{Factor, lower_of, cell_of}
use Rattle.packed_words.specs.Words.{Key, PackedWords, place_of, word_at, nibble, is_alive}

-- the corner one step down along an axis
abbrev pub below_corner : List ℤ → ℕ → List ℤ
below_corner corner axis =
    slice_set corner axis (slice_index_or corner axis (pos 0) +ℤ negsuc 0)

-- the word of the cells at a corner without axes from the fifth on
abbrev pub first_key : List ℤ → Key
first_key corner = record { corner = corner; upper = 0 }

abbrev pub word_of : PackedWords → List ℤ → ℕ
word_of w corner = word_at w (place_of w.keys (first_key corner))

-- the words one step down along each axis of a corner
abbrev pub AreBelow : PackedWords → List ℤ → List ℕ → Type 0
AreBelow w corner below =
    (k : ℕ) → k < length corner → slice_index_or below k 0 ≡ word_of w (below_corner corner k)

-- the cell of a slot is a point along the axis
abbrev pub IsPointAlong : ℕ → ℕ → Type 0
IsPointAlong slot axis = slot / 2 ^ axis % 2 ≡ 0

-- the cell of the slot has a coface along the axis, which is alive in the word
abbrev pub HasCoface : ℕ → ℕ → ℕ → Type 0
HasCoface word slot axis = IsPointAlong slot axis × (nibble (slot + 2 ^ axis) word ≡ 1)

-- of the cofaces at its own corner that along the axis is alone alive
abbrev pub IsSoleAxis : ℕ → ℕ → ℕ → ℕ → Type 0
IsSoleAxis own axes slot axis =
    (axis < axes) × HasCoface own slot axis
    × ((k : ℕ) → k < axes → HasCoface own slot k → k ≡ axis)

-- a coface one step down is alive
abbrev pub IsBlocked : List ℕ → ℕ → ℕ → Type 0
IsBlocked below axes slot =
    (k : ℕ) × (k < axes) × HasCoface (slice_index_or below k 0) slot k

-- the cell of the slot is alive, and of its cofaces that along the axis at its own corner alone is
pub record IsFreeSlot (own : ℕ) (below : List ℕ) (axes slot axis : ℕ) : Type 0 where
  pub alive : nibble slot own ≡ 1
  pub sole : IsSoleAxis own axes slot axis
  pub clear : ¬ IsBlocked below axes slot

-- the pair of a slot and the one with an axis more
abbrev pub slot_pair : List ℤ → ℕ → ℕ → List Factor × List Factor
slot_pair corner slot axis = (cell_of corner slot, cell_of corner (slot + 2 ^ axis))

-- of the pairs whose faces are at a corner, none is such
abbrev pub NoneAtCorner : List ℤ → (List Factor × List Factor → Type 0) → Type 0
NoneAtCorner corner such = (t : List Factor × List Factor) → lower_of t.0 ≡ corner → ¬ such t

-- what is known of the words round a corner that has a word
pub record IsAround (w : PackedWords) (corner : List ℤ) (place axes : ℕ) (below : List ℕ) : Type 0
  where
    pub placed : place ≡ place_of w.keys (first_key corner)
    pub within : place < length w.keys
    pub count : axes ≡ length corner
    pub few : axes ≤ 4
    pub words : AreBelow w corner below

-- no cell at the corner is alive
abbrev pub NoneAlive : PackedWords → List ℤ → Type 0
NoneAlive w corner = (c : List Factor) → lower_of c ≡ corner → is_alive w c ≡ false

-- the slots of a pair at a corner
pub record AreSlots (corner : List ℤ) (slot axis : ℕ) : Type 0 where
  pub few : length corner ≤ 4
  pub small : slot < 2 ^ length corner
  pub within : axis < length corner
  pub point : IsPointAlong slot axis

-- the last word records the pair as taken
abbrev pub IsTold : ℕ → ℕ → ℕ → Type 0
IsTold last slot axis = nibble slot last ≡ 3 + axis
