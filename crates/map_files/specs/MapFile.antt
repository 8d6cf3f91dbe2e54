-- Map files: which texts have a value, and which are refused, at which place and with which cause.
use Rattle.std.specs.Prelude.{◌≡◌, ◌⊎◌, ℕ, List, [], ◌∷◌, ◌++◌, Bool, true, false, None, Some}
use Rattle.cube_maps.specs.CubeMaps.{Mapping}
use Rattle.grid_files.specs.Pieces.{pieces}
use Rattle.grid_files.specs.SetFile.{said, first_place}
use Rattle.grid_files.specs.declared.fault.TextCause.{TextCause}
use Rattle.grid_files.specs.declared.fault.TextCause.TheVariants.{Unclosed}
use Rattle.grid_files.specs.declared.piece.Piece.{Piece}
use Rattle.map_files.specs.Items.{Item, dimension_line, Open, nothing, in_left, before_arrow, before_value, in_single, in_list, in_listed, behind_word, spelling, fits, beginning, fits_open, refused, cause_of, with_item}

-- The pieces are those of the item.
pub record IsItem (item : Item) (ps : List (ℕ × Piece)) : Type 0 where
  pub spelled : said ps ≡ spelling item
  pub fitting : fits item ≡ true

-- The pieces begin with those of these items, one after the other, and then come the rest.
abbrev pub Splits : List Item → List (ℕ × Piece) → List (ℕ × Piece) → Type 0
Splits [] ps rest = ps ≡ rest
Splits (item ∷ items) ps rest =
    (here more : List (ℕ × Piece)) × IsItem item here × (ps ≡ here ++ more) × Splits items more rest

-- None of these items is refused, and they make the second map of the first.
abbrev pub Gathers : Mapping → List Item → Mapping → Type 0
Gathers m [] all = all ≡ m
Gathers m (item ∷ items) all = (cause_of m item ≡ None) × Gathers (with_item m item) items all

-- Nothing is named before the first item.
abbrev pub no_namings : Mapping
no_namings = record { dimension = 0; named = [] }

-- The text has this value: it splits into items, and none of them is refused.
abbrev pub HasValue : List ℕ → Mapping → Type 0
HasValue text m = (items : List Item) × Splits items (pieces text) [] × Gathers no_namings items m

-- The place of an item's fault: an element's first byte, and the number of a dimension line.
abbrev pub fault_place : Item → List (ℕ × Piece) → ℕ
fault_place (dimension_line z) (p ∷ ps) = first_place ps
fault_place item ps = first_place ps

-- The pieces begin with an item that is refused as a whole.
pub record BeginsRefused (m : Mapping) (ps : List (ℕ × Piece)) (place : ℕ)
    (cause : TextCause) : Type 0 where
  pub item : Item
  pub here : List (ℕ × Piece)
  pub more : List (ℕ × Piece)
  pub is_item : IsItem item here
  pub split : ps ≡ here ++ more
  pub at : place ≡ fault_place item here
  pub why : cause_of m item ≡ Some cause

abbrev pub is_open : Open → Bool
is_open nothing = false
is_open (in_left xs) = true
is_open (before_arrow q) = true
is_open (before_value q) = true
is_open (in_single q xs) = true
is_open (in_list q vs) = true
is_open (in_listed q vs xs) = true
is_open behind_word = true

-- Behind the beginning of an item stands a piece that has no reading there, or the end of the text:
-- that is told at the item's first byte.
abbrev pub StopsAt : Open → ℕ → List (ℕ × Piece) → ℕ → TextCause → Type 0
StopsAt begun start [] place cause = (is_open begun ≡ true) × (place ≡ start) × (cause ≡ Unclosed)
StopsAt begun start (p ∷ ps) place cause = (place ≡ p.0) × (refused begun p.1 ≡ Some cause)

-- The pieces begin no item: they go on as one up to a piece that has no reading.
pub record BeginsBroken (ps : List (ℕ × Piece)) (place : ℕ) (cause : TextCause) : Type 0 where
  pub begun : Open
  pub here : List (ℕ × Piece)
  pub more : List (ℕ × Piece)
  pub begins : said here ≡ beginning begun
  pub fitting : fits_open begun ≡ true
  pub split : ps ≡ here ++ more
  pub stops : StopsAt begun (first_place here) more place cause

-- Behind items that are not refused the pieces begin no item, or one that is refused.
pub record Refuses (before : Mapping) (ps : List (ℕ × Piece)) (place : ℕ)
    (cause : TextCause) : Type 0 where
  pub items : List Item
  pub map : Mapping
  pub rest : List (ℕ × Piece)
  pub split : Splits items ps rest
  pub gathered : Gathers before items map
  pub refused : BeginsBroken rest place cause ⊎ BeginsRefused map rest place cause

-- The text is refused at this place with this cause.
abbrev pub IsRefusedAt : List ℕ → ℕ → TextCause → Type 0
IsRefusedAt text place cause = Refuses no_namings (pieces text) place cause
