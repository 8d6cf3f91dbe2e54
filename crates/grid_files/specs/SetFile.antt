-- Set files: which texts have a value, and which are refused, at which place and with which cause.
use Rattle.std.specs.Prelude.{◌≡◌, ◌⊎◌, ℕ, List, [], ◌∷◌, ◌++◌, map, Bool, true, false, None, Some}
use Rattle.cube_sets.specs.Sets.{Members}
use Rattle.grid_files.specs.Pieces.{pieces}
use Rattle.grid_files.specs.Items.{Item, dimension_line, Open, nothing, in_full, before_lower, in_lower, before_upper, in_upper, before_end, behind_word, spelling, fits, beginning, fits_open, refused, cause_of, with_item}
use Rattle.grid_files.specs.declared.fault.Kind.{Kind}
use Rattle.grid_files.specs.declared.fault.TextCause.{TextCause}
use Rattle.grid_files.specs.declared.fault.TextCause.TheVariants.{Unclosed}
use Rattle.grid_files.specs.declared.piece.Piece.{Piece}

-- What pieces say, without their places, and the place of the first of them.
abbrev pub said : List (ℕ × Piece) → List Piece
said ps = map (λ p. p.1) ps

abbrev pub first_place : List (ℕ × Piece) → ℕ
first_place [] = 0
first_place (p ∷ ps) = p.0

-- The pieces are those of the item.
pub record IsItem (item : Item) (ps : List (ℕ × Piece)) : Type 0 where
  pub spelled : said ps ≡ spelling item
  pub fitting : fits item ≡ true

-- The pieces begin with those of these items, one after the other, and then come the rest.
abbrev pub Splits : List Item → List (ℕ × Piece) → List (ℕ × Piece) → Type 0
Splits [] ps rest = ps ≡ rest
Splits (item ∷ items) ps rest =
    (here more : List (ℕ × Piece)) × IsItem item here × (ps ≡ here ++ more) × Splits items more rest

-- None of these items is refused, and they make the second set of the first.
abbrev pub Gathers : Kind → Members → List Item → Members → Type 0
Gathers kind set [] all = all ≡ set
Gathers kind set (item ∷ items) all =
    (cause_of kind set item ≡ None) × Gathers kind (with_item set item) items all

-- Nothing is known before the first item.
abbrev pub no_members : Members
no_members = record { dimension = 0; cells = [] }

-- The text has this value: it splits into items, and none of them is refused.
abbrev pub HasValue : Kind → List ℕ → Members → Type 0
HasValue kind text set =
    (items : List Item) × Splits items (pieces text) [] × Gathers kind no_members items set

-- The place of an item's fault: a cube's first byte, and the number of a dimension line.
abbrev pub fault_place : Item → List (ℕ × Piece) → ℕ
fault_place (dimension_line z) (p ∷ ps) = first_place ps
fault_place item ps = first_place ps

-- The pieces begin with an item that is refused as a whole.
pub record BeginsRefused (kind : Kind) (set : Members) (ps : List (ℕ × Piece)) (place : ℕ)
    (cause : TextCause) : Type 0 where
  pub item : Item
  pub here : List (ℕ × Piece)
  pub more : List (ℕ × Piece)
  pub is_item : IsItem item here
  pub split : ps ≡ here ++ more
  pub at : place ≡ fault_place item here
  pub why : cause_of kind set item ≡ Some cause

abbrev pub is_open : Open → Bool
is_open nothing = false
is_open (in_full xs) = true
is_open before_lower = true
is_open (in_lower ls) = true
is_open (before_upper ls) = true
is_open (in_upper ls us) = true
is_open (before_end ls us) = true
is_open behind_word = true

-- Behind the beginning of an item stands a piece that has no reading there, or the end of the text:
-- that is told at the item's first byte.
abbrev pub StopsAt : Open → ℕ → List (ℕ × Piece) → ℕ → TextCause → Type 0
StopsAt begun start [] place cause = (is_open begun ≡ true) × (place ≡ start) × (cause ≡ Unclosed)
StopsAt begun start (p ∷ ps) place cause = (place ≡ p.0) × (refused begun p.1 ≡ Some cause)

-- The pieces begin no item: they go on as one up to a piece that has no reading.
pub record BeginsBroken (ps : List (ℕ × Piece)) (place : ℕ) (cause : TextCause) : Type 0 where
  pub begun : Open
  pub here : List (ℕ × Piece)
  pub more : List (ℕ × Piece)
  pub begins : said here ≡ beginning begun
  pub fitting : fits_open begun ≡ true
  pub split : ps ≡ here ++ more
  pub stops : StopsAt begun (first_place here) more place cause

-- Behind items that are not refused the pieces begin no item, or one that is refused.
pub record Refuses (kind : Kind) (before : Members) (ps : List (ℕ × Piece)) (place : ℕ)
    (cause : TextCause) : Type 0 where
  pub items : List Item
  pub set : Members
  pub rest : List (ℕ × Piece)
  pub split : Splits items ps rest
  pub gathered : Gathers kind before items set
  pub refused : BeginsBroken rest place cause ⊎ BeginsRefused kind set rest place cause

-- The text is refused at this place with this cause.
abbrev pub IsRefusedAt : Kind → List ℕ → ℕ → TextCause → Type 0
IsRefusedAt kind text place cause = Refuses kind no_members (pieces text) place cause
