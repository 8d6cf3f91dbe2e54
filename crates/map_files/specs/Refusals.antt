-- Where a text is refused: what stands before has a value, what stands open there begins an item,
-- and with the piece or the item that is refused nothing goes on to a value.
use Rattle.std.specs.Prelude.{◌≡◌, ◌⊎◌, ℕ, List, [], ◌∷◌, ◌++◌, true}
use Rattle.cube_maps.specs.CubeMaps.{Mapping}
use Rattle.grid_files.specs.Pieces.{pieces}
use Rattle.grid_files.specs.SetFile.{said, first_place}
use Rattle.grid_files.specs.declared.fault.TextCause.{TextCause}
use Rattle.grid_files.specs.declared.fault.TextCause.TheVariants.{Unclosed}
use Rattle.grid_files.specs.declared.piece.Piece.{Piece}
use Rattle.map_files.specs.Items.{Item, spelling, fits}
use Rattle.map_files.specs.MapFile.{IsItem, Splits, Gathers, no_namings, fault_place, IsRefusedAt}

-- these pieces have the value, as those of a text
abbrev pub HaveValue : List (ℕ × Piece) → Mapping → Type 0
HaveValue ps m = (items : List Item) × Splits items ps [] × Gathers no_namings items m

-- nothing that begins with these pieces has a value
abbrev pub LeadNowhere : List (ℕ × Piece) → Type 0
LeadNowhere ps = (more : List (ℕ × Piece)) (m : Mapping) → ¬ HaveValue (ps ++ more) m

-- some item of the grammar begins with these pieces
pub record BeginItem (ps : List (ℕ × Piece)) : Type 0 where
  pub item : Item
  pub rest : List Piece
  pub spelled : spelling item ≡ said ps ++ rest
  pub fitting : fits item ≡ true

-- the piece behind these is refused, at its place: with it they lead nowhere
pub record PieceRefused (before rest : List (ℕ × Piece)) (place : ℕ) : Type 0 where
  pub piece : ℕ × Piece
  pub more : List (ℕ × Piece)
  pub split : rest ≡ piece ∷ more
  pub at : place ≡ piece.0
  pub nowhere : LeadNowhere (before ++ piece ∷ [])

-- a whole item is refused, at its place: with it what stands before leads nowhere
pub record ItemRefused (front here : List (ℕ × Piece)) (place : ℕ) : Type 0 where
  pub item : Item
  pub is_item : IsItem item here
  pub at : place ≡ fault_place item here
  pub nowhere : LeadNowhere (front ++ here)

-- the text ends behind these pieces, which stand open
abbrev pub LeftOpen : List (ℕ × Piece) → List (ℕ × Piece) → ℕ → TextCause → Type 0
LeftOpen here rest place cause = (rest ≡ []) × (place ≡ first_place here) × (cause ≡ Unclosed)

-- the text is refused there, behind pieces that have a value
pub record RefusedFirst (text : List ℕ) (place : ℕ) (cause : TextCause) : Type 0 where
  pub front : List (ℕ × Piece)
  pub here : List (ℕ × Piece)
  pub rest : List (ℕ × Piece)
  pub split : pieces text ≡ front ++ (here ++ rest)
  pub map : Mapping
  pub value : HaveValue front map
  pub begin : BeginItem here
  pub refused : LeftOpen here rest place cause
      ⊎ (PieceRefused (front ++ here) rest place ⊎ ItemRefused front here place)

-- each refusal is of that kind
abbrev pub RefusalsAreFirst : Type 0
RefusalsAreFirst =
    (text : List ℕ) (place : ℕ) (cause : TextCause) → IsRefusedAt text place cause
    → RefusedFirst text place cause
