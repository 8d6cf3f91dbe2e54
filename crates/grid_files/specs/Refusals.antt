-- Where a text is refused: what stands before has a value, what stands open there begins an item,
-- and with the piece or the item that is refused nothing goes on to a value.
use Rattle.std.specs.Prelude.{◌≡◌, ◌⊎◌, ℕ, List, [], ◌∷◌, ◌++◌, true}
use Rattle.cube_sets.specs.Sets.{Members}
use Rattle.grid_files.specs.Items.{Item, spelling, fits}
use Rattle.grid_files.specs.Pieces.{pieces}
use Rattle.grid_files.specs.SetFile.{said, first_place, IsItem, Splits, Gathers, no_members, fault_place, IsRefusedAt}
use Rattle.grid_files.specs.declared.fault.Kind.{Kind}
use Rattle.grid_files.specs.declared.fault.TextCause.{TextCause}
use Rattle.grid_files.specs.declared.fault.TextCause.TheVariants.{Unclosed}
use Rattle.grid_files.specs.declared.piece.Piece.{Piece}

-- these pieces have the value, as those of a text
abbrev pub HaveValue : Kind → List (ℕ × Piece) → Members → Type 0
HaveValue kind ps set = (items : List Item) × Splits items ps [] × Gathers kind no_members items set

-- nothing that begins with these pieces has a value
abbrev pub LeadNowhere : Kind → List (ℕ × Piece) → Type 0
LeadNowhere kind ps = (more : List (ℕ × Piece)) (set : Members) → ¬ HaveValue kind (ps ++ more) set

-- some item of the grammar begins with these pieces
pub record BeginItem (ps : List (ℕ × Piece)) : Type 0 where
  pub item : Item
  pub rest : List Piece
  pub spelled : spelling item ≡ said ps ++ rest
  pub fitting : fits item ≡ true

-- the piece behind these is refused, at its place: with it they lead nowhere
pub record PieceRefused (kind : Kind) (before rest : List (ℕ × Piece)) (place : ℕ) : Type 0 where
  pub piece : ℕ × Piece
  pub more : List (ℕ × Piece)
  pub split : rest ≡ piece ∷ more
  pub at : place ≡ piece.0
  pub nowhere : LeadNowhere kind (before ++ piece ∷ [])

-- a whole item is refused, at its place: with it what stands before leads nowhere
pub record ItemRefused (kind : Kind) (front here : List (ℕ × Piece)) (place : ℕ) : Type 0 where
  pub item : Item
  pub is_item : IsItem item here
  pub at : place ≡ fault_place item here
  pub nowhere : LeadNowhere kind (front ++ here)

-- the text ends behind these pieces, which stand open
abbrev pub LeftOpen : List (ℕ × Piece) → List (ℕ × Piece) → ℕ → TextCause → Type 0
LeftOpen here rest place cause = (rest ≡ []) × (place ≡ first_place here) × (cause ≡ Unclosed)

-- the text is refused there, behind pieces that have a value
pub record RefusedFirst (kind : Kind) (text : List ℕ) (place : ℕ) (cause : TextCause) : Type 0 where
  pub front : List (ℕ × Piece)
  pub here : List (ℕ × Piece)
  pub rest : List (ℕ × Piece)
  pub split : pieces text ≡ front ++ (here ++ rest)
  pub set : Members
  pub value : HaveValue kind front set
  pub begin : BeginItem here
  pub refused : LeftOpen here rest place cause
      ⊎ (PieceRefused kind (front ++ here) rest place ⊎ ItemRefused kind front here place)

-- each refusal is of that kind
abbrev pub RefusalsAreFirst : Type 0
RefusalsAreFirst =
    (kind : Kind) (text : List ℕ) (place : ℕ) (cause : TextCause)
    → IsRefusedAt kind text place cause → RefusedFirst kind text place cause
