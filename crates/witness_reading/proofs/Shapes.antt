-- The lines of a witness file as items: what each may be, and that its text tells it.
use Rattle.std.proofs.Common.{◌≡◌, ℕ, refl, sym, ap, ◌∙◌, List, [], ◌∷◌, ◌++◌, get_or}
use Rattle.std.specs.Prelude.{codes}
use Rattle.std.specs.List.{flat_map}
use Rattle.witness_laws.specs.Lines.{chain_line, numbers_line, lines_of}
use Rattle.witness_laws.specs.Parts.{AreTerms}
use Rattle.witness_laws.proofs.Telling.{lines_tell_their_parts}
use Rattle.witness_laws.proofs.Texts.{texts_have_their_lines}
use Rattle.witness_scanning.specs.Fronts.{BeginsOtherwise}
use Rattle.witness_scanning.specs.Lines.{HasNoChainLine, HasNoVertexLine}
use Rattle.witness_reading.proofs.Forms.{Item, IsTold}
use Rattle.witness_reading.proofs.Stops.{BeginsWith}

-- ---- items

abbrev pub chain_item : List ℕ → List ℕ → List ℕ → ℕ → List (ℕ × ℕ) → Item
chain_item word ns kinds wanted c = record { text = chain_line word ns c; kinds = kinds; wanted = wanted; terms = c }

abbrev pub word_item : List ℕ → Item
word_item t = record { text = t; kinds = []; wanted = 0; terms = [] }

abbrev pub vertex_item : ℕ → List ℕ → ℕ → Item
vertex_item i kinds v = record { text = numbers_line (codes "v") (i ∷ v ∷ []); kinds = kinds; wanted = 1; terms = (v, 1) ∷ [] }

-- the line of a word and numbers, with some chain
pub record IsChainItem (p : ℕ) (word ns kinds : List ℕ) (wanted : ℕ) (z : Item) : Type 0 where
  pub chain : List (ℕ × ℕ)
  pub are : AreTerms p 0 chain
  pub is : z ≡ chain_item word ns kinds wanted chain

abbrev pub IsWordItem : List ℕ → Item → Type 0
IsWordItem t z = z ≡ word_item t

pub record IsVertexItem (i : ℕ) (kinds : List ℕ) (z : Item) : Type 0 where
  pub vertex : ℕ
  pub is : z ≡ vertex_item i kinds vertex

pub told_chain : (p : ℕ) (word ns kinds : List ℕ) (wanted : ℕ) → IsTold (IsChainItem p word ns kinds wanted)
told_chain p word ns kinds wanted y z a b e =
    let f : chain_line word ns a.chain ≡ chain_line word ns b.chain = sym (ap (λ (x : Item). x.text) a.is) ∙ e ∙ ap (λ (x : Item). x.text) b.is in
    let q : a.chain ≡ b.chain = (lines_tell_their_parts.chain word ns ns a.chain b.chain f).1 in
    a.is ∙ ap (λ (c : List (ℕ × ℕ)). chain_item word ns kinds wanted c) q ∙ sym b.is

pub told_word : (t : List ℕ) → IsTold (IsWordItem t)
told_word t y z a b e = a ∙ sym b

pub told_vertex : (i : ℕ) (kinds : List ℕ) → IsTold (IsVertexItem i kinds)
told_vertex i kinds y z a b e =
    let f : numbers_line (codes "v") (i ∷ a.vertex ∷ []) ≡ numbers_line (codes "v") (i ∷ b.vertex ∷ []) =
    sym (ap (λ (x : Item). x.text) a.is) ∙ e ∙ ap (λ (x : Item). x.text) b.is in
    let q : a.vertex ≡ b.vertex = ap (λ t. get_or t 1 0) (lines_tell_their_parts.numbers (codes "v") (i ∷ a.vertex ∷ []) (i ∷ b.vertex ∷ []) f) in
    a.is ∙ ap (λ (v : ℕ). vertex_item i kinds v) q ∙ sym b.is

-- ---- lines of the bytes that are left

-- what stands in front of the lines stands in front of the bytes
pub in_front : (bytes t : List ℕ) → BeginsWith t (lines_of bytes) → (rest : List ℕ) × (bytes ≡ t ++ rest)
in_front bytes t h = by (lines_of bytes) refl h
  where
    by : (ts : List (List ℕ)) → lines_of bytes ≡ ts → BeginsWith t ts → (rest : List ℕ) × (bytes ≡ t ++ rest)
    by [] e h = absurd h
    by (u ∷ us) e h = (
      flat_map (λ x. x) us,
      sym (texts_have_their_lines.joined bytes) ∙ ap (flat_map (λ x. x)) e ∙ ap (λ x. x ++ flat_map (λ y. y) us) (sym h),
    )

pub no_chain_here : (p : ℕ) (word ns kinds : List ℕ) (wanted : ℕ) (bytes : List ℕ) → HasNoChainLine word ns p bytes
    → (z : Item) → IsChainItem p word ns kinds wanted z → BeginsWith z.text (lines_of bytes) → ⊥
no_chain_here p word ns kinds wanted bytes h z a b =
    let w = in_front bytes z.text b in
    h a.chain w.0 a.are (w.1 ∙ ap (λ (x : Item). x.text ++ w.0) a.is)

pub no_word_here : (t bytes : List ℕ) → BeginsOtherwise bytes t → (z : Item) → IsWordItem t z → BeginsWith z.text (lines_of bytes) → ⊥
no_word_here t bytes h z a b =
    let w = in_front bytes z.text b in
    h w.0 (w.1 ∙ ap (λ (x : Item). x.text ++ w.0) a)

pub no_vertex_here : (i : ℕ) (kinds bytes : List ℕ) → HasNoVertexLine i bytes → (z : Item) → IsVertexItem i kinds z → BeginsWith z.text (lines_of bytes) → ⊥
no_vertex_here i kinds bytes h z a b =
    let w = in_front bytes z.text b in
    h a.vertex w.0 (w.1 ∙ ap (λ (x : Item). x.text ++ w.0) a.is)
