-- A text is split at its line feeds, one byte behind the other.
use Rattle.std.proofs.Common.{◌≡◌, ℕ, ◌+◌, ◌<◌, refl, ap, ◌∙◌, arith, List, [], ◌∷◌, ◌++◌, length, get_or, drop, Bool, true, false, cond, drop-cons, add-one}
use Rattle.std.specs.Prelude.{◌==◌}
use Rattle.witness_laws.specs.Lines.{lines_of, lines_behind}

-- a line has begun
abbrev pub begun : List ℕ → Bool
begun [] = false
begun (c ∷ cs) = true

-- so many lines stand before the byte at a place, where one has begun or not
pub record AreBefore (bytes : List ℕ) (place count : ℕ) (inside : Bool) : Type 0 where
  pub line : List ℕ
  pub inside_is : inside ≡ begun line
  pub many : length (lines_of bytes) ≡ count + length (lines_behind (drop place bytes) line)

begun_more : (line : List ℕ) (c : ℕ) → true ≡ begun (line ++ c ∷ [])
begun_more [] c = refl
begun_more (d ∷ ds) c = refl

one_byte : (bytes : List ℕ) (place : ℕ) → place < length bytes → drop place bytes ≡ get_or bytes place 0 ∷ drop (place + 1) bytes
one_byte bytes place l = rw (add-one, drop-cons bytes place 0)

split_at : (c : ℕ) (cs line : List ℕ) → (c == 10) ≡ true → lines_behind (c ∷ cs) line ≡ (line ++ c ∷ []) ∷ lines_behind cs []
split_at c cs line e = ap (λ b. cond b ((line ++ c ∷ []) ∷ lines_behind cs []) (lines_behind cs (line ++ c ∷ []))) e

go_on : (c : ℕ) (cs line : List ℕ) → (c == 10) ≡ false → lines_behind (c ∷ cs) line ≡ lines_behind cs (line ++ c ∷ [])
go_on c cs line e = ap (λ b. cond b ((line ++ c ∷ []) ∷ lines_behind cs []) (lines_behind cs (line ++ c ∷ []))) e

pub before_first : (bytes : List ℕ) → AreBefore bytes 0 0 false
before_first bytes = record { line = []; inside_is = refl; many = omega arith }

pub behind_feed : (bytes : List ℕ) (place count : ℕ) (inside : Bool) → AreBefore bytes place count inside → place < length bytes → (get_or bytes place 0 == 10) ≡ true
    → AreBefore bytes (place + 1) (count + 1) false
behind_feed bytes place count inside b l e = record {
  line = [];
  inside_is = refl;
  many =
      let q : lines_behind (drop place bytes) b.line ≡ (b.line ++ get_or bytes place 0 ∷ []) ∷ lines_behind (drop (place + 1) bytes) [] =
      ap (λ t. lines_behind t b.line) (one_byte bytes place l) ∙ split_at (get_or bytes place 0) (drop (place + 1) bytes) b.line e in
      let m = ap length q in
      let n = b.many in omega arith;
}

pub behind_other : (bytes : List ℕ) (place count : ℕ) (inside : Bool) → AreBefore bytes place count inside → place < length bytes → (get_or bytes place 0 == 10) ≡ false
    → AreBefore bytes (place + 1) count true
behind_other bytes place count inside b l e = record {
  line = b.line ++ get_or bytes place 0 ∷ [];
  inside_is = begun_more b.line (get_or bytes place 0);
  many =
      let q : lines_behind (drop place bytes) b.line ≡ lines_behind (drop (place + 1) bytes) (b.line ++ get_or bytes place 0 ∷ []) =
      ap (λ t. lines_behind t b.line) (one_byte bytes place l) ∙ go_on (get_or bytes place 0) (drop (place + 1) bytes) b.line e in
      b.many ∙ ap (λ t. count + length t) q;
}
