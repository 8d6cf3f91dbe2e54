-- The first failing line of a witness of a pair, from where its bytes leave the form.
use Rattle.std.proofs.Common.{◌≡◌, ℕ, ◌+◌, refl, sym, ap, ◌∙◌, ⊎_elim, List, [], ◌∷◌, ◌++◌, length, true, cond, subst, None}
use Rattle.std.proofs.lemmas.Bool.{cases_Bool}
use Rattle.std.specs.Prelude.{codes, ◌==◌}
use Rattle.witness_laws.specs.declared.law.Law.{Law}
use Rattle.witness_laws.specs.declared.law.Law.TheVariants as laws
use Rattle.witness_laws.specs.Lines.{lines_of, lines_behind}
use Rattle.witness_laws.specs.Formats.{Format, IsFirstFault}
use Rattle.witness_laws.specs.Inputs.{Given}
use Rattle.witness_laws.specs.Tables.{tables_format}
use Rattle.witness_laws.proofs.Texts.{texts_have_their_lines}
use Rattle.witness_scanning.specs.Fronts.{BeginsOtherwise}
use Rattle.witness_reading.proofs.Forms.{Item, reads_line}
use Rattle.witness_reading.proofs.Faults.{IsForm}
use Rattle.witness_reading.proofs.Stops.{StopsText, Nothing, text_here, text_over, text_stop, cell_stop}
use Rattle.witness_reading.proofs.Shapes.{word_item, IsWordItem, told_word, no_word_here}
use Rattle.witness_reading.proofs.Places.{StopsAt, at_here, at_behind}
use Rattle.witness_reading.proofs.Leaving.{Leaves}
use Rattle.witness_reading.proofs.PairForm.{End, PairForm, pair_is_form}

-- ---- the fault, and how its line is counted: so many lines stand in front of the bytes that are left

pub record IsCounted {V : Type 0} (F : Format V) (bytes : List ℕ) (left : ℕ) (law : Law) : Type 0 where
  pub line : ℕ
  pub front : List ℕ
  pub here : List ℕ
  pub split : bytes ≡ front ++ here
  pub left_is : left ≡ length here
  pub count : length (lines_of bytes) ≡ line + length (lines_of here)
  pub fault : IsFirstFault F (lines_of bytes) line law

module _ {V : Type 0} (F : Format V) (L : List Item → Type 0) (form : IsForm F L) (bytes : List ℕ) (left : ℕ) where
  pub counted : (law : Law) → Leaves L bytes left law → IsCounted F bytes left law
  counted laws.Text s = record {
    line = s.line;
    front = s.front;
    here = s.here;
    split = s.split;
    left_is = s.left_is;
    count = s.count;
    fault = text_stop F L form (lines_of bytes) s.line s.stop;
  }
  counted laws.Cell s = record {
    line = s.line;
    front = s.front;
    here = s.here;
    split = s.split;
    left_is = s.left_is;
    count = s.count;
    fault = cell_stop F L form (lines_of bytes) s.line s.stop;
  }
  counted laws.Header s = absurd s
  counted laws.Cycle s = absurd s
  counted laws.Dual s = absurd s
  counted laws.Cocycle s = absurd s
  counted laws.Contraction s = absurd s
  counted laws.ValueContraction s = absurd s
  counted laws.Carried s = absurd s
  counted laws.Augmentation s = absurd s
  counted laws.Commutes s = absurd s
  counted laws.Matrix s = absurd s

pub pair_counted : (p : ℕ) (G : Given) → G.target ≡ None → (bytes : List ℕ) (left : ℕ) (law : Law) → Leaves (PairForm p G) bytes left law → IsCounted (tables_format p G) bytes left law
pair_counted p G e bytes left law s = counted (tables_format p G) (PairForm p G) (pair_is_form p G e) bytes left law s

-- ---- the last line

-- it does not stand there
pub no_end : (bytes : List ℕ) → BeginsOtherwise bytes (codes "end\n") → StopsAt true End bytes (length bytes)
no_end bytes h = at_here true End bytes
    (text_here (IsWordItem (codes "end\n")) (λ _. Nothing) (lines_of bytes) (word_item (codes "end\n") ∷ []) (refl, tt) (no_word_here (codes "end\n") bytes h))

-- bytes have a line
some_line : (cs line : List ℕ) (c : ℕ) → (t : List ℕ) × (ts : List (List ℕ)) × (lines_behind cs (c ∷ line) ≡ t ∷ ts)
some_line [] line c = (c ∷ line, [], refl)
some_line (d ∷ cs) line c = ⊎_elim
    (λ e. (c ∷ (line ++ d ∷ []), lines_behind cs [], ap (λ b. cond b ((c ∷ (line ++ d ∷ [])) ∷ lines_behind cs []) (lines_behind cs (c ∷ (line ++ d ∷ [])))) e))
    (λ e. let w = some_line cs (line ++ d ∷ []) c in
    (w.0, w.1, ap (λ b. cond b ((c ∷ (line ++ d ∷ [])) ∷ lines_behind cs []) (lines_behind cs (c ∷ (line ++ d ∷ [])))) e ∙ w.2))
    (cases_Bool (d == 10))

first_of : (c : ℕ) (cs : List ℕ) → (t : List ℕ) × (ts : List (List ℕ)) × (lines_of (c ∷ cs) ≡ t ∷ ts)
first_of c cs = ⊎_elim
    (λ e. (c ∷ [], lines_behind cs [], ap (λ b. cond b ((c ∷ []) ∷ lines_behind cs []) (lines_behind cs (c ∷ []))) e))
    (λ e. let w = some_line cs [] c in (w.0, w.1, ap (λ b. cond b ((c ∷ []) ∷ lines_behind cs []) (lines_behind cs (c ∷ []))) e ∙ w.2))
    (cases_Bool (c == 10))

-- something stands behind it
pub behind_end : (bytes : List ℕ) (c : ℕ) (cs : List ℕ) → bytes ≡ codes "end\n" ++ c ∷ cs → StopsAt true End bytes (length (c ∷ cs))
behind_end bytes c cs e =
    let w = first_of c cs in
    let z : Item = word_item (codes "end\n") in
    at_behind true End (z ∷ []) Nothing bytes (codes "end\n") (c ∷ cs) (length (c ∷ cs)) e
    (ap lines_of e ∙ texts_have_their_lines.first (codes "end\n") (c ∷ cs) (record { before = codes "end"; none = refl; ends = refl }))
    (reads_line (IsWordItem (codes "end\n")) (λ _. Nothing) z (told_word (codes "end\n")) refl) (tt, tt)
    (at_here true Nothing (c ∷ cs) (subst (λ (l : List (List ℕ)). StopsText Nothing l 0) (sym w.2) (text_over w.0 w.1)))
