-- How rows are read.
use Rattle.std.proofs.Common.{◌≡◌, ℕ, ◌+◌, ◌<◌, refl, sym, ap, ◌∙◌, List, [], ◌∷◌, ◌++◌, length, append_assoc}
use Rattle.std.proofs.lemmas.List.{append-nil, length-append}
use Rattle.witness_laws.specs.Lines.{row_line}
use Rattle.witness_scanning.specs.Terms.{AreBelow}
use Rattle.witness_scanning.specs.Lines.{HasRowLine, HasNoRowLine}
use Rattle.witness_runs.specs.Rows.{rows_text, AreRows, joined, HasRows, StopsAt}

text_push : (k : ℕ) (rs : List (List ℕ)) (r u : List ℕ) → rows_text k (rs ++ r ∷ []) ++ u ≡ rows_text k rs ++ (row_line k r ++ u)
text_push k [] r u = ap (λ t. t ++ u) (append-nil (row_line k r))
text_push k (s ∷ rs) r u =
    append_assoc (row_line k s) (rows_text k (rs ++ r ∷ [])) u ∙ ap (λ t. row_line k s ++ t) (text_push k rs r u) ∙ sym (append_assoc (row_line k s) (rows_text k rs) (row_line k r ++ u))

are_push : (p width : ℕ) (rs : List (List ℕ)) (r : List ℕ) → AreRows p width rs → length r ≡ width → AreBelow p r → AreRows p width (rs ++ r ∷ [])
are_push p width [] r h l b = (l, b, tt)
are_push p width (s ∷ rs) r h l b = (h.0, h.1, are_push p width rs r h.2 l b)

joined_push : (rs : List (List ℕ)) (r : List ℕ) → joined (rs ++ r ∷ []) ≡ joined rs ++ r
joined_push [] r = append-nil r
joined_push (s ∷ rs) r = ap (λ t. s ++ t) (joined_push rs r) ∙ sym (append_assoc s (joined rs) r)

pub rows_none : (p k width : ℕ) (bytes : List ℕ) → HasRows p k width 0 bytes [] bytes
rows_none p k width bytes = record { rows = []; many = refl; are = tt; split = refl; entries_are = refl }

pub rows_more : (p k width i : ℕ) (bytes es more rest r behind : List ℕ) → HasRows p k width i bytes es rest → HasRowLine k width p rest r behind → more ≡ es ++ r → HasRows p k width (i + 1) bytes more behind
rows_more p k width i bytes es more rest r behind h q e = record {
  rows = h.rows ++ r ∷ [];
  many = length-append h.rows (r ∷ []) ∙ ap (λ (n : ℕ). n + 1) h.many;
  are = are_push p width h.rows r h.are q.many q.below;
  split = h.split ∙ ap (λ t. rows_text k h.rows ++ t) q.split ∙ sym (text_push k h.rows r behind);
  entries_are = e ∙ ap (λ t. t ++ r) h.entries_are ∙ sym (joined_push h.rows r);
}

pub stop_row : (p k width height i : ℕ) (bytes es rest : List ℕ) → i < height → HasRows p k width i bytes es rest → HasNoRowLine k width p rest → StopsAt p k width height bytes (length rest)
stop_row p k width height i bytes es rest l h f = record { line = i; within = l; entries = es; rest = rest; has = h; left_is = refl; here = f }
