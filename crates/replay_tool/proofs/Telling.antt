-- What is told of an accepted witness is right.
use Rattle.std.proofs.lemmas.List.{get_or_default}
use Rattle.std.proofs.Common.{◌≡◌, ℕ, zero, suc, ◌<◌, refl, sym, ap, ◌∙◌, subst, arith, List, [], ◌∷◌, length, map, get_or, Option, None, Some, IfSome}
use Rattle.std.specs.Prelude.{slice_index}
use Rattle.leray_conley.specs.Tables.{Table, entry}
use Rattle.leray_conley.specs.Ranks.{IsRank}
use Rattle.witness_laws.specs.Lines.{domain, range, each}
use Rattle.witness_laws.specs.Inputs.{Given, Target, IsMapClaim}
use Rattle.witness_laws.specs.Parts.{entry_of}
use Rattle.witness_laws.specs.Tables.{Tables, section_at, map_of}
use Rattle.witness_types.specs.Rows.{row_of, rows_of}
use Rattle.witness_types.specs.declared.input.Input.{Input}
use Rattle.witness_types.specs.declared.part.Claim.{Claim}
use Rattle.witness_types.specs.Inputs.{given_of}
use Rattle.witness_types.specs.Answers.{IsMatrixOf, ShowsTables}
use Rattle.report.specs.declared.accepted.Accepted.{Accepted}
use Rattle.report.specs.declared.accepted.AcceptedMap.{AcceptedMap}
use Rattle.induced_map.specs.Matrices.{none, nth}
use Rattle.index_part.specs.Filled.{IsFilled}
use Rattle.index_part.specs.Tables.{IsRowOf, AreRowsOf, IsRankOf}
use Rattle.replay_tool.specs.Right.{HasRank, AreRanks, IsRightPart, IsRightReport}
use Rattle.replay_tool.specs.Answered.{TellsPair, TellsTarget, TellsMap}

-- a list is known by its elements
filled_each : {A : Type 0} (none : A) (f : ℕ → A) (n : ℕ) (xs : List A) → length xs ≡ n → ((i : ℕ) → i < n → get_or xs i none ≡ f i) → xs ≡ each n (λ i. f i ∷ [])
filled_each none f zero [] e h = refl
filled_each none f zero (x ∷ xs) e h = absurd (omega (arith, e))
filled_each none f (suc n) [] e h = absurd (omega (arith, e))
filled_each {A} none f (suc n) (x ∷ xs) e h =
    ap (λ (y : A). y ∷ xs) (h 0 (omega arith)) ∙ ap (λ (ys : List A). f 0 ∷ ys) (filled_each none (λ i. f (suc i)) n xs (omega (arith, e)) (λ i l. h (suc i) (omega (arith, l))))

row_is : (p : ℕ) (t : Table) (i : ℕ) (row : List ℕ) → IsRowOf p t i row → row ≡ row_of t i
row_is p t i row h = filled_each 0 (entry t i) t.columns row h.count (λ j l. (h.each j l).0)

rows_is : (p : ℕ) (t : Table) (rows : List (List ℕ)) → AreRowsOf p t rows → rows ≡ rows_of t
rows_is p t rows h = filled_each [] (row_of t) t.rows rows h.count (λ i l. row_is p t i (get_or rows i []) (h.each i l))

-- tables one by one of these rows have these rows
rows_are : (ts : List Table) (ms : List (List (List ℕ))) → length ts ≡ length ms → ((k : ℕ) (t : Table) → k < length ms → rows_of (get_or ts k t) ≡ get_or ms k []) → map rows_of ts ≡ ms
rows_are [] [] e f = refl
rows_are [] (m ∷ ms) e f = absurd (omega (arith, e))
rows_are (t ∷ ts) [] e f = absurd (omega (arith, e))
rows_are (t ∷ ts) (m ∷ ms) e f =
    ap (λ r. r ∷ map rows_of ts) (f 0 t (omega arith)) ∙ ap (λ l. m ∷ l) (rows_are ts ms (omega (arith, e)) (λ k u l. f (suc k) u (omega (arith, l))))

tables_are : (p : ℕ) (ts : List Table) (shown : List (List (List ℕ))) → IsFilled [] (λ k. AreRowsOf p (nth ts k)) (length ts) shown → map rows_of ts ≡ shown
tables_are p ts shown h = rows_are ts shown (sym h.count) (λ k t l. same k t (let c = h.count in omega (arith, c, l)))
  where
    same : (k : ℕ) (t : Table) → k < length ts → rows_of (get_or ts k t) ≡ get_or shown k []
    same k t l = ap rows_of (get_or_default ts k t none l) ∙ sym (rows_is p (nth ts k) (get_or shown k []) (h.each k l))

module _ {p : ℕ} (input : Input) (bytes : List ℕ) (claim : Claim p) (s : ShowsTables input bytes claim) where
  abbrev G : Given
  G = given_of input

  abbrev W : Tables
  W = s.tables

  pub right_pair : G.target ≡ None → (report : Accepted) → TellsPair claim report → IsRightReport p G bytes report
  right_pair none report t = record {
    tables = W;
    accepted = s.accepted;
    dimensions = t.domain ∙ s.claimed.domain;
    bases = s.bases;
    map = subst (λ (r : Option AcceptedMap). IsRightPart p G G.target W r) (sym t.map) (subst (λ (T : Option Target). IsRightPart p G T W None) (sym none) tt);
  }

  ranked : (k rank : ℕ) (t : Table) (height width : ℕ) (rows : List (List ℕ)) → IsMatrixOf t height width rows → IsRankOf p t rank → HasRank p height width rows rank
  ranked k rank t height width rows m r = record {
    table = t;
    is = m;
    ranks = subst (λ (w : ℕ). IsRank p height w (entry t) rank) m.columns (subst (λ (h : ℕ). IsRank p h t.columns (entry t) rank) m.rows r);
  }

  ranks_right : (ranks : List ℕ) → IsFilled 0 (λ k. IsRankOf p (nth claim.matrices.items k)) (length claim.matrices.items) ranks → AreRanks p (map length (map_of W).range.cycles) (map length W.domain.cycles) (map_of W).matrices ranks
  ranks_right ranks r = record {
    count = r.count ∙ s.claimed.count;
    each = λ k l. ranked k (slice_index ranks k) (nth claim.matrices.items k)
        (slice_index (map length (map_of W).range.cycles) k) (slice_index (map length W.domain.cycles) k) (get_or (map_of W).matrices k [])
        (s.claimed.each k none l) (r.each k (let c = s.claimed.count in omega (arith, c, l)));
  }

  module _ (T : Target) (e : G.target ≡ Some T) where
    target_right : (r : Option AcceptedMap) → TellsTarget p claim r → IsRightPart p G (Some T) W r
    target_right None t = absurd t
    target_right (Some m) t = record {
      dimensions = t.0 ∙ s.claimed.range;
      matrices = sym (tables_are p claim.matrices.items m.matrices.items t.1) ∙ rows_are claim.matrices.items (map_of W).matrices s.claimed.count (λ k u l. (s.claimed.each k u l).entries);
      ranks = ranks_right m.ranks t.2;
      shown = subst (λ (o : Option Target). IfSome o (λ T. IsMapClaim p G.x G.a T (section_at G W domain) (section_at G W range) (entry_of (map_of W).matrices))) e s.carried;
    }

    pub right_map : (report : Accepted) → TellsMap p claim report → IsRightReport p G bytes report
    right_map report t = record {
      tables = W;
      accepted = s.accepted;
      dimensions = t.domain ∙ s.claimed.domain;
      bases = s.bases;
      map = subst (λ (o : Option Target). IsRightPart p G o W report.map) (sym e) (target_right report.map t.map);
    }
