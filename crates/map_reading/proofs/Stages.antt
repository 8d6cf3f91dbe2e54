-- Each stage of the witness of a map, as it was read, or where it stops.
use Rattle.std.proofs.Common.{◌≡◌, ℕ, suc, ◌+◌, ◌<◌, sym, ap, ◌∙◌, inl, inr, List, ◌++◌, length, get_or, take, map, subst}
use Rattle.std.proofs.lemmas.Bool.{eq-eqb, ne_eqb}
use Rattle.std.proofs.lemmas.List.{take_more}
use Rattle.std.specs.Prelude.{codes}
use Rattle.elem_cubes.specs.Cells.{Factor}
use Rattle.cube_maps.specs.CubeMaps.{Naming}
use Rattle.acyclic_values.specs.CarriedMaps.{GoesInto}
use Rattle.leray_conley.specs.Tables.{Table}
use Rattle.map_checks.specs.Faults.{together}
use Rattle.witness_laws.specs.Inputs.{Given, target_of}
use Rattle.witness_runs.specs.declared.miss.Stop.{Stop}
use Rattle.witness_runs.specs.declared.miss.Stop.TheVariants as stops
use Rattle.witness_types.specs.declared.part.PairPart.{PairPart}
use Rattle.read_parts.specs.declared.parts.ReadMap.{ReadMap}
use Rattle.witness_reading.specs.Ends.{StopsEnd, IfTold}
use Rattle.map_lines.specs.Cells.{StopsInCells}
use Rattle.map_lines.specs.Matrices.{size_in, HasAllMatrices, StopsInMatrices}
use Rattle.map_lines.specs.Whole.{HasValues, StopsValues, HasEnd, StopsMatrixPart, HasPart, StopsPart, HasPairs, StopsPairs, IsWholeMap, StopsMap}
use Rattle.map_lines.proofs.Growing.{counts_one, counts_none, AreMatricesRead}

-- ---- the values

pub values_stop : (p : ℕ) (f : List Naming) (domain range : List (List Factor)) (bytes behind : List ℕ) (stop : Stop) → bytes ≡ codes "values\n" ++ behind
    → IfTold (StopsInCells p f domain range behind) stop → IfTold (StopsValues p f domain range bytes) stop
values_stop p f domain range bytes behind (stops.At left law) e s = inr (record { behind = behind; split = e; here = s })
values_stop p f domain range bytes behind stops.NoMemory e s = tt

-- ---- the matrices

-- one more cycle of the list is looked at
pub counted : (k : ℕ) (zs : List (ℕ × List (ℕ × ℕ))) (i n : ℕ) (d : ℕ × List (ℕ × ℕ)) → i < length zs → (get_or zs i d).0 ≡ k → n ≡ size_in (take i zs) k
    → n + 1 ≡ size_in (take (i + 1) zs) k
counted k zs i n d l t h =
    counts_one k (take i zs) (get_or zs i d) n (eq-eqb (get_or zs i d).0 k t) h ∙ ap (λ (y : List (ℕ × List (ℕ × ℕ))). size_in y k) (sym (take_more zs i d l))

pub passed : (k : ℕ) (zs : List (ℕ × List (ℕ × ℕ))) (i n : ℕ) (d : ℕ × List (ℕ × ℕ)) → i < length zs → ((get_or zs i d).0 ≡ k → ⊥) → n ≡ size_in (take i zs) k
    → n ≡ size_in (take (i + 1) zs) k
passed k zs i n d l t h =
    counts_none k (take i zs) (get_or zs i d) n (ne_eqb (get_or zs i d).0 k t) h ∙ ap (λ (y : List (ℕ × List (ℕ × ℕ))). size_in y k) (sym (take_more zs i d l))

-- those of the height and width that were counted
pub of_size : (P : ℕ → ℕ → Type 0) (h w height width : ℕ) → h ≡ height → w ≡ width → P h w → P height width
of_size P h w height width e f x = subst (λ (n : ℕ). P n width) e (subst (λ (n : ℕ). P h n) f x)

-- all matrices were read
pub all_read : (p top : ℕ) (height width : ℕ → ℕ) (bytes : List ℕ) (count : ℕ) (ts : List Table) (rest : List ℕ) → count ≡ suc top
    → AreMatricesRead p top height width count bytes ts rest → HasAllMatrices p top height width bytes ts rest
all_read p top height width bytes count ts rest e h = record { many = h.many ∙ e; matrices = h.matrices }

module _ (p top : ℕ) (height width : ℕ → ℕ) (bytes behind : List ℕ) (split : bytes ≡ codes "matrix\n" ++ behind) where
  pub end_read : (ts : List Table) (rest : List ℕ) → HasAllMatrices p top height width behind ts rest → rest ≡ codes "end\n" → HasEnd p top height width bytes ts
  end_read ts rest h e = record {
    behind = behind;
    split = split;
    matrices = subst (λ (r : List ℕ). HasAllMatrices p top height width behind ts r) e h;
  }

  pub matrices_stop : (stop : Stop) → IfTold (StopsInMatrices p top height width behind) stop → IfTold (StopsMatrixPart p top height width bytes) stop
  matrices_stop (stops.At left law) s = inr (inl (record { behind = behind; split = split; here = s }))
  matrices_stop stops.NoMemory s = tt

  pub ends_otherwise : (ts : List Table) (rest : List ℕ) (stop : Stop) → HasAllMatrices p top height width behind ts rest → StopsEnd rest stop
      → IfTold (StopsMatrixPart p top height width bytes) stop
  ends_otherwise ts rest (stops.At left law) h s = inr (inr (record { behind = behind; ts = ts; rest = rest; split = split; matrices = h; here = s }))
  ends_otherwise ts rest stops.NoMemory h s = tt

-- ---- the sections

module _ (p top : ℕ) (x a y b : List (List Factor)) (bytes : List ℕ) where
  pub domain_stops : (stop : Stop) → IfTold (StopsPart p top (codes "pair domain\n") x a bytes) stop → IfTold (StopsPairs p top x a y b bytes) stop
  domain_stops (stops.At left law) s = inl s
  domain_stops stops.NoMemory s = tt

  pub range_stops : (domain : PairPart p) (middle : List ℕ) (stop : Stop)
      → HasPart p top (codes "pair domain\n") x a bytes domain.cycles.items domain.cocycles.items domain.homotopy.items middle
      → IfTold (StopsPart p top (codes "pair range\n") y b middle) stop → IfTold (StopsPairs p top x a y b bytes) stop
  range_stops domain middle (stops.At left law) h s = inr (record { domain = domain; middle = middle; first = h; here = s })
  range_stops domain middle stops.NoMemory h s = tt

-- ---- all of it

-- a map into the range is one into the same
pub into_same : (f : List Naming) (cubes others domain range : List (List Factor)) → cubes ≡ domain → others ≡ range → GoesInto f domain range → GoesInto f cubes others
into_same f cubes others domain range e g i =
    subst (λ (l : List (List Factor)). GoesInto f l others) (sym e) (subst (λ (l : List (List Factor)). GoesInto f domain l) (sym g) i)

module _ (p : ℕ) (G : Given) (bytes : List ℕ) (top : ℕ) (is_top : top ≡ G.top) where
  pub pairs_stop : (stop : Stop) → IfTold (StopsPairs p top G.x G.a (target_of G).y (target_of G).b bytes) stop → IfTold (StopsMap p G bytes) stop
  pairs_stop (stops.At left law) s = inl (subst (λ (t : ℕ). StopsPairs p t G.x G.a (target_of G).y (target_of G).b bytes (stops.At left law)) is_top s)
  pairs_stop stops.NoMemory s = tt

  module _ (domain range : PairPart p) (behind : List ℕ) (pairs : HasPairs p top G.x G.a (target_of G).y (target_of G).b bytes domain range behind)
      (cubes others : List (List Factor)) (are : (cubes ≡ together G.x G.a) × (others ≡ together (target_of G).y (target_of G).b)) where
    abbrev both_pairs : HasPairs p G.top G.x G.a (target_of G).y (target_of G).b bytes domain range behind
    both_pairs = subst (λ (t : ℕ). HasPairs p t G.x G.a (target_of G).y (target_of G).b bytes domain range behind) is_top pairs

    pub in_values : (stop : Stop) → IfTold (StopsValues p (target_of G).map cubes others behind) stop → IfTold (StopsMap p G bytes) stop
    in_values (stops.At left law) s = inr (inl (record {
      domain = domain;
      range = range;
      behind = behind;
      pairs = both_pairs;
      here = subst (λ (l : List (List Factor)). StopsValues p (target_of G).map l (together (target_of G).y (target_of G).b) behind (stops.At left law)) are.0
          (subst (λ (l : List (List Factor)). StopsValues p (target_of G).map cubes l behind (stops.At left law)) are.1 s);
    }))
    in_values stops.NoMemory s = tt

    module _ (vs : List ℕ) (fs : List (List (List (ℕ × ℕ)))) (ms : List (List (ℕ × ℕ))) (last : List ℕ)
        (values : HasValues p (target_of G).map cubes others behind vs fs ms last) where
      abbrev all_values : HasValues p (target_of G).map (together G.x G.a) (together (target_of G).y (target_of G).b) behind vs fs ms last
      all_values = subst (λ (l : List (List Factor)). HasValues p (target_of G).map l (together (target_of G).y (target_of G).b) behind vs fs ms last) are.0
          (subst (λ (l : List (List Factor)). HasValues p (target_of G).map cubes l behind vs fs ms last) are.1 values)

      pub in_matrices : (rs ds : List (ℕ × List (ℕ × ℕ))) → rs ≡ range.cycles.items → ds ≡ domain.cycles.items → (stop : Stop)
          → IfTold (StopsMatrixPart p top (size_in rs) (size_in ds) last) stop → IfTold (StopsMap p G bytes) stop
      in_matrices rs ds er ed (stops.At left law) s = inr (inr (record {
        domain = domain;
        range = range;
        behind = behind;
        pairs = both_pairs;
        vertices = vs;
        fillings = fs;
        images = ms;
        last = last;
        values = all_values;
        here = subst (λ (t : ℕ). StopsMatrixPart p t (size_in range.cycles.items) (size_in domain.cycles.items) last (stops.At left law)) is_top
            (subst (λ (l : List (ℕ × List (ℕ × ℕ))). StopsMatrixPart p top (size_in l) (size_in domain.cycles.items) last (stops.At left law)) er
            (subst (λ (l : List (ℕ × List (ℕ × ℕ))). StopsMatrixPart p top (size_in rs) (size_in l) last (stops.At left law)) ed s));
      }))
      in_matrices rs ds er ed stops.NoMemory s = tt

      pub whole_map : (ts : List Table) (m : ReadMap p) → m.range ≡ range → m.vertices.items ≡ vs → map (λ v. v.items) m.contractions.items ≡ fs → m.images.items ≡ ms → m.rows.items ≡ ts
          → (rs ds : List (ℕ × List (ℕ × ℕ))) → rs ≡ range.cycles.items → ds ≡ domain.cycles.items → HasEnd p top (size_in rs) (size_in ds) last ts → IsWholeMap G bytes domain m
      whole_map ts m er ev ef em et rs ds es ed h = record {
        behind = behind;
        last = last;
        pairs = subst (λ (r : PairPart p). HasPairs p G.top G.x G.a (target_of G).y (target_of G).b bytes domain r behind) (sym er) both_pairs;
        values = subst (λ (l : List ℕ). HasValues p (target_of G).map (together G.x G.a) (together (target_of G).y (target_of G).b) behind l (map (λ v. v.items) m.contractions.items) m.images.items last) (sym ev)
            (subst (λ (l : List (List (List (ℕ × ℕ)))). HasValues p (target_of G).map (together G.x G.a) (together (target_of G).y (target_of G).b) behind vs l m.images.items last) (sym ef)
            (subst (λ (l : List (List (ℕ × ℕ))). HasValues p (target_of G).map (together G.x G.a) (together (target_of G).y (target_of G).b) behind vs fs l last) (sym em) all_values));
        matrices = subst (λ (r : PairPart p). HasEnd p G.top (size_in r.cycles.items) (size_in domain.cycles.items) last m.rows.items) (sym er)
            (subst (λ (l : List Table). HasEnd p G.top (size_in range.cycles.items) (size_in domain.cycles.items) last l) (sym et)
            (subst (λ (t : ℕ). HasEnd p t (size_in range.cycles.items) (size_in domain.cycles.items) last ts) is_top
            (subst (λ (l : List (ℕ × List (ℕ × ℕ))). HasEnd p top (size_in l) (size_in domain.cycles.items) last ts) es
            (subst (λ (l : List (ℕ × List (ℕ × ℕ))). HasEnd p top (size_in rs) (size_in l) last ts) ed h))));
      }
