-- What holds of a matrix that stands in a list.
use Rattle.std.proofs.Common.{◌≡◌, ℕ, ◌<◌, sym, ◌∙◌, subst, List, length, get_or}
use Rattle.std.proofs.lemmas.List.{get_or_default}
use Rattle.leray_conley.specs.Tables.{Table}
use Rattle.induced_map.specs.Matrices.{none, nth}

module _ (P : Table → Type 0) (all : List Table) (i : ℕ) (table : Table) where
  pub there : i < length all → table ≡ get_or all i table → P table → P (nth all i)
  there l e h = subst P (e ∙ get_or_default all i table none l) h

  pub back : i < length all → table ≡ get_or all i table → P (nth all i) → P table
  back l e h = subst P (sym (e ∙ get_or_default all i table none l)) h
