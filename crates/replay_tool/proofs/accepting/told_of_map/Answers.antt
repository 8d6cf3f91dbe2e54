use Rattle.std.proofs.Common.{List, [], length, subst}
use Rattle.leray_conley.specs.Tables.{Table}
use Rattle.induced_map.specs.Matrices.{nth}
use Rattle.index_part.specs.Filled.{IsFilled}
use Rattle.index_part.specs.Tables.{AreRowsOf, IsRankOf}
use Rattle.replay_tool.proofs.accepting.told_of_map.Goals as goal

pub returns : goal.returns
returns g c = record {
  domain = c.of.ensures;
  map = (
    c.of-2.ensures,
    subst (λ (ts : List Table). IsFilled [] (λ k. AreRowsOf g.row.P (nth ts k)) (length ts) c.in_ok-tables.tables.items) c.deref.ensures.value c.in_ok-tables.ensures,
    subst (λ (ts : List Table). IsFilled 0 (λ k. IsRankOf g.row.P (nth ts k)) (length ts) c.in_ok-ranks.ranks) c.deref-2.ensures.value c.in_ok-ranks.ensures,
  );
}
