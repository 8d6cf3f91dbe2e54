use Rattle.std.proofs.Common.{◌≡◌, ◌≤◌, take}
use Rattle.chain_files.specs.Complexes.{count_in}
use Rattle.chain_files.proofs.making.count_degree.Given as goal

abbrev pub invariant-loop-place : goal.invariant-loop-place
invariant-loop-place l = record {
  counted : l.count ≡ count_in (take l.place l.degrees) l.degree;
  few : l.count ≤ l.place;
}
