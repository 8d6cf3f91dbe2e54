-- Where a run stops.
use Rattle.std.specs.Prelude.{ℕ}
use Rattle.witness_laws.specs.declared.law.Law.TheVariants as laws
use Rattle.witness_runs.specs.declared.miss.Miss.{Miss}
use Rattle.witness_runs.specs.declared.miss.Miss.TheVariants as misses
use Rattle.witness_runs.specs.declared.miss.Stop.{Stop}
use Rattle.witness_runs.specs.declared.miss.Stop.TheVariants as stops

abbrev pub stop_at : ℕ → Miss → Stop
stop_at left misses.Text = stops.At left laws.Text
stop_at left misses.Cell = stops.At left laws.Cell
stop_at left misses.NoMemory = stops.NoMemory
