-- What each tool is asked to do by words, as a job that is judged in one way.
use Rattle.std.specs.Prelude.{ℕ, List, [], Option, None, Some, unwrap_or}
use Rattle.command_line.specs.declared.form.ToolName.{ToolName}
use Rattle.command_line.specs.declared.form.ToolName.TheVariants as tools
use Rattle.command_line.specs.Words.{Request, first, second, third, fourth, fifth, sixth}
use Rattle.loading.specs.Jobs.{Job, IsJudgedOnce, HasOneJudgement}
use Rattle.set_tools.specs.declared.cubunion.Combination.{Combination}
use Rattle.set_tools.specs.declared.cubunion.Combination.TheVariants.{Union, Intersection}
use Rattle.set_tools.specs.declared.cubunion.CombinationJob.{CombinationJob}
use Rattle.pair_tool.specs.declared.homcubes.PairJob.{PairJob}
use Rattle.chain_tool.specs.declared.homchain.ChainJob.{ChainJob}
use Rattle.set_tools.specs.Jobs as sets
use Rattle.set_tools.proofs.Judging as of_sets
use Rattle.pair_tool.specs.Jobs as pairs
use Rattle.pair_tool.proofs.Judging as of_pairs
use Rattle.command_line.specs.Operands.{holes_named}
use Rattle.gen_tool.specs.declared.holes.HolesJob.{HolesJob}
use Rattle.gen_tool.specs.Jobs as gens
use Rattle.gen_tool.proofs.Judging as of_gens
use Rattle.pair_maps.specs.declared.inputs.MapFiles.{MapFiles}
use Rattle.map_homology.specs.declared.map_job.MapJob.{MapJob}
use Rattle.map_homology.specs.Jobs as map_homologies
use Rattle.map_homology.proofs.Judging as of_map_homologies
use Rattle.map_witness.specs.Jobs as map_witnesses
use Rattle.map_witness.proofs.Judging as of_map_witnesses
use Rattle.map_tools.specs.declared.values_job.ValuesJob.{ValuesJob}
use Rattle.map_tools.specs.Jobs as maps
use Rattle.map_tools.proofs.Judging as of_maps
use Rattle.pair_witness.specs.Jobs as witnesses
use Rattle.pair_witness.proofs.Judging as of_witnesses
use Rattle.tool.specs.Tasks.{Task, alone}
use Rattle.replay_tool.specs.declared.inputs.ReplayFiles.{ReplayFiles}
use Rattle.replay_tool.specs.declared.inputs.ReplayFiles.TheVariants as replayed
use Rattle.replay_tool.specs.declared.inputs.ReplayJob.{ReplayJob}
use Rattle.replay_tool.specs.Jobs as replays
use Rattle.replay_tool.proofs.Judged as of_replays
use Rattle.chain_tool.specs.Jobs as chains
use Rattle.chain_tool.proofs.Judging as of_chains

-- ---- operands and options as the jobs of tools

-- a set, or a set and a subset
abbrev pub pair_of : Request → PairJob
pair_of r = record {
  x = first r.operands;
  a = second r.operands;
  modulus = r.options.modulus;
  cycles = r.options.cycles;
  stats = r.options.stats;
}

-- a set alone
abbrev pub x_of : Request → List ℕ
x_of r = first r.operands

-- two sets, both of which the form asks for
abbrev pub two_files : Combination → Request → CombinationJob
two_files combination r =
    record { x = first r.operands; y = unwrap_or (second r.operands) []; combination = combination }

abbrev pub chain_of : Request → ChainJob
chain_of r =
    record { file = first r.operands; modulus = r.options.modulus; cycles = r.options.cycles }

-- a map and two sets, which the form asks for; their subsets are empty
abbrev pub values_of : Request → ValuesJob
values_of r = record {
  files = record {
    map = first r.operands;
    x = unwrap_or (second r.operands) [];
    a = None;
    y = unwrap_or (third r.operands) [];
    b = None;
  };
  modulus = r.options.modulus;
}

-- a map and two pairs, which the form asks for
abbrev pub map_files_of : Request → MapFiles
map_files_of r = record {
  map = unwrap_or r.options.map [];
  x = first r.operands;
  a = Some (unwrap_or (second r.operands) []);
  y = unwrap_or (third r.operands) [];
  b = Some (unwrap_or (fourth r.operands) []);
}

abbrev pub map_of : Request → MapJob
map_of r = record {
  files = map_files_of r;
  modulus = r.options.modulus;
  cycles = r.options.cycles;
  matrix = r.options.matrix;
  stats = r.options.stats;
  index = r.options.index;
}

-- squares with so many holes, which the form asks for
abbrev pub holes_of : Request → HolesJob
holes_of r = record {
  holes = unwrap_or (holes_named r.operands) 1;
  set_alone = r.options.set_alone;
  modulus = r.options.modulus;
}

-- a witness, and what it speaks of: a set, a set and a subset, or a map and two pairs, where there
-- is a fourth operand
abbrev pub replay_files_by : Option (List ℕ) → Request → ReplayFiles
replay_files_by None r =
    replayed.Pair (unwrap_or (second r.operands) []) (third r.operands)
replay_files_by (Some a) r = replayed.Map (record {
  map = unwrap_or (second r.operands) [];
  x = unwrap_or (third r.operands) [];
  a = Some a;
  y = unwrap_or (fifth r.operands) [];
  b = Some (unwrap_or (sixth r.operands) []);
})

abbrev pub replay_files_of : Request → ReplayFiles
replay_files_of r = replay_files_by (fourth r.operands) r

abbrev pub replay_of : Request → ReplayJob
replay_of r = record { witness = first r.operands; files = replay_files_of r }

-- ---- all tools

-- a task, and that its job is judged in one way
pub record Judged : Type 1 where
  pub task : Task
  pub once : IsJudgedOnce task.job

-- a job whose text alone is written
abbrev pub judged : (job : Job) → HasOneJudgement job → Judged
judged job judgement = record { task = alone job; once = judgement.once }

abbrev judged_pair : PairJob → Option (List ℕ) → Judged
judged_pair job None = judged (pairs.pair_job job) (of_pairs.pair_once job)
judged_pair job (Some file) =
    record {
      task = witnesses.witness_task job file;
      once = (of_witnesses.witness_once job file).once;
    }

abbrev judged_combination : CombinationJob → Judged
judged_combination job = judged (sets.combination_job job) (of_sets.combination_once job)

abbrev judged_chain : ChainJob → Judged
judged_chain job = judged (chains.chain_job job) (of_chains.chain_once job)

abbrev judged_map : MapJob → Option (List ℕ) → Judged
judged_map job None = judged (map_homologies.map_job job) (of_map_homologies.map_once job)
judged_map job (Some file) =
    record {
      task = map_witnesses.map_witness_task job file;
      once = (of_map_witnesses.map_witness_once job file).once;
    }

abbrev judged_replay : ReplayJob → Judged
judged_replay job =
    record { task = alone (replays.replay_job job); once = of_replays.replay_once job }

abbrev pub judged_by : ToolName → Request → Judged
judged_by tools.Homcubes r = judged_pair (pair_of r) r.options.witness
judged_by tools.MapHomology r = judged_map (map_of r) r.options.witness
judged_by tools.Cubunion r = judged_combination (two_files Union r)
judged_by tools.Cubinter r = judged_combination (two_files Intersection r)
judged_by tools.Cubnbhd r = judged (sets.neighbours_job (x_of r)) (of_sets.neighbours_once (x_of r))
judged_by tools.Cubcells r = judged (sets.cells_job (x_of r)) (of_sets.cells_once (x_of r))
judged_by tools.Homchain r = judged_chain (chain_of r)
judged_by tools.Gen r = judged (gens.holes_job (holes_of r)) (of_gens.holes_once (holes_of r))
judged_by tools.Chkmvmap r =
    judged (maps.values_job (values_of r)) (of_maps.values_once (values_of r))
judged_by tools.Replay r = judged_replay (replay_of r)

abbrev pub task_by : ToolName → Request → Task
task_by tool r = (judged_by tool r).task

-- what a command asks
abbrev pub task_of : Request → Task
task_of r = task_by r.tool r
