-- What `chkmvmap` is asked to do.
use Rattle.std.specs.Prelude.{◌≡◌, ℕ, List, ◌++◌, codes, decimal}
use Rattle.cell_complex.specs.CellCount.{cell_count}
use Rattle.loading.specs.Jobs.{Job}
use Rattle.pair_maps.specs.declared.inputs.PairMap.{PairMap}
use Rattle.pair_maps.specs.Inputs.{domain_of, names_of, bytes_of, IsPairMapIn}
use Rattle.pair_maps.specs.Moduli.{modulus_of}
use Rattle.pair_maps.specs.Refusals.{RefusesPairMap}
use Rattle.map_tools.specs.declared.values_job.ValuesJob.{ValuesJob}

-- the answer: how many cells the domain has, whose values are all acyclic, since nothing refuses
-- them
abbrev pub values_text : ℕ → List ℕ
values_text count = codes "acyclic values: " ++ decimal count ++ codes "\n"

abbrev pub IsValuesText : PairMap → List ℕ → Type 0
IsValuesText input text = text ≡ values_text (cell_count (domain_of input))

unfoldable pub values_job : ValuesJob → Job
values_job job = record {
  Input = PairMap;
  names = names_of job.files;
  most = bytes_of job.files;
  gives = IsPairMapIn job.files;
  refuses = RefusesPairMap (modulus_of job.modulus);
  answers = IsValuesText;
}
