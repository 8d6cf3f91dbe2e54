-- What is found for the arguments of a form's command.
use Rattle.std.specs.Prelude.{◌≡◌, ◌⊎◌, ℕ, List, Option, None, Some, Bool, true, false, codes, option_map, is_some}
use Rattle.std.specs.List.{filter_map}
use Rattle.clap.specs.Walk.{Row as Found, all_of, first_of, one_of}
use Rattle.command_line.specs.declared.choice.Choice.{Choice}
use Rattle.command_line.specs.declared.choice.Setting.{Setting}
use Rattle.command_line.specs.Forms.{Spoken, option_name, takes_value}
pub use Rattle.command_line.specs.Forms.{setting_of}

-- the settings in the order of these options
abbrev pub settings_of : List Choice → List Setting → List Setting
settings_of options settings = filter_map (setting_of settings) options

abbrev pub in_table : List Choice → Spoken → Spoken
in_table options said =
    record { operands = said.operands; settings = settings_of options said.settings }

-- what is read of an option that takes no value: it was set, or it was not
abbrev pub IsFlag : Bool → Option (List ℕ) → Type 0
IsFlag true found = found ≡ Some (codes "true")
IsFlag false found = (found ≡ None) ⊎ (found ≡ Some (codes "false"))

-- what an option's value is read as
abbrev pub valued : Choice → List ℕ → Setting
valued choice value = record { choice = choice; value = Some value }

-- what was found is what the words said
pub record Finds (said : Spoken) (rows : List Found) : Type 0 where
  pub operands : all_of (codes "operands") rows ≡ Some said.operands
  pub values : (choice : Choice) → takes_value choice ≡ true
      → setting_of said.settings choice
      ≡ option_map (valued choice) (first_of (option_name choice) rows)
  pub flags : (choice : Choice) → takes_value choice ≡ false
      → setting_of said.settings choice
      ≡ option_map (λ s. record { choice = choice; value = None })
      (setting_of said.settings choice)
  pub told : (choice : Choice) → takes_value choice ≡ false
      → IsFlag (is_some (setting_of said.settings choice)) (one_of (option_name choice) rows)
