-- The command of a form, as `clap` sees it.
use Rattle.std.specs.Prelude.{◌≡◌, ℕ, List, [], ◌∷◌, Some, true, drop, map, codes, if◌then◌else◌}
use Rattle.clap.specs.Walk.{Rule}
use Rattle.clap.specs.Simple.{App, new_rule, new_shape}
use Rattle.clap.specs.declared.builder.action.ArgAction.TheVariants.{Set, SetTrue, Append}
use Rattle.clap.specs.declared.builder.value_parser.ValueParser.TheVariants.{NonEmptyString}
use Rattle.command_line.specs.declared.choice.Choice.{Choice}
use Rattle.command_line.specs.Forms.{Row, form_named, option_name, takes_value}

-- the form stands in the table
abbrev pub IsListed : Row → Type 0
IsListed form = (word : List ℕ) × (form_named word ≡ Some form)

-- a command without arguments, help and version, whose words are all arguments
abbrev pub bare : List ℕ → App
bare name = record {
  top = record (new_shape name) {
    no_binary_name = true;
    disable_help_flag = true;
    disable_version_flag = true;
  };
  subs = [];
}

-- the operands: each word that is no option and no value of one, one at least, none empty
abbrev pub operand_rule : Rule
operand_rule = record (new_rule (codes "operands")) {
  action = Some Append;
  parser = Some NonEmptyString;
  required = true;
}

-- an option with a value that is not empty
abbrev pub valued_rule : List ℕ → Rule
valued_rule name = record (new_rule name) {
  long = Some (drop 2 name);
  action = Some Set;
  parser = Some NonEmptyString;
}

-- an option without a value
abbrev pub flag_rule : List ℕ → Rule
flag_rule name = record (new_rule name) {
  long = Some (drop 2 name);
  action = Some SetTrue;
}

abbrev pub option_rule : Choice → Rule
option_rule choice =
    if takes_value choice then valued_rule (option_name choice)
    else flag_rule (option_name choice)

abbrev pub syntax : Row → App
syntax form = record (bare form.name) {
  top = record (bare form.name).top { rules = operand_rule ∷ map option_rule form.options };
}
