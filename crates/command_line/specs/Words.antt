-- What the words of the command line ask for.
use Rattle.std.specs.Prelude.{◌≡◌, ◌⊎◌, ℕ, List, [], ◌∷◌, Option, None, Some, Result, Ok, Err, Bool, ◌||◌, decimal}
use Rattle.std.specs.Option.{option_map, option_and_then}
use Rattle.field_mod.specs.Moduli.{moduli}
use Rattle.faults.specs.declared.fault.Fault.{Fault}
use Rattle.faults.specs.declared.fault.Fault.TheVariants.{NoTool, NotAForm, OutOfMemory}
use Rattle.command_line.specs.declared.form.ToolName.{ToolName}
use Rattle.command_line.specs.declared.choice.Choice.{Choice}
use Rattle.command_line.specs.declared.choice.Choice.TheVariants.{Modulus, Cycles, Stats, Map, Matrix, Index, Witness, SetAlone}
use Rattle.command_line.specs.declared.choice.Setting.{Setting}
use Rattle.command_line.specs.Forms.{Anything, Row, Spoken, named, form_named, words_read, is_set, setting_of, form_with, fitting}

-- ---- what the options say

-- the modulus that is written so: one of the table, in decimal without sign and leading zero
abbrev pub modulus_named : Option (List ℕ) → Option ℕ
modulus_named None = None
modulus_named (Some word) = named decimal moduli word

-- the modulus that is set so; without an option it is 2
abbrev pub modulus_by : Option Setting → Option ℕ
modulus_by None = Some 2
modulus_by (Some s) = modulus_named s.value

abbrev pub modulus_in : List Setting → Option ℕ
modulus_in settings = modulus_by (setting_of settings Modulus)

-- the value of an option, where one is set
abbrev pub value_in : List Setting → Choice → Option (List ℕ)
value_in settings choice = option_and_then (λ s. s.value) (setting_of settings choice)

-- the modulus, whether the cycles are printed, whether the counts are, the map, whether its
-- matrices are printed, whether its index matrices are, the file of a witness, and whether a set is
-- printed, and nothing of its homology
pub record Chosen : Type 0 where
  pub modulus : ℕ
  pub cycles : Bool
  pub stats : Bool
  pub map : Option (List ℕ)
  pub matrix : Bool
  pub index : Bool
  pub witness : Option (List ℕ)
  pub set_alone : Bool

-- where matrices are printed, so are the cycles
abbrev pub with_modulus : List Setting → ℕ → Chosen
with_modulus settings modulus = record {
  modulus = modulus;
  cycles = is_set Cycles settings || is_set Matrix settings;
  stats = is_set Stats settings;
  map = value_in settings Map;
  matrix = is_set Matrix settings;
  index = is_set Index settings;
  witness = value_in settings Witness;
  set_alone = is_set SetAlone settings;
}

abbrev pub options_in : List Setting → Option Chosen
options_in settings = option_map (with_modulus settings) (modulus_in settings)

-- ---- what words ask for

-- a tool, its operands, and what the options say
pub record Request : Type 0 where
  pub tool : ToolName
  pub operands : List (List ℕ)
  pub options : Chosen

abbrev pub with_options : ToolName → List (List ℕ) → Chosen → Request
with_options tool operands options = record { tool = tool; operands = operands; options = options }

-- what the operands and options of a tool's form ask for
abbrev pub chosen_of : Row → Spoken → Option Request
chosen_of form spoken =
    option_map (with_options form.tool spoken.operands) (options_in spoken.settings)

-- the same of any operands and options: nothing where they are not of the form
abbrev pub request_by : Row → Spoken → Option Request
request_by form spoken = option_and_then (chosen_of form) (fitting form spoken)

-- the same by the form that the options choose
abbrev pub request_of : Row → Spoken → Option Request
request_of form spoken = request_by (form_with spoken.settings form) spoken

-- what was found, or that the words are not of the form
abbrev pub formed : {A : Type 0} → Row → Option A → Result A Fault
formed form None = Err (NotAForm form.name)
formed form (Some x) = Ok x

abbrev pub command_with : Option Row → List (List ℕ) → Result Request Fault
command_with None words = Err NoTool
command_with (Some form) words =
    formed form (option_and_then (request_of form) (words_read form Anything words))

-- what the words ask for, or that they are of no form
abbrev pub command_of : List (List ℕ) → Result Request Fault
command_of [] = Err NoTool
command_of (name ∷ words) = command_with (form_named name) words

-- ---- operands

-- the first operand; each tool takes one
abbrev pub first : List (List ℕ) → List ℕ
first [] = []
first (x ∷ xs) = x

abbrev pub second : List (List ℕ) → Option (List ℕ)
second [] = None
second (x ∷ []) = None
second (x ∷ y ∷ ys) = Some y

abbrev pub third : List (List ℕ) → Option (List ℕ)
third [] = None
third (x ∷ xs) = second xs

abbrev pub fourth : List (List ℕ) → Option (List ℕ)
fourth [] = None
fourth (x ∷ xs) = third xs

abbrev pub fifth : List (List ℕ) → Option (List ℕ)
fifth [] = None
fifth (x ∷ xs) = fourth xs

abbrev pub sixth : List (List ℕ) → Option (List ℕ)
sixth [] = None
sixth (x ∷ xs) = fifth xs

-- ---- want of memory

-- the result is the due one, or that memory ran out
abbrev pub IsDue : {A : Type 0} → Result A Fault → Result A Fault → Type 0
IsDue due (Ok x) = due ≡ Ok x
IsDue due (Err fault) = (due ≡ Err fault) ⊎ (fault ≡ OutOfMemory)
