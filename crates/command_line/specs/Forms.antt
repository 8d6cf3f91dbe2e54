-- The forms of the words after a tool's name: a table with a row for each tool and each option, and
-- what words say by it.
use Rattle.std.specs.Prelude.{ℕ, List, [], ◌∷◌, ◌++◌, length, Option, None, Some, is_some, Bool, true, false, not, ◌&&◌, ◌||◌, ◌==◌, nat_le, nat_lt, if◌then◌else◌, codes, map, find, string_bytes}
use Rattle.std.specs.Option.{option_map}
use Rattle.std.specs.List.{list_any, position_or_len, before_first, after_first}
use Rattle.std.specs.Str.{bytes_eq}
use Rattle.std.specs.declared.string.String.{String}
use Rattle.command_line.specs.declared.form.ToolName.{ToolName}
use Rattle.command_line.specs.declared.form.ToolName.TheVariants as tools
use Rattle.command_line.specs.declared.choice.Choice.{Choice}
use Rattle.command_line.specs.declared.choice.Choice.TheVariants.{Modulus, Cycles, Stats, Map, Matrix, Index, Witness, SetAlone}
use Rattle.command_line.specs.declared.choice.Setting.{Setting}
use Rattle.command_line.specs.Operands.{holes_named}
pub use Rattle.command_line.specs.Operands.{named}

-- ---- the table

-- a tool with its name, the fewest and the most operands, and its options
pub record Row : Type 0 where
  pub tool : ToolName
  pub name : List ℕ
  pub fewest : ℕ
  pub most : ℕ
  pub options : List Choice

abbrev pub row : ToolName → List ℕ → ℕ → ℕ → List Choice → Row
row tool name fewest most options =
    record { tool = tool; name = name; fewest = fewest; most = most; options = options }

-- the options of the tools that compute homology
abbrev pub of_homology : List Choice
of_homology = Modulus ∷ Cycles ∷ []

-- the options of the tool on pairs of sets and on maps between such pairs
abbrev pub of_pairs : List Choice
of_pairs = Modulus ∷ Cycles ∷ Stats ∷ Map ∷ Matrix ∷ Index ∷ Witness ∷ []

-- the options of the tool on the values of maps
abbrev pub of_maps : List Choice
of_maps = Modulus ∷ []

-- the options of the generator
abbrev pub of_generator : List Choice
of_generator = Modulus ∷ SetAlone ∷ []

abbrev pub forms : List Row
forms =
    row tools.Homcubes (codes "homcubes") 1 2 of_pairs
    ∷ row tools.Cubunion (codes "cubunion") 2 2 []
    ∷ row tools.Cubinter (codes "cubinter") 2 2 []
    ∷ row tools.Cubnbhd (codes "cubnbhd") 1 1 []
    ∷ row tools.Cubcells (codes "cubcells") 1 1 []
    ∷ row tools.Homchain (codes "homchain") 1 1 of_homology
    ∷ row tools.Gen (codes "gen") 2 2 of_generator
    ∷ row tools.Chkmvmap (codes "chkmvmap") 3 3 of_maps
    ∷ row tools.Replay (codes "replay") 2 6 []
    ∷ []

-- an option: its name, and whether it takes a value
abbrev pub option_name : Choice → List ℕ
option_name Modulus = codes "--mod"
option_name Cycles = codes "--cycles"
option_name Stats = codes "--stats"
option_name Map = codes "--map"
option_name Matrix = codes "--matrix"
option_name Index = codes "--index"
option_name Witness = codes "--witness"
option_name SetAlone = codes "--set"

abbrev pub takes_value : Choice → Bool
takes_value Modulus = true
takes_value Cycles = false
takes_value Stats = false
takes_value Map = true
takes_value Matrix = false
takes_value Index = false
takes_value Witness = true
takes_value SetAlone = false

-- whether the option stands with no other
abbrev pub stands_alone : Choice → Bool
stands_alone SetAlone = true
stands_alone choice = false

abbrev pub form_named : List ℕ → Option Row
form_named word = named (λ form. form.name) forms word

abbrev pub option_named : Row → List ℕ → Option Choice
option_named form word = named option_name form.options word

-- ---- what one word says

-- what may come next among the words after a tool's name: an operand, an option or the word that
-- ends the options; the value of an option; an operand, since the options have ended
pub data Next : Type 0 where
  Anything : Next
  ValueOf : Choice → Next
  OperandsAlone : Next

-- what a word says by itself: that the options end, or that the value of an option follows; an
-- operand; an option, with its value where it takes one
pub data Said : Type 0 where
  Nothing : Said
  Operand : List ℕ → Said
  Set : Setting → Said

-- what a word says, and what may come after it
pub record WordRead : Type 0 where
  pub said : Said
  pub next : Next

-- the words, as their bytes
abbrev pub spoken : {A : Type 0} → List (String A) → List (List ℕ)
spoken words = map string_bytes words

-- what may be an operand, or the value of an option: not empty, and without a dash in front unless
-- it is the dash itself
abbrev pub is_plain : List ℕ → Bool
is_plain [] = false
is_plain (b ∷ []) = true
is_plain (b ∷ bs) = not (b == 45)

abbrev pub is_empty : List ℕ → Bool
is_empty [] = true
is_empty (b ∷ bs) = false

-- the equals sign, before which the name of an option ends
abbrev pub is_equals : ℕ → Bool
is_equals b = b == 61

-- an option by its name alone: where it takes a value, that is the next word
abbrev pub alone : Option Choice → Option WordRead
alone None = None
alone (Some choice) =
    if takes_value choice then Some (record { said = Nothing; next = ValueOf choice })
    else Some (record { said = Set (record { choice = choice; value = None }); next = Anything })

-- an option with a value behind the equals sign
abbrev pub valued : Option Choice → List ℕ → Option WordRead
valued None value = None
valued (Some choice) value =
    if takes_value choice && not (is_empty value)
    then Some (record
    { said = Set (record { choice = choice; value = Some value }); next = Anything })
    else None

abbrev pub option_read : Row → List ℕ → Option WordRead
option_read form word =
    if nat_lt (position_or_len is_equals word) (length word)
    then valued (option_named form (before_first is_equals word)) (after_first is_equals word)
    else alone (option_named form word)

-- what a word says, by what may come next, and what may come after it; nothing where it fits none
abbrev pub word_read : Row → Next → List ℕ → Option WordRead
word_read form Anything word =
    if bytes_eq word (codes "--") then Some (record { said = Nothing; next = OperandsAlone })
    else if is_plain word then Some (record { said = Operand word; next = Anything })
    else option_read form word
word_read form (ValueOf choice) word =
    if is_plain word
    then Some (record
    { said = Set (record { choice = choice; value = Some word }); next = Anything })
    else None
word_read form OperandsAlone word =
    if is_empty word then None else Some (record { said = Operand word; next = OperandsAlone })

-- ---- what all words say

-- the operands and the options with their values, each in order
pub record Spoken : Type 0 where
  pub operands : List (List ℕ)
  pub settings : List Setting

abbrev pub nothing_spoken : Spoken
nothing_spoken = record { operands = []; settings = [] }

-- a word, and then what the words after it say
abbrev pub also : Said → Spoken → Spoken
also Nothing more = more
also (Operand word) more = record { operands = word ∷ more.operands; settings = more.settings }
also (Set setting) more = record { operands = more.operands; settings = setting ∷ more.settings }

-- one more word behind what was said
abbrev pub after : Spoken → Said → Spoken
after so_far Nothing = so_far
after so_far (Operand word) =
    record { operands = so_far.operands ++ word ∷ []; settings = so_far.settings }
after so_far (Set setting) =
    record { operands = so_far.operands; settings = so_far.settings ++ setting ∷ [] }

abbrev pub at_end : Next → Option Spoken
at_end Anything = Some nothing_spoken
at_end (ValueOf choice) = None
at_end OperandsAlone = Some nothing_spoken

abbrev pub word_first : Option WordRead → (Next → Option Spoken) → Option Spoken
word_first None more = None
word_first (Some read) more = option_map (also read.said) (more read.next)

-- what the words of a tool say, by what may come first; nothing where they are of no form
abbrev pub words_read : Row → Next → List (List ℕ) → Option Spoken
words_read form next [] = at_end next
words_read form next (word ∷ words) =
    word_first (word_read form next word) (λ next. words_read form next words)

-- each option stands once
abbrev pub same_choice : Choice → Choice → Bool
same_choice Modulus Modulus = true
same_choice Cycles Cycles = true
same_choice Stats Stats = true
same_choice Map Map = true
same_choice Matrix Matrix = true
same_choice Index Index = true
same_choice Witness Witness = true
same_choice SetAlone SetAlone = true
same_choice choice other = false

abbrev pub is_set : Choice → List Setting → Bool
is_set choice settings = list_any (λ s. same_choice s.choice choice) settings

-- the first of the settings that is of this option
abbrev pub setting_of : List Setting → Choice → Option Setting
setting_of settings choice = find (λ s. same_choice s.choice choice) settings

abbrev pub are_once : List Setting → Bool
are_once [] = true
are_once (s ∷ ss) = not (is_set s.choice ss) && are_once ss

-- no other option stands beside one that stands alone, and matrices and index matrices are those of
-- a map
abbrev pub has_alone : List Setting → Bool
has_alone settings = list_any (λ s. stands_alone s.choice) settings

abbrev pub asks_of_map : List Setting → Bool
asks_of_map settings = is_set Matrix settings || is_set Index settings

abbrev pub agree : List Setting → Bool
agree settings =
    (nat_le (length settings) 1 || not (has_alone settings))
    && (is_set Map settings || not (asks_of_map settings))

-- the form that the options choose: with a map it is that of maps, whose operands are the domain,
-- its subset, the range and its subset
abbrev pub of_map : Row → Row
of_map form = row tools.MapHomology form.name 4 4 form.options

abbrev pub form_with : List Setting → Row → Row
form_with settings form = if is_set Map settings then of_map form else form

-- the operands are words that the tool takes: those of the generator name a number of holes; those
-- of the replayer are a witness and a set, a witness and a pair, or a witness, a map and two pairs;
-- those of other tools are any words
abbrev pub are_operands : ToolName → List (List ℕ) → Bool
are_operands tools.Gen operands = is_some (holes_named operands)
are_operands tools.Replay operands = nat_le (length operands) 3 || nat_le 6 (length operands)
are_operands tool operands = true

-- neither too few operands nor too many, all of them words that the tool takes; options that may
-- stand together, and each once
abbrev pub fits : Row → Spoken → Bool
fits form spoken =
    nat_le form.fewest (length spoken.operands) && nat_le (length spoken.operands) form.most
    && are_operands form.tool spoken.operands && agree spoken.settings
    && are_once spoken.settings

abbrev pub fitting : Row → Spoken → Option Spoken
fitting form spoken = if fits form spoken then Some spoken else None
