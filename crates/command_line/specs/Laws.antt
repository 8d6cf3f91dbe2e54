-- Laws on words, over the definitions alone.
use Rattle.std.specs.Prelude.{◌≡◌, ℕ, List, [], ◌∷◌, ◌++◌, None, Some, Bool, false, codes, if◌then◌else◌, IsTrue}
use Rattle.std.specs.List.{list_any}
use Rattle.std.specs.Str.{bytes_eq}
use Rattle.command_line.specs.declared.choice.Choice.{Choice}
use Rattle.command_line.specs.Forms.{Anything, Row, Spoken, form_named, option_name, takes_value, is_plain, is_empty, words_read}
use Rattle.command_line.specs.Words.{command_of}

-- the word that ends the options
abbrev pub dashes : List ℕ
dashes = codes "--"

abbrev pub is_dashes : List ℕ → Bool
is_dashes word = bytes_eq word dashes

-- words that say this by themselves: no option at their end is without its value, and none of them
-- ends the options
pub record AreWhole (form : Row) (words : List (List ℕ)) (said : Spoken) : Type 0 where
  pub read : words_read form Anything words ≡ Some said
  pub undashed : list_any is_dashes words ≡ false

-- options may stand before what stood before them, an operand or another option
abbrev pub OptionsHaveNoOrder : Type 0
OptionsHaveNoOrder = (name : List ℕ) (form : Row) → form_named name ≡ Some form
    → (before options others after : List (List ℕ)) (so_far these those : Spoken)
    → AreWhole form before so_far → AreWhole form options these → AreWhole form others those
    → these.operands ≡ []
    → command_of (name ∷ (before ++ (options ++ (others ++ after))))
    ≡ command_of (name ∷ (before ++ (others ++ (options ++ after))))

-- a value may stand behind an equals sign, or be the next word
abbrev pub ValuesAreSaidInTwoWays : Type 0
ValuesAreSaidInTwoWays = (name : List ℕ) (form : Row) → form_named name ≡ Some form
    → (before after : List (List ℕ)) (so_far : Spoken) → AreWhole form before so_far
    → (choice : Choice) (value : List ℕ) → IsTrue (takes_value choice) → IsTrue (is_plain value)
    → command_of (name ∷ before ++ (option_name choice ++ codes "=" ++ value) ∷ after)
    ≡ command_of (name ∷ before ++ option_name choice ∷ value ∷ after)

-- behind the word that ends the options each word is an operand, but an empty one
abbrev pub WordsBehindDashesAreOperands : Type 0
WordsBehindDashesAreOperands = (form : Row) (before after : List (List ℕ)) (so_far : Spoken)
    → AreWhole form before so_far
    → words_read form Anything (before ++ dashes ∷ after)
    ≡ (if list_any is_empty after then None
    else Some (record { operands = so_far.operands ++ after; settings = so_far.settings }))
