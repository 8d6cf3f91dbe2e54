-- A value behind an equals sign, and as the next word.
use Rattle.std.proofs.Common.{◌≡◌, ℕ, Bool, true, false, cond, List, [], ◌∷◌, ◌++◌, length, codes, nat_lt, Option, None, Some, refl, sym, ap, ◌∙◌, subst, arith, IsTrue}
use Rattle.std.proofs.lemmas.Bool.{lt-ltb}
use Rattle.std.specs.Option.{option_map, option_and_then}
use Rattle.std.specs.List.{position_or_len}
use Rattle.std.specs.Str.{bytes_eq}
use Rattle.command_line.specs.declared.choice.Choice.{Choice}
use Rattle.command_line.specs.declared.choice.Choice.TheVariants.{Modulus, Map, Witness}
use Rattle.command_line.specs.Forms.{Anything, Nothing, Row, Spoken, form_named, named, option_name, option_named, takes_value, is_plain, is_empty, is_equals, also, alone, valued, word_first, words_read}
use Rattle.command_line.specs.Words.{request_of, formed, command_with, command_of}
use Rattle.command_line.specs.Laws.{AreWhole}
use Rattle.command_line.proofs.Wholes.{onto, behind_whole}

name_of_first : (c choice : Choice) (cs : List Choice) (word : List ℕ) (b : Bool) → bytes_eq word (option_name c) ≡ b
    → (named option_name cs word ≡ Some choice → bytes_eq word (option_name choice) ≡ true)
    → cond b (Some c) (named option_name cs word) ≡ Some choice → bytes_eq word (option_name choice) ≡ true
name_of_first c choice cs word true is later e = let i : c ≡ choice = cc in subst (λ (d : Choice). bytes_eq word (option_name d) ≡ true) i is
name_of_first c choice cs word false is later e = later e

name_of_named : (choices : List Choice) (word : List ℕ) (choice : Choice) → named option_name choices word ≡ Some choice → bytes_eq word (option_name choice) ≡ true
name_of_named [] word choice e = cc
name_of_named (c ∷ cs) word choice e = name_of_first c choice cs word (bytes_eq word (option_name c)) refl (λ i. name_of_named cs word choice i) e

no_word_first : (o : Option Spoken) → option_map (also Nothing) o ≡ o
no_word_first None = refl
no_word_first (Some m) = refl

plain_not_empty : (value : List ℕ) → is_plain value ≡ true → is_empty value ≡ false
plain_not_empty [] e = cc
plain_not_empty (b ∷ bs) e = refl

module _ (form : Row) (value : List ℕ) (after : List (List ℕ)) (plain : is_plain value ≡ true) where
  either_way : (choice : Option Choice) → ((c : Choice) → choice ≡ Some c → takes_value c ≡ true)
      → word_first (valued choice value) (λ next. words_read form next after) ≡ word_first (alone choice) (λ next. words_read form next (value ∷ after))
  either_way None takes = refl
  either_way (Some choice) takes = rw (takes choice refl, plain_not_empty value plain, plain) (sym (no_word_first _))

  -- an option that has the name of one with a value takes a value
  same_takes : (choice c : Choice) → takes_value choice ≡ true → bytes_eq (option_name choice) (option_name c) ≡ true → takes_value c ≡ true
  same_takes choice Modulus takes e = refl
  same_takes choice Map takes e = refl
  same_takes choice Witness takes e = refl
  same_takes Modulus c takes e = cc
  same_takes Map c takes e = cc
  same_takes Witness c takes e = cc
  same_takes choice c takes e = cc

  named_takes : (choice : Choice) → takes_value choice ≡ true → (c : Choice) → option_named form (option_name choice) ≡ Some c → takes_value c ≡ true
  named_takes choice takes c e = same_takes choice c takes (name_of_named form.options (option_name choice) c e)

  abbrev joined : Choice → List ℕ
  joined choice = option_name choice ++ codes "=" ++ value

  modulus_sign : nat_lt (position_or_len is_equals (joined Modulus)) (length (joined Modulus)) ≡ true
  modulus_sign = lt-ltb 5 (length (joined Modulus)) (omega arith)

  map_sign : nat_lt (position_or_len is_equals (joined Map)) (length (joined Map)) ≡ true
  map_sign = lt-ltb 5 (length (joined Map)) (omega arith)

  witness_sign : nat_lt (position_or_len is_equals (joined Witness)) (length (joined Witness)) ≡ true
  witness_sign = lt-ltb 9 (length (joined Witness)) (omega arith)

  choice_ways : (choice : Choice) → takes_value choice ≡ true
      → words_read form Anything (joined choice ∷ after) ≡ words_read form Anything (option_name choice ∷ value ∷ after)
  choice_ways Modulus takes =
      ap (λ b. word_first (cond b (valued (option_named form (codes "--mod")) value) (alone (option_named form (joined Modulus)))) (λ next. words_read form next after)) modulus_sign
      ∙ either_way (option_named form (codes "--mod")) (named_takes Modulus takes)
  choice_ways Map takes =
      ap (λ b. word_first (cond b (valued (option_named form (codes "--map")) value) (alone (option_named form (joined Map)))) (λ next. words_read form next after)) map_sign
      ∙ either_way (option_named form (codes "--map")) (named_takes Map takes)
  choice_ways Witness takes =
      ap (λ b. word_first (cond b (valued (option_named form (codes "--witness")) value) (alone (option_named form (joined Witness)))) (λ next. words_read form next after)) witness_sign
      ∙ either_way (option_named form (codes "--witness")) (named_takes Witness takes)
  choice_ways choice takes = cc

pub two_ways : (name : List ℕ) (form : Row) → form_named name ≡ Some form
    → (before after : List (List ℕ)) (so_far : Spoken) → AreWhole form before so_far
    → (choice : Choice) (value : List ℕ) → IsTrue (takes_value choice) → IsTrue (is_plain value)
    → command_of (name ∷ before ++ (option_name choice ++ codes "=" ++ value) ∷ after) ≡ command_of (name ∷ before ++ option_name choice ∷ value ∷ after)
two_ways name form named before after so_far w choice value takes plain =
    ap (λ n. command_with n (before ++ (option_name choice ++ codes "=" ++ value) ∷ after)) named
    ∙ ap (λ r. formed form (option_and_then (request_of form) r))
    (behind_whole form before ((option_name choice ++ codes "=" ++ value) ∷ after) so_far w
    ∙ ap (option_map (onto so_far)) (choice_ways form value after plain choice takes)
    ∙ sym (behind_whole form before (option_name choice ∷ value ∷ after) so_far w))
    ∙ sym (ap (λ n. command_with n (before ++ option_name choice ∷ value ∷ after)) named)
