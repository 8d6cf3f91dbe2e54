-- Operands and options that are read back from what was found.
use Rattle.std.proofs.Common.{◌≡◌, ℕ, ◌+◌, ◌<◌, ◌≤◌, Bool, true, false, cond, List, [], ◌∷◌, ◌++◌, length, get_or, drop, drop_of_length-le, map, codes, Option, None, Some, is_some, option_map, refl, sym, ap, ◌∙◌, append_assoc, append-nil, inl, inr}
use Rattle.std.specs.Borrow.{Bor}
use Rattle.std.specs.List.{cons_option}
use Rattle.std.proofs.lemmas.List.{drop_more}
use Rattle.clap.specs.Matches.{first_value, found_of, matched_of, one_text, raw_values}
use Rattle.clap.specs.Walk.{Text, one_of, rows_of}
use Rattle.clap.specs.declared.parser.matches.ArgMatches.{ArgMatches}
use Rattle.clap.proofs.WalkLemmas.{first_value-rows, one_text-rows, raw_values-rows}
use Rattle.command_line.specs.declared.choice.Choice.{Choice}
use Rattle.command_line.specs.declared.choice.Setting.{Setting}
use Rattle.command_line.specs.Forms.{Row as Form, Spoken, Operand, Set, after, nothing_spoken, option_name, takes_value}
use Rattle.clap.specs.Simple.{App, with_rule}
use Rattle.parsing.specs.Syntax.{bare, operand_rule, option_rule, syntax}
use Rattle.parsing.specs.Found.{Finds, IsFlag, in_table, setting_of, settings_of, valued}

-- ---- one option

pub value_found : (choice : Choice) (matches : ArgMatches) (said : Spoken) → takes_value choice ≡ true → Finds said (rows_of (found_of matches)) → (name : Text) → name ≡ option_name choice
    → (r : Option Text) → r ≡ first_value (found_of matches) name → option_map (valued choice) r ≡ setting_of said.settings choice
value_found choice matches said takes finds name is r found =
    ap (option_map (valued choice)) (found ∙ ap (first_value (found_of matches)) is ∙ first_value-rows (found_of matches) (option_name choice))
    ∙ sym (finds.values choice takes)

abbrev pub bare_setting : Choice → Setting
bare_setting choice = record { choice = choice; value = None }

pub flag_found : (choice : Choice) (matches : ArgMatches) (said : Spoken) → takes_value choice ≡ false → Finds said (rows_of (found_of matches)) → (name : Text) → name ≡ option_name choice
    → (r : Bool) → (one_text (found_of matches) name ≡ None → r ≡ false) → (one_text (found_of matches) name ≡ Some (codes "true") → r ≡ true)
    → (one_text (found_of matches) name ≡ Some (codes "false") → r ≡ false) → cond r (Some (bare_setting choice)) None ≡ setting_of said.settings choice
flag_found choice matches said flag finds name is r none set unset = by (setting_of said.settings choice) (finds.flags choice flag) (finds.told choice flag)
  where
    text : one_text (found_of matches) name ≡ one_of (option_name choice) (rows_of (found_of matches))
    text = ap (one_text (found_of matches)) is ∙ one_text-rows (found_of matches) (option_name choice)

    by : (o : Option Setting) → o ≡ option_map (λ s. bare_setting choice) o → IsFlag (is_some o) (one_of (option_name choice) (rows_of (found_of matches)))
        → cond r (Some (bare_setting choice)) None ≡ o
    by (Some s) same told = ap (λ b. cond b (Some (bare_setting choice)) None) (set (text ∙ told)) ∙ sym same
    by None same (inl e) = ap (λ b. cond b (Some (bare_setting choice)) None) (none (text ∙ e))
    by None same (inr e) = ap (λ b. cond b (Some (bare_setting choice)) None) (unset (text ∙ e))

-- ---- operands one by one

abbrev pub with_operands : Spoken → List (Bor Text) → Spoken
with_operands said words = record { operands = said.operands ++ map (λ (w : Bor Text). w.now) words; settings = said.settings }

pub operand_more : (words : List (Bor Text)) (i : ℕ) (d : Bor Text) (text : Text) (old new all : Spoken) → i < length words → text ≡ (get_or words i d).now
    → new ≡ after old (Operand text) → with_operands old (drop i words) ≡ all → with_operands new (drop (i + 1) words) ≡ all
operand_more words i d text old new all l same n invariant =
    ap (λ s. with_operands s (drop (i + 1) words)) n
    ∙ (λ j. record { operands = append_assoc old.operands (text ∷ []) (map (λ (w : Bor Text). w.now) (drop (i + 1) words)) j; settings = old.settings })
    ∙ ap (λ t. record { operands = old.operands ++ t ∷ map (λ (w : Bor Text). w.now) (drop (i + 1) words); settings = old.settings }) same
    ∙ sym (ap (with_operands old) (drop_more words i d l)) ∙ invariant

pub operands_end : (words : List (Bor Text)) (i : ℕ) (said all : Spoken) → length words ≤ i → with_operands said (drop i words) ≡ all → said ≡ all
operands_end words i said all past invariant =
    sym (ap (with_operands said) (drop_of_length-le words past) ∙ (λ j. record { operands = append-nil said.operands j; settings = said.settings })) ∙ invariant

-- the operands that were found are those that were said
pub operands_found : (matches : ArgMatches) (said : Spoken) → Finds said (rows_of (found_of matches)) → (r : Option (List Text))
    → r ≡ option_map raw_values (matched_of (found_of matches) (codes "operands")) → r ≡ Some said.operands
operands_found matches said finds r is = is ∙ raw_values-rows (found_of matches) (codes "operands") ∙ finds.operands

pub same_list : {X : Type 0} (a b : X) → Some a ≡ Some b → a ≡ b
same_list a b e = cc

-- ---- options one by one

abbrev pub with_settings : Spoken → List Choice → List Setting → Spoken
with_settings said options settings = record { operands = said.operands; settings = said.settings ++ settings_of options settings }

abbrev pub added : Spoken → Option Setting → Spoken
added said None = said
added said (Some s) = after said (Set s)

pub setting_more : (options : List Choice) (i : ℕ) (d : Choice) (o : Option Setting) (settings : List Setting) (old new all : Spoken) → i < length options
    → o ≡ setting_of settings (get_or options i d) → new ≡ added old o → with_settings old (drop i options) settings ≡ all → with_settings new (drop (i + 1) options) settings ≡ all
setting_more options i d o settings old new all l found n invariant =
    ap (λ s. with_settings s (drop (i + 1) options) settings) n ∙ by o
    ∙ ap (λ p. record { operands = old.operands; settings = old.settings ++ cons_option p (settings_of (drop (i + 1) options) settings) }) found
    ∙ sym (ap (λ cs. with_settings old cs settings) (drop_more options i d l)) ∙ invariant
  where
    by : (o : Option Setting) → with_settings (added old o) (drop (i + 1) options) settings
        ≡ record { operands = old.operands; settings = old.settings ++ cons_option o (settings_of (drop (i + 1) options) settings) }
    by None = refl
    by (Some s) = λ j. record { operands = old.operands; settings = append_assoc old.settings (s ∷ []) (settings_of (drop (i + 1) options) settings) j }

pub settings_end : (options : List Choice) (i : ℕ) (settings : List Setting) (said all : Spoken) → length options ≤ i → with_settings said (drop i options) settings ≡ all → said ≡ all
settings_end options i settings said all past invariant =
    sym (ap (λ cs. with_settings said cs settings) (drop_of_length-le options past) ∙ (λ j. record { operands = said.operands; settings = append-nil said.settings j })) ∙ invariant

-- ---- arguments of a command one by one

abbrev pub more_rules : App → List Choice → App
more_rules a options = record a { top = record a.top { rules = a.top.rules ++ map option_rule options } }

pub rules_more : (options : List Choice) (i : ℕ) (d : Choice) (a new all : App) → i < length options → new ≡ with_rule a (option_rule (get_or options i d))
    → more_rules a (drop i options) ≡ all → more_rules new (drop (i + 1) options) ≡ all
rules_more options i d a new all l n invariant =
    ap (λ b. more_rules b (drop (i + 1) options)) n
    ∙ (λ j. record a { top = record a.top { rules = append_assoc a.top.rules (option_rule (get_or options i d) ∷ []) (map option_rule (drop (i + 1) options)) j } })
    ∙ sym (ap (more_rules a) (drop_more options i d l)) ∙ invariant

pub rules_end : (options : List Choice) (i : ℕ) (a all : App) → length options ≤ i → more_rules a (drop i options) ≡ all → a ≡ all
rules_end options i a all past invariant =
    sym (ap (more_rules a) (drop_of_length-le options past) ∙ (λ j. record a { top = record a.top { rules = append-nil a.top.rules j } })) ∙ invariant

pub rules_start : (form : Form) (name : List ℕ) (options : List Choice) (a : App) → name ≡ form.name → options ≡ form.options → a ≡ with_rule (bare name) operand_rule → more_rules a options ≡ syntax form
rules_start form name options a n o is = λ j. more_rules ((is ∙ ap (λ t. with_rule (bare t) operand_rule) n) j) (o j)

-- ---- both

pub read_back : (options found_options : List Choice) (said first second third : Spoken) → first ≡ nothing_spoken
    → second ≡ record { operands = first.operands ++ said.operands; settings = first.settings } → found_options ≡ options
    → third ≡ record { operands = second.operands; settings = second.settings ++ settings_of found_options said.settings } → third ≡ in_table options said
read_back options found_options said first second third e f g h =
    h ∙ ap (λ (s : Spoken). record { operands = s.operands; settings = s.settings ++ settings_of found_options said.settings }) (f ∙ ap (λ (s : Spoken). record { operands = s.operands ++ said.operands; settings = s.settings }) e)
    ∙ ap (λ (cs : List Choice). in_table cs said) g
