-- What a parse by a form's command answers, and what the rule says.
use Rattle.std.proofs.Common.{◌≡◌, ℕ, ◌≤◌, Bool, true, false, cond, not, ◌&&◌, List, [], ◌∷◌, length, codes, nat_le, nat_lt, Option, None, Some, option_map, String, refl, sym, ap, ◌∙◌, subst, arith, true≢false, ⊎_elim}
use Rattle.std.specs.Option.{option_and_then}
use Rattle.std.specs.List.{list_all, position_or_len, before_first, after_first}
use Rattle.std.specs.Str.{bytes_eq}
use Rattle.std.proofs.lemmas.Bool.Decides.{leb_tells}
use Rattle.clap.specs.Walk.{Text, nothing_held}
use Rattle.clap.specs.Simple.{App, matches_of, names_of}
use Rattle.clap.specs.Walk.{rows_after}
use Rattle.clap.specs.Faults.{built_fault, fault_of}
use Rattle.clap.proofs.FaultLemmas.{leaf_fault}
use Rattle.command_line.specs.declared.choice.Choice.{Choice}
use Rattle.command_line.specs.declared.choice.Choice.TheVariants.{Map}
use Rattle.command_line.specs.declared.choice.Setting.{Setting}
use Rattle.command_line.specs.Operands.{named}
use Rattle.command_line.specs.Forms.{Row as Form, Spoken, Said, Nothing, Operand, Set, Next, Anything, ValueOf, OperandsAlone, WordRead, also, alone, are_once, fits, form_with, forms, is_empty, is_equals, is_plain, is_set, nothing_spoken, of_map, option_named, option_read, spoken, takes_value, valued, word_first, word_read, words_read}
use Rattle.command_line.specs.Words.{request_of, chosen_of}
use Rattle.parsing.specs.Syntax.{IsListed, syntax}
use Rattle.parsing.specs.Found.{Finds}
use Rattle.parsing.proofs.Rules.{app_built, built_is, rules_of}
use Rattle.parsing.proofs.Choices.{is_option}
use Rattle.parsing.proofs.Said.{full, good, has_nothing, is_told, is_word}
use Rattle.parsing.proofs.Texts.{loose_option, loose_read, loose_valued, no_name}
use Rattle.parsing.proofs.Turns.{IsSome, some_as}
use Rattle.parsing.proofs.Steps.{Standing, open_at}
use Rattle.parsing.proofs.Ends.{has_operands}
use Rattle.parsing.proofs.Walking.{Result, all_words, and_left, and_right, both_true, passed, refused, scan, wanted}

-- ---- the rule, from what words say where operands and values may be empty

abbrev told : Said → Bool
told Nothing = true
told (Operand word) = is_word word
told (Set s) = is_told s

abbrev strict : Option WordRead → Option WordRead
strict None = None
strict (Some r) = cond (told r.said) (Some r) None

abbrev only_full : Spoken → Option Spoken
only_full said = cond (full said) (Some said) None

alone_strict : (o : Option Choice) → alone o ≡ strict (alone o)
alone_strict None = refl
alone_strict (Some c) = by (takes_value c)
  where
    by : (b : Bool) → cond b (Some (record { said = Nothing; next = ValueOf c })) (Some (record { said = Set (record { choice = c; value = None }); next = Anything }))
        ≡ strict (cond b (Some (record { said = Nothing; next = ValueOf c })) (Some (record { said = Set (record { choice = c; value = None }); next = Anything })))
    by true = refl
    by false = refl

valued_strict : (o : Option Choice) (value : Text) → valued o value ≡ strict (loose_valued o value)
valued_strict None value = refl
valued_strict (Some c) value = by (takes_value c)
  where
    by : (b : Bool) → cond (b && not (is_empty value)) (Some (record { said = Set (record { choice = c; value = Some value }); next = Anything })) None
        ≡ strict (cond b (Some (record { said = Set (record { choice = c; value = Some value }); next = Anything })) None)
    by true = refl
    by false = refl

option_strict : (form : Form) (word : Text) → option_read form word ≡ strict (loose_option form word)
option_strict form word = by (nat_lt (position_or_len is_equals word) (length word))
  where
    by : (b : Bool) → cond b (valued (option_named form (before_first is_equals word)) (after_first is_equals word)) (alone (option_named form word))
        ≡ strict (cond b (loose_valued (option_named form (before_first is_equals word)) (after_first is_equals word)) (alone (option_named form word)))
    by true = valued_strict (option_named form (before_first is_equals word)) (after_first is_equals word)
    by false = alone_strict (option_named form word)

word_strict : (form : Form) (next : Next) (word : Text) → word_read form next word ≡ strict (loose_read form next word)
word_strict form Anything [] = ap alone (no_name form)
word_strict form Anything (b ∷ bs) = by (bytes_eq (b ∷ bs) (codes "--")) (is_plain (b ∷ bs)) (option_strict form (b ∷ bs))
  where
    by : (x y : Bool) → option_read form (b ∷ bs) ≡ strict (loose_option form (b ∷ bs))
        → cond x (Some (record { said = Nothing; next = OperandsAlone })) (cond y (Some (record { said = Operand (b ∷ bs); next = Anything })) (option_read form (b ∷ bs)))
        ≡ strict (cond x (Some (record { said = Nothing; next = OperandsAlone })) (cond y (Some (record { said = Operand (b ∷ bs); next = Anything })) (loose_option form (b ∷ bs))))
    by true y e = refl
    by false true e = refl
    by false false e = e
word_strict form (ValueOf c) [] = refl
word_strict form (ValueOf c) (b ∷ bs) = by (is_plain (b ∷ bs))
  where
    by : (y : Bool) → cond y (Some (record { said = Set (record { choice = c; value = Some (b ∷ bs) }); next = Anything })) None
        ≡ strict (cond y (Some (record { said = Set (record { choice = c; value = Some (b ∷ bs) }); next = Anything })) None)
    by true = refl
    by false = refl
word_strict form OperandsAlone [] = refl
word_strict form OperandsAlone (b ∷ bs) = refl

full_also : (word : Said) (more : Spoken) → full (also word more) ≡ (told word && full more)
full_also Nothing more = refl
full_also (Operand word) more = by (is_word word)
  where
    by : (b : Bool) → ((b && list_all is_word more.operands) && list_all is_told more.settings) ≡ (b && full more)
    by true = refl
    by false = refl
full_also (Set s) more = by (list_all is_word more.operands) (is_told s)
  where
    by : (a b : Bool) → (a && (b && list_all is_told more.settings)) ≡ (b && (a && list_all is_told more.settings))
    by true true = refl
    by true false = refl
    by false true = refl
    by false false = refl

words_strict : (form : Form) (next : Next) (words : List Text) → words_read form next words ≡ option_and_then only_full (scan form next words)
words_strict form Anything [] = refl
words_strict form (ValueOf c) [] = refl
words_strict form OperandsAlone [] = refl
words_strict form next (word ∷ words) =
    ap (λ o. word_first o (λ then. words_read form then words)) (word_strict form next word) ∙ by (loose_read form next word) (λ then. words_strict form then words)
  where
    said : (r : WordRead) (b : Bool) → told r.said ≡ b → (o : Option Spoken)
        → word_first (cond b (Some r) None) (λ then. option_and_then only_full o) ≡ option_and_then only_full (option_map (also r.said) o)
    said r true e None = refl
    said r false e None = refl
    said r false e (Some m) = sym (ap (λ b. cond b (Some (also r.said m)) None) (full_also r.said m ∙ ap (λ b. b && full m) e))
    said r true e (Some m) = more (full m) ∙ sym (ap (λ b. cond b (Some (also r.said m)) None) (full_also r.said m ∙ ap (λ b. b && full m) e))
      where
        more : (b : Bool) → option_map (also r.said) (cond b (Some m) None) ≡ cond b (Some (also r.said m)) None
        more true = refl
        more false = refl

    by : (o : Option WordRead) → ((then : Next) → words_read form then words ≡ option_and_then only_full (scan form then words))
        → word_first (strict o) (λ then. words_read form then words) ≡ option_and_then only_full (word_first o (λ then. scan form then words))
    by None later = refl
    by (Some r) later = first (told r.said) ∙ said r (told r.said) refl (scan form r.next words)
      where
        first : (b : Bool) → word_first (cond b (Some r) None) (λ then. words_read form then words)
            ≡ word_first (cond b (Some r) None) (λ then. option_and_then only_full (scan form r.next words))
        first true = ap (option_map (also r.said)) (later r.next)
        first false = refl

-- ---- rows of the table

named_passes : (p : Form → Bool) (rows : List Form) (word : Text) (form : Form) → list_all p rows ≡ true → named (λ (f : Form). f.name) rows word ≡ Some form → p form ≡ true
named_passes p [] word form all e = cc
named_passes p (row ∷ rows) word form all e = by (bytes_eq word row.name) e (λ f. named_passes p rows word form (and_right (p row) (list_all p rows) all) f)
  where
    by : (b : Bool) → cond b (Some row) (named (λ (f : Form). f.name) rows word) ≡ Some form → (named (λ (f : Form). f.name) rows word ≡ Some form → p form ≡ true) → p form ≡ true
    by true e later = let is : row ≡ form = cc in ap p (sym is) ∙ and_left (p row) (list_all p rows) all
    by false e later = later e

pub of_table : (p : Form → Bool) → list_all p forms ≡ true → (form : Form) → IsListed form → p form ≡ true
of_table p all form listed = named_passes p forms listed.0 form all listed.1

fewest_one : (form : Form) → IsListed form → nat_le 1 form.fewest ≡ true
fewest_one form listed = of_table (λ (f : Form). nat_le 1 f.fewest) refl form listed

-- ---- the answer

pub data Answer {A : Type 0} (form : Form) (words : List (String A)) : Type 0 where
  refuses : IsSome (fault_of (syntax form) (spoken words)) → option_and_then (request_of form) (words_read form Anything (spoken words)) ≡ None → Answer form words
  takes : fault_of (syntax form) (spoken words) ≡ [] → (said : Spoken) → words_read form Anything (spoken words) ≡ Some said → are_once said.settings ≡ true
      → list_all (λ (s : Setting). is_option form.options s.choice) said.settings ≡ true → Finds said (matches_of (syntax form) (spoken words)) → Answer form words

at_most : (a b : ℕ) → nat_le a b ≡ true → a ≤ b
at_most a b e = ⊎_elim (λ h. h.1) (λ h. absurd (true≢false (sym e ∙ h.0))) (leb_tells a b)

fitting_wanted : (form : Form) (said : Spoken) → nat_le 1 form.fewest ≡ true → full said ≡ true → fits form said ≡ true → wanted said ≡ true
fitting_wanted form said one full_too e =
    let once = and_right _ (are_once said.settings) e in
    let enough = and_left _ _ (and_left _ _ (and_left _ _ (and_left _ _ e))) in
    both_true (good said) (has_operands said) (both_true (are_once said.settings) (full said) once full_too) (some said.operands enough)
  where
    some : (ws : List Text) → nat_le form.fewest (length ws) ≡ true → has_operands (record { operands = ws; settings = [] }) ≡ true
    some [] e =
        let a : 1 ≤ form.fewest = at_most 1 form.fewest one in
        let b : form.fewest ≤ 0 = at_most form.fewest 0 e in
        absurd (omega arith)
    some (w ∷ ws) e = refl

-- a form that options choose takes an operand too
with_one : (form : Form) (settings : List Setting) → nat_le 1 form.fewest ≡ true → nat_le 1 (form_with settings form).fewest ≡ true
with_one form settings one = by (is_set Map settings)
  where
    by : (b : Bool) → nat_le 1 (cond b (of_map form) form).fewest ≡ true
    by true = refl
    by false = one

no_request : (form : Form) → nat_le 1 form.fewest ≡ true → (words : List Text) → ((more : Spoken) → scan form Anything words ≡ Some more → wanted more ≡ true → ⊥)
    → option_and_then (request_of form) (words_read form Anything words) ≡ None
no_request form one words none = ap (option_and_then (request_of form)) (words_strict form Anything words) ∙ by (scan form Anything words) refl
  where
    fitted : (m : Spoken) → full m ≡ true → scan form Anything words ≡ Some m → (b : Bool) → fits (form_with m.settings form) m ≡ b
        → option_and_then (chosen_of (form_with m.settings form)) (cond b (Some m) None) ≡ None
    fitted m full_too is true e = absurd (none m is (fitting_wanted (form_with m.settings form) m (with_one form m.settings one) full_too e))
    fitted m full_too is false e = refl

    by : (o : Option Spoken) → scan form Anything words ≡ o → option_and_then (request_of form) (option_and_then only_full o) ≡ None
    by None is = refl
    by (Some m) is = whole (full m) refl
      where
        whole : (b : Bool) → full m ≡ b → option_and_then (request_of form) (cond b (Some m) None) ≡ None
        whole false e = refl
        whole true e = fitted m e is (fits (form_with m.settings form) m) refl

pub answer : {A : Type 0} (form : Form) (words : List (String A)) → IsListed form → Answer form words
answer form words listed = by (all_words form start words)
  where
    start : Standing form
    start = open_at nothing_spoken [] Nothing false false (has_nothing form.options) refl tt

    kinds : fault_of (syntax form) (spoken words) ≡ built_fault (app_built form) nothing_held (spoken words)
    kinds = ap (λ (a : App). built_fault a nothing_held (spoken words)) (built_is form)

    rows : matches_of (syntax form) (spoken words) ≡ rows_after (rules_of form.options) [] (spoken words)
    rows = ap (λ (a : App). rows_after a.top.rules (names_of a) (spoken words)) (built_is form)

    by : Result form (open_at nothing_spoken [] Nothing false false (has_nothing form.options) refl tt) (spoken words) → Answer form words
    by (refused some none) = refuses (some_as _ _ (kinds ∙ leaf_fault (app_built form) nothing_held (spoken words) refl) some)
        (no_request form (fewest_one form listed) (spoken words) none)
    by (passed nothing said is want members found) =
        takes (kinds ∙ leaf_fault (app_built form) nothing_held (spoken words) refl ∙ nothing) said
        (words_strict form Anything (spoken words) ∙ ap (option_and_then only_full) is
        ∙ ap (λ b. cond b (Some said) None) (and_right (are_once said.settings) (full said) (and_left (good said) (has_operands said) want)))
        (and_left (are_once said.settings) (full said) (and_left (good said) (has_operands said) want)) members
        (subst (Finds said) (sym rows) found)
