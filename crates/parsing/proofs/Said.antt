-- What words have said, and rows that say the same.
use Rattle.std.proofs.Common.{◌≡◌, Bool, true, false, cond, not, ◌||◌, ◌&&◌, List, [], ◌∷◌, ◌++◌, codes, find, Option, None, Some, is_some, option_map, refl, sym, ap, ◌∙◌, subst, true≢false}
use Rattle.std.specs.Option.{option_map_or, option_or}
use Rattle.std.specs.List.{list_all, list_any}
use Rattle.std.proofs.lemmas.List.Folds.{find-append, list_any-append, list_all-append}
use Rattle.clap.specs.Walk.{Row, Text, has_row, with_values, without}
use Rattle.clap.specs.declared.parser.matches.ValueSource.TheVariants.{CommandLine}
use Rattle.clap.specs.declared.builder.value_parser.Reading.TheVariants.{AsWritten}
use Rattle.command_line.specs.declared.choice.Choice.{Choice}
use Rattle.command_line.specs.declared.choice.Setting.{Setting}
use Rattle.command_line.specs.Forms.{Spoken, Said, Nothing, Operand, Set, nothing_spoken, after, option_name, takes_value, same_choice, is_set, are_once, is_empty}
use Rattle.parsing.specs.Found.{setting_of}
use Rattle.parsing.proofs.Rules.{is_operand_no, not_operand}
use Rattle.command_line.proofs.Orders.{same_is, same_turned}
use Rattle.parsing.proofs.Choices.{is_option, same_name}
use Rattle.parsing.proofs.Rows.{has_row-row_at, joined, row_at, row_at-other, row_at-same, without-none}

-- ---- no empty text, and each option once

-- no value, or one that is not empty
abbrev pub is_told : Setting → Bool
is_told s = option_map_or (λ v. not (is_empty v)) s.value true

abbrev pub is_word : Text → Bool
is_word word = not (is_empty word)

abbrev pub full : Spoken → Bool
full said = list_all is_word said.operands && list_all is_told said.settings

abbrev pub good : Spoken → Bool
good said = are_once said.settings && full said

or_false : (b : Bool) → (b || false) ≡ b
or_false true = refl
or_false false = refl

is_set_push : (c : Choice) (ss : List Setting) (s : Setting) → is_set c (ss ++ s ∷ []) ≡ (is_set c ss || same_choice s.choice c)
is_set_push c ss s = list_any-append (λ (t : Setting). same_choice t.choice c) ss (s ∷ []) ∙ ap (λ b. is_set c ss || b) (or_false (same_choice s.choice c))

shuffle : (a q r o b : Bool) → q ≡ r → (not (a || q) && (o && not b)) ≡ ((not a && o) && not (r || b))
shuffle true q r o b e = refl
shuffle false true true true b e = refl
shuffle false true true false b e = refl
shuffle false false false o b e = refl
shuffle false true false o b e = absurd (true≢false e)
shuffle false false true o b e = absurd (true≢false (sym e))

once_push : (ss : List Setting) (s : Setting) → are_once (ss ++ s ∷ []) ≡ (are_once ss && not (is_set s.choice ss))
once_push [] s = refl
once_push (x ∷ xs) s =
    ap (λ b. not b && are_once (xs ++ s ∷ [])) (is_set_push x.choice xs s)
    ∙ ap (λ b. not (is_set x.choice xs || same_choice s.choice x.choice) && b) (once_push xs s)
    ∙ shuffle (is_set x.choice xs) (same_choice s.choice x.choice) (same_choice x.choice s.choice) (are_once xs) (is_set s.choice xs) (same_turned s.choice x.choice)

with_operand : (o a n g : Bool) → (o && ((a && (n && true)) && g)) ≡ ((o && (a && g)) && n)
with_operand false a n g = refl
with_operand true false n g = refl
with_operand true true true true = refl
with_operand true true true false = refl
with_operand true true false true = refl
with_operand true true false false = refl

pub good_operand : (said : Spoken) (word : Text) → good (after said (Operand word)) ≡ (good said && is_word word)
good_operand said word =
    ap (λ b. are_once said.settings && (b && list_all is_told said.settings)) (list_all-append is_word said.operands (word ∷ []))
    ∙ with_operand (are_once said.settings) (list_all is_word said.operands) (is_word word) (list_all is_told said.settings)

with_setting : (o b f g v : Bool) → ((o && b) && (f && (g && (v && true)))) ≡ (((o && (f && g)) && b) && v)
with_setting false b f g v = refl
with_setting true true false g v = refl
with_setting true false false g v = refl
with_setting true true true false v = refl
with_setting true false true g v = by g
  where
    by : (g : Bool) → false ≡ ((g && false) && v)
    by true = refl
    by false = refl
with_setting true true true true true = refl
with_setting true true true true false = refl

pub good_setting : (said : Spoken) (s : Setting) → good (after said (Set s)) ≡ ((good said && not (is_set s.choice said.settings)) && is_told s)
good_setting said s =
    (λ i. once_push said.settings s i && (list_all is_word said.operands && list_all-append is_told said.settings (s ∷ []) i))
    ∙ with_setting (are_once said.settings) (not (is_set s.choice said.settings)) (list_all is_word said.operands) (list_all is_told said.settings) (is_told s)

-- what is wrong stays wrong
pub bad_after : (said : Spoken) (more : Said) → good said ≡ false → good (after said more) ≡ false
bad_after said Nothing e = e
bad_after said (Operand word) e = good_operand said word ∙ ap (λ b. b && is_word word) e
bad_after said (Set s) e = good_setting said s ∙ ap (λ b. (b && not (is_set s.choice said.settings)) && is_told s) e

-- ---- rows

abbrev pub row : Text → List Text → Row
row id values = record { id = id; values = values; count = None; source = Some CommandLine; reading = AsWritten }

abbrev pub operand_row : List Text → Option Row
operand_row [] = None
operand_row (w ∷ ws) = Some (row (codes "operands") (w ∷ ws))

-- the values that an option leaves in its row
abbrev pub values_of : Option Text → List Text
values_of None = codes "true" ∷ []
values_of (Some v) = v ∷ []

abbrev pub setting_row : Setting → Row
setting_row s = row (option_name s.choice) (values_of s.value)

-- the option is this one, with a value where it takes one
abbrev pub IsFit : Choice → Option Setting → Type 0
IsFit c None = Unit {0}
IsFit c (Some s) = (s.choice ≡ c) × (takes_value c ≡ is_some s.value)

-- the rows say what was said
pub record Has (options : List Choice) (said : Spoken) (rows : List Row) : Type 0 where
  pub operands : row_at (codes "operands") rows ≡ operand_row said.operands
  pub settings : (c : Choice) → row_at (option_name c) rows ≡ option_map setting_row (setting_of said.settings c)
  pub fit : (c : Choice) → IsFit c (setting_of said.settings c)
  pub members : list_all (λ (s : Setting). is_option options s.choice) said.settings ≡ true

pub has_nothing : (options : List Choice) → Has options nothing_spoken []
has_nothing options = record { operands = refl; settings = λ c. refl; fit = λ c. tt; members = refl }

pub has_operand : (options : List Choice) (said : Spoken) (rows : List Row) (word : Text) → Has options said rows
    → Has options (after said (Operand word)) (with_values (codes "operands") AsWritten CommandLine (word ∷ []) rows)
has_operand options said rows word h = record {
  operands = row_at-same (codes "operands") AsWritten CommandLine (word ∷ []) rows
      ∙ ap (λ o. Some (joined (codes "operands") AsWritten CommandLine (word ∷ []) o)) h.operands ∙ more said.operands;
  settings = λ c. row_at-other (option_name c) (codes "operands") AsWritten CommandLine (word ∷ []) rows (not_operand c) ∙ h.settings c;
  fit = h.fit;
  members = h.members;
}
  where
    more : (ws : List Text) → Some (joined (codes "operands") AsWritten CommandLine (word ∷ []) (operand_row ws)) ≡ operand_row (ws ++ word ∷ [])
    more [] = refl
    more (w ∷ ws) = refl

some-find : {X : Type 0} (p : X → Bool) (xs : List X) → is_some (find p xs) ≡ list_any p xs
some-find p [] = refl
some-find p (x ∷ xs) = by (p x) (some-find p xs)
  where
    by : (b : Bool) → is_some (find p xs) ≡ list_any p xs → is_some (cond b (Some x) (find p xs)) ≡ (b || list_any p xs)
    by true later = refl
    by false later = later

some-map : {X Y : Type 0} (f : X → Y) (o : Option X) → is_some (option_map f o) ≡ is_some o
some-map f None = refl
some-map f (Some x) = refl

-- an option has a row where it was set
pub row_is_set : (options : List Choice) (said : Spoken) (rows : List Row) (c : Choice) → Has options said rows → has_row (option_name c) rows ≡ is_set c said.settings
row_is_set options said rows c h =
    has_row-row_at (option_name c) rows ∙ ap is_some (h.settings c) ∙ some-map setting_row (setting_of said.settings c)
    ∙ some-find (λ (s : Setting). same_choice s.choice c) said.settings

not_some : {X : Type 0} (o : Option X) → is_some o ≡ false → o ≡ None
not_some None e = refl
not_some (Some x) e = absurd (true≢false e)

pub has_setting : (options : List Choice) (said : Spoken) (rows : List Row) (s : Setting) → Has options said rows → has_row (option_name s.choice) rows ≡ false
    → is_option options s.choice ≡ true → takes_value s.choice ≡ is_some s.value
    → Has options (after said (Set s)) (with_values (option_name s.choice) AsWritten CommandLine (values_of s.value) (without (option_name s.choice) rows))
has_setting options said rows s h absent member fits =
    subst (λ (rs : List Row). Has options (after said (Set s)) (with_values (option_name s.choice) AsWritten CommandLine (values_of s.value) rs)) (sym (without-none (option_name s.choice) rows absent)) (record {
      operands = row_at-other (codes "operands") (option_name s.choice) AsWritten CommandLine (values_of s.value) rows (is_operand_no s.choice) ∙ h.operands;
      settings = λ c. settings c (same_choice s.choice c) refl;
      fit = λ c. subst (IsFit c) (sym (pushed c)) (fit c (setting_of said.settings c) refl (same_choice s.choice c) refl);
      members = list_all-append (λ (t : Setting). is_option options t.choice) said.settings (s ∷ []) ∙ ap (λ b. b && (is_option options s.choice && true)) h.members ∙ ap (λ b. b && true) member;
    })
  where
    pushed : (c : Choice) → setting_of (said.settings ++ s ∷ []) c ≡ option_or (setting_of said.settings c) (cond (same_choice s.choice c) (Some s) None)
    pushed c = find-append (λ (t : Setting). same_choice t.choice c) said.settings (s ∷ [])

    unset : setting_of said.settings s.choice ≡ None
    unset = not_some (setting_of said.settings s.choice) (some-find (λ (t : Setting). same_choice t.choice s.choice) said.settings ∙ sym (row_is_set options said rows s.choice h) ∙ absent)

    no_row : row_at (option_name s.choice) rows ≡ None
    no_row = not_some (row_at (option_name s.choice) rows) (sym (has_row-row_at (option_name s.choice) rows) ∙ absent)

    or_none : {X : Type 0} (o : Option X) → option_or o None ≡ o
    or_none None = refl
    or_none (Some x) = refl

    settings : (c : Choice) (b : Bool) → same_choice s.choice c ≡ b
        → row_at (option_name c) (with_values (option_name s.choice) AsWritten CommandLine (values_of s.value) rows) ≡ option_map setting_row (setting_of (said.settings ++ s ∷ []) c)
    settings c false e =
        row_at-other (option_name c) (option_name s.choice) AsWritten CommandLine (values_of s.value) rows (same_name s.choice c ∙ e)
        ∙ h.settings c ∙ ap (option_map setting_row) (sym (pushed c ∙ ap (λ b. option_or (setting_of said.settings c) (cond b (Some s) None)) e ∙ or_none (setting_of said.settings c)))
    settings c true e =
        let is : s.choice ≡ c = same_is s.choice c e in
        subst (λ (d : Choice). row_at (option_name d) (with_values (option_name s.choice) AsWritten CommandLine (values_of s.value) rows) ≡ option_map setting_row (setting_of (said.settings ++ s ∷ []) c)) is
        (row_at-same (option_name s.choice) AsWritten CommandLine (values_of s.value) rows
        ∙ ap (λ o. Some (joined (option_name s.choice) AsWritten CommandLine (values_of s.value) o)) no_row
        ∙ ap (option_map setting_row) (sym (pushed c ∙ ap (λ b. option_or (setting_of said.settings c) (cond b (Some s) None)) e
        ∙ ap (λ o. option_or o (Some s)) (ap (setting_of said.settings) (sym is) ∙ unset))))

    fit : (c : Choice) (o : Option Setting) → setting_of said.settings c ≡ o → (b : Bool) → same_choice s.choice c ≡ b → IsFit c (option_or o (cond b (Some s) None))
    fit c (Some t) e b f = subst (IsFit c) e (h.fit c)
    fit c None e true f = let is : s.choice ≡ c = same_is s.choice c f in (is, ap takes_value (sym is) ∙ fits)
    fit c None e false f = tt
