-- What a word does to a parse by a form's command, and what the rule makes of it.
use Rattle.std.proofs.Common.{◌≡◌, suc, Bool, true, false, cond, not, ◌&&◌, List, [], ◌∷◌, length, codes, Option, None, Some, is_some, nat_lt, refl, sym, ap, ◌∙◌, subst, arith, true≢false}
use Rattle.std.specs.Option.{option_map_or}
use Rattle.std.proofs.lemmas.Bool.Decides.{Decides-ltb}
use Rattle.clap.specs.Walk.{Held, Row, Rule, Text, Waiting, Walk, arg_by_id, has_row, settled_rows, used_by_id, with_values, without}
use Rattle.clap.specs.Kinds.{Kinds, or_else}
use Rattle.clap.specs.Faults.{repeat_fault, settle_fault, use_fault}
use Rattle.clap.specs.declared.error.kind.ErrorKind.{ErrorKind}
use Rattle.clap.specs.declared.error.kind.ErrorKind.TheVariants as error
use Rattle.clap.specs.declared.parser.matches.ValueSource.TheVariants.{CommandLine}
use Rattle.clap.specs.declared.builder.value_parser.Reading.TheVariants.{AsWritten}
use Rattle.command_line.specs.declared.choice.Choice.{Choice}
use Rattle.command_line.specs.declared.choice.Setting.{Setting}
use Rattle.command_line.specs.Forms.{Spoken, Said, Nothing, Operand, Set, after, option_name, takes_value, is_set}
use Rattle.parsing.proofs.Rules.{flag_built, option_built, rules_of, valued_built}
use Rattle.parsing.proofs.Choices.{IsKnown}
use Rattle.parsing.proofs.Said.{Has, good, good_operand, good_setting, has_operand, has_setting, is_told, is_word, row_is_set, values_of}

-- ---- kinds of error, none or some

abbrev pub IsSome : Kinds → Type 0
IsSome ks = ks ≡ [] → ⊥

pub some_kind : (k : ErrorKind) (ks : Kinds) → IsSome (k ∷ ks)
some_kind k ks e = cc

pub some_first : (a b : Kinds) → IsSome a → IsSome (or_else a b)
some_first [] b some e = some refl
some_first (k ∷ ks) b some e = cc

pub some_second : (a b : Kinds) → IsSome b → IsSome (or_else a b)
some_second [] b some e = some e
some_second (k ∷ ks) b some e = cc

pub some_as : (a b : Kinds) → a ≡ b → IsSome b → IsSome a
some_as a b same some e = some (sym same ∙ e)

pub and_false : (b : Bool) → (b && false) ≡ false
and_false true = refl
and_false false = refl

-- ---- what is held between two words

abbrev pub held : List Row → Option (Text × List Text) → Held
held rows pending = record { rows = rows; pending = pending; skip = 0 }

-- the walk, with what is held, what waits, and whether the options have ended
abbrev pub place : Held → Waiting → Bool → Walk
place h waiting ended = record { held = h; waiting = waiting; position = 1; is_trailing = ended; stopped = None }

abbrev value_list : Option Text → List Text
value_list None = []
value_list (Some v) = v ∷ []

-- what was said last, and is not among the rows yet
abbrev pub piece : Said → Option (Text × List Text)
piece Nothing = None
piece (Operand word) = Some (codes "operands", word ∷ [])
piece (Set s) = Some (option_name s.choice, value_list s.value)

abbrev pub IsPiece : List Choice → Said → Type 0
IsPiece options Nothing = Unit {0}
IsPiece options (Operand word) = Unit {0}
IsPiece options (Set s) = IsKnown options s.choice × (takes_value s.choice ≡ true) × ((v : Text) × (s.value ≡ Some v))

pub takes_built : (c : Choice) → takes_value c ≡ true → option_built c ≡ valued_built (option_name c)
takes_built c e = ap (λ b. cond b (valued_built (option_name c)) (flag_built (option_name c))) e

pub flag_is : (c : Choice) → takes_value c ≡ false → option_built c ≡ flag_built (option_name c)
flag_is c e = ap (λ b. cond b (valued_built (option_name c)) (flag_built (option_name c))) e

module _ (options : List Choice) where
  -- a use of an option, by the kinds of error that its value has
  pub data Used (said : Spoken) (rows : List Row) (s : Setting) (kinds : Kinds) : Type 0 where
    misused : IsSome kinds → good (after said (Set s)) ≡ false → Used said rows s kinds
    used : kinds ≡ [] → good (after said (Set s)) ≡ true
        → Has options (after said (Set s)) (with_values (option_name s.choice) AsWritten CommandLine (values_of s.value) (without (option_name s.choice) rows)) → Used said rows s kinds

  use_setting : (said : Spoken) (rows : List Row) (s : Setting) (kinds : Kinds) → Has options said rows → good said ≡ true → IsKnown options s.choice → takes_value s.choice ≡ is_some s.value
      → (is_told s ≡ true → kinds ≡ []) → (is_told s ≡ false → IsSome kinds) → Used said rows s (or_else (repeat_fault false (option_name s.choice) rows) kinds)
  use_setting said rows s kinds h ok is fits fine bad = by (has_row (option_name s.choice) rows) refl (is_told s) refl
    where
      set : has_row (option_name s.choice) rows ≡ is_set s.choice said.settings
      set = row_is_set options said rows s.choice h

      goodness : (x y : Bool) → has_row (option_name s.choice) rows ≡ x → is_told s ≡ y → good (after said (Set s)) ≡ ((true && not x) && y)
      goodness x y e f = good_setting said s ∙ (λ i. (ok i && not ((sym set ∙ e) i)) && f i)

      by : (x : Bool) → has_row (option_name s.choice) rows ≡ x → (y : Bool) → is_told s ≡ y → Used said rows s (or_else (repeat_fault false (option_name s.choice) rows) kinds)
      by true e y f = misused
          (some_as _ (or_else (error.ArgumentConflict ∷ []) kinds) (ap (λ b. or_else (cond (b && true) (error.ArgumentConflict ∷ []) []) kinds) e) (some_kind error.ArgumentConflict []))
          (goodness true y e f)
      by false e false f = misused
          (some_as _ (or_else [] kinds) (ap (λ b. or_else (cond (b && true) (error.ArgumentConflict ∷ []) []) kinds) e) (bad f))
          (goodness false false e f)
      by false e true f = used
          (ap (λ b. or_else (cond (b && true) (error.ArgumentConflict ∷ []) []) kinds) e ∙ fine f)
          (goodness false true e f)
          (has_setting options said rows s h e is.member fits)

  -- a value is refused where it is empty
  abbrev value_fault : Text → Kinds
  value_fault v = or_else (cond (nat_lt 0 (length v)) [] (error.InvalidValue ∷ [])) []

  told_fine : (v : Text) → is_word v ≡ true → value_fault v ≡ []
  told_fine [] e = absurd (true≢false (sym e))
  told_fine (b ∷ bs) e = ap (λ t. or_else (cond t [] (error.InvalidValue ∷ [])) []) ((Decides-ltb 0 (suc (length bs))).1 (omega arith))

  told_bad : (v : Text) → is_word v ≡ false → IsSome (value_fault v)
  told_bad [] e = some_kind error.InvalidValue []
  told_bad (b ∷ bs) e = absurd (true≢false e)

  abbrev valued : Choice → Text → Setting
  valued c v = record { choice = c; value = Some v }

  pub use_value : (said : Spoken) (rows : List Row) (c : Choice) (v : Text) → Has options said rows → good said ≡ true → IsKnown options c → takes_value c ≡ true
      → Used said rows (valued c v) (use_fault false (valued_built (option_name c)) (v ∷ []) rows)
  use_value said rows c v h ok is takes = use_setting said rows (valued c v) (value_fault v) h ok is takes (told_fine v) (told_bad v)

  pub use_flag : (said : Spoken) (rows : List Row) (c : Choice) → Has options said rows → good said ≡ true → IsKnown options c → takes_value c ≡ false
      → Used said rows (record { choice = c; value = None }) (use_fault false (flag_built (option_name c)) [] rows)
  use_flag said rows c h ok is takes = use_setting said rows (record { choice = c; value = None }) [] h ok is takes (λ e. refl) (λ e. absurd (true≢false e))

  -- what was said last goes among the rows
  pub data Settled (said : Spoken) (rows : List Row) (last : Said) : Type 0 where
    unsettled : IsSome (settle_fault (rules_of options) false (held rows (piece last))) → good (after said last) ≡ false → Settled said rows last
    settled : settle_fault (rules_of options) false (held rows (piece last)) ≡ [] → good (after said last) ≡ true
        → Has options (after said last) (settled_rows (rules_of options) (piece last) rows) → Settled said rows last

  pub settle : (said : Spoken) (rows : List Row) (last : Said) → Has options said rows → good said ≡ true → IsPiece options last → Settled said rows last
  settle said rows Nothing h ok is = settled refl ok h
  settle said rows (Operand word) h ok is = by (is_word word) refl
    where
      goodness : (b : Bool) → is_word word ≡ b → good (after said (Operand word)) ≡ b
      goodness b e = good_operand said word ∙ (λ i. ok i && e i)

      by : (b : Bool) → is_word word ≡ b → Settled said rows (Operand word)
      by true e = settled (told_fine word e) (goodness true e) (has_operand options said rows word h)
      by false e = unsettled (told_bad word e) (goodness false e)
  settle said rows (Set s) h ok is = by s.choice s.value is.0 is.1 is.2.0 is.2.1
    where
      by : (c : Choice) (value : Option Text) → IsKnown options c → takes_value c ≡ true → (v : Text) → value ≡ Some v → Settled said rows (Set (record { choice = c; value = value }))
      by c None is takes v e = cc
      by c (Some w) is takes v e = end (use_value said rows c w h ok is takes)
        where
          found : arg_by_id (rules_of options) (option_name c) ≡ Some (valued_built (option_name c))
          found = is.by_id ∙ ap (λ a. Some a) (takes_built c takes)

          kinds : settle_fault (rules_of options) false (held rows (piece (Set (valued c w)))) ≡ use_fault false (valued_built (option_name c)) (w ∷ []) rows
          kinds = ap (λ o. option_map_or (λ (a : Rule). use_fault false a (w ∷ []) rows) o []) found

          rows_are : settled_rows (rules_of options) (piece (Set (valued c w))) rows ≡ with_values (option_name c) AsWritten CommandLine (w ∷ []) (without (option_name c) rows)
          rows_are = ap (λ o. used_by_id o (w ∷ []) rows) found

          end : Used said rows (valued c w) (use_fault false (valued_built (option_name c)) (w ∷ []) rows) → Settled said rows (Set (valued c w))
          end (misused some bad) = unsettled (some_as _ _ kinds some) bad
          end (used none ok has) = settled (kinds ∙ none) ok (subst (λ (rs : List Row). Has options (after said (Set (valued c w))) rs) (sym rows_are) has)
