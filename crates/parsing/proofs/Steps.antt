-- One word: what it does to a parse by a form's command, and what the rule makes of it.
use Rattle.std.proofs.Common.{◌≡◌, ℕ, zero, suc, ◌==◌, Bool, true, false, cond, ◌||◌, List, [], ◌∷◌, ◌++◌, length, codes, Option, None, Some, is_some, option_map, refl, sym, ap, ◌∙◌, subst, arith}
use Rattle.std.specs.Prelude.{slice_get, encode_utf8, nat_lt, drop}
use Rattle.std.specs.Option.{option_map_or}
use Rattle.std.specs.Str.{bytes_eq, chars, encode_utf8_all, IsAscii, IsUtf8}
use Rattle.std.proofs.lemmas.Str.{chars-append, chars-IsAscii, encodes-chars, encodes-IsAscii, IsUtf8-from_ascii}
use Rattle.clap.specs.Lexer.{long_of, name_and_value, short_of}
use Rattle.clap.specs.Walk.{settled as all_settled, pushed, with_values, without, takes_values, Held, Outcome, Row, Rule, Step, Text, Waiting, Walk, after_flag, after_step, arg_by_id, arg_by_long, is_pending, idle, long_met, long_or_other, option, option_word, positional, plain_word, settled_rows, short_or_plain, value, walked, word_met, next, trailing}
use Rattle.clap.specs.Kinds.{Kinds, or_else}
use Rattle.clap.specs.Faults.{bundle_step_fault, bundle_fault, flag_word_fault, flags_fault, long_fault, option_fault, react_fault, settle_fault, short_fault, step_fault, turn_fault, use_fault, word_fault}
use Rattle.clap.specs.declared.error.kind.ErrorKind.TheVariants as error
use Rattle.command_line.specs.declared.choice.Choice.{Choice}
use Rattle.command_line.specs.declared.choice.Setting.{Setting}
use Rattle.command_line.specs.Forms.{Row as Form, Spoken, Said, Nothing, Operand, Set, Next, Anything, ValueOf, OperandsAlone, WordRead, after, option_name, option_named, takes_value}
use Rattle.parsing.proofs.Rules.{by_long, by_short, flag_built, operand_built, option_built, rules_of, shape_of, valued_built}
use Rattle.parsing.proofs.Choices.{IsKnown, known}
use Rattle.parsing.proofs.Said.{Has, good, bad_after, values_of}
use Rattle.parsing.proofs.Rows.{bytes_eq-same}
use Rattle.clap.specs.declared.parser.matches.ValueSource.TheVariants.{CommandLine}
use Rattle.clap.specs.declared.builder.value_parser.Reading.TheVariants.{AsWritten}
use Rattle.parsing.proofs.Texts.{Kind, ends, plain, short, long, is_loose, kind, long_is, long_of_short, long_read, loose_option, loose_read, not_dashes, short_is_none, short_of_short}
use Rattle.parsing.proofs.Turns.{IsPiece, IsSome, Settled, Used, and_false, flag_is, held, misused, piece, place, settle, settled, some_as, some_first, some_kind, takes_built, unsettled, use_flag, use_value, used}

-- ---- where a parse stands

-- nothing waits for a word, before an operand or after it
abbrev pub quiet : Bool → Waiting
quiet true = positional
quiet false = idle

abbrev pub next_in : Bool → Next
next_in true = OperandsAlone
next_in false = Anything

-- a text has a first character
dash_ascii : IsAscii (45 ∷ [])
dash_ascii zero = omega arith
dash_ascii (suc i) = omega arith

has_char : (b : ℕ) (bs : Text) → IsUtf8 (45 ∷ b ∷ bs) → chars (b ∷ bs) ≡ [] → ⊥
has_char b bs u none =
    let chars_are : chars (45 ∷ b ∷ bs) ≡ 45 ∷ [] =
    chars-append (45 ∷ []) (b ∷ bs) (IsUtf8-from_ascii (45 ∷ []) dash_ascii) ∙ (λ i. chars-IsAscii (45 ∷ []) dash_ascii i ++ none i) in
    let same : 45 ∷ b ∷ bs ≡ 45 ∷ [] = sym (encodes-chars (45 ∷ b ∷ bs) u) ∙ ap encode_utf8_all chars_are ∙ encodes-IsAscii (45 ∷ []) dash_ascii in
    let long : suc (suc (length bs)) ≡ suc zero = ap (λ (t : Text). length t) same in
    omega arith

some_same : (a b : WordRead) → Some a ≡ Some b → a ≡ b
some_same a b e = cc

module _ (form : Form) where
  abbrev rules : List Rule
  rules = rules_of form.options

  -- nothing waits, or the value of an option is due
  pub data Standing : Type 0 where
    open_at : (said : Spoken) (rows : List Row) (last : Said) (after_operand ended : Bool) → Has form.options said rows → good said ≡ true → IsPiece form.options last → Standing
    due_at : (said : Spoken) (rows : List Row) (c : Choice) → Has form.options said rows → good said ≡ true → IsKnown form.options c → takes_value c ≡ true → Standing

  abbrev pub walk_of : Standing → Walk
  walk_of (open_at said rows last after_operand ended h ok is) = place (held rows (piece last)) (quiet after_operand) ended
  walk_of (due_at said rows c h ok is takes) = place (held rows (Some (option_name c, []))) (option (option_name c)) false

  abbrev pub next_of : Standing → Next
  next_of (open_at said rows last after_operand ended h ok is) = next_in ended
  next_of (due_at said rows c h ok is takes) = ValueOf c

  abbrev pub said_of : Standing → Spoken
  said_of (open_at said rows last after_operand ended h ok is) = after said last
  said_of (due_at said rows c h ok is takes) = said

  -- an option whose value never comes, since the options have ended
  abbrev pub lost : List Row → Choice → Walk
  lost rows c = place (held rows (Some (option_name c, []))) (option (option_name c)) true

  pub data Turn (at : Standing) (word : Text) : Type 0 where
    stopped : IsSome (turn_fault (shape_of form) [] (walk_of at) word)
        → ((r : WordRead) → loose_read form (next_of at) word ≡ Some r → good (after (said_of at) r.said) ≡ false) → Turn at word
    moved : turn_fault (shape_of form) [] (walk_of at) word ≡ [] → (then : Standing) (r : WordRead) → loose_read form (next_of at) word ≡ Some r
        → next_of then ≡ r.next → said_of then ≡ after (said_of at) r.said → walked rules [] (walk_of at) word ≡ walk_of then → Turn at word
    ended_early : turn_fault (shape_of form) [] (walk_of at) word ≡ [] → loose_read form (next_of at) word ≡ None
        → (rows : List Row) (c : Choice) → IsKnown form.options c → takes_value c ≡ true → walked rules [] (walk_of at) word ≡ lost rows c → Turn at word

  none_read : (at : Standing) (word : Text) → loose_read form (next_of at) word ≡ None → (r : WordRead) → loose_read form (next_of at) word ≡ Some r → good (after (said_of at) r.said) ≡ false
  none_read at word none r e = let bad : None ≡ Some r = sym none ∙ e in cc

  -- ---- a turn, by what the word is

  turned : (h : Held) (waiting : Waiting) (ended : Bool) (word : Text) (met : Held × Step) (kinds : Kinds)
      → word_met rules [] ended waiting 1 word h ≡ met → word_fault (shape_of form) [] ended waiting word h ≡ kinds
      → turn_fault (shape_of form) [] (place h waiting ended) word ≡ or_else kinds (step_fault (shape_of form) 1 met.0 met.1)
  turned h waiting ended word met kinds m f = λ i. or_else (f i) (step_fault (shape_of form) 1 (m i).0 (m i).1)

  stepped : (h : Held) (waiting : Waiting) (ended : Bool) (word : Text) (met : Held × Step) → word_met rules [] ended waiting 1 word h ≡ met
      → walked rules [] (place h waiting ended) word ≡ after_step rules word (place h waiting ended) met.0 met.1
  unfolding walked
  stepped h waiting ended word met m = λ i. after_step rules word (place h waiting ended) (m i).0 (m i).1

  -- a word that is no flag
  plain_fault : (waiting : Waiting) (word : Text) (h : Held) → long_of word ≡ None → short_of word ≡ None → bytes_eq word (45 ∷ 45 ∷ []) ≡ false
      → cond (bytes_eq word (45 ∷ 45 ∷ [])) [] (flag_word_fault rules false (long_of word) word h) ≡ []
  plain_fault waiting word h no_long no_short no_dashes =
      (λ i. cond (no_dashes i) [] (flag_word_fault rules false (no_long i) word h))
      ∙ ap (λ o. option_map_or (λ flags. bundle_fault rules false flags h) o []) no_short

  plain_met : (waiting : Waiting) (word : Text) (h : Held) → long_of word ≡ None → short_of word ≡ None → bytes_eq word (45 ∷ 45 ∷ []) ≡ false
      → cond (bytes_eq word (45 ∷ 45 ∷ [])) (h, trailing 1) (long_or_other rules waiting word (long_of word) h) ≡ plain_word rules waiting word h
  plain_met waiting word h no_long no_short no_dashes =
      (λ i. cond (no_dashes i) (h, trailing 1) (long_or_other rules waiting word (no_long i) h))
      ∙ ap (λ o. short_or_plain rules waiting word o h) no_short

  -- an operand
  operand_turn : (said : Spoken) (rows : List Row) (last : Said) (after_operand ended : Bool) (h : Has form.options said rows) (ok : good said ≡ true) (is : IsPiece form.options last) (word : Text)
      → loose_read form (next_in ended) word ≡ Some (record { said = Operand word; next = next_in ended })
      → word_met rules [] ended (quiet after_operand) 1 word (held rows (piece last)) ≡ (held rows (piece last), value)
      → word_fault (shape_of form) [] ended (quiet after_operand) word (held rows (piece last)) ≡ []
      → Turn (open_at said rows last after_operand ended h ok is) word
  operand_turn said rows last after_operand ended h ok is word loose m f = by (settle form.options said rows last h ok is)
    where
      old : Held
      old = held rows (piece last)

      kinds : turn_fault (shape_of form) [] (place (held rows (piece last)) (quiet after_operand) ended) word ≡ settle_fault rules false (held rows (piece last))
      kinds = turned (held rows (piece last)) (quiet after_operand) ended word (held rows (piece last), value) [] m f
          ∙ ap (λ b. cond b [] (settle_fault rules false (held rows (piece last)))) (and_false (is_pending operand_built (piece last)))

      or_false : (b : Bool) → (b || false) ≡ b
      or_false true = refl
      or_false false = refl

      walk_is : walked rules [] (place (held rows (piece last)) (quiet after_operand) ended) word ≡ place (held (settled_rows rules (piece last) rows) (piece (Operand word))) positional ended
      walk_is = stepped (held rows (piece last)) (quiet after_operand) ended word (held rows (piece last), value) m
          ∙ (λ i. place (pushed (codes "operands") word (cond (and_false (is_pending operand_built (piece last)) i) (held rows (piece last)) (all_settled rules (held rows (piece last))))) positional (or_false ended i))

      by : Settled form.options said rows last → Turn (open_at said rows last after_operand ended h ok is) word
      by (unsettled some bad) = stopped (some_as _ _ kinds some) (λ r e. bad_after (after said last) r.said bad)
      by (settled none fine has) = moved (kinds ∙ none) (open_at (after said last) (settled_rows rules (piece last) rows) (Operand word) true ended has fine tt)
          (record { said = Operand word; next = next_in ended }) loose refl refl walk_is

  plain_turn : (at : Standing) (word : Text) → long_of word ≡ None → short_of word ≡ None → bytes_eq word (45 ∷ 45 ∷ []) ≡ false → is_loose word ≡ true → Turn at word
  plain_turn (open_at said rows last after_operand true h ok is) word no_long no_short no_dashes fits = operand_turn said rows last after_operand true h ok is word refl refl refl
  plain_turn (open_at said rows last true false h ok is) word no_long no_short no_dashes fits =
      operand_turn said rows last true false h ok is word
      (λ i. cond (no_dashes i) (Some (record { said = Nothing; next = OperandsAlone })) (cond (fits i) (Some (record { said = Operand word; next = Anything })) (loose_option form word)))
      (plain_met positional word (held rows (piece last)) no_long no_short no_dashes) (plain_fault positional word (held rows (piece last)) no_long no_short no_dashes)
  plain_turn (open_at said rows last false false h ok is) word no_long no_short no_dashes fits =
      operand_turn said rows last false false h ok is word
      (λ i. cond (no_dashes i) (Some (record { said = Nothing; next = OperandsAlone })) (cond (fits i) (Some (record { said = Operand word; next = Anything })) (loose_option form word)))
      (plain_met idle word (held rows (piece last)) no_long no_short no_dashes) (plain_fault idle word (held rows (piece last)) no_long no_short no_dashes)
  plain_turn (due_at said rows c h ok is takes) word no_long no_short no_dashes fits =
      let old : Held = held rows (Some (option_name c, [])) in
      let new : Held = held rows (Some (option_name c, word ∷ [])) in
      let found : arg_by_id rules (option_name c) ≡ Some (valued_built (option_name c)) = is.by_id ∙ ap (λ a. Some a) (takes_built c takes) in
      let m : word_met rules [] false (option (option_name c)) 1 word old ≡ (new, next idle) =
      plain_met (option (option_name c)) word old no_long no_short no_dashes
      ∙ ap (λ o. ((option_word o (option_name c) word old).0, next (option_word o (option_name c) word old).1)) found
      ∙ ap (λ b. (new, next (cond (nat_lt (cond b 1 0) 1) (option (option_name c)) idle))) (bytes_eq-same (option_name c)) in
      moved
      (turned old (option (option_name c)) false word (new, next idle) [] m (plain_fault (option (option_name c)) word old no_long no_short no_dashes))
      (open_at said rows (Set (record { choice = c; value = Some word })) false false h ok (is, takes, (word, refl)))
      (record { said = Set (record { choice = c; value = Some word }); next = Anything })
      (ap (λ b. cond b (Some (record { said = Set (record { choice = c; value = Some word }); next = Anything })) None) fits)
      refl refl
      (stepped old (option (option_name c)) false word (new, next idle) m)

  -- the word that ends the options
  ends_turn : (at : Standing) → Turn at (45 ∷ 45 ∷ [])
  ends_turn (open_at said rows last after_operand true h ok is) = operand_turn said rows last after_operand true h ok is (45 ∷ 45 ∷ []) refl refl refl
  ends_turn (open_at said rows last true false h ok is) = moved refl (open_at said rows last true true h ok is) (record { said = Nothing; next = OperandsAlone }) refl refl refl
      (stepped (held rows (piece last)) positional false (45 ∷ 45 ∷ []) (held rows (piece last), trailing 1) refl)
  ends_turn (open_at said rows last false false h ok is) = moved refl (open_at said rows last false true h ok is) (record { said = Nothing; next = OperandsAlone }) refl refl refl
      (stepped (held rows (piece last)) idle false (45 ∷ 45 ∷ []) (held rows (piece last), trailing 1) refl)
  ends_turn (due_at said rows c h ok is takes) = ended_early refl refl rows c is takes
      (stepped (held rows (Some (option_name c, []))) (option (option_name c)) false (45 ∷ 45 ∷ []) (held rows (Some (option_name c, [])), trailing 1) refl)

  -- a word with one dash in front
  short_some : (b : ℕ) (bs : Text) (rows : List Row) (pending : Option (Text × List Text)) → IsUtf8 (45 ∷ b ∷ bs) → IsSome (bundle_fault rules false (b ∷ bs) (held rows pending))
  unfolding flags_fault
  short_some b bs rows pending u = by (chars (b ∷ bs)) refl
    where
      by : (cs : List ℕ) → chars (b ∷ bs) ≡ cs → IsSome (bundle_fault rules false (b ∷ bs) (held rows pending))
      by [] is = absurd (has_char b bs u is)
      by (x ∷ cs) is =
          let rest = drop (length (encode_utf8 x)) (b ∷ bs) in
          some_as _ (error.UnknownArgument ∷ [])
          (ap (λ (ds : List ℕ). bundle_step_fault rules false (slice_get ds 0) (b ∷ bs) 0 (held rows pending) (flags_fault rules false (length bs))) is
          ∙ ap (λ o. short_fault rules false o rest (held rows pending) (flags_fault rules false (length bs) rest 0)) (by_short form.options x))
          (some_kind error.UnknownArgument [])

  short_stops : (at : Standing) (b : ℕ) (bs : Text) (rows : List Row) (pending : Option (Text × List Text)) (waiting : Waiting) → walk_of at ≡ place (held rows pending) waiting false
      → IsUtf8 (45 ∷ b ∷ bs) → (b == 45) ≡ false
      → word_fault (shape_of form) [] false waiting (45 ∷ b ∷ bs) (held rows pending)
      ≡ cond (bytes_eq (45 ∷ b ∷ bs) (45 ∷ 45 ∷ [])) [] (flag_word_fault rules false (long_of (45 ∷ b ∷ bs)) (45 ∷ b ∷ bs) (held rows pending))
      → loose_read form (next_of at) (45 ∷ b ∷ bs) ≡ None → Turn at (45 ∷ b ∷ bs)
  short_stops at b bs rows pending waiting is u e f none =
      let word : Text = 45 ∷ b ∷ bs in
      let fault : word_fault (shape_of form) [] false waiting word (held rows pending) ≡ bundle_fault rules false (b ∷ bs) (held rows pending) =
      f ∙ (λ i. cond (not_dashes b bs e i) [] (flag_word_fault rules false (long_of_short b bs e i) word (held rows pending)))
      ∙ ap (λ o. option_map_or (λ flags. bundle_fault rules false flags (held rows pending)) o []) (short_of_short b bs e) in
      let met = word_met rules [] false waiting 1 word (held rows pending) in
      stopped
      (some_as _ _ (ap (λ w. turn_fault (shape_of form) [] w word) is ∙ turned (held rows pending) waiting false word met (bundle_fault rules false (b ∷ bs) (held rows pending)) refl fault)
      (some_first (bundle_fault rules false (b ∷ bs) (held rows pending)) (step_fault (shape_of form) 1 met.0 met.1) (short_some b bs rows pending u)))
      (none_read at word none)

  short_none : (b : ℕ) (bs : Text) → (b == 45) ≡ false → loose_read form Anything (45 ∷ b ∷ bs) ≡ None
  short_none b bs e = ap (λ t. cond t (Some (record { said = Nothing; next = OperandsAlone })) (loose_option form (45 ∷ b ∷ bs))) (not_dashes b bs e) ∙ short_is_none form b bs e

  short_turn : (at : Standing) (b : ℕ) (bs : Text) → IsUtf8 (45 ∷ b ∷ bs) → (b == 45) ≡ false → Turn at (45 ∷ b ∷ bs)
  short_turn (open_at said rows last after_operand true h ok is) b bs u e = operand_turn said rows last after_operand true h ok is (45 ∷ b ∷ bs) refl refl refl
  short_turn (open_at said rows last true false h ok is) b bs u e =
      short_stops (open_at said rows last true false h ok is) b bs rows (piece last) positional refl u e refl (short_none b bs e)
  short_turn (open_at said rows last false false h ok is) b bs u e =
      short_stops (open_at said rows last false false h ok is) b bs rows (piece last) idle refl u e refl (short_none b bs e)
  short_turn (due_at said rows c h ok is takes) b bs u e =
      short_stops (due_at said rows c h ok is takes) b bs rows (Some (option_name c, [])) (option (option_name c)) refl u e refl refl

  -- ---- a word with two dashes in front

  abbrev named_by : Text → Option Choice
  named_by t = option_named form (45 ∷ 45 ∷ (name_and_value t).0)

  -- an option's value that is due
  pub due_fault : (rows : List Row) (c : Choice) → IsKnown form.options c → takes_value c ≡ true → IsSome (settle_fault rules false (held rows (Some (option_name c, []))))
  due_fault rows c is takes = some_as _ (error.InvalidValue ∷ [])
      (ap (λ o. option_map_or (λ (a : Rule). use_fault false a [] rows) o []) (is.by_id ∙ ap (λ a. Some a) (takes_built c takes))) (some_kind error.InvalidValue [])

  long_some : (o : Option Rule) (v : Option Text) (h : Held) → IsSome (settle_fault rules false h) → IsSome (long_fault rules false o v h)
  long_some None v h some = some_kind error.UnknownArgument []
  long_some (Some a) v h some = by (takes_values a) v
    where
      by : (b : Bool) (v : Option Text) → IsSome (cond b (option_fault rules false a v h) (cond (is_some v) (error.TooManyValues ∷ []) (react_fault rules false a [] h)))
      by true (Some v) = some_first (settle_fault rules false h) (use_fault false a (v ∷ []) (all_settled rules h).rows) some
      by true None = some
      by false (Some v) = some_kind error.TooManyValues []
      by false None = some_first (settle_fault rules false h) (use_fault false a [] (all_settled rules h).rows) some

  module _ (said : Spoken) (rows : List Row) (last : Said) (after_operand : Bool) (h : Has form.options said rows) (ok : good said ≡ true) (is : IsPiece form.options last) (word : Text) where
    abbrev now : Held
    now = held rows (piece last)

    abbrev here : Standing
    here = open_at said rows last after_operand false h ok is

    abbrev long_step : Held × Outcome → Held × Step
    long_step p = after_flag rules (quiet after_operand) word p.0 p.1

    -- after a use of an option that is complete
    after_use : (s : Setting) (a : Rule) (values : List Text) (settled_too : Settled form.options said rows last)
        → (Has form.options (after said last) (settled_rows rules (piece last) rows) → good (after said last) ≡ true
        → Used form.options (after said last) (settled_rows rules (piece last) rows) s (use_fault false a values (settled_rows rules (piece last) rows)))
        → turn_fault (shape_of form) [] (walk_of here) word ≡ or_else (react_fault rules false a values now) []
        → loose_read form Anything word ≡ Some (record { said = Set s; next = Anything })
        → walked rules [] (walk_of here) word ≡ place (held (with_values (option_name s.choice) AsWritten CommandLine (values_of s.value) (without (option_name s.choice) (settled_rows rules (piece last) rows))) None) idle false
        → Turn here word
    after_use s a values (unsettled some bad) uses f loose w =
        stopped (some_as _ _ f (some_first (react_fault rules false a values now) [] (some_first (settle_fault rules false now) _ some))) (λ r e. bad_after (after said last) r.said bad)
    after_use s a values (settled none fine has) uses f loose w = by (uses has fine)
      where
        react : react_fault rules false a values now ≡ use_fault false a values (settled_rows rules (piece last) rows)
        react = ap (λ ks. or_else ks (use_fault false a values (settled_rows rules (piece last) rows))) none

        by : Used form.options (after said last) (settled_rows rules (piece last) rows) s (use_fault false a values (settled_rows rules (piece last) rows)) → Turn here word
        by (misused some bad) = stopped (some_as _ _ (f ∙ ap (λ ks. or_else ks []) react) (some_first _ [] some))
            (λ r e. let same : record { said = Set s; next = Anything } ≡ r = some_same _ r (sym loose ∙ e) in ap (λ (x : WordRead). good (after (after said last) x.said)) (sym same) ∙ bad)
        by (used nothing good_too has_too) = moved (f ∙ ap (λ ks. or_else ks []) (react ∙ nothing))
            (open_at (after (after said last) (Set s)) _ Nothing false false has_too good_too tt) (record { said = Set s; next = Anything }) loose refl refl w

    long_at : (o : Option Choice) (v : Option Text) → ((c : Choice) → o ≡ Some c → IsKnown form.options c)
        → word_fault (shape_of form) [] false (quiet after_operand) word now ≡ long_fault rules false (option_map option_built o) v now
        → word_met rules [] false (quiet after_operand) 1 word now ≡ long_step (long_met rules (option_map option_built o) v now)
        → loose_read form Anything word ≡ long_read o v → Turn here word
    long_at None v knows f m loose =
        stopped (some_as _ _ (turned now (quiet after_operand) false word _ (error.UnknownArgument ∷ []) m f) (some_kind error.UnknownArgument []))
        (none_read here word (loose ∙ nothing_named v))
      where
        nothing_named : (v : Option Text) → long_read None v ≡ None
        nothing_named None = refl
        nothing_named (Some v) = refl
    long_at (Some c) v knows f m loose = by (takes_value c) refl v f m loose
      where
        by : (b : Bool) → takes_value c ≡ b → (v : Option Text)
            → word_fault (shape_of form) [] false (quiet after_operand) word now ≡ long_fault rules false (Some (option_built c)) v now
            → word_met rules [] false (quiet after_operand) 1 word now ≡ long_step (long_met rules (Some (option_built c)) v now)
            → loose_read form Anything word ≡ long_read (Some c) v → Turn here word
        by true e None f m loose = due (settle form.options said rows last h ok is)
          where
            m_is : word_met rules [] false (quiet after_operand) 1 word now ≡ (held (settled_rows rules (piece last) rows) (Some (option_name c, [])), next (option (option_name c)))
            m_is = m ∙ ap (λ a. long_step (long_met rules (Some a) None now)) (takes_built c e)

            kinds : turn_fault (shape_of form) [] (walk_of here) word ≡ or_else (settle_fault rules false now) []
            kinds = turned now (quiet after_operand) false word _ (settle_fault rules false now) m_is (f ∙ ap (λ a. long_fault rules false (Some a) None now) (takes_built c e))

            due : Settled form.options said rows last → Turn here word
            due (unsettled some bad) = stopped (some_as _ _ kinds (some_first (settle_fault rules false now) [] some)) (λ r g. bad_after (after said last) r.said bad)
            due (settled none fine has) = moved (kinds ∙ ap (λ ks. or_else ks []) none)
                (due_at (after said last) (settled_rows rules (piece last) rows) c has fine (knows c refl) e) (record { said = Nothing; next = ValueOf c })
                (loose ∙ ap (λ b. cond b (Some (record { said = Nothing; next = ValueOf c })) (Some (record { said = Set (record { choice = c; value = None }); next = Anything }))) e)
                refl refl (stepped now (quiet after_operand) false word _ m_is)
        by true e (Some v) f m loose =
            after_use (record { choice = c; value = Some v }) (valued_built (option_name c)) (v ∷ []) (settle form.options said rows last h ok is)
            (λ has fine. use_value form.options (after said last) (settled_rows rules (piece last) rows) c v has fine (knows c refl) e)
            (turned now (quiet after_operand) false word _ _ m_is (f ∙ ap (λ a. long_fault rules false (Some a) (Some v) now) (takes_built c e)))
            (loose ∙ ap (λ b. cond b (Some (record { said = Set (record { choice = c; value = Some v }); next = Anything })) None) e)
            (stepped now (quiet after_operand) false word _ m_is)
          where
            m_is : word_met rules [] false (quiet after_operand) 1 word now
                ≡ (held (with_values (option_name c) AsWritten CommandLine (v ∷ []) (without (option_name c) (settled_rows rules (piece last) rows))) None, next idle)
            m_is = m ∙ ap (λ a. long_step (long_met rules (Some a) (Some v) now)) (takes_built c e)
        by false e None f m loose =
            after_use (record { choice = c; value = None }) (flag_built (option_name c)) [] (settle form.options said rows last h ok is)
            (λ has fine. use_flag form.options (after said last) (settled_rows rules (piece last) rows) c has fine (knows c refl) e)
            (turned now (quiet after_operand) false word _ _ m_is (f ∙ ap (λ a. long_fault rules false (Some a) None now) (flag_is c e)))
            (loose ∙ ap (λ b. cond b (Some (record { said = Nothing; next = ValueOf c })) (Some (record { said = Set (record { choice = c; value = None }); next = Anything }))) e)
            (stepped now (quiet after_operand) false word _ m_is)
          where
            m_is : word_met rules [] false (quiet after_operand) 1 word now
                ≡ (held (with_values (option_name c) AsWritten CommandLine (codes "true" ∷ []) (without (option_name c) (settled_rows rules (piece last) rows))) None, next idle)
            m_is = m ∙ ap (λ a. long_step (long_met rules (Some a) None now)) (flag_is c e)
        by false e (Some v) f m loose =
            stopped (some_as _ _ (turned now (quiet after_operand) false word _ (error.TooManyValues ∷ []) m (f ∙ ap (λ a. long_fault rules false (Some a) (Some v) now) (flag_is c e))) (some_kind error.TooManyValues []))
            (none_read here word (loose ∙ ap (λ b. cond b (Some (record { said = Set (record { choice = c; value = Some v }); next = Anything })) None) e))

  long_turn : (at : Standing) (b : ℕ) (bs : Text) → Turn at (45 ∷ 45 ∷ b ∷ bs)
  long_turn (open_at said rows last after_operand true h ok is) b bs = operand_turn said rows last after_operand true h ok is (45 ∷ 45 ∷ b ∷ bs) refl refl refl
  long_turn (open_at said rows last true false h ok is) b bs =
      let v = (name_and_value (b ∷ bs)).1 in
      let found = by_long form.options (name_and_value (b ∷ bs)).0 in
      long_at said rows last true h ok is (45 ∷ 45 ∷ b ∷ bs) (named_by (b ∷ bs)) v (λ c e. known form.options (45 ∷ 45 ∷ (name_and_value (b ∷ bs)).0) c e)
      (ap (λ o. long_fault rules false o v (held rows (piece last))) found)
      (ap (λ o. after_flag rules positional (45 ∷ 45 ∷ b ∷ bs) (long_met rules o v (held rows (piece last))).0 (long_met rules o v (held rows (piece last))).1) found)
      (long_is form b bs)
  long_turn (open_at said rows last false false h ok is) b bs =
      let v = (name_and_value (b ∷ bs)).1 in
      let found = by_long form.options (name_and_value (b ∷ bs)).0 in
      long_at said rows last false h ok is (45 ∷ 45 ∷ b ∷ bs) (named_by (b ∷ bs)) v (λ c e. known form.options (45 ∷ 45 ∷ (name_and_value (b ∷ bs)).0) c e)
      (ap (λ o. long_fault rules false o v (held rows (piece last))) found)
      (ap (λ o. after_flag rules idle (45 ∷ 45 ∷ b ∷ bs) (long_met rules o v (held rows (piece last))).0 (long_met rules o v (held rows (piece last))).1) found)
      (long_is form b bs)
  long_turn (due_at said rows c h ok is takes) b bs =
      let word : Text = 45 ∷ 45 ∷ b ∷ bs in
      let old : Held = held rows (Some (option_name c, [])) in
      let met = word_met rules [] false (option (option_name c)) 1 word old in
      let kinds = long_fault rules false (arg_by_long rules (name_and_value (b ∷ bs)).0) (name_and_value (b ∷ bs)).1 old in
      stopped
      (some_as _ _ (turned old (option (option_name c)) false word met kinds refl refl)
      (some_first kinds (step_fault (shape_of form) 1 met.0 met.1) (long_some (arg_by_long rules (name_and_value (b ∷ bs)).0) (name_and_value (b ∷ bs)).1 old (due_fault rows c is takes))))
      (none_read (due_at said rows c h ok is takes) word refl)

  -- a word's turn
  pub turn : (at : Standing) (word : Text) → IsUtf8 word → Turn at word
  turn at word u = by (kind word)
    where
      by : Kind word → Turn at word
      by (ends e) = subst (λ (w : Text). Turn at w) (sym e) (ends_turn at)
      by (plain no_long no_short no_dashes fits) = plain_turn at word no_long no_short no_dashes fits
      by (short b bs e f) = subst (λ (w : Text). Turn at w) (sym e) (short_turn at b bs (subst IsUtf8 e u) f)
      by (long b bs e) = subst (λ (w : Text). Turn at w) (sym e) (long_turn at b bs)
