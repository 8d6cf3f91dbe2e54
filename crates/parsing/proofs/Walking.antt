-- All words: what a parse by a form's command makes of them, and what the rule does.
use Rattle.std.specs.Str.{bytes_eq}
use Rattle.std.proofs.Common.{◌≡◌, Bool, true, false, cond, not, ◌||◌, ◌&&◌, List, [], ◌∷◌, ◌++◌, codes, fold, Option, None, Some, option_map, String, string_bytes, refl, sym, ap, ◌∙◌, subst, true≢false, append_assoc, append-nil}
use Rattle.std.specs.List.{list_all}
use Rattle.std.proofs.lemmas.List.Folds.{list_any-append, list_all-append}
use Rattle.std.proofs.lemmas.Str.{IsUtf8-string_bytes}
use Rattle.clap.specs.Walk.{Held, Row, Rule, Text, Walk, finished, settled_rows, walked}
use Rattle.clap.specs.Walk.{settled as all_settled}
use Rattle.clap.specs.Kinds.{Kinds, or_else}
use Rattle.clap.specs.Faults.{check_fault, defaults_fault, settle_fault, turn_fault, walk_fault}
use Rattle.clap.specs.declared.error.kind.ErrorKind.TheVariants as error
use Rattle.command_line.specs.declared.choice.Choice.{Choice}
use Rattle.command_line.specs.declared.choice.Setting.{Setting}
use Rattle.command_line.specs.Forms.{Row as Form, Spoken, Said, Nothing, Operand, Set, Next, WordRead, after, also, at_end, option_name, is_set, are_once, spoken, takes_value, word_first, nothing_spoken, same_choice}
use Rattle.parsing.specs.Found.{Finds}
use Rattle.parsing.proofs.Rules.{rules_of, shape_of}
use Rattle.parsing.proofs.Choices.{IsKnown, is_option}
use Rattle.parsing.proofs.Said.{Has, full, good, is_told, is_word}
use Rattle.parsing.proofs.Texts.{loose_read}
use Rattle.parsing.proofs.Turns.{IsSome, Settled, and_false, held, piece, settle, settled, some_as, some_first, some_kind, unsettled}
use Rattle.parsing.proofs.Steps.{next_in, Standing, Turn, due_at, due_fault, ended_early, lost, moved, next_of, open_at, said_of, stopped, turn, walk_of}
use Rattle.parsing.proofs.Ends.{at_end_of, check_is, finds, has_operands, no_fault}

-- what words say, where operands and values may be empty
abbrev pub scan : Form → Next → List Text → Option Spoken
scan form next [] = at_end next
scan form next (word ∷ words) = word_first (loose_read form next word) (λ then. scan form then words)

-- what was said, and then what more is said
abbrev pub onto : Spoken → Spoken → Spoken
onto said more = record { operands = said.operands ++ more.operands; settings = said.settings ++ more.settings }

onto_also : (said : Spoken) (word : Said) (more : Spoken) → onto said (also word more) ≡ onto (after said word) more
onto_also said Nothing more = refl
onto_also said (Operand word) more = ap (λ (ws : List Text). record { operands = ws; settings = said.settings ++ more.settings }) (sym (append_assoc said.operands (word ∷ []) more.operands))
onto_also said (Set s) more = ap (λ (ss : List Setting). record { operands = said.operands ++ more.operands; settings = ss }) (sym (append_assoc said.settings (s ∷ []) more.settings))

onto_nothing : (said : Spoken) → onto said nothing_spoken ≡ said
onto_nothing said = λ i. record { operands = append-nil said.operands i; settings = append-nil said.settings i }

-- ---- what is wrong at first stays wrong

pub and_left : (a b : Bool) → (a && b) ≡ true → a ≡ true
and_left true b e = refl
and_left false b e = e

pub and_right : (a b : Bool) → (a && b) ≡ true → b ≡ true
and_right true b e = e
and_right false b e = absurd (true≢false (sym e))

pub both_true : (a b : Bool) → a ≡ true → b ≡ true → (a && b) ≡ true
both_true a b e f = ap (λ x. x && b) e ∙ f

not_either : (a b : Bool) → not (a || b) ≡ true → not a ≡ true
not_either true b e = e
not_either false b e = refl

once_front : (xs ys : List Setting) → are_once (xs ++ ys) ≡ true → are_once xs ≡ true
once_front [] ys e = refl
once_front (x ∷ xs) ys e =
    both_true (not (is_set x.choice xs)) (are_once xs)
    (not_either (is_set x.choice xs) (is_set x.choice ys) (sym (ap not (list_any-append (λ (t : Setting). same_choice t.choice x.choice) xs ys)) ∙ and_left _ _ e))
    (once_front xs ys (and_right (not (is_set x.choice (xs ++ ys))) (are_once (xs ++ ys)) e))

all_front : {X : Type 0} (p : X → Bool) (xs ys : List X) → list_all p (xs ++ ys) ≡ true → list_all p xs ≡ true
all_front p xs ys e = and_left (list_all p xs) (list_all p ys) (sym (list_all-append p xs ys) ∙ e)

good_front : (a b : Spoken) → good (onto a b) ≡ true → good a ≡ true
good_front a b e =
    let full_too = and_right (are_once (a.settings ++ b.settings)) (full (onto a b)) e in
    both_true (are_once a.settings) (full a) (once_front a.settings b.settings (and_left (are_once (a.settings ++ b.settings)) (full (onto a b)) e))
    (both_true (list_all is_word a.operands) (list_all is_told a.settings)
    (all_front is_word a.operands b.operands (and_left (list_all is_word (a.operands ++ b.operands)) (list_all is_told (a.settings ++ b.settings)) full_too))
    (all_front is_told a.settings b.settings (and_right (list_all is_word (a.operands ++ b.operands)) (list_all is_told (a.settings ++ b.settings)) full_too)))

-- ---- all words

abbrev pub wanted : Spoken → Bool
wanted said = good said && has_operands said

module _ (form : Form) where
  abbrev rules : List Rule
  rules = rules_of form.options

  abbrev pub end_of : Walk → List Text → Held
  end_of w words = (fold (walked rules []) w words).held

  abbrev pub tail_fault : Held → Kinds
  tail_fault h = or_else (settle_fault rules false h) (or_else (defaults_fault (all_settled rules h).rows rules) (check_fault (shape_of form) (finished rules h) false))

  abbrev pub all_fault : Walk → List Text → Kinds
  all_fault w words = or_else (walk_fault (shape_of form) [] w words) (tail_fault (end_of w words))

  pub data Result (at : Standing form) (words : List Text) : Type 0 where
    refused : IsSome (all_fault (walk_of form at) words)
        → ((more : Spoken) → scan form (next_of form at) words ≡ Some more → wanted (onto (said_of form at) more) ≡ true → ⊥) → Result at words
    passed : all_fault (walk_of form at) words ≡ [] → (more : Spoken) → scan form (next_of form at) words ≡ Some more → wanted (onto (said_of form at) more) ≡ true
        → list_all (λ (s : Setting). is_option form.options s.choice) (onto (said_of form at) more).settings ≡ true
        → Finds (onto (said_of form at) more) (finished rules (end_of (walk_of form at) words)) → Result at words

  -- the end of the words
  last_open : (said : Spoken) (rows : List Row) (last : Said) (after_operand ended : Bool) (h : Has form.options said rows) (ok : good said ≡ true) (is : _)
      → Result (open_at said rows last after_operand ended h ok is) []
  unfolding walk_fault
  last_open said rows last after_operand ended h ok is = by (settle form.options said rows last h ok is)
    where
      ends_so : (ended : Bool) → at_end (next_in ended) ≡ Some nothing_spoken
      ends_so true = refl
      ends_so false = refl

      none_more : scan form (next_in ended) [] ≡ Some nothing_spoken
      none_more = ends_so ended

      is_more : (more : Spoken) → scan form (next_in ended) [] ≡ Some more → nothing_spoken ≡ more
      is_more more e = let both : Some nothing_spoken ≡ Some more = sym none_more ∙ e in cc

      by : Settled form.options said rows last → Result (open_at said rows last after_operand ended h ok is) []
      by (unsettled some bad) = refused (some_first (settle_fault rules false (held rows (piece last))) _ some)
          (λ more e want.
          let same : wanted (onto (after said last) more) ≡ wanted (after said last) =
          ap (λ (m : Spoken). wanted (onto (after said last) m)) (sym (is_more more e)) ∙ ap wanted (onto_nothing (after said last)) in
          absurd (true≢false (sym (and_left (good (after said last)) (has_operands (after said last)) (sym same ∙ want)) ∙ bad)))
      by (settled none fine has) = checked (has_operands (after said last)) refl
        where
          new : List Row
          new = settled_rows rules (piece last) rows

          kinds : tail_fault (held rows (piece last)) ≡ cond (not (has_operands (after said last))) (error.MissingRequiredArgument ∷ []) []
          kinds = (λ i. or_else (none i) (or_else (no_fault form.options (settled_rows rules (piece last) rows) i) (check_fault (shape_of form) (at_end_of form.options (settled_rows rules (piece last) rows)) false)))
              ∙ check_is form (after said last) (settled_rows rules (piece last) rows) has

          checked : (b : Bool) → has_operands (after said last) ≡ b → Result (open_at said rows last after_operand ended h ok is) []
          checked false e = refused (some_as _ _ (kinds ∙ ap (λ b. cond (not b) (error.MissingRequiredArgument ∷ []) []) e) (some_kind error.MissingRequiredArgument []))
              (λ more f want.
              let same : wanted (onto (after said last) more) ≡ wanted (after said last) =
              ap (λ (m : Spoken). wanted (onto (after said last) m)) (sym (is_more more f)) ∙ ap wanted (onto_nothing (after said last)) in
              absurd (true≢false (sym (and_right (good (after said last)) (has_operands (after said last)) (sym same ∙ want)) ∙ e)))
          checked true e = passed (kinds ∙ ap (λ b. cond (not b) (error.MissingRequiredArgument ∷ []) []) e) nothing_spoken none_more
              (ap wanted (onto_nothing (after said last)) ∙ both_true (good (after said last)) (has_operands (after said last)) fine e)
              (ap (λ (x : Spoken). list_all (λ (s : Setting). is_option form.options s.choice) x.settings) (onto_nothing (after said last)) ∙ has.members)
              (subst (λ (x : Spoken). Finds x (finished rules (held rows (piece last)))) (sym (onto_nothing (after said last))) (finds form.options (after said last) (settled_rows rules (piece last) rows) has e))

  last_due : (said : Spoken) (rows : List Row) (c : Choice) (h : Has form.options said rows) (ok : good said ≡ true) (is : IsKnown form.options c) (takes : takes_value c ≡ true)
      → Result (due_at said rows c h ok is takes) []
  unfolding walk_fault
  last_due said rows c h ok is takes = refused (some_first (settle_fault rules false (held rows (Some (option_name c, [])))) _ (due_fault form rows c is takes)) (λ more e want. cc)

  -- an option whose value never comes
  lost_some : (rows : List Row) (c : Choice) → IsKnown form.options c → takes_value c ≡ true → (words : List Text) → IsSome (all_fault (lost form rows c) words)
  unfolding walk_fault
  lost_some rows c is takes [] = some_first (settle_fault rules false (held rows (Some (option_name c, [])))) _ (due_fault form rows c is takes)
  lost_some rows c is takes (word ∷ words) =
      let old : Held = held rows (Some (option_name c, [])) in
      some_first _ _ (some_first (turn_fault (shape_of form) [] (lost form rows c) word) _
      (some_as _ _ (ap (λ b. cond b [] (settle_fault rules false old)) (and_false (bytes_eq (option_name c) (codes "operands")))) (due_fault form rows c is takes)))

  -- a word and those behind it
  one_more : (at : Standing form) (word : Text) (words : List Text) → Turn form at word → ((then : Standing form) → Result then words) → Result at (word ∷ words)
  unfolding walk_fault
  one_more at word words (stopped some bad) later = refused
      (some_first _ _ (some_first (turn_fault (shape_of form) [] (walk_of form at) word) _ some))
      (λ more e want. by (loose_read form (next_of form at) word) refl more e want)
    where
      by : (o : Option WordRead) → loose_read form (next_of form at) word ≡ o → (more : Spoken) → word_first o (λ then. scan form then words) ≡ Some more → wanted (onto (said_of form at) more) ≡ true → ⊥
      by None is more e want = cc
      by (Some r) is more e want = rest (scan form r.next words) e
        where
          rest : (o : Option Spoken) → option_map (also r.said) o ≡ Some more → ⊥
          rest None e = cc
          rest (Some m) e =
              let same : also r.said m ≡ more = cc in
              let all : good (onto (after (said_of form at) r.said) m) ≡ true =
              ap good (sym (onto_also (said_of form at) r.said m)) ∙ ap (λ (x : Spoken). good (onto (said_of form at) x)) same
              ∙ and_left (good (onto (said_of form at) more)) (has_operands (onto (said_of form at) more)) want in
              absurd (true≢false (sym (good_front (after (said_of form at) r.said) m all) ∙ bad r is))
  one_more at word words (ended_early none read rows c is takes w) later = refused
      (some_as _ _ (λ i. or_else (or_else (none i) (walk_fault (shape_of form) [] (w i) words)) (tail_fault (end_of (w i) words))) (lost_some rows c is takes words))
      (λ more e want. let bad : None ≡ Some more = sym (ap (λ o. word_first o (λ then. scan form then words)) read) ∙ e in cc)
  one_more at word words (moved none then r read next said w) later = by (later then)
    where
      same_fault : all_fault (walk_of form at) (word ∷ words) ≡ all_fault (walk_of form then) words
      same_fault = λ i. or_else (or_else (none i) (walk_fault (shape_of form) [] (w i) words)) (tail_fault (end_of (w i) words))

      scanned : scan form (next_of form at) (word ∷ words) ≡ option_map (also r.said) (scan form (next_of form then) words)
      scanned = ap (λ o. word_first o (λ then. scan form then words)) read ∙ ap (λ n. option_map (also r.said) (scan form n words)) (sym next)

      said_so : (m : Spoken) → onto (said_of form at) (also r.said m) ≡ onto (said_of form then) m
      said_so m = onto_also (said_of form at) r.said m ∙ ap (λ (x : Spoken). onto x m) (sym said)

      by : Result then words → Result at (word ∷ words)
      by (refused some no_more) = refused (some_as _ _ same_fault some) (λ more e want. rest (scan form (next_of form then) words) refl more (sym scanned ∙ e) want)
        where
          rest : (o : Option Spoken) → scan form (next_of form then) words ≡ o → (more : Spoken) → option_map (also r.said) o ≡ Some more → wanted (onto (said_of form at) more) ≡ true → ⊥
          rest None is more e want = cc
          rest (Some m) is more e want =
              let same : also r.said m ≡ more = cc in
              no_more m is (ap wanted (sym (said_so m)) ∙ ap (λ (x : Spoken). wanted (onto (said_of form at) x)) same ∙ want)
      by (passed nothing m is want members found) = passed (same_fault ∙ nothing) (also r.said m) (scanned ∙ ap (option_map (also r.said)) is)
          (ap wanted (said_so m) ∙ want)
          (ap (λ (x : Spoken). list_all (λ (s : Setting). is_option form.options s.choice) x.settings) (said_so m) ∙ members)
          (subst (λ (x : Spoken). Finds x (finished rules (end_of (walk_of form at) (word ∷ words)))) (sym (said_so m))
          (subst (λ (v : Walk). Finds (onto (said_of form then) m) (finished rules (end_of v words))) (sym w) found))

  pub all_words : {A : Type 0} (at : Standing form) (words : List (String A)) → Result at (spoken words)
  all_words (open_at said rows last after_operand ended h ok is) [] = last_open said rows last after_operand ended h ok is
  all_words (due_at said rows c h ok is takes) [] = last_due said rows c h ok is takes
  all_words at (word ∷ words) = one_more at (string_bytes word) (spoken words) (turn form at (string_bytes word) (IsUtf8-string_bytes word)) (λ then. all_words then words)
