-- The end of a parse: options that were not set, and what is found.
use Rattle.std.proofs.Common.{◌≡◌, Bool, true, false, cond, not, ◌||◌, ◌&&◌, List, [], ◌∷◌, codes, fold, map, Option, None, Some, is_some, option_map, refl, sym, ap, ◌∙◌, subst, true≢false, inl, inr}
use Rattle.std.specs.Prelude.{slice_get}
use Rattle.std.specs.Option.{option_map_or, option_and_then}
use Rattle.std.specs.List.{list_any}
use Rattle.std.specs.Str.{bytes_eq}
use Rattle.std.proofs.lemmas.Slice.Eq.{bytes_eq-Decides}
use Rattle.clap.specs.Facts.{explicit_source}
use Rattle.clap.specs.Values.{read_as}
use Rattle.clap.specs.Takes.{is_given}
use Rattle.clap.specs.Walk.{Row, Rule, Text, first_of, has_row, one_of, row_text, with_default, with_values}
use Rattle.clap.specs.Kinds.{or_else}
use Rattle.clap.specs.Faults.{check_fault, default_fault, defaults_fault, given_default_fault}
use Rattle.clap.specs.declared.error.kind.ErrorKind.TheVariants as error
use Rattle.clap.specs.declared.parser.matches.ValueSource.TheVariants.{DefaultValue}
use Rattle.clap.specs.declared.builder.value_parser.Reading.TheVariants.{AsWritten}
use Rattle.command_line.specs.declared.choice.Choice.{Choice}
use Rattle.command_line.specs.declared.choice.Setting.{Setting}
use Rattle.command_line.specs.Forms.{Row as Form, Spoken, option_name, takes_value}
use Rattle.parsing.specs.Found.{Finds, IsFlag, setting_of, valued}
use Rattle.parsing.proofs.Rules.{operand_built, flag_built, is_operand_no, option_built, rules_of, shape_of, valued_built}
use Rattle.command_line.proofs.Orders.{same_is}
use Rattle.parsing.proofs.Choices.{same_name}
use Rattle.parsing.proofs.Rows.{has_row-row_at, joined, row_at, row_at-other, row_at-same}
use Rattle.parsing.proofs.Said.{Has, IsFit, operand_row, setting_row, values_of}
use Rattle.parsing.proofs.Turns.{takes_built, flag_is}

abbrev plain_setting : Choice → Option Text → Setting
plain_setting c v = record { choice = c; value = v }

abbrev default_row : Text → Row
default_row id = record { id = id; values = codes "false" ∷ []; count = None; source = Some DefaultValue; reading = AsWritten }

-- the row of an id before and after defaults: it stays, or comes where an option without a value was not set
data Kept (id : Text) (before after : Option Row) : Type 0 where
  kept : after ≡ before → Kept id before after
  added : (d : Choice) → takes_value d ≡ false → option_name d ≡ id → before ≡ None → after ≡ Some (default_row id) → Kept id before after

one_default : (c : Choice) (rows : List Row) (id : Text) → Kept id (row_at id rows) (row_at id (with_default rows (option_built c)))
one_default c rows id = by (takes_value c) refl
  where
    same : (b : Bool) → cond b rows rows ≡ rows
    same true = refl
    same false = refl

    flagged : takes_value c ≡ false → (b : Bool) → has_row (option_name c) rows ≡ b → (x : Bool) → bytes_eq (option_name c) id ≡ x
        → Kept id (row_at id rows) (row_at id (cond b rows (with_values (option_name c) AsWritten DefaultValue (codes "false" ∷ []) rows)))
    flagged e true f x g = kept refl
    flagged e false f false g = kept (row_at-other id (option_name c) AsWritten DefaultValue (codes "false" ∷ []) rows g)
    flagged e false f true g =
        let is : option_name c ≡ id = (bytes_eq-Decides (option_name c) id).0 g in
        let none : row_at (option_name c) rows ≡ None = not_some (row_at (option_name c) rows) (sym (has_row-row_at (option_name c) rows) ∙ f) in
        added c e is (ap (λ t. row_at t rows) (sym is) ∙ none)
        (ap (λ t. row_at t (with_values (option_name c) AsWritten DefaultValue (codes "false" ∷ []) rows)) (sym is)
        ∙ row_at-same (option_name c) AsWritten DefaultValue (codes "false" ∷ []) rows
        ∙ ap (λ o. Some (joined (option_name c) AsWritten DefaultValue (codes "false" ∷ []) o)) none
        ∙ ap (λ t. Some (default_row t)) is)
      where
        not_some : {X : Type 0} (o : Option X) → is_some o ≡ false → o ≡ None
        not_some None e = refl
        not_some (Some x) e = absurd (true≢false e)

    by : (b : Bool) → takes_value c ≡ b → Kept id (row_at id rows) (row_at id (with_default rows (option_built c)))
    by true e = kept (ap (λ a. row_at id (with_default rows a)) (takes_built c e) ∙ ap (row_at id) (same (has_row (option_name c) rows)))
    by false e = subst (λ (a : Rule). Kept id (row_at id rows) (row_at id (with_default rows a))) (sym (flag_is c e)) (flagged e (has_row (option_name c) rows) refl (bytes_eq (option_name c) id) refl)

both_kept : (id : Text) (a b c : Option Row) → Kept id a b → Kept id b c → Kept id a c
both_kept id a b c (kept e) (kept f) = kept (f ∙ e)
both_kept id a b c (kept e) (added d flag is none some) = added d flag is (sym e ∙ none) some
both_kept id a b c (added d flag is none some) (kept f) = added d flag is none (f ∙ some)
both_kept id a b c (added d flag is none some) (added d2 flag2 is2 none2 some2) = let bad : None ≡ Some (default_row id) = sym none2 ∙ some in cc

all_defaults : (options : List Choice) (rows : List Row) (id : Text) → Kept id (row_at id rows) (row_at id (fold with_default rows (map option_built options)))
all_defaults [] rows id = kept refl
all_defaults (c ∷ cs) rows id =
    both_kept id (row_at id rows) (row_at id (with_default rows (option_built c))) (row_at id (fold with_default (with_default rows (option_built c)) (map option_built cs)))
    (one_default c rows id) (all_defaults cs (with_default rows (option_built c)) id)

-- no default is refused
no_default_fault : (c : Choice) (rows : List Row) → default_fault rows (option_built c) ≡ []
no_default_fault c rows = by (takes_value c) (has_row (option_name c) rows) refl
  where
    by : (b x : Bool) → has_row (option_name c) rows ≡ x → default_fault rows (cond b (valued_built (option_name c)) (flag_built (option_name c))) ≡ []
    by true true e = ap (λ y. cond (y || true) [] (given_default_fault (valued_built (option_name c)) [])) e
    by true false e = ap (λ y. cond (y || true) [] (given_default_fault (valued_built (option_name c)) [])) e
    by false true e = ap (λ y. cond (y || false) [] (given_default_fault (flag_built (option_name c)) (codes "false" ∷ []))) e
    by false false e = ap (λ y. cond (y || false) [] (given_default_fault (flag_built (option_name c)) (codes "false" ∷ []))) e

defaults_pass : (options : List Choice) (rows : List Row) → defaults_fault rows (map option_built options) ≡ []
unfolding defaults_fault
defaults_pass [] rows = refl
defaults_pass (c ∷ cs) rows = ap (λ ks. or_else ks (defaults_fault (with_default rows (option_built c)) (map option_built cs))) (no_default_fault c rows) ∙ defaults_pass cs (with_default rows (option_built c))

-- operands have no default
operands_pass : (rows : List Row) → with_default rows operand_built ≡ rows
operands_pass rows = by (has_row (codes "operands") rows)
  where
    by : (b : Bool) → cond b rows rows ≡ rows
    by true = refl
    by false = refl

pub no_fault : (options : List Choice) (rows : List Row) → defaults_fault rows (rules_of options) ≡ []
unfolding defaults_fault
no_fault options rows =
    ap (λ ks. or_else ks (defaults_fault (with_default rows operand_built) (map option_built options))) (by (has_row (codes "operands") rows))
    ∙ defaults_pass options (with_default rows operand_built)
  where
    by : (b : Bool) → cond (b || true) [] (given_default_fault operand_built []) ≡ []
    by true = refl
    by false = refl

-- ---- what is found

abbrev pub at_end_of : List Choice → List Row → List Row
at_end_of options rows = fold with_default rows (rules_of options)

end_kept : (options : List Choice) (rows : List Row) (id : Text) → Kept id (row_at id rows) (row_at id (at_end_of options rows))
end_kept options rows id =
    subst (λ (rs : List Row). Kept id (row_at id rows) (row_at id (fold with_default rs (map option_built options)))) (sym (operands_pass rows)) (all_defaults options rows id)

operands_kept : (options : List Choice) (rows : List Row) → row_at (codes "operands") (at_end_of options rows) ≡ row_at (codes "operands") rows
operands_kept options rows = by (end_kept options rows (codes "operands"))
  where
    by : Kept (codes "operands") (row_at (codes "operands") rows) (row_at (codes "operands") (at_end_of options rows)) → row_at (codes "operands") (at_end_of options rows) ≡ row_at (codes "operands") rows
    by (kept e) = e
    by (added d flag is none some) = absurd (true≢false (sym ((bytes_eq-Decides (option_name d) (codes "operands")).1 is) ∙ is_operand_no d))

abbrev pub has_operands : Spoken → Bool
has_operands said = is_some (operand_row said.operands)

-- operands are wanted, and nothing else
pub check_is : (form : Form) (said : Spoken) (rows : List Row) → Has form.options said rows
    → check_fault (shape_of form) (at_end_of form.options rows) false ≡ cond (not (has_operands said)) (error.MissingRequiredArgument ∷ []) []
check_is form said rows h =
    ap (λ b. cond b (error.MissingRequiredArgument ∷ []) [])
    ((λ i. not (given i) || no_more form.options i) ∙ or_false (not (has_operands said)))
  where
    given_row : (ws : List Text) → option_map_or (λ (r : Row). explicit_source r.source) (operand_row ws) false ≡ is_some (operand_row ws)
    given_row [] = refl
    given_row (w ∷ ws) = refl

    given : is_given (codes "operands") (at_end_of form.options rows) ≡ has_operands said
    given = ap (λ o. option_map_or (λ (r : Row). explicit_source r.source) o false) (operands_kept form.options rows ∙ h.operands) ∙ given_row said.operands

    or_false : (b : Bool) → (b || false) ≡ b
    or_false true = refl
    or_false false = refl

    no_more : (options : List Choice) → list_any (λ (a : Rule). a.required && not (is_given a.id (at_end_of form.options rows))) (map option_built options) ≡ false
    no_more [] = refl
    no_more (c ∷ cs) = by (takes_value c) (no_more cs)
      where
        by : (b : Bool) → list_any (λ (a : Rule). a.required && not (is_given a.id (at_end_of form.options rows))) (map option_built cs) ≡ false
            → list_any (λ (a : Rule). a.required && not (is_given a.id (at_end_of form.options rows))) (cond b (valued_built (option_name c)) (flag_built (option_name c)) ∷ map option_built cs) ≡ false
        by true later = later
        by false later = later

pub finds : (options : List Choice) (said : Spoken) (rows : List Row) → Has options said rows → has_operands said ≡ true → Finds said (at_end_of options rows)
finds options said rows h some = record {
  operands = ap (option_map (λ (r : Row). r.values)) (operands_kept options rows ∙ h.operands) ∙ words said.operands some;
  values = λ c takes. values c takes (setting_of said.settings c) refl (h.fit c) (end_kept options rows (option_name c));
  flags = λ c flag. flags c flag (setting_of said.settings c) (h.fit c);
  told = λ c flag. told c flag (setting_of said.settings c) (h.settings c) (h.fit c) (end_kept options rows (option_name c));
}
  where
    words : (ws : List Text) → is_some (operand_row ws) ≡ true → option_map (λ (r : Row). r.values) (operand_row ws) ≡ Some ws
    words [] e = absurd (true≢false (sym e))
    words (w ∷ ws) e = refl

    value_is : (c : Choice) → takes_value c ≡ true → (o : Option Setting) → IsFit c o
        → o ≡ option_map (valued c) (option_and_then (λ (r : Row). slice_get r.values 0) (option_map setting_row o))
    value_is c takes None fit = refl
    value_is c takes (Some s) fit = by s.choice s.value fit.0 fit.1
      where
        by : (d : Choice) (v : Option Text) → d ≡ c → takes_value c ≡ is_some v
            → Some (plain_setting d v) ≡ option_map (valued c) (slice_get (values_of v) 0)
        by d None is f = absurd (true≢false (sym takes ∙ f))
        by d (Some v) is f = ap (λ (x : Choice). Some (valued x v)) is

    values : (c : Choice) → takes_value c ≡ true → (o : Option Setting) → setting_of said.settings c ≡ o → IsFit c (setting_of said.settings c)
        → Kept (option_name c) (row_at (option_name c) rows) (row_at (option_name c) (at_end_of options rows))
        → setting_of said.settings c ≡ option_map (valued c) (first_of (option_name c) (at_end_of options rows))
    values c takes o is fit (kept e) =
        value_is c takes (setting_of said.settings c) fit
        ∙ ap (λ x. option_map (valued c) (option_and_then (λ (r : Row). slice_get r.values 0) x)) (sym (e ∙ h.settings c))
    values c takes o is fit (added d flag same none some) =
        let one : d ≡ c = same_is d c (sym (same_name d c) ∙ (bytes_eq-Decides (option_name d) (option_name c)).1 same) in
        absurd (true≢false (sym takes ∙ ap takes_value (sym one) ∙ flag))

    flags : (c : Choice) → takes_value c ≡ false → (o : Option Setting) → IsFit c o → o ≡ option_map (λ s. plain_setting c None) o
    flags c flag None fit = refl
    flags c flag (Some s) fit = by s.choice s.value fit.0 fit.1
      where
        by : (d : Choice) (v : Option Text) → d ≡ c → takes_value c ≡ is_some v → Some (plain_setting d v) ≡ Some (plain_setting c None)
        by d None is f = ap (λ (x : Choice). Some (plain_setting x None)) is
        by d (Some v) is f = absurd (true≢false (sym f ∙ flag))

    told : (c : Choice) → takes_value c ≡ false → (o : Option Setting) → row_at (option_name c) rows ≡ option_map setting_row o → IsFit c o
        → Kept (option_name c) (row_at (option_name c) rows) (row_at (option_name c) (at_end_of options rows)) → IsFlag (is_some o) (one_of (option_name c) (at_end_of options rows))
    told c flag None before fit (kept e) = inl (ap (option_and_then row_text) (e ∙ before))
    told c flag None before fit (added d f same none some) = inr (ap (option_and_then row_text) some)
    told c flag (Some s) before fit (kept e) = ap (option_and_then row_text) (e ∙ before) ∙ by s.value fit.1
      where
        by : (v : Option Text) → takes_value c ≡ is_some v → option_map (read_as AsWritten) (slice_get (values_of v) 0) ≡ Some (codes "true")
        by None f = refl
        by (Some v) f = absurd (true≢false (sym f ∙ flag))
    told c flag (Some s) before fit (added d f same none some) = let bad : None ≡ Some (setting_row s) = sym none ∙ before in cc
