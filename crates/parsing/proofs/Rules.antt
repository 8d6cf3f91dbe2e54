-- The arguments of a form's command, as they are built, and which of them a word finds.
use Rattle.std.proofs.Common.{◌≡◌, ℕ, ◌+◌, ◌==◌, Bool, true, false, cond, not, ◌||◌, ◌&&◌, List, [], ◌∷◌, map, drop, fold, codes, None, Some, is_some, option_map, refl, sym, ap, ◌∙◌, arith, true≢false}
use Rattle.std.specs.List.{list_all, list_any}
use Rattle.std.specs.Str.{bytes_eq}
use Rattle.std.proofs.lemmas.Slice.Eq.{bytes_eq-Decides}
use Rattle.clap.specs.Walk.{Rule, Text, arg_by_id, arg_by_long, arg_by_short, is_early_multiple}
use Rattle.clap.specs.Simple.{App, Shape, built, filled_from, is_buildable, is_ready, is_ready_leaf}
use Rattle.clap.specs.Faults.{is_free_app, is_simple_and_free}
use Rattle.clap.specs.declared.builder.value_parser.ValueParser.TheVariants as parser
use Rattle.command_line.specs.declared.choice.Choice.{Choice}
use Rattle.command_line.specs.declared.choice.Choice.TheVariants.{Modulus, Cycles, Stats, Map, Matrix, Index, Witness, SetAlone}
use Rattle.command_line.specs.Operands.{named}
use Rattle.command_line.specs.Forms.{Row, option_name, takes_value}
use Rattle.parsing.specs.Syntax.{bare, operand_rule, valued_rule, flag_rule, option_rule, syntax}

-- ---- what building makes of the arguments

abbrev pub operand_built : Rule
operand_built = record operand_rule {
  index = Some 1;
  range = Some (record { start_inclusive = 1; end_inclusive = 1 });
}

abbrev pub valued_built : Text → Rule
valued_built name = record (valued_rule name) {
  range = Some (record { start_inclusive = 1; end_inclusive = 1 });
}

abbrev pub flag_built : Text → Rule
flag_built name = record (flag_rule name) {
  defaults = codes "false" ∷ [];
  missing = codes "true" ∷ [];
  parser = Some parser.Bool;
  range = Some (record { start_inclusive = 0; end_inclusive = 0 });
}

abbrev pub option_built : Choice → Rule
option_built choice = cond (takes_value choice) (valued_built (option_name choice)) (flag_built (option_name choice))

abbrev pub rules_of : List Choice → List Rule
rules_of options = operand_built ∷ map option_built options

abbrev pub shape_of : Row → Shape
shape_of form = record (bare form.name).top {
  rules = rules_of form.options;
  is_built = true;
  disable_help_subcommand = true;
}

abbrev pub app_built : Row → App
app_built form = record { top = shape_of form; subs = [] }

options_filled : (options : List Choice) → filled_from 2 (map option_rule options) ≡ map option_built options
options_filled [] = refl
options_filled (c ∷ cs) = by (takes_value c) (options_filled cs)
  where
    by : (b : Bool) → filled_from 2 (map option_rule cs) ≡ map option_built cs
        → filled_from 2 (cond b (valued_rule (option_name c)) (flag_rule (option_name c)) ∷ map option_rule cs) ≡ cond b (valued_built (option_name c)) (flag_built (option_name c)) ∷ map option_built cs
    by true later = ap (λ (rs : List Rule). valued_built (option_name c) ∷ rs) later
    by false later = ap (λ (rs : List Rule). flag_built (option_name c) ∷ rs) later

pub built_is : (form : Row) → built (syntax form) ≡ app_built form
built_is form = ap (λ (rs : List Rule). record { top = record (shape_of form) { rules = operand_built ∷ rs }; subs = [] }) (options_filled form.options)

-- ---- the command is a simple one

each_option : (p : Rule → Bool) → ((name : Text) → p (valued_built name) ≡ true) → ((name : Text) → p (flag_built name) ≡ true)
    → (options : List Choice) → list_all p (map option_built options) ≡ true
each_option p valued flag [] = refl
each_option p valued flag (c ∷ cs) = by (takes_value c) (each_option p valued flag cs)
  where
    by : (b : Bool) → list_all p (map option_built cs) ≡ true → list_all p (cond b (valued_built (option_name c)) (flag_built (option_name c)) ∷ map option_built cs) ≡ true
    by true later = ap (λ b. b && list_all p (map option_built cs)) (valued (option_name c)) ∙ later
    by false later = ap (λ b. b && list_all p (map option_built cs)) (flag (option_name c)) ∙ later

raw_simple : (options : List Choice) → list_all (λ (a : Rule). a.is_simple) (map option_rule options) ≡ true
raw_simple [] = refl
raw_simple (c ∷ cs) = by (takes_value c) (raw_simple cs)
  where
    by : (b : Bool) → list_all (λ (a : Rule). a.is_simple) (map option_rule cs) ≡ true
        → list_all (λ (a : Rule). a.is_simple) (cond b (valued_rule (option_name c)) (flag_rule (option_name c)) ∷ map option_rule cs) ≡ true
    by true later = later
    by false later = later

abbrev indexed : ℕ → Rule → ℕ
indexed n a = n + cond (is_some a.index) 1 0

options_counted : (options : List Choice) (n : ℕ) → fold indexed n (map option_built options) ≡ n
options_counted [] n = refl
options_counted (c ∷ cs) n = by (takes_value c) (options_counted cs n)
  where
    none : n + 0 ≡ n
    none = omega arith

    by : (b : Bool) → fold indexed n (map option_built cs) ≡ n → fold indexed n (cond b (valued_built (option_name c)) (flag_built (option_name c)) ∷ map option_built cs) ≡ n
    by true later = ap (λ k. fold indexed k (map option_built cs)) none ∙ later
    by false later = ap (λ k. fold indexed k (map option_built cs)) none ∙ later

none_early : (n : ℕ) (options : List Choice) → list_any (is_early_multiple n) (map option_built options) ≡ false
none_early n [] = refl
none_early n (c ∷ cs) = by (takes_value c) (none_early n cs)
  where
    by : (b : Bool) → list_any (is_early_multiple n) (map option_built cs) ≡ false
        → list_any (is_early_multiple n) (cond b (valued_built (option_name c)) (flag_built (option_name c)) ∷ map option_built cs) ≡ false
    by true later = later
    by false later = later

in_order : (options : List Choice) (n : ℕ) → n ≡ 1 → list_any (is_early_multiple n) (rules_of options) ≡ false
in_order options n one =
    ap (λ k. not (k == 1) || list_any (is_early_multiple n) (map option_built options)) one ∙ none_early n options

abbrev built_simply : App → Bool
built_simply a = is_ready a.top && list_all is_ready_leaf a.subs

ready : (form : Row) → is_ready (shape_of form) ≡ true
ready form =
    ap (λ b. b && not (list_any (is_early_multiple (fold indexed 0 (rules_of form.options))) (rules_of form.options)))
    (each_option (λ (a : Rule). a.is_simple) (λ name. refl) (λ name. refl) form.options)
    ∙ ap not (in_order form.options (fold indexed 0 (rules_of form.options)) (options_counted form.options 1))

pub simple : (form : Row) → is_simple_and_free (syntax form) ≡ true
simple form =
    ap (λ b. (b && built_simply (built (syntax form))) && is_free_app (built (syntax form))) (raw_buildable (raw_simple form.options))
    ∙ ap (λ a. built_simply a && is_free_app a) (built_is form)
    ∙ ap (λ b. (b && true) && is_free_app (app_built form)) (ready form)
    ∙ ap (λ b. b && true) (each_option (λ (a : Rule). a.is_free) (λ name. refl) (λ name. refl) form.options)
  where
    raw_buildable : list_all (λ (a : Rule). a.is_simple) (map option_rule form.options) ≡ true → is_buildable (syntax form) ≡ true
    raw_buildable e = ap (λ b. b && true) e

-- ---- which argument a word finds

bytes_eq-swap : (a b : Text) → bytes_eq a b ≡ bytes_eq b a
bytes_eq-swap a b = by (bytes_eq a b) (bytes_eq b a) refl refl
  where
    by : (x y : Bool) → bytes_eq a b ≡ x → bytes_eq b a ≡ y → x ≡ y
    by true true e f = refl
    by false false e f = refl
    by true false e f = absurd (true≢false (sym ((bytes_eq-Decides b a).1 (sym ((bytes_eq-Decides a b).0 e))) ∙ f))
    by false true e f = absurd (true≢false (sym ((bytes_eq-Decides a b).1 (sym ((bytes_eq-Decides b a).0 f))) ∙ e))

or_false : (b : Bool) → (b || false) ≡ b
or_false true = refl
or_false false = refl

-- an option's long name is its name without the dashes
long_same : (c : Choice) (name : Text) → (bytes_eq (drop 2 (option_name c)) name || false) ≡ bytes_eq (45 ∷ 45 ∷ name) (option_name c)
long_same Modulus name = or_false _ ∙ bytes_eq-swap (codes "mod") name
long_same Cycles name = or_false _ ∙ bytes_eq-swap (codes "cycles") name
long_same Stats name = or_false _ ∙ bytes_eq-swap (codes "stats") name
long_same Map name = or_false _ ∙ bytes_eq-swap (codes "map") name
long_same Matrix name = or_false _ ∙ bytes_eq-swap (codes "matrix") name
long_same Index name = or_false _ ∙ bytes_eq-swap (codes "index") name
long_same Witness name = or_false _ ∙ bytes_eq-swap (codes "witness") name
long_same SetAlone name = or_false _ ∙ bytes_eq-swap (codes "set") name

pub by_long : (options : List Choice) (name : Text) → arg_by_long (rules_of options) name ≡ option_map option_built (named option_name options (45 ∷ 45 ∷ name))
by_long [] name = refl
by_long (c ∷ cs) name = by (takes_value c) refl (by_long cs name)
  where
    either : (b : Bool) (a : Rule) → (bytes_eq (drop 2 (option_name c)) name || false) ≡ b → a ≡ option_built c
        → arg_by_long (map option_built cs) name ≡ option_map option_built (named option_name cs (45 ∷ 45 ∷ name))
        → cond b (Some a) (arg_by_long (map option_built cs) name) ≡ option_map option_built (cond b (Some c) (named option_name cs (45 ∷ 45 ∷ name)))
    either true a e is later = ap (λ x. Some x) is
    either false a e is later = later

    by : (b : Bool) → takes_value c ≡ b → arg_by_long (rules_of cs) name ≡ option_map option_built (named option_name cs (45 ∷ 45 ∷ name))
        → arg_by_long (cond b (valued_built (option_name c)) (flag_built (option_name c)) ∷ map option_built cs) name
        ≡ option_map option_built (cond (bytes_eq (45 ∷ 45 ∷ name) (option_name c)) (Some c) (named option_name cs (45 ∷ 45 ∷ name)))
    by true e later =
        either (bytes_eq (drop 2 (option_name c)) name || false) (valued_built (option_name c)) refl (sym (ap (λ b. cond b (valued_built (option_name c)) (flag_built (option_name c))) e)) later
        ∙ ap (λ b. option_map option_built (cond b (Some c) (named option_name cs (45 ∷ 45 ∷ name)))) (long_same c name)
    by false e later =
        either (bytes_eq (drop 2 (option_name c)) name || false) (flag_built (option_name c)) refl (sym (ap (λ b. cond b (valued_built (option_name c)) (flag_built (option_name c))) e)) later
        ∙ ap (λ b. option_map option_built (cond b (Some c) (named option_name cs (45 ∷ 45 ∷ name)))) (long_same c name)

pub by_short : (options : List Choice) (x : ℕ) → arg_by_short (rules_of options) x ≡ None
by_short [] x = refl
by_short (c ∷ cs) x = by (takes_value c) (by_short cs x)
  where
    by : (b : Bool) → arg_by_short (rules_of cs) x ≡ None → arg_by_short (cond b (valued_built (option_name c)) (flag_built (option_name c)) ∷ map option_built cs) x ≡ None
    by true later = later
    by false later = later

pub not_operand : (c : Choice) → bytes_eq (codes "operands") (option_name c) ≡ false
not_operand Modulus = refl
not_operand Cycles = refl
not_operand Stats = refl
not_operand Map = refl
not_operand Matrix = refl
not_operand Index = refl
not_operand Witness = refl
not_operand SetAlone = refl

pub is_operand_no : (c : Choice) → bytes_eq (option_name c) (codes "operands") ≡ false
is_operand_no c = bytes_eq-swap (option_name c) (codes "operands") ∙ not_operand c

-- an option that a word names is found by its id
pub by_id : (options : List Choice) (word : Text) (c : Choice) → named option_name options word ≡ Some c → arg_by_id (rules_of options) (option_name c) ≡ Some (option_built c)
by_id options word c e = ap (λ b. cond b (Some operand_built) (arg_by_id (map option_built options) (option_name c))) (not_operand c) ∙ among options e
  where
    id_of : (d : Choice) → (option_built d).id ≡ option_name d
    id_of d = by (takes_value d)
      where
        by : (b : Bool) → (cond b (valued_built (option_name d)) (flag_built (option_name d))).id ≡ option_name d
        by true = refl
        by false = refl

    first : (d : Choice) (ds : List Choice) (b : Bool) → bytes_eq word (option_name d) ≡ b
        → (named option_name ds word ≡ Some c → arg_by_id (map option_built ds) (option_name c) ≡ Some (option_built c))
        → (bytes_eq word (option_name c) ≡ true)
        → cond b (Some d) (named option_name ds word) ≡ Some c
        → cond (bytes_eq (option_name d) (option_name c)) (Some (option_built d)) (arg_by_id (map option_built ds) (option_name c)) ≡ Some (option_built c)
    first d ds true is later name e =
        let same : d ≡ c = cc in
        ap (λ b. cond b (Some (option_built d)) (arg_by_id (map option_built ds) (option_name c))) ((bytes_eq-Decides (option_name d) (option_name c)).1 (ap option_name same))
        ∙ ap (λ x. Some (option_built x)) same
    first d ds false is later name e =
        let other : bytes_eq (option_name d) (option_name c) ≡ false = ap (λ x. bytes_eq (option_name d) x) (sym ((bytes_eq-Decides word (option_name c)).0 name)) ∙ bytes_eq-swap (option_name d) word ∙ is in
        ap (λ b. cond b (Some (option_built d)) (arg_by_id (map option_built ds) (option_name c))) other ∙ later e

    named_so : (ds : List Choice) → named option_name ds word ≡ Some c → bytes_eq word (option_name c) ≡ true
    named_so [] e = cc
    named_so (d ∷ ds) e = look (bytes_eq word (option_name d)) refl (λ f. named_so ds f) e
      where
        look : (b : Bool) → bytes_eq word (option_name d) ≡ b → (named option_name ds word ≡ Some c → bytes_eq word (option_name c) ≡ true)
            → cond b (Some d) (named option_name ds word) ≡ Some c → bytes_eq word (option_name c) ≡ true
        look true is later e = let same : d ≡ c = cc in ap (λ x. bytes_eq word (option_name x)) (sym same) ∙ is
        look false is later e = later e

    among : (ds : List Choice) → named option_name ds word ≡ Some c → arg_by_id (map option_built ds) (option_name c) ≡ Some (option_built c)
    among [] e = cc
    among (d ∷ ds) e =
        ap (λ x. cond (bytes_eq x (option_name c)) (Some (option_built d)) (arg_by_id (map option_built ds) (option_name c))) (id_of d)
        ∙ first d ds (bytes_eq word (option_name d)) refl (λ f. among ds f) (named_so (d ∷ ds) e) e
