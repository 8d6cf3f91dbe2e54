-- Options in the order of the table ask for what they ask for in the order of the words.
use Rattle.std.proofs.Common.{◌≡◌, Bool, true, false, cond, not, ◌||◌, ◌&&◌, List, [], ◌∷◌, Option, None, Some, refl, sym, ap, ◌∙◌, subst, true≢false}
use Rattle.std.specs.List.{list_all, cons_option}
use Rattle.command_line.specs.declared.choice.Choice.{Choice}
use Rattle.command_line.specs.declared.choice.Setting.{Setting}
use Rattle.command_line.specs.Forms.{Row as Form, Spoken, are_once, is_set, same_choice}
use Rattle.command_line.specs.Words.{request_of}
use Rattle.command_line.proofs.Orders.{SaySame, request_same, same_cons, same_is, same_refl, same_swap, same_trans, same_turned}
use Rattle.parsing.specs.Found.{in_table, setting_of, settings_of}
use Rattle.parsing.specs.Syntax.{IsListed}
use Rattle.parsing.proofs.Choices.{is_option}
use Rattle.parsing.proofs.Reading.{of_table}
use Rattle.parsing.proofs.Walking.{and_left, and_right}

-- no option stands twice
abbrev are_distinct : List Choice → Bool
are_distinct [] = true
are_distinct (c ∷ cs) = not (is_option cs c) && are_distinct cs

or_left : (a b : Bool) → (a || b) ≡ false → a ≡ false
or_left true b e = e
or_left false b e = refl

or_right : (a b : Bool) → (a || b) ≡ false → b ≡ false
or_right true b e = absurd (true≢false e)
or_right false b e = e

not_true : (b : Bool) → not b ≡ true → b ≡ false
not_true true e = absurd (true≢false (sym e))
not_true false e = refl

none_set : (options : List Choice) → settings_of options [] ≡ []
none_set [] = refl
none_set (c ∷ cs) = none_set cs

-- a setting of no option of the list leaves it as it was
unaffected : (options : List Choice) (s : Setting) (ss : List Setting) → is_option options s.choice ≡ false → settings_of options (s ∷ ss) ≡ settings_of options ss
unaffected [] s ss e = refl
unaffected (d ∷ ds) s ss e =
    let here : same_choice s.choice d ≡ false = same_turned s.choice d ∙ or_left (same_choice d s.choice) (is_option ds s.choice) e in
    ap (λ b. cons_option (cond b (Some s) (setting_of ss d)) (settings_of ds (s ∷ ss))) here
    ∙ ap (cons_option (setting_of ss d)) (unaffected ds s ss (or_right (same_choice d s.choice) (is_option ds s.choice) e))

unset : (c : Choice) (ss : List Setting) → is_set c ss ≡ false → setting_of ss c ≡ None
unset c [] e = refl
unset c (s ∷ ss) e =
    ap (λ b. cond b (Some s) (setting_of ss c)) (or_left (same_choice s.choice c) (is_set c ss) e) ∙ unset c ss (or_right (same_choice s.choice c) (is_set c ss) e)

same_as : (a b : List Setting) → a ≡ b → SaySame a b
same_as a b e = subst (SaySame a) e (same_refl a)

inserted : (options : List Choice) (s : Setting) (ss : List Setting) → is_set s.choice ss ≡ false → is_option options s.choice ≡ true → are_distinct options ≡ true
    → SaySame (settings_of options (s ∷ ss)) (s ∷ settings_of options ss)
inserted [] s ss absent member distinct = absurd (true≢false (sym member))
inserted (d ∷ ds) s ss absent member distinct = by (same_choice s.choice d) refl (λ m. inserted ds s ss absent m (and_right (not (is_option ds d)) (are_distinct ds) distinct))
  where
    later : (o : Option Setting) → SaySame (settings_of ds (s ∷ ss)) (s ∷ settings_of ds ss) → SaySame (cons_option o (settings_of ds (s ∷ ss))) (s ∷ cons_option o (settings_of ds ss))
    later None h = h
    later (Some t) h = same_trans (t ∷ settings_of ds (s ∷ ss)) (t ∷ s ∷ settings_of ds ss) (s ∷ t ∷ settings_of ds ss)
        (same_cons t (settings_of ds (s ∷ ss)) (s ∷ settings_of ds ss) h) (same_swap t s (settings_of ds ss))

    by : (b : Bool) → same_choice s.choice d ≡ b → (is_option ds s.choice ≡ true → SaySame (settings_of ds (s ∷ ss)) (s ∷ settings_of ds ss))
        → SaySame (settings_of (d ∷ ds) (s ∷ ss)) (s ∷ settings_of (d ∷ ds) ss)
    by true e rest =
        let is : s.choice ≡ d = same_is s.choice d e in
        let apart : is_option ds s.choice ≡ false = ap (is_option ds) is ∙ not_true (is_option ds d) (and_left (not (is_option ds d)) (are_distinct ds) distinct) in
        let none : setting_of ss d ≡ None = ap (setting_of ss) (sym is) ∙ unset s.choice ss absent in
        same_as (settings_of (d ∷ ds) (s ∷ ss)) (s ∷ settings_of (d ∷ ds) ss)
        (ap (λ b. cons_option (cond b (Some s) (setting_of ss d)) (settings_of ds (s ∷ ss))) e
        ∙ ap (λ (xs : List Setting). s ∷ xs) (unaffected ds s ss apart)
        ∙ sym (ap (λ o. s ∷ cons_option o (settings_of ds ss)) none))
    by false e rest =
        let inner : is_option ds s.choice ≡ true =
        ap (λ b. b || is_option ds s.choice) (sym (same_turned d s.choice ∙ e)) ∙ member in
        subst (λ (xs : List Setting). SaySame xs (s ∷ settings_of (d ∷ ds) ss))
        (sym (ap (λ b. cons_option (cond b (Some s) (setting_of ss d)) (settings_of ds (s ∷ ss))) e))
        (later (setting_of ss d) (rest inner))

in_order : (options : List Choice) (ss : List Setting) → are_distinct options ≡ true → are_once ss ≡ true → list_all (λ (s : Setting). is_option options s.choice) ss ≡ true
    → SaySame (settings_of options ss) ss
in_order options [] distinct once members = same_as (settings_of options []) [] (none_set options)
in_order options (s ∷ ss) distinct once members =
    same_trans (settings_of options (s ∷ ss)) (s ∷ settings_of options ss) (s ∷ ss)
    (inserted options s ss (not_true (is_set s.choice ss) (and_left (not (is_set s.choice ss)) (are_once ss) once))
    (and_left (is_option options s.choice) (list_all (λ (t : Setting). is_option options t.choice) ss) members) distinct)
    (same_cons s (settings_of options ss) ss
    (in_order options ss distinct (and_right (not (is_set s.choice ss)) (are_once ss) once)
    (and_right (is_option options s.choice) (list_all (λ (t : Setting). is_option options t.choice) ss) members)))

pub same_request : (form : Form) (said : Spoken) → IsListed form → are_once said.settings ≡ true → list_all (λ (s : Setting). is_option form.options s.choice) said.settings ≡ true
    → request_of form (in_table form.options said) ≡ request_of form said
same_request form said listed once members =
    request_same form said.operands (settings_of form.options said.settings) said.settings
    (in_order form.options said.settings (of_table (λ (f : Form). are_distinct f.options) refl form listed) once members)
