-- Options, told apart by their names.
use Rattle.std.proofs.Common.{◌≡◌, Bool, true, false, cond, ◌||◌, List, [], ◌∷◌, Option, Some, refl, sym, ap, ◌∙◌, true≢false}
use Rattle.std.specs.List.{list_any}
use Rattle.std.specs.Str.{bytes_eq}
use Rattle.std.proofs.lemmas.Slice.Eq.{bytes_eq-Decides}
use Rattle.clap.specs.Walk.{Text, arg_by_id}
use Rattle.command_line.specs.declared.choice.Choice.{Choice}
use Rattle.command_line.specs.declared.choice.Choice.TheVariants.{Modulus, Cycles, Stats, Map, Matrix, Index, Witness, SetAlone}
use Rattle.command_line.specs.Operands.{named}
use Rattle.command_line.specs.Forms.{option_name, same_choice}
use Rattle.command_line.proofs.Orders.{same_self, same_is}
use Rattle.parsing.proofs.Rules.{by_id, option_built, rules_of}

-- the option that has a name
choice_of : Text → Option Choice
choice_of name = named option_name (Modulus ∷ Cycles ∷ Stats ∷ Map ∷ Matrix ∷ Index ∷ Witness ∷ SetAlone ∷ []) name

choice_of_name : (c : Choice) → choice_of (option_name c) ≡ Some c
unfolding choice_of
choice_of_name Modulus = refl
choice_of_name Cycles = refl
choice_of_name Stats = refl
choice_of_name Map = refl
choice_of_name Matrix = refl
choice_of_name Index = refl
choice_of_name Witness = refl
choice_of_name SetAlone = refl

one_name : (d c : Choice) → option_name d ≡ option_name c → d ≡ c
one_name d c e = let both : Some d ≡ Some c = sym (choice_of_name d) ∙ ap choice_of e ∙ choice_of_name c in cc

pub same_name : (d c : Choice) → bytes_eq (option_name d) (option_name c) ≡ same_choice d c
same_name d c = by (bytes_eq (option_name d) (option_name c)) (same_choice d c) refl refl
  where
    by : (x y : Bool) → bytes_eq (option_name d) (option_name c) ≡ x → same_choice d c ≡ y → x ≡ y
    by true true e f = refl
    by false false e f = refl
    by true false e f =
        let is : d ≡ c = one_name d c ((bytes_eq-Decides (option_name d) (option_name c)).0 e) in
        absurd (true≢false (sym (ap (λ x. same_choice d x) (sym is) ∙ same_self d) ∙ f))
    by false true e f =
        let is : d ≡ c = same_is d c f in
        absurd (true≢false (sym ((bytes_eq-Decides (option_name d) (option_name c)).1 (ap option_name is)) ∙ e))

-- ---- the options of a form

abbrev pub is_option : List Choice → Choice → Bool
is_option options c = list_any (λ d. same_choice d c) options

-- an option of a form, which its id finds among the arguments
pub record IsKnown (options : List Choice) (c : Choice) : Type 0 where
  pub by_id : arg_by_id (rules_of options) (option_name c) ≡ Some (option_built c)
  pub member : is_option options c ≡ true

named_is_option : (options : List Choice) (word : Text) (c : Choice) → named option_name options word ≡ Some c → is_option options c ≡ true
named_is_option [] word c e = cc
named_is_option (d ∷ ds) word c e = by (bytes_eq word (option_name d)) e (λ f. named_is_option ds word c f)
  where
    or_right : (a b : Bool) → b ≡ true → (a || b) ≡ true
    or_right true b e = refl
    or_right false b e = e

    by : (b : Bool) → cond b (Some d) (named option_name ds word) ≡ Some c → (named option_name ds word ≡ Some c → is_option ds c ≡ true) → (same_choice d c || is_option ds c) ≡ true
    by true e later = let is : d ≡ c = cc in ap (λ b. b || is_option ds c) (ap (λ x. same_choice d x) (sym is) ∙ same_self d)
    by false e later = or_right (same_choice d c) (is_option ds c) (later e)

pub known : (options : List Choice) (word : Text) (c : Choice) → named option_name options word ≡ Some c → IsKnown options c
known options word c e = record { by_id = by_id options word c e; member = named_is_option options word c e }
