-- Options that change places.
use Rattle.std.proofs.Common.{◌≡◌, ℕ, suc, Bool, true, false, cond, ◌||◌, ◌&&◌, not, List, [], ◌∷◌, ◌++◌, Option, None, Some, refl, sym, ap, ◌∙◌, true≢false}
use Rattle.std.specs.Prelude.{nat_le, length}
use Rattle.std.specs.Option.{option_map, option_and_then}
use Rattle.command_line.specs.declared.choice.Choice.{Choice}
use Rattle.command_line.specs.declared.choice.Choice.TheVariants.{Modulus, Cycles, Stats, Map, Matrix, Index, Witness, SetAlone}
use Rattle.command_line.specs.declared.choice.Setting.{Setting}
use Rattle.command_line.specs.Forms.{Anything, Row, Spoken, form_named, stands_alone, same_choice, is_set, setting_of, are_once, has_alone, agree, of_map, form_with, are_operands, words_read}
use Rattle.command_line.specs.Words.{modulus_by, modulus_in, with_modulus, options_in, with_options, chosen_of, request_by, request_of, formed, command_with, command_of}
use Rattle.command_line.specs.Laws.{AreWhole}
use Rattle.command_line.proofs.Wholes.{onto, behind_whole}

-- lists of options that say the same
pub record SaySame (a b : List Setting) : Type 0 where
  pub set : (choice : Choice) → is_set choice a ≡ is_set choice b
  pub once : are_once a ≡ are_once b
  pub alone : has_alone a ≡ has_alone b
  pub many : length a ≡ length b
  pub first : are_once a ≡ true → (choice : Choice) → setting_of a choice ≡ setting_of b choice

pub same_refl : (a : List Setting) → SaySame a a
same_refl a = record { set = λ choice. refl; once = refl; alone = refl; many = refl; first = λ e choice. refl }

pub same_trans : (a b c : List Setting) → SaySame a b → SaySame b c → SaySame a c
same_trans a b c p q = record { set = λ choice. p.set choice ∙ q.set choice; once = p.once ∙ q.once; alone = p.alone ∙ q.alone; many = p.many ∙ q.many; first = λ e choice. p.first e choice ∙ q.first (sym p.once ∙ e) choice }

and_right : (x y : Bool) → (x && y) ≡ true → y ≡ true
and_right true y e = e
and_right false y e = cc

pub same_cons : (s : Setting) (a b : List Setting) → SaySame a b → SaySame (s ∷ a) (s ∷ b)
same_cons s a b p = record {
  set = λ choice. ap (λ x. same_choice s.choice choice || x) (p.set choice);
  once = ap (λ x. not x && are_once a) (p.set s.choice) ∙ ap (λ x. not (is_set s.choice b) && x) p.once;
  alone = ap (λ x. stands_alone s.choice || x) p.alone;
  many = ap suc p.many;
  first = λ e choice. ap (cond (same_choice s.choice choice) (Some s)) (p.first (and_right (not (is_set s.choice a)) (are_once a) e) choice);
}

or_swap : (x y z : Bool) → (x || (y || z)) ≡ (y || (x || z))
or_swap true true z = refl
or_swap true false z = refl
or_swap false true z = refl
or_swap false false z = refl

once_swap : (q r a b o : Bool) → q ≡ r → (not (q || a) && (not b && o)) ≡ (not (r || b) && (not a && o))
once_swap true true a b o e = refl
once_swap false false true true o e = refl
once_swap false false true false o e = refl
once_swap false false false true o e = refl
once_swap false false false false o e = refl
once_swap true false a b o e = cc
once_swap false true a b o e = cc

pub same_self : (c : Choice) → same_choice c c ≡ true
same_self Modulus = refl
same_self Cycles = refl
same_self Stats = refl
same_self Map = refl
same_self Matrix = refl
same_self Index = refl
same_self Witness = refl
same_self SetAlone = refl

pub same_is : (d c : Choice) → same_choice d c ≡ true → d ≡ c
same_is Modulus Modulus e = refl
same_is Cycles Cycles e = refl
same_is Stats Stats e = refl
same_is Map Map e = refl
same_is Matrix Matrix e = refl
same_is Index Index e = refl
same_is Witness Witness e = refl
same_is SetAlone SetAlone e = refl
same_is d c e = absurd (true≢false (sym e))

pub same_turned : (d c : Choice) → same_choice d c ≡ same_choice c d
same_turned d c = by (same_choice d c) (same_choice c d) refl refl
  where
    by : (x y : Bool) → same_choice d c ≡ x → same_choice c d ≡ y → x ≡ y
    by true true e f = refl
    by false false e f = refl
    by true false e f = let is : d ≡ c = same_is d c e in absurd (true≢false (sym (ap (λ x. same_choice x d) (sym is) ∙ same_self d) ∙ f))
    by false true e f = let is : c ≡ d = same_is c d f in absurd (true≢false (sym (ap (λ x. same_choice d x) is ∙ same_self d) ∙ e))

-- of two settings of two options at most one is of the third
first_swap : (s t : Setting) (choice : Choice) (o : Option Setting) → same_choice t.choice s.choice ≡ false
    → cond (same_choice s.choice choice) (Some s) (cond (same_choice t.choice choice) (Some t) o)
    ≡ cond (same_choice t.choice choice) (Some t) (cond (same_choice s.choice choice) (Some s) o)
first_swap s t choice o apart = by (same_choice s.choice choice) (same_choice t.choice choice) refl refl
  where
    by : (x y : Bool) → same_choice s.choice choice ≡ x → same_choice t.choice choice ≡ y
        → cond x (Some s) (cond y (Some t) o) ≡ cond y (Some t) (cond x (Some s) o)
    by true true e f = absurd (true≢false (sym f ∙ ap (same_choice t.choice) (sym (same_is s.choice choice e)) ∙ apart))
    by true false e f = refl
    by false true e f = refl
    by false false e f = refl

none_first : (a b c : Bool) → (not (a || b) && c) ≡ true → a ≡ false
none_first true b c e = absurd (true≢false (sym e))
none_first false b c e = refl

pub same_swap : (s t : Setting) (v : List Setting) → SaySame (s ∷ t ∷ v) (t ∷ s ∷ v)
same_swap s t v = record {
  set = λ choice. or_swap (same_choice s.choice choice) (same_choice t.choice choice) (is_set choice v);
  once = once_swap (same_choice t.choice s.choice) (same_choice s.choice t.choice) (is_set s.choice v) (is_set t.choice v) (are_once v) (same_turned t.choice s.choice);
  alone = or_swap (stands_alone s.choice) (stands_alone t.choice) (has_alone v);
  many = refl;
  first = λ e choice. first_swap s t choice (setting_of v choice) (none_first (same_choice t.choice s.choice) (is_set s.choice v) (not (is_set t.choice v) && are_once v) e);
}

same_past : (s : Setting) (y v : List Setting) → SaySame (s ∷ (y ++ v)) (y ++ (s ∷ v))
same_past s [] v = same_refl (s ∷ v)
same_past s (t ∷ y) v = same_trans (s ∷ t ∷ (y ++ v)) (t ∷ s ∷ (y ++ v)) (t ∷ (y ++ (s ∷ v))) (same_swap s t (y ++ v)) (same_cons t (s ∷ (y ++ v)) (y ++ (s ∷ v)) (same_past s y v))

same_blocks : (x y v : List Setting) → SaySame (x ++ (y ++ v)) (y ++ (x ++ v))
same_blocks [] y v = same_refl (y ++ v)
same_blocks (s ∷ x) y v = same_trans (s ∷ (x ++ (y ++ v))) (s ∷ (y ++ (x ++ v))) (y ++ (s ∷ (x ++ v))) (same_cons s (x ++ (y ++ v)) (y ++ (x ++ v)) (same_blocks x y v)) (same_past s y (x ++ v))

same_behind : (u a b : List Setting) → SaySame a b → SaySame (u ++ a) (u ++ b)
same_behind [] a b p = p
same_behind (s ∷ u) a b p = same_cons s (u ++ a) (u ++ b) (same_behind u a b p)

module _ (form : Row) (o : List (List ℕ)) (a b : List Setting) (p : SaySame a b) where
  abbrev of : List Setting → Spoken
  of ss = record { operands = o; settings = ss }

  options_same : are_once a ≡ true → options_in a ≡ options_in b
  options_same e =
      let with_same : with_modulus a ≡ with_modulus b = λ i. λ modulus. record {
        modulus = modulus;
        cycles = p.set Cycles i || p.set Matrix i;
        stats = p.set Stats i;
        map = option_and_then (λ (s : Setting). s.value) (p.first e Map i);
        matrix = p.set Matrix i;
        index = p.set Index i;
        witness = option_and_then (λ (s : Setting). s.value) (p.first e Witness i);
        set_alone = p.set SetAlone i;
      } in
      ap (λ f. option_map f (modulus_in a)) with_same ∙ ap (λ s. option_map (with_modulus b) (modulus_by s)) (p.first e Modulus)

  chosen_same : are_once a ≡ true → chosen_of form (of a) ≡ chosen_of form (of b)
  chosen_same e = ap (option_map (with_options form.tool o)) (options_same e)

  once_same : (x y : Bool) → are_once a ≡ x → x ≡ y → option_and_then (chosen_of form) (cond x (Some (of a)) None) ≡ option_and_then (chosen_of form) (cond y (Some (of b)) None)
  once_same true true e f = chosen_same e
  once_same false false e f = refl
  once_same true false e f = cc
  once_same false true e f = cc

  fits_same : (before : Bool) → option_and_then (chosen_of form) (cond (before && are_once a) (Some (of a)) None) ≡ option_and_then (chosen_of form) (cond (before && are_once b) (Some (of b)) None)
  fits_same false = refl
  fits_same true = once_same (are_once a) (are_once b) refl p.once

  agree_same : agree a ≡ agree b
  agree_same = λ i. (nat_le (p.many i) 1 || not (p.alone i)) && (p.set Map i || not (p.set Matrix i || p.set Index i))

  by_same : request_by form (of a) ≡ request_by form (of b)
  by_same =
      let operands : Bool = nat_le form.fewest (length o) && nat_le (length o) form.most && are_operands form.tool o in
      ap (λ x. option_and_then (chosen_of form) (cond (operands && x && are_once a) (Some (of a)) None)) agree_same ∙ fits_same (operands && agree b)

pub request_same : (form : Row) (o : List (List ℕ)) (a b : List Setting) → SaySame a b
    → request_of form (record { operands = o; settings = a }) ≡ request_of form (record { operands = o; settings = b })
request_same form o a b p =
    ap (λ x. request_by (cond x (of_map form) form) (record { operands = o; settings = a })) (p.set Map)
    ∙ by_same (form_with b form) o a b p

module _ (form : Row) (so_far these those : Spoken) (none : these.operands ≡ []) where
  operands_same : (m : Spoken) → (onto so_far (onto these (onto those m))).operands ≡ (onto so_far (onto those (onto these m))).operands
  operands_same m = ap (λ os. so_far.operands ++ (os ++ (those.operands ++ m.operands))) none ∙ sym (ap (λ os. so_far.operands ++ (those.operands ++ (os ++ m.operands))) none)

  request_swapped : (m : Spoken) → request_of form (onto so_far (onto these (onto those m))) ≡ request_of form (onto so_far (onto those (onto these m)))
  request_swapped m =
      ap (λ os. request_of form (record { operands = os; settings = so_far.settings ++ (these.settings ++ (those.settings ++ m.settings)) })) (operands_same m)
      ∙ request_same form (onto so_far (onto those (onto these m))).operands (so_far.settings ++ (these.settings ++ (those.settings ++ m.settings))) (so_far.settings ++ (those.settings ++ (these.settings ++ m.settings)))
      (same_behind so_far.settings (these.settings ++ (those.settings ++ m.settings)) (those.settings ++ (these.settings ++ m.settings)) (same_blocks these.settings those.settings m.settings))

  rest_swapped : (r : Option Spoken) → option_and_then (request_of form) (option_map (onto so_far) (option_map (onto these) (option_map (onto those) r)))
      ≡ option_and_then (request_of form) (option_map (onto so_far) (option_map (onto those) (option_map (onto these) r)))
  rest_swapped None = refl
  rest_swapped (Some m) = request_swapped m

three : (form : Row) (a b c rest : List (List ℕ)) (x y z : Spoken) → AreWhole form a x → AreWhole form b y → AreWhole form c z
    → words_read form Anything (a ++ (b ++ (c ++ rest))) ≡ option_map (onto x) (option_map (onto y) (option_map (onto z) (words_read form Anything rest)))
three form a b c rest x y z p q r =
    behind_whole form a (b ++ (c ++ rest)) x p
    ∙ ap (option_map (onto x)) (behind_whole form b (c ++ rest) y q ∙ ap (option_map (onto y)) (behind_whole form c rest z r))

pub options_change_places : (name : List ℕ) (form : Row) → form_named name ≡ Some form
    → (before options others after : List (List ℕ)) (so_far these those : Spoken)
    → AreWhole form before so_far → AreWhole form options these → AreWhole form others those → these.operands ≡ []
    → command_of (name ∷ (before ++ (options ++ (others ++ after)))) ≡ command_of (name ∷ (before ++ (others ++ (options ++ after))))
options_change_places name form named before options others after so_far these those b o t none =
    ap (λ n. command_with n (before ++ (options ++ (others ++ after)))) named
    ∙ ap (λ r. formed form (option_and_then (request_of form) r)) (three form before options others after so_far these those b o t)
    ∙ ap (formed form) (rest_swapped form so_far these those none (words_read form Anything after))
    ∙ sym (ap (λ r. formed form (option_and_then (request_of form) r)) (three form before others options after so_far those these b t o))
    ∙ sym (ap (λ n. command_with n (before ++ (others ++ (options ++ after)))) named)
