-- What words say, and then others behind them.
use Rattle.std.proofs.Common.{◌≡◌, ℕ, Bool, true, false, cond, ◌||◌, ◌&&◌, not, List, [], ◌∷◌, ◌++◌, append-nil, Option, None, Some, refl, sym, ap, ◌∙◌, subst}
use Rattle.std.specs.Option.{option_map}
use Rattle.std.specs.List.{list_any, position_or_len, before_first, after_first}
use Rattle.std.specs.Prelude.{nat_lt, length}
use Rattle.command_line.specs.declared.choice.Choice.{Choice}
use Rattle.command_line.specs.Forms.{Next, Anything, ValueOf, OperandsAlone, Said, Nothing, Operand, Set, WordRead, Row, Spoken, nothing_spoken, also, is_plain, is_empty, is_equals, takes_value, option_named, alone, valued, option_read, word_read, word_first, words_read}
use Rattle.command_line.specs.Laws.{AreWhole, dashes, is_dashes}

-- what was said, and then what more is said
abbrev pub onto : Spoken → Spoken → Spoken
onto so_far more = record { operands = so_far.operands ++ more.operands; settings = so_far.settings ++ more.settings }

-- the options have not ended
abbrev IsOpen : Next → Type 0
IsOpen Anything = Unit {0}
IsOpen (ValueOf choice) = Unit {0}
IsOpen OperandsAlone = ⊥

some_open : (x r : WordRead) → ◌≡◌ {A = Option WordRead} (Some x) (Some r) → IsOpen x.next → IsOpen r.next
some_open x r e h = let i : x ≡ r = cc in subst (λ (w : WordRead). IsOpen w.next) i h

none_open : (r : WordRead) → ◌≡◌ {A = Option WordRead} None (Some r) → IsOpen r.next
none_open r e = cc

either_open : (b : Bool) (x y : Option WordRead) (r : WordRead) → cond b x y ≡ Some r → (x ≡ Some r → IsOpen r.next) → (y ≡ Some r → IsOpen r.next) → IsOpen r.next
either_open true x y r e f g = f e
either_open false x y r e f g = g e

alone_open : (choice : Option Choice) (r : WordRead) → alone choice ≡ Some r → IsOpen r.next
alone_open None r e = none_open r e
alone_open (Some choice) r e = either_open (takes_value choice) _ _ r e (λ i. some_open _ r i tt) (λ i. some_open _ r i tt)

valued_open : (choice : Option Choice) (value : List ℕ) (r : WordRead) → valued choice value ≡ Some r → IsOpen r.next
valued_open None value r e = none_open r e
valued_open (Some choice) value r e = either_open (takes_value choice && not (is_empty value)) _ _ r e (λ i. some_open _ r i tt) (λ i. none_open r i)

option_open : (form : Row) (word : List ℕ) (r : WordRead) → option_read form word ≡ Some r → IsOpen r.next
option_open form word r e = either_open (nat_lt (position_or_len is_equals word) (length word)) _ _ r e
    (λ i. valued_open (option_named form (before_first is_equals word)) (after_first is_equals word) r i) (λ i. alone_open (option_named form word) r i)

word_open : (form : Row) (next : Next) (word : List ℕ) (r : WordRead) → IsOpen next → is_dashes word ≡ false → word_read form next word ≡ Some r → IsOpen r.next
word_open form Anything word r on un e = by (is_dashes word) un e
  where
    by : (b : Bool) → b ≡ false → cond b (Some (record { said = Nothing; next = OperandsAlone }))
        (cond (is_plain word) (Some (record { said = Operand word; next = Anything })) (option_read form word)) ≡ Some r → IsOpen r.next
    by true un e = cc
    by false un e = either_open (is_plain word) _ _ r e (λ i. some_open _ r i tt) (λ i. option_open form word r i)
word_open form (ValueOf choice) word r on un e = either_open (is_plain word) _ _ r e (λ i. some_open _ r i tt) (λ i. none_open r i)
word_open form OperandsAlone word r on un e = absurd on

onto_nothing : (o : Option Spoken) → option_map (onto nothing_spoken) o ≡ o
onto_nothing None = refl
onto_nothing (Some m) = refl

also_onto : (said : Said) (so_far : Spoken) (o : Option Spoken) → option_map (also said) (option_map (onto so_far) o) ≡ option_map (onto (also said so_far)) o
also_onto said so_far None = refl
also_onto Nothing so_far (Some m) = refl
also_onto (Operand word) so_far (Some m) = refl
also_onto (Set setting) so_far (Some m) = refl

-- what an option of a first word and of those after it was made of
record Parts (said : Said) (o : Option Spoken) (all : Spoken) : Type 0 where
  rest : Spoken
  is : o ≡ Some rest
  all_is : also said rest ≡ all

parts : (said : Said) (o : Option Spoken) (all : Spoken) → option_map (also said) o ≡ Some all → Parts said o all
parts said None all e = cc
parts said (Some m) all e = record { rest = m; is = refl; all_is = cc }

or_false_left : (a b : Bool) → (a || b) ≡ false → a ≡ false
or_false_left true b e = e
or_false_left false b e = refl

or_false_right : (a b : Bool) → (a || b) ≡ false → b ≡ false
or_false_right true b e = cc
or_false_right false b e = e

module _ (form : Row) (rest : List (List ℕ)) where
  first_of : (read : Option WordRead) (words : List (List ℕ)) (said : Spoken) → ((r : WordRead) → read ≡ Some r → IsOpen r.next)
      → ((r : WordRead) (more : Spoken) → IsOpen r.next → words_read form r.next words ≡ Some more → words_read form r.next (words ++ rest) ≡ option_map (onto more) (words_read form Anything rest))
      → word_first read (λ next. words_read form next words) ≡ Some said
      → word_first read (λ next. words_read form next (words ++ rest)) ≡ option_map (onto said) (words_read form Anything rest)
  first_of None words said on later e = cc
  first_of (Some r) words said on later e =
      let p = parts r.said (words_read form r.next words) said e in
      ap (option_map (also r.said)) (later r p.rest (on r refl) p.is)
      ∙ also_onto r.said p.rest (words_read form Anything rest)
      ∙ ap (λ s. option_map (onto s) (words_read form Anything rest)) p.all_is

  behind : (next : Next) (words : List (List ℕ)) (said : Spoken) → IsOpen next → list_any is_dashes words ≡ false → words_read form next words ≡ Some said
      → words_read form next (words ++ rest) ≡ option_map (onto said) (words_read form Anything rest)
  behind Anything [] said on un e = let i : nothing_spoken ≡ said = cc in subst (λ (s : Spoken). words_read form Anything rest ≡ option_map (onto s) (words_read form Anything rest)) i (sym (onto_nothing (words_read form Anything rest)))
  behind (ValueOf choice) [] said on un e = cc
  behind OperandsAlone [] said on un e = absurd on
  behind next (word ∷ words) said on un e =
      first_of (word_read form next word) words said (λ r i. word_open form next word r on (or_false_left (is_dashes word) (list_any is_dashes words) un) i)
      (λ r more o i. behind r.next words more o (or_false_right (is_dashes word) (list_any is_dashes words) un) i) e

-- words behind whole ones
pub behind_whole : (form : Row) (words rest : List (List ℕ)) (said : Spoken) → AreWhole form words said → words_read form Anything (words ++ rest) ≡ option_map (onto said) (words_read form Anything rest)
behind_whole form words rest said w = behind form rest Anything words said tt w.undashed w.read

-- ---- the word that ends the options

abbrev operands_of : List (List ℕ) → Option Spoken
operands_of words = cond (list_any is_empty words) None (Some (record { operands = words; settings = [] }))

one_more : (a b : Bool) (word : List ℕ) (words : List (List ℕ))
    → word_first (cond a None (Some (record { said = Operand word; next = OperandsAlone }))) (λ next. cond b None (Some (record { operands = words; settings = [] })))
    ≡ cond (a || b) None (Some (record { operands = word ∷ words; settings = [] }))
one_more true b word words = refl
one_more false true word words = refl
one_more false false word words = refl

operand_first : (form : Row) (word : List ℕ) (words : List (List ℕ)) (a : Bool) → words_read form OperandsAlone words ≡ operands_of words
    → word_first (cond a None (Some (record { said = Operand word; next = OperandsAlone }))) (λ next. words_read form next words)
    ≡ cond (a || list_any is_empty words) None (Some (record { operands = word ∷ words; settings = [] }))
operand_first form word words true e = refl
operand_first form word words false e = ap (option_map (also (Operand word))) e ∙ one_more false (list_any is_empty words) word words

operands_alone : (form : Row) (words : List (List ℕ)) → words_read form OperandsAlone words ≡ operands_of words
operands_alone form [] = refl
operands_alone form (word ∷ words) = operand_first form word words (is_empty word) (operands_alone form words)

onto_operands : (so_far : Spoken) (b : Bool) (words : List (List ℕ))
    → option_map (onto so_far) (option_map (also Nothing) (cond b None (Some (record { operands = words; settings = [] }))))
    ≡ cond b None (Some (record { operands = so_far.operands ++ words; settings = so_far.settings }))
onto_operands so_far true words = refl
onto_operands so_far false words = λ j. Some (record { operands = so_far.operands ++ words; settings = append-nil so_far.settings j })

pub behind_dashes : (form : Row) (before after : List (List ℕ)) (so_far : Spoken) → AreWhole form before so_far
    → words_read form Anything (before ++ dashes ∷ after) ≡ cond (list_any is_empty after) None (Some (record { operands = so_far.operands ++ after; settings = so_far.settings }))
behind_dashes form before after so_far w =
    behind_whole form before (dashes ∷ after) so_far w
    ∙ ap (λ o. option_map (onto so_far) (option_map (also Nothing) o)) (operands_alone form after)
    ∙ onto_operands so_far (list_any is_empty after) after
