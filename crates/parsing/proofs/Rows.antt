-- Rows by their ids, after a use of an argument.
use Rattle.std.proofs.Common.{◌≡◌, Bool, true, false, cond, List, [], ◌∷◌, ◌++◌, ◌||◌, Option, None, Some, is_some, find, refl, sym, ap, ◌∙◌, true≢false}
use Rattle.std.specs.Str.{bytes_eq}
use Rattle.std.proofs.lemmas.Slice.Eq.{bytes_eq-Decides}
use Rattle.clap.specs.Walk.{Row, Text, has_row, more_values, stronger, with_values, without}
use Rattle.clap.specs.declared.parser.matches.ValueSource.{ValueSource}
use Rattle.clap.specs.declared.builder.value_parser.Reading.{Reading}

pub bytes_eq-same : (xs : Text) → bytes_eq xs xs ≡ true
bytes_eq-same xs = (bytes_eq-Decides xs xs).1 refl

-- the row of an id
abbrev pub row_at : Text → List Row → Option Row
row_at id rows = find (λ r. bytes_eq r.id id) rows

pub has_row-row_at : (id : Text) (rows : List Row) → has_row id rows ≡ is_some (row_at id rows)
has_row-row_at id [] = refl
has_row-row_at id (r ∷ rows) = by (bytes_eq r.id id) (has_row-row_at id rows)
  where
    by : (b : Bool) → has_row id rows ≡ is_some (row_at id rows) → (b || has_row id rows) ≡ is_some (cond b (Some r) (row_at id rows))
    by true later = refl
    by false later = later

-- values that are added to a row, or are one of their own
abbrev pub joined : Text → Reading → ValueSource → List Text → Option Row → Row
joined id how source values None = record { id = id; values = values; count = None; source = Some source; reading = how }
joined id how source values (Some r) = record r { values = r.values ++ values; source = Some (stronger r.source source) }

pub row_at-same : (id : Text) (how : Reading) (source : ValueSource) (values : List Text) (rows : List Row)
    → row_at id (with_values id how source values rows) ≡ Some (joined id how source values (row_at id rows))
row_at-same id how source values [] = ap (λ b. cond b (Some (joined id how source values None)) None) (bytes_eq-same id)
row_at-same id how source values (r ∷ rows) = by (bytes_eq r.id id) refl (row_at-same id how source values rows)
  where
    by : (b : Bool) → bytes_eq r.id id ≡ b → row_at id (with_values id how source values rows) ≡ Some (joined id how source values (row_at id rows))
        → row_at id (cond b (more_values source values r ++ rows) (r ∷ with_values id how source values rows)) ≡ Some (joined id how source values (cond b (Some r) (row_at id rows)))
    by true e later = ap (λ b. cond b (Some (joined id how source values (Some r))) (row_at id rows)) e
    by false e later = ap (λ b. cond b (Some r) (row_at id (with_values id how source values rows))) e ∙ later

pub row_at-other : (id other : Text) (how : Reading) (source : ValueSource) (values : List Text) (rows : List Row) → bytes_eq other id ≡ false
    → row_at id (with_values other how source values rows) ≡ row_at id rows
row_at-other id other how source values [] absent = ap (λ b. cond b (Some (joined other how source values None)) None) absent
row_at-other id other how source values (r ∷ rows) absent = by (bytes_eq r.id other) refl (row_at-other id other how source values rows absent)
  where
    by : (b : Bool) → bytes_eq r.id other ≡ b → row_at id (with_values other how source values rows) ≡ row_at id rows
        → row_at id (cond b (more_values source values r ++ rows) (r ∷ with_values other how source values rows)) ≡ row_at id (r ∷ rows)
    by true e later =
        let not_here : bytes_eq r.id id ≡ false = ap (λ x. bytes_eq x id) ((bytes_eq-Decides r.id other).0 e) ∙ absent in
        ap (λ b. cond b (Some (joined other how source values (Some r))) (row_at id rows)) not_here
        ∙ sym (ap (λ b. cond b (Some r) (row_at id rows)) not_here)
    by false e later = ap (λ o. cond (bytes_eq r.id id) (Some r) o) later

-- nothing is left out where no row has the id
pub without-none : (id : Text) (rows : List Row) → has_row id rows ≡ false → without id rows ≡ rows
without-none id [] absent = refl
without-none id (r ∷ rows) absent = by (bytes_eq r.id id) absent (λ e. without-none id rows e)
  where
    by : (b : Bool) → (b || has_row id rows) ≡ false → (has_row id rows ≡ false → without id rows ≡ rows) → cond b ([] ++ rows) (r ∷ without id rows) ≡ r ∷ rows
    by true absent later = absurd (true≢false absent)
    by false absent later = ap (λ rs. r ∷ rs) (later absent)
