-- The outcome of a text: a value or a refusal, and one of them alone.
use Rattle.std.proofs.Common.{◌≡◌, ◌⊎◌, inl, inr, ℕ, List, Ok, Err, ap}
use Rattle.cube_sets.specs.Sets.{Members}
use Rattle.grid_files.specs.Items.{nothing}
use Rattle.grid_files.specs.Pieces.{pieces}
use Rattle.grid_files.specs.SetFile.{HasValue, IsRefusedAt, no_members}
use Rattle.grid_files.specs.Laws.{TextsHaveOneOutcome}
use Rattle.grid_files.specs.declared.fault.Kind.{Kind}
use Rattle.grid_files.specs.declared.fault.TextCause.{TextCause}
use Rattle.grid_files.specs.Reading.{Outcome, read}
use Rattle.grid_files.proofs.Reading.{Told, told}
use Rattle.grid_files.proofs.Deciding.{value_read, refusal_read}

some_outcome : (kind : Kind) (text : List ℕ) (r : Outcome) → Told kind no_members (pieces text) r
    → ((set : Members) × HasValue kind text set) ⊎ ((place : ℕ) × (cause : TextCause) × IsRefusedAt kind text place cause)
some_outcome kind text (Ok v) t = inl (v, t)
some_outcome kind text (Err e) t = inr (e.0, e.1, t)

same_value : (r : Outcome) (v w : Members) → r ≡ Ok v → r ≡ Ok w → v ≡ w
same_value r v w h k = cc

same_refusal : (r : Outcome) (e f : ℕ × TextCause) → r ≡ Err e → r ≡ Err f → e ≡ f
same_refusal r e f h k = cc

pub no_outcome : (r : Outcome) (v : Members) (e : ℕ × TextCause) → r ≡ Ok v → r ≡ Err e → ⊥
no_outcome r v e h k = cc

pub one_outcome : TextsHaveOneOutcome
one_outcome = record {
  some = λ kind text. some_outcome kind text (read kind no_members nothing 0 (pieces text)) (told kind no_members (pieces text));
  one_value = λ kind text set other h k. same_value _ set other (value_read kind no_members set (pieces text) h) (value_read kind no_members other (pieces text) k);
  one_place = λ kind text place other cause why h k.
      let e = same_refusal _ (place, cause) (other, why) (refusal_read kind no_members (pieces text) place cause h) (refusal_read kind no_members (pieces text) other why k) in
      (ap (λ e. e.0) e, ap (λ e. e.1) e);
  never_both = λ kind text set place cause h k.
      no_outcome _ set (place, cause) (value_read kind no_members set (pieces text) h) (refusal_read kind no_members (pieces text) place cause k);
}
