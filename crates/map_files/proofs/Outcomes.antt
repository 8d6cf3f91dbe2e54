-- The outcome of a text: a value or a refusal, and one of them alone.
use Rattle.std.proofs.Common.{◌≡◌, ◌⊎◌, inl, inr, ℕ, List, Ok, Err, ap}
use Rattle.cube_maps.specs.CubeMaps.{Mapping}
use Rattle.map_files.specs.Items.{nothing}
use Rattle.grid_files.specs.Pieces.{pieces}
use Rattle.map_files.specs.MapFile.{HasValue, IsRefusedAt, no_namings}
use Rattle.map_files.specs.Laws.{TextsHaveOneOutcome}
use Rattle.grid_files.specs.declared.fault.TextCause.{TextCause}
use Rattle.map_files.specs.Reading.{Outcome, read}
use Rattle.map_files.proofs.Reading.{Told, told}
use Rattle.map_files.proofs.Deciding.{value_read, refusal_read}

some_outcome : (text : List ℕ) (r : Outcome) → Told no_namings (pieces text) r
    → ((m : Mapping) × HasValue text m) ⊎ ((place : ℕ) × (cause : TextCause) × IsRefusedAt text place cause)
some_outcome text (Ok v) t = inl (v, t)
some_outcome text (Err e) t = inr (e.0, e.1, t)

same_value : (r : Outcome) (v w : Mapping) → r ≡ Ok v → r ≡ Ok w → v ≡ w
same_value r v w h k = cc

same_refusal : (r : Outcome) (e f : ℕ × TextCause) → r ≡ Err e → r ≡ Err f → e ≡ f
same_refusal r e f h k = cc

pub no_outcome : (r : Outcome) (v : Mapping) (e : ℕ × TextCause) → r ≡ Ok v → r ≡ Err e → ⊥
no_outcome r v e h k = cc

pub one_outcome : TextsHaveOneOutcome
one_outcome = record {
  some = λ text. some_outcome text (read no_namings nothing 0 (pieces text)) (told no_namings (pieces text));
  one_value = λ text m other h k. same_value _ m other (value_read no_namings m (pieces text) h) (value_read no_namings other (pieces text) k);
  one_place = λ text place other cause why h k.
      let e = same_refusal _ (place, cause) (other, why) (refusal_read no_namings (pieces text) place cause h) (refusal_read no_namings (pieces text) other why k) in
      (ap (λ e. e.0) e, ap (λ e. e.1) e);
  never_both = λ text m place cause h k.
      no_outcome _ m (place, cause) (value_read no_namings m (pieces text) h) (refusal_read no_namings (pieces text) place cause k);
}
