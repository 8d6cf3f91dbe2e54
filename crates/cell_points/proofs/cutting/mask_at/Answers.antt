use Rattle.std.proofs.Common.{◌∙◌, ap, []}
use Rattle.std.proofs.lemmas.List.{get_or_default}
use Rattle.cell_points.specs.declared.place.Place.{Place}
use Rattle.cell_points.proofs.Without.{mask_there, mask_none}
use Rattle.cell_points.proofs.cutting.mask_at.Goals as goal

pub returns-in-Some : goal.returns-in-Some
returns-in-Some c =
    let h = c.in-Some.ensures.some in
    ap (λ (p : Place). p.mask) (get_or_default c.args.places.now c.in-Some.place c.index-places-place.result (record { corner = []; mask = 0 }) h.within)
    ∙ mask_there c.args.places.now c.args.corner.now c.in-Some.place c.requires h

pub returns-in-None : goal.returns-in-None
returns-in-None c = mask_none c.args.places.now c.args.corner.now c.in-None.ensures.none
