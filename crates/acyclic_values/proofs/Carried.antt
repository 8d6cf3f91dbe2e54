-- The laws of carried maps.
use Rattle.std.proofs.Common.{◌≡◌, Bool, true, false, true≢false, sym}
use Rattle.cube_sets.specs.Closures.{is_cell_of, cells_of}
use Rattle.cell_complex.specs.RelativeComplex.{is_relative}
use Rattle.acyclic_values.specs.Values.{in_value}
use Rattle.acyclic_values.specs.Laws.{ValuesAreClosedAndGrow, ValuesStayInside, CarriedMapsExist, CarriedMapsExtend, CarriedMapsAgree, ImagesAreRelativeCycles}
use Rattle.acyclic_values.proofs.Values.{value_to, value_from, values_closed, values_grow, value_inside, values_carry, pair_of_map}
use Rattle.acyclic_values.proofs.Existence.{extended}
use Rattle.acyclic_values.proofs.Agreeing.{same_class, image_is_cycle}

pub values_are_closed_and_grow : ValuesAreClosedAndGrow
values_are_closed_and_grow = record {
  test = λ map domain s g. (value_to map domain s g, value_from map domain s g);
  closed = values_closed;
  grow = λ map domain s r g f h. value_to map domain s g (values_grow map domain s r g f (value_from map domain r g h));
}

pub values_stay_inside : ValuesStayInside
values_stay_inside map domain a b s g sub into at h = value_inside map domain a b sub into s g at (value_from map domain s g h)

pub carried_maps_extend : CarriedMapsExtend
carried_maps_extend p map domain range Kept kept one am closed inside images =
    extended p (is_cell_of domain) (is_cell_of range) (cells_of domain) (cells_of range) (in_value map domain) one (values_carry p map domain range am) Kept kept closed images inside

pub carried_maps_exist : CarriedMapsExist
carried_maps_exist p map domain range one am =
    let w = carried_maps_extend p map domain range (λ s. false) (λ s r. 0) one am (λ q r g h. h) (λ s h. absurd (f h)) (λ s h. absurd (f h)) in
    (w.0, w.1)
  where
    f : ◌≡◌ {A = Bool} false true → ⊥
    f e = true≢false (sym e)

pub carried_maps_agree : CarriedMapsAgree
carried_maps_agree p map domain range x a y b f e k z one am td tr into mf me cy =
    same_class p (is_cell_of domain) (is_cell_of range) (is_relative x a) (is_cell_of a) (is_relative y b) (is_cell_of b) (cells_of domain) (cells_of range) (in_value map domain) one (values_carry p map domain range am) (pair_of_map map domain range x a y b td tr into) k z cy f mf e me

pub images_are_relative_cycles : ImagesAreRelativeCycles
images_are_relative_cycles p map domain range x a y b f k z one am td tr into mf cy =
    image_is_cycle p (is_cell_of domain) (is_cell_of range) (is_relative x a) (is_cell_of a) (is_relative y b) (is_cell_of b) (cells_of domain) (cells_of range) (in_value map domain) one (values_carry p map domain range am) (pair_of_map map domain range x a y b td tr into) k z cy f mf
