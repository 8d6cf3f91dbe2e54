use Rattle.std.proofs.Common.{ap, ◌∙◌, sym, [], ◌∷◌}
use Rattle.std.specs.List.{fold, flat_map}
use Rattle.std.specs.Hash as fed
use Rattle.std.proofs.lemmas.List.Sums.{fold-append}
use Rattle.elem_cubes.specs.declared.range.TheConstants.{MAX_EMBEDDING}
use Rattle.elem_cubes.specs.Cells.{axes_of, lower_of}
use Rattle.elem_cubes.specs.Packed.{words_of, padded}
use Rattle.elem_cubes.proofs.Keeping.{lower_kept, axes_kept}
use Rattle.elem_cubes.proofs.cell.CellHash.hash.Goals as goal

pub returns : goal.returns
returns g c =
    let q = c.args.self.now in
    let low = c.self.invariant.rest ∙ ap (padded MAX_EMBEDDING) (lower_kept c.self.inside.ends c.self.inside.len c.self.inside.axes q c.self.invariant c.self.view_is) in
    let axes = axes_kept c.self.inside.ends c.self.inside.len c.self.inside.axes q c.self.invariant c.self.view_is in
    let words = c.words.ensures ∙ ap words_of low in
    c.write_u8.ensures
    ∙ ap (λ s. g.H.Hasher.write s (c.self.inside.axes ∷ [])) (c.hash_slice.ensures ∙ ap (λ ws. fold g.H.Hasher.write c.args.state.now (flat_map fed.i64 ws)) words)
    ∙ ap (λ a. g.H.Hasher.write (fold g.H.Hasher.write c.args.state.now (flat_map fed.i64 (words_of (padded MAX_EMBEDDING (lower_of q))))) (a ∷ [])) axes
    ∙ sym (fold-append g.H.Hasher.write c.args.state.now (flat_map fed.i64 (words_of (padded MAX_EMBEDDING (lower_of q)))) (fed.u8 (axes_of q)))
