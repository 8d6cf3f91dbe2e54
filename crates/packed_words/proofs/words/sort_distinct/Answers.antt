use Rattle.std.proofs.Common.{◌∙◌, sym}
use Rattle.std.specs.Ordering.{is_eq}
use Rattle.std.proofs.lemmas.List.Filters.{dedup_is}
use Rattle.std.proofs.lemmas.List.Kept.{IsStrictlySortedBy-dedup}
use Rattle.std.proofs.lemmas.List.Sorted.{list_any-IsPermutation}
use Rattle.cube_sets.proofs.Sorting.{has-dedup}
use Rattle.packed_words.proofs.words.sort_distinct.Goals as goal

pub returns-clause-sorted : goal.returns-clause-sorted
returns-clause-sorted g c =
    let is = dedup_is _ _ _ c.dedup.ensures.filtered in
    rw is (IsStrictlySortedBy-dedup g.met.T.Ord.total g.met.T.Ord.matches_eq _ c.sort_unstable.ensures.sorted)

pub returns-clause-members : goal.returns-clause-members
returns-clause-members g c =
    let is = dedup_is _ _ _ c.dedup.ensures.filtered in
    λ x. rw is (has-dedup g.T.Ord.cmp g.met.T.Ord.total _ g.met.T.Ord.matches_eq _ x ∙ sym (list_any-IsPermutation (λ y. is_eq (g.T.Ord.cmp y x)) _ _ c.sort_unstable.ensures.permutation))
