use Rattle.std.proofs.Common.{inl, inr, ℕ, ◌<◌, arith, subst, List, length}
use Rattle.std.proofs.lemmas.Result.{err_from_is_err_and}
use Rattle.loading.specs.Jobs.{IsAllowed}
use Rattle.induced_map.specs.Matrices.{HaveFewEntries, IsFirstTooLarge}
use Rattle.map_homology.specs.Bases.{AreBasesOf, AreBasesWith}
use Rattle.map_homology.specs.Refusals.{RefusesMatrices}
use Rattle.pair_witness.specs.Witnesses.{witness_bytes}
use Rattle.map_homology.proofs.Computing.{inclusion_refused, index_refused}
use Rattle.map_homology.proofs.Judging.{matrices_allowed, allowed}
use Rattle.map_homology.proofs.Inducing.{index_allowed}
use Rattle.map_homology.proofs.Large.{shown_large, none_large}
use Rattle.map_witness.proofs.Limiting.{homology_refused, witness_allowed}
use Rattle.map_witness.proofs.making.made_with.Goals as goal

pub report_and_file-requires : goal.report_and_file-requires
report_and_file-requires g c =
    let b = c.args.bases in
    let few = subst (λ (n : ℕ). HaveFewEntries b.cycles b.basis n) c.dimension.ensures.dimension c.in_ok-test_entries.ensures.few in (
      (omega arith),
      (
        (omega arith),
        (
          (omega arith),
          (
            (omega arith),
            (
              (omega arith),
              (
                c.requires.fits,
                (
                  c.requires.within,
                  (
                    record {
                      bases = record { carrier = c.requires.carrier; of_domain = c.requires.bases.of_domain; of_range = c.requires.bases.of_range };
                      included = c.in_ok-test_inclusion.ensures.included;
                    },
                    (few, c.requires.bases.of_part),
                  ),
                ),
              ),
            ),
          ),
        ),
      ),
    )

pub returns-in_err-test_entries : goal.returns-in_err-test_entries
returns-in_err-test_entries g c =
    let b = c.args.bases in
    let bases : AreBasesOf g.row.P c.args.input.now c.args.carrier b.domain b.cycles b.range b.basis = record { carrier = c.requires.carrier; of_domain = c.requires.bases.of_domain; of_range = c.requires.bases.of_range } in
    let large = c.in_err-test_entries.ensures.large in
    let first = subst (λ (n : ℕ). IsFirstTooLarge b.cycles b.basis n large.0) c.dimension.ensures.dimension large.1 in
    let p = err_from_is_err_and c.from_residual.result c.from_residual.ensures.1 in
    rw (p.1, p.2) (homology_refused g.row.P c.args.input.now c.requires.within c.args.wanted c.in_err-test_entries.field-0.0 (inl (inl (inr (
      c.requires.within.allowed,
      shown_large g.row.P c.args.input.now c.args.field.listed c.args.carrier b.domain b.cycles b.range b.basis bases large.0 first,
      c.in_err-test_entries.ensures.fault,
    )))))

pub returns-in_err-test_inclusion : goal.returns-in_err-test_inclusion
returns-in_err-test_inclusion g c =
    let b = c.args.bases in
    let bases : AreBasesOf g.row.P c.args.input.now c.args.carrier b.domain b.cycles b.range b.basis = record { carrier = c.requires.carrier; of_domain = c.requires.bases.of_domain; of_range = c.requires.bases.of_range } in
    let few = subst (λ (n : ℕ). HaveFewEntries b.cycles b.basis n) c.dimension.ensures.dimension c.in_ok-test_entries.ensures.few in
    let none : IsAllowed (RefusesMatrices g.row.P) c.args.input.now = matrices_allowed g.row.P c.args.input.now c.requires.within.allowed
    (none_large g.row.P c.args.input.now c.args.field.listed c.args.carrier b.domain b.cycles b.range b.basis bases few) in
    let p = err_from_is_err_and c.from_residual-in_err-test_inclusion.result c.from_residual-in_err-test_inclusion.ensures.1 in
    rw (p.1, p.2) (homology_refused g.row.P c.args.input.now c.requires.within c.args.wanted c.in_err-test_inclusion.field-0.0
    (inclusion_refused g.row.P c.args.wanted c.args.input.now c.in_err-test_inclusion.field-0.0 none c.in_err-test_inclusion.ensures.fault))

pub returns-in_err-report : goal.returns-in_err-report
returns-in_err-report g c =
    let b = c.args.bases in
    let bases : AreBasesOf g.row.P c.args.input.now c.args.carrier b.domain b.cycles b.range b.basis = record { carrier = c.requires.carrier; of_domain = c.requires.bases.of_domain; of_range = c.requires.bases.of_range } in
    let few = subst (λ (n : ℕ). HaveFewEntries b.cycles b.basis n) c.dimension.ensures.dimension c.in_ok-test_entries.ensures.few in
    let none : IsAllowed (RefusesMatrices g.row.P) c.args.input.now = matrices_allowed g.row.P c.args.input.now c.requires.within.allowed
    (none_large g.row.P c.args.input.now c.args.field.listed c.args.carrier b.domain b.cycles b.range b.basis bases few) in
    let all : AreBasesWith g.row.P c.args.wanted c.args.input.now c.args.carrier b.domain b.cycles b.range b.basis = record { bases = bases; included = c.in_ok-test_inclusion.ensures.included } in
    let p = err_from_is_err_and c.from_residual-in_err-report.result c.from_residual-in_err-report.ensures.1 in
    rw (p.1, p.2) (homology_refused g.row.P c.args.input.now c.requires.within c.args.wanted c.in_err-report.field-0.0
    (index_refused g.row.P c.args.wanted c.args.input.now c.args.carrier b.domain b.cycles b.range b.basis all c.in_err-report.field-0.0 none c.in_err-report.ensures.fault))

pub returns-in_err-test_bytes : goal.returns-in_err-test_bytes
returns-in_err-test_bytes g c =
    let p = err_from_is_err_and c.from_residual-in_err-test_bytes.result c.from_residual-in_err-test_bytes.ensures.1 in
    rw (p.1, p.2) (inr c.in_err-test_bytes.ensures.fault)

pub returns : goal.returns
returns g c =
    let b = c.args.bases in
    let bases : AreBasesOf g.row.P c.args.input.now c.args.carrier b.domain b.cycles b.range b.basis = record { carrier = c.requires.carrier; of_domain = c.requires.bases.of_domain; of_range = c.requires.bases.of_range } in
    let few = subst (λ (n : ℕ). HaveFewEntries b.cycles b.basis n) c.dimension.ensures.dimension c.in_ok-test_entries.ensures.few in
    let right = c.in_ok-report.ensures.report in (
      record { right = right; file = c.in_ok-report.ensures.file; few = subst (λ (bs : List ℕ). length bs < witness_bytes) c.deref.ensures.value c.in_ok-test_bytes.ensures.few },
      witness_allowed g.row.P c.args.input.now c.requires.within c.args.wanted
          (allowed g.row.P c.args.wanted c.args.input.now
          (matrices_allowed g.row.P c.args.input.now c.requires.within.allowed
          (none_large g.row.P c.args.input.now c.args.field.listed c.args.carrier b.domain b.cycles b.range b.basis bases few))
          (index_allowed g.row.P c.args.input.now c.args.wanted _ c.in_ok-report.report.index right.index)),
    )
