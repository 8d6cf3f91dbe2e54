use Rattle.std.proofs.Common.{ℕ, List, Option, Result, Ok, Err, subst}
use Rattle.std.proofs.lemmas.Result.{err_from_is_err_and}
use Rattle.faults.specs.declared.fault.Fault.{Fault}
use Rattle.outside.specs.Seen.{Seen}
use Rattle.loading.specs.Loads.{Loads}
use Rattle.loading.specs.TwoSets.{two_bytes}
use Rattle.loading.specs.declared.two_sets.TwoSets.{TwoSets}
use Rattle.pair_maps.specs.Inputs.{ArePairIn}
use Rattle.pair_maps.proofs.Files.{domain_refused, range_refused, all_load, pair_of}
use Rattle.pair_maps.proofs.inputs.load_pair_map.Goals as goal

pub returns-clause-loads : goal.returns-clause-loads
returns-clause-loads g c =
    let files = c.args.names.now in
    let old = g.F.Files.seen c.args.files.now in
    let after_map = g.F.Files.seen c.load_map.new.files in
    let after_domain = g.F.Files.seen c.load_pair.new.files in
    let new = g.F.Files.seen c.load_pair-2.new.files in
    all_load files old after_map after_domain new c.in_ok-map.map c.in_ok-domain.domain
    c.in_ok-map.ensures (pair_of files.x _ files.a after_map after_domain (Ok c.in_ok-domain.domain) c.as_ref.ensures.value c.in_ok-domain.ensures.loads)
    c.in_ok-range.range (pair_of files.y _ files.b after_domain new (Ok c.in_ok-range.range) c.as_ref-2.ensures.value c.in_ok-range.ensures.loads)
    c.agreeing.result c.agreeing.ensures.due

pub returns-in_err-domain-clause-loads : goal.returns-in_err-domain-clause-loads
returns-in_err-domain-clause-loads g c =
    let files = c.args.names.now in
    let old = g.F.Files.seen c.args.files.now in
    let after_map = g.F.Files.seen c.load_map.new.files in
    let new = g.F.Files.seen c.load_pair.new.files in
    let fault = c.in_err-domain.field-0.0 in
    let p = err_from_is_err_and c.from_residual-in_err-domain.result c.from_residual-in_err-domain.ensures.1 in
    rw (p.1, p.2) (domain_refused files old after_map new new c.in_ok-map.map c.in_ok-map.ensures fault
    (pair_of files.x _ files.a after_map new (Err fault) c.as_ref.ensures.value c.in_err-domain.ensures.loads))

pub returns-in_err-range-clause-loads : goal.returns-in_err-range-clause-loads
returns-in_err-range-clause-loads g c =
    let files = c.args.names.now in
    let old = g.F.Files.seen c.args.files.now in
    let after_map = g.F.Files.seen c.load_map.new.files in
    let after_domain = g.F.Files.seen c.load_pair.new.files in
    let new = g.F.Files.seen c.load_pair-2.new.files in
    let fault = c.in_err-range.field-0.0 in
    let p = err_from_is_err_and c.from_residual-in_err-range.result c.from_residual-in_err-range.ensures.1 in
    rw (p.1, p.2) (range_refused files old after_map after_domain new c.in_ok-map.map c.in_ok-domain.domain
    c.in_ok-map.ensures (pair_of files.x _ files.a after_map after_domain (Ok c.in_ok-domain.domain) c.as_ref.ensures.value c.in_ok-domain.ensures.loads)
    fault (pair_of files.y _ files.b after_domain new (Err fault) c.as_ref-2.ensures.value c.in_err-range.ensures.loads))
