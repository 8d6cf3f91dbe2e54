-- Faults of the sets of a map refuse a witness.
use Rattle.std.proofs.Common.{sym, subst}
use Rattle.faults.specs.declared.fault.Fault.{Fault}
use Rattle.map_checks.specs.declared.map_fault.MapFault.{MapFault}
use Rattle.map_checks.specs.declared.map_fault.MapFault.TheVariants as maps
use Rattle.map_checks.specs.Faults.{IsMapFault, IsOfSets}
use Rattle.pair_maps.specs.declared.inputs.PairMap.{PairMap}
use Rattle.pair_maps.specs.Telling.{IsTold}
use Rattle.replay_tool.specs.Refusals.{RefusesSets}

pub sets_refused : (m : PairMap) (fault : MapFault 2) (told : Fault) → IsMapFault 2 m.map.named m.x.cells m.a.cells m.y.cells m.b.cells fault → IsOfSets 2 fault → IsTold 2 fault told → RefusesSets m told
sets_refused m (maps.Undefined cube) told h o t = subst (RefusesSets m) (sym t) h
sets_refused m (maps.LeavesRange cube value) told h o t = subst (RefusesSets m) (sym t) h
sets_refused m (maps.NotCarried cube value) told h o t = subst (RefusesSets m) (sym t) h
sets_refused m (maps.NotAcyclic cell value hole) told h o t = absurd o
sets_refused m maps.NoMemory told h o t = absurd o
