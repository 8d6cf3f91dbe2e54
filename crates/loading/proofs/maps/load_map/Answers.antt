use Rattle.loading.proofs.LoadingMaps.{map_loads}
use Rattle.loading.proofs.maps.load_map.Goals as goal

pub returns : goal.returns
returns g c =
    map_loads c.args.name.now c.in_ok-bytes.bytes.items c.deref.result.now (g.F.Files.seen c.args.files.now) (g.F.Files.seen c.load_bytes.new.files)
    c.deref.ensures.value c.in_ok-bytes.ensures c.map_of.result c.map_of.ensures.map c.map_of.ensures.fault
