use Rattle.std.proofs.Common.{◌≡◌, ℕ, ◌+◌, List, arith, map, min, subst, sym}
use Rattle.section_reading.specs.Section.{degrees_of, kinds_of}
use Rattle.section_reading.proofs.Degrees.{kinds_are}
use Rattle.section_reading.proofs.section.pair_due.Goals as goal

pub cocycles_due-requires : goal.cocycles_due-requires
cocycles_due-requires g c = (
  (omega arith),
  (
    (omega arith),
    (
      c.requires.table,
      subst (λ (zs : List (ℕ × List (ℕ × ℕ))). map (λ d. min (d + 1) 255) (degrees_of zs) ≡ kinds_of zs) (sym c.deref.ensures.value)
          (kinds_are g.row.P c.args.top c.args.kinds.now c.args.bytes.now c.in_ok-cycles.cycles.items c.in_ok-cycles.behind.now c.requires.degrees c.in_ok-cycles.ensures.ok),
    ),
  ),
)
