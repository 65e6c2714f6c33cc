use Rattle.std.proofs.Common.{◌≡◌, ◌≤◌, take}
use Rattle.slots.specs.Entries.{times}
use Rattle.slots.proofs.count.Given as goal

abbrev pub invariant-loop-slot : goal.invariant-loop-slot
invariant-loop-slot g l = (l.n ≤ l.slot-index) × (l.n ≡ times (g.E.Matches.fits l.key) (take l.slot-index l.slots))
