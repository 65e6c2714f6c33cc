use Rattle.std.proofs.Common.{◌≡◌, ◌++◌, map, take, drop}
use Rattle.tables.specs.Copies.{freed}
use Rattle.tables.proofs.entries.free.Given as goal

abbrev pub invariant-loop-slot : goal.invariant-loop-slot
invariant-loop-slot l = l.received ≡ map (freed l.station l.trace) (take l.slot-index l.initial.received) ++ drop l.slot-index l.initial.received
