use Rattle.std.proofs.Common.{◌≡◌, [], take, drop}
use Rattle.std.specs.List.{slice_get}
use Rattle.slots.specs.Entries.{entries}
use Rattle.ends.specs.Ends.{fronts}
use Rattle.ends.proofs.row.nth_front.Given as goal

-- the offer is what is left to count off of what is left of the row
abbrev pub invariant-loop-i : goal.invariant-loop-i
invariant-loop-i l = slice_get (fronts [] (entries l.slots)) l.place ≡ slice_get (fronts (entries (take l.i l.slots)) (entries (drop l.i l.slots))) l.left
