use Rattle.slots.specs.Entries.{entries}
use Rattle.std.proofs.Common.{refl}
use Rattle.places.proofs.Places.new.Goals as goal

pub invariant_of-result : goal.invariant_of-result
unfolding entries
invariant_of-result c = record { sized = refl; packed = refl }
