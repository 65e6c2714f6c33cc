use Rattle.std.proofs.Common.{arith}
use Rattle.slots.specs.Entries.{times}
use Rattle.slots.proofs.Counts.{times_le}
use Rattle.link.specs.declared.message.Message.{Message}
use Rattle.places.proofs.Places.count.Goals as goal

pub overflow_cast-result : goal.overflow_cast-result
overflow_cast-result g c = omega (arith, c.count.ensures, times_le {E = Message})

pub returns : goal.returns
unfolding times
returns g c = record {
  value = c.count.ensures;
  bound = omega (arith, c.count.ensures, times_le {E = Message});
}
