use Rattle.std.proofs.Common.{arith}
use Rattle.std.proofs.lemmas.Bool.Decides.{nat_tests}
use Rattle.std.proofs.lemmas.Option.{gets}
use Rattle.slots.specs.Entries.{times}
use Rattle.ends.proofs.row.front.Goals as goal

pub returns-then-count-gt0 : goal.returns-then-count-gt0
unfolding times
returns-then-count-gt0 c = grind (arith, nat_tests, gets)

pub returns : goal.returns
unfolding times
returns c = grind (arith, nat_tests, gets)
