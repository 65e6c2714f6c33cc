use Rattle.std.proofs.Common.{rules}
use Rattle.link.specs.Messages.{between}
use Rattle.places.proofs.keys.MessageMatchesWay.matches.Goals as goal

pub returns-then-self-key : goal.returns-then-self-key
unfolding between
returns-then-self-key c = search rules

pub returns-else-self-key : goal.returns-else-self-key
unfolding between
returns-else-self-key c = search rules
