use Rattle.std.proofs.Common.{arith}
use Rattle.std.proofs.lemmas.Grind.{common_steps}
use Rattle.field.proofs.user_calls.Field+L+Working.hand_on.Goals as goal

pub returns-in_err-packet : goal.returns-in_err-packet
returns-in_err-packet g c = grind (arith, common_steps)
