-- Calls as values: the step of each.
use Rattle.std.specs.Prelude.{ℕ, Some, None, Option}
use Rattle.protocol.specs.Calls.{Step}
use Rattle.protocol.specs.Delivery.{delivering}
use Rattle.protocol.specs.HouseCalls.{sending, sending_copy_ack}
use Rattle.protocol.specs.UserCalls.{dropping, erasing, giving_back, handing_on, making_use, opening}
use Rattle.script.specs.declared.Call.{Call}
use Rattle.script.specs.declared.Call.TheVariants.{Open, Use, GiveBack, HandOn, Drop, Erase, CopyAck, Send, Deliver}

-- the answers of all calls as one type: a number, or nothing but that it was done
abbrev pub just : ℕ → Option ℕ
just n = Some n

abbrev pub nothing : Unit {0} → Option ℕ
nothing _ = None

-- the same step with its answer in that type
abbrev pub answering : {A : Type 0} → (A → Option ℕ) → Step A → Step (Option ℕ)
answering f step T link =
    let call = step T link in
    record { checks = call.checks; answer = f call.answer; after = call.after; radio = call.radio }

-- the step of a call
abbrev pub step_of : Call → Step (Option ℕ)
step_of (Open s) = answering just (opening s)
step_of (Use s t) = answering nothing (making_use s t)
step_of (GiveBack s t) = answering nothing (giving_back s t)
step_of (HandOn s d t) = answering just (handing_on s d t)
step_of (Drop s t) = answering nothing (dropping s t)
step_of (Erase s t) = answering nothing (erasing s t)
step_of (CopyAck s p k) = answering nothing (sending_copy_ack s p k)
step_of (Send duty s t) = answering nothing (sending duty s t)
step_of (Deliver place) = answering nothing (delivering place)
