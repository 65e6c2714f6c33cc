-- Days of a field: any calls, one after the other, over any link.
use Rattle.std.specs.Prelude.{◌≡◌, ℕ, ◌∷◌, Some, None, Option}
use Rattle.link.specs.Meaning.{Lawful, Meaning}
use Rattle.link.specs.Messages.{SameBag}
use Rattle.cells.specs.declared.Duty.{Duty}
use Rattle.tables.specs.declared.tables.Tables.{Tables}
use Rattle.protocol.specs.Calls.{Call, Radio, Step, first_refusal, posts, silent, takes}
use Rattle.protocol.specs.Delivery.{delivering}
use Rattle.protocol.specs.HouseCalls.{sending, sending_copy_ack}
use Rattle.protocol.specs.Refusals.{Fault}
use Rattle.protocol.specs.UserCalls.{dropping, erasing, giving_back, handing_on, making_use, opening}

-- what happens on a link: nothing, or the message waits once more, or once less
abbrev pub Radioed : {L : Type 0} → (L → Meaning) → Radio → L → L → Type 0
Radioed meaning silent before after = after ≡ before
Radioed meaning (posts m) before after = SameBag (meaning after).bag (m ∷ (meaning before).bag)
Radioed meaning (takes m) before after = SameBag (meaning before).bag (m ∷ (meaning after).bag)

-- how a field stands: its tables, and what its link means
pub record Situation : Type 0 where
  pub tables : Tables
  pub link : Meaning

-- what a call leads to, by its first refusal: refused, it changes nothing; accepted, it leaves its tables, and
-- the link means anything lawful that fits what the call does there
abbrev pub LeadsBy : {A : Type 0} → Option Fault → Call A → Situation → Situation → Type 0
LeadsBy (Some f) call before after = after ≡ before
LeadsBy None call before after =
    (after.tables ≡ call.after) × Radioed (λ m. m) call.radio before.link after.link × Lawful after.link

abbrev pub Leads : {A : Type 0} → Step A → Situation → Situation → Type 0
Leads step before after =
    let call = step before.tables before.link in LeadsBy (first_refusal call.checks) call before after

-- one call of a working field with any arguments, accepted or refused
pub data Called (before after : Situation) : Type 0 where
  opens : (s : ℕ) → Leads (opening s) before after → Called before after
  uses : (s t : ℕ) → Leads (making_use s t) before after → Called before after
  gives_back : (s t : ℕ) → Leads (giving_back s t) before after → Called before after
  hands_on : (s d t : ℕ) → Leads (handing_on s d t) before after → Called before after
  drops : (s t : ℕ) → Leads (dropping s t) before after → Called before after
  erases : (s t : ℕ) → Leads (erasing s t) before after → Called before after
  sends : (duty : Duty) (s t : ℕ) → Leads (sending duty s t) before after → Called before after
  acks_copy : (s p k : ℕ) → Leads (sending_copy_ack s p k) before after → Called before after
  delivers : (place : ℕ) → Leads (delivering place) before after → Called before after

-- a day: any list of calls, one after the other
pub data Day (start : Situation) : Situation → Type 0 where
  begins : Day start start
  goes_on : {now next : Situation} → Day start now → Called now next → Day start next

-- it holds on every day that starts so, at every moment
abbrev pub OnEveryDay : (Situation → Type 0) → Situation → Type 0
OnEveryDay P start = (now : Situation) → Day start now → P now
