-- What it means that a field carries out a call.
use Rattle.std.specs.Prelude.{◌≡◌, ◌∷◌, Some, None, Ok, Err, Option, Result}
use Rattle.link.specs.Meaning.{Meaning}
use Rattle.link.specs.Messages.{SameBag}
use Rattle.protocol.specs.Calls.{Call, Radio, Step, first_refusal, posts, silent, takes, told}
use Rattle.protocol.specs.Refusals.{Fault}
use Rattle.days.specs.Days.{Situation}
use Rattle.protocol.specs.declared.refusal.Refusal.{Refusal}
use Rattle.field.specs.declared.Field.{Field}

-- what happens on the link: nothing, or the message waits once more, or once less
abbrev pub Radioed : {L : Type 0} → (L → Meaning) → Radio → L → L → Type 0
Radioed meaning silent before after = after ≡ before
Radioed meaning (posts m) before after = SameBag (meaning after).bag (m ∷ (meaning before).bag)
Radioed meaning (takes m) before after = SameBag (meaning before).bag (m ∷ (meaning after).bag)

-- how a field stands, as a day sees it
abbrev pub situation : {L M : Type 0} → (L → Meaning) → Field L M → Situation
situation meaning field = record { tables = field.tables; link = meaning field.link }

module _ {L M A : Type 0} (meaning : L → Meaning) (counted : M → M) where
  -- a call, by its first refusal: where there is one it is told and nothing changes, the link neither; else the
  -- call answers and does what it is to do
  abbrev pub CarriedBy : Option Fault → Call A → Field L M → Field L M → Result A Refusal → Type 0
  CarriedBy (Some f) call before after r = (told r ≡ Err f) × (after ≡ before)
  CarriedBy None call before after r =
      (r ≡ Ok call.answer)
      × (after.tables ≡ call.after)
      × (after.mode ≡ counted before.mode)
      × Radioed meaning call.radio before.link after.link

  -- the field carries out the step
  abbrev pub Carried : Step A → Field L M → Field L M → Result A Refusal → Type 0
  Carried step before after r =
      let call = step before.tables (meaning before.link) in
      CarriedBy (first_refusal call.checks) call before after r
