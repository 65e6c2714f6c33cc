-- The refusals of a field, by their numbers.
use Rattle.std.specs.Prelude.{ℕ, List, ◌++◌, Some, None, Option, codes, decimal}
use Rattle.protocol.specs.declared.refusal.Refusal.{Refusal}
use Rattle.protocol.specs.declared.refusal.Refusal.TheVariants.{NoStation, NoTrace, TracesSpent, ToItself, NotHeld, DropByOwner, EraseByOther, InUse, Listed, CopyOut, UsesSpent, NoUse, SentFull, PacketsSpent, Closed, NoDuty, DirtyInCcitNil, NoOffer, OutOfPlace, StationCount, FewRows}

-- a refusal as it is told: its number and, for a closed gate, the depth
pub record Fault : Type 0 where
  pub number : ℕ
  pub depth : Option ℕ

-- the refusal with this number and no depth
abbrev pub numbered : ℕ → Fault
numbered n = record { number = n; depth = None }

-- each case of the refusals, by its number
abbrev pub fault : Refusal → Fault
fault NoStation = numbered 1
fault NoTrace = numbered 2
fault TracesSpent = numbered 3
fault ToItself = numbered 4
fault NotHeld = numbered 5
fault DropByOwner = numbered 6
fault EraseByOther = numbered 7
fault InUse = numbered 8
fault Listed = numbered 9
fault CopyOut = numbered 10
fault UsesSpent = numbered 11
fault NoUse = numbered 12
fault SentFull = numbered 13
fault PacketsSpent = numbered 14
fault (Closed gate) = record { number = 15; depth = Some gate.depth }
fault NoDuty = numbered 16
fault DirtyInCcitNil = numbered 17
fault NoOffer = numbered 18
fault OutOfPlace = numbered 19
fault StationCount = numbered 20
fault FewRows = numbered 21

-- a refusal as it is shown
abbrev pub shown_at : ℕ → Option ℕ → List ℕ
shown_at n None = codes "refused " ++ decimal n
shown_at n (Some d) = codes "refused " ++ (decimal n ++ (codes " at depth " ++ decimal d))

abbrev pub shown : Fault → List ℕ
shown f = shown_at f.number f.depth
