-- What the 128 places hold: how much fits, and that an open gate is an empty place.
use Rattle.std.proofs.Common.{◌≡◌, ℕ, ◌<◌, ◌≤◌, Bool, List, length, Option, arith}
use Rattle.std.proofs.lemmas.Bool.Decides.{nat_tests}
use Rattle.slots.specs.Entries.{entries, times}
use Rattle.slots.proofs.Counts.{entries_le, times_le}
use Rattle.link.specs.Gates.{open_gate}
use Rattle.link.specs.declared.message.Message.{Message}
use Rattle.places.specs.Posting.{end_gate}

-- no more match than there are places
pub times_few : (p : Message → Bool) (xs : List (Option Message)) → length xs ≡ 128 → times p xs ≤ 128
times_few p xs sized = omega (arith, times_le p xs)

pub entries_few : (xs : List (Option Message)) → length xs ≡ 128 → length (entries xs) ≤ 128
entries_few xs sized = omega (arith, entries_le xs)

-- an open gate is an empty place
pub room_open : (xs : List (Option Message)) (s : ℕ) → length xs ≡ 128 → end_gate (entries xs) s ≡ open_gate → length (entries xs) < length xs
room_open xs s sized is = grind (arith, nat_tests, entries_le xs)
