-- Sent entries are equal for the code when they agree in all four parts.
use Rattle.std.proofs.Common.{◌≡◌, refl}
use Rattle.tables.specs.Copies.{same_hand_on}
use Rattle.tables.specs.contracts.entries.HandOnPartialEq.TheImpl.{ghosts}
use Rattle.tables.specs.declared.entries.HandOn.{HandOn}

pub same_hand_on_eq : (k h : HandOn) → ghosts.eq h k ≡ same_hand_on k h
same_hand_on_eq k h = refl
