-- What the library's `position` tells of the first element that passes a test.
use Rattle.std.proofs.Common.{◌≡◌, ℕ, ◌<◌, ◌≤◌, Bool, List, length, position, Some, None, arith}
use Rattle.std.specs.List.{position_or_len}
use Rattle.std.proofs.lemmas.Bool.Decides.{nat_tests}

module _ {X : Type 0} (q : X → Bool) (xs : List X) where
  pub position_some : (i : ℕ) → Some i ≡ position q xs → (i ≡ position_or_len q xs) × (position_or_len q xs < length xs)
  position_some i is = (grind (arith, nat_tests), grind (arith, nat_tests))

  pub position_none : None ≡ position q xs → length xs ≤ position_or_len q xs
  position_none is = grind (arith, nat_tests)
