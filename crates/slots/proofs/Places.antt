-- What placing does to a table: it fills the first empty place.
use Rattle.std.proofs.Common.{◌≡◌, ℕ, zero, suc, ◌+◌, ◌<◌, ◌≤◌, true, false, List, [], ◌∷◌, length, get_or, take, set, is_none, is_some, position, Some, None, Option, refl, ap, arith}
use Rattle.std.specs.List.{position_or_len}
use Rattle.std.specs.Option.{option_to_list}
use Rattle.std.proofs.lemmas.List.{length-append, length-take}
use Rattle.slots.specs.Entries.{entries, placed}
use Rattle.slots.proofs.Counts.{entries_le, entries_take_more}
use Rattle.slots.proofs.Positions.{position_none, position_some}

module _ {E : Type 0} where
  -- how many places are taken before the first empty one
  abbrev first_empty : List (Option E) → ℕ
  first_empty xs = position_or_len is_none xs

  placed_first : (e : E) (xs : List (Option E)) → first_empty xs < length xs → set xs (first_empty xs) (Some e) ≡ placed e xs
  unfolding placed
  placed_first e [] within = absurd (omega arith)
  placed_first e (None ∷ xs) within = refl
  placed_first e (Some x ∷ xs) within = grind (arith, placed_first e xs)

  -- an empty place is room
  room_first : (xs : List (Option E)) → first_empty xs < length xs → length (entries xs) < length xs
  unfolding entries
  room_first [] within = absurd (omega arith)
  room_first (None ∷ xs) within = omega (arith, entries_le xs)
  room_first (Some x ∷ xs) within = omega (arith, room_first xs (omega arith))

  -- with no empty place there is none
  full_first : (xs : List (Option E)) → length xs ≤ first_empty xs → length xs ≤ length (entries xs)
  unfolding entries
  full_first [] past = omega arith
  full_first (None ∷ xs) past = absurd (omega arith)
  full_first (Some x ∷ xs) past = omega (arith, full_first xs (omega arith))

  pub placed_full : (e : E) (xs : List (Option E)) → length xs ≤ length (entries xs) → placed e xs ≡ xs
  unfolding entries placed
  placed_full e [] full = refl
  placed_full e (None ∷ xs) full = absurd (omega (arith, entries_le xs))
  placed_full e (Some x ∷ xs) full = ap (λ ys. Some x ∷ ys) (placed_full e xs (omega arith))

  -- the first empty place takes the entry, and was room
  pub placed_at : (e : E) (xs : List (Option E)) (i : ℕ) → Some i ≡ position is_none xs → set xs i (Some e) ≡ placed e xs
  placed_at e xs i is = let at = position_some is_none xs i is in rw at.0 (placed_first e xs at.1)

  pub room_at : (xs : List (Option E)) (i : ℕ) → Some i ≡ position is_none xs → length (entries xs) < length xs
  room_at xs i is = room_first xs (position_some is_none xs i is).1

  -- where no place is empty the table is full and stays as it is
  pub full_none : (xs : List (Option E)) → None ≡ position is_none xs → length xs ≤ length (entries xs)
  full_none xs is = full_first xs (position_none is_none xs is)

  pub placed_none : (e : E) (xs : List (Option E)) → None ≡ position is_none xs → placed e xs ≡ xs
  placed_none e xs is = placed_full e xs (full_none xs is)

  -- the first i places are taken, and so is the next
  pub taken_more : (xs : List (Option E)) (i : ℕ) (d : Option E) → i < length xs → length (entries (take i xs)) ≡ i → is_some (get_or xs i d) ≡ true → length (entries (take (i + 1) xs)) ≡ i + 1
  taken_more xs i d within front here = grind (arith, entries_take_more xs i d within, length-append (entries (take i xs)) (option_to_list (get_or xs i d)))

  -- the first i places are taken, and the next is empty
  pub placed_behind : (e : E) (xs : List (Option E)) (i : ℕ) (d : Option E) → i < length xs → length (entries (take i xs)) ≡ i → is_some (get_or xs i d) ≡ false → set xs i (Some e) ≡ placed e xs
  unfolding entries placed
  placed_behind e [] i d within front here = absurd (omega arith)
  placed_behind e (None ∷ xs) zero d within front here = refl
  placed_behind e (None ∷ xs) (suc i) d within front here = absurd (omega (arith, entries_le (take i xs), length-take i xs))
  placed_behind e (Some x ∷ xs) zero d within front here = absurd cc
  placed_behind e (Some x ∷ xs) (suc i) d within front here =
      ap (λ ys. Some x ∷ ys) (placed_behind e xs i d (omega arith) (omega arith) here)

  -- any empty place is room
  pub room_at_any : (xs : List (Option E)) (i : ℕ) (d : Option E) → i < length xs → is_some (get_or xs i d) ≡ false → length (entries xs) < length xs
  unfolding entries
  room_at_any [] i d within here = absurd (omega arith)
  room_at_any (None ∷ xs) i d within here = omega (arith, entries_le xs)
  room_at_any (Some x ∷ xs) zero d within here = absurd cc
  room_at_any (Some x ∷ xs) (suc i) d within here = omega (arith, room_at_any xs i d (omega arith) here)
