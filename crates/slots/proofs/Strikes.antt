-- What striking does to a table, place by place.
use Rattle.std.proofs.Common.{◌≡◌, ℕ, suc, ◌-◌, ◌<◌, ◌≤◌, Bool, List, [], ◌∷◌, ◌++◌, length, get_or, take, drop, set, position, find, Some, None, Option, refl, ap, ◌∙◌, ⊎_elim, add-one, one-add, arith}
use borrow.Rule.Slice.PartMut.{put_mid}
use Rattle.std.specs.List.{position_or_len}
use Rattle.std.proofs.lemmas.List.{append-nil, drop_all, drop-set, length-drop, take_rest, take-set}
use Rattle.std.proofs.lemmas.Bool.{cases_Bool}
use Rattle.std.proofs.lemmas.Bool.Decides.{nat_tests}
use Rattle.std.specs.Option.{option_flatten}
use Rattle.slots.specs.Entries.{entries, first, hit, struck, times}
use Rattle.slots.proofs.Counts.{misses}
use Rattle.slots.proofs.Positions.{position_none, position_some}

module _ {E : Type 0} where
  -- the place is emptied, and what stands from there on is turned by one
  pub gap_turned : (xs ys : List (Option E)) (i : ℕ) → i < length xs → ys ≡ drop 1 (take (length (set xs i None) - i) (drop i (set xs i None))) ++ take 1 (take (length (set xs i None) - i) (drop i (set xs i None))) → put_mid i (length (set xs i None) - i) (set xs i None) ys ≡ take i xs ++ (drop (suc i) xs ++ (None ∷ []))
  gap_turned xs ys i within turned =
      let rest : take (length (set xs i None) - i) (drop i (set xs i None)) ≡ None ∷ drop (suc i) xs =
      take_rest (set xs i None) i ∙ rw add-one at (drop-set xs i None within) in
      let behind : drop (length (set xs i None) - i) (drop i (set xs i None)) ≡ [] =
      drop_all (length (set xs i None) - i) (drop i (set xs i None)) (omega (arith, length-drop i (set xs i None))) in
      let back : ys ≡ drop (suc i) xs ++ (None ∷ []) = rw rest at turned in
      rw (behind, append-nil ys, back, take-set xs i None)

  pub gap_closed : (xs ys : List (Option E)) (i : ℕ) (o : Option E) → o ≡ None → i < length xs → ys ≡ drop 1 (take (length (set xs i o) - i) (drop i (set xs i o))) ++ take 1 (take (length (set xs i o) - i) (drop i (set xs i o))) → put_mid i (length (set xs i o) - i) (set xs i o) ys ≡ take i xs ++ (drop (suc i) xs ++ (None ∷ []))
  gap_closed xs ys i o none within turned = rw none (gap_turned xs ys i within (rw none at turned))

  module _ (p : E → Bool) where
    -- how many places stand before the first one whose entry passes
    abbrev place_of : List (Option E) → ℕ
    place_of xs = position_or_len (hit p) xs

    first_here : (xs : List (Option E)) (d : Option E) → place_of xs < length xs → first p xs ≡ get_or xs (place_of xs) d
    unfolding first
    first_here [] d within = absurd (omega arith)
    first_here (None ∷ xs) d within = grind (arith, first_here xs d)
    first_here (Some x ∷ xs) d within = grind (arith, first_here xs d)

    struck_here : (xs : List (Option E)) → place_of xs < length xs → struck p xs ≡ take (place_of xs) xs ++ (drop (suc (place_of xs)) xs ++ (None ∷ []))
    unfolding struck
    struck_here [] within = absurd (omega arith)
    struck_here (None ∷ xs) within = rw (one-add) (ap (λ ys. None ∷ ys) (struck_here xs (omega arith)))
    struck_here (Some x ∷ xs) within =
        ⊎_elim
        (λ yes'. rw yes' refl)
        (λ no'. let less = rw no' at within in rw (no', one-add) (ap (λ ys. Some x ∷ ys) (struck_here xs (omega arith))))
        (cases_Bool (p x))

    -- where no entry passes
    first_past : (xs : List (Option E)) → length xs ≤ place_of xs → first p xs ≡ None
    unfolding first
    first_past [] none = refl
    first_past (None ∷ xs) none = first_past xs (omega arith)
    first_past (Some x ∷ xs) none = grind (arith, first_past xs)

    struck_past : (xs : List (Option E)) → length xs ≤ place_of xs → struck p xs ≡ xs
    unfolding struck
    struck_past [] none = refl
    struck_past (None ∷ xs) none = ap (λ ys. None ∷ ys) (struck_past xs (omega arith))
    struck_past (Some x ∷ xs) none = grind (arith, struck_past xs)

    -- the same by the library's `position`
    pub first_at : (xs : List (Option E)) (i : ℕ) (d : Option E) → Some i ≡ position (hit p) xs → first p xs ≡ get_or xs i d
    first_at xs i d is = let at = position_some (hit p) xs i is in rw at.0 (first_here xs d at.1)

    pub struck_at : (xs : List (Option E)) (i : ℕ) → Some i ≡ position (hit p) xs → struck p xs ≡ take i xs ++ (drop (suc i) xs ++ (None ∷ []))
    struck_at xs i is = let at = position_some (hit p) xs i is in rw at.0 (struck_here xs at.1)

    pub within : (xs : List (Option E)) (i : ℕ) → Some i ≡ position (hit p) xs → i < length xs
    within xs i is = let at = position_some (hit p) xs i is in rw at.0 at.1

    pub first_none : (xs : List (Option E)) → None ≡ position (hit p) xs → first p xs ≡ None
    first_none xs is = first_past xs (position_none (hit p) xs is)

    pub struck_none : (xs : List (Option E)) → None ≡ position (hit p) xs → struck p xs ≡ xs
    struck_none xs is = struck_past xs (position_none (hit p) xs is)

    -- the same by a count of 0
    pub position_of_none : (xs : List (Option E)) → times p xs ≡ 0 → None ≡ position (hit p) xs
    unfolding times entries
    position_of_none [] none = refl
    position_of_none (None ∷ xs) none = grind (arith, nat_tests, position_of_none xs)
    position_of_none (Some x ∷ xs) none = grind (arith, nat_tests, position_of_none xs, misses p x xs none)

    pub first_uncounted : (xs : List (Option E)) → times p xs ≡ 0 → first p xs ≡ None
    first_uncounted xs none = first_none xs (position_of_none xs none)

    pub struck_uncounted : (xs : List (Option E)) → times p xs ≡ 0 → struck p xs ≡ xs
    struck_uncounted xs none = struck_none xs (position_of_none xs none)

    -- the same by the library's `find`
    pub first_find : (xs : List (Option E)) → option_flatten (find (hit p) xs) ≡ first p xs
    unfolding first
    first_find [] = refl
    first_find (None ∷ xs) = first_find xs
    first_find (Some x ∷ xs) = grind (arith, first_find xs)
