-- The laws of placing and striking that the layers above use: what each does to the count of every key,
-- and, where the entries stand packed, to their order.
use Rattle.std.proofs.Common.{◌≡◌, ℕ, zero, suc, ◌+◌, ◌<◌, Bool, true, cond, ltb, List, [], ◌∷◌, ◌++◌, length, get_or, is_some, Some, None, Option, sym, refl, ap, ◌∙◌, ⊎_elim, arith}
use Rattle.std.proofs.lemmas.List.{append-nil, length_push, nil_from_length}
use Rattle.std.proofs.lemmas.Bool.{cases_Bool, cond-false, cond-true, le-ltb}
use Rattle.std.proofs.lemmas.Bool.Decides.{nat_tests}
use Rattle.std.proofs.lemmas.Option.{slice_get-get_or}
use Rattle.std.specs.List.{slice_get, prefix_len}
use Rattle.std.specs.Option.{option_flatten}
use Rattle.slots.specs.Entries.{entries, first, Packed, placed, struck, times, without}
use Rattle.slots.proofs.Counts.{entries-append, entries_le, times-append, times_le, times_none, times_some}

module _ {E : Type 0} where
  -- placing: the table keeps its length, and has one entry more where there is room
  pub length-placed : (e : E) (xs : List (Option E)) → length (placed e xs) ≡ length xs
  unfolding placed
  length-placed e [] = refl
  length-placed e (None ∷ xs) = refl
  length-placed e (Some x ∷ xs) = ap suc (length-placed e xs)

  pub times-placed : (q : E → Bool) (e : E) (xs : List (Option E)) → length (entries xs) < length xs → times q (placed e xs) ≡ times q xs + times q (Some e ∷ [])
  unfolding placed entries
  times-placed q e [] room = absurd (omega arith)
  times-placed q e (None ∷ xs) room = omega (arith, times_some q e xs, times_none q xs, times_some q e [], times_le q [])
  times-placed q e (Some x ∷ xs) room =
      omega (arith, times_some q x (placed e xs), times_some q x xs, times-placed q e xs (omega arith))

  -- a count of all the entries below the length is room
  pub room_from_times : (q : E → Bool) (xs : List (Option E)) → ((x : E) → q x ≡ true) → times q xs < length xs → length (entries xs) < length xs
  unfolding entries
  room_from_times q [] all few = absurd (omega arith)
  room_from_times q (None ∷ xs) all few = omega (arith, entries_le xs)
  room_from_times q (Some x ∷ xs) all few = grind (arith, room_from_times q xs all, times_some q x xs, all x)

  module _ (p : E → Bool) where
    -- a table keeps its length
    pub length-struck : (xs : List (Option E)) → length (struck p xs) ≡ length xs
    unfolding struck
    length-struck [] = refl
    length-struck (None ∷ xs) = ap suc (length-struck xs)
    length-struck (Some x ∷ xs) = grind (arith, length-struck xs, length_push xs None)

    -- the entry that goes passes the test
    pub first_passes : (xs : List (Option E)) (y : E) → first p xs ≡ Some y → p y ≡ true
    unfolding first
    first_passes [] y is = absurd cc
    first_passes (None ∷ xs) y is = first_passes xs y is
    first_passes (Some x ∷ xs) y is = grind (arith, first_passes xs y)

    -- where a match is counted, a strike finds one
    pub first_found : (xs : List (Option E)) → 0 < times p xs → (y : E) × (first p xs ≡ Some y)
    unfolding first
    first_found [] some' = absurd (omega (arith, times_le p []))
    first_found (None ∷ xs) some' = first_found xs (omega (arith, times_none p xs))
    first_found (Some x ∷ xs) some' =
        ⊎_elim
        (λ yes'. (x, cond-true _ _ _ yes'))
        (λ no'.
        let less : times p xs ≡ times p (Some x ∷ xs) = sym (times_some p x xs ∙ ap (λ b. cond b 1 0 + times p xs) no' ∙ omega arith) in
        let found = first_found xs (omega arith) in (found.0, cond-false _ _ _ no' ∙ found.1))
        (cases_Bool (p x))

    -- an entry is found exactly where a match is counted
    pub first_test : (xs : List (Option E)) → is_some (first p xs) ≡ ltb 0 (times p xs)
    unfolding first
    first_test [] = sym (le-ltb 0 (times p []) (times_le p []))
    first_test (None ∷ xs) = first_test xs ∙ ap (ltb 0) (sym (times_none p xs))
    first_test (Some x ∷ xs) = grind (arith, nat_tests, first_test xs, times_some p x xs)

    -- the entry that goes is counted once less, and every other as before
    pub times-struck : (q : E → Bool) (xs : List (Option E)) → times q (struck p xs) + times q (first p xs ∷ []) ≡ times q xs
    unfolding first struck
    times-struck q [] = omega (arith, times_le q [], times_none q [])
    times-struck q (None ∷ xs) = omega (arith, times_none q (struck p xs), times_none q xs, times-struck q xs)
    times-struck q (Some x ∷ xs) =
        grind (arith, times-struck q xs, times-append q xs (None ∷ []), times_none q [], times_le q [], times_some q x [], times_some q x xs, times_some q x (struck p xs))

    -- the other entries keep their order
    pub entries-struck : (xs : List (Option E)) → entries (struck p xs) ≡ without p (entries xs)
    unfolding entries struck without
    entries-struck [] = refl
    entries-struck (None ∷ xs) = entries-struck xs
    entries-struck (Some x ∷ xs) = grind (arith, entries-struck xs, entries-append xs (None ∷ []), append-nil (entries xs))

  -- a table with no entries begins with none
  leading_empty : (xs : List (Option E)) → length (entries xs) ≡ 0 → prefix_len is_some xs ≡ 0
  unfolding entries
  leading_empty [] none = refl
  leading_empty (None ∷ xs) none = refl
  leading_empty (Some x ∷ xs) none = absurd (omega arith)

  -- packed tables: placing adds at the end, and striking leaves them packed
  pub entries-placed : (e : E) (xs : List (Option E)) → Packed xs → length (entries xs) < length xs → entries (placed e xs) ≡ entries xs ++ (e ∷ [])
  unfolding entries placed
  entries-placed e [] packed room = absurd (omega arith)
  entries-placed e (None ∷ xs) packed room = let none = nil_from_length (entries xs) (sym packed) in rw none
  entries-placed e (Some x ∷ xs) packed room = ap (λ ys. x ∷ ys) (entries-placed e xs (omega arith) (omega arith))

  pub packed_placed : (e : E) (xs : List (Option E)) → Packed xs → Packed (placed e xs)
  unfolding entries placed
  packed_placed e [] packed = packed
  packed_placed e (None ∷ xs) packed = omega (arith, leading_empty xs (sym packed))
  packed_placed e (Some x ∷ xs) packed = omega (arith, packed_placed e xs (omega arith))

  packed_push : (xs : List (Option E)) → Packed xs → Packed (xs ++ (None ∷ []))
  unfolding entries
  packed_push [] packed = refl
  packed_push (None ∷ xs) packed = packed ∙ ap length (sym (append-nil (entries xs)) ∙ sym (entries-append xs (None ∷ [])))
  packed_push (Some x ∷ xs) packed = omega (arith, packed_push xs (omega arith))

  pub packed_struck : (p : E → Bool) (xs : List (Option E)) → Packed xs → Packed (struck p xs)
  unfolding entries struck without
  packed_struck p [] packed = packed
  packed_struck p (None ∷ xs) packed =
      let none = nil_from_length (entries xs) (sym packed) in
      sym (ap length (entries-struck p xs ∙ ap (without p) none))
  packed_struck p (Some x ∷ xs) packed = grind (arith, packed_push xs, packed_struck p xs)

  -- in a packed table an entry stands at its own number, and none behind the last
  pub get_packed : (xs : List (Option E)) (i : ℕ) → Packed xs → slice_get (entries xs) i ≡ option_flatten (slice_get xs i)
  unfolding entries
  get_packed [] i packed = refl
  get_packed (None ∷ xs) zero packed = ap (λ ys. slice_get ys 0) (nil_from_length (entries xs) (sym packed))
  get_packed (None ∷ xs) (suc i) packed =
      let none = nil_from_length (entries xs) (sym packed) in
      ap (λ ys. slice_get ys (suc i)) none ∙ sym (ap (λ ys. slice_get ys i) none) ∙ get_packed xs i (leading_empty xs (sym packed) ∙ packed)
  get_packed (Some x ∷ xs) zero packed = refl
  get_packed (Some x ∷ xs) (suc i) packed = get_packed xs i (omega arith)

  -- the same of a place within the table
  pub nth_packed : (xs : List (Option E)) (i : ℕ) (d : Option E) → Packed xs → i < length xs → slice_get (entries xs) i ≡ get_or xs i d
  nth_packed xs i d packed within = get_packed xs i packed ∙ ap option_flatten (slice_get-get_or xs i d within)
