-- How many entries a table has, and how many of them pass a test.
use Rattle.std.proofs.Common.{◌≡◌, ℕ, ◌+◌, ◌<◌, ◌≤◌, Bool, false, cond, List, [], ◌∷◌, ◌++◌, length, get_or, take, drop, Some, None, count_by, Option, sym, refl, ap, ◌∙◌, arith}
use Rattle.std.specs.Option.{option_to_list}
use Rattle.std.proofs.lemmas.List.{drop_more, take_more}
use Rattle.std.proofs.lemmas.List.Sums.{sum_by-cons, sum_by-append, count_by-le-length}
use Rattle.slots.specs.Entries.{entries, times, hit}

module _ {E : Type 0} where
  pub entries-append : (xs ys : List (Option E)) → entries (xs ++ ys) ≡ entries xs ++ entries ys
  unfolding entries
  entries-append [] ys = refl
  entries-append (None ∷ xs) ys = entries-append xs ys
  entries-append (Some x ∷ xs) ys = ap (λ zs. x ∷ zs) (entries-append xs ys)

  -- a table has no more entries than places
  pub entries_le : (xs : List (Option E)) → length (entries xs) ≤ length xs
  unfolding entries
  entries_le [] = omega arith
  entries_le (None ∷ xs) = omega (arith, entries_le xs)
  entries_le (Some x ∷ xs) = omega (arith, entries_le xs)

  -- one place more of a table, and one less of what is left
  entries_one : (o : Option E) → entries (o ∷ []) ≡ option_to_list o
  unfolding entries
  entries_one None = refl
  entries_one (Some x) = refl

  pub entries_take_more : (xs : List (Option E)) (i : ℕ) (d : Option E) → i < length xs → entries (take (i + 1) xs) ≡ entries (take i xs) ++ option_to_list (get_or xs i d)
  entries_take_more xs i d within =
      ap entries (take_more xs i d within)
      ∙ entries-append (take i xs) (get_or xs i d ∷ [])
      ∙ ap (λ ys. entries (take i xs) ++ ys) (entries_one (get_or xs i d))

  entries-cons : (o : Option E) (xs : List (Option E)) → entries (o ∷ xs) ≡ option_to_list o ++ entries xs
  unfolding entries
  entries-cons None xs = refl
  entries-cons (Some x) xs = refl

  pub entries_drop_more : (xs : List (Option E)) (i : ℕ) (d : Option E) → i < length xs → entries (drop i xs) ≡ option_to_list (get_or xs i d) ++ entries (drop (i + 1) xs)
  entries_drop_more xs i d within = ap entries (drop_more xs i d within) ∙ entries-cons (get_or xs i d) (drop (i + 1) xs)

  module _ (p : E → Bool) where
    pub times_none : (xs : List (Option E)) → times p (None ∷ xs) ≡ times p xs
    unfolding times entries
    times_none xs = refl

    pub times_some : (x : E) (xs : List (Option E)) → times p (Some x ∷ xs) ≡ cond (p x) 1 0 + times p xs
    unfolding times entries
    times_some x xs = sum_by-cons (λ y. cond (p y) 1 0) x (entries xs)

    pub times-append : (xs ys : List (Option E)) → times p (xs ++ ys) ≡ times p xs + times p ys
    unfolding times
    times-append xs ys =
        ap (count_by p) (entries-append xs ys) ∙ sum_by-append (λ y. cond (p y) 1 0) (entries xs) (entries ys)

    -- no more entries pass than there are places
    pub times_le : (xs : List (Option E)) → times p xs ≤ length xs
    unfolding times
    times_le xs = omega (arith, entries_le xs, count_by-le-length p (entries xs))

    times_one : (o : Option E) → times p (o ∷ []) ≡ cond (hit p o) 1 0
    unfolding times entries
    times_one None = refl
    times_one (Some x) = times_some x [] ∙ omega arith

    -- one place more
    pub times_more : (xs : List (Option E)) (i : ℕ) (o : Option E) → i < length xs → o ≡ get_or xs i o → times p (take (i + 1) xs) ≡ times p (take i xs) + cond (hit p o) 1 0
    times_more xs i o within read =
        ap (times p) (take_more xs i o within ∙ ap (λ y. take i xs ++ (y ∷ [])) (sym read))
        ∙ times-append (take i xs) (o ∷ [])
        ∙ ap (λ n. times p (take i xs) + n) (times_one o)

    -- the places whose entry passes are as many as the entries that pass
    pub count_by-hit : (xs : List (Option E)) → count_by (hit p) xs ≡ times p xs
    unfolding times entries
    count_by-hit [] = refl
    count_by-hit (None ∷ xs) = omega (arith, sum_by-cons (λ o. cond (hit p o) 1 0) None xs, count_by-hit xs)
    count_by-hit (Some x ∷ xs) =
        omega (arith, sum_by-cons (λ o. cond (hit p o) 1 0) (Some x) xs, count_by-hit xs, times_some x xs)

    -- where no entry passes, neither does the first
    pub misses : (x : E) (xs : List (Option E)) → times p (Some x ∷ xs) ≡ 0 → (p x ≡ false) × (times p xs ≡ 0)
    misses x xs none = (grind (arith, times_some x xs), omega (arith, times_some x xs))
