-- Tables of entries. A table is a list of places; a place is empty or has one entry.
use Rattle.std.specs.Prelude.{◌≡◌, ℕ, Bool, false, cond, List, [], ◌∷◌, ◌++◌, length, is_some, Some, None, count_by, Option}
use Rattle.std.specs.List.{prefix_len}

-- the entries of a table, in the order of their places
unfoldable pub entries : {E : Type 0} → List (Option E) → List E
entries [] = []
entries (None ∷ xs) = entries xs
entries (Some x ∷ xs) = x ∷ entries xs

-- how many entries pass a test; an empty place passes none
unfoldable pub times : {E : Type 0} → (E → Bool) → List (Option E) → ℕ
times p xs = count_by p (entries xs)

-- the table with e in its first empty place; a full table stays as it is
unfoldable pub placed : {E : Type 0} → E → List (Option E) → List (Option E)
placed e [] = []
placed e (None ∷ xs) = Some e ∷ xs
placed e (Some x ∷ xs) = Some x ∷ placed e xs

-- the first entry that passes a test
unfoldable pub first : {E : Type 0} → (E → Bool) → List (Option E) → Option E
first p [] = None
first p (None ∷ xs) = first p xs
first p (Some x ∷ xs) = cond (p x) (Some x) (first p xs)

-- the table without that entry: the places behind it move up by one, and the last one is empty.
-- Where no entry passes, the table stays as it is.
unfoldable pub struck : {E : Type 0} → (E → Bool) → List (Option E) → List (Option E)
struck p [] = []
struck p (None ∷ xs) = None ∷ struck p xs
struck p (Some x ∷ xs) = cond (p x) (xs ++ (None ∷ [])) (Some x ∷ struck p xs)

-- whether a place has an entry that passes a test
abbrev pub hit : {E : Type 0} → (E → Bool) → Option E → Bool
hit p None = false
hit p (Some x) = p x

-- the entries stand in the first places, with no empty place between them
abbrev pub Packed : {E : Type 0} → List (Option E) → Type 0
Packed xs = prefix_len is_some xs ≡ length (entries xs)

-- a list without the first element that passes a test
unfoldable pub without : {E : Type 0} → (E → Bool) → List E → List E
without p [] = []
without p (x ∷ xs) = cond (p x) xs (x ∷ without p xs)
