-- Counts over tables of entries, and sums over all cells.
use Rattle.std.proofs.Common.{◌≡◌, ℕ, ◌+◌, ◌<◌, ◌≤◌, Bool, true, false, not, ◌&&◌, ◌||◌, eqb, List, [], ◌∷◌, map, length, get_or, set, Some, None, sum_by, Option, sym, refl, ap, ◌∙◌, ⊎_elim, arith}
use Rattle.std.proofs.lemmas.List.Sums.{sum_by-set}
use Rattle.std.proofs.lemmas.Bool.{and_from, and_parts, cases_Bool, eq-eqb, eqb-true}
use Rattle.slots.specs.Entries.{first, struck, times}
use Rattle.slots.proofs.Counts.{times_le, times_none, times_some}
use Rattle.slots.proofs.Laws.{times-struck}
use Rattle.cells.specs.Cells.{blank}
use Rattle.cells.specs.declared.Cell.{Cell}
use Rattle.tables.specs.Copies.{freed, same_hand_on}
use Rattle.tables.specs.Kept.{cell_at, in_tables, with_cell}
use Rattle.tables.specs.declared.entries.HandOn.{HandOn}
use Rattle.tables.specs.declared.entries.Received.{Received}
use Rattle.tables.specs.declared.tables.Tables.{Tables}
use Rattle.days.proofs.Pictures.{bit}

-- a blocked entry of a station and a trace
abbrev pub blocked_at : ℕ → ℕ → Received → Bool
blocked_at s t e = not e.due && (eqb e.copy.receiver s && eqb e.copy.trace t)

-- a received entry of a hand-on
abbrev pub received_of : HandOn → Received → Bool
received_of q e = same_hand_on q e.copy

bit_mono : (a b : Bool) → (a ≡ true → b ≡ true) → bit a ≤ bit b
bit_mono true b h = omega (arith, ap bit (h refl))
bit_mono false b h = omega arith

module _ {E : Type 0} where
  -- a test that passes less counts less
  pub times_mono : (p q : E → Bool) → ((x : E) → p x ≡ true → q x ≡ true) → (xs : List (Option E)) → times p xs ≤ times q xs
  times_mono p q h [] = omega (arith, times_le p [])
  times_mono p q h (None ∷ xs) = omega (arith, times_none p xs, times_none q xs, times_mono p q h xs)
  times_mono p q h (Some x ∷ xs) =
      omega (arith, times_some p x xs, times_some q x xs, times_mono p q h xs, bit_mono (p x) (q x) (h x))

  -- tests that agree count the same
  pub times_agree : (p q : E → Bool) → ((x : E) → p x ≡ q x) → (xs : List (Option E)) → times p xs ≡ times q xs
  times_agree p q h [] = omega (arith, times_le p [], times_le q [])
  times_agree p q h (None ∷ xs) = omega (arith, times_none p xs, times_none q xs, times_agree p q h xs)
  times_agree p q h (Some x ∷ xs) =
      omega (arith, times_some p x xs, times_some q x xs, times_agree p q h xs, ap bit (h x))

  -- what one entry counts
  pub times_one : (p : E → Bool) (x : E) → times p (Some x ∷ []) ≡ bit (p x)
  times_one p x = omega (arith, times_some p x [], times_le p [])

  pub times_no_one : (p : E → Bool) → times p (None ∷ []) ≡ 0
  times_no_one p = omega (arith, times_none p [], times_le p [])

  -- the entry that a test finds is counted by every test that it passes
  pub first_counted : (p q : E → Bool) (xs : List (Option E)) (y : E) → first p xs ≡ Some y → q y ≡ true → 0 < times q xs
  first_counted p q xs y found passes =
      let one = ap (λ o. times q (o ∷ [])) found ∙ times_one q y ∙ ap bit passes in omega (arith, times-struck p q xs)

  -- a strike lowers no count by more than the one that goes
  pub struck_le : (p q : E → Bool) (xs : List (Option E)) → times q (struck p xs) ≤ times q xs
  struck_le p q xs = omega (arith, times-struck p q xs)

  pub struck_found : (p q : E → Bool) (xs : List (Option E)) (y : E) → first p xs ≡ Some y → times q (struck p xs) + bit (q y) ≡ times q xs
  struck_found p q xs y found =
      let one = ap (λ o. times q (o ∷ [])) found ∙ times_one q y in omega (arith, times-struck p q xs)

-- the entry that matches a hand-on is that hand-on
pub same_hand_on_self : (q : HandOn) → same_hand_on q q ≡ true
same_hand_on_self q =
    and_from _ _ (eq-eqb q.packet q.packet refl)
    (and_from _ _ (eq-eqb q.sender q.sender refl) (and_from _ _ (eq-eqb q.receiver q.receiver refl) (eq-eqb q.trace q.trace refl)))

pub same_hand_on_is : (p q : HandOn) → same_hand_on p q ≡ true → q ≡ p
same_hand_on_is p q yes' =
    let a = and_parts (eqb q.packet p.packet) _ yes' in
    let b = and_parts (eqb q.sender p.sender) _ a.1 in
    let c = and_parts (eqb q.receiver p.receiver) _ b.1 in
    let k = eqb-true q.packet p.packet a.0 in
    let s = eqb-true q.sender p.sender b.0 in
    let r = eqb-true q.receiver p.receiver c.0 in
    let t = eqb-true q.trace p.trace c.1 in
    λ i. record { packet = k i; sender = s i; receiver = r i; trace = t i }

-- the owner's confirmation keeps every hand-on; it blocks nothing of the two any more, and leaves the others
freed_bit : (d h g : Bool) → (h && g) ≡ false → (not (d || h) && g) ≡ (not d && g)
freed_bit true h g apart = refl
freed_bit false true g apart = sym apart
freed_bit false false g apart = refl

freed_none : (d h : Bool) → (not (d || h) && h) ≡ false
freed_none true h = refl
freed_none false true = refl
freed_none false false = refl

pub freed_copies : (s t : ℕ) (q : HandOn) (xs : List (Option Received)) → times (received_of q) (map (freed s t) xs) ≡ times (received_of q) xs
freed_copies s t q [] = refl
freed_copies s t q (None ∷ xs) =
    omega (arith, times_none (received_of q) xs, times_none (received_of q) (map (freed s t) xs), freed_copies s t q xs)
freed_copies s t q (Some e ∷ xs) =
    let e' : Received = record { copy = e.copy; due = e.due || (eqb e.copy.receiver s && eqb e.copy.trace t) } in
    omega (arith, times_some (received_of q) e xs, times_some (received_of q) e' (map (freed s t) xs), freed_copies s t q xs)

pub freed_all : (s t : ℕ) (xs : List (Option Received)) → times (λ _. true) (map (freed s t) xs) ≡ times (λ _. true) xs
freed_all s t [] = refl
freed_all s t (None ∷ xs) =
    let p = λ (e : Received). true in omega (arith, times_none p xs, times_none p (map (freed s t) xs), freed_all s t xs)
freed_all s t (Some e ∷ xs) =
    let p = λ (e : Received). true in
    let e' : Received = record { copy = e.copy; due = e.due || (eqb e.copy.receiver s && eqb e.copy.trace t) } in
    omega (arith, times_some p e xs, times_some p e' (map (freed s t) xs), freed_all s t xs)

pub freed_here : (s t : ℕ) (xs : List (Option Received)) → times (blocked_at s t) (map (freed s t) xs) ≡ 0
freed_here s t [] = omega (arith, times_le (blocked_at s t) [])
freed_here s t (None ∷ xs) = omega (arith, times_none (blocked_at s t) (map (freed s t) xs), freed_here s t xs)
freed_here s t (Some e ∷ xs) =
    let here = eqb e.copy.receiver s && eqb e.copy.trace t in
    let e' : Received = record { copy = e.copy; due = e.due || here } in
    omega (arith, times_some (blocked_at s t) e' (map (freed s t) xs), freed_here s t xs, ap bit (freed_none e.due here))

-- an entry is of one station and one trace
one_pair : (r x s t s' t' : ℕ) → (eqb s s' && eqb t t') ≡ false → ((eqb r s && eqb x t) && (eqb r s' && eqb x t')) ≡ false
one_pair r x s t s' t' apart = ⊎_elim both' (λ n. n) (cases_Bool ((eqb r s && eqb x t) && (eqb r s' && eqb x t')))
  where
    both' : ((eqb r s && eqb x t) && (eqb r s' && eqb x t')) ≡ true → ((eqb r s && eqb x t) && (eqb r s' && eqb x t')) ≡ false
    both' yes' =
        let a = and_parts (eqb r s && eqb x t) (eqb r s' && eqb x t') yes' in
        let b = and_parts (eqb r s) (eqb x t) a.0 in
        let c = and_parts (eqb r s') (eqb x t') a.1 in
        let e : s ≡ s' = sym (eqb-true r s b.0) ∙ eqb-true r s' c.0 in
        let f : t ≡ t' = sym (eqb-true x t b.1) ∙ eqb-true x t' c.1 in
        let z : ◌≡◌ {A = Bool} true false = sym (and_from (eqb s s') (eqb t t') (eq-eqb s s' e) (eq-eqb t t' f)) ∙ apart in
        yes' ∙ z

pub freed_elsewhere : (s t s' t' : ℕ) → (eqb s s' && eqb t t') ≡ false → (xs : List (Option Received)) → times (blocked_at s' t') (map (freed s t) xs) ≡ times (blocked_at s' t') xs
freed_elsewhere s t s' t' apart [] = refl
freed_elsewhere s t s' t' apart (None ∷ xs) =
    let p = blocked_at s' t' in omega (arith, times_none p xs, times_none p (map (freed s t) xs), freed_elsewhere s t s' t' apart xs)
freed_elsewhere s t s' t' apart (Some e ∷ xs) =
    let p = blocked_at s' t' in
    let here = eqb e.copy.receiver s && eqb e.copy.trace t in
    let there = eqb e.copy.receiver s' && eqb e.copy.trace t' in
    let e' : Received = record { copy = e.copy; due = e.due || here } in
    let as_before = ap bit (freed_bit e.due here there (one_pair e.copy.receiver e.copy.trace s t s' t' apart)) in
    omega (arith, times_some p e xs, times_some p e' (map (freed s t) xs), freed_elsewhere s t s' t' apart xs, as_before)

pub length-freed : (s t : ℕ) (xs : List (Option Received)) → length (map (freed s t) xs) ≡ length xs
length-freed s t [] = refl
length-freed s t (x ∷ xs) = omega (arith, length-freed s t xs)

-- the sum over all cells, and what a change of one does to it
unfoldable pub total : (Cell → ℕ) → List (List Cell) → ℕ
total f rows = sum_by (sum_by f) rows

pub total_put : (f : Cell → ℕ) (s t : ℕ) (c : Cell) (T : Tables) → in_tables s t ≡ true → s < length T.cells → t < length (get_or T.cells s []) → total f (with_cell s t c T).cells + f (cell_at T s t) ≡ total f T.cells + f c
unfolding total
total_put f s t c T inside row column =
    let r = get_or T.cells s [] in
    let rows = sum_by-set (sum_by f) T.cells s (set r t c) [] row in
    let cells = sum_by-set f r t c blank column in
    rw inside (omega (arith, rows, cells))
