-- The fronts of a row, slot by slot.
use Rattle.std.proofs.Common.{◌≡◌, ℕ, zero, suc, ◌+◌, ◌<◌, ◌≤◌, List, [], ◌∷◌, length, get_or, take, drop, Some, None, Option, filter_map, sym, refl, ap, ◌∙◌, arith}
use Rattle.std.proofs.lemmas.List.{append-nil, drop_all}
use Rattle.std.proofs.lemmas.Bool.Decides.{nat_tests}
use Rattle.std.proofs.lemmas.Option.{slice_get-get_or}
use Rattle.std.specs.Option.{option_flatten}
use Rattle.std.specs.List.{cons_option, range_with_len}
use Rattle.slots.specs.Entries.{entries, times}
use Rattle.slots.proofs.Counts.{entries_drop_more, entries_take_more}
use Rattle.ends.specs.Ends.{front_at, front_of, fronts}
use Rattle.link.specs.Messages.{between}
use Rattle.link.specs.declared.message.Message.{Message}

-- the offers from slot i on
abbrev pub fronts_from : List (Option Message) → ℕ → List Message
fronts_from xs i = fronts (entries (take i xs)) (entries (drop i xs))

pub fronts_start : (xs : List (Option Message)) → fronts_from xs 0 ≡ fronts [] (entries xs)
unfolding entries
fronts_start xs = refl

pub fronts_end : (xs : List (Option Message)) (i : ℕ) → length xs ≤ i → fronts_from xs i ≡ []
unfolding entries fronts
fronts_end xs i past = ap (λ ys. fronts (entries (take i xs)) (entries ys)) (drop_all i xs past)

-- a slot offers its message, or nothing
slot : (xs : List (Option Message)) (i : ℕ) (o : Option Message) → i < length xs → get_or xs i None ≡ o → fronts_from xs i ≡ cons_option (front_of (entries (take i xs)) o) (fronts_from xs (i + 1))
unfolding fronts
slot xs i None within is = grind (arith, entries_drop_more xs i None within, entries_take_more xs i None within, append-nil (entries (take i xs)))
slot xs i (Some m) within is = grind (arith, entries_drop_more xs i None within, entries_take_more xs i None within)

-- what slot i offers, and then what the later ones do
pub fronts_next : (xs : List (Option Message)) (i : ℕ) → i < length xs → fronts_from xs i ≡ cons_option (front_at xs i) (fronts_from xs (i + 1))
fronts_next xs i within = slot xs i _ within (sym (ap option_flatten (slice_get-get_or xs i None within)))

module _ (xs : List (Option Message)) (i : ℕ) (within : i < length xs) where
  -- an empty slot offers nothing
  pub fronts_empty : get_or xs i None ≡ None → fronts_from xs i ≡ fronts_from xs (i + 1)
  fronts_empty none = slot xs i None within none

  module _ (m : Message) (is : get_or xs i None ≡ Some m) where
    -- a message behind an older one of its sender and receiver is not offered
    pub fronts_behind : 0 < times (between m.sender m.receiver) (take i xs) → fronts_from xs i ≡ fronts_from xs (i + 1)
    unfolding times
    fronts_behind some' = grind (arith, nat_tests, slot xs i (Some m) within is)

    -- any other is
    pub fronts_free : times (between m.sender m.receiver) (take i xs) ≤ 0 → fronts_from xs i ≡ m ∷ fronts_from xs (i + 1)
    unfolding times
    fronts_free none = grind (arith, nat_tests, slot xs i (Some m) within is)

fronts_slots : (xs : List (Option Message)) (n i : ℕ) → i + n ≡ length xs → filter_map (front_at xs) (range_with_len i n) ≡ fronts_from xs i
fronts_slots xs zero i all = sym (fronts_end xs i (omega arith))
fronts_slots xs (suc n) i all =
    ap (cons_option (front_at xs i)) (fronts_slots xs n (i + 1) (omega arith)) ∙ sym (fronts_next xs i (omega arith))

-- the slots at the front have the offers
pub fronts_of_slots : (xs : List (Option Message)) (n : ℕ) → length xs ≡ n → filter_map (front_at xs) (range_with_len 0 n) ≡ fronts [] (entries xs)
unfolding entries
fronts_of_slots xs n all = fronts_slots xs n 0 (omega arith)
