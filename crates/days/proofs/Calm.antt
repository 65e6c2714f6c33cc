-- Calls that leave all copies and copy acks on the link as they are: nothing waits more or less but messages
-- between one station and the owner about one trace.
use Rattle.std.proofs.Common.{◌≡◌, ℕ, ◌+◌, ◌<◌, true, List, map, length, count_by, Option, sym, refl, ◌∙◌, subst, arith}
use Rattle.slots.specs.Entries.{times}
use Rattle.link.specs.Messages.{of_kind, often}
use Rattle.link.specs.declared.message.Message.{Message}
use Rattle.cells.specs.Cells.{holds}
use Rattle.cells.specs.declared.Cell.{Cell}
use Rattle.cells.specs.declared.Duty.{Duty}
use Rattle.cells.specs.declared.Duty.TheVariants.{Clean, CleanAck, Dirty, DirtyAck}
use Rattle.tables.specs.Copies.{freed, same_hand_on}
use Rattle.tables.specs.Kept.{cell_at, with_received}
use Rattle.tables.specs.declared.entries.HandOn.{HandOn}
use Rattle.tables.specs.declared.entries.Received.{Received}
use Rattle.tables.specs.declared.tables.Tables.{Tables}
use Rattle.days.proofs.Counted.{blocked_at, freed_all, freed_copies, freed_elsewhere, length-freed, received_of}
use Rattle.days.proofs.Messages.{More, ack_not_due, ack_of, copy_not_due, copy_of, due, due_apart, less_often, more_cases, more_due, more_kind, more_other}
use Rattle.days.proofs.Pictures.{Fits, with_seen}
use Rattle.days.proofs.Sound.{Shaped, Sound, a_due, owner_of, seen}
use Rattle.days.proofs.Touch.{Apart, keep, touched}

pub record Calm (T : Tables) (bag bag' : List Message) (s t : ℕ) : Type 0 where
  pub elsewhere : (duty : Duty) (s' o t' : ℕ) → Apart s t s' t' → often (due duty s' o t') bag' ≡ often (due duty s' o t') bag
  pub copies : (q : HandOn) → often (copy_of q) bag' ≡ often (copy_of q) bag
  pub acks : (q : HandOn) → often (ack_of q) bag' ≡ often (ack_of q) bag
  pub shaped : (m : Message) → 0 < often m bag' → Shaped (owner_of T) m
  pub first_kinds : count_by (of_kind 1) bag' + count_by (of_kind 2) bag' ≡ count_by (of_kind 1) bag + count_by (of_kind 2) bag
  pub dirties : count_by (of_kind 3) bag' + count_by (of_kind 4) bag' + ((seen T bag s t).dirties + (seen T bag s t).dirty_acks) ≡ count_by (of_kind 3) bag + count_by (of_kind 4) bag + ((seen T bag' s t).dirties + (seen T bag' s t).dirty_acks)
  pub cleans : count_by (of_kind 5) bag' + count_by (of_kind 6) bag' + ((seen T bag s t).cleans + (seen T bag s t).clean_acks) ≡ count_by (of_kind 5) bag + count_by (of_kind 6) bag + ((seen T bag' s t).cleans + (seen T bag' s t).clean_acks)

module _ (T : Tables) (bag : List Message) (s t : ℕ) (sound : Sound T bag) where
  -- nothing happens on the link
  pub calm_silent : Calm T bag bag s t
  calm_silent = record {
    elsewhere = λ _ _ _ _ _. refl;
    copies = λ _. refl;
    acks = λ _. refl;
    shaped = sound.shaped;
    first_kinds = refl;
    dirties = refl;
    cleans = refl;
  }

-- in sum, what waits more of the kinds waits more about the pair
module _ (s o t : ℕ) (xs ys : List Message) where
  dirties_more : (duty : Duty) → More (due duty s o t) xs ys → count_by (of_kind 3) ys + count_by (of_kind 4) ys + (often (due Dirty s o t) xs + often (due DirtyAck s o t) xs) ≡ count_by (of_kind 3) xs + count_by (of_kind 4) xs + (often (due Dirty s o t) ys + often (due DirtyAck s o t) ys)
  dirties_more Dirty m = omega (arith, more_kind 3 _ xs ys m, more_kind 4 _ xs ys m, more_due Dirty Dirty s o t xs ys m, more_due DirtyAck Dirty s o t xs ys m)
  dirties_more DirtyAck m = omega (arith, more_kind 3 _ xs ys m, more_kind 4 _ xs ys m, more_due Dirty DirtyAck s o t xs ys m, more_due DirtyAck DirtyAck s o t xs ys m)
  dirties_more Clean m = omega (arith, more_kind 3 _ xs ys m, more_kind 4 _ xs ys m, more_due Dirty Clean s o t xs ys m, more_due DirtyAck Clean s o t xs ys m)
  dirties_more CleanAck m = omega (arith, more_kind 3 _ xs ys m, more_kind 4 _ xs ys m, more_due Dirty CleanAck s o t xs ys m, more_due DirtyAck CleanAck s o t xs ys m)

  cleans_more : (duty : Duty) → More (due duty s o t) xs ys → count_by (of_kind 5) ys + count_by (of_kind 6) ys + (often (due Clean s o t) xs + often (due CleanAck s o t) xs) ≡ count_by (of_kind 5) xs + count_by (of_kind 6) xs + (often (due Clean s o t) ys + often (due CleanAck s o t) ys)
  cleans_more Dirty m = omega (arith, more_kind 5 _ xs ys m, more_kind 6 _ xs ys m, more_due Clean Dirty s o t xs ys m, more_due CleanAck Dirty s o t xs ys m)
  cleans_more DirtyAck m = omega (arith, more_kind 5 _ xs ys m, more_kind 6 _ xs ys m, more_due Clean DirtyAck s o t xs ys m, more_due CleanAck DirtyAck s o t xs ys m)
  cleans_more Clean m = omega (arith, more_kind 5 _ xs ys m, more_kind 6 _ xs ys m, more_due Clean Clean s o t xs ys m, more_due CleanAck Clean s o t xs ys m)
  cleans_more CleanAck m = omega (arith, more_kind 5 _ xs ys m, more_kind 6 _ xs ys m, more_due Clean CleanAck s o t xs ys m, more_due CleanAck CleanAck s o t xs ys m)

  firsts_more : (duty : Duty) → More (due duty s o t) xs ys → count_by (of_kind 1) ys + count_by (of_kind 2) ys ≡ count_by (of_kind 1) xs + count_by (of_kind 2) xs
  firsts_more Dirty m = omega (arith, more_kind 1 _ xs ys m, more_kind 2 _ xs ys m)
  firsts_more DirtyAck m = omega (arith, more_kind 1 _ xs ys m, more_kind 2 _ xs ys m)
  firsts_more Clean m = omega (arith, more_kind 1 _ xs ys m, more_kind 2 _ xs ys m)
  firsts_more CleanAck m = omega (arith, more_kind 1 _ xs ys m, more_kind 2 _ xs ys m)

module _ (T : Tables) (bag bag' : List Message) (duty : Duty) (s t : ℕ) (sound : Sound T bag) where
  -- a duty's message is posted
  pub calm_posted : More (due duty s (owner_of T t) t) bag bag' → Calm T bag bag' s t
  calm_posted more = let o = owner_of T t in let m = due duty s o t in record {
    elsewhere = λ x s' o' t' apart. more_other (due x s' o' t') m bag bag' more (due_apart duty x s o t s' o' t' apart);
    copies = λ q. more_other (copy_of q) m bag bag' more (copy_not_due q duty s o t);
    acks = λ q. more_other (ack_of q) m bag bag' more (ack_not_due q duty s o t);
    shaped = more_cases (Shaped (owner_of T)) m bag bag' more (a_due duty s t refl) sound.shaped;
    first_kinds = firsts_more s o t bag bag' duty more;
    dirties = dirties_more s o t bag bag' duty more;
    cleans = cleans_more s o t bag bag' duty more;
  }

  -- a duty's message is taken
  pub calm_taken : More (due duty s (owner_of T t) t) bag' bag → Calm T bag bag' s t
  calm_taken more = let o = owner_of T t in let m = due duty s o t in record {
    elsewhere = λ x s' o' t' apart. sym (more_other (due x s' o' t') m bag' bag more (due_apart duty x s o t s' o' t' apart));
    copies = λ q. sym (more_other (copy_of q) m bag' bag more (copy_not_due q duty s o t));
    acks = λ q. sym (more_other (ack_of q) m bag' bag more (ack_not_due q duty s o t));
    shaped = λ x some'. sound.shaped x (less_often x m bag' bag more some');
    first_kinds = sym (firsts_more s o t bag' bag duty more);
    dirties = omega (arith, dirties_more s o t bag' bag duty more);
    cleans = omega (arith, cleans_more s o t bag' bag duty more);
  }

-- received entries of the same hand-ons, blocked elsewhere as before
pub record Regrouped (s t : ℕ) (rs xs : List (Option Received)) : Type 0 where
  pub places : length rs ≡ length xs
  pub elsewhere : (s' t' : ℕ) → Apart s t s' t' → times (blocked_at s' t') rs ≡ times (blocked_at s' t') xs
  pub copies : (q : HandOn) → times (received_of q) rs ≡ times (received_of q) xs
  pub all : times (λ _. true) rs ≡ times (λ _. true) xs

pub untouched : (s t : ℕ) (xs : List (Option Received)) → Regrouped s t xs xs
untouched s t xs = record { places = refl; elsewhere = λ _ _ _. refl; copies = λ _. refl; all = refl }

pub confirmed : (s t : ℕ) (xs : List (Option Received)) → Regrouped s t (map (freed s t) xs) xs
confirmed s t xs = record {
  places = length-freed s t xs;
  elsewhere = λ s' t' apart. freed_elsewhere s t s' t' apart xs;
  copies = λ q. freed_copies s t q xs;
  all = freed_all s t xs;
}

-- whose sent entry stands holds the trace
pub sender_holds : (T : Tables) (bag : List Message) → Sound T bag → (s t : ℕ) (q : HandOn) → 0 < times (same_hand_on q) T.sent → q.sender ≡ s → q.trace ≡ t → holds (cell_at T s t) ≡ true
sender_holds T bag sound s t q some' is of =
    subst (λ x. holds (cell_at T x t) ≡ true) is
    (subst (λ y. holds (cell_at T q.sender y) ≡ true) of (sound.senders q some').held)

pub keep_calm : (T : Tables) (bag bag' : List Message) (s t : ℕ) (c : Cell) (rs : List (Option Received)) → Sound T bag → Calm T bag bag' s t → Regrouped s t rs T.received → s < T.stations → t < T.opened → Fits (with_seen c (seen (with_received rs T) bag' s t)) → ((q : HandOn) → 0 < times (same_hand_on q) T.sent → q.sender ≡ s → q.trace ≡ t → holds c ≡ true) → Sound (touched s t c rs T) bag'
keep_calm T bag bag' s t c rs sound calm group station trace here holds_on = keep T bag bag' s t c rs sound (record {
  station = station;
  trace = trace;
  places = group.places ∙ sound.shape.received;
  here = here;
  waiting_elsewhere = calm.elsewhere;
  blocked_elsewhere = group.elsewhere;
  packets = λ q. omega (arith, sound.packets q, calm.copies q, calm.acks q, group.copies q);
  holds_on = holds_on;
  shaped = calm.shaped;
  copies = omega (arith, sound.copies, calm.first_kinds, group.all);
  dirties = calm.dirties;
  cleans = calm.cleans;
})
