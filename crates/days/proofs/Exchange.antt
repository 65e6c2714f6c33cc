-- Calls about copies and copy acks: no message of a duty waits more or less, and where no entry becomes blocked
-- or free, no picture changes.
use Rattle.std.proofs.Common.{◌≡◌, ℕ, ◌+◌, ◌<◌, true, List, length, count_by, Option, sym, arith}
use Rattle.slots.specs.Entries.{times}
use Rattle.link.specs.Messages.{of_kind, often}
use Rattle.link.specs.declared.message.Message.{Message}
use Rattle.cells.specs.declared.Duty.{Duty}
use Rattle.cells.specs.declared.Duty.TheVariants.{Clean, CleanAck, Dirty, DirtyAck}
use Rattle.tables.specs.Copies.{same_hand_on}
use Rattle.tables.specs.Kept.{with_next, with_received, with_sent}
use Rattle.tables.specs.declared.entries.HandOn.{HandOn}
use Rattle.tables.specs.declared.entries.Received.{Received}
use Rattle.tables.specs.declared.tables.Tables.{Tables}
use Rattle.days.proofs.Counted.{blocked_at, received_of}
use Rattle.days.proofs.Messages.{More, ack_of, copy_of, due, due_not_ack, due_not_copy, more_kind, more_other}
use Rattle.days.proofs.Pictures.{recount}
use Rattle.days.proofs.Sound.{Shaped, Sound, Standing, owner_of, seen}

-- two bags with the same messages of duties
pub record Aside (xs ys : List Message) : Type 0 where
  pub duties : (duty : Duty) (s o t : ℕ) → often (due duty s o t) xs ≡ often (due duty s o t) ys
  pub kind_3 : count_by (of_kind 3) xs ≡ count_by (of_kind 3) ys
  pub kind_4 : count_by (of_kind 4) xs ≡ count_by (of_kind 4) ys
  pub kind_5 : count_by (of_kind 5) xs ≡ count_by (of_kind 5) ys
  pub kind_6 : count_by (of_kind 6) xs ≡ count_by (of_kind 6) ys

pub back : (xs ys : List Message) → Aside xs ys → Aside ys xs
back xs ys a = record {
  duties = λ duty s o t. sym (a.duties duty s o t);
  kind_3 = sym a.kind_3;
  kind_4 = sym a.kind_4;
  kind_5 = sym a.kind_5;
  kind_6 = sym a.kind_6;
}

module _ (q : HandOn) (xs ys : List Message) where
  pub copy_aside : More (copy_of q) xs ys → Aside xs ys
  copy_aside more = record {
    duties = λ duty s o t. sym (more_other (due duty s o t) (copy_of q) xs ys more (due_not_copy q duty s o t));
    kind_3 = omega (arith, more_kind 3 (copy_of q) xs ys more);
    kind_4 = omega (arith, more_kind 4 (copy_of q) xs ys more);
    kind_5 = omega (arith, more_kind 5 (copy_of q) xs ys more);
    kind_6 = omega (arith, more_kind 6 (copy_of q) xs ys more);
  }

  pub ack_aside : More (ack_of q) xs ys → Aside xs ys
  ack_aside more = record {
    duties = λ duty s o t. sym (more_other (due duty s o t) (ack_of q) xs ys more (due_not_ack q duty s o t));
    kind_3 = omega (arith, more_kind 3 (ack_of q) xs ys more);
    kind_4 = omega (arith, more_kind 4 (ack_of q) xs ys more);
    kind_5 = omega (arith, more_kind 5 (ack_of q) xs ys more);
    kind_6 = omega (arith, more_kind 6 (ack_of q) xs ys more);
  }

abbrev pub exchanged : List (Option HandOn) → List (Option Received) → List (Option ℕ) → Tables → Tables
exchanged es rs ns T = with_next ns (with_sent es (with_received rs T))

-- what such a call has to show
pub record Exchange (T : Tables) (bag bag' : List Message) (es : List (Option HandOn)) (rs : List (Option Received)) : Type 0 where
  pub aside : Aside bag bag'
  pub sent_places : length es ≡ 64
  pub received_places : length rs ≡ 64
  pub blocked : (s t : ℕ) → times (blocked_at s t) T.received ≡ times (blocked_at s t) rs
  pub packets : (q : HandOn) → times (same_hand_on q) es ≡ often (copy_of q) bag' + times (received_of q) rs + often (ack_of q) bag'
  pub senders : (q : HandOn) → 0 < times (same_hand_on q) es → Standing T q
  pub shaped : (m : Message) → 0 < often m bag' → Shaped (owner_of T) m
  pub copies : count_by (of_kind 1) bag' + count_by (of_kind 2) bag' + times (λ _. true) rs ≡ times (λ _. true) es

pub exchange_keeps : (T : Tables) (bag bag' : List Message) (es : List (Option HandOn)) (rs : List (Option Received)) (ns : List (Option ℕ)) → Sound T bag → Exchange T bag bag' es rs → Sound (exchanged es rs ns T) bag'
exchange_keeps T bag bag' es rs ns sound x =
    let a = x.aside in
    record {
      shape = record {
        cells = sound.shape.cells;
        rows = sound.shape.rows;
        traces = sound.shape.traces;
        sent = x.sent_places;
        received = x.received_places;
        stations = sound.shape.stations;
        opened = sound.shape.opened;
      };
      owners = sound.owners;
      fits = λ s t. let o = owner_of T t in
          recount (seen T bag s t) _ _ _ _ _ (sound.fits s t) (a.duties Dirty s o t) (a.duties DirtyAck s o t) (a.duties Clean s o t) (a.duties CleanAck s o t) (x.blocked s t);
      packets = x.packets;
      senders = λ q some'. let st = x.senders q some' in record { receiver = st.receiver; apart = st.apart; held = st.held };
      shaped = x.shaped;
      copies = x.copies;
      dirties = omega (arith, sound.dirties, a.kind_3, a.kind_4);
      cleans = omega (arith, sound.cleans, a.kind_5, a.kind_6);
    }
