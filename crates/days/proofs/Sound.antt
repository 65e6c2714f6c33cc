-- What holds of tables and bag at every moment of a day.
use Rattle.std.proofs.Common.{◌≡◌, ℕ, ◌+◌, ◌<◌, ◌≤◌, true, ◌&&◌, eqb, List, [], length, get_or, count_by}
use Rattle.slots.specs.Entries.{times}
use Rattle.link.specs.Messages.{of_kind, often}
use Rattle.link.specs.declared.message.Message.{Message}
use Rattle.cells.specs.Cells.{holds, is_ccit, is_ccitnil, is_nil}
use Rattle.cells.specs.declared.Cell.{Cell}
use Rattle.cells.specs.declared.Duty.{Duty}
use Rattle.cells.specs.declared.Duty.TheVariants.{Clean, CleanAck, Dirty, DirtyAck}
use Rattle.tables.specs.Copies.{same_hand_on}
use Rattle.tables.specs.Kept.{cell_at, trace_at}
use Rattle.tables.specs.declared.entries.HandOn.{HandOn}
use Rattle.tables.specs.declared.tables.Tables.{Tables}
use Rattle.protocol.specs.Known.{in_field, is_opened}
use Rattle.days.proofs.Counted.{blocked_at, received_of, total}
use Rattle.days.proofs.Messages.{ack_of, copy_of, due}
use Rattle.days.proofs.Pictures.{Fits, Seen, bit}

abbrev pub owner_of : Tables → ℕ → ℕ
owner_of T t = (trace_at T t).owner

-- the sizes of the tables
pub record Shape (T : Tables) : Type 0 where
  pub cells : length T.cells ≡ 16
  pub rows : (s : ℕ) → s < 16 → length (get_or T.cells s []) ≡ 32
  pub traces : length T.traces ≡ 32
  pub sent : length T.sent ≡ 64
  pub received : length T.received ≡ 64
  pub stations : T.stations ≤ 16
  pub opened : T.opened ≤ 32

-- what is to be seen of a station and a trace
abbrev pub seen : Tables → List Message → ℕ → ℕ → Seen
seen T bag s t = record {
  cell = cell_at T s t;
  dirties = often (due Dirty s (owner_of T t) t) bag;
  dirty_acks = often (due DirtyAck s (owner_of T t) t) bag;
  cleans = often (due Clean s (owner_of T t) t) bag;
  clean_acks = often (due CleanAck s (owner_of T t) t) bag;
  blocked = times (blocked_at s t) T.received;
  owner = eqb s (owner_of T t);
  erased = (trace_at T t).erased;
  known = in_field T s && is_opened T t;
}

-- the messages that occur: copies, copy acks, and what duties ask for, between a station and the owner
pub data Shaped (owner : ℕ → ℕ) (m : Message) : Type 0 where
  a_copy : (q : HandOn) → m ≡ copy_of q → Shaped owner m
  an_ack : (q : HandOn) → m ≡ ack_of q → Shaped owner m
  a_due : (duty : Duty) (s t : ℕ) → m ≡ due duty s (owner t) t → Shaped owner m

-- of a cell: one if the station awaits the trace, and how many dirty calls and dirty acks are owed; one if its
-- clean call is in transit, and whether a clean ack is owed
abbrev pub awaiting_of : Cell → ℕ
awaiting_of c = bit (is_nil c.state) + bit (is_ccitnil c.state)

abbrev pub dirty_owed : Cell → ℕ
dirty_owed c = bit c.dirty + bit c.dirty_ack

abbrev pub cleaning_of : Cell → ℕ
cleaning_of c = bit (is_ccit c.state) + bit (is_ccitnil c.state)

abbrev pub clean_owed : Cell → ℕ
clean_owed c = bit c.clean_ack

-- a hand-on that is entered as sent: its receiver is another station of the field, and its sender holds the trace
pub record Standing (T : Tables) (q : HandOn) : Type 0 where
  pub receiver : q.receiver < T.stations
  pub apart : q.sender ≡ q.receiver → ⊥
  pub held : holds (cell_at T q.sender q.trace) ≡ true

pub record Sound (T : Tables) (bag : List Message) : Type 0 where
  pub shape : Shape T
  -- owners are stations of the field
  pub owners : (t : ℕ) → t < T.opened → owner_of T t < T.stations
  -- each station and trace is in a picture that occurs
  pub fits : (s t : ℕ) → Fits (seen T bag s t)
  -- a sent entry stands as long as its copy waits, its received entry stands, or its copy ack waits
  pub packets : (q : HandOn) → times (same_hand_on q) T.sent ≡ often (copy_of q) bag + times (received_of q) T.received + often (ack_of q) bag
  pub senders : (q : HandOn) → 0 < times (same_hand_on q) T.sent → Standing T q
  pub shaped : (m : Message) → 0 < often m bag → Shaped (owner_of T) m
  -- in sum: copies, copy acks and received entries are the sent entries; dirties, dirty acks and the duties for
  -- them are the pairs that await; cleans, clean acks and the duties for these are the pairs with a clean in transit
  pub copies : count_by (of_kind 1) bag + count_by (of_kind 2) bag + times (λ _. true) T.received ≡ times (λ _. true) T.sent
  pub dirties : count_by (of_kind 3) bag + count_by (of_kind 4) bag + total dirty_owed T.cells ≡ total awaiting_of T.cells
  pub cleans : count_by (of_kind 5) bag + count_by (of_kind 6) bag + total clean_owed T.cells ≡ total cleaning_of T.cells
