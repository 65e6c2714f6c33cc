-- The step of a delivery: what happens depends on the message's kind and on the state at the receiver.
use Rattle.std.specs.Prelude.{ℕ, Bool, true, false, not, ◌||◌, [], ◌∷◌, map, Some, None as nothing, Option, ◌==◌}
use Rattle.std.specs.List.{slice_get}
use Rattle.slots.specs.Entries.{placed, struck, times}
use Rattle.link.specs.Kinds.{kind_of}
use Rattle.link.specs.declared.message.Kind.{Kind}
use Rattle.link.specs.declared.message.Kind.TheVariants.{Copy, CopyAck, Dirty, DirtyAck, Clean, CleanAck}
use Rattle.link.specs.declared.message.Message.{Message}
use Rattle.cells.specs.Cells.{awaiting, in_state, is_ccit, is_ccitnil, is_nil, with_duty, with_listed}
use Rattle.tables.specs.Copies.{freed, same_hand_on}
use Rattle.tables.specs.Kept.{cell_at, trace_at, with_cell, with_received, with_sent}
use Rattle.cells.specs.declared.Cell.{Cell}
use Rattle.cells.specs.declared.Duty.{Duty}
use Rattle.cells.specs.declared.Duty.TheVariants.{Clean as clean_call, CleanAck as owed_clean_ack, DirtyAck as owed_dirty_ack}
use Rattle.cells.specs.declared.State.{State}
use Rattle.cells.specs.declared.State.TheVariants.{None, Nil, Ok, Ccit, CcitNil}
use Rattle.tables.specs.declared.entries.HandOn.{HandOn}
use Rattle.tables.specs.declared.tables.Tables.{Tables}
use Rattle.protocol.specs.Calls.{Call, Step, ◌when◌, silent, takes}
use Rattle.protocol.specs.Known.{full, in_field, is_opened}

-- the hand-on that a copy carries out, and the one that a copy ack answers
abbrev pub handed : Message → HandOn
handed m = record { packet = m.packet; sender = m.sender; receiver = m.receiver; trace = m.trace }

abbrev pub acked : Message → HandOn
acked m = record { packet = m.packet; sender = m.receiver; receiver = m.sender; trace = m.trace }

-- by its kind, a message that cannot be delivered here: a copy with 64 received entries, a copy ack without
-- its sent entry, a dirty or clean not to the owner, a dirty ack not in nil, a clean ack not in ccit or ccitnil
abbrev pub misplaced : Tables → Message → Option Kind → Bool
misplaced T m nothing = true
misplaced T m (Some Copy) = full T.received
misplaced T m (Some CopyAck) = times (same_hand_on (acked m)) T.sent == 0
misplaced T m (Some Dirty) = not (m.receiver == (trace_at T m.trace).owner)
misplaced T m (Some DirtyAck) = not (is_nil (cell_at T m.receiver m.trace).state)
misplaced T m (Some Clean) = not (m.receiver == (trace_at T m.trace).owner)
misplaced T m (Some CleanAck) =
    let state = (cell_at T m.receiver m.trace).state in not (is_ccit state || is_ccitnil state)

-- the message is out of place: of no known kind, from or to no station of the field, to its sender, about no
-- opened trace, or by its kind
abbrev pub out_of_place : Tables → Message → Bool
out_of_place T m =
    not (in_field T m.sender)
    || (not (in_field T m.receiver)
    || (m.sender == m.receiver
    || (not (is_opened T m.trace)
    || misplaced T m (kind_of m.kind))))

-- the tables with another cell at the receiver of a message
abbrev pub at_receiver : Message → Cell → Tables → Tables
at_receiver m c T = with_cell m.receiver m.trace c T

-- the tables with a received entry for a copy, due or else blocked
abbrev pub with_copy : Message → Bool → Tables → Tables
with_copy m due T = with_received (placed (record { copy = handed m; due = due }) T.received) T

-- a copy comes, by the receiver's state and cell. In ok an entry is due and a clean call duty is struck; else
-- the entry is blocked, and in none and ccit the station now awaits the trace
abbrev pub copy_comes : State → Cell → Message → Tables → Tables
copy_comes Ok c m T = with_copy m true (at_receiver m (with_duty clean_call false c) T)
copy_comes None c m T = with_copy m false (at_receiver m (awaiting Nil c) T)
copy_comes Ccit c m T = with_copy m false (at_receiver m (awaiting CcitNil c) T)
copy_comes Nil c m T = with_copy m false T
copy_comes CcitNil c m T = with_copy m false T

-- a clean ack comes: the clean call is over
abbrev pub clean_ack_comes : State → Cell → Message → Tables → Tables
clean_ack_comes Ccit c m T = at_receiver m (in_state None c) T
clean_ack_comes CcitNil c m T = at_receiver m (in_state Nil c) T
clean_ack_comes None c m T = T
clean_ack_comes Nil c m T = T
clean_ack_comes Ok c m T = T

-- the tables with the sender listed, or unlisted, and an ack owed to it
abbrev pub with_ack_owed : Message → Bool → Duty → Tables → Tables
with_ack_owed m listed ack T =
    with_cell m.sender m.trace (with_duty ack true (with_listed listed (cell_at T m.sender m.trace))) T

-- the tables after a message of a kind was delivered. A copy ack strikes its sent entry; dirty lists the
-- sender and clean unlists it, and an ack is owed; a dirty ack confirms the receiver, and every blocked entry
-- of it becomes due
abbrev pub delivered : Tables → Message → Option Kind → Tables
delivered T m nothing = T
delivered T m (Some Copy) = let c = cell_at T m.receiver m.trace in copy_comes c.state c m T
delivered T m (Some CopyAck) = with_sent (struck (same_hand_on (acked m)) T.sent) T
delivered T m (Some Dirty) = with_ack_owed m true owed_dirty_ack T
delivered T m (Some Clean) = with_ack_owed m false owed_clean_ack T
delivered T m (Some DirtyAck) =
    let c = cell_at T m.receiver m.trace in
    with_received (map (freed m.receiver m.trace) T.received) (at_receiver m (in_state Ok c) T)
delivered T m (Some CleanAck) = let c = cell_at T m.receiver m.trace in clean_ack_comes c.state c m T

-- deliver an offer: the message is taken
abbrev pub delivering_offer : Option Message → Tables → Call (Unit {0})
delivering_offer nothing T = record { checks = 18 when true ∷ []; answer = tt; after = T; radio = silent }
delivering_offer (Some m) T = record {
  checks = 19 when out_of_place T m ∷ [];
  answer = tt;
  after = delivered T m (kind_of m.kind);
  radio = takes m;
}

-- deliver the offer at a place, if one has it
abbrev pub delivering : ℕ → Step (Unit {0})
delivering place T link = delivering_offer (slice_get link.offers place) T
