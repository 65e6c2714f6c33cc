-- The steps of the sendings, which the house makes for the stations.
use Rattle.std.specs.Prelude.{ℕ, Bool, false, not, ◌&&◌, List, [], ◌∷◌, ◌++◌, is_some, Some, None, Option}
use Rattle.slots.specs.Entries.{first, struck}
use Rattle.link.specs.Kinds.{kind_number}
use Rattle.link.specs.declared.message.Kind.{Kind}
use Rattle.link.specs.declared.message.Kind.TheVariants.{Clean as a_clean, CleanAck as a_clean_ack, CopyAck, Dirty as a_dirty, DirtyAck as a_dirty_ack}
use Rattle.cells.specs.Cells.{in_state, is_ccitnil, owes, with_duty}
use Rattle.tables.specs.Copies.{due_from}
use Rattle.tables.specs.Kept.{cell_at, trace_at, with_cell, with_received}
use Rattle.cells.specs.declared.Cell.{Cell}
use Rattle.cells.specs.declared.Duty.{Duty}
use Rattle.cells.specs.declared.Duty.TheVariants.{Clean, CleanAck, Dirty, DirtyAck}
use Rattle.cells.specs.declared.State.TheVariants.{Ccit}
use Rattle.tables.specs.declared.entries.Received.{Received}
use Rattle.tables.specs.declared.tables.Tables.{Tables}
use Rattle.protocol.specs.Calls.{Check, Step, ◌when◌, posts, shut}
use Rattle.protocol.specs.Known.{in_field, known}

-- the trace of an entry, where there is one
abbrev pub trace_of : Option Received → ℕ
trace_of None = 0
trace_of (Some e) = e.copy.trace

-- send the copy ack at s for number k of sender p, by the gate of s: the due received entry goes
abbrev pub sending_copy_ack : ℕ → ℕ → ℕ → Step (Unit {0})
sending_copy_ack s p k T link =
    let entry = first (due_from s p k) T.received in
    record {
      checks = 1 when not (in_field T s && in_field T p) ∷ 16 when not (is_some entry) ∷ shut (link.gate s) ∷ [];
      answer = tt;
      after = with_received (struck (due_from s p k) T.received) T;
      radio = posts (record { kind = kind_number CopyAck; sender = s; receiver = p; trace = trace_of entry; packet = k });
    }

-- the kind of message that a duty asks for
abbrev pub kind_due : Duty → Kind
kind_due Dirty = a_dirty
kind_due DirtyAck = a_dirty_ack
kind_due Clean = a_clean
kind_due CleanAck = a_clean_ack

-- of a station and the owner, the one that sends and the one that receives: calls go to the owner, acks
-- come from it
abbrev pub sender_of : Duty → ℕ → ℕ → ℕ
sender_of Dirty s o = s
sender_of DirtyAck s o = o
sender_of Clean s o = s
sender_of CleanAck s o = o

abbrev pub receiver_of : Duty → ℕ → ℕ → ℕ
receiver_of Dirty s o = o
receiver_of DirtyAck s o = s
receiver_of Clean s o = o
receiver_of CleanAck s o = s

-- a dirty call waits in ccitnil for the clean ack
abbrev pub too_early : Duty → Cell → Bool
too_early Dirty c = is_ccitnil c.state
too_early DirtyAck c = false
too_early Clean c = false
too_early CleanAck c = false

-- the cell once a duty is done: the duty goes, and a clean call leaves the state ccit
abbrev pub done : Duty → Cell → Cell
done Dirty c = with_duty Dirty false c
done DirtyAck c = with_duty DirtyAck false c
done Clean c = in_state Ccit (with_duty Clean false c)
done CleanAck c = with_duty CleanAck false c

-- the checks of the sending of a duty, but for the gate
abbrev pub may_send : Duty → Tables → ℕ → ℕ → List Check
may_send duty T s t =
    let c = cell_at T s t in
    known T s t ++ (16 when not (owes duty c) ∷ 17 when too_early duty c ∷ [])

-- send dirty, dirty ack, clean or clean ack, for the duty of s and t, by the gate of the one that sends
abbrev pub sending : Duty → ℕ → ℕ → Step (Unit {0})
sending duty s t T link =
    let c = cell_at T s t in
    let owner = (trace_at T t).owner in
    record {
      checks = may_send duty T s t ++ (shut (link.gate (sender_of duty s owner)) ∷ []);
      answer = tt;
      after = with_cell s t (done duty c) T;
      radio =
          posts (record {
            kind = kind_number (kind_due duty);
            sender = sender_of duty s owner;
            receiver = receiver_of duty s owner;
            trace = t;
            packet = 0;
          });
    }
