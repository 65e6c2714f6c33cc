-- Sent and received entries: which entries a key tells, and what the owner's confirmation does.
use Rattle.std.specs.Prelude.{ℕ, Bool, ◌&&◌, ◌||◌, Some, None, Option, ◌==◌}
use Rattle.tables.specs.declared.entries.HandOn.{HandOn}
use Rattle.tables.specs.declared.entries.Received.{Received}

-- the two entries agree in all four parts
abbrev pub same_hand_on : HandOn → HandOn → Bool
same_hand_on k h = h.packet == k.packet && (h.sender == k.sender && (h.receiver == k.receiver && h.trace == k.trace))

-- a sent entry of the trace from the station
abbrev pub sent_by : ℕ → ℕ → HandOn → Bool
sent_by s t h = h.sender == s && h.trace == t

-- a due received entry at station s with number k of sender p
abbrev pub due_from : ℕ → ℕ → ℕ → Received → Bool
due_from s p k e = e.due && (e.copy.receiver == s && (e.copy.sender == p && e.copy.packet == k))

-- a place after the owner has confirmed the station for the trace: an entry of the two is due
abbrev pub freed : ℕ → ℕ → Option Received → Option Received
freed s t None = None
freed s t (Some e) = Some (record {
  copy = e.copy;
  due = e.due || (e.copy.receiver == s && e.copy.trace == t);
})
