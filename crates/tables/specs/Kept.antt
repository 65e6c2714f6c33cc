-- The tables of a field: what stands in them, and the small changes.
use Rattle.std.specs.Prelude.{ℕ, zero, suc, ◌+◌, Bool, true, false, cond, ◌&&◌, List, [], replicate, Some, None, Option, ◌==◌, nat_lt, slice_index_or, slice_set}
use Rattle.slots.specs.Entries.{times}
use Rattle.cells.specs.Cells.{blank, in_state}
use Rattle.tables.specs.Copies.{sent_by}
use Rattle.cells.specs.declared.Cell.{Cell}
use Rattle.cells.specs.declared.State.TheVariants.{Ok}
use Rattle.tables.specs.declared.entries.HandOn.{HandOn}
use Rattle.tables.specs.declared.entries.Received.{Received}
use Rattle.tables.specs.declared.tables.Tables.{Tables}
use Rattle.tables.specs.declared.tables.Trace.{Trace}

-- a place for a trace, before one is opened
abbrev pub unopened : Trace
unopened = record { owner = 0; erased = false }

-- the tables of a field that was just rigged: each station's numbering starts at first
abbrev pub rigged : ℕ → ℕ → Tables
rigged n first = record {
  stations = n;
  opened = 0;
  traces = replicate 32 unopened;
  cells = replicate 16 (replicate 32 blank);
  sent = replicate 64 None;
  received = replicate 64 None;
  next = replicate 16 (Some first);
}

-- the tables have cells for the stations 0 to 15 and the traces 0 to 31
abbrev pub in_tables : ℕ → ℕ → Bool
in_tables s t = nat_lt s 16 && nat_lt t 32

-- the cell of a station and a trace; a blank one outside the tables
abbrev pub cell_at : Tables → ℕ → ℕ → Cell
cell_at T s t = cond (in_tables s t) (slice_index_or (slice_index_or T.cells s []) t blank) blank

-- the tables with another cell for a station and a trace; the same outside the tables
abbrev pub with_cell : ℕ → ℕ → Cell → Tables → Tables
with_cell s t c T = record {
  stations = T.stations;
  opened = T.opened;
  traces = T.traces;
  cells = cond (in_tables s t) (slice_set T.cells s (slice_set (slice_index_or T.cells s []) t c)) T.cells;
  sent = T.sent;
  received = T.received;
  next = T.next;
}

-- the tables with one of their parts changed
abbrev pub with_traces : ℕ → List Trace → Tables → Tables
with_traces n ts T = record {
  stations = T.stations;
  opened = n;
  traces = ts;
  cells = T.cells;
  sent = T.sent;
  received = T.received;
  next = T.next;
}

abbrev pub with_sent : List (Option HandOn) → Tables → Tables
with_sent es T = record {
  stations = T.stations;
  opened = T.opened;
  traces = T.traces;
  cells = T.cells;
  sent = es;
  received = T.received;
  next = T.next;
}

abbrev pub with_received : List (Option Received) → Tables → Tables
with_received es T = record {
  stations = T.stations;
  opened = T.opened;
  traces = T.traces;
  cells = T.cells;
  sent = T.sent;
  received = es;
  next = T.next;
}

abbrev pub with_next : List (Option ℕ) → Tables → Tables
with_next ns T = record {
  stations = T.stations;
  opened = T.opened;
  traces = T.traces;
  cells = T.cells;
  sent = T.sent;
  received = T.received;
  next = ns;
}

-- a trace's owner, and whether it was erased
abbrev pub trace_at : Tables → ℕ → Trace
trace_at T t = cond (nat_lt t 32) (slice_index_or T.traces t unopened) unopened

-- the traces with another one at a number; the same where there is no such number
abbrev pub with_trace : ℕ → Trace → List Trace → List Trace
with_trace t tr ts = cond (nat_lt t 32) (slice_set ts t tr) ts

-- the tables with one trace more, owned by s and in ok there
abbrev pub with_opened : ℕ → Tables → Tables
with_opened s T =
    with_cell s T.opened (in_state Ok (cell_at T s T.opened))
    (with_traces (T.opened + 1) (slice_set T.traces T.opened (record { owner = s; erased = false })) T)

-- the tables with the trace erased
abbrev pub with_erased : ℕ → Tables → Tables
with_erased t T = with_traces T.opened (with_trace t (record { owner = (trace_at T t).owner; erased = true }) T.traces) T

-- a station's next packet number; none once its numbers are spent
abbrev pub next_packet : Tables → ℕ → Option ℕ
next_packet T s = cond (nat_lt s 16) (slice_index_or T.next s None) None

-- the number after a packet number: there is none after 4,294,967,295
abbrev pub number_after : Option ℕ → Option ℕ
number_after None = None
number_after (Some k) = cond (k == 4294967295) None (Some (k + 1))

-- the tables after a station has spent its next packet number
abbrev pub with_spent : ℕ → Tables → Tables
with_spent s T = with_next (cond (nat_lt s 16) (slice_set T.next s (number_after (next_packet T s))) T.next) T

-- how many of the stations below n the owner of a trace lists
unfoldable pub listed_below : ℕ → Tables → ℕ → ℕ
listed_below zero T t = 0
listed_below (suc n) T t = listed_below n T t + cond (cell_at T n t).listed 1 0

-- how many stations the owner of a trace lists
abbrev pub listed : Tables → ℕ → ℕ
listed T t = listed_below 16 T t

-- the owner's list is empty: no station is listed for the trace, and no sent entry of it has the owner as sender
abbrev pub list_empty : Tables → ℕ → Bool
list_empty T t = listed T t == 0 && times (sent_by (trace_at T t).owner t) T.sent == 0
