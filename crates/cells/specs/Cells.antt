-- One station and one trace: what the states and duties mean, and the small changes.
use Rattle.std.specs.Prelude.{ℕ, ◌+◌, ◌-◌, Bool, true, false, cond, not, ◌&&◌, ◌||◌, Some, None as nothing, Option, ◌==◌}
use Rattle.cells.specs.declared.State.{State}
use Rattle.cells.specs.declared.State.TheVariants.{None, Nil, Ok, Ccit, CcitNil}
use Rattle.cells.specs.declared.Duty.{Duty}
use Rattle.cells.specs.declared.Duty.TheVariants.{Dirty, DirtyAck, Clean, CleanAck}
use Rattle.cells.specs.declared.Cell.{Cell}

-- a station that has nothing to do with the trace
abbrev pub blank : Cell
blank = record {
  state = None;
  uses = 0;
  listed = false;
  dirty = false;
  dirty_ack = false;
  clean = false;
  clean_ack = false;
}

-- the single states
abbrev pub is_nil : State → Bool
is_nil None = false
is_nil Nil = true
is_nil Ok = false
is_nil Ccit = false
is_nil CcitNil = false

abbrev pub is_ok : State → Bool
is_ok None = false
is_ok Nil = false
is_ok Ok = true
is_ok Ccit = false
is_ok CcitNil = false

abbrev pub is_ccit : State → Bool
is_ccit None = false
is_ccit Nil = false
is_ccit Ok = false
is_ccit Ccit = true
is_ccit CcitNil = false

abbrev pub is_ccitnil : State → Bool
is_ccitnil None = false
is_ccitnil Nil = false
is_ccitnil Ok = false
is_ccitnil Ccit = false
is_ccitnil CcitNil = true

-- the station holds the trace: it is in ok, and no clean call is due
abbrev pub holds : Cell → Bool
holds c = is_ok c.state && not c.clean

-- the station awaits the trace: a copy came, and the owner has not confirmed it
abbrev pub awaits : Cell → Bool
awaits c = is_nil c.state || is_ccitnil c.state

-- whether a duty is due
abbrev pub owes : Duty → Cell → Bool
owes Dirty c = c.dirty
owes DirtyAck c = c.dirty_ack
owes Clean c = c.clean
owes CleanAck c = c.clean_ack

-- the cell in another state
abbrev pub in_state : State → Cell → Cell
in_state s c = record {
  state = s;
  uses = c.uses;
  listed = c.listed;
  dirty = c.dirty;
  dirty_ack = c.dirty_ack;
  clean = c.clean;
  clean_ack = c.clean_ack;
}

-- the cell with the station listed, or unlisted
abbrev pub with_listed : Bool → Cell → Cell
with_listed l c = record {
  state = c.state;
  uses = c.uses;
  listed = l;
  dirty = c.dirty;
  dirty_ack = c.dirty_ack;
  clean = c.clean;
  clean_ack = c.clean_ack;
}

-- the cell with so many uses
abbrev pub with_uses : ℕ → Cell → Cell
with_uses n c = record {
  state = c.state;
  uses = n;
  listed = c.listed;
  dirty = c.dirty;
  dirty_ack = c.dirty_ack;
  clean = c.clean;
  clean_ack = c.clean_ack;
}

-- the cell with a duty due, or struck
abbrev pub with_duty : Duty → Bool → Cell → Cell
with_duty Dirty b c = record { state = c.state; uses = c.uses; listed = c.listed; dirty = b; dirty_ack = c.dirty_ack; clean = c.clean; clean_ack = c.clean_ack }
with_duty DirtyAck b c = record { state = c.state; uses = c.uses; listed = c.listed; dirty = c.dirty; dirty_ack = b; clean = c.clean; clean_ack = c.clean_ack }
with_duty Clean b c = record { state = c.state; uses = c.uses; listed = c.listed; dirty = c.dirty; dirty_ack = c.dirty_ack; clean = b; clean_ack = c.clean_ack }
with_duty CleanAck b c = record { state = c.state; uses = c.uses; listed = c.listed; dirty = c.dirty; dirty_ack = c.dirty_ack; clean = c.clean; clean_ack = b }

-- the cell of a station that now awaits the trace, in a state, and owes a dirty call
abbrev pub awaiting : State → Cell → Cell
awaiting s c = with_duty Dirty true (in_state s c)

-- one use more, and one use less
abbrev pub one_more : Cell → Cell
one_more c = with_uses (c.uses + 1) c

abbrev pub one_less : Cell → Cell
one_less c = with_uses (c.uses - 1) c

-- one use more, where there are not 255
abbrev pub used : Cell → Option Cell
used c = cond (c.uses == 255) nothing (Some (one_more c))

-- one use less, where there is one
abbrev pub given_back : Cell → Option Cell
given_back c = cond (c.uses == 0) nothing (Some (one_less c))
