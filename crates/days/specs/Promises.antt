-- What holds at every moment of every day.
use Rattle.std.specs.Prelude.{◌≡◌, ℕ, ◌+◌, ◌<◌, ◌≤◌, Bool, true, false, ◌&&◌, ◌||◌, ◌≢◌, count_by, nat_lt}
use Rattle.link.specs.Kinds.{kind_number}
use Rattle.link.specs.Messages.{of_kind, often}
use Rattle.link.specs.declared.message.Kind.{Kind}
use Rattle.link.specs.declared.message.Kind.TheVariants.{Copy, CopyAck, Dirty, DirtyAck, Clean, CleanAck}
use Rattle.link.specs.declared.message.Message.{Message}
use Rattle.cells.specs.Cells.{awaits, holds, is_nil, is_ok}
use Rattle.tables.specs.Kept.{cell_at, list_empty, trace_at}
use Rattle.protocol.specs.Delivery.{out_of_place}
use Rattle.days.specs.Days.{Situation}

-- no list is empty early: while another station than the owner holds or awaits a trace, or a copy of it waits,
-- the owner's list of the trace is not empty
pub record NoListEmptyEarly (now : Situation) : Type 0 where
  pub held : (s t : ℕ) → s ≢ (trace_at now.tables t).owner → holds (cell_at now.tables s t) ≡ true → list_empty now.tables t ≡ false
  pub awaited : (s t : ℕ) → s ≢ (trace_at now.tables t).owner → awaits (cell_at now.tables s t) ≡ true → list_empty now.tables t ≡ false
  pub copied : (m : Message) → m.kind ≡ kind_number Copy → 0 < often m now.link.bag → list_empty now.tables m.trace ≡ false

-- every message that waits can be delivered
abbrev pub AllInPlace : Situation → Type 0
AllInPlace now = (m : Message) → 0 < often m now.link.bag → out_of_place now.tables m ≡ false

-- a message of a kind without a packet number, from a station to another about a trace, waits
abbrev pub waits : Situation → Kind → ℕ → ℕ → ℕ → Bool
waits now k from to t = nat_lt 0 (often (record { kind = kind_number k; sender = from; receiver = to; trace = t; packet = 0 }) now.link.bag)

-- the lists, exactly: a station is listed in ok, in nil once a dirty ack is owed to it or waits, and as long as its
-- clean waits; the owner is not listed
pub record ListsExact (now : Situation) : Type 0 where
  pub others : (s t : ℕ) → s ≢ (trace_at now.tables t).owner →
      let c = cell_at now.tables s t in
      let o = (trace_at now.tables t).owner in
      c.listed ≡ (is_ok c.state || ((is_nil c.state && (c.dirty_ack || waits now DirtyAck o s t)) || waits now Clean s o t))
  pub owner : (t : ℕ) → (cell_at now.tables (trace_at now.tables t).owner t).listed ≡ false

-- how many messages of a kind wait
abbrev pub waiting : Situation → Kind → ℕ
waiting now k = count_by (of_kind (kind_number k)) now.link.bag

-- few messages wait, so that no link's answer stops short
pub record FewWait (now : Situation) : Type 0 where
  pub copies : waiting now Copy + waiting now CopyAck ≤ 64
  pub dirties : waiting now Dirty + waiting now DirtyAck ≤ 512
  pub cleans : waiting now Clean + waiting now CleanAck ≤ 512
