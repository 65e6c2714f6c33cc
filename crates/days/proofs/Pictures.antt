-- What is to be seen of a station and a trace, which pictures there are, and how calls turn one into another.
use Rattle.std.proofs.Common.{◌≡◌, ℕ, ◌+◌, ◌*◌, ◌≤◌, Bool, true, false, cond, not, ◌&&◌, refl, ap, subst, arith}
use Rattle.cells.specs.Cells.{awaiting, blank, holds, in_state, is_ccit, is_ccitnil, is_nil, is_ok, owes, with_duty, with_listed, with_uses}
use Rattle.cells.specs.declared.Cell.{Cell}
use Rattle.cells.specs.declared.Duty.TheVariants.{Clean, CleanAck, Dirty, DirtyAck}
use Rattle.cells.specs.declared.State.{State}
use Rattle.cells.specs.declared.State.TheVariants.{None, Nil, Ok, Ccit, CcitNil}
use Rattle.protocol.specs.HouseCalls.{done, too_early}
use Rattle.std.proofs.lemmas.Bool.{and_left, and_parts, and_right, not-true}
use Rattle.cells.specs.declared.Duty.{Duty}

-- 1 for true, 0 for false
abbrev pub bit : Bool → ℕ
bit b = cond b 1 0

-- of a station and a trace: the cell, how often each message between the station and the owner waits, how many
-- received entries are blocked, whether the station is the owner, the trace erased, and both in the field
pub record Seen : Type 0 where
  pub cell : Cell
  pub dirties : ℕ
  pub dirty_acks : ℕ
  pub cleans : ℕ
  pub clean_acks : ℕ
  pub blocked : ℕ
  pub owner : Bool
  pub erased : Bool
  pub known : Bool

-- the station owns the trace and has not erased it
abbrev pub owns : Seen → Bool
owns v = v.known && (v.owner && not v.erased)

-- the pictures that occur
pub record Fits (v : Seen) : Type 0 where
  -- a clean call is in transit exactly as one clean, or one clean ack, owed or waiting
  pub clean_line : bit (is_ccit v.cell.state) + bit (is_ccitnil v.cell.state) ≡ v.cleans + bit v.cell.clean_ack + v.clean_acks
  -- the station awaits exactly as one dirty or one dirty ack is owed or waiting
  pub dirty_line : bit (is_nil v.cell.state) + bit (is_ccitnil v.cell.state) ≡ bit v.cell.dirty + v.dirties + bit v.cell.dirty_ack + v.dirty_acks
  -- a dirty call waits for the clean ack
  pub dirty_waits : bit (is_ccitnil v.cell.state) ≤ bit v.cell.dirty
  -- a clean call is owed only in ok; the owner is in ok and owes none
  pub dropped : bit v.cell.clean + bit (owns v) ≤ bit (is_ok v.cell.state)
  -- the list, exactly: in ok but for the owner, or once the dirty was delivered, or until the clean is
  pub list : bit v.cell.listed + bit (owns v) ≡ bit (is_ok v.cell.state) + bit v.cell.dirty_ack + v.dirty_acks + v.cleans
  -- the owner is in ok or none
  pub at_owner : bit v.owner + bit (is_nil v.cell.state) + bit (is_ccit v.cell.state) + bit (is_ccitnil v.cell.state) ≤ 1
  -- nobody is listed for an erased trace
  pub erased_unlisted : bit v.cell.listed + bit v.erased ≤ 1
  -- only stations and traces of the field are in another state than none
  pub in_known : bit (is_nil v.cell.state) + bit (is_ok v.cell.state) + bit (is_ccit v.cell.state) + bit (is_ccitnil v.cell.state) ≤ bit v.known
  -- a station awaits exactly as long as an entry of it is blocked
  pub why : bit (is_nil v.cell.state) + bit (is_ccitnil v.cell.state) ≤ v.blocked
  pub blocked_only : v.blocked ≤ 64 * (bit (is_nil v.cell.state) + bit (is_ccitnil v.cell.state))

-- a station is in one state
pub one_state : (s : State) → bit (is_nil s) + bit (is_ok s) + bit (is_ccit s) + bit (is_ccitnil s) ≤ 1
one_state None = omega arith
one_state Nil = omega arith
one_state Ok = omega arith
one_state Ccit = omega arith
one_state CcitNil = omega arith

pub bit_le : (b : Bool) → bit b ≤ 1
bit_le true = omega arith
bit_le false = omega arith

own_bits : (k o e : Bool) → bit k + bit o ≤ bit (k && (o && not e)) + bit e + 1
own_bits true true true = omega arith
own_bits true true false = omega arith
own_bits true false e = omega arith
own_bits false o e = omega (arith, bit_le o)

-- an owner of the field either owns the trace or has erased it
pub owns_or_erased : (v : Seen) → bit v.known + bit v.owner ≤ bit (owns v) + bit v.erased + 1
owns_or_erased v = own_bits v.known v.owner v.erased

-- another than the owner does not own the trace
pub owns_not : (v : Seen) → v.owner ≡ false → bit (owns v) ≡ 0
owns_not v other = ap bit (and_right v.known _ (and_left v.owner _ other))

-- to hold is to be in ok with no clean call owed
pub held_bits : (c : Cell) → holds c ≡ true → (bit (is_ok c.state) ≡ 1) × (bit c.clean ≡ 0)
held_bits c held = let parts = and_parts (is_ok c.state) (not c.clean) held in (ap bit parts.0, ap bit (not-true c.clean parts.1))

-- the picture with another cell
abbrev pub with_seen : Cell → Seen → Seen
with_seen c v = record {
  cell = c;
  dirties = v.dirties;
  dirty_acks = v.dirty_acks;
  cleans = v.cleans;
  clean_acks = v.clean_acks;
  blocked = v.blocked;
  owner = v.owner;
  erased = v.erased;
  known = v.known;
}

-- the messages about the station and the trace, by the duty that asks for them
abbrev pub with_waiting : ℕ → ℕ → ℕ → ℕ → Seen → Seen
with_waiting d da c ca v = record {
  cell = v.cell;
  dirties = d;
  dirty_acks = da;
  cleans = c;
  clean_acks = ca;
  blocked = v.blocked;
  owner = v.owner;
  erased = v.erased;
  known = v.known;
}

abbrev pub with_blocked : ℕ → Seen → Seen
with_blocked n v = record {
  cell = v.cell;
  dirties = v.dirties;
  dirty_acks = v.dirty_acks;
  cleans = v.cleans;
  clean_acks = v.clean_acks;
  blocked = n;
  owner = v.owner;
  erased = v.erased;
  known = v.known;
}

abbrev pub with_trace_seen : Bool → Bool → Bool → Seen → Seen
with_trace_seen o e k v = record {
  cell = v.cell;
  dirties = v.dirties;
  dirty_acks = v.dirty_acks;
  cleans = v.cleans;
  clean_acks = v.clean_acks;
  blocked = v.blocked;
  owner = o;
  erased = e;
  known = k;
}

-- a station that has nothing to do with the trace
pub fits_blank : (o : Bool) → Fits (record {
  cell = blank;
  dirties = 0;
  dirty_acks = 0;
  cleans = 0;
  clean_acks = 0;
  blocked = 0;
  owner = o;
  erased = false;
  known = false;
})
fits_blank o = let l = bit_le o in omega arith

-- the same picture, counted otherwise
pub recount : (v : Seen) (d da c ca b : ℕ) → Fits v → v.dirties ≡ d → v.dirty_acks ≡ da → v.cleans ≡ c → v.clean_acks ≡ ca → v.blocked ≡ b → Fits (with_blocked b (with_waiting d da c ca v))
recount v d da c ca b f e₁ e₂ e₃ e₄ e₅ = subst Fits (λ i. record {
  cell = v.cell;
  dirties = e₁ i;
  dirty_acks = e₂ i;
  cleans = e₃ i;
  clean_acks = e₄ i;
  blocked = e₅ i;
  owner = v.owner;
  erased = v.erased;
  known = v.known;
}) f

-- sendings: the duty goes, and its message waits
abbrev pub sent_seen : Duty → Seen → Seen
sent_seen Dirty v = with_waiting (1 + v.dirties) v.dirty_acks v.cleans v.clean_acks (with_seen (done Dirty v.cell) v)
sent_seen DirtyAck v = with_waiting v.dirties (1 + v.dirty_acks) v.cleans v.clean_acks (with_seen (done DirtyAck v.cell) v)
sent_seen Clean v = with_waiting v.dirties v.dirty_acks (1 + v.cleans) v.clean_acks (with_seen (done Clean v.cell) v)
sent_seen CleanAck v = with_waiting v.dirties v.dirty_acks v.cleans (1 + v.clean_acks) (with_seen (done CleanAck v.cell) v)

pub fits_sent : (duty : Duty) (v : Seen) → Fits v → owes duty v.cell ≡ true → too_early duty v.cell ≡ false → Fits (sent_seen duty v)
fits_sent Dirty v f owed early =
    let one = one_state v.cell.state in let o = ap bit owed in let e = ap bit early in omega arith
fits_sent DirtyAck v f owed early = let one = one_state v.cell.state in let o = ap bit owed in omega arith
fits_sent Clean v f owed early =
    let one = one_state v.cell.state in let o = ap bit owed in let own = owns_or_erased v in omega arith
fits_sent CleanAck v f owed early = let one = one_state v.cell.state in let o = ap bit owed in omega arith

-- uses do not show
pub fits_uses : (v : Seen) (n : ℕ) → Fits v → Fits (with_seen (with_uses n v.cell) v)
fits_uses v n f = omega arith

-- a drop
pub fits_dropped : (v : Seen) → Fits v → holds v.cell ≡ true → v.owner ≡ false → Fits (with_seen (with_duty Clean true v.cell) v)
fits_dropped v f held other =
    let one = one_state v.cell.state in let ok = held_bits v.cell held in let own = owns_not v other in omega arith

-- deliveries
pub fits_dirty_comes : (v : Seen) (n : ℕ) → Fits v → v.dirties ≡ 1 + n → v.erased ≡ false → Fits (with_waiting n v.dirty_acks v.cleans v.clean_acks (with_seen (with_duty DirtyAck true (with_listed true v.cell)) v))
fits_dirty_comes v n f came kept = let one = one_state v.cell.state in let e = ap bit kept in omega arith

pub fits_clean_comes : (v : Seen) (n : ℕ) → Fits v → v.cleans ≡ 1 + n → Fits (with_waiting v.dirties v.dirty_acks n v.clean_acks (with_seen (with_duty CleanAck true (with_listed false v.cell)) v))
fits_clean_comes v n f came = let one = one_state v.cell.state in let e = bit_le v.cell.listed in let k = bit_le v.erased in omega arith

pub fits_dirty_ack_comes : (v : Seen) (n : ℕ) → Fits v → v.dirty_acks ≡ 1 + n → Fits (with_blocked 0 (with_waiting v.dirties n v.cleans v.clean_acks (with_seen (in_state Ok v.cell) v)))
fits_dirty_ack_comes v n f came = let one = one_state v.cell.state in let e = bit_le v.cell.listed in omega arith

pub fits_clean_ack_ends : (v : Seen) (n : ℕ) → Fits v → v.clean_acks ≡ 1 + n → is_ccit v.cell.state ≡ true → Fits (with_waiting v.dirties v.dirty_acks v.cleans n (with_seen (in_state None v.cell) v))
fits_clean_ack_ends v n f came is = let one = one_state v.cell.state in let e = ap bit is in omega arith

pub fits_clean_ack_frees : (v : Seen) (n : ℕ) → Fits v → v.clean_acks ≡ 1 + n → is_ccitnil v.cell.state ≡ true → Fits (with_waiting v.dirties v.dirty_acks v.cleans n (with_seen (in_state Nil v.cell) v))
fits_clean_ack_frees v n f came is = let one = one_state v.cell.state in let e = ap bit is in omega arith

-- copies
pub fits_copy_in_ok : (v : Seen) → Fits v → is_ok v.cell.state ≡ true → Fits (with_seen (with_duty Clean false v.cell) v)
fits_copy_in_ok v f is = let one = one_state v.cell.state in let e = ap bit is in let l = bit_le (owns v) in omega arith

pub fits_copy_in_none : (v : Seen) → Fits v → v.known ≡ true → v.owner ≡ false → v.cell.state ≡ None → Fits (with_blocked (v.blocked + 1) (with_seen (awaiting Nil v.cell) v))
fits_copy_in_none v f k o is =
    let none = ap (λ s. bit (is_nil s) + bit (is_ok s) + bit (is_ccit s) + bit (is_ccitnil s)) is in
    let known = ap bit k in
    let other = ap bit o in
    omega arith

pub fits_copy_in_ccit : (v : Seen) → Fits v → v.cell.state ≡ Ccit → Fits (with_blocked (v.blocked + 1) (with_seen (awaiting CcitNil v.cell) v))
fits_copy_in_ccit v f is =
    let one = one_state v.cell.state in let e = ap (λ s. bit (is_ccit s)) is in omega arith

pub fits_copy_again : (v : Seen) → Fits v → bit (is_nil v.cell.state) + bit (is_ccitnil v.cell.state) ≡ 1 → v.blocked + 1 ≤ 64 → Fits (with_blocked (v.blocked + 1) v)
fits_copy_again v f is room = omega arith

-- a trace is opened at a station: what was to be seen of it before is a station in none
pub fits_opened : (v : Seen) → Fits v → v.cell.state ≡ None → Fits (with_trace_seen true false true (with_waiting 0 0 0 0 (with_seen (in_state Ok v.cell) v)))
fits_opened v f is =
    let none = ap (λ s. bit (is_nil s) + bit (is_ok s) + bit (is_ccit s) + bit (is_ccitnil s)) is in omega arith

pub fits_opened_elsewhere : (v : Seen) (known : Bool) → Fits v → v.cell.state ≡ None → Fits (with_trace_seen false false known (with_waiting 0 0 0 0 v))
fits_opened_elsewhere v known f is =
    let none = ap (λ s. bit (is_nil s) + bit (is_ok s) + bit (is_ccit s) + bit (is_ccitnil s)) is in
    let own : bit (known && false) ≡ 0 = ap bit (and_right known false refl) in
    let l = bit_le v.cell.listed in
    omega arith

-- a trace is erased
pub fits_erased : (v : Seen) → Fits v → holds v.cell ≡ true → v.cell.listed ≡ false → Fits (with_trace_seen v.owner true v.known (with_seen (in_state None v.cell) v))
fits_erased v f held unlisted =
    let one = one_state v.cell.state in
    let ok = held_bits v.cell held in
    let l = ap bit unlisted in
    let o = bit_le v.owner in
    let own : bit (v.known && (v.owner && false)) ≡ 0 = ap bit (and_right v.known _ (and_right v.owner false refl)) in
    omega arith

pub fits_erased_elsewhere : (v : Seen) → Fits v → v.owner ≡ false → v.cell.listed ≡ false → Fits (with_trace_seen v.owner true v.known v)
fits_erased_elsewhere v f other unlisted =
    let one = one_state v.cell.state in
    let l = ap bit unlisted in
    let before = owns_not v other in
    let own : bit (v.known && (v.owner && false)) ≡ 0 = ap bit (and_right v.known _ (and_right v.owner false refl)) in
    omega arith
