-- The delivery of a copy: a received entry is added, and a station that had nothing to do with the trace, or
-- is in ccit, awaits it from now on.
use Rattle.std.proofs.Common.{◌≡◌, ℕ, ◌+◌, ◌<◌, ◌≤◌, Bool, true, false, not, ◌&&◌, eqb, ltb, List, [], get_or, set, Some, Option, sym, refl, ap, ◌∙◌, subst, arith}
use Rattle.std.proofs.lemmas.List.{set-get_or}
use Rattle.std.proofs.lemmas.Bool.{and_from, and_right, eq-eqb, lt-ltb}
use Rattle.slots.specs.Entries.{placed, times}
use Rattle.slots.proofs.Counts.{times_le}
use Rattle.slots.proofs.Laws.{length-placed}
use Rattle.link.specs.declared.message.Kind.TheVariants.{Copy}
use Rattle.link.specs.declared.message.Message.{Message}
use Rattle.cells.specs.Cells.{awaiting, blank, holds, is_ccit, is_ccitnil, is_nil, is_ok, with_duty}
use Rattle.cells.specs.declared.Cell.{Cell}
use Rattle.cells.specs.declared.Duty.TheVariants.{Clean, CleanAck, Dirty, DirtyAck}
use Rattle.cells.specs.declared.State.{State}
use Rattle.cells.specs.declared.State.TheVariants.{None, Nil, Ok, Ccit, CcitNil}
use Rattle.tables.specs.Copies.{same_hand_on}
use Rattle.tables.specs.Kept.{cell_at, in_tables, with_cell, with_received}
use Rattle.tables.specs.declared.entries.HandOn.{HandOn}
use Rattle.tables.specs.declared.entries.Received.{Received}
use Rattle.tables.specs.declared.tables.Tables.{Tables}
use Rattle.protocol.specs.Delivery.{copy_comes, delivered}
use Rattle.days.proofs.Calm.{sender_holds}
use Rattle.days.proofs.Counted.{blocked_at, received_of, times_mono}
use Rattle.days.proofs.Exchange.{copy_aside}
use Rattle.days.proofs.Facts.{bit_false, copy_stands, holder_keeps, holder_known}
use Rattle.days.proofs.HandingOn.{placed_counts}
use Rattle.days.proofs.Messages.{More, ack_not_copy, ack_of, copies_alike, copy_of, due, less_often, more_kind, more_often, more_other, more_same}
use Rattle.days.proofs.Pictures.{Fits, bit, fits_copy_again, fits_copy_in_ccit, fits_copy_in_none, fits_copy_in_ok, held_bits, owns_or_erased, recount, with_blocked, with_seen}
use Rattle.days.proofs.Sound.{Sound, Standing, owner_of, seen}
use Rattle.days.proofs.Touch.{inside, keep, touched}

-- a cell put back where it was
cell_back : (T : Tables) (s t : ℕ) → in_tables s t ≡ true → with_cell s t (cell_at T s t) T ≡ T
cell_back T s t in' =
    let row = get_or T.cells s [] in
    let e : (with_cell s t (cell_at T s t) T).cells ≡ T.cells =
    rw in' (ap (set T.cells s) (set-get_or row t blank) ∙ set-get_or T.cells s []) in
    λ i. record {
      stations = T.stations;
      opened = T.opened;
      traces = T.traces;
      cells = e i;
      sent = T.sent;
      received = T.received;
      next = T.next;
    }

module _ (q : HandOn) (T : Tables) (bag bag' : List Message) (sound : Sound T bag) (more : More (copy_of q) bag' bag) where
  stands : 0 < times (same_hand_on q) T.sent
  stands = copy_stands T bag sound q (omega (arith, more_same (copy_of q) bag' bag more))

  standing : Standing T q
  standing = sound.senders q stands

  pub room : times (λ _. true) T.received < 64
  room = omega (arith, sound.copies, more_kind 1 (copy_of q) bag' bag more, times_le (λ (h : HandOn). true) T.sent, sound.shape.sent)

  opened : q.trace < T.opened
  opened = (holder_known T bag sound q.sender q.trace standing.held).1

  known : (seen T bag q.receiver q.trace).known ≡ true
  known = and_from (ltb q.receiver T.stations) (ltb q.trace T.opened) (lt-ltb q.receiver T.stations standing.receiver) (lt-ltb q.trace T.opened opened)

  -- the entries with the new one
  with_entry : Bool → List (Option Received)
  with_entry due = placed (record { copy = q; due = due }) T.received

  entered : (due : Bool) (p : Received → Bool) → times p (with_entry due) ≡ times p T.received + bit (p (record { copy = q; due = due }))
  unfolding with_entry
  entered due p = placed_counts (record { copy = q; due = due }) T.received sound.shape.received room p

  -- the picture at the receiver: the same messages, and the new entry where it is blocked
  same_waiting : (due : Bool) (n : ℕ) (c : Cell) → times (blocked_at q.receiver q.trace) (with_entry due) ≡ n → Fits (with_blocked n (with_seen c (seen T bag q.receiver q.trace))) → Fits (with_seen c (seen (with_received (with_entry due) T) bag' q.receiver q.trace))
  same_waiting due n c is f =
      let a = copy_aside q bag' bag more in
      let s = q.receiver in
      let t = q.trace in
      let o = owner_of T t in
      recount _ _ _ _ _ _ f (sym (a.duties Dirty s o t)) (sym (a.duties DirtyAck s o t)) (sym (a.duties Clean s o t)) (sym (a.duties CleanAck s o t)) (sym is)

  comes : (due : Bool) (c : Cell) → Fits (with_seen c (seen (with_received (with_entry due) T) bag' q.receiver q.trace)) → (holds (cell_at T q.receiver q.trace) ≡ true → holds c ≡ true) → Sound (touched q.receiver q.trace c (with_entry due) T) bag'
  unfolding with_entry
  comes due c here still =
      let a = copy_aside q bag' bag more in
      let s = q.receiver in
      let t = q.trace in
      let o = owner_of T t in
      keep T bag bag' s t c (with_entry due) sound (record {
        station = standing.receiver;
        trace = opened;
        places = length-placed (record { copy = q; due = due }) T.received ∙ sound.shape.received;
        here = here;
        waiting_elsewhere = λ duty s' o' t' _. a.duties duty s' o' t';
        blocked_elsewhere = λ s' t' apart. omega (arith, entered due (blocked_at s' t'), ap bit (and_right (not due) (eqb s s' && eqb t t') apart));
        packets = λ x. omega (arith, sound.packets x, entered due (received_of x), more_often (copy_of x) (copy_of q) bag' bag more, ap bit (copies_alike x q), more_other (ack_of x) (copy_of q) bag' bag more (ack_not_copy x q));
        holds_on = λ x some' by of. still (sender_holds T bag sound s t x some' by of);
        shaped = λ m some'. sound.shaped m (less_often m (copy_of q) bag' bag more some');
        copies = omega (arith, sound.copies, entered due (λ _. true), more_kind 1 (copy_of q) bag' bag more, more_kind 2 (copy_of q) bag' bag more);
        dirties = omega (arith, a.kind_3, a.kind_4, a.duties Dirty s o t, a.duties DirtyAck s o t);
        cleans = omega (arith, a.kind_5, a.kind_6, a.duties Clean s o t, a.duties CleanAck s o t);
      })

  -- a blocked entry counts at the receiver, a due one does not
  one_blocked : times (blocked_at q.receiver q.trace) (with_entry false) ≡ times (blocked_at q.receiver q.trace) T.received + 1
  one_blocked =
      let here = and_from (eqb q.receiver q.receiver) (eqb q.trace q.trace) (eq-eqb q.receiver q.receiver refl) (eq-eqb q.trace q.trace refl) in
      omega (arith, entered false (blocked_at q.receiver q.trace), ap bit here)

  none_blocked : times (blocked_at q.receiver q.trace) (with_entry true) ≡ times (blocked_at q.receiver q.trace) T.received
  none_blocked = omega (arith, entered true (blocked_at q.receiver q.trace))

  -- a station that awaits the trace already gets one more blocked entry
  again : bit (is_nil (cell_at T q.receiver q.trace).state) + bit (is_ccitnil (cell_at T q.receiver q.trace).state) ≡ 1 → Sound (with_received (with_entry false) T) bag'
  again is =
      let v = seen T bag q.receiver q.trace in
      let f = sound.fits q.receiver q.trace in
      let few : v.blocked + 1 ≤ 64 = omega (arith, times_mono (blocked_at q.receiver q.trace) (λ (e : Received). true) (λ _ _. refl) T.received, room) in
      let back = cell_back T q.receiver q.trace (inside T q.receiver q.trace v.cell sound.shape standing.receiver opened) in
      subst (λ X. Sound (with_received (with_entry false) X) bag') back
      (comes false v.cell (same_waiting false (v.blocked + 1) _ one_blocked (fits_copy_again v f is few)) (λ held. held))

  -- by the receiver's state
  copy_by : (state : State) → (cell_at T q.receiver q.trace).state ≡ state → Sound (copy_comes state (cell_at T q.receiver q.trace) (copy_of q) T) bag'
  unfolding with_entry
  copy_by Ok at =
      let v = seen T bag q.receiver q.trace in
      let f = sound.fits q.receiver q.trace in
      comes true (with_duty Clean false v.cell) (same_waiting true v.blocked _ none_blocked (fits_copy_in_ok v f (ap is_ok at)))
      (λ _. and_from (is_ok v.cell.state) true (ap is_ok at) refl)
  copy_by None at =
      let v = seen T bag q.receiver q.trace in
      let f = sound.fits q.receiver q.trace in
      let none = ap (λ s. bit (is_nil s) + bit (is_ok s) + bit (is_ccit s) + bit (is_ccitnil s)) at in
      let kept = ap bit (holder_keeps T bag sound q.sender q.trace standing.held) in
      let k = ap bit known in
      let o = owns_or_erased v in
      comes false (awaiting Nil v.cell) (same_waiting false (v.blocked + 1) _ one_blocked (fits_copy_in_none v f known (bit_false v.owner (omega arith)) at))
      (λ held. absurd (omega (arith, held_bits v.cell held)))
  copy_by Ccit at =
      let v = seen T bag q.receiver q.trace in
      let f = sound.fits q.receiver q.trace in
      comes false (awaiting CcitNil v.cell) (same_waiting false (v.blocked + 1) _ one_blocked (fits_copy_in_ccit v f at))
      (λ held. absurd (omega (arith, held_bits v.cell held, ap (λ s. bit (is_ok s)) at)))
  copy_by Nil at = again (ap (λ s. bit (is_nil s) + bit (is_ccitnil s)) at)
  copy_by CcitNil at = again (ap (λ s. bit (is_nil s) + bit (is_ccitnil s)) at)

  pub copy_keeps : Sound (delivered T (copy_of q) (Some Copy)) bag'
  copy_keeps = copy_by (cell_at T q.receiver q.trace).state refl
