-- Opening a trace: nothing names it yet, on the link or in the tables.
use Rattle.std.proofs.Common.{◌≡◌, ℕ, ◌+◌, ◌<◌, ◌≤◌, true, false, cond, ◌&&◌, eqb, ltb, ◌≢◌, List, set, None as nothing, sym, refl, ap, ◌∙◌, subst, ⊎_elim, arith}
use Rattle.std.proofs.lemmas.List.{get_or-set_other, get_or-set_same, length-set}
use Rattle.std.proofs.lemmas.Bool.{and_from, and_left, and_right, cases_eq, cases_lt, eq-eqb, le-ltb, lt-ltb, ne_eqb}
use Rattle.slots.specs.Entries.{times}
use Rattle.link.specs.Meaning.{Meaning}
use Rattle.link.specs.Messages.{often}
use Rattle.link.specs.declared.message.Message.{Message}
use Rattle.cells.specs.Cells.{holds, in_state, is_ccit, is_ccitnil, is_nil, is_ok}
use Rattle.cells.specs.declared.Duty.{Duty}
use Rattle.cells.specs.declared.Duty.TheVariants.{Clean, CleanAck, Dirty, DirtyAck}
use Rattle.cells.specs.declared.State.{State}
use Rattle.cells.specs.declared.State.TheVariants.{None, Nil, Ok, Ccit, CcitNil}
use Rattle.tables.specs.Copies.{same_hand_on}
use Rattle.tables.specs.Kept.{cell_at, trace_at, unopened, with_opened, with_traces}
use Rattle.tables.specs.declared.entries.HandOn.{HandOn}
use Rattle.tables.specs.declared.tables.Tables.{Tables}
use Rattle.tables.specs.declared.tables.Trace.{Trace}
use Rattle.protocol.specs.Calls.{first_refusal}
use Rattle.protocol.specs.Known.{in_field, is_opened}
use Rattle.protocol.specs.UserCalls.{opening}
use Rattle.protocol.proofs.Checks.{no_condition}
use Rattle.days.proofs.Facts.{holder_known}
use Rattle.days.proofs.Messages.{ack_of, copy_of, due}
use Rattle.days.proofs.Pictures.{Fits, bit, fits_opened, fits_opened_elsewhere}
use Rattle.days.proofs.Sound.{Shape, Shaped, Sound, Standing, a_copy, a_due, an_ack, awaiting_of, clean_owed, cleaning_of, dirty_owed, owner_of, seen}
use Rattle.days.proofs.Touch.{Apart, cell_elsewhere, cell_here, shape_put, total_here}
use Rattle.days.proofs.Using.{below}

-- no bit of a state: it is none
state_none : (s : State) → bit (is_nil s) + bit (is_ok s) + bit (is_ccit s) + bit (is_ccitnil s) ≤ 0 → s ≡ None
state_none None h = refl
state_none Nil h = absurd (omega arith)
state_none Ok h = absurd (omega arith)
state_none Ccit h = absurd (omega arith)
state_none CcitNil h = absurd (omega arith)

-- a duty's message is no copy and no copy ack
due_no_copy : (duty : Duty) (s o t : ℕ) (q : HandOn) → due duty s o t ≡ copy_of q → ⊥
due_no_copy Dirty s o t q is = omega (arith, ap (λ (m : Message). m.kind) is)
due_no_copy DirtyAck s o t q is = omega (arith, ap (λ (m : Message). m.kind) is)
due_no_copy Clean s o t q is = omega (arith, ap (λ (m : Message). m.kind) is)
due_no_copy CleanAck s o t q is = omega (arith, ap (λ (m : Message). m.kind) is)

due_no_ack : (duty : Duty) (s o t : ℕ) (q : HandOn) → due duty s o t ≡ ack_of q → ⊥
due_no_ack Dirty s o t q is = omega (arith, ap (λ (m : Message). m.kind) is)
due_no_ack DirtyAck s o t q is = omega (arith, ap (λ (m : Message). m.kind) is)
due_no_ack Clean s o t q is = omega (arith, ap (λ (m : Message). m.kind) is)
due_no_ack CleanAck s o t q is = omega (arith, ap (λ (m : Message). m.kind) is)

module _ (T : Tables) (bag : List Message) (sound : Sound T bag) where
  -- every station is in none for a trace that was not opened
  none_yet : (s t : ℕ) → T.opened ≤ t → (cell_at T s t).state ≡ None
  none_yet s t late =
      let f = sound.fits s t in
      let out = ap bit (and_right (in_field T s) (is_opened T t) (le-ltb t T.opened late)) in
      state_none (cell_at T s t).state (omega arith)

  -- what a duty asks for waits only where its pair is in another state than none
  pub waits_busy : (duty : Duty) (s t : ℕ) → 0 < often (due duty s (owner_of T t) t) bag → 1 ≤ awaiting_of (cell_at T s t) + cleaning_of (cell_at T s t)
  waits_busy Dirty s t some' = let f = sound.fits s t in omega arith
  waits_busy DirtyAck s t some' = let f = sound.fits s t in omega arith
  waits_busy Clean s t some' = let f = sound.fits s t in omega arith
  waits_busy CleanAck s t some' = let f = sound.fits s t in omega arith

  -- nothing waits about it between a station and any owner
  due_shaped : (duty : Duty) (s o t : ℕ) → T.opened ≤ t → Shaped (owner_of T) (due duty s o t) → 0 < often (due duty s o t) bag → ⊥
  due_shaped duty s o t late (a_copy q is) some' = due_no_copy duty s o t q is
  due_shaped duty s o t late (an_ack q is) some' = due_no_ack duty s o t q is
  due_shaped duty s o t late (a_due other p x is) some' =
      let about : t ≡ x = ap (λ (m : Message). m.trace) is in
      let busy = waits_busy other p x (subst (λ m. 0 < often m bag) is some') in
      let none = ap (λ y. bit (is_nil y) + bit (is_ccitnil y) + (bit (is_ccit y) + bit (is_ccitnil y))) (none_yet p x (omega arith)) in
      omega arith

  pub none_waits : (duty : Duty) (s o t : ℕ) → T.opened ≤ t → often (due duty s o t) bag ≡ 0
  none_waits duty s o t late = ⊎_elim
      (λ some'. absurd (due_shaped duty s o t late (sound.shaped (due duty s o t) some') some'))
      (λ none. omega arith)
      (cases_lt 0 (often (due duty s o t) bag))

-- the tables with the trace entered, before its cell is written
abbrev entered : ℕ → Tables → Tables
entered s T = with_traces (T.opened + 1) (set T.traces T.opened (record { owner = s; erased = false })) T

module _ (s : ℕ) (T : Tables) (bag : List Message) (sound : Sound T bag) (station : s < T.stations) (spare : T.opened < 32) where
  entered_shape : Shape (entered s T)
  entered_shape = record {
    cells = sound.shape.cells;
    rows = sound.shape.rows;
    traces = length-set T.traces T.opened (record { owner = s; erased = false }) ∙ sound.shape.traces;
    sent = sound.shape.sent;
    received = sound.shape.received;
    stations = sound.shape.stations;
    opened = omega arith;
  }

  shape_after : Shape (with_opened s T)
  shape_after = shape_put (entered s T) s T.opened (in_state Ok (cell_at T s T.opened)) entered_shape station (omega arith)

  cell_there : (s' t' : ℕ) → Apart s T.opened s' t' → cell_at (with_opened s T) s' t' ≡ cell_at T s' t'
  cell_there s' t' apart = cell_elsewhere (entered s T) s T.opened (in_state Ok (cell_at T s T.opened)) entered_shape station (omega arith) s' t' apart

  cell_new : cell_at (with_opened s T) s T.opened ≡ in_state Ok (cell_at T s T.opened)
  cell_new = cell_here (entered s T) s T.opened (in_state Ok (cell_at T s T.opened)) entered_shape station (omega arith)

  new_trace : trace_at (with_opened s T) T.opened ≡ record { owner = s; erased = false }
  new_trace =
      let in' = lt-ltb T.opened 32 spare in
      rw in' (get_or-set_same T.traces T.opened (record { owner = s; erased = false }) unopened (omega (arith, sound.shape.traces)))

  old_trace : (t : ℕ) → (t ≡ T.opened → ⊥) → trace_at (with_opened s T) t ≡ trace_at T t
  old_trace t other = ap (λ x. cond (ltb t 32) x unopened) (get_or-set_other T.traces T.opened t (record { owner = s; erased = false }) unopened other)

  -- a trace that is not the new one was opened before or is not yet
  old_opened : (t : ℕ) → (t ≡ T.opened → ⊥) → ltb t T.opened ≡ ltb t (T.opened + 1)
  old_opened t other = ⊎_elim
      (λ less. lt-ltb t T.opened less ∙ sym (lt-ltb t (T.opened + 1) (omega arith)))
      (λ late. le-ltb t T.opened late ∙ sym (le-ltb t (T.opened + 1) (above late)))
      (cases_lt t T.opened)
    where
      above : T.opened ≤ t → T.opened + 1 ≤ t
      above late = let ne : t ≢ T.opened = other in omega arith

  -- the pictures of the other traces stay
  fits_old : (s' t' : ℕ) → (t' ≡ T.opened → ⊥) → Fits (seen (with_opened s T) bag s' t')
  fits_old s' t' other =
      let apart = and_right (eqb s s') (eqb T.opened t') (ne_eqb T.opened t' (λ e. other (sym e))) in
      let c = sym (cell_there s' t' apart) in
      let tr = sym (old_trace t' other) in
      let k = old_opened t' other in
      let o = ap (λ (x : Trace). x.owner) tr in
      subst Fits (λ i. record {
        cell = c i;
        dirties = often (due Dirty s' (o i) t') bag;
        dirty_acks = often (due DirtyAck s' (o i) t') bag;
        cleans = often (due Clean s' (o i) t') bag;
        clean_acks = often (due CleanAck s' (o i) t') bag;
        blocked = (seen T bag s' t').blocked;
        owner = eqb s' (o i);
        erased = (tr i).erased;
        known = in_field T s' && k i;
      }) (sound.fits s' t')

  -- of the new trace nothing waits
  nothing_new : (duty : Duty) (s' : ℕ) → 0 ≡ often (due duty s' (trace_at (with_opened s T) T.opened).owner T.opened) bag
  nothing_new duty s' = sym (none_waits T bag sound duty s' (trace_at (with_opened s T) T.opened).owner T.opened (omega arith))

  is_new : true ≡ ltb T.opened (T.opened + 1)
  is_new = sym (lt-ltb T.opened (T.opened + 1) (omega arith))

  fits_new : Fits (seen (with_opened s T) bag s T.opened)
  fits_new =
      let n = T.opened in
      let c = sym cell_new in
      let tr = sym new_trace in
      let o = sym (eq-eqb s (trace_at (with_opened s T) n).owner (ap (λ (x : Trace). x.owner) tr)) in
      let k = sym (and_from (in_field T s) (ltb n (n + 1)) (lt-ltb s T.stations station) (sym is_new)) in
      let d = nothing_new Dirty s in
      let da = nothing_new DirtyAck s in
      let w = nothing_new Clean s in
      let wa = nothing_new CleanAck s in
      subst Fits (λ i. record {
        cell = c i;
        dirties = d i;
        dirty_acks = da i;
        cleans = w i;
        clean_acks = wa i;
        blocked = (seen T bag s n).blocked;
        owner = o i;
        erased = (tr i).erased;
        known = k i;
      }) (fits_opened (seen T bag s n) (sound.fits s n) (none_yet T bag sound s n (omega arith)))

  fits_new_elsewhere : (s' : ℕ) → (s' ≡ s → ⊥) → Fits (seen (with_opened s T) bag s' T.opened)
  fits_new_elsewhere s' other =
      let n = T.opened in
      let c = sym (cell_there s' n (and_left (eqb s s') (eqb n n) (ne_eqb s s' (λ e. other (sym e))))) in
      let tr = sym new_trace in
      let o = sym (ne_eqb s' (trace_at (with_opened s T) n).owner (λ e. other (e ∙ ap (λ (x : Trace). x.owner) new_trace))) in
      let d = nothing_new Dirty s' in
      let da = nothing_new DirtyAck s' in
      let w = nothing_new Clean s' in
      let wa = nothing_new CleanAck s' in
      subst Fits (λ i. record {
        cell = c i;
        dirties = d i;
        dirty_acks = da i;
        cleans = w i;
        clean_acks = wa i;
        blocked = (seen T bag s' n).blocked;
        owner = o i;
        erased = (tr i).erased;
        known = in_field T s' && ltb n (n + 1);
      }) (fits_opened_elsewhere (seen T bag s' n) (in_field T s' && ltb n (n + 1)) (sound.fits s' n) (none_yet T bag sound s' n (omega arith)))

  fits_after : (s' t' : ℕ) → Fits (seen (with_opened s T) bag s' t')
  fits_after s' t' = ⊎_elim
      (λ new. subst (λ x. Fits (seen (with_opened s T) bag s' x)) (sym new) (⊎_elim
      (λ same. subst (λ x. Fits (seen (with_opened s T) bag x T.opened)) (sym same) fits_new)
      (fits_new_elsewhere s')
      (cases_eq s' s)))
      (fits_old s' t')
      (cases_eq t' T.opened)

  owners_after : (t : ℕ) → t < T.opened + 1 → owner_of (with_opened s T) t < T.stations
  owners_after t in' = ⊎_elim
      (λ new. subst (λ x. owner_of (with_opened s T) x < T.stations) (sym new) (subst (λ (x : Trace). x.owner < T.stations) (sym new_trace) station))
      (λ other. let ne : t ≢ T.opened = other in subst (λ (x : Trace). x.owner < T.stations) (sym (old_trace t other)) (sound.owners t (omega arith)))
      (cases_eq t T.opened)

  senders_after : (q : HandOn) → 0 < times (same_hand_on q) T.sent → Standing (with_opened s T) q
  senders_after q some' =
      let before = sound.senders q some' in
      let old = (holder_known T bag sound q.sender q.trace before.held).1 in
      let other : T.opened ≡ q.trace → ⊥ = λ e. omega arith in
      record {
        receiver = before.receiver;
        apart = before.apart;
        held = ap holds (cell_there q.sender q.trace (and_right (eqb s q.sender) (eqb T.opened q.trace) (ne_eqb T.opened q.trace other))) ∙ before.held;
      }

  -- owners of what waits stay
  still_shaped : (m : Message) → 0 < often m bag → Shaped (owner_of T) m → Shaped (owner_of (with_opened s T)) m
  still_shaped m some' (a_copy q is) = a_copy q is
  still_shaped m some' (an_ack q is) = an_ack q is
  still_shaped m some' (a_due duty p x is) =
      let waits = subst (λ y. 0 < often y bag) is some' in
      let other : x ≡ T.opened → ⊥ = λ e. omega (arith, none_waits T bag sound duty p (owner_of T x) x (omega arith)) in
      a_due duty p x (is ∙ ap (λ (tr : Trace). due duty p tr.owner x) (sym (old_trace x other)))

  pub opened_keeps : Sound (with_opened s T) bag
  opened_keeps =
      let c = cell_at T s T.opened in
      let sum = total_here (entered s T) s T.opened (in_state Ok c) entered_shape station (omega arith) in
      let none = ap (λ y. bit (is_nil y) + bit (is_ccitnil y) + (bit (is_ccit y) + bit (is_ccitnil y))) (none_yet T bag sound s T.opened (omega arith)) in
      record {
        shape = shape_after;
        owners = owners_after;
        fits = fits_after;
        packets = sound.packets;
        senders = senders_after;
        shaped = λ m some'. still_shaped m some' (sound.shaped m some');
        copies = sound.copies;
        dirties = omega (arith, sound.dirties, sum dirty_owed, sum awaiting_of);
        cleans = omega (arith, sound.cleans, sum clean_owed, sum cleaning_of);
      }

pub open_keeps : (s : ℕ) (T : Tables) (link : Meaning) → Sound T link.bag → first_refusal (opening s T link).checks ≡ nothing → Sound (opening s T link).after link.bag
open_keeps s T link sound passed =
    let c = no_condition (opening s T link).checks passed in
    opened_keeps s T link.bag sound (below s T.stations c.0) (below T.opened 32 c.1.0)
