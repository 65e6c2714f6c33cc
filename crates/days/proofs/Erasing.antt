-- Erasing a trace: its list is empty, so no sent entry of it stands and nobody else is listed.
use Rattle.std.proofs.Common.{◌≡◌, ℕ, ◌<◌, Bool, true, false, cond, eqb, ltb, List, length, get_or, set, None as nothing, sym, refl, ap, ◌∙◌, subst, ⊎_elim, arith}
use Rattle.std.proofs.lemmas.List.{get_or-set_other, get_or-set_same, length-set}
use Rattle.std.proofs.lemmas.Bool.{and_left, and_right, cases_eq, cond-true, eqb-true, lt-ltb, ne_eqb, not-false}
use Rattle.slots.specs.Entries.{times}
use Rattle.link.specs.Meaning.{Meaning}
use Rattle.link.specs.Messages.{often}
use Rattle.link.specs.declared.message.Message.{Message}
use Rattle.cells.specs.Cells.{holds, in_state}
use Rattle.cells.specs.declared.Duty.TheVariants.{Clean, CleanAck, Dirty, DirtyAck}
use Rattle.cells.specs.declared.State.TheVariants.{None}
use Rattle.tables.specs.Copies.{same_hand_on}
use Rattle.tables.specs.Kept.{cell_at, list_empty, trace_at, unopened, with_cell, with_erased, with_trace}
use Rattle.tables.specs.declared.entries.HandOn.{HandOn}
use Rattle.tables.specs.declared.tables.Tables.{Tables}
use Rattle.tables.specs.declared.tables.Trace.{Trace}
use Rattle.protocol.specs.Calls.{first_refusal}
use Rattle.protocol.specs.UserCalls.{erasing, may_erase}
use Rattle.protocol.proofs.Checks.{no_condition}
use Rattle.days.proofs.Lists.{Empty, empty_list, sent_keeps_list}
use Rattle.days.proofs.Messages.{due}
use Rattle.days.proofs.Pictures.{Fits, fits_erased, fits_erased_elsewhere, held_bits, one_state}
use Rattle.days.proofs.Sound.{Shape, Shaped, Sound, Standing, a_copy, a_due, an_ack, awaiting_of, clean_owed, cleaning_of, dirty_owed, owner_of, seen}
use Rattle.days.proofs.Touch.{Apart, cell_elsewhere, cell_here, shape_put, total_here}
use Rattle.days.proofs.Using.{below}

-- the tables with the cell of the owner written
abbrev erased_at : ℕ → ℕ → Tables → Tables
erased_at s t T = with_cell s t (in_state None (cell_at T s t)) (with_erased t T)

-- the traces with one of them written again
length-written : (b : Bool) (t : ℕ) (tr : Trace) (ts : List Trace) → length (cond b (set ts t tr) ts) ≡ length ts
length-written true t tr ts = length-set ts t tr
length-written false t tr ts = refl

written : (t : ℕ) (tr : Trace) (ts : List Trace) → ltb t 32 ≡ true → t < length ts → cond (ltb t 32) (get_or (with_trace t tr ts) t unopened) unopened ≡ tr
written t tr ts in' there =
    cond-true (ltb t 32) (get_or (with_trace t tr ts) t unopened) unopened in'
    ∙ ap (λ b. get_or (cond b (set ts t tr) ts) t unopened) in'
    ∙ get_or-set_same ts t tr unopened there

module _ (s t : ℕ) (T : Tables) (bag : List Message) (sound : Sound T bag) (station : s < T.stations) (trace : t < T.opened) (by_owner : eqb s (owner_of T t) ≡ true) (held : holds (cell_at T s t) ≡ true) (empty : Empty T t) where
  within : ltb t 32 ≡ true
  within = lt-ltb t 32 (omega (arith, sound.shape.opened))

  noted_shape : Shape (with_erased t T)
  noted_shape = record {
    cells = sound.shape.cells;
    rows = sound.shape.rows;
    traces = length-written (ltb t 32) t (record { owner = owner_of T t; erased = true }) T.traces ∙ sound.shape.traces;
    sent = sound.shape.sent;
    received = sound.shape.received;
    stations = sound.shape.stations;
    opened = sound.shape.opened;
  }

  cell_there : (s' t' : ℕ) → Apart s t s' t' → cell_at (erased_at s t T) s' t' ≡ cell_at T s' t'
  cell_there s' t' apart = cell_elsewhere (with_erased t T) s t (in_state None (cell_at T s t)) noted_shape station trace s' t' apart

  cell_erased : cell_at (erased_at s t T) s t ≡ in_state None (cell_at T s t)
  cell_erased = cell_here (with_erased t T) s t (in_state None (cell_at T s t)) noted_shape station trace

  erased_trace : trace_at (erased_at s t T) t ≡ record { owner = owner_of T t; erased = true }
  erased_trace = written t (record { owner = owner_of T t; erased = true }) T.traces within (omega (arith, sound.shape.traces, sound.shape.opened))

  other_trace : (t' : ℕ) → (t' ≡ t → ⊥) → trace_at (erased_at s t T) t' ≡ trace_at T t'
  other_trace t' other = ap (λ x. cond (ltb t' 32) x unopened)
      (ap (λ b. get_or (cond b (set T.traces t (record { owner = (trace_at T t).owner; erased = true })) T.traces) t' unopened) within
      ∙ get_or-set_other T.traces t t' (record { owner = (trace_at T t).owner; erased = true }) unopened other)

  -- every trace keeps its owner
  same_owner : (t' : ℕ) → owner_of T t' ≡ owner_of (erased_at s t T) t'
  same_owner t' = ⊎_elim
      (λ same. subst (λ x. owner_of T x ≡ owner_of (erased_at s t T) x) (sym same) (sym (ap (λ (x : Trace). x.owner) erased_trace)))
      (λ other. sym (ap (λ (x : Trace). x.owner) (other_trace t' other)))
      (cases_eq t' t)

  fits_other : (s' t' : ℕ) → (t' ≡ t → ⊥) → Fits (seen (erased_at s t T) bag s' t')
  fits_other s' t' other =
      let c = sym (cell_there s' t' (and_right (eqb s s') (eqb t t') (ne_eqb t t' (λ e. other (sym e))))) in
      let tr = sym (other_trace t' other) in
      let o = ap (λ (x : Trace). x.owner) tr in
      let v = seen T bag s' t' in
      subst Fits (λ i. record {
        cell = c i;
        dirties = often (due Dirty s' (o i) t') bag;
        dirty_acks = often (due DirtyAck s' (o i) t') bag;
        cleans = often (due Clean s' (o i) t') bag;
        clean_acks = often (due CleanAck s' (o i) t') bag;
        blocked = v.blocked;
        owner = eqb s' (o i);
        erased = (tr i).erased;
        known = v.known;
      }) (sound.fits s' t')

  fits_at_owner : Fits (seen (erased_at s t T) bag s t)
  fits_at_owner =
      let c = sym cell_erased in
      let tr = sym erased_trace in
      let o = ap (λ (x : Trace). x.owner) tr in
      let v = seen T bag s t in
      subst Fits (λ i. record {
        cell = c i;
        dirties = often (due Dirty s (o i) t) bag;
        dirty_acks = often (due DirtyAck s (o i) t) bag;
        cleans = often (due Clean s (o i) t) bag;
        clean_acks = often (due CleanAck s (o i) t) bag;
        blocked = v.blocked;
        owner = eqb s (o i);
        erased = (tr i).erased;
        known = v.known;
      }) (fits_erased v (sound.fits s t) held (empty.unlisted s))

  fits_elsewhere : (s' : ℕ) → (s' ≡ s → ⊥) → Fits (seen (erased_at s t T) bag s' t)
  fits_elsewhere s' other =
      let c = sym (cell_there s' t (and_left (eqb s s') (eqb t t) (ne_eqb s s' (λ e. other (sym e))))) in
      let tr = sym erased_trace in
      let o = ap (λ (x : Trace). x.owner) tr in
      let v = seen T bag s' t in
      let not_owner = ne_eqb s' (owner_of T t) (λ e. other (e ∙ sym (eqb-true s (owner_of T t) by_owner))) in
      subst Fits (λ i. record {
        cell = c i;
        dirties = often (due Dirty s' (o i) t) bag;
        dirty_acks = often (due DirtyAck s' (o i) t) bag;
        cleans = often (due Clean s' (o i) t) bag;
        clean_acks = often (due CleanAck s' (o i) t) bag;
        blocked = v.blocked;
        owner = eqb s' (o i);
        erased = (tr i).erased;
        known = v.known;
      }) (fits_erased_elsewhere v (sound.fits s' t) not_owner (empty.unlisted s'))

  fits_after : (s' t' : ℕ) → Fits (seen (erased_at s t T) bag s' t')
  fits_after s' t' = ⊎_elim
      (λ this. subst (λ x. Fits (seen (erased_at s t T) bag s' x)) (sym this) (⊎_elim
      (λ same. subst (λ x. Fits (seen (erased_at s t T) bag x t)) (sym same) fits_at_owner)
      (fits_elsewhere s')
      (cases_eq s' s)))
      (fits_other s' t')
      (cases_eq t' t)

  -- sent entries are of other traces
  senders_after : (q : HandOn) → 0 < times (same_hand_on q) T.sent → Standing (erased_at s t T) q
  senders_after q some' =
      let before = sound.senders q some' in
      let other : t ≡ q.trace → ⊥ = λ e. sent_keeps_list T bag sound q some' (subst (Empty T) e empty) in
      record {
        receiver = before.receiver;
        apart = before.apart;
        held = ap holds (cell_there q.sender q.trace (and_right (eqb s q.sender) (eqb t q.trace) (ne_eqb t q.trace other))) ∙ before.held;
      }

  still_shaped : (m : Message) → Shaped (owner_of T) m → Shaped (owner_of (erased_at s t T)) m
  still_shaped m (a_copy q is) = a_copy q is
  still_shaped m (an_ack q is) = an_ack q is
  still_shaped m (a_due duty p x is) = a_due duty p x (is ∙ ap (λ o. due duty p o x) (same_owner x))

  pub erased_keeps : Sound (erased_at s t T) bag
  erased_keeps =
      let c = cell_at T s t in
      let sum = total_here (with_erased t T) s t (in_state None c) noted_shape station trace in
      let ok = held_bits c held in
      let one = one_state c.state in
      record {
        shape = shape_put (with_erased t T) s t (in_state None c) noted_shape station trace;
        owners = λ x in'. subst (λ o. o < T.stations) (same_owner x) (sound.owners x in');
        fits = fits_after;
        packets = sound.packets;
        senders = senders_after;
        shaped = λ m some'. still_shaped m (sound.shaped m some');
        copies = sound.copies;
        dirties = omega (arith, sound.dirties, sum dirty_owed, sum awaiting_of);
        cleans = omega (arith, sound.cleans, sum clean_owed, sum cleaning_of);
      }

pub erase_keeps : (s t : ℕ) (T : Tables) (link : Meaning) → Sound T link.bag → first_refusal (erasing s t T link).checks ≡ nothing → Sound (erasing s t T link).after link.bag
erase_keeps s t T link sound passed =
    let c = no_condition (may_erase T s t) passed in
    erased_keeps s t T link.bag sound (below s T.stations c.0) (below t T.opened c.1.0)
    (not-false (eqb s (owner_of T t)) c.1.1.0) (not-false (holds (cell_at T s t)) c.1.1.1.0)
    (empty_list T t (not-false (list_empty T t) c.1.1.1.1.1.0))
