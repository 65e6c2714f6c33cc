-- A call that changes one cell, and perhaps the received entries, and what waits about that station and trace.
-- Every other station and trace is left alone.
use Rattle.std.proofs.Common.{◌≡◌, ℕ, ◌+◌, ◌<◌, Bool, true, false, ◌&&◌, eqb, ltb, List, [], length, get_or, set, count_by, Option, sym, ap, ◌∙◌, subst, ⊎_elim, arith}
use Rattle.std.proofs.lemmas.List.{get_or-set_other, get_or-set_same, length-set}
use Rattle.std.proofs.lemmas.Bool.{and_from, and_parts, cases_Bool, cases_eq, eq-eqb, eqb-true, lt-ltb}
use Rattle.slots.specs.Entries.{times}
use Rattle.link.specs.Messages.{of_kind, often}
use Rattle.link.specs.declared.message.Message.{Message}
use Rattle.cells.specs.Cells.{holds}
use Rattle.cells.specs.declared.Cell.{Cell}
use Rattle.cells.specs.declared.Duty.{Duty}
use Rattle.cells.specs.declared.Duty.TheVariants.{Clean, CleanAck, Dirty, DirtyAck}
use Rattle.tables.specs.Copies.{same_hand_on}
use Rattle.tables.specs.Kept.{cell_at, in_tables, with_cell, with_received}
use Rattle.tables.specs.declared.entries.HandOn.{HandOn}
use Rattle.tables.specs.declared.entries.Received.{Received}
use Rattle.tables.specs.declared.tables.Tables.{Tables}
use Rattle.protocol.proofs.Frames.{cell_of_another, cell_of_another_trace, cell_put}
use Rattle.days.proofs.Counted.{blocked_at, received_of, total, total_put}
use Rattle.days.proofs.Messages.{ack_of, copy_of, due}
use Rattle.days.proofs.Pictures.{Fits, bit, with_seen}
use Rattle.days.proofs.Sound.{Shape, Shaped, Sound, Standing, awaiting_of, clean_owed, cleaning_of, dirty_owed, owner_of, seen}

-- another station or another trace
abbrev pub Apart : ℕ → ℕ → ℕ → ℕ → Type 0
Apart s t s' t' = (eqb s s' && eqb t t') ≡ false

-- the cell that was put, and the others
module _ (T : Tables) (s t : ℕ) (c : Cell) (shape : Shape T) (station : s < T.stations) (trace : t < T.opened) where
  pub inside : in_tables s t ≡ true
  inside = and_from (ltb s 16) (ltb t 32) (lt-ltb s 16 (omega (arith, shape.stations))) (lt-ltb t 32 (omega (arith, shape.opened)))

  row_there : s < length T.cells
  row_there = omega (arith, shape.cells, shape.stations)

  column_there : t < length (get_or T.cells s [])
  column_there = omega (arith, shape.rows s (omega (arith, shape.stations)), shape.opened)

  pub cell_here : cell_at (with_cell s t c T) s t ≡ c
  cell_here = cell_put T s t c inside row_there column_there

  pub cell_elsewhere : (s' t' : ℕ) → Apart s t s' t' → cell_at (with_cell s t c T) s' t' ≡ cell_at T s' t'
  cell_elsewhere s' t' apart = ⊎_elim same_station (λ other. cell_of_another T s t c s' t' (λ e. other (sym e))) (cases_eq s s')
    where
      same_station : s ≡ s' → cell_at (with_cell s t c T) s' t' ≡ cell_at T s' t'
      same_station e =
          let other : t' ≡ t → ⊥ =
          λ f. let z : ◌≡◌ {A = Bool} true false = sym (and_from (eqb s s') (eqb t t') (eq-eqb s s' e) (eq-eqb t t' (sym f))) ∙ apart in
          let w : ◌≡◌ {A = ℕ} 1 0 = ap bit z in omega arith in
          subst (λ x. cell_at (with_cell s t c T) x t' ≡ cell_at T x t') e (cell_of_another_trace T s t c t' row_there other)

  pub total_here : (f : Cell → ℕ) → total f (with_cell s t c T).cells + f (cell_at T s t) ≡ total f T.cells + f c
  total_here f = total_put f s t c T inside row_there column_there

  rows_kept : (s' : ℕ) → s' < 16 → length (get_or (set T.cells s (set (get_or T.cells s []) t c)) s' []) ≡ 32
  rows_kept s' in' = ⊎_elim same_row other_row (cases_eq s' s)
    where
      same_row : s' ≡ s → length (get_or (set T.cells s (set (get_or T.cells s []) t c)) s' []) ≡ 32
      same_row e =
          let r = set (get_or T.cells s []) t c in
          ap (λ x. length (get_or (set T.cells s r) x [])) e
          ∙ ap length (get_or-set_same T.cells s r [] row_there)
          ∙ length-set (get_or T.cells s []) t c
          ∙ shape.rows s (omega (arith, shape.stations))

      other_row : (s' ≡ s → ⊥) → length (get_or (set T.cells s (set (get_or T.cells s []) t c)) s' []) ≡ 32
      other_row ne = ap length (get_or-set_other T.cells s s' (set (get_or T.cells s []) t c) [] ne) ∙ shape.rows s' in'

  pub shape_put : Shape (with_cell s t c T)
  shape_put = record {
    cells = rw inside (length-set T.cells s (set (get_or T.cells s []) t c) ∙ shape.cells);
    rows = rw inside rows_kept;
    traces = shape.traces;
    sent = shape.sent;
    received = shape.received;
    stations = shape.stations;
    opened = shape.opened;
  }

abbrev pub touched : ℕ → ℕ → Cell → List (Option Received) → Tables → Tables
touched s t c rs T = with_received rs (with_cell s t c T)

-- what such a call has to show
pub record Touch (T : Tables) (bag bag' : List Message) (s t : ℕ) (c : Cell) (rs : List (Option Received)) : Type 0 where
  pub station : s < T.stations
  pub trace : t < T.opened
  pub places : length rs ≡ 64
  pub here : Fits (with_seen c (seen (with_received rs T) bag' s t))
  pub waiting_elsewhere : (duty : Duty) (s' o t' : ℕ) → Apart s t s' t' → often (due duty s' o t') bag' ≡ often (due duty s' o t') bag
  pub blocked_elsewhere : (s' t' : ℕ) → Apart s t s' t' → times (blocked_at s' t') rs ≡ times (blocked_at s' t') T.received
  pub packets : (q : HandOn) → times (same_hand_on q) T.sent ≡ often (copy_of q) bag' + times (received_of q) rs + often (ack_of q) bag'
  pub holds_on : (q : HandOn) → 0 < times (same_hand_on q) T.sent → q.sender ≡ s → q.trace ≡ t → holds c ≡ true
  pub shaped : (m : Message) → 0 < often m bag' → Shaped (owner_of T) m
  pub copies : count_by (of_kind 1) bag' + count_by (of_kind 2) bag' + times (λ _. true) rs ≡ times (λ _. true) T.sent
  pub dirties : count_by (of_kind 3) bag' + count_by (of_kind 4) bag' + ((seen T bag s t).dirties + (seen T bag s t).dirty_acks) ≡ count_by (of_kind 3) bag + count_by (of_kind 4) bag + ((seen T bag' s t).dirties + (seen T bag' s t).dirty_acks)
  pub cleans : count_by (of_kind 5) bag' + count_by (of_kind 6) bag' + ((seen T bag s t).cleans + (seen T bag s t).clean_acks) ≡ count_by (of_kind 5) bag + count_by (of_kind 6) bag + ((seen T bag' s t).cleans + (seen T bag' s t).clean_acks)

module _ (T : Tables) (bag bag' : List Message) (s t : ℕ) (c : Cell) (rs : List (Option Received)) (sound : Sound T bag) (touch : Touch T bag bag' s t c rs) where
  shaped_so : Shape (touched s t c rs T)
  shaped_so = let put = shape_put T s t c sound.shape touch.station touch.trace in record {
    cells = put.cells;
    rows = put.rows;
    traces = put.traces;
    sent = put.sent;
    received = touch.places;
    stations = put.stations;
    opened = put.opened;
  }

  fits_there : (s' t' : ℕ) → Apart s t s' t' → Fits (seen (touched s t c rs T) bag' s' t')
  fits_there s' t' apart =
      let e = sym (cell_elsewhere T s t c sound.shape touch.station touch.trace s' t' apart) in
      let o = owner_of T t' in
      let d = sym (touch.waiting_elsewhere Dirty s' o t' apart) in
      let da = sym (touch.waiting_elsewhere DirtyAck s' o t' apart) in
      let k = sym (touch.waiting_elsewhere Clean s' o t' apart) in
      let ka = sym (touch.waiting_elsewhere CleanAck s' o t' apart) in
      let b = sym (touch.blocked_elsewhere s' t' apart) in
      let v = seen T bag s' t' in
      subst Fits (λ i. record {
        cell = e i;
        dirties = d i;
        dirty_acks = da i;
        cleans = k i;
        clean_acks = ka i;
        blocked = b i;
        owner = v.owner;
        erased = v.erased;
        known = v.known;
      }) (sound.fits s' t')

  fits_here : Fits (seen (touched s t c rs T) bag' s t)
  fits_here =
      let e = sym (cell_here T s t c sound.shape touch.station touch.trace) in
      subst (λ x. Fits (with_seen x (seen (with_received rs T) bag' s t))) e touch.here

  fits_so : (s' t' : ℕ) → Fits (seen (touched s t c rs T) bag' s' t')
  fits_so s' t' = ⊎_elim at_pair (fits_there s' t') (cases_Bool (eqb s s' && eqb t t'))
    where
      at_pair : (eqb s s' && eqb t t') ≡ true → Fits (seen (touched s t c rs T) bag' s' t')
      at_pair yes' =
          let both = and_parts (eqb s s') (eqb t t') yes' in
          let es = eqb-true s s' both.0 in
          let et = eqb-true t t' both.1 in
          subst (λ x. Fits (seen (touched s t c rs T) bag' x t')) es (subst (λ y. Fits (seen (touched s t c rs T) bag' s y)) et fits_here)

  senders_so : (q : HandOn) → 0 < times (same_hand_on q) T.sent → Standing (touched s t c rs T) q
  senders_so q some' = record {
    receiver = before.receiver;
    apart = before.apart;
    held = ⊎_elim at_pair elsewhere (cases_Bool (eqb s q.sender && eqb t q.trace));
  }
    where
      before : Standing T q
      before = sound.senders q some'

      at_pair : (eqb s q.sender && eqb t q.trace) ≡ true → holds (cell_at (with_cell s t c T) q.sender q.trace) ≡ true
      at_pair yes' =
          let both = and_parts (eqb s q.sender) (eqb t q.trace) yes' in
          let es = eqb-true s q.sender both.0 in
          let et = eqb-true t q.trace both.1 in
          let put = cell_here T s t c sound.shape touch.station touch.trace in
          subst (λ x. holds (cell_at (with_cell s t c T) x q.trace) ≡ true) es
          (subst (λ y. holds (cell_at (with_cell s t c T) s y) ≡ true) et (ap holds put ∙ touch.holds_on q some' (sym es) (sym et)))

      elsewhere : (eqb s q.sender && eqb t q.trace) ≡ false → holds (cell_at (with_cell s t c T) q.sender q.trace) ≡ true
      elsewhere no' = ap holds (cell_elsewhere T s t c sound.shape touch.station touch.trace q.sender q.trace no') ∙ before.held

  pub keep : Sound (touched s t c rs T) bag'
  keep =
      let at_sum = total_here T s t c sound.shape touch.station touch.trace in
      let was = sound.fits s t in
      let is = touch.here in
      record {
        shape = shaped_so;
        owners = sound.owners;
        fits = fits_so;
        packets = touch.packets;
        senders = senders_so;
        shaped = touch.shaped;
        copies = touch.copies;
        dirties = omega (arith, sound.dirties, touch.dirties, at_sum dirty_owed, at_sum awaiting_of, was.dirty_line, is.dirty_line);
        cleans = omega (arith, sound.cleans, touch.cleans, at_sum clean_owed, at_sum cleaning_of, was.clean_line, is.clean_line);
      }
