-- What follows from soundness at once: about sent entries, copies, and stations that await.
use Rattle.std.proofs.Common.{◌≡◌, ℕ, ◌+◌, ◌<◌, ◌≤◌, Bool, true, false, not, ◌&&◌, eqb, List, sym, refl, ap, ◌∙◌, arith}
use Rattle.std.proofs.lemmas.Bool.{and_parts, eqb-true, ltb-true}
use Rattle.slots.specs.Entries.{times}
use Rattle.slots.proofs.Laws.{first_found, first_passes}
use Rattle.link.specs.Messages.{often}
use Rattle.link.specs.declared.message.Message.{Message}
use Rattle.cells.specs.Cells.{holds}
use Rattle.tables.specs.Copies.{same_hand_on}
use Rattle.tables.specs.Kept.{cell_at, trace_at}
use Rattle.tables.specs.declared.entries.HandOn.{HandOn}
use Rattle.tables.specs.declared.tables.Tables.{Tables}
use Rattle.protocol.specs.Known.{in_field, is_opened}
use Rattle.days.proofs.Counted.{blocked_at, first_counted, received_of, same_hand_on_self}
use Rattle.days.proofs.Messages.{ack_of, copy_of}
use Rattle.days.proofs.Pictures.{bit, bit_le, held_bits, owns_not}
use Rattle.days.proofs.Sound.{Sound, awaiting_of, owner_of, seen}

-- a bit that counts is set
pub bit_true : (b : Bool) → 1 ≤ bit b → b ≡ true
bit_true true h = refl
bit_true false h = absurd (omega arith)

pub bit_false : (b : Bool) → bit b ≤ 0 → b ≡ false
bit_false true h = absurd (omega arith)
bit_false false h = refl

own_kept : (k o e : Bool) → bit (k && (o && not e)) + bit e ≤ 1
own_kept true true true = omega arith
own_kept true true false = omega arith
own_kept true false e = omega (arith, bit_le e)
own_kept false o e = omega (arith, bit_le e)

module _ (T : Tables) (bag : List Message) (sound : Sound T bag) where
  -- a station in another state than none is in the field, and so is the trace
  pub known_from : (s t : ℕ) → 1 ≤ bit (seen T bag s t).known → (s < T.stations) × (t < T.opened)
  known_from s t busy =
      let parts = and_parts (in_field T s) (is_opened T t) (bit_true _ busy) in
      (ltb-true s T.stations parts.0, ltb-true t T.opened parts.1)

  -- who holds a trace is in the field, and the trace is not erased
  pub holder_known : (s t : ℕ) → holds (cell_at T s t) ≡ true → (s < T.stations) × (t < T.opened)
  holder_known s t held =
      let b = held_bits (cell_at T s t) held in let f = sound.fits s t in known_from s t (omega arith)

  pub holder_keeps : (s t : ℕ) → holds (cell_at T s t) ≡ true → (trace_at T t).erased ≡ false
  holder_keeps s t held =
      let v = seen T bag s t in
      let b = held_bits (cell_at T s t) held in
      let f = sound.fits s t in
      let o = own_kept v.known v.owner v.erased in
      bit_false v.erased (omega arith)

  -- another holder than the owner is listed
  pub holder_listed : (s t : ℕ) → eqb s (owner_of T t) ≡ false → holds (cell_at T s t) ≡ true → (cell_at T s t).listed ≡ true
  holder_listed s t other held =
      let v = seen T bag s t in
      let b = held_bits (cell_at T s t) held in
      let f = sound.fits s t in
      let o = owns_not v other in
      bit_true (cell_at T s t).listed (omega arith)

  -- a copy that waits, a received entry and a copy ack that waits have their sent entry
  pub copy_stands : (q : HandOn) → 0 < often (copy_of q) bag → 0 < times (same_hand_on q) T.sent
  copy_stands q some' = omega (arith, sound.packets q)

  pub received_stands : (q : HandOn) → 0 < times (received_of q) T.received → 0 < times (same_hand_on q) T.sent
  received_stands q some' = omega (arith, sound.packets q)

  pub ack_stands : (q : HandOn) → 0 < often (ack_of q) bag → 0 < times (same_hand_on q) T.sent
  ack_stands q some' = omega (arith, sound.packets q)

  -- a station that awaits a trace has a received entry of it, whose sender's entry stands
  pub record Awaited (t : ℕ) : Type 0 where
    pub hand_on : HandOn
    pub about : hand_on.trace ≡ t
    pub stands : 0 < times (same_hand_on hand_on) T.sent

  pub awaited : (s t : ℕ) → 1 ≤ awaiting_of (cell_at T s t) → Awaited t
  awaited s t some' =
      let f = sound.fits s t in
      let p = blocked_at s t in
      let found = first_found p T.received (omega arith) in
      let e = found.0 in
      let passes = (and_parts (not e.due) (eqb e.copy.receiver s && eqb e.copy.trace t) (first_passes p T.received e found.1)).1 in
      let about = eqb-true e.copy.trace t (and_parts (eqb e.copy.receiver s) (eqb e.copy.trace t) passes).1 in
      record {
        hand_on = e.copy;
        about = about;
        stands = received_stands e.copy (first_counted p (received_of e.copy) T.received e found.1 (same_hand_on_self e.copy));
      }

  pub awaiting_keeps : (s t : ℕ) → 1 ≤ awaiting_of (cell_at T s t) → (trace_at T t).erased ≡ false
  awaiting_keeps s t some' =
      let a = awaited s t some' in
      let held = (sound.senders a.hand_on a.stands).held in
      ap (λ x. (trace_at T x).erased) (sym a.about) ∙ holder_keeps a.hand_on.sender a.hand_on.trace held
