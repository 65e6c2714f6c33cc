-- The delivery of dirties, cleans and their acks.
use Rattle.std.proofs.Common.{◌≡◌, ℕ, ◌+◌, true, false, List, map, Some, sym, refl, ap, arith}
use Rattle.link.specs.Messages.{often}
use Rattle.link.specs.declared.message.Message.{Message}
use Rattle.link.specs.declared.message.Kind.TheVariants.{Clean as a_clean, CleanAck as a_clean_ack, Dirty as a_dirty, DirtyAck as a_dirty_ack}
use Rattle.cells.specs.Cells.{in_state, is_ccit, is_ccitnil, with_duty, with_listed}
use Rattle.cells.specs.declared.Duty.{Duty}
use Rattle.cells.specs.declared.Duty.TheVariants.{Clean, CleanAck, Dirty, DirtyAck}
use Rattle.cells.specs.declared.State.{State}
use Rattle.cells.specs.declared.State.TheVariants.{None, Nil, Ok, Ccit, CcitNil}
use Rattle.tables.specs.Copies.{freed}
use Rattle.tables.specs.Kept.{cell_at}
use Rattle.tables.specs.declared.tables.Tables.{Tables}
use Rattle.protocol.specs.Delivery.{clean_ack_comes, delivered}
use Rattle.days.proofs.Calm.{calm_taken, confirmed, keep_calm, sender_holds, untouched}
use Rattle.days.proofs.Counted.{freed_here}
use Rattle.days.proofs.Facts.{awaiting_keeps, known_from}
use Rattle.days.proofs.Messages.{More, due, more_due, same_duty}
use Rattle.days.proofs.Pictures.{bit, fits_clean_ack_ends, fits_clean_ack_frees, fits_clean_comes, fits_dirty_ack_comes, fits_dirty_comes, held_bits, one_state, recount}
use Rattle.days.proofs.Sound.{Sound, owner_of, seen}

module _ (s t : ℕ) (T : Tables) (bag bag' : List Message) (sound : Sound T bag) where
  -- what waits about the pair, with the message and without it
  counts : (duty x : Duty) → More (due duty s (owner_of T t) t) bag' bag → often (due x s (owner_of T t) t) bag ≡ bit (same_duty x duty) + often (due x s (owner_of T t) t) bag'
  counts duty x more = more_due x duty s (owner_of T t) t bag' bag more

  pub dirty_keeps : More (due Dirty s (owner_of T t) t) bag' bag → Sound (delivered T (due Dirty s (owner_of T t) t) (Some a_dirty)) bag'
  dirty_keeps more =
      let v = seen T bag s t in
      let f = sound.fits s t in
      let one = one_state v.cell.state in
      let w = λ (x : Duty). counts Dirty x more in
      let is = w Dirty in
      let known = known_from T bag sound s t (omega arith) in
      let c = with_duty DirtyAck true (with_listed true v.cell) in
      keep_calm T bag bag' s t c T.received sound (calm_taken T bag bag' Dirty s t sound more) (untouched s t T.received)
      known.0 known.1
      (recount _ _ _ _ _ _ (fits_dirty_comes v (often (due Dirty s (owner_of T t) t) bag') f is (awaiting_keeps T bag sound s t (omega arith))) refl (omega (arith, w DirtyAck)) (omega (arith, w Clean)) (omega (arith, w CleanAck)) refl)
      (sender_holds T bag sound s t)

  pub clean_keeps : More (due Clean s (owner_of T t) t) bag' bag → Sound (delivered T (due Clean s (owner_of T t) t) (Some a_clean)) bag'
  clean_keeps more =
      let v = seen T bag s t in
      let f = sound.fits s t in
      let one = one_state v.cell.state in
      let w = λ (x : Duty). counts Clean x more in
      let is = w Clean in
      let known = known_from T bag sound s t (omega arith) in
      let c = with_duty CleanAck true (with_listed false v.cell) in
      keep_calm T bag bag' s t c T.received sound (calm_taken T bag bag' Clean s t sound more) (untouched s t T.received)
      known.0 known.1
      (recount _ _ _ _ _ _ (fits_clean_comes v (often (due Clean s (owner_of T t) t) bag') f is) (omega (arith, w Dirty)) (omega (arith, w DirtyAck)) refl (omega (arith, w CleanAck)) refl)
      (sender_holds T bag sound s t)

  pub dirty_ack_keeps : More (due DirtyAck s (owner_of T t) t) bag' bag → Sound (delivered T (due DirtyAck s (owner_of T t) t) (Some a_dirty_ack)) bag'
  dirty_ack_keeps more =
      let v = seen T bag s t in
      let f = sound.fits s t in
      let one = one_state v.cell.state in
      let w = λ (x : Duty). counts DirtyAck x more in
      let is = w DirtyAck in
      let known = known_from T bag sound s t (omega arith) in
      keep_calm T bag bag' s t (in_state Ok v.cell) (map (freed s t) T.received) sound
      (calm_taken T bag bag' DirtyAck s t sound more) (confirmed s t T.received) known.0 known.1
      (recount _ _ _ _ _ _ (fits_dirty_ack_comes v (often (due DirtyAck s (owner_of T t) t) bag') f is) (omega (arith, w Dirty)) refl (omega (arith, w Clean)) (omega (arith, w CleanAck)) (sym (freed_here s t T.received)))
      (λ q some' by of. absurd (omega (arith, held_bits v.cell (sender_holds T bag sound s t q some' by of))))

  -- a clean ack finds a clean call in transit
  no_clean : bit (is_ccit (cell_at T s t).state) + bit (is_ccitnil (cell_at T s t).state) ≡ 0 → More (due CleanAck s (owner_of T t) t) bag' bag → ⊥
  no_clean none more = omega (arith, (sound.fits s t).clean_line, counts CleanAck CleanAck more)

  clean_ack_by : (state : State) → (cell_at T s t).state ≡ state → More (due CleanAck s (owner_of T t) t) bag' bag → Sound (clean_ack_comes state (cell_at T s t) (due CleanAck s (owner_of T t) t) T) bag'
  clean_ack_by Ccit at more =
      let v = seen T bag s t in
      let f = sound.fits s t in
      let one = one_state v.cell.state in
      let w = λ (x : Duty). counts CleanAck x more in
      let is = w CleanAck in
      let known = known_from T bag sound s t (omega arith) in
      keep_calm T bag bag' s t (in_state None v.cell) T.received sound
      (calm_taken T bag bag' CleanAck s t sound more) (untouched s t T.received) known.0 known.1
      (recount _ _ _ _ _ _ (fits_clean_ack_ends v (often (due CleanAck s (owner_of T t) t) bag') f is (ap is_ccit at)) (omega (arith, w Dirty)) (omega (arith, w DirtyAck)) (omega (arith, w Clean)) refl refl)
      (λ q some' by of. absurd (omega (arith, held_bits v.cell (sender_holds T bag sound s t q some' by of))))
  clean_ack_by CcitNil at more =
      let v = seen T bag s t in
      let f = sound.fits s t in
      let one = one_state v.cell.state in
      let w = λ (x : Duty). counts CleanAck x more in
      let is = w CleanAck in
      let known = known_from T bag sound s t (omega arith) in
      keep_calm T bag bag' s t (in_state Nil v.cell) T.received sound
      (calm_taken T bag bag' CleanAck s t sound more) (untouched s t T.received) known.0 known.1
      (recount _ _ _ _ _ _ (fits_clean_ack_frees v (often (due CleanAck s (owner_of T t) t) bag') f is (ap is_ccitnil at)) (omega (arith, w Dirty)) (omega (arith, w DirtyAck)) (omega (arith, w Clean)) refl refl)
      (λ q some' by of. absurd (omega (arith, held_bits v.cell (sender_holds T bag sound s t q some' by of))))
  clean_ack_by None at more = absurd (no_clean (ap (λ x. bit (is_ccit x) + bit (is_ccitnil x)) at) more)
  clean_ack_by Nil at more = absurd (no_clean (ap (λ x. bit (is_ccit x) + bit (is_ccitnil x)) at) more)
  clean_ack_by Ok at more = absurd (no_clean (ap (λ x. bit (is_ccit x) + bit (is_ccitnil x)) at) more)

  pub clean_ack_keeps : More (due CleanAck s (owner_of T t) t) bag' bag → Sound (delivered T (due CleanAck s (owner_of T t) t) (Some a_clean_ack)) bag'
  clean_ack_keeps more = clean_ack_by (cell_at T s t).state refl more
