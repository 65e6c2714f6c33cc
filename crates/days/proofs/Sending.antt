-- The sending of a duty: the duty goes, and its message waits.
use Rattle.std.proofs.Common.{◌≡◌, ℕ, true, List, None, sym, refl, ap, arith}
use Rattle.std.proofs.lemmas.Bool.{not-false}
use Rattle.link.specs.Meaning.{Meaning}
use Rattle.link.specs.declared.message.Message.{Message}
use Rattle.cells.specs.Cells.{holds, owes}
use Rattle.cells.specs.declared.Cell.{Cell}
use Rattle.cells.specs.declared.Duty.{Duty}
use Rattle.cells.specs.declared.Duty.TheVariants.{Clean, CleanAck, Dirty, DirtyAck}
use Rattle.tables.specs.Kept.{cell_at}
use Rattle.tables.specs.declared.tables.Tables.{Tables}
use Rattle.protocol.specs.Calls.{first_refusal}
use Rattle.protocol.specs.HouseCalls.{done, sending}
use Rattle.protocol.proofs.Checks.{no_condition}
use Rattle.days.proofs.Calm.{calm_posted, keep_calm, sender_holds, untouched}
use Rattle.days.proofs.Messages.{More, due, more_due}
use Rattle.days.proofs.Pictures.{Fits, bit, fits_sent, held_bits, recount, sent_seen, with_seen}
use Rattle.days.proofs.Sound.{Sound, owner_of, seen}
use Rattle.days.proofs.Using.{below}

-- the picture afterwards
sent_here : (duty : Duty) (s t : ℕ) (T : Tables) (bag bag' : List Message) → More (due duty s (owner_of T t) t) bag bag' → Fits (sent_seen duty (seen T bag s t)) → Fits (with_seen (done duty (cell_at T s t)) (seen T bag' s t))
sent_here Dirty s t T bag bag' more f =
    let o = owner_of T t in let w = λ (x : Duty). more_due x Dirty s o t bag bag' more in
    recount _ _ _ _ _ _ f (sym (w Dirty)) (omega (arith, w DirtyAck)) (omega (arith, w Clean)) (omega (arith, w CleanAck)) refl
sent_here DirtyAck s t T bag bag' more f =
    let o = owner_of T t in let w = λ (x : Duty). more_due x DirtyAck s o t bag bag' more in
    recount _ _ _ _ _ _ f (omega (arith, w Dirty)) (sym (w DirtyAck)) (omega (arith, w Clean)) (omega (arith, w CleanAck)) refl
sent_here Clean s t T bag bag' more f =
    let o = owner_of T t in let w = λ (x : Duty). more_due x Clean s o t bag bag' more in
    recount _ _ _ _ _ _ f (omega (arith, w Dirty)) (omega (arith, w DirtyAck)) (sym (w Clean)) (omega (arith, w CleanAck)) refl
sent_here CleanAck s t T bag bag' more f =
    let o = owner_of T t in let w = λ (x : Duty). more_due x CleanAck s o t bag bag' more in
    recount _ _ _ _ _ _ f (omega (arith, w Dirty)) (omega (arith, w DirtyAck)) (omega (arith, w Clean)) (sym (w CleanAck)) refl

-- who holds the trace still does: a holder owes no clean call
still_holds : (duty : Duty) (c : Cell) → owes duty c ≡ true → holds c ≡ true → holds (done duty c) ≡ true
still_holds Dirty c owed held = held
still_holds DirtyAck c owed held = held
still_holds Clean c owed held = absurd (omega (arith, held_bits c held, ap bit owed))
still_holds CleanAck c owed held = held

pub send_keeps : (duty : Duty) (s t : ℕ) (T : Tables) (link : Meaning) (bag' : List Message) → Sound T link.bag → first_refusal (sending duty s t T link).checks ≡ None → More (due duty s (owner_of T t) t) link.bag bag' → Sound (sending duty s t T link).after bag'
send_keeps duty s t T link bag' sound passed more =
    let cell = cell_at T s t in
    let c = no_condition (sending duty s t T link).checks passed in
    let owed = not-false (owes duty cell) c.1.1.0 in
    keep_calm T link.bag bag' s t (done duty cell) T.received sound
    (calm_posted T link.bag bag' duty s t sound more) (untouched s t T.received) (below s T.stations c.0)
    (below t T.opened c.1.0)
    (sent_here duty s t T link.bag bag' more (fits_sent duty (seen T link.bag s t) (sound.fits s t) owed c.1.1.1.0))
    (λ q some' is of. still_holds duty cell owed (sender_holds T link.bag sound s t q some' is of))
