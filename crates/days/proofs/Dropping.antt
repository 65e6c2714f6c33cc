-- A drop: the station holds the trace, is not its owner, and has no sent entry of it.
use Rattle.std.proofs.Common.{◌≡◌, ℕ, ◌≤◌, true, eqb, None, ◌∙◌, arith}
use Rattle.std.proofs.lemmas.Bool.{and_from, and_parts, eq-eqb, eqb-true, ltb-false, not-false}
use Rattle.slots.specs.Entries.{times}
use Rattle.link.specs.Meaning.{Meaning}
use Rattle.cells.specs.Cells.{holds, with_duty}
use Rattle.cells.specs.declared.Duty.TheVariants.{Clean}
use Rattle.tables.specs.Copies.{same_hand_on, sent_by}
use Rattle.tables.specs.Kept.{cell_at}
use Rattle.tables.specs.declared.entries.HandOn.{HandOn}
use Rattle.tables.specs.declared.tables.Tables.{Tables}
use Rattle.protocol.specs.Calls.{first_refusal}
use Rattle.protocol.specs.UserCalls.{dropping, may_drop}
use Rattle.protocol.proofs.Checks.{no_condition}
use Rattle.days.proofs.Calm.{calm_silent, keep_calm, untouched}
use Rattle.days.proofs.Counted.{times_mono}
use Rattle.days.proofs.Pictures.{fits_dropped}
use Rattle.days.proofs.Sound.{Sound, seen}
use Rattle.days.proofs.Using.{below}

-- a sent entry is one of its sender and its trace
pub sent_counted : (T : Tables) (q : HandOn) (s t : ℕ) → q.sender ≡ s → q.trace ≡ t → times (same_hand_on q) T.sent ≤ times (sent_by s t) T.sent
sent_counted T q s t is of = times_mono (same_hand_on q) (sent_by s t) passes T.sent
  where
    passes : (h : HandOn) → same_hand_on q h ≡ true → sent_by s t h ≡ true
    passes h yes' =
        let a = and_parts (eqb h.packet q.packet) _ yes' in
        let b = and_parts (eqb h.sender q.sender) _ a.1 in
        let c = and_parts (eqb h.receiver q.receiver) _ b.1 in
        and_from (eqb h.sender s) (eqb h.trace t) (eq-eqb h.sender s (eqb-true h.sender q.sender b.0 ∙ is)) (eq-eqb h.trace t (eqb-true h.trace q.trace c.1 ∙ of))

pub drop_keeps : (s t : ℕ) (T : Tables) (link : Meaning) → Sound T link.bag → first_refusal (dropping s t T link).checks ≡ None → Sound (dropping s t T link).after link.bag
drop_keeps s t T link sound passed =
    let c = no_condition (may_drop T s t) passed in
    let none = ltb-false 0 (times (sent_by s t) T.sent) c.1.1.1.1.1.0 in
    keep_calm T link.bag link.bag s t (with_duty Clean true (cell_at T s t)) T.received sound
    (calm_silent T link.bag s t sound) (untouched s t T.received) (below s T.stations c.0)
    (below t T.opened c.1.0)
    (fits_dropped (seen T link.bag s t) (sound.fits s t) (not-false (holds (cell_at T s t)) c.1.1.1.0) c.1.1.0)
    (λ q some' is of. absurd (omega (arith, sent_counted T q s t is of)))
