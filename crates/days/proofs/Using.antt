-- Using a trace and giving it back touch nothing but uses.
use Rattle.std.proofs.Common.{◌≡◌, ℕ, ◌+◌, ◌-◌, ◌<◌, false, not, ltb, List, None}
use Rattle.std.proofs.lemmas.Bool.{ltb-true, not-false}
use Rattle.link.specs.Meaning.{Meaning}
use Rattle.link.specs.declared.message.Message.{Message}
use Rattle.cells.specs.Cells.{with_uses}
use Rattle.tables.specs.Kept.{cell_at, with_cell}
use Rattle.tables.specs.declared.tables.Tables.{Tables}
use Rattle.protocol.specs.Calls.{first_refusal}
use Rattle.protocol.specs.UserCalls.{giving_back, making_use, may_give_back, may_use}
use Rattle.protocol.proofs.Checks.{no_condition}
use Rattle.days.proofs.Calm.{calm_silent, keep_calm, sender_holds, untouched}
use Rattle.days.proofs.Pictures.{fits_uses}
use Rattle.days.proofs.Sound.{Sound, seen}

-- a number that was checked against a bound is below it
pub below : (n bound : ℕ) → not (ltb n bound) ≡ false → n < bound
below n bound in' = ltb-true n bound (not-false (ltb n bound) in')

uses_keep : (s t n : ℕ) (T : Tables) (bag : List Message) → Sound T bag → s < T.stations → t < T.opened → Sound (with_cell s t (with_uses n (cell_at T s t)) T) bag
uses_keep s t n T bag sound station trace =
    keep_calm T bag bag s t (with_uses n (cell_at T s t)) T.received sound (calm_silent T bag s t sound)
    (untouched s t T.received) station trace (fits_uses (seen T bag s t) n (sound.fits s t)) (sender_holds T bag sound s t)

module _ (s t : ℕ) (T : Tables) (link : Meaning) (sound : Sound T link.bag) where
  pub use_keeps : first_refusal (making_use s t T link).checks ≡ None → Sound (making_use s t T link).after link.bag
  use_keeps passed =
      let c = no_condition (may_use T s t) passed in
      uses_keep s t ((cell_at T s t).uses + 1) T link.bag sound (below s T.stations c.0) (below t T.opened c.1.0)

  pub give_back_keeps : first_refusal (giving_back s t T link).checks ≡ None → Sound (giving_back s t T link).after link.bag
  give_back_keeps passed =
      let c = no_condition (may_give_back T s t) passed in
      uses_keep s t ((cell_at T s t).uses - 1) T link.bag sound (below s T.stations c.0) (below t T.opened c.1.0)
