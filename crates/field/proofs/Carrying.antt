-- Calls of a field whose checks are made in parts.
use Rattle.std.proofs.Common.{◌≡◌, List, ◌++◌, IsErrAnd, Err, Result, refl, ap, ◌∙◌}
use Rattle.std.proofs.lemmas.Result.{err_from_is_err_and}
use Rattle.link.specs.Meaning.{Meaning}
use Rattle.protocol.specs.Calls.{Check, Step, first_refusal, told, verdict}
use Rattle.protocol.specs.Refusals.{fault}
use Rattle.protocol.specs.declared.refusal.Refusal.{Refusal}
use Rattle.protocol.proofs.Checks.{refused_by, stops}
use Rattle.field.specs.Carried.{Carried}
use Rattle.field.specs.declared.Field.{Field}

module _ {L M A B : Type 0} (meaning : L → Meaning) (counted : M → M) (step : Step A) (before : Field L M) where
  -- what is handed on by `?` from the first part of the checks is the step's refusal, with nothing changed
  pub refused_early : (cs ds : List Check) (b : B) (e : Refusal) (r : Result A Refusal) → (step before.tables (meaning before.link)).checks ≡ cs ++ ds → Err (fault e) ≡ verdict (first_refusal cs) b → IsErrAnd r (λ y. y ≡ e) → Carried meaning counted step before before r
  refused_early cs ds b e r parts refused handed =
      let came = err_from_is_err_and r handed in
      rw (parts, stops (fault e) cs ds (refused_by _ _ _ refused)) (ap told came.1 ∙ ap (λ y. Err (fault y)) came.2, refl)
