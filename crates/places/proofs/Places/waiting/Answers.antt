use Rattle.std.proofs.Common.{length, true, sym, refl, ◌∙◌, arith}
use Rattle.std.proofs.lemmas.List.Recursion.{is_count_by}
use Rattle.places.proofs.Places.waiting.Goals as goal

pub returns-clause-value : goal.returns-clause-value
returns-clause-value c = c.count.ensures.value ∙ sym (is_count_by length (λ _. true) refl (λ x xs. omega arith) _)
