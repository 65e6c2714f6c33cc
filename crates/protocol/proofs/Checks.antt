-- Checks made in parts: what the first part refuses is refused, and what it lets pass is left to the rest.
use Rattle.std.proofs.Common.{◌≡◌, false, List, [], ◌∷◌, ◌++◌, Some, None, Ok, Err, Option, refl, arith}
use Rattle.std.specs.List.{AllByRecursion}
use Rattle.protocol.specs.Calls.{Check, first_refusal, verdict}
use Rattle.protocol.specs.Refusals.{Fault}

-- what one part refuses is refused by the whole
pub stops : (f : Fault) (cs ds : List Check) → first_refusal cs ≡ Some f → first_refusal (cs ++ ds) ≡ Some f
stops f [] ds is = absurd cc
stops f (c ∷ cs) ds is = grind (arith, stops f cs ds)

-- what one part lets pass is left to the rest
pub passes : (cs ds : List Check) → first_refusal cs ≡ None → first_refusal (cs ++ ds) ≡ first_refusal ds
passes [] ds is = refl
passes (c ∷ cs) ds is = grind (arith, passes cs ds)

-- a verdict read backwards
pub refused_by : {A : Type 0} (o : Option Fault) (f : Fault) (a : A) → Err f ≡ verdict o a → o ≡ Some f
refused_by None f a is = absurd cc
refused_by (Some g) f a is = cc

pub accepted_by : {A : Type 0} (o : Option Fault) (a x : A) → Ok x ≡ verdict o a → (o ≡ None) × (x ≡ a)
accepted_by None a x is = (refl, cc)
accepted_by (Some g) a x is = absurd cc

-- accepted means that no condition holds
pub no_condition : (cs : List Check) → first_refusal cs ≡ None → AllByRecursion (λ c. c.met ≡ false) cs
no_condition [] is = tt
no_condition (c ∷ cs) is = (grind arith, no_condition cs (grind arith))
