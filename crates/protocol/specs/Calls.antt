-- What a call on a field is: the checks in their order, and what it does where none refuses.
use Rattle.std.specs.Prelude.{◌≡◌, ℕ, Bool, true, false, cond, List, [], ◌∷◌, Some, None, Ok, Err, Option, Result}
use Rattle.link.specs.Gates.{Gate}
use Rattle.link.specs.Meaning.{Meaning}
use Rattle.link.specs.declared.message.Message.{Message}
use Rattle.tables.specs.declared.tables.Tables.{Tables}
use Rattle.protocol.specs.Refusals.{Fault, fault, numbered}
use Rattle.protocol.specs.declared.refusal.Refusal.{Refusal}

-- a refusal and the condition under which it comes
pub record Check : Type 0 where
  pub refusal : Fault
  pub met : Bool

infixr 70 ◌when◌
-- the refusal with this number, under this condition
abbrev pub ◌when◌ : ℕ → Bool → Check
n when b = record { refusal = numbered n; met = b }

-- the refusal of a closed gate, with its depth
abbrev pub shut : Gate → Check
shut (Ok done) = 15 when false
shut (Err closed) = record { refusal = record { number = 15; depth = Some closed.depth }; met = true }

-- the first refusal whose condition holds; none where the call is accepted
abbrev pub first_refusal : List Check → Option Fault
first_refusal [] = None
first_refusal (c ∷ cs) = cond c.met (Some c.refusal) (first_refusal cs)

-- what a call does on the link
pub data Radio : Type 0 where
  silent : Radio
  posts : Message → Radio
  takes : Message → Radio

-- a call with given arguments on given tables: its checks in the order in which they are made, and what an
-- accepted one answers, leaves in the tables and does on the link
pub record Call (A : Type 0) : Type 0 where
  pub checks : List Check
  pub answer : A
  pub after : Tables
  pub radio : Radio

-- the step of a call: what it is on given tables, over a link that means this
abbrev pub Step : Type 0 → Type 0
Step A = Tables → Meaning → Call A

-- an answer with its refusal told by number
abbrev pub told : {A : Type 0} → Result A Refusal → Result A Fault
told (Ok a) = Ok a
told (Err e) = Err (fault e)

-- what a list of checks answers: the first refusal, or else this
abbrev pub verdict : {A : Type 0} → Option Fault → A → Result A Fault
verdict None a = Ok a
verdict (Some f) a = Err f

-- the answer of a function that makes these checks: the first refusal, told by its number, or else this
abbrev pub Answers : {A : Type 0} → List Check → A → Result A Refusal → Type 0
Answers checks a r = told r ≡ verdict (first_refusal checks) a
