-- The kinds of message and their numbers.
use Rattle.std.specs.Prelude.{◌≡◌, ℕ, cond, List, [], ◌∷◌, Some, None, Option, Result, IfErr, codes, ◌==◌}
use Rattle.std.specs.Result.{result_ok}
use Rattle.link.specs.declared.message.Kind.{Kind}
use Rattle.link.specs.declared.message.UnknownKind.{UnknownKind}
use Rattle.link.specs.declared.message.Kind.TheVariants.{Copy, CopyAck, Dirty, DirtyAck, Clean, CleanAck}

abbrev pub kind_number : Kind → ℕ
kind_number Copy = 1
kind_number CopyAck = 2
kind_number Dirty = 3
kind_number DirtyAck = 4
kind_number Clean = 5
kind_number CleanAck = 6

-- a kind in words
abbrev pub kind_words : Kind → List ℕ
kind_words Copy = codes "copy"
kind_words CopyAck = codes "copy ack"
kind_words Dirty = codes "dirty"
kind_words DirtyAck = codes "dirty ack"
kind_words Clean = codes "clean"
kind_words CleanAck = codes "clean ack"

-- the kind of these that has a number, if there is one
abbrev pub kind_among : List Kind → ℕ → Option Kind
kind_among [] n = None
kind_among (k ∷ ks) n = cond (n == kind_number k) (Some k) (kind_among ks n)

-- the kind that has a number, if there is one
abbrev pub kind_of : ℕ → Option Kind
kind_of = kind_among (Copy ∷ CopyAck ∷ Dirty ∷ DirtyAck ∷ Clean ∷ CleanAck ∷ [])

-- what a number is read as: the kind that has it, or else the number back
abbrev pub ReadsKind : ℕ → Result Kind UnknownKind → Type 0
ReadsKind n r = (result_ok r ≡ kind_of n) × IfErr r (λ e. e.0 ≡ n)

-- the packet number that a message of this kind carries: only copies and their acks have one
abbrev pub carried : Kind → ℕ → ℕ
carried Copy n = n
carried CopyAck n = n
carried Dirty n = 0
carried DirtyAck n = 0
carried Clean n = 0
carried CleanAck n = 0
