-- The messages that occur on a day, told apart, and how often one waits when one more does.
use Rattle.std.proofs.Common.{◌≡◌, ℕ, ◌+◌, ◌<◌, Bool, true, false, ◌&&◌, eqb, List, ◌∷◌, count_by, sym, refl, ap, ◌∙◌, ⊎_elim, arith}
use Rattle.std.proofs.lemmas.List.Sums.{sum_by-cons}
use Rattle.std.proofs.lemmas.Bool.{and_left, and_right, cases_Bool}
use Rattle.link.specs.Kinds.{kind_number}
use Rattle.link.specs.Messages.{of_kind, often, same, SameBag}
use Rattle.link.specs.declared.message.Kind.TheVariants.{Copy, CopyAck}
use Rattle.link.specs.declared.message.Message.{Message}
use Rattle.link.proofs.Bags.{often-cons, same_is, same_self, sum_by-same_bag}
use Rattle.cells.specs.declared.Duty.{Duty}
use Rattle.cells.specs.declared.Duty.TheVariants.{Clean, CleanAck, Dirty, DirtyAck}
use Rattle.tables.specs.Copies.{same_hand_on}
use Rattle.tables.specs.declared.entries.HandOn.{HandOn}
use Rattle.protocol.specs.HouseCalls.{kind_due, receiver_of, sender_of}
use Rattle.days.proofs.Pictures.{bit}

-- the copy and the copy ack of a hand-on, and the message that a duty asks for, with its owner
abbrev pub copy_of : HandOn → Message
copy_of q = record { kind = kind_number Copy; sender = q.sender; receiver = q.receiver; trace = q.trace; packet = q.packet }

abbrev pub ack_of : HandOn → Message
ack_of q = record { kind = kind_number CopyAck; sender = q.receiver; receiver = q.sender; trace = q.trace; packet = q.packet }

abbrev pub due : Duty → ℕ → ℕ → ℕ → Message
due duty s o t = record { kind = kind_number (kind_due duty); sender = sender_of duty s o; receiver = receiver_of duty s o; trace = t; packet = 0 }

-- the second bag has the message once more than the first
abbrev pub More : Message → List Message → List Message → Type 0
More m xs ys = SameBag ys (m ∷ xs)

pub more_often : (x m : Message) (xs ys : List Message) → More m xs ys → often x ys ≡ bit (same x m) + often x xs
more_often x m xs ys more = more x ∙ often-cons x m xs

-- another message waits as often as before, the same one once more
pub more_other : (x m : Message) (xs ys : List Message) → More m xs ys → same x m ≡ false → often x ys ≡ often x xs
more_other x m xs ys more other = more_often x m xs ys more ∙ ap (λ b. bit b + often x xs) other ∙ omega arith

pub more_same : (m : Message) (xs ys : List Message) → More m xs ys → often m ys ≡ 1 + often m xs
more_same m xs ys more = more_often m m xs ys more ∙ ap (λ b. bit b + often m xs) (same_self m)

pub less_often : (x m : Message) (xs ys : List Message) → More m xs ys → 0 < often x xs → 0 < often x ys
less_often x m xs ys more some' = omega (arith, more_often x m xs ys more)

-- how many of a kind wait
pub more_kind : (k : ℕ) (m : Message) (xs ys : List Message) → More m xs ys → count_by (of_kind k) ys ≡ bit (of_kind k m) + count_by (of_kind k) xs
more_kind k m xs ys more =
    let f = λ (y : Message). bit (of_kind k y) in sum_by-same_bag f ys (m ∷ xs) more ∙ sum_by-cons f m xs

-- what waits with one more is that one, or waited before
pub more_cases : (P : Message → Type 0) (m : Message) (xs ys : List Message) → More m xs ys → P m → ((x : Message) → 0 < often x xs → P x) → (x : Message) → 0 < often x ys → P x
more_cases P m xs ys more new old x some' =
    ⊎_elim (λ yes'. rw (same_is x m yes') new) (λ no'. old x (rw (more_other x m xs ys more no') at some')) (cases_Bool (same x m))

-- messages of two pairs of a station and a trace are apart, and so are those of two kinds
apart_first : (a b c d : Bool) → (a && c) ≡ false → (a && (b && (c && d))) ≡ false
apart_first true b c d no' = and_right b _ (and_left c d no')
apart_first false b c d no' = refl

apart_second : (a b c d : Bool) → (b && c) ≡ false → (a && (b && (c && d))) ≡ false
apart_second a b c d no' = and_right a _ (apart_tail b c d no')
  where
    apart_tail : (b c d : Bool) → (b && c) ≡ false → (b && (c && d)) ≡ false
    apart_tail true c d n = and_left c d n
    apart_tail false c d n = refl

pub due_apart : (duty other : Duty) (s o t s' o' t' : ℕ) → (eqb s s' && eqb t t') ≡ false → same (due other s' o' t') (due duty s o t) ≡ false
unfolding same
due_apart Dirty Dirty s o t s' o' t' no' = apart_first (eqb s s') (eqb o o') (eqb t t') _ no'
due_apart DirtyAck DirtyAck s o t s' o' t' no' = apart_second (eqb o o') (eqb s s') (eqb t t') _ no'
due_apart Clean Clean s o t s' o' t' no' = apart_first (eqb s s') (eqb o o') (eqb t t') _ no'
due_apart CleanAck CleanAck s o t s' o' t' no' = apart_second (eqb o o') (eqb s s') (eqb t t') _ no'
due_apart Dirty DirtyAck s o t s' o' t' no' = refl
due_apart Dirty Clean s o t s' o' t' no' = refl
due_apart Dirty CleanAck s o t s' o' t' no' = refl
due_apart DirtyAck Dirty s o t s' o' t' no' = refl
due_apart DirtyAck Clean s o t s' o' t' no' = refl
due_apart DirtyAck CleanAck s o t s' o' t' no' = refl
due_apart Clean Dirty s o t s' o' t' no' = refl
due_apart Clean DirtyAck s o t s' o' t' no' = refl
due_apart Clean CleanAck s o t s' o' t' no' = refl
due_apart CleanAck Dirty s o t s' o' t' no' = refl
due_apart CleanAck DirtyAck s o t s' o' t' no' = refl
due_apart CleanAck Clean s o t s' o' t' no' = refl

pub copy_not_due : (q : HandOn) (duty : Duty) (s o t : ℕ) → same (copy_of q) (due duty s o t) ≡ false
unfolding same
copy_not_due q Dirty s o t = refl
copy_not_due q DirtyAck s o t = refl
copy_not_due q Clean s o t = refl
copy_not_due q CleanAck s o t = refl

pub ack_not_due : (q : HandOn) (duty : Duty) (s o t : ℕ) → same (ack_of q) (due duty s o t) ≡ false
unfolding same
ack_not_due q Dirty s o t = refl
ack_not_due q DirtyAck s o t = refl
ack_not_due q Clean s o t = refl
ack_not_due q CleanAck s o t = refl

pub due_not_copy : (q : HandOn) (duty : Duty) (s o t : ℕ) → same (due duty s o t) (copy_of q) ≡ false
unfolding same
due_not_copy q Dirty s o t = refl
due_not_copy q DirtyAck s o t = refl
due_not_copy q Clean s o t = refl
due_not_copy q CleanAck s o t = refl

pub due_not_ack : (q : HandOn) (duty : Duty) (s o t : ℕ) → same (due duty s o t) (ack_of q) ≡ false
unfolding same
due_not_ack q Dirty s o t = refl
due_not_ack q DirtyAck s o t = refl
due_not_ack q Clean s o t = refl
due_not_ack q CleanAck s o t = refl

pub ack_not_copy : (p q : HandOn) → same (ack_of p) (copy_of q) ≡ false
unfolding same
ack_not_copy p q = refl

pub copy_not_ack : (p q : HandOn) → same (copy_of p) (ack_of q) ≡ false
unfolding same
copy_not_ack p q = refl

-- a copy, and a copy ack, tells its hand-on
turn_round : (a b c d : Bool) → (a && (b && (c && d))) ≡ (d && (a && (b && c)))
turn_round true true true true = refl
turn_round true true true false = refl
turn_round true true false d = sym (and_right d false refl)
turn_round true false c d = sym (and_right d false refl)
turn_round false b c d = sym (and_right d false refl)

swap_round : (a b c d : Bool) → (b && (a && (c && d))) ≡ (d && (a && (b && c)))
swap_round true true true true = refl
swap_round true true true false = refl
swap_round true true false d = sym (and_right d false refl)
swap_round true false c d = sym (and_right d false refl)
swap_round false true c d = sym (and_right d false refl)
swap_round false false c d = sym (and_right d false refl)

pub copies_alike : (p q : HandOn) → same (copy_of p) (copy_of q) ≡ same_hand_on p q
unfolding same
copies_alike p q =
    turn_round (eqb q.sender p.sender) (eqb q.receiver p.receiver) (eqb q.trace p.trace) (eqb q.packet p.packet)

pub acks_alike : (p q : HandOn) → same (ack_of p) (ack_of q) ≡ same_hand_on p q
unfolding same
acks_alike p q =
    swap_round (eqb q.sender p.sender) (eqb q.receiver p.receiver) (eqb q.trace p.trace) (eqb q.packet p.packet)

-- of the messages about one station and one trace, a duty's is its own
abbrev pub same_duty : Duty → Duty → Bool
same_duty Dirty Dirty = true
same_duty Dirty DirtyAck = false
same_duty Dirty Clean = false
same_duty Dirty CleanAck = false
same_duty DirtyAck Dirty = false
same_duty DirtyAck DirtyAck = true
same_duty DirtyAck Clean = false
same_duty DirtyAck CleanAck = false
same_duty Clean Dirty = false
same_duty Clean DirtyAck = false
same_duty Clean Clean = true
same_duty Clean CleanAck = false
same_duty CleanAck Dirty = false
same_duty CleanAck DirtyAck = false
same_duty CleanAck Clean = false
same_duty CleanAck CleanAck = true

due_alike : (x duty : Duty) (s o t : ℕ) → same (due x s o t) (due duty s o t) ≡ same_duty x duty
unfolding same
due_alike Dirty Dirty s o t = same_self (due Dirty s o t)
due_alike DirtyAck DirtyAck s o t = same_self (due DirtyAck s o t)
due_alike Clean Clean s o t = same_self (due Clean s o t)
due_alike CleanAck CleanAck s o t = same_self (due CleanAck s o t)
due_alike Dirty DirtyAck s o t = refl
due_alike Dirty Clean s o t = refl
due_alike Dirty CleanAck s o t = refl
due_alike DirtyAck Dirty s o t = refl
due_alike DirtyAck Clean s o t = refl
due_alike DirtyAck CleanAck s o t = refl
due_alike Clean Dirty s o t = refl
due_alike Clean DirtyAck s o t = refl
due_alike Clean CleanAck s o t = refl
due_alike CleanAck Dirty s o t = refl
due_alike CleanAck DirtyAck s o t = refl
due_alike CleanAck Clean s o t = refl

pub more_due : (x duty : Duty) (s o t : ℕ) (xs ys : List Message) → More (due duty s o t) xs ys → often (due x s o t) ys ≡ bit (same_duty x duty) + often (due x s o t) xs
more_due x duty s o t xs ys more =
    more_often (due x s o t) (due duty s o t) xs ys more ∙ ap (λ b. bit b + often (due x s o t) xs) (due_alike x duty s o t)
