-- Messages that are the same, and how often one is in a list.
use Rattle.std.proofs.Common.{◌≡◌, ℕ, zero, suc, ◌+◌, ◌<◌, true, cond, List, [], ◌∷◌, ◌++◌, length, Some, sum_by, count_by, sym, refl, ◌∙◌, arith}
use Rattle.std.proofs.lemmas.List.Sums.{sum_by-cons, sum_by_push}
use Rattle.std.proofs.lemmas.Bool.Decides.{nat_tests}
use Rattle.std.proofs.lemmas.List.Recursion.{is_count_by}
use Rattle.std.specs.List.{slice_get}
use Rattle.slots.specs.Entries.{without}
use Rattle.link.specs.contracts.message.MessagePartialEq.TheImpl.{ghosts}
use Rattle.link.specs.Messages.{often, same, SameBag}
use Rattle.link.specs.declared.message.Message.{Message}

-- the fields of two messages are equal
pub record Alike (k m : Message) : Type 0 where
  pub kind : m.kind ≡ k.kind
  pub sender : m.sender ≡ k.sender
  pub receiver : m.receiver ≡ k.receiver
  pub trace : m.trace ≡ k.trace
  pub packet : m.packet ≡ k.packet

pub alike : (k m : Message) → same k m ≡ true → Alike k m
unfolding same
alike k m yes' = record {
  kind = grind (arith, nat_tests);
  sender = grind (arith, nat_tests);
  receiver = grind (arith, nat_tests);
  trace = grind (arith, nat_tests);
  packet = grind (arith, nat_tests);
}

pub same_alike : (k m : Message) → Alike k m → same k m ≡ true
unfolding same
same_alike k m a = grind (arith, nat_tests)

pub same_is : (k m : Message) → same k m ≡ true → k ≡ m
same_is k m yes' = let a = alike k m yes' in λ i. record {
  kind = sym a.kind i;
  sender = sym a.sender i;
  receiver = sym a.receiver i;
  trace = sym a.trace i;
  packet = sym a.packet i;
}

pub same_self : (m : Message) → same m m ≡ true
unfolding same
same_self m = grind (arith, nat_tests)

-- a test that every message passes counts them all
pub count_by-all : {X : Type 0} (xs : List X) → count_by (λ _. true) xs ≡ length xs
count_by-all xs = sym (is_count_by length (λ _. true) refl (λ x ys. omega arith) xs)

-- how often a message is in a list, element by element
pub often-cons : (x m : Message) (ms : List Message) → often x (m ∷ ms) ≡ cond (same x m) 1 0 + often x ms
unfolding often
often-cons x m ms = sum_by-cons (λ y. cond (same x y) 1 0) m ms

pub often-nil : (x : Message) → often x [] ≡ 0
unfolding often
often-nil x = refl

pub often-push : (x m : Message) (ms : List Message) → often x (ms ++ (m ∷ [])) ≡ often x (m ∷ ms)
unfolding often
often-push x m ms = sum_by_push (λ y. cond (same x y) 1 0) ms m ∙ omega (arith, sum_by-cons (λ y. cond (same x y) 1 0) m ms)

-- a message at some place of a list is in it
pub often-nth : (ms : List Message) (i : ℕ) (m : Message) → slice_get ms i ≡ Some m → 0 < often m ms
often-nth [] i m at = absurd cc
often-nth (x ∷ ms) zero m at = let here : x ≡ m = cc in rw here (grind (arith, often-cons m m ms, same_self m))
often-nth (x ∷ ms) (suc i) m at = omega (arith, often-cons m x ms, often-nth ms i m at)

-- a sum over a list, with one like m counted first
pub sum_by-without : (f : Message → ℕ) (m : Message) (ms : List Message) → 0 < often m ms → sum_by f ms ≡ f m + sum_by f (without (same m) ms)
unfolding without
sum_by-without f m [] some' = absurd (omega (arith, often-nil m))
sum_by-without f m (y ∷ ms) some' =
    grind (arith, sum_by-without f m ms, often-cons m y ms, sum_by-cons f y ms, sum_by-cons f y (without (same m) ms), same_is m y)

-- without one like m, each message is there as often as before, but for m once less
pub often-without : (x m : Message) (ms : List Message) → 0 < often m ms → often x ms ≡ often x (m ∷ without (same m) ms)
unfolding often
often-without x m ms some' =
    let f = λ (y : Message). cond (same x y) 1 0 in
    sum_by-without f m ms some' ∙ sym (sum_by-cons f m (without (same m) ms))

-- lists with each message equally often have equal sums, and so equal counts: what is asked of a link in
-- numbers depends on the bag alone
pub sum_by-same_bag : (f : Message → ℕ) (xs ys : List Message) → SameBag xs ys → sum_by f xs ≡ sum_by f ys
sum_by-same_bag f [] [] alike' = refl
sum_by-same_bag f [] (y ∷ ys) alike' = grind (arith, alike' y, often-nil y, often-cons y y ys, same_self y)
sum_by-same_bag f (x ∷ xs) ys alike' =
    let there : 0 < often x ys = grind (arith, alike' x, often-cons x x xs, same_self x) in
    let rest : SameBag xs (without (same x) ys) =
    λ m. omega (arith, alike' m, often-cons m x xs, often-without m x ys there, often-cons m x (without (same x) ys)) in
    omega (arith, sum_by-cons f x xs, sum_by-same_bag f xs (without (same x) ys) rest, sum_by-without f x ys there)

-- messages are equal for the code when they are the same
pub same_eq : (k m : Message) → ghosts.eq m k ≡ same k m
unfolding same
same_eq k m = refl
