-- For a layer that hands a call on to the link below: what the call did below, it did to the layer.
-- And the laws of the share's meaning.
use Rattle.std.specs.Prelude.{◌≡◌, ℕ, ◌+◌, ◌<◌, ◌≤◌, min, Some, None, Ok, Err, count_by, Option, nat_lt}
use Rattle.std.proofs.Common.{arith, ap, ◌∙◌}
use Rattle.std.proofs.lemmas.List.Sums.{count_by-le-length}
use Rattle.std.proofs.lemmas.Bool.{cond_both, cond-false, cond-true, le-ltb, lt-ltb}
use Rattle.link.specs.Gates.{Gate, closed_at, deepened, gate_of, open_gate}
use Rattle.link.specs.Meaning.{Lawful, Meaning, TakenBy}
use Rattle.link.specs.Messages.{sent_by}
use Rattle.link.specs.Sharing.{in_force, shared}
use Rattle.link.specs.declared.message.Message.{Message}

module _ {L S : Type 0} (below : L → Meaning) (above : S → Meaning) where
  pub taken_through : (o : Option Message) (b b' : L) (s s' : S) (r : Option Message) → (above s).bag ≡ (below b).bag → (above s').bag ≡ (below b').bag → (b' ≡ b → s' ≡ s) → TakenBy below o b b' r → TakenBy above o s s' r
  taken_through None b b' s s' r bag bag' same taken = (taken.0, same taken.1)
  taken_through (Some m) b b' s s' r bag bag' same taken = (taken.0, rw (bag, bag') taken.1)

-- every link's gates, by station
pub gate_inside : (s : ℕ) (g : Gate) → s < 16 → gate_of s g ≡ g
gate_inside s g inside = cond-true _ _ _ (lt-ltb s 16 inside)

pub gate_outside : (s : ℕ) (g : Gate) → 16 ≤ s → gate_of s g ≡ closed_at 0
gate_outside s g outside = cond-false _ _ _ (le-ltb s 16 outside)

-- a gate that is closed is so at a depth of at most 255
abbrev pub Shallow : Gate → Type 0
Shallow g = (d : ℕ) → g ≡ closed_at d → d ≤ 255

-- a gate closed at one depth is at no other
depth_is : (d e : ℕ) → closed_at d ≡ closed_at e → d ≡ e
depth_is d e is = ap (λ (g : Gate). depth_of g) is
  where
    depth_of : Gate → ℕ
    depth_of (Ok done) = 0
    depth_of (Err closed) = closed.depth

pub shallow_top : Shallow (closed_at 0)
shallow_top d is = omega (arith, depth_is 0 d is)

pub shallow_open : Shallow open_gate
shallow_open d is = let z : ◌≡◌ {A = ℕ} 0 1 = cc in absurd (omega arith)

shallow_deepened : (g : Gate) → Shallow (deepened g)
shallow_deepened (Ok done) d is = shallow_open d is
shallow_deepened (Err e) d is = omega (arith, depth_is (min 255 (e.depth + 1)) d is)

pub shallow_gate : (s : ℕ) (g : Gate) → Shallow g → Shallow (gate_of s g)
shallow_gate s g shallow = cond_both (nat_lt s 16) g (closed_at 0) Shallow (λ _. shallow) (λ _. shallow_top)

pub shared_lawful : (n : ℕ) (m : Meaning) → Lawful m → Lawful (shared (in_force n) m)
shared_lawful n m lawful = record {
  drawn = lawful.drawn;
  few = lawful.few;
  lively = lawful.lively;
  quiet = λ none s inside.
      gate_inside s _ inside
      ∙ cond-true _ _ _ (lt-ltb (count_by (sent_by s) m.bag) (in_force n) (omega (arith, count_by-le-length (sent_by s) m.bag)))
      ∙ ap deepened (lawful.quiet none s inside);
  outside = λ s out. gate_outside s _ out;
  shallow = λ s.
      shallow_gate s _
      (cond_both (nat_lt (count_by (sent_by s) m.bag) (in_force n)) (deepened (m.gate s)) (closed_at 0) Shallow (λ _. shallow_deepened (m.gate s)) (λ _. shallow_top));
}
