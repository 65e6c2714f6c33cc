-- The share: a layer that lets each station have only so many messages waiting.
use Rattle.std.specs.Prelude.{ℕ, min, max, cond, count_by, nat_lt}
use Rattle.link.specs.Gates.{closed_at, deepened, gate_of}
use Rattle.link.specs.Meaning.{Meaning}
use Rattle.link.specs.Messages.{sent_by}
use Rattle.link.specs.declared.share.Share.{Share}

-- the limit in force: 0 counts as 1, and more than 128 as 128
abbrev pub in_force : ℕ → ℕ
in_force n = max 1 (min 128 n)

-- the link below, but for the gates: a station with that many messages waiting finds its gate closed at
-- depth 0, and any other finds the gate below, one deeper
abbrev pub shared : ℕ → Meaning → Meaning
shared limit m = record {
  bag = m.bag;
  offers = m.offers;
  gate = λ s. gate_of s (cond (nat_lt (count_by (sent_by s) m.bag) limit) (deepened (m.gate s)) (closed_at 0));
}

-- what a share means, by what the link below it means
abbrev pub share_meaning : {L : Type 0} → (L → Meaning) → Share L → Meaning
share_meaning below s = shared (in_force s.limit) (below s.below)
