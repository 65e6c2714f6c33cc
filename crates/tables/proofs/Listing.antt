-- Counting the stations that an owner lists, one more and as the library counts.
use Rattle.std.proofs.Common.{◌≡◌, ℕ, zero, suc, ◌+◌, Bool, cond, count_by, refl, ap, ◌∙◌, add-one, arith}
use Rattle.std.specs.List.{range_with_len}
use Rattle.std.proofs.lemmas.List.{map-id}
use Rattle.std.proofs.lemmas.List.FromFn.{sum_by-map-range_with_len_more}
use Rattle.tables.specs.Kept.{cell_at, listed_below}
use Rattle.tables.specs.declared.tables.Tables.{Tables}

-- one station more
pub listed_more : (T : Tables) (t n : ℕ) (b : Bool) → (cell_at T n t).listed ≡ b → listed_below (n + 1) T t ≡ listed_below n T t + cond b 1 0
unfolding listed_below
listed_more T t n b is = ap (λ k. listed_below k T t) (add-one n) ∙ ap (λ b'. listed_below n T t + cond b' 1 0) is

pub listed_counted : (T : Tables) (t n : ℕ) → count_by (λ s. (cell_at T s t).listed) (range_with_len 0 n) ≡ listed_below n T t
unfolding listed_below
listed_counted T t zero = refl
listed_counted T t (suc n) =
    let one : ℕ → ℕ = λ s. cond (cell_at T s t).listed 1 0 in
    let none : 0 + n ≡ n = omega arith in
    grind (arith, listed_counted T t n, sum_by-map-range_with_len_more one (λ s. s) 0 n n none, map-id (range_with_len 0 (n + 1)), map-id (range_with_len 0 n))
