-- Steps and distances on a round of n cells.
use Rattle.std.proofs.Common.{◌≡◌, ℕ, ◌+◌, ◌-◌, ◌<◌, ◌≤◌, arith}
use Rattle.std.proofs.lemmas.Bool.Decides.{nat_tests}
use Rattle.register_table.specs.Round.{ahead, far}

module _ (n : ℕ) where
  pub following_less : (k : ℕ) → k < n → ahead n k 1 < n
  following_less k a = grind (arith, nat_tests)

  pub far_less : (s k : ℕ) → s < n → k < n → far n s k < n
  far_less s k a b = grind (arith, nat_tests)

  pub ahead_far : (s k : ℕ) → s < n → k < n → ahead n s (far n s k) ≡ k
  ahead_far s k a b = grind (arith, nat_tests)

  pub far_ahead : (s t : ℕ) → s < n → t < n → far n s (ahead n s t) ≡ t
  far_ahead s t a b = grind (arith, nat_tests)

  pub far_itself : (s : ℕ) → s < n → far n s s ≡ 0
  far_itself s a = grind (arith, nat_tests)

  -- one step on from a cell is one step further, unless the round is done
  pub far_following : (s k : ℕ) → s < n → k < n → far n s k + 1 < n → far n s (ahead n k 1) ≡ far n s k + 1
  far_following s k a b l = grind (arith, nat_tests)

  -- steps in a row
  pub ahead_ahead : (s t u : ℕ) → s < n → t + u < n → ahead n (ahead n s t) u ≡ ahead n s (t + u)
  ahead_ahead s t u a b = grind (arith, nat_tests)

  -- from a cell on the way from s to k
  pub far_between : (s m k : ℕ) → s < n → m < n → k < n → far n s m ≤ far n s k → far n m k ≡ far n s k - far n s m
  far_between s m k a b c l = grind (arith, nat_tests)

  -- the cell m is on the way from s to k where it is as near before k as s, or nearer
  pub far_before : (s m k : ℕ) → s < n → m < n → k < n → far n m k ≤ far n s k → far n s m ≡ far n s k - far n m k
  far_before s m k a b c l = grind (arith, nat_tests)
