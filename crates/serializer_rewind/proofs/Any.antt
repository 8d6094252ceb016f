-- Three tests of which one holds, as the code tries them: the first two joined, then the third.
use Rattle.std.proofs.Common.{◌≡◌, Bool, true, false, ◌||◌, ◌⊎◌, arith}

pub two_of : (a b x : Bool) → ((a ≡ true) × (x ≡ a)) ⊎ ((a ≡ false) × (x ≡ b)) → x ≡ (a || b)
two_of a b x h = grind arith

pub third_spared : (a b c x : Bool) → x ≡ (a || b) → x ≡ true → x ≡ (a || (b || c))
third_spared a b c x e t = grind arith

pub third_decides : (a b c x : Bool) → x ≡ (a || b) → x ≡ false → c ≡ (a || (b || c))
third_decides a b c x e f = grind arith
