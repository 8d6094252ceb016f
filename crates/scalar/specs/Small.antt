-- Two numbers of three bytes with one value are one, so each is the one that its value makes.
use Rattle.std.specs.Prelude.{◌≡◌, ◌^◌, ◌<◌}
use mathlib.Core.HLevel.{is_prop→PathP}
use Rattle.std.proofs.Common.{mod-eq_of_lt}
use Rattle.std.proofs.Math.Bridge.{le_prop}
use Rattle.scalar.specs.declared.kinds.Uint24.{Uint24}
use Rattle.scalar.specs.Kinds.{uint24}

pub same_uint24 : (x y : Uint24) → x.value ≡ y.value → x ≡ y
same_uint24 x y e =
    λ j. record { value = e j; small = is_prop→PathP (λ k. e k < 256 ^ 3) (λ k. le_prop) x.small y.small j }

pub uint24_again : (x : Uint24) → uint24 x.value ≡ x
uint24_again x = same_uint24 _ _ (mod-eq_of_lt x.small)
