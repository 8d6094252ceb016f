-- A list that rises, with repetitions taken out, has the same elements. Used by the two halves of `glyph_set`.
use Rattle.std.proofs.Common.{◌≡◌, ℕ, Bool, true, false, eqb, List, sym, refl, subst, eq-eqb}
use mathlib.Core.Path.{fun_ext}
use Rattle.std.specs.List.{Contains, dedup}
use Rattle.std.specs.List.Sorted.{IsPermutation}
use Rattle.std.proofs.lemmas.Bool.{eqb-true}
use Rattle.std.proofs.lemmas.List.Folds.{Any-from_list_any, list_any_at}
use Rattle.std.proofs.lemmas.List.Kept.{Contains-dedup_nat, Contains-from_dedup}
use Rattle.std.proofs.lemmas.List.Sorted.{list_any-IsPermutation}
use Rattle.coverage.specs.Coverage.{among}

pub sorted_same : (ids sorted : List ℕ) → IsPermutation ids sorted → among sorted ≡ among ids
sorted_same ids sorted s = fun_ext (λ g. sym (list_any-IsPermutation (λ x. eqb x g) ids sorted s))

-- two tests that hold of the same are the same
both : (a b : Bool) → (a ≡ true → b ≡ true) → (b ≡ true → a ≡ true) → a ≡ b
both true b f h = sym (f refl)
both false true f h = h refl
both false false f h = refl

in_among : (xs : List ℕ) (g : ℕ) → Contains xs g → among xs g ≡ true
in_among xs g (k, l, at) = list_any_at (λ x. eqb x g) xs k g l (eq-eqb _ g at)

among_in : (xs : List ℕ) (g : ℕ) → among xs g ≡ true → Contains xs g
among_in xs g h =
    let (k, x, l, at, e) = Any-from_list_any (λ x. eqb x g) xs h in
    let is : x ≡ g = eqb-true x g e in
    subst (Contains xs) is (k, l, at)

pub dedup_same : (xs : List ℕ) → among (dedup eqb xs) ≡ among xs
dedup_same xs =
    fun_ext (λ g. both (among (dedup eqb xs) g) (among xs g)
    (λ h. in_among xs g (Contains-from_dedup eqb xs g (among_in (dedup eqb xs) g h)))
    (λ h. in_among (dedup eqb xs) g (Contains-dedup_nat xs g (among_in xs g h))))
