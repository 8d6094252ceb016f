-- Lists emptied one after another, from the first on.
use Rattle.std.proofs.Common.{◌≡◌, ℕ, zero, suc, ◌+◌, ◌<◌, List, [], ◌∷◌, ◌++◌, length, drop, set, replicate, refl, ap, ◌∙◌, append-nil, add-one, arith}
use Rattle.std.proofs.lemmas.List.{drop_all}

-- the first n are y, and the others those of xs
abbrev pub reached : {X : Type 0} → List X → X → ℕ → List X
reached xs y n = replicate n y ++ drop n xs

reached_next : {X : Type 0} (xs : List X) (y : X) (n : ℕ) → n < length xs → set (reached xs y n) n y ≡ reached xs y (suc n)
reached_next [] y n h = absurd (omega arith)
reached_next (x ∷ xs) y zero h = refl
reached_next {X = X} (x ∷ xs) y (suc n) h = ap (λ (v : List X). y ∷ v) (reached_next xs y n (omega arith))

pub reached_more : {X : Type 0} (xs us vs : List X) (y : X) (n : ℕ) → n < length xs → us ≡ reached xs y n → vs ≡ set us n y → vs ≡ reached xs y (n + 1)
reached_more {X = X} xs us vs y n h e f = rw add-one (f ∙ ap (λ (v : List X). set v n y) e ∙ reached_next xs y n h)

pub reached_all : {X : Type 0} (xs us : List X) (y : X) (n : ℕ) → n ≡ length xs → us ≡ reached xs y n → us ≡ replicate (length xs) y
reached_all {X = X} xs us y n h e =
    e ∙ ap (λ (v : List X). replicate n y ++ v) (drop_all n xs (omega arith)) ∙ append-nil (replicate n y) ∙ ap (λ (m : ℕ). replicate m y) h
