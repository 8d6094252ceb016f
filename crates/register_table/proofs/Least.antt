-- The least number of a hash, over the cells that a search has passed.
use Rattle.std.proofs.Common.{◌≡◌, ℕ, ◌%◌, ◌<◌, ◌≤◌, false, ◌&&◌, eqb, ltb, leb, ◌⊎◌, List, length, get_or, Some, None, Option, sym, ap, ◌∙◌, subst, inl, inr, arith}
use Rattle.std.proofs.lemmas.Bool.Decides.{nat_tests}
use Rattle.std.proofs.lemmas.Bool.{cases_Bool, and_parts, eqb-true, leb-true, leb-false, cond-true, cond-false, lt-ltb}
use Rattle.link.specs.declared.ObjIdx.{ObjIdx}
use Rattle.register.specs.Pairs.{pairs_of, Next}
use Rattle.register_table.specs.declared.cells.Entry.{Entry}
use Rattle.register_table.specs.Round.{far}
use Rattle.register_table.specs.Cells.{entries, has, filled, times, Reached, better, lesser}
use Rattle.register_table.specs.Laws.{among_entries}
use Rattle.register_table.proofs.Tally.{count_some}
use Rattle.register_table.proofs.Search.{Passed, unseen, home_less}

-- a number that would be less than the best
abbrev pub Under : Option ObjIdx → ℕ → Type 0
Under None m = Unit {0}
Under (Some i) m = m < i.0

module _ (cs : List (Option Entry)) (h low : ℕ) where
  -- the cell has no number of the hash that would be less than the best
  abbrev pub NoLess : Option ObjIdx → Option Entry → Type 0
  NoLess best c = (m : ℕ) → low ≤ m → Under best m → has h m c ≡ false

  -- the best is held, and not below `low`
  abbrev pub Best : Option ObjIdx → Type 0
  Best None = Unit {0}
  Best (Some i) = (low ≤ i.0) × (0 < times cs h i.0)

  -- at an entry the best stays, or becomes the entry's
  Stays : Option ObjIdx → Entry → Type 0
  Stays best e = (better h low best e ≡ best) × NoLess best (Some e)

  Turns : Option ObjIdx → Entry → Type 0
  Turns best e = (better h low best e ≡ Some e.number) × (e.hash ≡ h) × (low ≤ e.number.0) × ((m : ℕ) → m < e.number.0 → Under best m)

  better_cases : (best : Option ObjIdx) (e : Entry) → Stays best e ⊎ Turns best e
  unfolding Stays Turns
  better_cases best e = elim (cases_Bool (eqb e.hash h && leb low e.number.0)) [
    | inr other ↦ inl (cond-false _ (lesser best e.number) best other, λ m l u. grind (arith, nat_tests, other))
    | inl it ↦
        let p = and_parts (eqb e.hash h) (leb low e.number.0) it in
        let eh = eqb-true e.hash h p.0 in
        let el = leb-true low e.number.0 p.1 in
        let is : better h low best e ≡ lesser best e.number = cond-true _ (lesser best e.number) best it in
        elim best as (λ b. better h low b e ≡ lesser b e.number → Stays b e ⊎ Turns b e) [
          | None ↦ λ is. inr (is, eh, el, λ m l. tt)
          | Some b ↦ λ is. elim (cases_Bool (leb b.0 e.number.0)) [
            | inl less ↦ inl (is ∙ cond-true _ _ _ less, λ m l u. grind (arith, nat_tests, less, u))
            | inr more ↦ let lt = leb-false b.0 e.number.0 more in inr (is ∙ cond-false _ _ _ more, eh, el, λ m l. omega (arith, lt, l))
          ]
        ] is
  ]

  pub best_more : (best : Option ObjIdx) (e : Entry) (k : ℕ) → k < length cs → get_or cs k None ≡ Some e → Best best → Best (better h low best e)
  unfolding Stays Turns
  best_more best e k kl at b = elim (better_cases best e) [
    | inl (is, _) ↦ subst Best (sym is) b
    | inr (is, eh, el, _) ↦ subst Best (sym is) (el, count_some (has h e.number.0) cs k kl (ap (has h e.number.0) at ∙ grind (arith, nat_tests, eh)))
  ]

  pub passed_less : (best : Option ObjIdx) (e : Entry) (s t : ℕ) → Passed cs s t (NoLess best) → Passed cs s t (NoLess (better h low best e))
  unfolding Stays Turns
  passed_less best e s t p = elim (better_cases best e) [
    | inl (is, _) ↦ subst (λ b. Passed cs s t (NoLess b)) (sym is) p
    | inr (is, _, _, under) ↦ subst (λ b. Passed cs s t (NoLess b)) (sym is) (λ j jl m l u. p j jl m l (under m u))
  ]

  pub here_less : (best : Option ObjIdx) (e : Entry) (c : Option Entry) → c ≡ Some e → NoLess (better h low best e) c
  unfolding Stays Turns
  here_less best e c at = elim (better_cases best e) [
    | inl (is, none) ↦ subst (λ b. NoLess b c) (sym is) (λ m l u. ap (has h m) at ∙ none m l u)
    | inr (is, _, _, _) ↦ subst (λ b. NoLess b c) (sym is) (λ m l u. ap (has h m) at ∙ grind (arith, nat_tests, u))
  ]

  none_among : (m : ℕ) → times cs h m ≡ 0 → (room : ℕ) → (pairs_of (entries cs) room).has h m ≡ false
  none_among m z room = among_entries cs h m ∙ ap (ltb 0) z

  pub next_from : (best : Option ObjIdx) (at : ℕ) → filled cs < length cs → at < length cs → ((k : ℕ) → Reached cs k) → get_or cs at None ≡ None
      → Passed cs (h % length cs) (far (length cs) (h % length cs) at) (NoLess best) → Best best → (room : ℕ) → Next (pairs_of (entries cs) room) h low best
  next_from None at some al ok free seen b room =
      λ m l. none_among m (unseen cs h m at (home_less cs h some) al ok free (λ j jl. seen j jl m l tt)) room
  next_from (Some i) at some al ok free seen b room = (
    b.0,
    among_entries cs h i.0 ∙ lt-ltb 0 (times cs h i.0) b.1,
    λ m l u. none_among m (unseen cs h m at (home_less cs h some) al ok free (λ j jl. seen j jl m l u)) room,
  )
