-- What cells hold, by counts: a write of one cell changes each count by what it takes and what it puts.
use Rattle.register_table.specs.declared.cells.Entry.{Entry}
use Rattle.std.proofs.Common.{◌≡◌, ℕ, suc, ◌+◌, ◌<◌, ◌≤◌, Bool, true, false, cond, ltb, List, [], ◌∷◌, length, get_or, set, count_by, refl, ap, ◌∙◌, inl, inr, arith, Option, None}
use Rattle.std.proofs.lemmas.List.Sums.{sum_by-set, get_or-le-sum_by}
use Rattle.std.proofs.lemmas.Bool.Decides.{nat_tests}
use Rattle.std.proofs.lemmas.Bool.{cases_Bool}
use Rattle.register.specs.Pairs.{pairs_of, same_pair, among, entered, struck}
use Rattle.register.proofs.Listed.{entered_is, struck_is, fits_new, is_itself}
use Rattle.register_table.specs.Cells.{entries, filled, times}
use Rattle.register_table.specs.Laws.{digit, one, count_cons, length_entries, positive_more, among_entries}

module _ (p : Option Entry → Bool) where
  pub count_set : (cs : List (Option Entry)) (k : ℕ) (c : Option Entry) → k < length cs → count_by p (set cs k c) + one p (get_or cs k None) ≡ count_by p cs + one p c
  count_set cs k c l = sum_by-set (one p) cs k c None l

  pub count_some : (cs : List (Option Entry)) (k : ℕ) → k < length cs → p (get_or cs k None) ≡ true → 0 < count_by p cs
  count_some cs k l t = let o = ap digit t in let m = get_or-le-sum_by (one p) cs k None l in omega (arith, o, m)

  pub count_none : (cs : List (Option Entry)) → ((k : ℕ) → k < length cs → p (get_or cs k None) ≡ false) → count_by p cs ≡ 0
  count_none [] f = refl
  count_none (c ∷ cs) f =
      let o = ap digit (f 0 (omega arith)) in
      let r = count_none cs (λ k l. f (suc k) (omega arith)) in
      omega (arith, count_cons p c cs, o, r)

  pub count_all : (cs : List (Option Entry)) → ((k : ℕ) → k < length cs → p (get_or cs k None) ≡ true) → count_by p cs ≡ length cs
  count_all [] f = refl
  count_all (c ∷ cs) f =
      let o = ap digit (f 0 (omega arith)) in
      let r = count_all cs (λ k l. f (suc k) (omega arith)) in
      omega (arith, count_cons p c cs, o, r)

-- a pair more
pub entered_by_counts : (cs ds : List (Option Entry)) (room h n : ℕ) → times cs h n ≡ 0 → filled cs < room → filled ds ≡ filled cs + 1
    → ((g m : ℕ) → times ds g m ≡ times cs g m + cond (same_pair h n g m) 1 0)
    → pairs_of (entries ds) room ≡ entered (pairs_of (entries cs) room) h n
entered_by_counts cs ds room h n z l f t =
    let e = length_entries cs in
    let yes' = fits_new (entries cs) room h n (omega arith) in
    let none = among_entries cs h n ∙ ap (ltb 0) z in
    entered_is (entries cs) (entries ds) room h n
    (λ g m.
    let a = among_entries cs g m in let b = among_entries ds g m in
    let p = positive_more (same_pair h n g m) (times cs g m) (times ds g m) (omega (arith, t g m)) in
    grind (arith, a, b, p, yes'))
    (let g = length_entries ds in grind (arith, yes', none, e, g, f))

-- a pair fewer
pub struck_by_counts : (cs ds : List (Option Entry)) (room h n : ℕ) → ((g m : ℕ) → times cs g m ≤ 1) → filled ds + 1 ≡ filled cs
    → ((g m : ℕ) → times ds g m + cond (same_pair h n g m) 1 0 ≡ times cs g m)
    → pairs_of (entries ds) room ≡ struck (pairs_of (entries cs) room) h n
struck_by_counts cs ds room h n once f t =
    let i = ap digit (is_itself (h, n)) in
    let held : among (entries cs) h n ≡ true = among_entries cs h n ∙ (let u = t h n in grind (arith, nat_tests, i, u)) in
    struck_is (entries cs) (entries ds) room h n
    (λ g m.
    let a = among_entries cs g m in let b = among_entries ds g m in
    let o = once g m in let u = t g m in
    elim (cases_Bool (same_pair h n g m)) [
      | inl y ↦ let c = ap digit y in grind (arith, nat_tests, a, b, o, u, y, c)
      | inr y ↦ let c = ap digit y in grind (arith, nat_tests, a, b, o, u, y, c)
    ])
    (let e = length_entries cs in let g = length_entries ds in grind (arith, held, e, g, f))
