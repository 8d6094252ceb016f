-- A pair is taken out: the gap goes ahead from it, over pairs that need no cell before them and into the places of pairs that do.
use Rattle.std.proofs.Common.{◌≡◌, ℕ, ◌+◌, ◌-◌, ◌%◌, ◌<◌, ◌≤◌, Bool, true, cond, List, length, get_or, set, count_by, sym, refl, ap, ◌∙◌, subst, inl, inr, mod-lt, arith, Option, Some, None}
use Rattle.std.proofs.lemmas.List.{get_or-set_same, get_or-set_other, get_or_past, length-set}
use Rattle.std.proofs.lemmas.Bool.{cases_lt, cases_eq, cases_order, cases_Bool, both_ways, leb-true, leb-false}
use Rattle.register_table.specs.declared.cells.Entry.{Entry}
use Rattle.register_table.specs.Round.{ahead, far}
use Rattle.register_table.specs.Cells.{full, filled, begin, way, Reached}
use Rattle.register_table.specs.Shift.{goes_over, shifted, gap_after}
use Rattle.register_table.proofs.Round.{following_less, far_less, ahead_far, far_ahead, ahead_ahead, far_between, far_before}
use Rattle.register_table.specs.Laws.{one, digit}
use Rattle.register_table.proofs.Tally.{count_set}
use Rattle.register_table.proofs.Search.{OpenOf, ReachedOf, far_more}

-- The gap g has come from the cell a, and the walk to the cell k. Each pair but the one in the gap is reached; a pair
-- between the gap and k has a search that begins after the gap; and the cells but for the gap hold what those of the
-- beginning held but for a.
pub record Gap (n : ℕ) (bs : List (Option Entry)) (a : ℕ) (cs : List (Option Entry)) (g k : ℕ) : Type 0 where
  pub long : length cs ≡ n
  pub start : a < n
  pub gap : g < n
  pub stands : k < n
  pub before : far n a g < far n a k
  pub opened : OpenOf n cs a (far n a k)
  pub others : (m : ℕ) → (m ≡ g → ⊥) → ReachedOf n cs m
  pub counts : (p : Option Entry → Bool) → count_by p cs + one p (get_or bs a None) ≡ count_by p bs + one p (get_or cs g None)
  pub between : (v : ℕ) → far n a g < v → v < far n a k → way n (ahead n a v) (get_or cs (ahead n a v) None) < v - far n a g

-- the write of one full cell over another
full_set : (cs : List (Option Entry)) (g : ℕ) (x : Option Entry) → g < length cs → full (get_or cs g None) ≡ true → full x ≡ true → (j : ℕ) → full (get_or (set cs g x) j None) ≡ full (get_or cs j None)
full_set cs g x gl f fx j = elim (cases_eq j g) [
  | inl e ↦ ap (λ q. full (get_or (set cs g x) q None)) e ∙ ap full (get_or-set_same cs g x None gl) ∙ fx ∙ sym (ap (λ q. full (get_or cs q None)) e ∙ f)
  | inr ne ↦ ap full (get_or-set_other cs g j x None ne)
]

-- a cell that holds a pair is one of the cells
held_less : (cs : List (Option Entry)) (k : ℕ) (e : Entry) → get_or cs k None ≡ Some e → k < length cs
held_less cs k e at = elim (cases_lt k (length cs)) [
  | inl l ↦ l
  | inr past ↦ absurd (both_ways true (sym (ap full at) ∙ ap full (get_or_past cs k None past)) refl)
]

module _ (n : ℕ) (bs : List (Option Entry)) (a : ℕ) where
  module _ (cs : List (Option Entry)) (g k : ℕ) (w : Gap n bs a cs g k) where
    gap_less : g < length cs
    gap_less = omega (arith, w.long, w.gap)

    gap_full : full (get_or cs g None) ≡ true
    gap_full = ap (λ q. full (get_or cs q None)) (sym (ahead_far n a g w.start w.gap)) ∙ w.opened (far n a g) w.before

    apart : k ≡ g → ⊥
    apart e = omega (arith, w.before, ap (far n a) e)

    filled_same : full (get_or bs a None) ≡ true → filled cs ≡ filled bs
    filled_same fa = omega (arith, w.counts full, ap digit fa, ap digit gap_full)

    module _ (e : Entry) (at : get_or cs k None ≡ Some e) (fa : full (get_or bs a None) ≡ true) (some : filled bs < n) where
      more : far n a (ahead n k 1) ≡ far n a k + 1
      more =
          subst (λ m. far m a (ahead m k 1) ≡ far m a k + 1) w.long
          (far_more cs a k (omega (arith, w.long, w.start)) (omega (arith, w.long, w.stands)) (omega (arith, w.long, some, filled_same fa))
          (subst (λ m. OpenOf m cs a (far m a k)) (sym w.long) w.opened) (ap full at))

      -- the walk goes on, in cells of which the same are full
      opened_more : (ds : List (Option Entry)) → ((j : ℕ) → full (get_or ds j None) ≡ full (get_or cs j None)) → OpenOf n ds a (far n a (ahead n k 1))
      opened_more ds as-full j l = as-full (ahead n a j) ∙ elim (cases_lt j (far n a k)) [
        | inl b ↦ w.opened j b
        | inr b ↦ let e' : j ≡ far n a k = omega (arith, more, l, b) in ap (λ q. full (get_or cs q None)) (ap (ahead n a) e' ∙ ahead_far n a k w.start w.stands) ∙ ap full at
      ]

      -- a pair whose search begins after the gap stays
      stays : far n (e.hash % n) k < far n g k → Gap n bs a cs g (ahead n k 1)
      stays l = record {
        long = w.long;
        start = w.start;
        gap = w.gap;
        stands = following_less n k w.stands;
        before = omega (arith, w.before, more);
        opened = opened_more cs (λ j. refl);
        others = w.others;
        counts = w.counts;
        between = λ v low high. elim (cases_lt v (far n a k)) [
          | inl b ↦ w.between v low b
          | inr b ↦
              let e' : far n a k ≡ v = omega (arith, more, high, b) in
              let here : ahead n a v ≡ k = ap (ahead n a) (sym e') ∙ ahead_far n a k w.start w.stands in
              let f = far_between n a g k w.start w.gap w.stands (omega (arith, w.before)) in
              rw (here, at) (omega (arith, l, f, e'))
        ];
      }

      -- any other moves into it
      moves : far n g k ≤ far n (e.hash % n) k → Gap n bs a (set cs g (Some e)) k (ahead n k 1)
      moves l =
          let as-full = full_set cs g (Some e) gap_less gap_full refl in
          let home_less : e.hash % n < n = mod-lt e.hash (omega (arith, w.start)) in
          let kept : get_or (set cs g (Some e)) k None ≡ Some e = get_or-set_other cs g k (Some e) None apart ∙ at in
          record {
            long = length-set cs g (Some e) ∙ w.long;
            start = w.start;
            gap = w.stands;
            stands = following_less n k w.stands;
            before = omega (arith, more);
            opened = opened_more (set cs g (Some e)) as-full;
            others = λ m ne. elim (cases_eq m g) [
              | inl e' ↦
                  let here : get_or (set cs g (Some e)) m None ≡ Some e = ap (λ q. get_or (set cs g (Some e)) q None) e' ∙ get_or-set_same cs g (Some e) None gap_less in
                  rw here (λ j jl.
                  let b = far_before n (e.hash % n) g k home_less w.gap w.stands l in
                  let reach : OpenOf n cs (e.hash % n) (far n (e.hash % n) k) = rw at at (w.others k apart) in
                  as-full (ahead n (e.hash % n) j) ∙ reach j (omega (arith, b, jl, ap (far n (e.hash % n)) e')))
              | inr ng ↦ rw (get_or-set_other cs g m (Some e) None ng) (λ j jl. as-full _ ∙ w.others m ng j jl)
            ];
            counts = λ p. rw kept (omega (arith, w.counts p, count_set p cs g (Some e) gap_less));
            between = λ v low high. absurd (omega (arith, more, low, high));
          }

      pub goes : Gap n bs a (shifted cs g k e) (gap_after cs g k e) (ahead n k 1)
      goes =
          subst (λ m. Gap n bs a (cond (goes_over m g k e) (set cs g (Some e)) cs) (cond (goes_over m g k e) k g) (ahead n k 1)) (sym w.long)
          (elim (cases_Bool (goes_over n g k e)) [
            | inl over ↦ rw over (moves (leb-true _ _ over))
            | inr not-over ↦ rw not-over (stays (leb-false _ _ not-over))
          ])

      pub nearer : n - far n a (ahead n k 1) < n - far n a k
      nearer = omega (arith, more, far_less n a k w.start w.stands)

    -- At a free cell the gap can be made free. A search that goes over the gap to a pair before the free cell was seen;
    -- one to a pair past it would go over the free cell.
    module _ (free : get_or cs k None ≡ None) where
      clear : (m : ℕ) (e : Entry) → get_or cs m None ≡ Some e → (m ≡ g → ⊥) → (j : ℕ) → j < far n (e.hash % n) m → ahead n (e.hash % n) j ≡ g → ⊥
      clear m e at ne j l over =
          let h = e.hash % n in
          let hl : h < n = mod-lt e.hash (omega (arith, w.start)) in
          let ml : m < n = omega (arith, held_less cs m e at, w.long) in
          let wl = far_less n h m hl ml in
          let to-gap : far n h g ≡ j = sym (ap (far n h) over) ∙ far_ahead n h j hl (omega (arith, wl, l)) in
          let x : far n g m ≡ far n h m - far n h g = far_between n h g m hl w.gap ml (omega (arith, to-gap, l)) in
          let f : far n g k ≡ far n a k - far n a g = far_between n a g k w.start w.gap w.stands (omega (arith, w.before)) in
          let kl = far_less n a k w.start w.stands in
          elim (cases_order (far n g m) (far n g k)) [
            | inl same ↦
                let here : m ≡ k = sym (ahead_far n g m w.gap ml) ∙ ap (ahead n g) same ∙ ahead_far n g k w.gap w.stands in
                both_ways true (sym (ap full at) ∙ ap (λ q. full (get_or cs q None)) here ∙ ap full free) refl
            | inr (inl near) ↦
                let v = far n a g + far n g m in
                let here : ahead n a v ≡ m =
                sym (ahead_ahead n a (far n a g) (far n g m) w.start (omega (arith, near, f, kl, w.before)))
                ∙ ap (λ q. ahead n q (far n g m)) (ahead_far n a g w.start w.gap) ∙ ahead_far n g m w.gap ml in
                let seen : far n h m < v - far n a g = rw (here, at) at (w.between v (omega (arith, x, to-gap, l)) (omega (arith, near, f, w.before))) in
                omega (arith, seen, x)
            | inr (inr past) ↦
                let here : ahead n h (j + far n g k) ≡ k =
                sym (ahead_ahead n h j (far n g k) hl (omega (arith, past, x, to-gap, wl))) ∙ ap (λ q. ahead n q (far n g k)) over ∙ ahead_far n g k w.gap w.stands in
                let reach : OpenOf n cs h (far n h m) = rw at at (w.others m ne) in
                both_ways _ (ap full free) (ap (λ q. full (get_or cs q None)) (sym here) ∙ reach (j + far n g k) (omega (arith, past, x, to-gap, l)))
          ]

      reached_past : (m : ℕ) (c : Option Entry) → get_or cs m None ≡ c → (m ≡ g → ⊥) → OpenOf n (set cs g None) (begin n c) (way n m c)
      reached_past m None at ne j l = absurd (omega (arith, l))
      reached_past m (Some e) at ne j l =
          let reach : OpenOf n cs (e.hash % n) (far n (e.hash % n) m) = rw at at (w.others m ne) in
          ap full (get_or-set_other cs g (ahead n (e.hash % n) j) None None (clear m e at ne j l)) ∙ reach j l

      reached : (m : ℕ) → ReachedOf n (set cs g None) m
      reached m = elim (cases_eq m g) [
        | inl e ↦ rw (ap (λ q. get_or (set cs g None) q None) e ∙ get_or-set_same cs g None None gap_less) (λ j l. absurd (omega (arith, l)))
        | inr ne ↦ rw (get_or-set_other cs g m None None ne) (reached_past m (get_or cs m None) refl ne)
      ]

      pub ends : (m : ℕ) → Reached (set cs g None) m
      ends m = subst (λ l. ReachedOf l (set cs g None) m) (sym (length-set cs g None ∙ w.long)) (reached m)
