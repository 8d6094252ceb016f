-- What a call comes to: a new table, a pair put into a free cell, and a pair taken out.
use Rattle.std.proofs.Common.{◌≡◌, ℕ, zero, suc, ◌+◌, ◌<◌, ◌≤◌, true, false, cond, ltb, List, [], length, get_or, set, replicate, Ok, Err, sym, refl, ap, ◌∙◌, subst, inl, inr, arith, Option, Some, None}
use Rattle.std.proofs.lemmas.List.{get_or-set_same, get_or-set_other, length-set}
use Rattle.std.proofs.lemmas.Bool.{cases_eq, cases_Bool, lt-ltb}
use Rattle.register.specs.Pairs.{pairs_of, same_pair, among, entered, struck}
use Rattle.register.proofs.Listed.{is_equal}
use Rattle.register_table.specs.declared.cells.Entry.{Entry}
use Rattle.register_table.specs.Cells.{entries, full, has, filled, times, Reached, Sought}
use Rattle.register_table.specs.Shift.{Without}
use Rattle.register_table.specs.Laws.{digit, among_entries}
use Rattle.register_table.proofs.Tally.{count_some, count_set, entered_by_counts, struck_by_counts}
use Rattle.register_table.proofs.Search.{ReachedOf, has_entry}

-- a table of free cells
pub free_entries : (n : ℕ) → entries (replicate {A = Option Entry} n None) ≡ []
free_entries zero = refl
free_entries (suc n) = free_entries n

-- a pair put into the free cell at which the search for it ends

pub record Put (cs : List (Option Entry)) (k : ℕ) (e : Entry) : Type 0 where
  pub reached : (m : ℕ) → Reached (set cs k (Some e)) m
  pub once : (g m : ℕ) → times (set cs k (Some e)) g m ≤ 1
  pub more : filled (set cs k (Some e)) ≡ filled cs + 1
  pub enters : (room : ℕ) → filled cs < room → pairs_of (entries (set cs k (Some e))) room ≡ entered (pairs_of (entries cs) room) e.hash e.number.0

module _ (cs : List (Option Entry)) (k : ℕ) (e : Entry) (ok : (m : ℕ) → Reached cs m) (once : (g m : ℕ) → times cs g m ≤ 1) (f : Sought cs e.hash e.number.0 (Err k)) where
  stays_full : (j : ℕ) → full (get_or cs j None) ≡ true → full (get_or (set cs k (Some e)) j None) ≡ true
  stays_full j was = elim (cases_eq j k) [
    | inl at ↦ ap (λ q. full (get_or (set cs k (Some e)) q None)) at ∙ ap full (get_or-set_same cs k (Some e) None f.0)
    | inr ne ↦ ap full (get_or-set_other cs k j (Some e) None ne) ∙ was
  ]

  put_reached : (m : ℕ) → ReachedOf (length cs) (set cs k (Some e)) m
  put_reached m = elim (cases_eq m k) [
    | inl at ↦ rw (at, get_or-set_same cs k (Some e) None f.0) (λ j l. stays_full _ (f.3 j l))
    | inr ne ↦ rw (get_or-set_other cs k m (Some e) None ne) (λ j l. stays_full _ (ok m j l))
  ]

  put_times : (g m : ℕ) → times (set cs k (Some e)) g m ≡ times cs g m + cond (same_pair e.hash e.number.0 g m) 1 0
  put_times g m = omega (arith, count_set (has g m) cs k (Some e) f.0, ap digit (ap (has g m) f.1))

  put_once : (g m : ℕ) → times (set cs k (Some e)) g m ≤ 1
  put_once g m = elim (cases_Bool (same_pair e.hash e.number.0 g m)) [
    | inl it ↦
        let q = is_equal (e.hash, e.number.0) g m it in
        let z : times cs g m ≡ 0 = rw (q.0, q.1) f.2 in
        omega (arith, put_times g m, ap digit it, z)
    | inr other ↦ omega (arith, put_times g m, ap digit other, once g m)
  ]

  pub put : Put cs k e
  put =
      let more : filled (set cs k (Some e)) ≡ filled cs + 1 = omega (arith, count_set full cs k (Some e) f.0, ap digit (ap full f.1)) in
      record {
        reached = λ m. subst (λ n. ReachedOf n (set cs k (Some e)) m) (sym (length-set cs k (Some e))) (put_reached m);
        once = put_once;
        more = more;
        enters = λ room less. entered_by_counts cs (set cs k (Some e)) room e.hash e.number.0 f.2 less more put_times;
      }

-- the pair of a cell taken out

pub record Out (cs es : List (Option Entry)) (h n : ℕ) : Type 0 where
  pub once : (g m : ℕ) → times es g m ≤ 1
  pub fewer : filled es + 1 ≡ filled cs
  pub strikes : (room : ℕ) → pairs_of (entries es) room ≡ struck (pairs_of (entries cs) room) h n

pub out : (cs es : List (Option Entry)) (k h n : ℕ) → ((g m : ℕ) → times cs g m ≤ 1) → Sought cs h n (Ok k) → Without cs k es → Out cs es h n
out cs es k h n once f w =
    let e = has_entry (get_or cs k None) h n f.1 in
    let fewer : filled es + 1 ≡ filled cs = omega (arith, w full, count_set full cs k None f.0, ap digit (ap full e.1)) in
    let less : (g m : ℕ) → times es g m + cond (same_pair h n g m) 1 0 ≡ times cs g m = λ g m.
    let same : has g m (get_or cs k None) ≡ same_pair h n g m = ap (has g m) e.1 ∙ rw (e.2, e.3) refl in
    omega (arith, w (has g m), count_set (has g m) cs k None f.0, ap digit same) in
    record { once = λ g m. omega (arith, less g m, once g m); fewer = fewer; strikes = λ room. struck_by_counts cs es room h n once fewer less }

-- a search tells whether the pair is held
pub among_none : (cs : List (Option Entry)) (h n : ℕ) → times cs h n ≡ 0 → among (entries cs) h n ≡ false
among_none cs h n z = among_entries cs h n ∙ ap (ltb 0) z

pub among_some : (cs : List (Option Entry)) (h n k : ℕ) → k < length cs → has h n (get_or cs k None) ≡ true → among (entries cs) h n ≡ true
among_some cs h n k l it = among_entries cs h n ∙ lt-ltb 0 (times cs h n) (count_some (has h n) cs k l it)
