-- What the law of the table rests on: its cells hold as many pairs as are full, and none twice where each stands in one cell at most.
use Rattle.register_table.specs.declared.cells.Entry.{Entry}
use Rattle.std.specs.Prelude.{◌≡◌, ℕ, ◌+◌, ◌≤◌, Bool, true, false, cond, ◌||◌, List, [], ◌∷◌, length, count_by, nat_lt, refl, Option, Some, None}
use Rattle.std.proofs.Common.{sym, ap, ◌∙◌, arith}
use Rattle.std.proofs.lemmas.List.Sums.{sum_by-cons}
use Rattle.std.proofs.lemmas.Bool.Decides.{nat_tests}
use Rattle.register.specs.Pairs.{pairs_of, same_pair, among, distinct, Counted}
use Rattle.register.proofs.Listed.{is_itself, counted}
use Rattle.register_table.specs.Cells.{entries, full, has, filled, times}

abbrev pub digit : Bool → ℕ
digit b = cond b 1 0

-- one where the cell passes the test
abbrev pub one : (Option Entry → Bool) → Option Entry → ℕ
one p c = cond (p c) 1 0

pub count_cons : (p : Option Entry → Bool) (c : Option Entry) (cs : List (Option Entry)) → count_by p (c ∷ cs) ≡ one p c + count_by p cs
count_cons p c cs = sum_by-cons (one p) c cs

pub length_entries : (cs : List (Option Entry)) → length (entries cs) ≡ filled cs
length_entries [] = refl
length_entries (None ∷ cs) = length_entries cs ∙ sym (count_cons full None cs ∙ omega arith)
length_entries (Some e ∷ cs) = let r = length_entries cs in omega (arith, count_cons full (Some e) cs)

pub positive_more : (b : Bool) (m n : ℕ) → n ≡ cond b 1 0 + m → nat_lt 0 n ≡ (b || nat_lt 0 m)
positive_more true m n e = grind (arith, nat_tests)
positive_more false m n e = grind (arith, nat_tests)

pub among_entries : (cs : List (Option Entry)) (h n : ℕ) → among (entries cs) h n ≡ nat_lt 0 (times cs h n)
among_entries [] h n = refl
among_entries (None ∷ cs) h n = among_entries cs h n ∙ sym (positive_more false (times cs h n) (times (None ∷ cs) h n) (count_cons (has h n) None cs))
among_entries (Some e ∷ cs) h n =
    let b = same_pair e.hash e.number.0 h n in
    ap (λ x. b || x) (among_entries cs h n) ∙ sym (positive_more b (times cs h n) (times (Some e ∷ cs) h n) (count_cons (has h n) (Some e) cs))

pub distinct_entries : (cs : List (Option Entry)) → ((h n : ℕ) → times cs h n ≤ 1) → distinct (entries cs) ≡ true
distinct_entries [] once = refl
distinct_entries (None ∷ cs) once = distinct_entries cs (λ h n. omega (arith, once h n, count_cons (has h n) None cs))
distinct_entries (Some e ∷ cs) once =
    let i = is_itself (e.hash, e.number.0) in
    let o = ap digit i in
    let t = once e.hash e.number.0 in
    let m = count_cons (has e.hash e.number.0) (Some e) cs in
    let z : times cs e.hash e.number.0 ≡ 0 = omega (arith, o, t, m) in
    let a = among_entries cs e.hash e.number.0 ∙ ap (nat_lt 0) z in
    let r = distinct_entries cs (λ h n. omega (arith, once h n, count_cons (has h n) (Some e) cs)) in
    grind (arith, a, r)

-- n pairs, where there is room for so many
pub counted_cells : (cs : List (Option Entry)) (n room : ℕ) → ((h m : ℕ) → times cs h m ≤ 1) → n ≡ filled cs → n ≤ room → Counted (pairs_of (entries cs) room)
counted_cells cs n room once f l = counted (entries cs) room (distinct_entries cs once) (omega (arith, length_entries cs, f, l))
