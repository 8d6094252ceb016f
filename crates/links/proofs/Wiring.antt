-- All chains at once: each cell is in one chain and once, and what cutting a chain in two does to that.
use Rattle.std.proofs.Common.{◌≡◌, ℕ, zero, suc, ◌+◌, ◌-◌, ◌<◌, ◌≤◌, Bool, true, false, cond, ltb, ◌≢◌, ◌⊎◌, List, [], ◌∷◌, length, get_or, take, drop, set, sym, refl, ap, ◌∙◌, subst, inl, inr, arith}
use Rattle.std.proofs.lemmas.List.{get_or-set_same, get_or-set_other, length-set, take-append-drop, drop_all}
use Rattle.std.proofs.lemmas.Bool.{cases_Bool, cases_eq, ltb-true}
use Rattle.links.specs.declared.chains.Chain.{Chain}
use Rattle.links.specs.Walk.{walk, hop, nodes, table, last_of, occ, sum_of, Once, Ends, Ended, Filled, Inside, front, back}
use Rattle.links.proofs.Walk.{walk_length, take_walk, drop_walk, get_or_walk, last_walk, last_drop, occ_append, occ_last, occ_get_or}
use Rattle.links.proofs.Place.{sum_of_set, sum_of_map, part_le, two_le}

pub record Wired (ns : List ℕ) (chs : List Chain) : Type 0 where
  pub once : Once ns chs
  pub ended : Ended ns chs
  pub filled : Filled ns chs

-- a sum over the cells of all chains, as one over the chains
pub over_chains : (f : List ℕ → ℕ) (ns : List ℕ) (chs : List Chain) → sum_of f (table ns chs) ≡ sum_of (λ ch. f (nodes ns ch)) chs
over_chains f ns chs = sum_of_map f (nodes ns) chs

once_le : (ns : List ℕ) (k : ℕ) → cond (ltb k (length ns)) 1 0 ≤ 1
once_le ns k = elim (ltb k (length ns)) as (λ v. cond v 1 0 ≤ 1) [ true ↦ omega arith | false ↦ omega arith ]

-- no cell is in two chains
pub apart : (ns : List ℕ) (chs : List Chain) (c e k : ℕ) (d : Chain) → Once ns chs → c < length chs → e < length chs → c ≢ e → 1 ≤ occ k (nodes ns (get_or chs c d)) → occ k (nodes ns (get_or chs e d)) ≡ 0
apart ns chs c e k d once hc he ne in_c =
    omega (arith, once k, once_le ns k, over_chains (occ k) ns chs, two_le (λ (ch : Chain). occ k (nodes ns ch)) chs c e d hc he ne)

-- no cell is in a chain twice
pub single : (ns : List ℕ) (chs : List Chain) (c k : ℕ) (d : Chain) → Once ns chs → c < length chs → occ k (nodes ns (get_or chs c d)) ≤ 1
single ns chs c k d once hc =
    omega (arith, once k, once_le ns k, over_chains (occ k) ns chs, part_le (λ (ch : Chain). occ k (nodes ns ch)) chs c d hc)

-- a chain's cells are in the array
pub inside : (ns : List ℕ) (chs : List Chain) (c k : ℕ) (d : Chain) → Once ns chs → c < length chs → 1 ≤ occ k (nodes ns (get_or chs c d)) → k < length ns
inside ns chs c k d once hc in_c = go (cases_Bool (ltb k (length ns)))
  where
    go : (ltb k (length ns) ≡ true) ⊎ (ltb k (length ns) ≡ false) → k < length ns
    go (inl t) = ltb-true k (length ns) t
    go (inr f) =
        let none : sum_of (occ k) (table ns chs) ≡ 0 = once k ∙ ap (λ (b : Bool). cond b 1 0) f in
        absurd (omega (arith, over_chains (occ k) ns chs, part_le (λ (ch : Chain). occ k (nodes ns ch)) chs c d hc))

-- the last cell of a chain that has one is in it
pub last_in : (ns : List ℕ) (s n l : ℕ) → 0 < n → last_of l (walk ns s n) ≡ l → 1 ≤ occ l (walk ns s n)
last_in ns s zero l h e = absurd (omega arith)
last_in ns s (suc n) l h e = subst (λ (t : ℕ). 1 ≤ occ t (walk ns s (suc n))) e (occ_last l s (walk ns (get_or ns s 0) n))

-- what reads a chain asks that its cells are in the array
pub chain_inside : (ns : List ℕ) (chs : List Chain) (c : ℕ) (d : Chain) → Once ns chs → c < length chs → Inside ns (get_or chs c d)
chain_inside ns chs c d once hc i hi =
    let ch : Chain = get_or chs c d in
    let is : get_or (nodes ns ch) i 0 ≡ hop ns ch.first i = get_or_walk ns ch.first ch.count i hi in
    let there : 1 ≤ occ (get_or (nodes ns ch) i 0) (nodes ns ch) = occ_get_or (nodes ns ch) i (omega (arith, walk_length ns ch.first ch.count)) in
    subst (λ (k : ℕ). k < length ns) is (inside ns chs c (get_or (nodes ns ch) i 0) d once hc there)

-- a chain b is cut in two, p and q: one of them stands in its place, and the other in front of all
pub spread : (ns : List ℕ) (chs : List Chain) (b : ℕ) (p q d : Chain) → b < length chs → Wired ns chs
    → ((k : ℕ) → occ k (nodes ns p) + occ k (nodes ns q) ≡ occ k (nodes ns (get_or chs b d))) → p.count + q.count ≡ (get_or chs b d).count → Ends ns p → Ends ns q
    → Wired ns (p ∷ set chs b q)
spread ns chs b p q d hb w parts counts ep eq = record { once = once; ended = ended; filled = filled }
  where
    once : Once ns (p ∷ set chs b q)
    once k =
        omega (arith, w.once k, parts k, over_chains (occ k) ns chs, over_chains (occ k) ns (set chs b q), sum_of_set (λ (ch : Chain). occ k (nodes ns ch)) chs b q d hb)

    at : (c : ℕ) (e : Chain) → c < length (set chs b q) → (c ≡ b) ⊎ (c ≡ b → ⊥) → Ends ns (get_or (set chs b q) c e)
    at c e h (inl i) = subst (λ (j : ℕ). Ends ns (get_or (set chs b q) j e)) (sym i) (subst (Ends ns) (sym (get_or-set_same chs b q e hb)) eq)
    at c e h (inr i) = subst (Ends ns) (sym (get_or-set_other chs b c q e i)) (w.ended c e (omega (arith, length-set chs b q)))

    ended : Ended ns (p ∷ set chs b q)
    ended zero e h = ep
    ended (suc c) e h = at c e (omega arith) (cases_eq c b)

    filled : Filled ns (p ∷ set chs b q)
    filled = omega (arith, w.filled, sum_of_set (λ (ch : Chain). ch.count) chs b q d hb)

-- an empty chain in front is let go
pub shed : (ns : List ℕ) (chs : List Chain) (x : Chain) → x.count ≡ 0 → Wired ns (x ∷ chs) → Wired ns chs
shed ns chs x z w = record { once = once; ended = λ c d h. w.ended (suc c) d (omega arith); filled = omega (arith, w.filled) }
  where
    none : nodes ns x ≡ []
    none = ap (walk ns x.first) z

    once : Once ns chs
    once k = omega (arith, w.once k, ap (occ k) none)

-- a chain is cut behind its first n cells
pub front_nodes : (ns : List ℕ) (ch : Chain) (n : ℕ) → n ≤ ch.count → nodes ns (front ns ch n) ≡ take n (nodes ns ch)
front_nodes ns ch n h = sym (take_walk ns ch.first ch.count n h)

pub back_nodes : (ns : List ℕ) (ch : Chain) (n : ℕ) → n ≤ ch.count → nodes ns (back ns ch n) ≡ drop n (nodes ns ch)
back_nodes ns ch n h = sym (drop_walk ns ch.first ch.count n h)

pub parts : (ns : List ℕ) (ch : Chain) (n : ℕ) → n ≤ ch.count → (k : ℕ) → occ k (nodes ns (front ns ch n)) + occ k (nodes ns (back ns ch n)) ≡ occ k (nodes ns ch)
parts ns ch n h k =
    omega (arith, ap (occ k) (front_nodes ns ch n h), ap (occ k) (back_nodes ns ch n h), occ_append k (take n (nodes ns ch)) (drop n (nodes ns ch)), ap (occ k) (take-append-drop n (nodes ns ch)))

pub front_ends : (ns : List ℕ) (ch : Chain) (n : ℕ) → Ends ns (front ns ch n)
front_ends ns ch zero = refl
front_ends ns ch (suc n) =
    let is : suc n - 1 ≡ n = omega arith in
    last_walk ns (hop ns ch.first (suc n - 1)) ch.first n ∙ ap (hop ns ch.first) (sym is)

pub back_ends : (ns : List ℕ) (ch : Chain) (n : ℕ) → n ≤ ch.count → Ends ns ch → Ends ns (back ns ch n)
back_ends ns ch n h e = ap (last_of ch.last) (back_nodes ns ch n h) ∙ go (cases_eq n ch.count)
  where
    go : (n ≡ ch.count) ⊎ (n ≡ ch.count → ⊥) → last_of ch.last (drop n (nodes ns ch)) ≡ ch.last
    go (inl q) = ap (last_of ch.last) (drop_all n (nodes ns ch) (omega (arith, walk_length ns ch.first ch.count)))
    go (inr q) = last_drop (nodes ns ch) ch.last n (omega (arith, walk_length ns ch.first ch.count)) ∙ e

pub same_wired : (ns ms : List ℕ) (xs ys : List Chain) → ns ≡ ms → xs ≡ ys → Wired ns xs → Wired ms ys
same_wired ns ms xs ys e f w = subst (λ (n : List ℕ). Wired n ys) e (subst (Wired ns) f w)
