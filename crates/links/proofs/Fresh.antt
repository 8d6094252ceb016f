-- A new `Links`: all cells are free, in their order, and each list is empty.
use Rattle.std.proofs.Common.{◌≡◌, ℕ, zero, suc, ◌+◌, ◌-◌, ◌<◌, ◌≤◌, Bool, cond, ltb, ◌⊎◌, List, [], ◌∷◌, map, length, get_or, replicate, sym, refl, ap, ◌∙◌, subst, inl, inr, arith}
use Rattle.std.proofs.lemmas.List.{get_or-replicate, length-replicate}
use Rattle.std.proofs.lemmas.Bool.{cases_eq, cases_lt, lt-ltb, le-ltb}
use Rattle.std.proofs.lemmas.List.FromFn.{length-map-range_with_len, get_or-map-range_with_len}
use Rattle.std.specs.List.{range_with_len}
use Rattle.links.specs.declared.chains.Chain.{Chain}
use Rattle.link.specs.declared.Link.{Link}
use Rattle.links.specs.Walk.{walk, nodes, table, last_of, occ, sum_of, Once, Ends, Ended, Filled, no_chain}
use Rattle.links.specs.Meaning.{links_at, meaning}
use Rattle.links.proofs.Walk.{occ_here, occ_other}
use Rattle.links.proofs.Wiring.{Wired}

-- cells in one row, as many as n
pub row_length : (ns : List ℕ) (n : ℕ) → ns ≡ map (λ i. i + 1) (range_with_len 0 n) → length ns ≡ n
row_length ns n e = ap length e ∙ length-map-range_with_len (λ i. i + 1) 0 n

pub row_steps : (ns : List ℕ) (n : ℕ) → ns ≡ map (λ i. i + 1) (range_with_len 0 n) → (k : ℕ) → k < n → get_or ns k 0 ≡ k + 1
row_steps ns n e k h = ap (λ (l : List ℕ). get_or l k 0) e ∙ get_or-map-range_with_len (λ i. i + 1) 0 n k k 0 h (omega arith)

walk_up : (ns : List ℕ) (s n : ℕ) → ((k : ℕ) → s ≤ k → k < s + n → get_or ns k 0 ≡ k + 1) → walk ns s n ≡ range_with_len s n
walk_up ns s zero h = refl
walk_up ns s (suc n) h =
    ap (λ (t : ℕ). s ∷ walk ns t n) (h s (omega arith) (omega arith)) ∙ ap (λ (w : List ℕ). s ∷ w) (walk_up ns (s + 1) n (λ k a b. h k (omega arith) (omega arith)))

up_below : (k s n : ℕ) → k < s → occ k (range_with_len s n) ≡ 0
up_below k s zero h = refl
up_below k s (suc n) h = occ_other k s (range_with_len (s + 1) n) (omega arith) ∙ up_below k (s + 1) n (omega arith)

up_past : (k s n : ℕ) → s + n ≤ k → occ k (range_with_len s n) ≡ 0
up_past k s zero h = refl
up_past k s (suc n) h = occ_other k s (range_with_len (s + 1) n) (omega arith) ∙ up_past k (s + 1) n (omega arith)

up_step : (k s n : ℕ) → (k ≡ s) ⊎ (k ≡ s → ⊥) → s ≤ k → (s + 1 ≤ k → occ k (range_with_len (s + 1) n) ≡ 1) → occ k (range_with_len s (suc n)) ≡ 1
up_step k s n (inl e) h r = subst (λ (t : ℕ). occ k (t ∷ range_with_len (s + 1) n) ≡ 1) e (omega (arith, occ_here k (range_with_len (s + 1) n), up_below k (s + 1) n (omega arith)))
up_step k s n (inr e) h r = occ_other k s (range_with_len (s + 1) n) e ∙ r (omega arith)

up_in : (k s n : ℕ) → s ≤ k → k < s + n → occ k (range_with_len s n) ≡ 1
up_in k s zero h g = absurd (omega arith)
up_in k s (suc n) h g = up_step k s n (cases_eq k s) h (λ m. up_in k (s + 1) n m (omega arith))

up_last : (d s n : ℕ) → last_of d (range_with_len s (suc n)) ≡ s + n
up_last d s zero = omega arith
up_last d s (suc n) = up_last s (s + 1) n ∙ omega arith

blank_sum : {X : Type 0} (f : X → ℕ) (x : X) (n : ℕ) → f x ≡ 0 → sum_of f (replicate n x) ≡ 0
blank_sum f x zero e = refl
blank_sum f x (suc n) e = omega (arith, e, blank_sum f x n e)

blank_map : {X Y : Type 0} (f : X → Y) (x : X) (n : ℕ) → map f (replicate n x) ≡ replicate n (f x)
blank_map f x zero = refl
blank_map {Y = Y} f x (suc n) = ap (λ (w : List Y). f x ∷ w) (blank_map f x n)

pub fresh_lists : (ls : List Link) (ns : List ℕ) (n : ℕ) → meaning ls ns (replicate n no_chain) ≡ replicate n []
fresh_lists ls ns n = ap (map (links_at ls)) (blank_map (nodes ns) no_chain n) ∙ blank_map (links_at ls) [] n

fresh_end : (cells : ℕ) → last_of (cells - 1) (range_with_len 0 cells) ≡ cells - 1
fresh_end zero = refl
fresh_end (suc n) = up_last (suc n - 1) 0 n ∙ omega arith

pub fresh_wired : (ns : List ℕ) (cells lists : ℕ) (free : Chain) → length ns ≡ cells → ((k : ℕ) → k < cells → get_or ns k 0 ≡ k + 1)
    → free.first ≡ 0 → free.last ≡ cells - 1 → free.count ≡ cells → Wired ns (free ∷ replicate lists no_chain)
fresh_wired ns cells lists free len steps e_first e_last e_count = record { once = once; ended = ended; filled = filled }
  where
    is_up : nodes ns free ≡ range_with_len 0 cells
    is_up = ap (λ (s : ℕ). walk ns s free.count) e_first ∙ ap (walk ns 0) e_count ∙ walk_up ns 0 cells (λ k a b. steps k (omega arith))

    none : (k : ℕ) → sum_of (occ k) (table ns (replicate lists no_chain)) ≡ 0
    none k = ap (sum_of (occ k)) (blank_map (nodes ns) no_chain lists) ∙ blank_sum (occ k) [] lists refl

    of : (k : ℕ) → (k < cells) ⊎ (cells ≤ k) → occ k (range_with_len 0 cells) ≡ cond (ltb k (length ns)) 1 0
    of k (inl h) = up_in k 0 cells (omega arith) (omega arith) ∙ sym (ap (λ (b : Bool). cond b 1 0) (lt-ltb k (length ns) (omega arith)))
    of k (inr h) = up_past k 0 cells (omega arith) ∙ sym (ap (λ (b : Bool). cond b 1 0) (le-ltb k (length ns) (omega arith)))

    once : Once ns (free ∷ replicate lists no_chain)
    once k = omega (arith, none k, ap (occ k) is_up, of k (cases_lt k cells))

    ended : Ended ns (free ∷ replicate lists no_chain)
    ended zero d h = ap (last_of free.last) is_up ∙ ap (λ (l : ℕ). last_of l (range_with_len 0 cells)) e_last ∙ fresh_end cells ∙ sym e_last
    ended (suc c) d h = subst (Ends ns) (sym (get_or-replicate lists c no_chain d (omega (arith, length-replicate lists no_chain)))) refl

    filled : Filled ns (free ∷ replicate lists no_chain)
    filled = omega (arith, e_count, len, blank_sum (λ (ch : Chain). ch.count) no_chain lists refl)
