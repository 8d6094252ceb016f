-- One chain put behind another: what the cells are then, and that all chains stay in order.
use Rattle.std.proofs.Common.{◌≡◌, ℕ, zero, suc, ◌+◌, ◌<◌, ◌≤◌, cond, eqb, ltb, ◌≢◌, ◌⊎◌, List, [], ◌∷◌, ◌++◌, map, length, get_or, set, sym, refl, ap, ◌∙◌, subst, inl, inr, arith}
use Rattle.std.proofs.lemmas.List.{append-nil, get_or-set_same, get_or-set_other, get_or_default, length-set, map-set, get_or-map, length-map}
use Rattle.std.proofs.lemmas.Bool.{cases_eq, eq-eqb, ne_eqb, cond-true, cond-false}
use Rattle.links.specs.declared.chains.Chain.{Chain}
use Rattle.links.specs.Walk.{walk, nodes, table, last_of, occ, sum_of, Once, Ends, Ended, Filled, cat, linked}
use Rattle.links.proofs.Walk.{walk_length, last_append, occ_append, walk_frame, walk_join}
use Rattle.links.proofs.Place.{sum_of_set, agree_two}
use Rattle.links.proofs.Wiring.{Wired, apart, single, inside, last_in}

join_raw : (ns : List ℕ) (v s n m l : ℕ) → 0 < n → last_of l (walk ns s n) ≡ l → occ l (walk ns s n) ≤ 1 → l < length ns → occ l (walk ns v m) ≡ 0
    → walk (set ns l v) s (n + m) ≡ walk ns s n ++ walk ns v m
join_raw ns v s zero m l h e one k z = absurd (omega arith)
join_raw ns v s (suc n) m l h e one k z =
    let there : 1 ≤ occ l (walk ns s (suc n)) = last_in ns s (suc n) l h e in
    let is_one : occ l (walk ns s (suc n)) ≡ 1 = omega (arith, there, one) in
    walk_join ns l v s n m l e is_one k z

last_any : (d e : ℕ) (xs : List ℕ) → 0 < length xs → last_of d xs ≡ last_of e xs
last_any d e [] h = absurd (omega arith)
last_any d e (x ∷ xs) h = refl

-- what has to hold of two chains for them to be joined
pub record Joins (ns : List ℕ) (a b : Chain) : Type 0 where
  pub ends_a : Ends ns a
  pub ends_b : Ends ns b
  pub single_a : occ a.last (nodes ns a) ≤ 1
  pub apart_b : 0 < a.count → occ a.last (nodes ns b) ≡ 0
  pub inside_a : 0 < a.count → a.last < length ns

pub cat_some : (a b : Chain) → 0 < a.count → cat a b ≡ record { first = a.first; last = cond (eqb b.count 0) a.last b.last; count = a.count + b.count }
cat_some a b h = cond-false (eqb a.count 0) b _ (ne_eqb a.count 0 (λ e. omega arith))

pub cat_none : (a b : Chain) → a.count ≡ 0 → cat a b ≡ b
cat_none a b e = cond-true (eqb a.count 0) b _ (eq-eqb a.count 0 e)

pub linked_some : (ns : List ℕ) (a b : Chain) → 0 < a.count → linked ns a b ≡ set ns a.last b.first
linked_some ns a b h = cond-false (eqb a.count 0) ns _ (ne_eqb a.count 0 (λ e. omega arith))

pub linked_none : (ns : List ℕ) (a b : Chain) → a.count ≡ 0 → linked ns a b ≡ ns
linked_none ns a b e = cond-true (eqb a.count 0) ns _ (eq-eqb a.count 0 e)

none_or_some : (n : ℕ) → (n ≡ 0) ⊎ (0 < n)
none_or_some zero = inl refl
none_or_some (suc n) = inr (omega arith)

no_nodes : (ns : List ℕ) (a : Chain) → a.count ≡ 0 → nodes ns a ≡ []
no_nodes ns a e = ap (walk ns a.first) e

pub cat_nodes : (ns : List ℕ) (a b : Chain) → Joins ns a b → nodes (linked ns a b) (cat a b) ≡ nodes ns a ++ nodes ns b
cat_nodes ns a b j = go (none_or_some a.count)
  where
    go : (a.count ≡ 0) ⊎ (0 < a.count) → nodes (linked ns a b) (cat a b) ≡ nodes ns a ++ nodes ns b
    go (inl z) =
        ap (λ (m : List ℕ). nodes m (cat a b)) (linked_none ns a b z) ∙ ap (nodes ns) (cat_none a b z)
        ∙ ap (λ (w : List ℕ). w ++ nodes ns b) (sym (no_nodes ns a z))
    go (inr h) =
        ap (λ (m : List ℕ). nodes m (cat a b)) (linked_some ns a b h) ∙ ap (nodes (set ns a.last b.first)) (cat_some a b h)
        ∙ join_raw ns b.first a.first a.count b.count a.last h j.ends_a j.single_a (j.inside_a h) (j.apart_b h)

pub cat_count : (a b : Chain) → (cat a b).count ≡ a.count + b.count
cat_count a b = go (none_or_some a.count)
  where
    go : (a.count ≡ 0) ⊎ (0 < a.count) → (cat a b).count ≡ a.count + b.count
    go (inl z) = ap (λ (ch : Chain). ch.count) (cat_none a b z) ∙ omega arith
    go (inr h) = ap (λ (ch : Chain). ch.count) (cat_some a b h)

pub cat_ends : (ns : List ℕ) (a b : Chain) → Joins ns a b → Ends (linked ns a b) (cat a b)
cat_ends ns a b j = subst (λ (w : List ℕ). last_of (cat a b).last w ≡ (cat a b).last) (sym (cat_nodes ns a b j)) (go (none_or_some a.count) (none_or_some b.count))
  where
    go : (a.count ≡ 0) ⊎ (0 < a.count) → (b.count ≡ 0) ⊎ (0 < b.count) → last_of (cat a b).last (nodes ns a ++ nodes ns b) ≡ (cat a b).last
    go (inl z) u =
        subst (λ (ch : Chain). last_of ch.last (nodes ns a ++ nodes ns b) ≡ ch.last) (sym (cat_none a b z))
        (ap (λ (w : List ℕ). last_of b.last (w ++ nodes ns b)) (no_nodes ns a z) ∙ j.ends_b)
    go (inr h) (inl z) =
        let is : (cat a b).last ≡ a.last = ap (λ (ch : Chain). ch.last) (cat_some a b h) ∙ cond-true (eqb b.count 0) a.last b.last (eq-eqb b.count 0 z) in
        subst (λ (l : ℕ). last_of l (nodes ns a ++ nodes ns b) ≡ l) (sym is)
        (ap (λ (w : List ℕ). last_of a.last (nodes ns a ++ w)) (no_nodes ns b z) ∙ ap (last_of a.last) (append-nil (nodes ns a)) ∙ j.ends_a)
    go (inr h) (inr k) =
        let is : (cat a b).last ≡ b.last = ap (λ (ch : Chain). ch.last) (cat_some a b h) ∙ cond-false (eqb b.count 0) a.last b.last (ne_eqb b.count 0 (λ e. omega arith)) in
        subst (λ (l : ℕ). last_of l (nodes ns a ++ nodes ns b) ≡ l) (sym is)
        (last_append b.last (nodes ns a) (nodes ns b) ∙ last_any _ b.last (nodes ns b) (omega (arith, walk_length ns b.first b.count)) ∙ j.ends_b)

-- a chain that has no cell of a keeps its cells
pub cat_frame : (ns : List ℕ) (a b x : Chain) → (0 < a.count → occ a.last (nodes ns x) ≡ 0) → nodes (linked ns a b) x ≡ nodes ns x
cat_frame ns a b x f = go (none_or_some a.count)
  where
    go : (a.count ≡ 0) ⊎ (0 < a.count) → nodes (linked ns a b) x ≡ nodes ns x
    go (inl z) = ap (λ (m : List ℕ). nodes m x) (linked_none ns a b z)
    go (inr h) = ap (λ (m : List ℕ). nodes m x) (linked_some ns a b h) ∙ walk_frame ns a.last b.first x.first x.count (f h)

pub linked_length : (ns : List ℕ) (a b : Chain) → length (linked ns a b) ≡ length ns
linked_length ns a b = go (none_or_some a.count)
  where
    go : (a.count ≡ 0) ⊎ (0 < a.count) → length (linked ns a b) ≡ length ns
    go (inl z) = ap length (linked_none ns a b z)
    go (inr h) = ap length (linked_some ns a b h) ∙ length-set ns a.last b.first

-- any two chains can be joined
pub joins : (ns : List ℕ) (chs : List Chain) (a b : ℕ) (d : Chain) → Wired ns chs → a < length chs → b < length chs → a ≢ b → Joins ns (get_or chs a d) (get_or chs b d)
joins ns chs a b d w ha hb ne =
    record {
      ends_a = w.ended a d ha;
      ends_b = w.ended b d hb;
      single_a = single ns chs a (get_or chs a d).last d w.once ha;
      apart_b = λ h. apart ns chs a b (get_or chs a d).last d w.once ha hb ne (last_in ns (get_or chs a d).first (get_or chs a d).count (get_or chs a d).last h (w.ended a d ha));
      inside_a = λ h. inside ns chs a (get_or chs a d).last d w.once ha (last_in ns (get_or chs a d).first (get_or chs a d).count (get_or chs a d).last h (w.ended a d ha));
    }

-- the chain b is put behind the chain a, and e, which is empty, in its place
module _ (ns : List ℕ) (chs : List Chain) (a b : ℕ) (d e : Chain) (w : Wired ns chs) (ha : a < length chs) (hb : b < length chs) (ne : a ≢ b) (z : e.count ≡ 0) where
  frames : (c : ℕ) → c < length chs → c ≢ a → nodes (linked ns (get_or chs a d) (get_or chs b d)) (get_or chs c d) ≡ nodes ns (get_or chs c d)
  frames c hc nc =
      cat_frame ns (get_or chs a d) (get_or chs b d) (get_or chs c d)
      (λ h. apart ns chs a c (get_or chs a d).last d w.once ha hc (λ (q : a ≡ c). nc (sym q)) (last_in ns (get_or chs a d).first (get_or chs a d).count (get_or chs a d).last h (w.ended a d ha)))

  pub join_table : table (linked ns (get_or chs a d) (get_or chs b d)) (set (set chs a (cat (get_or chs a d) (get_or chs b d))) b e) ≡ set (set (table ns chs) a (nodes ns (get_or chs a d) ++ nodes ns (get_or chs b d))) b []
  join_table =
      let m : List ℕ = linked ns (get_or chs a d) (get_or chs b d) in
      let x : Chain = cat (get_or chs a d) (get_or chs b d) in
      map-set (nodes m) (set chs a x) b e
      ∙ ap (λ (t : List (List ℕ)). set t b (nodes m e)) (map-set (nodes m) chs a x)
      ∙ ap (λ (t : List ℕ). set (set (map (nodes m) chs) a (nodes m x)) b t) (no_nodes m e z)
      ∙ ap (λ (t : List ℕ). set (set (map (nodes m) chs) a t) b []) (cat_nodes ns (get_or chs a d) (get_or chs b d) (joins ns chs a b d w ha hb ne))
      ∙ agree_two (nodes m) (nodes ns) chs a b _ [] ne
      (λ c f hc na nb. subst (λ (ch : Chain). nodes m ch ≡ nodes ns ch) (get_or_default chs c d f hc) (frames c hc na))

  join_once : Once (linked ns (get_or chs a d) (get_or chs b d)) (set (set chs a (cat (get_or chs a d) (get_or chs b d))) b e)
  join_once k =
      let t : List (List ℕ) = table ns chs in
      let y : List ℕ = nodes ns (get_or chs a d) ++ nodes ns (get_or chs b d) in
      let lt : length t ≡ length chs = length-map chs (nodes ns) in
      let at_b : get_or (set t a y) b [] ≡ nodes ns (get_or chs b d) = get_or-set_other t a b y [] (λ (q : b ≡ a). ne (sym q)) ∙ get_or-map (nodes ns) chs b d [] hb in
      let at_a : get_or t a [] ≡ nodes ns (get_or chs a d) = get_or-map (nodes ns) chs a d [] ha in
      let la : a < length t = omega (arith, lt) in
      let lb : b < length (set t a y) = omega (arith, lt, length-set t a y) in
      let whole : sum_of (occ k) (table (linked ns (get_or chs a d) (get_or chs b d)) (set (set chs a (cat (get_or chs a d) (get_or chs b d))) b e)) ≡ sum_of (occ k) (set (set t a y) b []) = ap (sum_of (occ k)) join_table in
      let same : sum_of (occ k) (set (set t a y) b []) ≡ sum_of (occ k) t =
      omega (arith, sum_of_set (occ k) (set t a y) b [] [] lb, sum_of_set (occ k) t a y [] la, ap (occ k) at_b, ap (occ k) at_a, occ_append k (nodes ns (get_or chs a d)) (nodes ns (get_or chs b d))) in
      whole ∙ same ∙ w.once k ∙ ap (λ (n : ℕ). cond (ltb k n) 1 0) (sym (linked_length ns (get_or chs a d) (get_or chs b d)))

  join_ended : Ended (linked ns (get_or chs a d) (get_or chs b d)) (set (set chs a (cat (get_or chs a d) (get_or chs b d))) b e)
  join_ended c f hc = go (cases_eq c a) (cases_eq c b)
    where
      m : List ℕ
      m = linked ns (get_or chs a d) (get_or chs b d)

      x : Chain
      x = cat (get_or chs a d) (get_or chs b d)

      hc' : c < length chs
      hc' = omega (arith, hc, length-set (set chs a x) b e, length-set chs a x)

      go : (c ≡ a) ⊎ (c ≡ a → ⊥) → (c ≡ b) ⊎ (c ≡ b → ⊥) → Ends m (get_or (set (set chs a x) b e) c f)
      go u (inl q) =
          let at : get_or (set (set chs a x) b e) c f ≡ e = ap (λ (i : ℕ). get_or (set (set chs a x) b e) i f) q ∙ get_or-set_same (set chs a x) b e f (omega (arith, length-set chs a x)) in
          subst (Ends m) (sym at) (ap (last_of e.last) (no_nodes m e z))
      go (inl p) (inr q) =
          let at : get_or (set (set chs a x) b e) c f ≡ x = get_or-set_other (set chs a x) b c e f q ∙ ap (λ (i : ℕ). get_or (set chs a x) i f) p ∙ get_or-set_same chs a x f ha in
          subst (Ends m) (sym at) (cat_ends ns (get_or chs a d) (get_or chs b d) (joins ns chs a b d w ha hb ne))
      go (inr p) (inr q) =
          let at : get_or (set (set chs a x) b e) c f ≡ get_or chs c d = get_or-set_other (set chs a x) b c e f q ∙ get_or-set_other chs a c x f p ∙ get_or_default chs c f d hc' in
          subst (Ends m) (sym at) (subst (λ (t : List ℕ). last_of (get_or chs c d).last t ≡ (get_or chs c d).last) (sym (frames c hc' p)) (w.ended c d hc'))

  join_filled : Filled (linked ns (get_or chs a d) (get_or chs b d)) (set (set chs a (cat (get_or chs a d) (get_or chs b d))) b e)
  join_filled =
      let x : Chain = cat (get_or chs a d) (get_or chs b d) in
      let lb : b < length (set chs a x) = omega (arith, length-set chs a x) in
      let at_b : get_or (set chs a x) b d ≡ get_or chs b d = get_or-set_other chs a b x d (λ (q : b ≡ a). ne (sym q)) in
      omega (arith, w.filled, linked_length ns (get_or chs a d) (get_or chs b d), sum_of_set (λ (ch : Chain). ch.count) (set chs a x) b e d lb, sum_of_set (λ (ch : Chain). ch.count) chs a x d ha, ap (λ (ch : Chain). ch.count) at_b, cat_count (get_or chs a d) (get_or chs b d))

  pub join_wired : Wired (linked ns (get_or chs a d) (get_or chs b d)) (set (set chs a (cat (get_or chs a d) (get_or chs b d))) b e)
  join_wired = record { once = join_once; ended = join_ended; filled = join_filled }
