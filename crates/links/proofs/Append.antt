-- A link more: a cell goes from the free chain to the end of a list.
use Rattle.std.proofs.Common.{◌≡◌, ℕ, suc, ◌<◌, ◌≤◌, true, false, ◌&&◌, ltb, ◌⊎◌, List, [], ◌∷◌, ◌++◌, map, length, get_or, drop, set, vec_len, sym, refl, ap, ◌∙◌, subst, inl, inr, arith}
use Rattle.std.proofs.lemmas.List.{get_or-set_same, get_or-set_other, map-set, get_or-map, length-map, map-append}
use Rattle.std.proofs.lemmas.Bool.{cases_eq, lt-ltb, le-ltb, and_left, and_right, and_from}
use Rattle.link.specs.declared.Link.{Link}
use Rattle.links.specs.declared.chains.Chain.{Chain}
use Rattle.links.specs.declared.state.Links.{Links}
use Rattle.links.specs.Walk.{nodes, table, occ, front, back, cat, linked, no_chain}
use Rattle.links.specs.Meaning.{lists, list_at, is_list, used, cells, links_at, meaning, no_link}
use Rattle.links.proofs.Walk.{walk_length, get_or_walk, occ_get_or, occ_here, occ_other}
use Rattle.links.proofs.Place.{agree_all}
use Rattle.links.proofs.Wiring.{Wired, same_wired, apart, inside, spread, shed, parts, front_ends, back_ends}
use Rattle.links.proofs.Join.{join_table, join_wired}
use Rattle.links.proofs.Reading.{links_of, nexts_of, chains_of, At, wired, no_list, a_list, used_is, list_is}

pub refuse_list : (s : Links) (c : ℕ) → vec_len s.chains ≤ c → false ≡ (is_list s c && ltb (used s) (cells s))
refuse_list s c h = sym (and_left (is_list s c) (ltb (used s) (cells s)) (sym (no_list s c h)))

pub refuse_full : (s : Links) (c : ℕ) → s.free.count ≡ 0 → false ≡ (is_list s c && ltb (used s) (cells s))
unfolding cells
refuse_full s c h = sym (and_right (is_list s c) (ltb (used s) (cells s)) (le-ltb (used s) (cells s) (omega (arith, used_is s))))

pub accept : (s : Links) (c : ℕ) → c < vec_len s.chains → 0 < s.free.count → true ≡ (is_list s c && ltb (used s) (cells s))
unfolding cells
accept s c h k = sym (and_from (is_list s c) (ltb (used s) (cells s)) (sym (a_list s c h)) (lt-ltb (used s) (cells s) (omega (arith, used_is s))))

-- a write to a cell that is not among some cells leaves their links as they are
pub links_frame : (ls : List Link) (k : ℕ) (v : Link) (ks : List ℕ) → occ k ks ≡ 0 → links_at (set ls k v) ks ≡ links_at ls ks
links_frame ls k v [] h = refl
links_frame ls k v (x ∷ xs) h = go (cases_eq k x) (links_frame ls k v xs)
  where
    go : (k ≡ x) ⊎ (k ≡ x → ⊥) → (occ k xs ≡ 0 → links_at (set ls k v) xs ≡ links_at ls xs) → links_at (set ls k v) (x ∷ xs) ≡ links_at ls (x ∷ xs)
    go (inl e) rest = absurd (omega (arith, subst (λ (t : ℕ). occ k (t ∷ xs) ≡ 0) (sym e) h, occ_here k xs))
    go (inr n) rest =
        ap (λ (t : Link). t ∷ links_at (set ls k v) xs) (get_or-set_other ls k x v no_link (λ (q : x ≡ k). n (sym q)))
        ∙ ap (λ (t : List Link). get_or ls x no_link ∷ t) (rest (omega (arith, occ_other k x xs n)))

-- the first free cell, in front of the other free ones
free_cell : (s : Links) → 0 < s.free.count → 1 ≤ occ s.free.first (nodes (nexts_of s) s.free)
free_cell s some =
    let ns : List ℕ = nexts_of s in
    let f : Chain = s.free in
    let is : get_or (nodes ns f) 0 0 ≡ f.first = get_or_walk ns f.first f.count 0 some in
    subst (λ (k : ℕ). 1 ≤ occ k (nodes ns f)) is (occ_get_or (nodes ns f) 0 (omega (arith, walk_length ns f.first f.count)))

pub free_in : (s : Links) → 0 < s.free.count → s.free.first < vec_len s.links
free_in s some =
    omega (arith, inside (nexts_of s) (s.free ∷ chains_of s) 0 s.free.first s.free s.once (omega arith) (free_cell s some), s.sized, s.nexts.ok.0)

-- it is in no list
not_listed : (s : Links) (e : ℕ) (d : Chain) → 0 < s.free.count → e < length (chains_of s) → occ s.free.first (nodes (nexts_of s) (get_or (chains_of s) e d)) ≡ 0
not_listed s e d some h = apart (nexts_of s) (s.free ∷ chains_of s) 0 (suc e) s.free.first d s.once (omega arith) (omega arith) (omega arith) (free_cell s some)

-- the chain x of the list c becomes y, with the first free cell `one` at its end; `rest` is still free, and the cells are linked by ms
module _ (s : Links) (c : ℕ) (x one rest y : Chain) (ms : List ℕ) (at : At s c x) (some : 0 < s.free.count)
    (is_one : one ≡ front (nexts_of s) s.free 1) (is_rest : rest ≡ back (nexts_of s) s.free 1) (is_y : y ≡ cat x one) (is_ms : ms ≡ linked (nexts_of s) x one) where
  apart_wired : Wired (nexts_of s) (front (nexts_of s) s.free 1 ∷ back (nexts_of s) s.free 1 ∷ chains_of s)
  apart_wired =
      let ns : List ℕ = nexts_of s in
      let f : Chain = s.free in
      spread ns (f ∷ chains_of s) 0 (front ns f 1) (back ns f 1) f (omega arith) (wired s)
      (parts ns f 1 (omega arith)) (omega arith) (front_ends ns f 1) (back_ends ns f 1 (omega arith) (s.ended 0 f (omega arith)))

  linked_is : linked (nexts_of s) (get_or (chains_of s) c x) (front (nexts_of s) s.free 1) ≡ ms
  linked_is =
      ap (λ (t : Chain). linked (nexts_of s) t (front (nexts_of s) s.free 1)) (sym at.read) ∙ ap (linked (nexts_of s) x) (sym is_one) ∙ sym is_ms

  cat_is : cat (get_or (chains_of s) c x) (front (nexts_of s) s.free 1) ≡ y
  cat_is = ap (λ (t : Chain). cat t (front (nexts_of s) s.free 1)) (sym at.read) ∙ ap (cat x) (sym is_one) ∙ sym is_y

  pub append_wired : Wired ms (rest ∷ set (chains_of s) c y)
  append_wired =
      let ns : List ℕ = nexts_of s in
      let chs : List Chain = chains_of s in
      let one' : Chain = front ns s.free 1 in
      let rest' : Chain = back ns s.free 1 in
      same_wired _ _ _ _ linked_is (ap (λ (t : Chain). t ∷ set chs c (cat (get_or chs c x) one')) (sym is_rest) ∙ ap (λ (t : Chain). rest ∷ set chs c t) cat_is)
      (shed _ _ no_chain refl (join_wired ns (one' ∷ rest' ∷ chs) (suc (suc c)) 0 x no_chain apart_wired (omega (arith, at.within, s.chains.ok.0)) (omega arith) (omega arith) refl))

  append_table : table ms (set (chains_of s) c y) ≡ set (table (nexts_of s) (chains_of s)) c (nodes (nexts_of s) x ++ s.free.first ∷ [])
  append_table =
      let ns : List ℕ = nexts_of s in
      let chs : List Chain = chains_of s in
      let k : ℕ = s.free.first in
      let one' : Chain = front ns s.free 1 in
      let rest' : Chain = back ns s.free 1 in
      let e = join_table ns (one' ∷ rest' ∷ chs) (suc (suc c)) 0 x no_chain apart_wired (omega (arith, at.within, s.chains.ok.0)) (omega arith) (omega arith) refl in
      let e' : table (linked ns (get_or chs c x) one') (set chs c (cat (get_or chs c x) one')) ≡ set (table ns chs) c (nodes ns (get_or chs c x) ++ k ∷ []) = ap (drop 2) e in
      ap (λ (t : Chain). table ms (set chs c t)) (sym cat_is) ∙ ap (λ (m : List ℕ). table m (set chs c (cat (get_or chs c x) one'))) (sym linked_is) ∙ e'
      ∙ ap (λ (t : Chain). set (table ns chs) c (nodes ns t ++ k ∷ [])) (sym at.read)

  -- the links of the cells of c, and then the new link
  listed : (v : Link) → links_at (set (links_of s) s.free.first v) (nodes (nexts_of s) x ++ s.free.first ∷ []) ≡ list_at s c ++ v ∷ []
  listed v =
      let ns : List ℕ = nexts_of s in
      let ls : List Link = links_of s in
      let k : ℕ = s.free.first in
      let hc : c < length (chains_of s) = omega (arith, at.within, s.chains.ok.0) in
      let hk : k < length ls = omega (arith, free_in s some, s.links.ok.0) in
      let old : occ k (nodes ns x) ≡ 0 = subst (λ (t : Chain). occ k (nodes ns t) ≡ 0) (sym at.read) (not_listed s c x some hc) in
      map-append (λ m. get_or (set ls k v) m no_link) (nodes ns x) (k ∷ [])
      ∙ ap (λ (t : List Link). t ++ get_or (set ls k v) k no_link ∷ []) (links_frame ls k v (nodes ns x) old ∙ sym (list_is s c x at))
      ∙ ap (λ (t : Link). list_at s c ++ t ∷ []) (get_or-set_same ls k v no_link hk)

  -- the other lists are as they were
  unchanged : (v : Link) → map (links_at (set (links_of s) s.free.first v)) (table (nexts_of s) (chains_of s)) ≡ lists s
  unfolding lists
  unchanged v =
      let ns : List ℕ = nexts_of s in
      let chs : List Chain = chains_of s in
      let k : ℕ = s.free.first in
      agree_all (links_at (set (links_of s) k v)) (links_at (links_of s)) (table ns chs)
      (λ e d h.
      let h' : e < length chs = omega (arith, length-map chs (nodes ns)) in
      links_frame (links_of s) k v (get_or (table ns chs) e d) (ap (occ k) (get_or-map (nodes ns) chs e x d h') ∙ not_listed s e x some h'))

  pub append_lists : (v : Link) → meaning (set (links_of s) one.first v) ms (set (chains_of s) c y) ≡ set (lists s) c (list_at s c ++ v ∷ [])
  append_lists v =
      let ls : List Link = links_of s in
      let k : ℕ = s.free.first in
      let t : List (List ℕ) = table (nexts_of s) (chains_of s) in
      let ks : List ℕ = nodes (nexts_of s) x ++ k ∷ [] in
      ap (λ (o : Chain). meaning (set ls o.first v) ms (set (chains_of s) c y)) is_one ∙ ap (map (links_at (set ls k v))) append_table
      ∙ map-set (links_at (set ls k v)) t c ks ∙ ap (λ (u : List (List Link)). set u c (links_at (set ls k v) ks)) (unchanged v) ∙ ap (set (lists s) c) (listed v)
