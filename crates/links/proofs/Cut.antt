-- A list cut short: the cells behind its first n go to the end of the free chain.
use Rattle.std.proofs.Common.{◌≡◌, ℕ, zero, suc, ◌+◌, ◌<◌, ◌≤◌, List, ◌∷◌, map, length, get_or, take, drop, set, vec_len, sym, refl, ap, ◌∙◌, arith}
use Rattle.std.proofs.lemmas.List.{map-set, set_past, set-get_or, take_all, take-map}
use Rattle.link.specs.declared.Link.{Link}
use Rattle.links.specs.declared.chains.Chain.{Chain}
use Rattle.links.specs.declared.state.Links.{Links}
use Rattle.links.specs.Walk.{nodes, table, occ, front, back, cat, linked, no_chain}
use Rattle.links.specs.Meaning.{lists, list_at, links_at, meaning, no_link}
use Rattle.links.proofs.Wiring.{Wired, same_wired, spread, shed, parts, front_nodes, front_ends, back_ends}
use Rattle.links.proofs.Join.{join_table, join_wired}
use Rattle.links.proofs.Reading.{links_of, nexts_of, chains_of, At, wired, lists_length, list_is, list_length, read_ends}

pub cut_no_list : (s : Links) (c : ℕ) (l : List Link) → vec_len s.chains ≤ c → lists s ≡ set (lists s) c l
cut_no_list s c l h = sym (set_past (lists s) c l (omega (arith, lists_length s)))

pub cut_none : (s : Links) (c n : ℕ) (x : Chain) → At s c x → x.count ≤ n → lists s ≡ set (lists s) c (take n (list_at s c))
cut_none s c n x at h = sym (ap (set (lists s) c) (take_all n (list_at s c) (omega (arith, list_length s c x at))) ∙ set-get_or (lists s) c _)

-- the chain x of the list c becomes its first n cells, `keep`; the others, `rest`, go behind the free ones, which become y, and the cells are linked by ms
module _ (s : Links) (c n : ℕ) (x keep rest y : Chain) (ms : List ℕ) (at : At s c x) (short : n ≤ x.count)
    (is_keep : keep ≡ front (nexts_of s) x n) (is_rest : rest ≡ back (nexts_of s) x n) (is_y : y ≡ cat s.free rest) (is_ms : ms ≡ linked (nexts_of s) s.free rest) where
  apart_wired : Wired (nexts_of s) (rest ∷ s.free ∷ set (chains_of s) c keep)
  apart_wired =
      let ns : List ℕ = nexts_of s in
      let chs : List Chain = chains_of s in
      let hs : suc c < length (s.free ∷ chs) = omega (arith, at.within, s.chains.ok.0) in
      let both : (k : ℕ) → occ k (nodes ns (back ns x n)) + occ k (nodes ns (front ns x n)) ≡ occ k (nodes ns (get_or chs c x)) =
      λ k. omega (arith, parts ns x n short k, ap (λ (t : Chain). occ k (nodes ns t)) at.read) in
      same_wired ns ns _ _ refl
      (ap (λ (t : Chain). t ∷ s.free ∷ set chs c (front ns x n)) (sym is_rest) ∙ ap (λ (t : Chain). rest ∷ s.free ∷ set chs c t) (sym is_keep))
      (spread ns (s.free ∷ chs) (suc c) (back ns x n) (front ns x n) x hs (wired s) both (omega (arith, ap (λ (t : Chain). t.count) at.read)) (back_ends ns x n short (read_ends s c x at)) (front_ends ns x n))

  pub cut_wired : Wired ms (y ∷ set (chains_of s) c keep)
  cut_wired =
      let chs : List Chain = set (chains_of s) c keep in
      same_wired _ _ _ _ (sym is_ms) (ap (λ (t : Chain). t ∷ chs) (sym is_y))
      (shed _ _ no_chain refl (join_wired (nexts_of s) (rest ∷ s.free ∷ chs) (suc zero) zero x no_chain apart_wired (omega arith) (omega arith) (omega arith) refl))

  cut_table : table ms (set (chains_of s) c keep) ≡ set (table (nexts_of s) (chains_of s)) c (take n (nodes (nexts_of s) x))
  cut_table =
      let ns : List ℕ = nexts_of s in
      let chs : List Chain = set (chains_of s) c keep in
      let e = join_table ns (rest ∷ s.free ∷ chs) (suc zero) zero x no_chain apart_wired (omega arith) (omega arith) (omega arith) refl in
      let same : table (linked ns s.free rest) chs ≡ table ns chs = ap (drop 2) e in
      let kept : nodes ns keep ≡ take n (nodes ns x) = ap (nodes ns) is_keep ∙ front_nodes ns x n short in
      ap (λ (m : List ℕ). table m chs) is_ms ∙ same ∙ map-set (nodes ns) (chains_of s) c keep ∙ ap (set (table ns (chains_of s)) c) kept

  pub cut_lists : meaning (links_of s) ms (set (chains_of s) c keep) ≡ set (lists s) c (take n (list_at s c))
  unfolding lists
  cut_lists =
      let ls : List Link = links_of s in
      let ks : List ℕ = nodes (nexts_of s) x in
      ap (map (links_at ls)) cut_table ∙ map-set (links_at ls) (table (nexts_of s) (chains_of s)) c (take n ks)
      ∙ ap (set (lists s) c) (sym (take-map (λ k. get_or ls k no_link) n ks) ∙ ap (take n) (sym (list_is s c x at)))
