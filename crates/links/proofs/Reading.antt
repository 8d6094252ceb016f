-- What is read of a chain, by the list of links that it means.
use Rattle.std.proofs.Common.{◌≡◌, ℕ, suc, ◌+◌, ◌-◌, ◌<◌, ◌≤◌, true, false, ◌⊎◌, List, [], ◌∷◌, length, get_or, set, Some, None, Vec, vec_items, vec_len, Option, sym, refl, ap, ◌∙◌, subst, inl, inr, arith}
use Rattle.std.proofs.Math.ListN.{get_or-map}
use Rattle.std.proofs.lemmas.List.{get_or_default, get_or-map as get_or-map_within, get_or_read, length-map, get_or_past, set-get_or, with_items_is}
use Rattle.std.proofs.lemmas.Bool.{lt-ltb, le-ltb, cases_lt}
use Rattle.std.proofs.lemmas.Option.{slice_get-get_or, slice_get_past, slice_get_within, get_or_from_slice_get, slice_get-map}
use Rattle.std.specs.List.{slice_get}
use Rattle.std.specs.Option.{option_map}
use Rattle.std.specs.Vec.{with_items}
use Rattle.link.specs.declared.Link.{Link}
use Rattle.links.specs.declared.chains.Chain.{Chain}
use Rattle.links.specs.declared.state.Links.{Links}
use Rattle.links.specs.Walk.{hop, nodes, table, last_of, occ, Ends, Inside, no_chain}
use Rattle.links.specs.Meaning.{lists, list_at, is_list, used, links_at, no_link}
use Rattle.links.proofs.Walk.{walk_length, get_or_walk, last_walk}
use Rattle.links.proofs.Place.{sum_of_map, sum_of_same, part_le}
use Rattle.links.proofs.Wiring.{Wired, inside, last_in, chain_inside}

abbrev pub links_of : Links → List Link
links_of s = vec_items s.links

abbrev pub nexts_of : Links → List ℕ
nexts_of s = vec_items s.nexts

abbrev pub chains_of : Links → List Chain
chains_of s = vec_items s.chains

-- x is the chain of the list c
pub record At (s : Links) (c : ℕ) (x : Chain) : Type 0 where
  pub within : c < vec_len s.chains
  pub read : x ≡ get_or (chains_of s) c x

-- it was found there
pub found : (s : Links) (c : ℕ) (x : Chain) → slice_get (chains_of s) c ≡ Some x → At s c x
found s c x e = record { within = omega (arith, slice_get_within (chains_of s) c x e, s.chains.ok.0); read = sym (get_or_from_slice_get (chains_of s) c x x e) }

-- a chain that was only looked at is where it was
pub put_back : (s : Links) (c : ℕ) (x : Chain) → At s c x → set (chains_of s) c x ≡ chains_of s
put_back s c x at = ap (set (chains_of s) c) at.read ∙ set-get_or (chains_of s) c x

-- a Vec lends its cells as xs, and gets ys back
pub lent_back : {Z : Type 0} (v : Vec ℕ Z) (xs ys : List ℕ) → xs ≡ vec_items v → length ys ≡ length xs → (f : List ℕ → List ℕ) → ys ≡ f xs → vec_items (with_items v ys) ≡ f (vec_items v)
lent_back v xs ys lent long f e = with_items_is v ys (long ∙ ap length lent ∙ sym v.ok.0) ∙ e ∙ ap f lent

pub cells_linked : (s : Links) → length (nexts_of s) ≡ vec_len s.nexts
cells_linked s = sym s.nexts.ok.0

pub wired : (s : Links) → Wired (nexts_of s) (s.free ∷ chains_of s)
wired s = record { once = s.once; ended = s.ended; filled = s.filled }

pub links_at_length : (ls : List Link) (ks : List ℕ) → length (links_at ls ks) ≡ length ks
links_at_length ls ks = length-map ks (λ k. get_or ls k no_link)

pub lists_length : (s : Links) → length (lists s) ≡ vec_len s.chains
unfolding lists
lists_length s =
    length-map (table (nexts_of s) (chains_of s)) (links_at (links_of s)) ∙ length-map (chains_of s) (nodes (nexts_of s)) ∙ sym s.chains.ok.0

pub no_list : (s : Links) (c : ℕ) → vec_len s.chains ≤ c → false ≡ is_list s c
no_list s c h = sym (le-ltb c (length (lists s)) (omega (arith, lists_length s)))

pub a_list : (s : Links) (c : ℕ) → c < vec_len s.chains → true ≡ is_list s c
a_list s c h = sym (lt-ltb c (length (lists s)) (omega (arith, lists_length s)))

-- the list of any number: no cell where there is no such list
pub list_at_is : (s : Links) (c : ℕ) → list_at s c ≡ links_at (links_of s) (nodes (nexts_of s) (get_or (chains_of s) c no_chain))
unfolding lists
list_at_is s c =
    get_or-map (links_at (links_of s)) (table (nexts_of s) (chains_of s)) c []
    ∙ ap (links_at (links_of s)) (get_or-map (nodes (nexts_of s)) (chains_of s) c no_chain)

list_at_length : (s : Links) (c : ℕ) → length (list_at s c) ≡ (get_or (chains_of s) c no_chain).count
list_at_length s c =
    let x : Chain = get_or (chains_of s) c no_chain in
    ap length (list_at_is s c) ∙ links_at_length (links_of s) (nodes (nexts_of s) x) ∙ walk_length (nexts_of s) x.first x.count

pub any_inside : (s : Links) (c : ℕ) → Inside (nexts_of s) (get_or (chains_of s) c no_chain)
any_inside s c = go (cases_lt c (length (chains_of s)))
  where
    go : (c < length (chains_of s)) ⊎ (length (chains_of s) ≤ c) → Inside (nexts_of s) (get_or (chains_of s) c no_chain)
    go (inl h) = chain_inside (nexts_of s) (s.free ∷ chains_of s) (suc c) no_chain s.once (omega (arith, h))
    go (inr h) = subst (Inside (nexts_of s)) (sym (get_or_past (chains_of s) c no_chain h)) (λ i k. absurd (omega arith))

pub len_is : (s : Links) (c : ℕ) → option_map (λ (x : Chain). x.count) (slice_get (chains_of s) c) ≡ option_map length (slice_get (lists s) c)
unfolding lists
len_is s c =
    go (slice_get (chains_of s) c)
    ∙ sym (ap (option_map length) (slice_get-map (links_at (links_of s)) (table (nexts_of s) (chains_of s)) c ∙ ap (option_map (links_at (links_of s))) (slice_get-map (nodes (nexts_of s)) (chains_of s) c)))
  where
    go : (o : Option Chain) → option_map (λ (x : Chain). x.count) o ≡ option_map length (option_map (links_at (links_of s)) (option_map (nodes (nexts_of s)) o))
    go None = refl
    go (Some x) = ap {B = Option ℕ} Some (sym (links_at_length (links_of s) (nodes (nexts_of s) x) ∙ walk_length (nexts_of s) x.first x.count))

-- no chain of that number has more than i cells
pub get_short : (s : Links) (c i : ℕ) → ((x : Chain) → slice_get (chains_of s) c ≡ Some x → x.count ≤ i) → None ≡ slice_get (list_at s c) i
get_short s c i short = sym (slice_get_past (list_at s c) i (go (cases_lt c (length (chains_of s)))))
  where
    go : (c < length (chains_of s)) ⊎ (length (chains_of s) ≤ c) → length (list_at s c) ≤ i
    go (inl h) = omega (arith, list_at_length s c, short (get_or (chains_of s) c no_chain) (slice_get-get_or (chains_of s) c no_chain h))
    go (inr h) = omega (arith, list_at_length s c, ap (λ (x : Chain). x.count) (get_or_past (chains_of s) c no_chain h))

-- the cells in use are those that are not free
pub used_is : (s : Links) → used s + s.free.count ≡ vec_len s.nexts
unfolding lists
used_is s =
    let ns : List ℕ = nexts_of s in
    let ls : List Link = links_of s in
    let chs : List Chain = chains_of s in
    omega (
      arith,
      s.filled,
      cells_linked s,
      sum_of_map length (links_at ls) (table ns chs),
      sum_of_map (λ (ks : List ℕ). length (links_at ls ks)) (nodes ns) chs,
      sum_of_same (λ (ch : Chain). length (links_at ls (nodes ns ch))) (λ (ch : Chain). ch.count) chs (λ ch. links_at_length ls (nodes ns ch) ∙ walk_length ns ch.first ch.count),
    )

pub free_inside : (s : Links) → Inside (nexts_of s) s.free
free_inside s = chain_inside (nexts_of s) (s.free ∷ chains_of s) 0 s.free s.once (omega arith)

pub free_last : (s : Links) → 0 < s.free.count → s.free.last < vec_len s.nexts
free_last s h =
    let ns : List ℕ = nexts_of s in
    let f : Chain = s.free in
    omega (arith, cells_linked s, inside ns (f ∷ chains_of s) 0 f.last f s.once (omega arith) (last_in ns f.first f.count f.last h (s.ended 0 f (omega arith))))

-- what holds of the chain x of the list c
module _ (s : Links) (c : ℕ) (x : Chain) (at : At s c x) where
  pub list_is : list_at s c ≡ links_at (links_of s) (nodes (nexts_of s) x)
  list_is =
      list_at_is s c
      ∙ ap (λ (ch : Chain). links_at (links_of s) (nodes (nexts_of s) ch)) (sym (get_or_read (chains_of s) c x (omega (arith, at.within, s.chains.ok.0)) at.read no_chain))

  pub list_length : length (list_at s c) ≡ x.count
  list_length =
      ap length list_is ∙ links_at_length (links_of s) (nodes (nexts_of s) x) ∙ walk_length (nexts_of s) x.first x.count

  pub read_inside : Inside (nexts_of s) x
  read_inside =
      subst (Inside (nexts_of s)) (sym at.read) (chain_inside (nexts_of s) (s.free ∷ chains_of s) (suc c) x s.once (omega (arith, at.within, s.chains.ok.0)))

  pub read_ends : Ends (nexts_of s) x
  read_ends = subst (Ends (nexts_of s)) (sym at.read) (s.ended (suc c) x (omega (arith, at.within, s.chains.ok.0)))

  pub read_last : 0 < x.count → x.last < vec_len s.nexts
  read_last h =
      let ns : List ℕ = nexts_of s in
      let there : 1 ≤ occ x.last (nodes ns (get_or (chains_of s) c x)) = subst (λ (t : Chain). 1 ≤ occ x.last (nodes ns t)) at.read (last_in ns x.first x.count x.last h read_ends) in
      omega (arith, cells_linked s, inside ns (s.free ∷ chains_of s) (suc c) x.last x s.once (omega (arith, at.within, s.chains.ok.0)) there)

  -- its cells and the free ones are no more than there are
  pub counts_fit : s.free.count + x.count ≤ vec_len s.nexts
  counts_fit =
      omega (arith, s.filled, cells_linked s, ap (λ (t : Chain). t.count) at.read, part_le (λ (ch : Chain). ch.count) (chains_of s) c x (omega (arith, at.within, s.chains.ok.0)))

  -- k lies i steps past the first
  pub step_within : (i k : ℕ) → i < x.count → k ≡ hop (nexts_of s) x.first i → k < vec_len s.nexts
  step_within i k h e = omega (arith, e, read_inside i h, cells_linked s)

  -- the link v was read there
  pub get_some : (i k : ℕ) (v : Link) → i < x.count → k ≡ hop (nexts_of s) x.first i → v ≡ get_or (links_of s) k v → Some v ≡ slice_get (list_at s c) i
  get_some i k v h e r =
      let ns : List ℕ = nexts_of s in
      let ls : List Link = links_of s in
      let in_links : k < length ls = omega (arith, step_within i k h e, s.sized, s.links.ok.0) in
      let in_nodes : i < length (nodes ns x) = omega (arith, walk_length ns x.first x.count) in
      let value : get_or (list_at s c) i no_link ≡ v =
      ap (λ (l : List Link). get_or l i no_link) list_is
      ∙ get_or-map_within (λ m. get_or ls m no_link) (nodes ns x) i 0 no_link in_nodes
      ∙ ap (λ (m : ℕ). get_or ls m no_link) (get_or_walk ns x.first x.count i h ∙ sym e)
      ∙ get_or_default ls k no_link v in_links ∙ sym r in
      ap {B = Option Link} Some (sym value) ∙ sym (slice_get-get_or (list_at s c) i no_link (omega (arith, list_length)))

  -- the last cell lies as many steps past the first as there are links, less one
  pub last_is : 0 < x.count → hop (nexts_of s) x.first (x.count - 1) ≡ x.last
  last_is h =
      let ns : List ℕ = nexts_of s in
      let n : suc (x.count - 1) ≡ x.count = omega arith in
      sym (last_walk ns x.last x.first (x.count - 1)) ∙ ap (λ (m : ℕ). last_of x.last (nodes ns (record { first = x.first; last = x.last; count = m }))) n ∙ read_ends
