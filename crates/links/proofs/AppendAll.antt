-- A whole list put behind another, which leaves it empty.
use Rattle.std.proofs.Common.{◌≡◌, ℕ, suc, ◌+◌, ◌<◌, ◌≤◌, true, false, not, ◌&&◌, eqb, List, [], ◌∷◌, ◌++◌, map, length, get_or, drop, set, vec_len, sym, refl, ap, ◌∙◌, arith}
use Rattle.std.proofs.lemmas.List.{map-set, map-append, get_or_read}
use Rattle.std.proofs.lemmas.Bool.{eq-eqb, ne_eqb, not_from_true, not_from_false, and_left, and_right, and_from}
use Rattle.link.specs.declared.Link.{Link}
use Rattle.links.specs.declared.chains.Chain.{Chain}
use Rattle.links.specs.declared.state.Links.{Links}
use Rattle.links.specs.Walk.{nodes, table, cat, linked, no_chain}
use Rattle.links.specs.Meaning.{lists, list_at, is_list, links_at, meaning, no_link}
use Rattle.links.proofs.Place.{two_le}
use Rattle.links.proofs.Wiring.{Wired, same_wired}
use Rattle.links.proofs.Join.{join_table, join_wired}
use Rattle.links.proofs.Reading.{links_of, nexts_of, chains_of, At, wired, no_list, a_list, list_is}

pub not_first : (s : Links) (a b : ℕ) → vec_len s.chains ≤ a → false ≡ (is_list s a && (is_list s b && not (eqb a b)))
not_first s a b h = sym (and_left (is_list s a) (is_list s b && not (eqb a b)) (sym (no_list s a h)))

pub not_second : (s : Links) (a b : ℕ) → vec_len s.chains ≤ b → false ≡ (is_list s a && (is_list s b && not (eqb a b)))
not_second s a b h = sym (and_right (is_list s a) (is_list s b && not (eqb a b)) (and_left (is_list s b) (not (eqb a b)) (sym (no_list s b h))))

pub not_two : (s : Links) (a b : ℕ) → a ≡ b → false ≡ (is_list s a && (is_list s b && not (eqb a b)))
not_two s a b e =
    sym (and_right (is_list s a) (is_list s b && not (eqb a b)) (and_right (is_list s b) (not (eqb a b)) (not_from_true (eqb a b) (eq-eqb a b e))))

pub two : (s : Links) (a b : ℕ) → a < vec_len s.chains → b < vec_len s.chains → (a ≡ b → ⊥) → true ≡ (is_list s a && (is_list s b && not (eqb a b)))
two s a b ha hb ne =
    sym (and_from (is_list s a) (is_list s b && not (eqb a b)) (sym (a_list s a ha)) (and_from (is_list s b) (not (eqb a b)) (sym (a_list s b hb)) (not_from_false (eqb a b) (ne_eqb a b ne))))

-- the chain x of the list a becomes z, with the chain y of the list b behind it; the cells are linked by ms
module _ (s : Links) (a b : ℕ) (x y z : Chain) (ms : List ℕ) (at_a : At s a x) (at_b : At s b y) (ne : a ≡ b → ⊥) (is_z : z ≡ cat x y) (is_ms : ms ≡ linked (nexts_of s) x y) where
  read_b : y ≡ get_or (chains_of s) b x
  read_b = get_or_read (chains_of s) b y (omega (arith, at_b.within, s.chains.ok.0)) at_b.read x

  ha : a < length (chains_of s)
  ha = omega (arith, at_a.within, s.chains.ok.0)

  hb : b < length (chains_of s)
  hb = omega (arith, at_b.within, s.chains.ok.0)

  pub all_fits : x.count + y.count ≤ vec_len s.nexts
  all_fits =
      omega (arith, s.filled, s.nexts.ok.0, ap (λ (t : Chain). t.count) at_a.read, ap (λ (t : Chain). t.count) read_b, two_le (λ (ch : Chain). ch.count) (chains_of s) a b x ha hb ne)

  linked_is : linked (nexts_of s) (get_or (chains_of s) a x) (get_or (chains_of s) b x) ≡ ms
  linked_is =
      ap (λ (t : Chain). linked (nexts_of s) t (get_or (chains_of s) b x)) (sym at_a.read) ∙ ap (linked (nexts_of s) x) (sym read_b) ∙ sym is_ms

  cat_is : cat (get_or (chains_of s) a x) (get_or (chains_of s) b x) ≡ z
  cat_is = ap (λ (t : Chain). cat t (get_or (chains_of s) b x)) (sym at_a.read) ∙ ap (cat x) (sym read_b) ∙ sym is_z

  pub all_wired : Wired ms (s.free ∷ set (set (chains_of s) a z) b no_chain)
  all_wired =
      same_wired _ _ _ _ linked_is (ap (λ (t : Chain). s.free ∷ set (set (chains_of s) a t) b no_chain) cat_is)
      (join_wired (nexts_of s) (s.free ∷ chains_of s) (suc a) (suc b) x no_chain (wired s) (omega (arith, ha)) (omega (arith, hb)) (omega arith) refl)

  all_table : table ms (set (set (chains_of s) a z) b no_chain) ≡ set (set (table (nexts_of s) (chains_of s)) a (nodes (nexts_of s) x ++ nodes (nexts_of s) y)) b []
  all_table =
      let ns : List ℕ = nexts_of s in
      let chs : List Chain = chains_of s in
      let t : List (List ℕ) = table ns chs in
      let e = join_table ns (s.free ∷ chs) (suc a) (suc b) x no_chain (wired s) (omega (arith, ha)) (omega (arith, hb)) (omega arith) refl in
      let e' : table (linked ns (get_or chs a x) (get_or chs b x)) (set (set chs a (cat (get_or chs a x) (get_or chs b x))) b no_chain) ≡ set (set t a (nodes ns (get_or chs a x) ++ nodes ns (get_or chs b x))) b [] = ap (drop 1) e in
      ap (λ (m : List ℕ). table m (set (set chs a z) b no_chain)) (sym linked_is)
      ∙ ap (λ (u : Chain). table (linked ns (get_or chs a x) (get_or chs b x)) (set (set chs a u) b no_chain)) (sym cat_is) ∙ e'
      ∙ ap (λ (u : Chain). set (set t a (nodes ns u ++ nodes ns (get_or chs b x))) b []) (sym at_a.read)
      ∙ ap (λ (u : Chain). set (set t a (nodes ns x ++ nodes ns u)) b []) (sym read_b)

  pub all_lists : meaning (links_of s) ms (set (set (chains_of s) a z) b no_chain) ≡ set (set (lists s) a (list_at s a ++ list_at s b)) b []
  unfolding lists
  all_lists =
      let ns : List ℕ = nexts_of s in
      let ls : List Link = links_of s in
      let t : List (List ℕ) = table ns (chains_of s) in
      let w : List ℕ = nodes ns x ++ nodes ns y in
      let both : links_at ls w ≡ list_at s a ++ list_at s b =
      map-append (λ k. get_or ls k no_link) (nodes ns x) (nodes ns y) ∙ ap (λ (u : List Link). u ++ links_at ls (nodes ns y)) (sym (list_is s a x at_a))
      ∙ ap (λ (u : List Link). list_at s a ++ u) (sym (list_is s b y at_b)) in
      ap (map (links_at ls)) all_table ∙ map-set (links_at ls) (set t a w) b [] ∙ ap (λ (u : List (List Link)). set u b []) (map-set (links_at ls) t a w) ∙ ap (λ (u : List Link). set (set (lists s) a u) b []) both
