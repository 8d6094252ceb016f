-- A step on the way through a list: what it gives, and what is left.
use Rattle.std.proofs.Common.{◌≡◌, ℕ, suc, ◌<◌, List, [], ◌∷◌, length, get_or, vec_len, sym, ap, ◌∙◌, subst, arith}
use Rattle.std.proofs.lemmas.List.{get_or_default, get_or_read_under}
use Rattle.link.specs.declared.Link.{Link}
use Rattle.links.specs.declared.state.Links.{Links}
use Rattle.links.specs.Walk.{walk, hop}
use Rattle.links.specs.Meaning.{links_at, no_link}
use Rattle.links.proofs.Reading.{links_of, nexts_of}

pub none_left : (s : Links) (cell left : ℕ) → left ≡ 0 → links_at (links_of s) (walk (nexts_of s) cell left) ≡ []
none_left s cell left e = ap (λ (n : ℕ). links_at (links_of s) (walk (nexts_of s) cell n)) e

-- v is the link that was read in the cell, n the cell after it, and so many more are left
module _ (s : Links) (cell left more n : ℕ) (v : Link) (some : left ≡ suc more) (inside : (i : ℕ) → i < left → hop (nexts_of s) cell i < vec_len s.nexts) (read : v ≡ get_or (links_of s) cell v)
    (after : n ≡ get_or (nexts_of s) cell n) where
  next_is : n ≡ get_or (nexts_of s) cell 0
  next_is = get_or_read_under (nexts_of s) cell (vec_len s.nexts) n 0 after (inside 0 (omega arith)) s.nexts.ok.0

  pub step_is : links_at (links_of s) (walk (nexts_of s) cell left) ≡ v ∷ links_at (links_of s) (walk (nexts_of s) n more)
  step_is =
      let ls : List Link = links_of s in
      let ns : List ℕ = nexts_of s in
      let there : cell < length ls = omega (arith, inside 0 (omega arith), s.sized, s.links.ok.0) in
      ap (λ (m : ℕ). links_at ls (walk ns cell m)) some
      ∙ ap (λ (t : Link). t ∷ links_at ls (walk ns (get_or ns cell 0) more)) (get_or_default ls cell no_link v there ∙ sym read)
      ∙ ap (λ (m : ℕ). v ∷ links_at ls (walk ns m more)) (sym next_is)

  -- the cells after it lie inside too
  pub step_inside : (i : ℕ) → i < more → hop (nexts_of s) n i < vec_len s.nexts
  step_inside i hi = subst (λ (m : ℕ). hop (nexts_of s) m i < vec_len s.nexts) (sym next_is) (inside (suc i) (omega arith))
