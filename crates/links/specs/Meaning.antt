-- What a `Links` stands for: its lists of links, and how many cells it has.
use Rattle.std.specs.Prelude.{◌≡◌, ℕ, ◌<◌, Bool, false, List, [], map, length, vec_items, vec_len, nat_lt, slice_index_or}
use Rattle.link.specs.declared.Link.{Link}
use Rattle.link.specs.declared.LinkWidth.TheVariants.{Zero}
use Rattle.link.specs.declared.OffsetWhence.TheVariants.{Head}
use Rattle.links.specs.declared.chains.Chain.{Chain}
use Rattle.links.specs.declared.state.Links.{Links}
use Rattle.links.specs.Walk.{table, sum_of}

-- what is read past the last cell
abbrev pub no_link : Link
no_link = record { width = Zero; is_signed = false; whence = Head; bias = 0; position = 0; objidx = record { 0 = 0 } }

-- the links that some cells hold
abbrev pub links_at : List Link → List ℕ → List Link
links_at ls ks = map (λ k. slice_index_or ls k no_link) ks

-- the links that each chain goes through
abbrev pub meaning : List Link → List ℕ → List Chain → List (List Link)
meaning ls ns chs = map (links_at ls) (table ns chs)

-- the lists of links, in the order of their numbers
unfoldable pub lists : Links → List (List Link)
lists s = meaning (vec_items s.links) (vec_items s.nexts) (vec_items s.chains)

-- how many cells there are
unfoldable pub cells : Links → ℕ
cells s = vec_len s.nexts

-- how many cells hold a link: as many as there are links in all lists
abbrev pub used : Links → ℕ
used s = sum_of length (lists s)

-- whether there is a list of that number
abbrev pub is_list : Links → ℕ → Bool
is_list s i = nat_lt i (length (lists s))

-- the links of a list: none where there is no such list
abbrev pub list_at : Links → ℕ → List Link
list_at s i = slice_index_or (lists s) i []

-- two lists with the same links in the same order
abbrev pub Same : Links → ℕ → ℕ → Type 0
Same s a b = (a < length (lists s)) × (b < length (lists s)) × (list_at s a ≡ list_at s b)
