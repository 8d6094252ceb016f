-- Children ordered one after another.
use Rattle.std.proofs.Common.{◌≡◌, ℕ, zero, suc, ◌+◌, ◌≤◌, Bool, true, false, cond, List, [], ◌∷◌, length, drop, Some, None, Option, Ok, Err, sym, refl, ap, ◌∙◌, arith}
use native.Mathlib.Numerals.{unary_clauses}
use Rattle.std.specs.Option.{option_map}
use Rattle.cursor.specs.declared.flags.SerializeErrorFlags.{SerializeErrorFlags}
use Rattle.link.specs.declared.Link.{Link}
use Rattle.link.specs.declared.ObjIdx.{ObjIdx}
use Rattle.model.specs.State.{State}
use Rattle.model.specs.Linking.{repacking, repack_last, open_links}
use Rattle.model.specs.Reading.{nth}
use Rattle.serializer_state.specs.Declines.{changeable, found}
use Rattle.serializer_state.specs.Extents.{within, lying}
use Rattle.serializer_state.proofs.Lend.{lying_lend}
use Rattle.objects.specs.declared.extents.Outline.{Outline}
use Rattle.objects.specs.Change.{first, outlined, ordered}
use Rattle.objects.specs.Contents.{Contents}
use Rattle.serializer_link.specs.Order.{order}
use Rattle.serializer_link.proofs.Joined.{Answered}

-- a virtual link moves no object
pub kept_inside : (n : ℕ) (r : Bool) (k : ObjIdx) (j : ℕ) (c : Contents) → within n (cond r (ordered k j c) c).opened ≡ within n c.opened
kept_inside n true k j c = refl
kept_inside n false k j c = refl

pub kept_lies : (n : ℕ) (r : Bool) (k : ObjIdx) (j : ℕ) (c : Contents) → lying n (cond r (ordered k j c) c).packed ≡ lying n c.packed
kept_lies n true k j c = lying_lend n _ j c.packed
kept_lies n false k j c = refl

-- ---- one child

module _ (k : ObjIdx) (l : Link) (s : State) where
  -- the links of the open object stay
  pub order_links : open_links (order k l s).0 ≡ open_links s
  order_links = grind arith

  pub order_passed : (ls : List Link) → (order k l s).1 ≡ Ok tt → repacking k (◌∷◌ l ls) s ≡ repacking k ls (order k l s).0
  order_passed ls e = grind arith

  pub order_declined : (ls : List Link) (f : SerializeErrorFlags) → (order k l s).1 ≡ Err f → repacking k (◌∷◌ l ls) s ≡ ((order k l s).0, Err f)
  order_declined ls f e = grind arith

-- ---- the i-th link, and what is left after it

pub nth_drop : (ls : List Link) (i : ℕ) (l : Link) → nth ls i ≡ Some l → drop i ls ≡ ◌∷◌ l (drop (i + 1) ls)
nth_drop [] i l e = cc
nth_drop (◌∷◌ x xs) zero l e = cc
nth_drop (◌∷◌ x xs) (suc i) l e = simp unary_clauses (simp unary_clauses at (nth_drop xs i l e))

pub nth_none : (ls : List Link) (i : ℕ) → nth ls i ≡ None → length ls ≤ i
nth_none [] i e = omega arith
nth_none (◌∷◌ x xs) zero e = cc
nth_none (◌∷◌ x xs) (suc i) e = let h = nth_none xs i e in omega arith

-- ---- where the walk begins

module _ (k : ObjIdx) (s : State) (o : Option Outline) (read : o ≡ option_map outlined (first s.opened)) (object : Outline) (some : (found o s).1 ≡ Ok object) (t : State) (after : t ≡ (found o s).0) where
  pub child_count : object.num_real_links ≡ length (open_links t)
  child_count = grind arith

  pub repack_begun : changeable s ≡ Ok tt → repack_last k s ≡ repacking k (open_links t) t
  repack_begun live = grind arith

-- ---- one turn: what was left before it gave R

module _ (k : ObjIdx) (ls : List Link) (i : ℕ) (l : Link) (s : State) (R : Answered) (inv : repacking k (drop i ls) s ≡ R) (here : nth ls i ≡ Some l) where
  from_here : repacking k (◌∷◌ l (drop (i + 1) ls)) s ≡ R
  from_here = ap (λ (xs : List Link). repacking k xs s) (sym (nth_drop ls i l here)) ∙ inv

  pub turn_passed : (order k l s).1 ≡ Ok tt → repacking k (drop (i + 1) ls) (order k l s).0 ≡ R
  turn_passed h = sym (order_passed k l s (drop (i + 1) ls) h) ∙ from_here

  pub turn_declined : (f : SerializeErrorFlags) → (order k l s).1 ≡ Err f → R ≡ ((order k l s).0, Err f)
  turn_declined f h = sym from_here ∙ order_declined k l s (drop (i + 1) ls) f h
