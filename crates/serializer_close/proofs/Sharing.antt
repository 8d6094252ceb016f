-- What sharing the innermost object leaves in its place, and when it can be shared. Used where an object is closed.
use Rattle.std.proofs.Common.{◌≡◌, ℕ, ◌<◌, Bool, true, false, cond, ◌&&◌, leb, List, [], ◌∷◌, length, is_some, Some, None, Option, sym, refl, ap, ◌∙◌, inl, inr, arith}
use Rattle.std.specs.Option.{option_map}
use Rattle.std.proofs.lemmas.Bool.{cases_eq, eq-eqb, ne_eqb, and_parts, and_from, false≢true}
use Rattle.link.specs.declared.ObjIdx.{ObjIdx}
use Rattle.model.specs.State.{State, Object, index, numbered}
use Rattle.model.specs.Closing.{same_links}
use Rattle.model.specs.Declining.{nothing_open}
use Rattle.model.specs.Reading.{real_of}
use Rattle.objects.specs.declared.extents.Outline.{Outline}
use Rattle.objects.specs.Contents.{Contents}
use Rattle.objects.specs.Change.{alike, first, behind, shares, outlined}
use Rattle.serializer_state.specs.Extents.{within, lying}
use Rattle.serializer_state.proofs.Lend.{lying_lend}

pub one_open : (s : State) → nothing_open s ≡ false → is_some (first s.opened) ≡ true
one_open s = go s.opened
  where
    go : (os : List Object) → elim os [ [] ↦ true | ◌∷◌ o os' ↦ false ] ≡ false → is_some (first os) ≡ true
    go [] e = absurd (false≢true (sym e))
    go (o ∷ os) e = refl

-- with an object open, the links are compared with its
pub alike_open : (p : Object) (s : State) → nothing_open s ≡ false → alike (Some p) (first s.opened) ≡ same_links p.real (real_of (first s.opened))
alike_open p s = go s.opened
  where
    go : (os : List Object) → elim os [ [] ↦ true | ◌∷◌ o os' ↦ false ] ≡ false → alike (Some p) (first os) ≡ same_links p.real (real_of (first os))
    go [] e = absurd (false≢true (sym e))
    go (o ∷ os) e = refl

pub numbered_there : (ps : List Object) (k : ℕ) → k < length ps → is_some (numbered ps k) ≡ true
numbered_there [] k l = absurd (omega arith)
numbered_there (p ∷ ps) k l = elim (cases_eq (length ps) k) [
  | inl q ↦ ap (λ (t : Bool). is_some {T = Object} (elim t [ true ↦ Some p | false ↦ numbered ps k ])) (eq-eqb (length ps) k q)
  | inr q ↦ ap (λ (t : Bool). is_some {T = Object} (elim t [ true ↦ Some p | false ↦ numbered ps k ])) (ne_eqb (length ps) k q) ∙ numbered_there ps k (omega arith)
]

within_behind : (n : ℕ) (os : List Object) → within n os ≡ true → within n (behind os) ≡ true
within_behind n [] e = refl
within_behind n (o ∷ os) e = (and_parts (leb o.tail n) (within n os) e).1

-- the open and packed objects still lie within the memory
pub shares_fit : (n k : ℕ) (c : Contents) → within n c.opened ≡ true → lying n c.packed ≡ true → (within n (shares k c).opened ≡ true) × (lying n (shares k c).packed ≡ true)
shares_fit n k c a b = (within_behind n c.opened a, lying_lend n _ k c.packed ∙ b)

-- with an object open and the packed object there, the call shares
pub shared : (c d : Contents) (k : ℕ) (b : Bool) → is_some (first c.opened) ≡ true → k < length c.packed → b ≡ (is_some (first c.opened) && is_some (numbered c.packed k)) → d ≡ cond b (shares k c) c → d ≡ shares k c
shared c d k b o l e q = q ∙ ap (λ (t : Bool). cond t (shares k c) c) (e ∙ and_from _ _ o (numbered_there c.packed k l))

-- a number found is the number answered
pub found : (o : Option ℕ) (x : ObjIdx) → Some x ≡ option_map index o → o ≡ Some x.0
found None x e = absurd (let z : ◌≡◌ {A = ℕ} 0 1 = cc in omega arith)
found (Some k) x e = let q : x ≡ index k = cc in ap {B = Option ℕ} Some (sym (ap (λ (y : ObjIdx). y.0) q))

pub open_since : (s : State) (o : Outline) → Some o ≡ option_map outlined (first s.opened) → nothing_open s ≡ false
open_since s o = go s.opened
  where
    go : (os : List Object) → Some o ≡ option_map outlined (first os) → elim os [ [] ↦ true | ◌∷◌ p os' ↦ false ] ≡ false
    go [] q = absurd (let z : ◌≡◌ {A = ℕ} 0 1 = cc in omega arith)
    go (p ∷ os) q = refl
