-- Where each open or packed object, and each of its links, came from over one call.
use Rattle.std.proofs.Common.{◌≡◌, ℕ, suc, ◌≤◌, eqb, List, [], ◌∷◌, ◌++◌, length, Some, sym, refl, ap, ◌∙◌, subst, inl, inr, arith}
use Rattle.link.specs.declared.Link.{Link}
use Rattle.register.specs.Pairs.{Pairs}
use Rattle.std.proofs.lemmas.Bool.{eqb-true, eqb-false, cases_Bool}
use Rattle.model.specs.State.{State, Object, Pool, numbered}
use Rattle.model.specs.Closing.{moved}
use Rattle.model.specs.Rewinding.{cut_first}
use Rattle.model.specs.Reading.{nth}
use Rattle.model.specs.Run.{Call, Answer}
use Rattle.model.specs.Moments.{count}
use Rattle.model.proofs.Number.{some_inj, numbered_is, numbered_at, numbered_there, numbered_below, numbered_first, nth_take}
use Rattle.model.proofs.Last.{Persist, relent_length, relent_still, discard_fewer, discard_persist}
use Rattle.model.proofs.Effect.{Relent, Adds, Effect, opened_in, with_link, with_virtual}
use Rattle.model.proofs.Effect.Effect.{same, opens, links, orders, lends, closes, packs, packs_entered, shares, drops, drops_back, cuts, cuts_back, enters, strikes}
use Rattle.model.proofs.Nest.{cut_level}

-- the open object at a level: one that was there with no link that it had not, one without links, or the innermost with a link that the call added
pub data Kind (c : Call) (a : Answer) (s : State) (os' : List Object) (j : ℕ) (o' : Object) : Type 0 where
  was : (o : Object) → numbered s.opened j ≡ Some o → ((i : ℕ) (l : Link) → nth o'.real i ≡ Some l → nth o.real i ≡ Some l) → Kind c a s os' j o'
  fresh : o'.real ≡ [] → Kind c a s os' j o'
  linked : (o : Object) (os : List Object) (l : Link) → s.opened ≡ o ∷ os → os' ≡ o' ∷ os → j ≡ length os → o'.real ≡ o.real ++ (l ∷ []) → Adds c a o l → Kind c a s os' j o'

-- the packed object of a number: one that was, or the innermost open one, closed
pub data From (s : State) (os' ps' : List Object) (k : ℕ) (p' : Object) : Type 0 where
  stood : (p : Object) → numbered s.packed k ≡ Some p → p'.real ≡ p.real → From s os' ps' k p'
  closed : (o : Object) (os : List Object) → k ≡ count s → s.opened ≡ o ∷ os → os' ≡ os → p'.real ≡ o.real → length ps' ≡ suc k → From s os' ps' k p'

-- ---- open objects

here : (s : State) (o : Object) (os : List Object) → s.opened ≡ o ∷ os → numbered s.opened (length os) ≡ Some o
here s o os is = ap (λ (x : List Object). numbered x (length os)) is ∙ numbered_at o os (length os) refl

module _ {c : Call} {a : Answer} (s : State) where
  stays : (os : List Object) → s.opened ≡ os → (j : ℕ) (o : Object) → numbered os j ≡ Some o → Kind c a s os j o
  stays os q j o e = was o (ap (λ (x : List Object). numbered x j) q ∙ e) (λ i l h. h)

  opening_kind : (j : ℕ) (o : Object) → numbered (opened_in s ∷ s.opened) j ≡ Some o → Kind c a s (opened_in s ∷ s.opened) j o
  opening_kind j o e = elim (cases_Bool (eqb (length s.opened) j)) [
    | inl u ↦ fresh (sym (ap (λ (x : Object). x.real) (numbered_first (opened_in s) o s.opened j (eqb-true (length s.opened) j u) e)))
    | inr u ↦ was o (sym (numbered_there (opened_in s) s.opened j (eqb-false (length s.opened) j u)) ∙ e) (λ i l h. h)
  ]

  -- the innermost changed
  first_kind : (o o₁ : Object) (os : List Object) → s.opened ≡ o ∷ os → Kind c a s (o₁ ∷ os) (length os) o₁ → (j : ℕ) (p : Object) → numbered (o₁ ∷ os) j ≡ Some p → Kind c a s (o₁ ∷ os) j p
  first_kind o o₁ os is k j p e = elim (cases_Bool (eqb (length os) j)) [
    | inl u ↦ let g = eqb-true (length os) j u in
        subst (λ (x : ℕ). Kind c a s (o₁ ∷ os) x p) g (subst (λ (x : Object). Kind c a s (o₁ ∷ os) (length os) x) (numbered_first o₁ p os j g e) k)
    | inr u ↦ let ne = eqb-false (length os) j u in was p (ap (λ (x : List Object). numbered x j) is ∙ (numbered_there o os j ne ∙ (sym (numbered_there o₁ os j ne) ∙ e))) (λ i l h. h)
  ]

  closing_kind : (o : Object) (os : List Object) → s.opened ≡ o ∷ os → (j : ℕ) (p : Object) → numbered os j ≡ Some p → Kind c a s os j p
  closing_kind o os is j p e = let l = numbered_below os j p e in was p (ap (λ (x : List Object). numbered x j) is ∙ (numbered_there o os j (λ z. omega arith) ∙ e)) (λ i k h. h)

  cutting_kind : (x y : ℕ) (j : ℕ) (p : Object) → numbered (cut_first x y s.opened) j ≡ Some p → Kind c a s (cut_first x y s.opened) j p
  cutting_kind x y j p e =
      let v = cut_level x y s.opened j p e in
      was v.0 v.1 (λ i l h. elim v.4 [
        | inl u ↦ nth_take x v.0.real i l (subst (λ (z : List Link). nth z i ≡ Some l) u.1 h)
        | inr u ↦ subst (λ (z : List Link). nth z i ≡ Some l) u h
      ])

pub effect_opens : {c : Call} {s : State} {r : Pairs} {m : List ℕ} {h : ℕ} {a : Answer} {os ps : List Object} {p : Pool} {r' : Pairs} → Effect c s r m h a os ps p r' →
    (j : ℕ) (o : Object) → numbered os j ≡ Some o → Kind c a s os j o
effect_opens {s = s} (same l) = stays s s.opened refl
effect_opens {s = s} (opens _ u e) = opening_kind s
effect_opens {s = s} (links o os l n is e b) = first_kind s o (with_link o l) os is (linked o os l is refl refl refl b)
effect_opens {s = s} (orders o os l n is e) = first_kind s o (with_virtual o l) os is (was o (here s o os is) (λ i l h. h))
effect_opens {s = s} (lends ps n e t) = stays s s.opened refl
effect_opens {s = s} (closes o os is e) = closing_kind s o os is
effect_opens {s = s} (packs o os is e) = closing_kind s o os is
effect_opens {s = s} (packs_entered o os is e _) = closing_kind s o os is
effect_opens {s = s} (shares o os ps is e t) = closing_kind s o os is
effect_opens {s = s} (drops o os is e) = closing_kind s o os is
effect_opens {s = s} (drops_back o os is e w) = closing_kind s o os is
effect_opens {s = s} (cuts v x y n) = cutting_kind s x y
effect_opens {s = s} (cuts_back v x y n t w) = cutting_kind s x y
effect_opens {s = s} (enters g k e f) = stays s s.opened refl
effect_opens {s = s} (strikes g k e f) = stays s s.opened refl

-- ---- packed objects

module _ (s : State) where
  stay : (os : List Object) (k : ℕ) (p : Object) → numbered s.packed k ≡ Some p → From s os s.packed k p
  stay os k p e = stood p e refl

  stood_from : (os ps : List Object) → Persist s.packed ps → length ps ≤ count s → (k : ℕ) (p : Object) → numbered ps k ≡ Some p → From s os ps k p
  stood_from os ps per l k p e =
      let b = numbered_below ps k p e in
      let q = numbered_is s.packed k (omega arith) in
      let t = per k q.0 q.1 b in
      stood q.0 q.1 (ap (λ (x : Object). x.real) (some_inj p t.object (sym e ∙ t.named)) ∙ t.real)

  new_from : (o : Object) (os : List Object) → s.opened ≡ o ∷ os → (k : ℕ) (p : Object) → numbered (moved o s ∷ s.packed) k ≡ Some p → From s os (moved o s ∷ s.packed) k p
  new_from o os is k p e = elim (cases_Bool (eqb (count s) k)) [
    | inl u ↦ let g = eqb-true (count s) k u in closed o os (sym g) is refl (sym (ap (λ (x : Object). x.real) (numbered_first (moved o s) p s.packed k g e))) (ap suc g)
    | inr u ↦ stood p (sym (numbered_there (moved o s) s.packed k (eqb-false (count s) k u)) ∙ e) refl
  ]

  relent_from : (os ps : List Object) → Relent s.packed ps → (k : ℕ) (p : Object) → numbered ps k ≡ Some p → From s os ps k p
  relent_from os ps t = stood_from os ps (λ k p e l. relent_still s.packed ps t k p e) (rw (relent_length s.packed ps t) (omega arith))

pub effect_packs : {c : Call} {s : State} {r : Pairs} {m : List ℕ} {h : ℕ} {a : Answer} {os ps : List Object} {p : Pool} {r' : Pairs} → Effect c s r m h a os ps p r' →
    (k : ℕ) (q : Object) → numbered ps k ≡ Some q → From s os ps k q
effect_packs {s = s} (same l) = stay s s.opened
effect_packs {s = s} (opens _ u e) = stay s (opened_in s ∷ s.opened)
effect_packs {s = s} (links o os l n is e b) = stay s (with_link o l ∷ os)
effect_packs {s = s} (orders o os l n is e) = stay s (with_virtual o l ∷ os)
effect_packs {s = s} (lends ps n e t) = relent_from s s.opened ps t
effect_packs {s = s} (closes o os is e) = stay s os
effect_packs {s = s} (packs o os is e) = new_from s o os is
effect_packs {s = s} (packs_entered o os is e _) = new_from s o os is
effect_packs {s = s} (shares o os ps is e t) = relent_from s os ps t
effect_packs {s = s} (drops o os is e) = stay s os
effect_packs {s = s} {r = r} (drops_back o os is e w) = stood_from s os _ (discard_persist s.memory o.tail s.packed s.pool r) (discard_fewer s.memory o.tail s.packed s.pool r)
effect_packs {s = s} (cuts v x y n) = stay s (cut_first x y s.opened)
effect_packs {s = s} {r = r} (cuts_back v x y n t w) = stood_from s (cut_first x y s.opened) _ (discard_persist s.memory t s.packed _ r) (discard_fewer s.memory t s.packed _ r)
effect_packs {s = s} (enters g k e f) = stay s s.opened
effect_packs {s = s} (strikes g k e f) = stay s s.opened
