-- What a call that reverts nothing does to open and packed objects: levels stay as they were recorded, and only a discarded object takes packed ones with it.
use Rattle.std.proofs.Common.{◌≡◌, ℕ, ◌<◌, ◌≤◌, eqb, ltb, ◌⊎◌, List, [], ◌∷◌, length, Some, sym, refl, ap, ◌∙◌, subst, inl, inr, arith, length-append}
use Rattle.register.specs.Pairs.{Pairs, struck}
use Rattle.std.proofs.lemmas.Bool.{eqb-true, eqb-false, ltb-true, cases_Bool, cases_lt}
use Rattle.model.specs.State.{State, Object, Pool, numbered, slot_back, links_of}
use Rattle.model.specs.Closing.{object_hash}
use Rattle.model.specs.Rewinding.{Discarded, discard}
use Rattle.model.specs.Run.{Call, Answer}
use Rattle.model.specs.Moments.{depth, count, role}
use Rattle.model.proofs.Split.{by_test}
use Rattle.model.proofs.Number.{numbered_here, numbered_at, numbered_there, numbered_below, numbered_first}
use Rattle.model.proofs.Last.{Persist, effect_persist, relent_length}
use Rattle.model.proofs.Effect.{Turns, Effect, opened_in, with_link, with_virtual}
use Rattle.model.proofs.Effect.Effect.{same, opens, links, orders, lends, closes, packs, packs_entered, shares, drops, drops_back, cuts, cuts_back, enters, strikes}

-- ---- levels

-- an open object of a level: as it was recorded, with no fewer links
pub record Level (o o' : Object) : Type 0 where
  pub head : o'.head ≡ o.head
  pub tail : o'.tail ≡ o.tail
  pub links : length o.real ≤ length o'.real

level_same : (o : Object) → Level o o
level_same o = record { head = refl; tail = refl; links = omega arith }

-- each open object after was open before, or is the one just opened at head h and tail t
abbrev pub Grown : ℕ → ℕ → List Object → List Object → Type 0
Grown h t os os' = (j : ℕ) (o' : Object) → numbered os' j ≡ Some o' → ((o : Object) × (numbered os j ≡ Some o) × Level o o') ⊎ ((j ≡ length os) × (o'.head ≡ h) × (o'.tail ≡ t))

module _ (h t : ℕ) where
  grown_same : (os : List Object) → Grown h t os os
  grown_same os j o e = inl (o, e, level_same o)

  grown_close : (o : Object) (os : List Object) → Grown h t (o ∷ os) os
  grown_close o os j p e = let l = numbered_below os j p e in inl (p, numbered_there o os j (λ z. omega arith) ∙ e, level_same p)

  grown_open : (o : Object) (os : List Object) → o.head ≡ h → o.tail ≡ t → Grown h t os (o ∷ os)
  grown_open o os x y j p e = elim (cases_Bool (eqb (length os) j)) [
    | inl u ↦ let g = eqb-true (length os) j u in let v = numbered_first o p os j g e in inr (sym g, sym (ap (λ (z : Object). z.head) v) ∙ x, sym (ap (λ (z : Object). z.tail) v) ∙ y)
    | inr u ↦ inl (p, sym (numbered_there o os j (eqb-false (length os) j u)) ∙ e, level_same p)
  ]

  -- the innermost replaced
  grown_first : (o o' : Object) (os : List Object) → Level o o' → Grown h t (o ∷ os) (o' ∷ os)
  grown_first o o' os l j p e = elim (cases_Bool (eqb (length os) j)) [
    | inl u ↦ let g = eqb-true (length os) j u in inl (o, numbered_at o os j g, subst (Level o) (numbered_first o' p os j g e) l)
    | inr u ↦ let ne = eqb-false (length os) j u in inl (p, numbered_there o os j ne ∙ (sym (numbered_there o' os j ne) ∙ e), level_same p)
  ]

-- ---- what stays packed

pub discard_floor : (m : List ℕ) (t : ℕ) (ps : List Object) (p : Pool) (r : Pairs) (f : ℕ) → f ≤ length ps → ((k : ℕ) (q : Object) → k < f → numbered ps k ≡ Some q → t ≤ q.head) → f ≤ length (discard m t ps p r).left
discard_floor m t [] p r f l h = l
discard_floor m t (o ∷ os) p r f l h = by_test (ltb o.head t) _ _ (λ (x : Discarded). f ≤ length x.left)
    (λ e. let g : f ≤ length os = elim (cases_lt (length os) f)
    [ inl u ↦ let z : t ≤ o.head = h (length os) o u (numbered_here o os) in absurd (let y = ltb-true o.head t e in omega arith) | inr u ↦ u ] in
    discard_floor m t os (slot_back p o.slot (links_of o)) (struck r (object_hash m o) (length os)) f g
    (λ k q u n. h k q u (numbered_there o os k (λ z. omega arith) ∙ n)))
    (λ e. l)

-- the first f packed objects stay, if none of them starts below the tail recorded by an object that closes
abbrev pub Floor : State → List Object → List Object → Type 0
Floor s os ps = (f : ℕ) → f ≤ count s → (length os < depth s → (o : Object) (qs : List Object) → s.opened ≡ o ∷ qs → (k : ℕ) (p : Object) → k < f → numbered s.packed k ≡ Some p → o.tail ≤ p.head) → f ≤ length ps

-- head does not fall, or returns to that of the object that closes
abbrev pub Moves : State → ℕ → List Object → Type 0
Moves s h os = (s.head ≤ h) ⊎ ((o : Object) × (s.opened ≡ o ∷ os) × (h ≡ o.head))

pub record Step (s : State) (h : ℕ) (os ps : List Object) : Type 0 where
  pub grown : Grown s.head s.tail s.opened os
  pub floor : Floor s os ps
  pub persist : Persist s.packed ps
  pub moves : Moves s h os

-- ---- over a call

module _ (s : State) where
  abbrev Grows : List Object → Type 0
  Grows os = Grown s.head s.tail s.opened os

  kept_open : Grows s.opened
  kept_open = grown_same s.head s.tail s.opened

  closing : (o : Object) (os : List Object) → s.opened ≡ o ∷ os → Grows os
  closing o os is = subst (λ (x : List Object). Grown s.head s.tail x os) (sym is) (grown_close s.head s.tail o os)

  changing : (o o' : Object) (os : List Object) → s.opened ≡ o ∷ os → Level o o' → Grows (o' ∷ os)
  changing o o' os is l = subst (λ (x : List Object). Grown s.head s.tail x (o' ∷ os)) (sym is) (grown_first s.head s.tail o o' os l)

module _ {c : Call} {s : State} {r : Pairs} {m : List ℕ} {h : ℕ} {a : Answer} where
  effect_grown : {os ps : List Object} {p : Pool} {r' : Pairs} → (Turns (role c) → ⊥) → Effect c s r m h a os ps p r' → Grows s os
  effect_grown plain (same l) = kept_open s
  effect_grown plain (opens _ f e) = grown_open s.head s.tail (opened_in s) s.opened refl refl
  effect_grown plain (links o os l n is e b) = changing s o (with_link o l) os is (record { head = refl; tail = refl; links = simp length-append (omega arith) })
  effect_grown plain (orders o os l n is e) = changing s o (with_virtual o l) os is (record { head = refl; tail = refl; links = omega arith })
  effect_grown plain (lends ps n e t) = kept_open s
  effect_grown plain (closes o os is e) = closing s o os is
  effect_grown plain (packs o os is e) = closing s o os is
  effect_grown plain (packs_entered o os is e _) = closing s o os is
  effect_grown plain (shares o os ps is e t) = closing s o os is
  effect_grown plain (drops o os is e) = closing s o os is
  effect_grown plain (drops_back o os is e w) = closing s o os is
  effect_grown plain (cuts v x y n) = absurd (plain v)
  effect_grown plain (cuts_back v x y n t w) = absurd (plain v)
  effect_grown plain (enters g k e f) = kept_open s
  effect_grown plain (strikes g k e f) = kept_open s

  effect_floor : {os ps : List Object} {p : Pool} {r' : Pairs} → (Turns (role c) → ⊥) → Effect c s r m h a os ps p r' → Floor s os ps
  effect_floor plain (same l) f g q = g
  effect_floor plain (opens _ u e) f g q = g
  effect_floor plain (links o os l n is e b) f g q = g
  effect_floor plain (orders o os l n is e) f g q = g
  effect_floor plain (lends ps n e t) f g q = rw (relent_length s.packed ps t) g
  effect_floor plain (closes o os is e) f g q = g
  effect_floor plain (packs o os is e) f g q = omega arith
  effect_floor plain (packs_entered o os is e _) f g q = omega arith
  effect_floor plain (shares o os ps is e t) f g q = rw (relent_length s.packed ps t) g
  effect_floor plain (drops o os is e) f g q = g
  effect_floor plain (drops_back o os is e w) f g q = discard_floor s.memory o.tail s.packed s.pool r f g (q (let z = ap length is in omega arith) o os is)
  effect_floor plain (cuts v x y n) f g q = g
  effect_floor plain (cuts_back v x y n t w) f g q = absurd (plain v)
  effect_floor plain (enters k j e u) f g q = g
  effect_floor plain (strikes k j e u) f g q = g

  effect_moves : {os ps : List Object} {p : Pool} {r' : Pairs} → (Turns (role c) → ⊥) → Effect c s r m h a os ps p r' → Moves s h os
  effect_moves plain (same l) = inl l
  effect_moves plain (opens _ u e) = inl (omega arith)
  effect_moves plain (links o os l n is e b) = inl (omega arith)
  effect_moves plain (orders o os l n is e) = inl (omega arith)
  effect_moves plain (lends ps n e t) = inl (omega arith)
  effect_moves plain (closes o os is e) = inl (omega arith)
  effect_moves plain (packs o os is e) = inr (o, is, e)
  effect_moves plain (packs_entered o os is e _) = inr (o, is, e)
  effect_moves plain (shares o os ps is e t) = inr (o, is, e)
  effect_moves plain (drops o os is e) = inl (omega arith)
  effect_moves plain (drops_back o os is e w) = inr (o, is, e)
  effect_moves plain (cuts v x y n) = absurd (plain v)
  effect_moves plain (cuts_back v x y n t w) = absurd (plain v)
  effect_moves plain (enters k j e u) = inl (omega arith)
  effect_moves plain (strikes k j e u) = inl (omega arith)

  pub effect_step : {os ps : List Object} {p : Pool} {r' : Pairs} → (Turns (role c) → ⊥) → Effect c s r m h a os ps p r' → Step s h os ps
  effect_step plain x = record { grown = effect_grown plain x; floor = effect_floor plain x; persist = effect_persist x; moves = effect_moves plain x }
