-- What a call leaves of the packed objects and of the pairs held: an object whose number stands is still there, and so is a pair under it unless its owner strikes it.
use Rattle.std.proofs.Common.{◌≡◌, ℕ, suc, ◌<◌, ◌≤◌, true, eqb, ltb, ◌≢◌, List, [], ◌∷◌, length, Some, Option, sym, refl, ap, ◌∙◌, subst, inl, inr, arith}
use Rattle.register.specs.Pairs.{Pairs, same_pair, struck}
use Rattle.std.proofs.lemmas.Bool.{eqb-true, eqb-false, cases_Bool}
use Rattle.model.specs.State.{State, Object, Pool, index, numbered, slot_back, links_of}
use Rattle.model.specs.Closing.{object_hash, moved}
use Rattle.model.specs.Rewinding.{Discarded, discard}
use Rattle.model.specs.Run.{Call, Answer}
use Rattle.model.specs.Run.Call.{OwnerStrike}
use Rattle.model.specs.Offsets.{Still}
use Rattle.model.proofs.Split.{by_test}
use Rattle.model.proofs.Number.{none_some, some_inj, numbered_at, numbered_there, numbered_below}
use Rattle.model.proofs.Pair.{same_pair_is, other_pair, has_entered, has_struck}
use Rattle.model.proofs.Effect.{Relent, Effect}
use Rattle.model.proofs.Effect.Effect.{same, opens, links, orders, lends, closes, packs, packs_entered, shares, drops, drops_back, cuts, cuts_back, enters, strikes}

-- ---- objects

-- an object whose number stands after is still there
abbrev pub Persist : List Object → List Object → Type 0
Persist ps qs = (k : ℕ) (p : Object) → numbered ps k ≡ Some p → k < length qs → Still qs k p

pub still_same : (ps : List Object) (k : ℕ) (p : Object) → numbered ps k ≡ Some p → Still ps k p
still_same ps k p e = record { object = p; named = e; slot = refl; head = refl; tail = refl; real = refl }

pub still_then : (qs : List Object) (k : ℕ) (p q : Object) → Still qs k q → q.slot ≡ p.slot → q.head ≡ p.head → q.tail ≡ p.tail → q.real ≡ p.real → Still qs k p
still_then qs k p q t a b c d = record { object = t.object; named = t.named; slot = t.slot ∙ a; head = t.head ∙ b; tail = t.tail ∙ c; real = t.real ∙ d }

pub persist_same : (ps : List Object) → Persist ps ps
persist_same ps k p e l = still_same ps k p e

persist_new : (o : Object) (ps : List Object) → Persist ps (o ∷ ps)
persist_new o ps k p e l = let b : k < length ps = numbered_below ps k p e in still_same (o ∷ ps) k p (numbered_there o ps k (λ q. omega arith) ∙ e)

pub relent_length : (ps qs : List Object) → Relent ps qs → length qs ≡ length ps
relent_length [] [] t = refl
relent_length [] (q ∷ qs) t = absurd t
relent_length (p ∷ ps) [] t = absurd t
relent_length (p ∷ ps) (q ∷ qs) t = ap suc (relent_length ps qs t.1)

pub relent_still : (ps qs : List Object) → Relent ps qs → (k : ℕ) (p : Object) → numbered ps k ≡ Some p → Still qs k p
relent_still [] qs t k p e = absurd (none_some p e)
relent_still (x ∷ ps) [] t k p e = absurd t
relent_still (x ∷ ps) (y ∷ qs) t k p e =
    let n = relent_length ps qs t.1 in
    by_test (eqb (length ps) k) (Some x) (numbered ps k) (λ (z : Option Object). z ≡ Some p → Still (y ∷ qs) k p)
    (λ u f. let g : x ≡ p = some_inj x p f in
    subst (Still (y ∷ qs) k) g (record { object = y; named = numbered_at y qs k (n ∙ eqb-true (length ps) k u); slot = t.0.slot; head = t.0.head; tail = t.0.tail; real = t.0.real }))
    (λ u f. let w = relent_still ps qs t.1 k p f in
    record { object = w.object; named = numbered_there y qs k (λ z. eqb-false (length ps) k u (sym n ∙ z)) ∙ w.named; slot = w.slot; head = w.head; tail = w.tail; real = w.real }) e

-- ---- discarding

pub discard_fewer : (m : List ℕ) (t : ℕ) (ps : List Object) (p : Pool) (r : Pairs) → length (discard m t ps p r).left ≤ length ps
discard_fewer m t [] p r = omega arith
discard_fewer m t (o ∷ os) p r = by_test (ltb o.head t) _ _ (λ (x : Discarded). length x.left ≤ suc (length os))
    (λ e. let l = discard_fewer m t os (slot_back p o.slot (links_of o)) (struck r (object_hash m o) (length os)) in omega arith) (λ e. omega arith)

pub discard_persist : (m : List ℕ) (t : ℕ) (ps : List Object) (p : Pool) (r : Pairs) → Persist ps (discard m t ps p r).left
discard_persist m t [] p r = persist_same []
discard_persist m t (o ∷ os) p r = by_test (ltb o.head t) _ _ (λ (x : Discarded). Persist (o ∷ os) x.left)
    (λ e. let r' = struck r (object_hash m o) (length os) in let p' = slot_back p o.slot (links_of o) in let f = discard_fewer m t os p' r' in
    λ k q n l. discard_persist m t os p' r' k q (sym (numbered_there o os k (λ z. omega arith)) ∙ n) l)
    (λ e. persist_same (o ∷ os))

-- only pairs of discarded numbers are struck
pub discard_pairs : (m : List ℕ) (t : ℕ) (ps : List Object) (p : Pool) (r : Pairs) (h k : ℕ) → k < length (discard m t ps p r).left → (discard m t ps p r).register.has h k ≡ r.has h k
discard_pairs m t [] p r h k = λ l. refl
discard_pairs m t (o ∷ os) p r h k = by_test (ltb o.head t) _ _ (λ (x : Discarded). k < length x.left → x.register.has h k ≡ r.has h k)
    (λ e l. let r' = struck r (object_hash m o) (length os) in let p' = slot_back p o.slot (links_of o) in let f = discard_fewer m t os p' r' in
    discard_pairs m t os p' r' h k l ∙ has_struck r (object_hash m o) (length os) h k (other_pair (object_hash m o) (length os) h k (λ z. omega arith)))
    (λ e l. refl)

-- ---- over a call

pub effect_persist : {c : Call} {s : State} {r : Pairs} {m : List ℕ} {t : ℕ} {a : Answer} {os ps : List Object} {p : Pool} {r' : Pairs} → Effect c s r m t a os ps p r' → Persist s.packed ps
effect_persist {s = s} (same _) = persist_same s.packed
effect_persist {s = s} (opens _ e _) = persist_same s.packed
effect_persist {s = s} (links o os l n e _ a) = persist_same s.packed
effect_persist {s = s} (orders o os l n e _) = persist_same s.packed
effect_persist {s = s} (lends ps n _ t) = λ k p e l. relent_still s.packed ps t k p e
effect_persist {s = s} (closes o os e _) = persist_same s.packed
effect_persist {s = s} (packs o os e _) = persist_new (moved o s) s.packed
effect_persist {s = s} (packs_entered o os e _ _) = persist_new (moved o s) s.packed
effect_persist {s = s} (shares o os ps e _ t) = λ k p e l. relent_still s.packed ps t k p e
effect_persist {s = s} (drops o os e _) = persist_same s.packed
effect_persist {s = s} {r = r} (drops_back o os e _ w) = discard_persist s.memory o.tail s.packed s.pool r
effect_persist {s = s} (cuts v x y n) = persist_same s.packed
effect_persist {s = s} {r = r} (cuts_back v x y n t w) = discard_persist s.memory t s.packed _ r
effect_persist {s = s} (enters h k e _) = persist_same s.packed
effect_persist {s = s} (strikes h k e _) = persist_same s.packed

pub effect_pairs : {c : Call} {s : State} {r : Pairs} {m : List ℕ} {t : ℕ} {a : Answer} {os ps : List Object} {p : Pool} {r' : Pairs} → Effect c s r m t a os ps p r' →
    (h k : ℕ) → c ≢ OwnerStrike h (index k) → k < length ps → r.has h k ≡ true → r'.has h k ≡ true
effect_pairs (same _) h k ne l e = e
effect_pairs (opens _ u _) h k ne l e = e
effect_pairs (links o os v n u _ w) h k ne l e = e
effect_pairs (orders o os v n u _) h k ne l e = e
effect_pairs (lends ps n _ t) h k ne l e = e
effect_pairs (closes o os u _) h k ne l e = e
effect_pairs (packs o os u _) h k ne l e = e
effect_pairs {s = s} {r = r} {m = m} (packs_entered o os u _ _) h k ne l e = has_entered r (object_hash m (moved o s)) (length s.packed) h k e
effect_pairs (shares o os ps u _ t) h k ne l e = e
effect_pairs (drops o os u _) h k ne l e = e
effect_pairs {s = s} {r = r} (drops_back o os u _ w) h k ne l e = discard_pairs s.memory o.tail s.packed s.pool r h k l ∙ e
effect_pairs (cuts v x y n) h k ne l e = e
effect_pairs {s = s} {r = r} (cuts_back v x y n t w) h k ne l e = discard_pairs s.memory t s.packed _ r h k l ∙ e
effect_pairs {r = r} (enters g j u _) h k ne l e = has_entered r g j.0 h k e
effect_pairs {r = r} (strikes g j u _) h k ne l e = elim (cases_Bool (same_pair g j.0 h k)) [
  | inl t ↦ let q = same_pair_is g j.0 h k t in absurd (ne (u ∙ sym (ap (λ (x : ℕ). OwnerStrike x (index k)) q.0 ∙ ap (λ (x : ℕ). OwnerStrike g (index x)) q.1)))
  | inr t ↦ has_struck r g j.0 h k t ∙ e
]
