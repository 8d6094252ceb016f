-- Slots: open, packed and released ones are different, so there is one to each object. The register holds a pair for each slot at least.
use Rattle.std.proofs.Common.{◌≡◌, ℕ, suc, ◌+◌, ◌<◌, ◌≤◌, true, cond, ltb, List, [], ◌∷◌, length, Ok, Err, Result, refl, ap, ◌∙◌, arith}
use Rattle.link.specs.declared.PoolIdx.{PoolIdx}
use Rattle.register.specs.Pairs.{Pairs, struck}
use Rattle.std.proofs.lemmas.Bool.{ltb-true, ltb-false, cond_both}
use Rattle.model.specs.declared.limit.Limit.{Limit}
use Rattle.model.specs.declared.limit.Limit.TheVariants.{Memory, Register}
use Rattle.model.specs.State.{State, Object, Pool, slot_free, slot_taken, slot_back, links_of}
use Rattle.model.specs.Closing.{object_hash}
use Rattle.model.specs.Rewinding.{Discarded, discard, cut_first}
use Rattle.model.specs.New.{over_memory, checked, begun}
use Rattle.model.specs.Run.{Call, Answer, Beginning, run}
use Rattle.model.specs.Moments.{at, depth, count}
use Rattle.model.proofs.Split.{by_test}
use Rattle.model.proofs.Last.{relent_length}
use Rattle.model.proofs.Effect.{Effect}
use Rattle.model.proofs.Change.{call_effect}
use Rattle.model.proofs.Effect.Effect.{same, opens, links, orders, lends, closes, packs, packs_entered, shares, drops, drops_back, cuts, cuts_back, enters, strikes}

-- a slot for each object and each released one
pub record Housed (slots : ℕ) (os ps : List Object) (p : Pool) : Type 0 where
  pub apart : length os + length ps + length p.released ≤ p.used
  pub within : p.used ≤ slots
  pub limit : p.slots ≡ slots

-- ---- opening

abbrev pool : List PoolIdx → ℕ → ℕ → ℕ → ℕ → Pool
pool xs used slots linked cells = record { released = xs; used = used; slots = slots; linked = linked; cells = cells }

taken : (n : ℕ) (xs : List PoolIdx) (used slots linked cells : ℕ) → n + length xs ≤ used → used ≤ slots → slot_free (pool xs used slots linked cells) ≡ true →
    (n + length (slot_taken (pool xs used slots linked cells)).released < (slot_taken (pool xs used slots linked cells)).used) × ((slot_taken (pool xs used slots linked cells)).used ≤ slots) × ((slot_taken (pool xs used slots linked cells)).slots ≡ slots)
taken n [] used slots linked cells l u f = (omega arith, ltb-true used slots f, refl)
taken n (x ∷ xs) used slots linked cells l u f = (omega arith, u, refl)

-- ---- discarding

discard_housed : (m : List ℕ) (t : ℕ) (ps : List Object) (p : Pool) (r : Pairs) →
    (length (discard m t ps p r).left + length (discard m t ps p r).pool.released ≡ length ps + length p.released) × ((discard m t ps p r).pool.used ≡ p.used) × ((discard m t ps p r).pool.slots ≡ p.slots)
discard_housed m t [] p r = (refl, refl, refl)
discard_housed m t (o ∷ os) p r = by_test (ltb o.head t) _ _
    (λ (x : Discarded). (length x.left + length x.pool.released ≡ suc (length os) + length p.released) × (x.pool.used ≡ p.used) × (x.pool.slots ≡ p.slots))
    (λ e. let ih = discard_housed m t os (slot_back p o.slot (links_of o)) (struck r (object_hash m o) (length os)) in (ih.0 ∙ omega arith, ih.1, ih.2))
    (λ e. (refl, refl, refl))

pub cut_length : (a b : ℕ) (os : List Object) → length (cut_first a b os) ≡ length os
cut_length a b [] = refl
cut_length a b (o ∷ os) = refl

-- ---- over a call

effect_housed : {c : Call} {s : State} {r : Pairs} {m : List ℕ} {t : ℕ} {a : Answer} {os ps : List Object} {p : Pool} {r' : Pairs} → Effect c s r m t a os ps p r' → (n : ℕ) → Housed n s.opened s.packed s.pool → Housed n os ps p
effect_housed (same _) n d = d
effect_housed {s = s} (opens _ f _) n d =
    let p = s.pool in
    let t = taken (length s.opened + length s.packed) p.released p.used p.slots p.linked p.cells d.apart (let x = d.limit in let y = d.within in omega arith) f in
    record { apart = let x = t.0 in omega arith; within = let x = t.1 in let y = d.limit in omega arith; limit = t.2 ∙ d.limit }
effect_housed (links o os l k e _ a) n d = let z = ap length e in record { apart = let x = d.apart in omega arith; within = d.within; limit = d.limit }
effect_housed (orders o os l k e _) n d = let z = ap length e in record { apart = let x = d.apart in omega arith; within = d.within; limit = d.limit }
effect_housed {s = s} (lends ps k _ t) n d = let z = relent_length s.packed ps t in record { apart = let x = d.apart in omega arith; within = d.within; limit = d.limit }
effect_housed (closes o os e _) n d = let z = ap length e in record { apart = let x = d.apart in omega arith; within = d.within; limit = d.limit }
effect_housed (packs o os e _) n d = let z = ap length e in record { apart = let x = d.apart in omega arith; within = d.within; limit = d.limit }
effect_housed (packs_entered o os e _ _) n d = let z = ap length e in record { apart = let x = d.apart in omega arith; within = d.within; limit = d.limit }
effect_housed {s = s} (shares o os ps e _ t) n d = let z = ap length e in let y = relent_length s.packed ps t in record { apart = let x = d.apart in omega arith; within = d.within; limit = d.limit }
effect_housed (drops o os e _) n d = let z = ap length e in record { apart = let x = d.apart in omega arith; within = d.within; limit = d.limit }
effect_housed {s = s} {r = r} (drops_back o os e _ w) n d =
    let z = ap length e in let y = discard_housed s.memory o.tail s.packed s.pool r in
    record { apart = let x = d.apart in let u = y.0 in let v = y.1 in omega arith; within = let v = y.1 in let x = d.within in omega arith; limit = y.2 ∙ d.limit }
effect_housed {s = s} (cuts v x y k) n d = let z = cut_length x y s.opened in record { apart = let x = d.apart in omega arith; within = d.within; limit = d.limit }
effect_housed {s = s} {r = r} (cuts_back v x y k t w) n d =
    let z = cut_length x y s.opened in let y = discard_housed s.memory t s.packed _ r in
    record { apart = let x = d.apart in let u = y.0 in let v = y.1 in omega arith; within = let v = y.1 in let x = d.within in omega arith; limit = y.2 ∙ d.limit }
effect_housed (enters h k e _) n d = d
effect_housed (strikes h k e _) n d = d

-- ---- over a run

begun_housed : (o : Result (Unit {0}) Limit) (size slots cells : ℕ) → Housed (begun o size slots cells).pool.slots (begun o size slots cells).opened (begun o size slots cells).packed (begun o size slots cells).pool
begun_housed (Ok u) size slots cells = record { apart = omega arith; within = omega arith; limit = refl }
begun_housed (Err l) size slots cells = record { apart = omega arith; within = omega arith; limit = refl }

abbrev pub slots_of : Beginning → ℕ
slots_of b = (at b []).pool.slots

pub run_housed : (b : Beginning) (cs : List Call) → Housed (slots_of b) (at b cs).opened (at b cs).packed (at b cs).pool
run_housed b [] = begun_housed (checked b.size b.slots b.cells b.register.capacity) b.size b.slots b.cells
run_housed b (c ∷ cs) = effect_housed (call_effect c (at b cs) (run b cs).register (run b cs).answers) (slots_of b) (run_housed b cs)

-- the check before `new` sees to it that the register has room for as many pairs as there are slots
pub slots_fit : (b : Beginning) → slots_of b ≤ b.register.capacity
slots_fit b = cond_both (over_memory b.size b.slots b.cells) (Err Memory) (cond (ltb b.register.capacity b.slots) (Err Register) (Ok tt)) (λ (x : Result (Unit {0}) Limit). (begun x b.size b.slots b.cells).pool.slots ≤ b.register.capacity)
    (λ e. omega arith)
    (λ e. cond_both (ltb b.register.capacity b.slots) (Err Register) (Ok tt) (λ (x : Result (Unit {0}) Limit). (begun x b.size b.slots b.cells).pool.slots ≤ b.register.capacity)
    (λ e. omega arith) (λ e. ltb-false b.register.capacity b.slots e))

-- with an object open there are fewer packed than the register may hold
pub room_left : (b : Beginning) (cs : List Call) → 0 < depth (at b cs) → count (at b cs) < b.register.capacity
room_left b cs l = let d = run_housed b cs in let x = d.apart in let y = d.within in let z = slots_fit b in omega arith
