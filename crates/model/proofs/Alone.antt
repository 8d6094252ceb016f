-- In a register that was empty and is left alone, each pair is that of a packed object, and no two equal objects are both entered.
use Rattle.std.proofs.Common.{◌≡◌, ℕ, ◌<◌, true, false, not, ◌&&◌, ltb, ◌⊎◌, List, [], ◌∷◌, length, Some, None, sym, refl, ap, ◌∙◌, subst, inl, inr, arith}
use Rattle.link.specs.declared.Link.{Link}
use Rattle.register.specs.Pairs.{Pairs, same_pair, fits, struck, Counted}
use Rattle.scalar.specs.Place.{part}
use Rattle.std.proofs.lemmas.Bool.{and_parts, or_cases, both_ways, cases_eq, not-true}
use Rattle.model.specs.State.{State, Object, Pool, numbered, slot_back, links_of}
use Rattle.model.specs.Closing.{hash, object_hash, moved, twin}
use Rattle.model.specs.Rewinding.{Discarded, discard}
use Rattle.model.specs.Run.{Call, Answer, Beginning, run}
use Rattle.model.specs.Moments.{at, span, count, role}
use Rattle.model.specs.Sharing.{entry, entries}
use Rattle.model.proofs.Split.{by_test}
use Rattle.model.proofs.Number.{some_inj, numbered_at, numbered_is, numbered_there, numbered_below, numbered_first}
use Rattle.model.proofs.Sound.{Kept}
use Rattle.model.proofs.Stack.{run_sound, run_called}
use Rattle.model.proofs.Pair.{same_pair_is, same_pair_self, held_counts}
use Rattle.model.proofs.Last.{effect_persist, relent_length}
use Rattle.model.proofs.Effect.{Effect, bytes_in}
use Rattle.model.proofs.Change.{call_effect}
use Rattle.model.proofs.Effect.Effect.{same, opens, links, orders, lends, closes, packs, packs_entered, shares, drops, drops_back, cuts, cuts_back, enters, strikes}
use Rattle.model.proofs.Share.{still_bytes}
use Rattle.model.proofs.Twin.{Searched, twin_searched}

-- each pair held is that of a packed object and its hash
abbrev Owns : List ℕ → Pairs → List Object → Type 0
Owns m r ps = (h k : ℕ) → r.has h k ≡ true → (p : Object) × (numbered ps k ≡ Some p) × (h ≡ object_hash m p)

-- ---- what discarding leaves

struck_held : (r : Pairs) (h n g k : ℕ) → (struck r h n).has g k ≡ true → (r.has g k ≡ true) × (same_pair h n g k ≡ false)
struck_held r h n g k e = let p = and_parts (r.has g k) (not (same_pair h n g k)) e in (p.0, not-true (same_pair h n g k) p.1)

owns_less : (m : List ℕ) (r : Pairs) (o : Object) (os : List Object) → Owns m r (o ∷ os) → Owns m (struck r (object_hash m o) (length os)) os
owns_less m r o os own h k e =
    let s = struck_held r (object_hash m o) (length os) h k e in let q = own h k s.0 in
    elim (cases_eq (length os) k) [
      | inl u ↦ let v = numbered_first o q.0 os k u q.1 in
          absurd (both_ways (same_pair (object_hash m o) (length os) h k) s.1
          (subst (λ (x : ℕ). same_pair (object_hash m o) (length os) h x ≡ true) u (subst (λ (x : ℕ). same_pair (object_hash m o) (length os) x (length os) ≡ true) (sym (q.2 ∙ ap (object_hash m) (sym v))) (same_pair_self (object_hash m o) (length os)))))
      | inr u ↦ (q.0, sym (numbered_there o os k u) ∙ q.1, q.2)
    ]

discard_owns : (m : List ℕ) (t : ℕ) (ps : List Object) (p : Pool) (r : Pairs) → Owns m r ps → Owns m (discard m t ps p r).register (discard m t ps p r).left
discard_owns m t [] p r own = own
discard_owns m t (o ∷ os) p r own = by_test (ltb o.head t) _ _ (λ (x : Discarded). Owns m x.register x.left)
    (λ e. discard_owns m t os (slot_back p o.slot (links_of o)) (struck r (object_hash m o) (length os)) (owns_less m r o os own)) (λ e. own)

-- what is held after was held before
discard_held : (m : List ℕ) (t : ℕ) (ps : List Object) (p : Pool) (r : Pairs) (h k : ℕ) → (discard m t ps p r).register.has h k ≡ true → r.has h k ≡ true
discard_held m t [] p r h k = λ e. e
discard_held m t (o ∷ os) p r h k = by_test (ltb o.head t) _ _ (λ (x : Discarded). x.register.has h k ≡ true → r.has h k ≡ true)
    (λ e u. (struck_held r (object_hash m o) (length os) h k (discard_held m t os (slot_back p o.slot (links_of o)) (struck r (object_hash m o) (length os)) h k u)).0) (λ e u. u)

-- ---- over a call

-- the pair entered when an object was packed, of which there was no equal one
record Newly (s : State) (r : Pairs) (m : List ℕ) (ps : List Object) (h k : ℕ) : Type 0 where
  object : Object
  number : k ≡ length s.packed
  packed : ps ≡ object ∷ s.packed
  hashed : h ≡ object_hash m object
  missed : twin m r (object_hash m object) (bytes_in m object) object.real s.packed ≡ None

-- a pair held after a call was held before, and its number stands, or it is new
record Held (s : State) (r : Pairs) (m : List ℕ) (ps : List Object) (h k : ℕ) : Type 0 where
  was : ((r.has h k ≡ true) × (k < length ps)) ⊎ Newly s r m ps h k

module _ (c : Call) (s : State) (r : Pairs) (m : List ℕ) (own : Owns s.memory r s.packed) (none : entry (role c) ≡ 0) where
  low : (h k : ℕ) → r.has h k ≡ true → k < length s.packed
  low h k e = let q = own h k e in numbered_below s.packed k q.0 q.1

  kept : (h k : ℕ) → r.has h k ≡ true → Held s r m s.packed h k
  kept h k e = record { was = inl (e, low h k e) }

  gone : (u : ℕ) (p : Pool) (h k : ℕ) → (discard s.memory u s.packed p r).register.has h k ≡ true → Held s r m (discard s.memory u s.packed p r).left h k
  gone u p h k e =
      let q = discard_owns s.memory u s.packed p r own h k e in
      record { was = inl (discard_held s.memory u s.packed p r h k e, numbered_below (discard s.memory u s.packed p r).left k q.0 q.1) }

  effect_held : {t : ℕ} {a : Answer} {os ps : List Object} {p : Pool} {r' : Pairs} → Effect c s r m t a os ps p r' → (h k : ℕ) → r'.has h k ≡ true → Held s r m ps h k
  effect_held (same _) h k e = kept h k e
  effect_held (opens _ _ _) h k e = kept h k e
  effect_held (links o os l n _ _ _) h k e = kept h k e
  effect_held (orders o os l n _ _) h k e = kept h k e
  effect_held (lends ps n _ v) h k e = record { was = inl (e, rw (relent_length s.packed ps v) (low h k e)) }
  effect_held (closes o os _ _) h k e = kept h k e
  effect_held (packs o os _ _) h k e = record { was = inl (e, let l = low h k e in omega arith) }
  effect_held (packs_entered o os _ _ w) h k e = elim (or_cases (r.has h k) (fits r (object_hash m (moved o s)) (length s.packed) && same_pair (object_hash m (moved o s)) (length s.packed) h k) e) [
    | inl u ↦ record { was = inl (u, let l = low h k u in omega arith) }
    | inr u ↦ let v = same_pair_is (object_hash m (moved o s)) (length s.packed) h k (and_parts (fits r (object_hash m (moved o s)) (length s.packed)) _ u).1 in
        record { was = inr (record { object = moved o s; number = v.1; packed = refl; hashed = v.0; missed = w }) }
  ]
  effect_held (shares o os ps _ _ v) h k e = record { was = inl (e, rw (relent_length s.packed ps v) (low h k e)) }
  effect_held (drops o os _ _) h k e = kept h k e
  effect_held (drops_back o os _ _ _) h k e = gone o.tail s.pool h k e
  effect_held (cuts v x y n) h k e = kept h k e
  effect_held (cuts_back v x y n u w) h k e = gone u _ h k e
  effect_held (enters g j e _) h k u = absurd (let z : entry (role c) ≡ 1 = ap (λ (x : Call). entry (role x)) e in omega arith)
  effect_held (strikes g j e _) h k u = kept h k (struck_held r g j.0 h k u).0

-- ---- over a run

-- two entered objects of equal bytes and links have one number
abbrev Alone : List ℕ → Pairs → List Object → Type 0
Alone m r ps = (j k : ℕ) (p q : Object) → numbered ps j ≡ Some p → numbered ps k ≡ Some q → r.has (object_hash m p) j ≡ true → r.has (object_hash m q) k ≡ true →
    bytes_in m p ≡ bytes_in m q → p.real ≡ q.real → j ≡ k

module _ (b : Beginning) (c : Call) (cs : List Call) (going : (at b (c ∷ cs)).ended ≡ false) (none : entry (role c) ≡ 0)
    (own : Owns (at b cs).memory (run b cs).register (at b cs).packed) (alone : Alone (at b cs).memory (run b cs).register (at b cs).packed) where
  abbrev s : State
  s = at b cs

  abbrev s' : State
  s' = at b (c ∷ cs)

  abbrev r : Pairs
  r = (run b cs).register

  abbrev r' : Pairs
  r' = (run b (c ∷ cs)).register

  unwritten : Kept s s'
  unwritten = let called = run_called b c cs in called.kept (going ∙ sym (called.stays going))

  held : (h k : ℕ) → r'.has h k ≡ true → Held s r s'.memory s'.packed h k
  held = effect_held c s r s'.memory own none (call_effect c s r (run b cs).answers)

  -- an object that stands is as it was
  record Before (k : ℕ) (p' : Object) : Type 0 where
    object : Object
    named : numbered s.packed k ≡ Some object
    bytes : bytes_in s'.memory p' ≡ bytes_in s.memory object
    real : p'.real ≡ object.real

  before : (k : ℕ) (p' : Object) → numbered s'.packed k ≡ Some p' → k < count s → Before k p'
  before k p' e l =
      let q = numbered_is s.packed k l in
      let t = effect_persist (call_effect c s r (run b cs).answers) k q.0 q.1 (numbered_below s'.packed k p' e) in
      let v = some_inj p' t.object (sym e ∙ t.named) in
      record {
        object = q.0;
        named = q.1;
        bytes = ap (bytes_in s'.memory) v ∙ still_bytes (span b) s s' (run_sound b cs) unwritten k q.0 q.1 t;
        real = ap (λ (x : Object). x.real) v ∙ t.real;
      }

  hash_before : (k : ℕ) (p' : Object) (w : Before k p') → object_hash s'.memory p' ≡ object_hash s.memory w.object
  hash_before k p' w = ap (λ (x : List ℕ). hash x p'.real) w.bytes ∙ ap (hash (bytes_in s.memory w.object)) w.real

  owns_next : Owns s'.memory r' s'.packed
  owns_next h k e = elim (held h k e).was [
    | inl u ↦ let q = own h k u.0 in
        let p = numbered_is s'.packed k u.1 in
        let w = before k p.0 p.1 (numbered_below s.packed k q.0 q.1) in
        (p.0, p.1, q.2 ∙ (ap (object_hash s.memory) (some_inj q.0 w.object (sym q.1 ∙ w.named)) ∙ sym (hash_before k p.0 w)))
    | inr u ↦ (u.object, ap (λ (x : List Object). numbered x k) u.packed ∙ numbered_at u.object s.packed k (sym u.number), u.hashed)
  ]

  -- a new object has no equal one among those entered
  new_alone : (j k : ℕ) (p q : Object) → numbered s'.packed j ≡ Some p → numbered s'.packed k ≡ Some q → r.has (object_hash s'.memory p) j ≡ true → (u : Newly s r s'.memory s'.packed (object_hash s'.memory q) k) →
      bytes_in s'.memory p ≡ bytes_in s'.memory q → p.real ≡ q.real → ⊥
  new_alone j k p q e f h u x y =
      let z = own (object_hash s'.memory p) j h in
      let w = before j p e (numbered_below s.packed j z.0 z.1) in
      let v : u.object ≡ q = numbered_first u.object q s.packed k (sym u.number) (sym (ap (λ (x : List Object). numbered x k) u.packed) ∙ f) in
      let o = u.object in
      let bs : bytes_in s'.memory p ≡ bytes_in s'.memory o = x ∙ ap (bytes_in s'.memory) (sym v) in
      let ls : p.real ≡ o.real = y ∙ ap (λ (x : Object). x.real) (sym v) in
      let None-found = subst (Searched s'.memory r (object_hash s'.memory o) (bytes_in s'.memory o) o.real s.packed) u.missed (twin_searched s'.memory r (object_hash s'.memory o) (bytes_in s'.memory o) o.real s.packed) in
      None-found j w.object w.named
      (record {
        entered = subst (λ (x : List Link). r.has (hash (bytes_in s'.memory o) x) j ≡ true) ls (subst (λ (x : List ℕ). r.has (hash x p.real) j ≡ true) bs h);
        bytes = same_place j p e w ∙ bs;
        links = sym w.real ∙ ls;
      })
    where
      -- the object's bytes, read where it stood before
      same_place : (j : ℕ) (p : Object) → numbered s'.packed j ≡ Some p → (w : Before j p) → bytes_in s'.memory w.object ≡ bytes_in s'.memory p
      same_place j p e w =
          let t = effect_persist (call_effect c s r (run b cs).answers) j w.object w.named (numbered_below s'.packed j p e) in
          let v = some_inj t.object p (sym t.named ∙ e) in
          sym (ap (λ (x : ℕ). part s'.memory x t.object.tail) t.head ∙ ap (λ (x : ℕ). part s'.memory w.object.head x) t.tail) ∙ ap (bytes_in s'.memory) v

  alone_next : Alone s'.memory r' s'.packed
  alone_next j k p q e f h i x y = go (held (object_hash s'.memory p) j h).was (held (object_hash s'.memory q) k i).was
    where
      go : (((r.has (object_hash s'.memory p) j ≡ true) × (j < length s'.packed)) ⊎ Newly s r s'.memory s'.packed (object_hash s'.memory p) j) →
          (((r.has (object_hash s'.memory q) k ≡ true) × (k < length s'.packed)) ⊎ Newly s r s'.memory s'.packed (object_hash s'.memory q) k) → j ≡ k
      go (inl u) (inl v) =
          let zj = own (object_hash s'.memory p) j u.0 in let zk = own (object_hash s'.memory q) k v.0 in
          let a = before j p e (numbered_below s.packed j zj.0 zj.1) in let d = before k q f (numbered_below s.packed k zk.0 zk.1) in
          alone j k a.object d.object a.named d.named (subst (λ (x : ℕ). r.has x j ≡ true) (hash_before j p a) u.0) (subst (λ (x : ℕ). r.has x k ≡ true) (hash_before k q d) v.0)
          (sym a.bytes ∙ (x ∙ d.bytes)) (sym a.real ∙ (y ∙ d.real))
      go (inl u) (inr v) = absurd (new_alone j k p q e f u.0 v x y)
      go (inr u) (inl v) = absurd (new_alone k j q p f e v.0 u (sym x) (sym y))
      go (inr u) (inr v) = u.number ∙ sym v.number

-- nothing is held at first
first_empty : (b : Beginning) → Counted b.register → b.register.count ≡ 0 → (h k : ℕ) → b.register.has h k ≡ true → ⊥
first_empty b ok z h k e = let l = held_counts b.register h k ok e in omega arith

pub record Lone (b : Beginning) (cs : List Call) : Type 0 where
  pub owns : Owns (at b cs).memory (run b cs).register (at b cs).packed
  pub alone : Alone (at b cs).memory (run b cs).register (at b cs).packed

pub run_lone : (b : Beginning) → Counted b.register → b.register.count ≡ 0 → (cs : List Call) → entries cs ≡ 0 → (at b cs).ended ≡ false → Lone b cs
run_lone b ok z [] n e = record { owns = λ h k u. absurd (first_empty b ok z h k u); alone = λ j k p q u v x. absurd (first_empty b ok z _ j x) }
run_lone b ok z (c ∷ cs) n e =
    let ih = run_lone b ok z cs (omega arith) ((run_called b c cs).stays e) in let f : entry (role c) ≡ 0 = omega arith in
    record { owns = owns_next b c cs e f ih.owns ih.alone; alone = alone_next b c cs e f ih.owns ih.alone }
