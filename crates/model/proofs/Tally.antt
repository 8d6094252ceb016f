-- The register holds at most a pair for each entered object, for each entry of its owner, and for what it held at first.
use Rattle.std.proofs.Common.{◌≡◌, ℕ, ◌+◌, ◌≤◌, Bool, true, false, cond, eqb, ltb, List, [], ◌∷◌, length, drop, sym, refl, ap, ◌∙◌, subst, inl, inr, arith}
use Rattle.scalar.specs.Place.{part}
use Rattle.register.specs.Pairs.{Pairs, same_pair, entered, struck, Counted}
use Rattle.std.proofs.lemmas.Bool.{eqb-true, eqb-false, both_ways, cases_Bool}
use Rattle.model.specs.State.{State, Object, Pool, slot_back, links_of}
use Rattle.model.specs.Closing.{hash, object_hash, moved}
use Rattle.model.specs.Rewinding.{Discarded, discard}
use Rattle.model.specs.Run.{Call, Answer, Beginning, run}
use Rattle.model.specs.Moments.{at, span, count, role}
use Rattle.model.specs.Stacking.{Stacked, lowest}
use Rattle.model.specs.Sharing.{entry, entries}
use Rattle.model.proofs.Split.{by_test}
use Rattle.model.proofs.Memory.{part_kept}
use Rattle.model.proofs.Sound.{SoundState}
use Rattle.model.proofs.Stack.{run_sound, run_called}
use Rattle.model.proofs.Pair.{entering, same_pair_is, other_pair, has_entered, entered_has, has_struck, entered_count, counted_entered, counted_struck, held_counts}
use Rattle.model.proofs.Pair.Entering.{held, joins, full}
use Rattle.model.proofs.Last.{relent_length}
use Rattle.model.proofs.Effect.{Relent, Effect}
use Rattle.model.proofs.Change.{call_effect}
use Rattle.model.proofs.Effect.Effect.{same, opens, links, orders, lends, closes, packs, packs_entered, shares, drops, drops_back, cuts, cuts_back, enters, strikes}

-- ---- how many packed objects are entered

abbrev one : Bool → ℕ
one b = cond b 1 0

abbrev tally : List ℕ → Pairs → List Object → ℕ
tally m r [] = 0
tally m r (p ∷ ps) = one (r.has (object_hash m p) (length ps)) + tally m r ps

one_le : (b : Bool) → one b ≤ 1
one_le true = omega arith
one_le false = omega arith

one_mono : (a b : Bool) → (a ≡ true → b ≡ true) → one a ≤ one b
one_mono true b f = rw (f refl) (omega arith)
one_mono false b f = omega arith

tally_le : (m : List ℕ) (r : Pairs) (ps : List Object) → tally m r ps ≤ length ps
tally_le m r [] = omega arith
tally_le m r (p ∷ ps) = let a = one_le (r.has (object_hash m p) (length ps)) in let b = tally_le m r ps in omega arith

tally_mono : (m : List ℕ) (r r' : Pairs) (ps : List Object) → ((h k : ℕ) → r.has h k ≡ true → r'.has h k ≡ true) → tally m r ps ≤ tally m r' ps
tally_mono m r r' [] f = omega arith
tally_mono m r r' (p ∷ ps) f = let a = one_mono _ _ (f (object_hash m p) (length ps)) in let b = tally_mono m r r' ps f in omega arith

-- bytes that are kept hash alike
tally_kept : (n : ℕ) (m m' : List ℕ) (t : ℕ) (r : Pairs) (ps : List Object) → Stacked n ps → t ≤ lowest n ps → drop t m' ≡ drop t m → tally m' r ps ≡ tally m r ps
tally_kept n m m' t r [] st l e = refl
tally_kept n m m' t r (p ∷ ps) st l e =
    let a = part_kept m m' t p.head p.tail l e in
    let b = tally_kept n m m' t r ps st.2 (omega (arith, st.0, st.1)) e in
    ap (λ (x : List ℕ). one (r.has (hash x p.real) (length ps)) + tally m' r ps) a ∙ ap (λ (x : ℕ). one (r.has (object_hash m p) (length ps)) + x) b

-- virtual links are not hashed
tally_relent : (m : List ℕ) (r : Pairs) (ps qs : List Object) → Relent ps qs → tally m r qs ≡ tally m r ps
tally_relent m r [] [] t = refl
tally_relent m r [] (q ∷ qs) t = absurd t
tally_relent m r (p ∷ ps) [] t = absurd t
tally_relent m r (p ∷ ps) (q ∷ qs) t =
    let a = t.0 in
    let e : object_hash m q ≡ object_hash m p = ap (λ (x : ℕ). hash (part m x q.tail) q.real) a.head ∙ (ap (λ (x : ℕ). hash (part m p.head x) q.real) a.tail ∙ ap (hash (part m p.head p.tail)) a.real) in
    ap (λ (x : ℕ). one (r.has x (length qs)) + tally m r qs) e ∙ (ap (λ (x : ℕ). one (r.has (object_hash m p) x) + tally m r qs) (relent_length ps qs t.1) ∙ ap (λ (x : ℕ). one (r.has (object_hash m p) (length ps)) + x) (tally_relent m r ps qs t.1))

-- ---- striking

tally_strike : (m : List ℕ) (r : Pairs) (h n : ℕ) (ps : List Object) → length ps ≤ n → tally m (struck r h n) ps ≡ tally m r ps
tally_strike m r h n [] l = refl
tally_strike m r h n (p ∷ ps) l =
    ap (λ (b : Bool). one b + tally m (struck r h n) ps) (has_struck r h n (object_hash m p) (length ps) (other_pair h n (object_hash m p) (length ps) (λ z. omega arith)))
    ∙ ap (λ (x : ℕ). one (r.has (object_hash m p) (length ps)) + x) (tally_strike m r h n ps (omega arith))

tally_struck : (m : List ℕ) (r : Pairs) (h n : ℕ) (ps : List Object) → tally m r ps ≤ tally m (struck r h n) ps + 1
tally_struck m r h n [] = omega arith
tally_struck m r h n (p ∷ ps) = elim (cases_Bool (eqb (length ps) n)) [
  | inl e ↦ let a = tally_strike m r h n ps (let z = eqb-true (length ps) n e in omega arith) in let b = one_le (r.has (object_hash m p) (length ps)) in omega arith
  | inr e ↦ let a : one ((struck r h n).has (object_hash m p) (length ps)) ≡ one (r.has (object_hash m p) (length ps)) = ap one (has_struck r h n (object_hash m p) (length ps) (other_pair h n (object_hash m p) (length ps) (eqb-false (length ps) n e))) in
      let b = tally_struck m r h n ps in omega arith
]

-- the count falls by the pair struck
struck_count : (r : Pairs) (h n : ℕ) → Counted r → (struck r h n).count + one (r.has h n) ≤ r.count
struck_count r h n c = elim (cases_Bool (r.has h n)) [
  | inl e ↦ let l = held_counts r h n c e in let z : one (r.has h n) ≡ 1 = ap one e in omega arith
  | inr e ↦ let z : one (r.has h n) ≡ 0 = ap one e in omega arith
]

struck_gain : (m : List ℕ) (r : Pairs) (h n : ℕ) (ps : List Object) → Counted r → (struck r h n).count + tally m r ps ≤ r.count + tally m (struck r h n) ps
struck_gain m r h n ps c = elim (cases_Bool (r.has h n)) [
  | inl e ↦ let a = struck_count r h n c in let b = tally_struck m r h n ps in let z : one (r.has h n) ≡ 1 = ap one e in omega arith
  | inr e ↦ let a = struck_count r h n c in
      let b = tally_mono m r (struck r h n) ps (λ g k u. has_struck r h n g k (elim (cases_Bool (same_pair h n g k))
      [ inl t ↦ let p = same_pair_is h n g k t in absurd (both_ways (r.has h n) e (sym (ap (λ (x : ℕ). r.has x k) p.0 ∙ ap (r.has h) p.1) ∙ u)) | inr t ↦ t ]) ∙ u) in
      omega arith
]

discard_gain : (m : List ℕ) (t : ℕ) (ps : List Object) (p : Pool) (r : Pairs) → Counted r →
    ((discard m t ps p r).register.count + tally m r ps ≤ r.count + tally m (discard m t ps p r).register (discard m t ps p r).left) × Counted (discard m t ps p r).register
discard_gain m t [] p r c = (omega arith, c)
discard_gain m t (o ∷ os) p r c = by_test (ltb o.head t) _ _ (λ (x : Discarded). (x.register.count + tally m r (o ∷ os) ≤ r.count + tally m x.register x.left) × Counted x.register)
    (λ e. let h = object_hash m o in
    let ih = discard_gain m t os (slot_back p o.slot (links_of o)) (struck r h (length os)) (counted_struck r h (length os) c) in
    let a = struck_count r h (length os) c in
    let b = tally_strike m r h (length os) os (omega arith) in
    let i = ih.0 in (omega arith, ih.1))
    (λ e. (omega arith, c))

-- ---- entering

entered_gain : (m : List ℕ) (r : Pairs) (h n : ℕ) (ps : List Object) → (entered r h n).count + tally m r ps ≤ r.count + tally m (entered r h n) ps + 1
entered_gain m r h n ps =
    let a = tally_mono m r (entered r h n) ps (λ g k e. has_entered r h n g k e) in
    let b = entered_count r h n in omega arith

-- an object entered when it is packed counts itself
own_gain : (m : List ℕ) (r : Pairs) (o : Object) (ps : List Object) →
    (entered r (object_hash m o) (length ps)).count + tally m r ps ≤ r.count + tally m (entered r (object_hash m o) (length ps)) (o ∷ ps)
own_gain m r o ps =
    let h = object_hash m o in let k = length ps in
    let a = tally_mono m r (entered r h k) ps (λ g j e. has_entered r h k g j e) in
    elim (entering r h k) [
      | held e c ↦ omega arith
      | joins e f l c ↦ let z : one ((entered r h k).has h k) ≡ 1 = ap one (entered_has r h k f) in omega arith
      | full f c ↦ omega arith
    ]

-- ---- over a call

-- the pairs grow by no more than the entered objects and the owner's entry
record Gain (c : Call) (s : State) (r : Pairs) (m : List ℕ) (ps : List Object) (r' : Pairs) : Type 0 where
  gained : r'.count + tally s.memory r s.packed ≤ r.count + tally m r' ps + entry (role c)
  counted : Counted r'
  capacity : r'.capacity ≡ r.capacity

discard_capacity : (m : List ℕ) (t : ℕ) (ps : List Object) (p : Pool) (r : Pairs) → (discard m t ps p r).register.capacity ≡ r.capacity
discard_capacity m t [] p r = refl
discard_capacity m t (o ∷ os) p r = by_test (ltb o.head t) _ _ (λ (x : Discarded). x.register.capacity ≡ r.capacity) (λ e. discard_capacity m t os _ _) (λ e. refl)

module _ (n : ℕ) (c : Call) (s : State) (sound : SoundState n s) (r : Pairs) (ok : Counted r) (m : List ℕ) (kept : drop s.tail m ≡ drop s.tail s.memory) where
  kept_tally : tally m r s.packed ≡ tally s.memory r s.packed
  kept_tally = tally_kept n s.memory m s.tail r s.packed sound.stacked sound.under kept

  same_gain : Gain c s r m s.packed r
  same_gain = record { gained = let a = kept_tally in omega arith; counted = ok; capacity = refl }

  relent_gain : (ps : List Object) → Relent s.packed ps → Gain c s r m ps r
  relent_gain ps t = record { gained = let a = kept_tally in let b = tally_relent m r s.packed ps t in omega arith; counted = ok; capacity = refl }

  discard_gains : (t : ℕ) (p : Pool) → m ≡ s.memory → Gain c s r m (discard s.memory t s.packed p r).left (discard s.memory t s.packed p r).register
  discard_gains t p e =
      let d = discard_gain s.memory t s.packed p r ok in
      subst (λ (x : List ℕ). Gain c s r x (discard s.memory t s.packed p r).left (discard s.memory t s.packed p r).register) (sym e)
      (record { gained = let a = d.0 in omega arith; counted = d.1; capacity = discard_capacity s.memory t s.packed p r })

  effect_gain : {t : ℕ} {a : Answer} {os ps : List Object} {p : Pool} {r' : Pairs} → Effect c s r m t a os ps p r' → Gain c s r m ps r'
  effect_gain (same _) = same_gain
  effect_gain (opens _ e _) = same_gain
  effect_gain (links o os l k e _ a) = same_gain
  effect_gain (orders o os l k e _) = same_gain
  effect_gain (lends ps k _ t) = relent_gain ps t
  effect_gain (closes o os e _) = same_gain
  effect_gain (packs o os e _) = record { gained = let a = kept_tally in omega arith; counted = ok; capacity = refl }
  effect_gain (packs_entered o os e _ _) = record
      { gained = let a = kept_tally in let b = own_gain m r (moved o s) s.packed in omega arith; counted = counted_entered r (object_hash m (moved o s)) (length s.packed) ok; capacity = refl }
  effect_gain (shares o os ps e _ t) = relent_gain ps t
  effect_gain (drops o os e _) = same_gain
  effect_gain (drops_back o os e _ w) = discard_gains o.tail s.pool w
  effect_gain (cuts v x y k) = same_gain
  effect_gain (cuts_back v x y k t w) = discard_gains t _ w
  effect_gain (enters h k e _) = record
      { gained = let a = kept_tally in let b = entered_gain m r h k.0 s.packed in let z : entry (role c) ≡ 1 = ap (λ (x : Call). entry (role x)) e in omega arith; counted = counted_entered r h k.0 ok; capacity = refl }
  effect_gain (strikes h k e _) = record { gained = let a = kept_tally in let b = struck_gain m r h k.0 s.packed ok in omega arith; counted = counted_struck r h k.0 ok; capacity = refl }

-- ---- over a run

pub record Tallied (b : Beginning) (cs : List Call) : Type 0 where
  pub few : (run b cs).register.count ≤ count (at b cs) + (b.register.count + entries cs)
  pub counted : Counted (run b cs).register
  pub capacity : (run b cs).register.capacity ≡ b.register.capacity

pub run_tallied : (b : Beginning) → Counted b.register → (cs : List Call) → (at b cs).ended ≡ false → Tallied b cs
run_tallied b ok cs e =
    let g = go cs e in let t = tally_le (at b cs).memory (run b cs).register (at b cs).packed in let l = g.0 in
    record { few = omega arith; counted = g.1; capacity = g.2 }
  where
    go : (cs : List Call) → (at b cs).ended ≡ false →
        ((run b cs).register.count ≤ tally (at b cs).memory (run b cs).register (at b cs).packed + (b.register.count + entries cs)) × Counted (run b cs).register × ((run b cs).register.capacity ≡ b.register.capacity)
    go [] e = (omega arith, ok, refl)
    go (c ∷ cs) e =
        let called = run_called b c cs in
        let before = called.stays e in
        let a = go cs before in
        let g = effect_gain (span b) c (at b cs) (run_sound b cs) (run b cs).register a.1 (at b (c ∷ cs)).memory (called.kept (e ∙ sym before)) (call_effect c (at b cs) (run b cs).register (run b cs).answers) in
        let x = a.0 in let y = g.gained in
        (omega arith, g.counted, g.capacity ∙ a.2)
