-- In a live run the tails that open objects recorded are edges of the stack of packed objects, and their heads rise inward.
use Rattle.std.proofs.Common.{◌≡◌, ℕ, ◌≤◌, Bool, cond, not, ◌||◌, ltb, ◌⊎◌, List, [], ◌∷◌, ◌++◌, length, Some, Option, Ok, Err, Result, sym, refl, ap, ◌∙◌, subst, inl, inr, arith}
use Rattle.cursor.specs.Flags.{other, joined, hard}
use Rattle.register.specs.Pairs.{Pairs, struck}
use Rattle.std.proofs.lemmas.List.{append_assoc}
use Rattle.std.proofs.lemmas.Bool.{ltb-true, eq-eqb, or_parts, cases_eq}
use Rattle.model.specs.declared.limit.Limit.{Limit}
use Rattle.model.specs.declared.snapshot.Snapshot.{Snapshot}
use Rattle.model.specs.State.{State, Object, Pool, numbered, slot_back, links_of, with_flags, with_opened}
use Rattle.model.specs.Declining.{flagged, idle}
use Rattle.model.specs.Closing.{Out, out, object_hash, moved}
use Rattle.model.specs.Rewinding.{Discarded, discard, rewound, discard_first, pop_discard, snapshot, open_slot, same_slot, cut_first, cut, revert_snapshot}
use Rattle.model.specs.New.{checked, begun}
use Rattle.model.specs.Run.{Call, Answer, Beginning, run, revert_to}
use Rattle.model.specs.Run.Call.{Snap}
use Rattle.model.specs.Moments.{at, span, depth, role}
use Rattle.model.specs.Liveness.{Live, MayRevert, LiveRun}
use Rattle.model.specs.Stacking.{Stacked, lowest}
use Rattle.model.specs.Edges.{Edges}
use Rattle.model.proofs.Split.{by_test}
use Rattle.model.proofs.Flag.{zero_flags}
use Rattle.model.proofs.Number.{numbered_here, numbered_at, numbered_is, numbered_there, numbered_below, numbered_first}
use Rattle.model.proofs.Sound.{Tails, SoundState, lowest_le, under_end}
use Rattle.model.proofs.Packing.{not_hard, discard_stacked, edge_lowest}
use Rattle.model.proofs.Stack.{run_sound, numbered_above}
use Rattle.model.proofs.Last.{relent_still}
use Rattle.model.proofs.Effect.{Relent, Turns, Effect}
use Rattle.model.proofs.Change.{call_effect}
use Rattle.model.proofs.Effect.Effect.{same, opens, links, orders, lends, closes, packs, packs_entered, shares, drops, drops_back, cuts, cuts_back, enters, strikes}
use Rattle.model.proofs.Moment.{Throughout, throughout_here, throughout_drop, Turning, turning, live_taken}
use Rattle.model.proofs.Moment.Turning.{ahead, back, away}
use Rattle.model.proofs.Nest.{Within, nest, since_live}

-- ---- edges of the stack

-- the end, or where a packed object starts
abbrev Edge : ℕ → List Object → ℕ → Type 0
Edge n ps t = (t ≡ n) ⊎ ((k : ℕ) × (p : Object) × (numbered ps k ≡ Some p) × (p.head ≡ t))

edge_low : (n : ℕ) (ps : List Object) (t : ℕ) → Stacked n ps → Edge n ps t → lowest n ps ≤ t
edge_low n ps t st (inl e) = let l = lowest_le n ps st in omega arith
edge_low n ps t st (inr e) = let l = numbered_above n ps st e.0 e.1 e.2 in let z = e.3 in omega arith

lowest_edge : (n : ℕ) (ps : List Object) → Edge n ps (lowest n ps)
lowest_edge n [] = inl refl
lowest_edge n (p ∷ ps) = inr (length ps, p, numbered_here p ps, refl)

edge_more : (n : ℕ) (o : Object) (ps : List Object) (t : ℕ) → Edge n ps t → Edge n (o ∷ ps) t
edge_more n o ps t (inl e) = inl e
edge_more n o ps t (inr e) = let l = numbered_below ps e.0 e.1 e.2 in inr (e.0, e.1, numbered_there o ps e.0 (λ z. omega arith) ∙ e.2, e.3)

edge_relent : (n : ℕ) (ps qs : List Object) → Relent ps qs → (t : ℕ) → Edge n ps t → Edge n qs t
edge_relent n ps qs v t (inl e) = inl e
edge_relent n ps qs v t (inr e) = let w = relent_still ps qs v e.0 e.1 e.2 in inr (e.0, w.object, w.named, w.head ∙ e.3)

-- an edge at or above t is left by a discard down to t
edge_left : (n : ℕ) (m : List ℕ) (t : ℕ) (ps : List Object) (p : Pool) (r : Pairs) (u : ℕ) → t ≤ u → Edge n ps u → Edge n (discard m t ps p r).left u
edge_left n m t [] p r u l e = e
edge_left n m t (o ∷ os) p r u l (inl e) = inl e
edge_left n m t (o ∷ os) p r u l (inr e) = by_test (ltb o.head t) _ _ (λ (x : Discarded). Edge n x.left u)
    (λ h. elim (cases_eq (length os) e.0) [
      | inl z ↦ let v = numbered_first o e.1 os e.0 z e.2 in absurd (let y = ltb-true o.head t h in let x = ap (λ (x : Object). x.head) v in let w = e.3 in omega arith)
      | inr z ↦ edge_left n m t os (slot_back p o.slot (links_of o)) (struck r (object_hash m o) (length os)) u l (inr (e.0, e.1, sym (numbered_there o os e.0 z) ∙ e.2, e.3))
    ])
    (λ h. inr e)

-- a discard down to an edge ends there
discard_meets : (n : ℕ) (m : List ℕ) (t : ℕ) (ps : List Object) (p : Pool) (r : Pairs) → t ≤ n → Stacked n ps → Edge n ps t → lowest n (discard m t ps p r).left ≡ t
discard_meets n m t ps p r l st e =
    let d = discard_stacked m n t ps p r l st in
    let x = edge_low n (discard m t ps p r).left t d.0 (edge_left n m t ps p r t (omega arith) e) in
    let y = d.1 in omega arith

-- ---- open objects by what they recorded

abbrev marks : List Object → List (ℕ × ℕ)
marks [] = []
marks (o ∷ os) = (o.head, o.tail) ∷ marks os

-- each recorded tail is at or above t
abbrev Above : ℕ → List (ℕ × ℕ) → Type 0
Above t [] = Unit {0}
Above t (x ∷ xs) = (t ≤ x.1) × Above t xs

-- heads rise inward up to h, tails fall inward, and each is an edge
abbrev Poised : ℕ → List Object → ℕ → List (ℕ × ℕ) → Type 0
Poised n ps h [] = Unit {0}
Poised n ps h (x ∷ xs) = (x.0 ≤ h) × Edge n ps x.1 × Above x.1 xs × Poised n ps x.0 xs

poised_head : (n : ℕ) (ps : List Object) (h h' : ℕ) (xs : List (ℕ × ℕ)) → h ≤ h' → Poised n ps h xs → Poised n ps h' xs
poised_head n ps h h' [] l d = tt
poised_head n ps h h' (x ∷ xs) l d = ((let z = d.0 in omega arith), d.1, d.2, d.3)

poised_packed : (n : ℕ) (ps qs : List Object) (t : ℕ) → ((u : ℕ) → t ≤ u → Edge n ps u → Edge n qs u) → (h : ℕ) (xs : List (ℕ × ℕ)) → Above t xs → Poised n ps h xs → Poised n qs h xs
poised_packed n ps qs t f h [] a d = tt
poised_packed n ps qs t f h (x ∷ xs) a d = (d.0, f x.1 a.0 d.1, d.2, poised_packed n ps qs t f x.0 xs a.1 d.3)

above_zero : (xs : List (ℕ × ℕ)) → Above 0 xs
above_zero [] = tt
above_zero (x ∷ xs) = (omega arith, above_zero xs)

-- what lies at or below the lowest lies below every recorded tail
above_low : (n : ℕ) (ps : List Object) (t : ℕ) → Stacked n ps → t ≤ lowest n ps → (h : ℕ) (xs : List (ℕ × ℕ)) → Poised n ps h xs → Above t xs
above_low n ps t st l h [] d = tt
above_low n ps t st l h (x ∷ xs) d = ((let z = edge_low n ps x.1 st d.1 in omega arith), above_low n ps t st l x.0 xs d.3)

cut_marks : (a b : ℕ) (os : List Object) → marks (cut_first a b os) ≡ marks os
cut_marks a b [] = refl
cut_marks a b (o ∷ os) = refl

-- the same records at every level
marks_same : (os qs : List Object) → length os ≡ length qs → ((j : ℕ) (o q : Object) → numbered os j ≡ Some o → numbered qs j ≡ Some q → (q.head ≡ o.head) × (q.tail ≡ o.tail)) → marks os ≡ marks qs
marks_same [] [] l f = refl
marks_same [] (q ∷ qs) l f = absurd (omega arith)
marks_same (o ∷ os) [] l f = absurd (omega arith)
marks_same (o ∷ os) (q ∷ qs) l f =
    let n : length os ≡ length qs = omega arith in
    let e = f (length qs) o q (numbered_at o os (length qs) n) (numbered_here q qs) in
    let ih = marks_same os qs n (λ j p v x y. let a = numbered_below os j p x in let b = numbered_below qs j v y in f j p v (numbered_there o os j (λ z. omega arith) ∙ x) (numbered_there q qs j (λ z. omega arith) ∙ y)) in
    λ i. (sym e.0 i, sym e.1 i) ∷ ih i

abbrev PoisedState : ℕ → State → Type 0
PoisedState n s = Poised n s.packed s.head (marks s.opened)

-- ---- over a call that reverts nothing

module _ (n : ℕ) (c : Call) (s : State) (sound : SoundState n s) (r : Pairs) (m : List ℕ) (h : ℕ) (plain : Turns (role c) → ⊥) (d : PoisedState n s) where
  -- the innermost closed
  inner : (o : Object) (os : List Object) → s.opened ≡ o ∷ os → (o.head ≤ s.head) × Edge n s.packed o.tail × Above o.tail (marks os) × Poised n s.packed o.head (marks os)
  inner o os is = subst (λ (x : List Object). Poised n s.packed s.head (marks x)) is d

  outer : (o : Object) (os : List Object) → s.opened ≡ o ∷ os → h ≡ s.head → Poised n s.packed h (marks os)
  outer o os is e = let i = inner o os is in poised_head n s.packed o.head h (marks os) (let z = i.0 in omega arith) i.3

  returned : (o : Object) (os : List Object) → s.opened ≡ o ∷ os → h ≡ o.head → Poised n s.packed h (marks os)
  returned o os is e = poised_head n s.packed o.head h (marks os) (omega arith) (inner o os is).3

  more : (o p : Object) (os : List Object) → s.opened ≡ o ∷ os → h ≡ o.head → Poised n (p ∷ s.packed) h (marks os)
  more o p os is e = poised_packed n s.packed (p ∷ s.packed) 0 (λ u l. edge_more n p s.packed u) h (marks os) (above_zero (marks os)) (returned o os is e)

  relent : (ps : List Object) → Relent s.packed ps → (xs : List (ℕ × ℕ)) → Poised n s.packed h xs → Poised n ps h xs
  relent ps v xs p = poised_packed n s.packed ps 0 (λ u l. edge_relent n s.packed ps v u) h xs (above_zero xs) p

  stays : h ≡ s.head → Poised n s.packed h (marks s.opened)
  stays e = poised_head n s.packed s.head h (marks s.opened) (omega arith) d

  changed : (o : Object) (os : List Object) → s.opened ≡ o ∷ os → h ≡ s.head → Poised n s.packed h (marks (o ∷ os))
  changed o os is e = subst (λ (z : List Object). Poised n s.packed h (marks z)) is (stays e)

  effect_poised : {a : Answer} {os ps : List Object} {p : Pool} {r' : Pairs} → Effect c s r m h a os ps p r' → Poised n ps h (marks os)
  effect_poised (same l) = poised_head n s.packed s.head h (marks s.opened) l d
  effect_poised (opens f u e) =
      let t : s.tail ≡ lowest n s.packed = not_hard n s sound (ap hard (zero_flags s f)) in
      (omega arith, subst (Edge n s.packed) (sym t) (lowest_edge n s.packed), above_low n s.packed s.tail sound.stacked sound.under s.head (marks s.opened) d, d)
  effect_poised (links o os l k is e b) = changed o os is e
  effect_poised (orders o os l k is e) = changed o os is e
  effect_poised (lends ps k e v) = relent ps v (marks s.opened) (stays e)
  effect_poised (closes o os is e) = outer o os is e
  effect_poised (packs o os is e) = more o (moved o s) os is e
  effect_poised (packs_entered o os is e v) = more o (moved o s) os is e
  effect_poised (shares o os ps is e v) = relent ps v (marks os) (returned o os is e)
  effect_poised (drops o os is e) = outer o os is e
  effect_poised (drops_back o os is e v) =
      poised_packed n s.packed _ o.tail (λ u l. edge_left n s.memory o.tail s.packed s.pool r u l) h (marks os) (inner o os is).2 (returned o os is e)
  effect_poised (cuts v x y k) = absurd (plain v)
  effect_poised (cuts_back v x y k t w) = absurd (plain v)
  effect_poised (enters g k e f) = stays f
  effect_poised (strikes g k e f) = stays f

-- ---- flags after a rewind

-- s as it is rewound: the flags stay where tail meets an edge
rewound_flags : (n : ℕ) (s : State) (r : Pairs) (h t : ℕ) → length s.memory ≡ n → Stacked n s.packed → t ≤ n → Edge n s.packed t → (rewound h t s r).state.flags ≡ s.flags
rewound_flags n s r h t sized st l e =
    let ps = (discard s.memory t s.packed s.pool r).left in
    let z : (elim ps [ [] ↦ length s.memory | p ∷ qs ↦ p.head ]) ≡ t = edge_lowest n s.memory ps sized ∙ discard_meets n s.memory t s.packed s.pool r l st e in
    ap (λ (b : Bool). cond b s.flags (joined s.flags other)) (eq-eqb _ t z)

discard_flags : (n : ℕ) (s : State) → SoundState n s → PoisedState n s → (r : Pairs) → (pop_discard s r).state.flags ≡ s.flags
discard_flags n s sound d r = by_test (idle s) _ _ (λ (x : Out (Unit {0})). x.state.flags ≡ s.flags) (λ e. refl) (λ e. first s.opened refl)
  where
    first : (os : List Object) → s.opened ≡ os → (discard_first os s r).state.flags ≡ s.flags
    first [] e = refl
    first (o ∷ os) is =
        let i : (o.head ≤ s.head) × Edge n s.packed o.tail × Above o.tail (marks os) × Poised n s.packed o.head (marks os) = subst (λ (x : List Object). Poised n s.packed s.head (marks x)) is d in
        let l : o.tail ≤ n = (subst (Tails n) is sound.tails).0 in
        let s₁ = with_opened s os s.pool in
        by_test (flagged s₁ || (ltb s.head o.head || ltb o.tail s.tail)) (out s₁ r tt) (rewound o.head o.tail s₁ r) (λ (x : Out (Unit {0})). x.state.flags ≡ s.flags)
        (λ e. refl) (λ e. rewound_flags n s₁ r o.head o.tail sound.sized sound.stacked l i.1)

-- ---- a live revert

module _ (n : ℕ) (t s : State) (r : Pairs) (sound-t : SoundState n t) (sound : SoundState n s) (u : Within t s) (level : depth t ≡ depth s) (dt : PoisedState n t) (d : PoisedState n s) where
  abbrev p : Snapshot
  p = snapshot t

  abbrev s₁ : State
  s₁ = cut p.num_real_links p.num_virtual_links (with_flags s p.errors)

  same_marks : marks t.opened ≡ marks s₁.opened
  same_marks = marks_same t.opened s.opened level (λ j o q x y. u.levels j o q x y) ∙ sym (cut_marks p.num_real_links p.num_virtual_links s.opened)

  -- an edge of then is an edge still
  edge_still : (v : ℕ) → Edge n t.packed v → Edge n s.packed v
  edge_still v (inl e) = inl e
  edge_still v (inr e) =
      let l = numbered_below t.packed e.0 e.1 e.2 in
      let q = numbered_is s.packed e.0 (let z = u.fewer in omega arith) in
      inr (e.0, q.0, q.1, u.stand e.0 e.1 q.0 e.2 q.1 ∙ e.3)

  under : t.tail ≤ n
  under = under_end n t sound-t

  cut_poised : PoisedState n s₁
  cut_poised = subst (Poised n s.packed s.head) (sym (cut_marks p.num_real_links p.num_virtual_links s.opened)) d

  back_poised : PoisedState n (rewound t.head t.tail s₁ r).state
  back_poised = subst (Poised n (discard s.memory t.tail s.packed s₁.pool r).left t.head) same_marks
      (poised_packed n s.packed _ t.tail (λ v l. edge_left n s.memory t.tail s.packed s₁.pool r v l) t.head (marks t.opened)
      (above_low n t.packed t.tail sound-t.stacked sound-t.under t.head (marks t.opened) dt)
      (poised_packed n t.packed s.packed 0 (λ v l. edge_still v) t.head (marks t.opened) (above_zero (marks t.opened)) dt))

  reverted_poised : PoisedState n (revert_snapshot p s r).state
  reverted_poised = by_test (idle s || (not (same_slot p.current (open_slot s)) || ltb (length s.memory) p.tail)) _ _ (λ (x : Out (Unit {0})). PoisedState n x.state) (λ e. d)
      (λ e. by_test (flagged s₁ || (ltb s.head t.head || ltb t.tail s.tail)) (out s₁ r tt) (rewound t.head t.tail s₁ r) (λ (x : Out (Unit {0})). PoisedState n x.state) (λ e. cut_poised) (λ e. back_poised))

  reverted_flags : ((revert_snapshot p s r).state.flags ≡ s.flags) ⊎ ((revert_snapshot p s r).state.flags ≡ t.flags)
  reverted_flags = by_test (idle s || (not (same_slot p.current (open_slot s)) || ltb (length s.memory) p.tail)) _ _ (λ (x : Out (Unit {0})). (x.state.flags ≡ s.flags) ⊎ (x.state.flags ≡ t.flags)) (λ e. inl refl)
      (λ e. inr (by_test (flagged s₁ || (ltb s.head t.head || ltb t.tail s.tail)) (out s₁ r tt) (rewound t.head t.tail s₁ r) (λ (x : Out (Unit {0})). x.state.flags ≡ t.flags) (λ e. refl)
      (λ f. let clean = zero_flags t (or_parts (flagged s₁) (ltb s.head t.head || ltb t.tail s.tail) f).0 in
      let meets : t.tail ≡ lowest n t.packed = not_hard n t sound-t (ap hard clean) in
      rewound_flags n s₁ r t.head t.tail sound.sized sound.stacked under (edge_still t.tail (subst (Edge n t.packed) (sym meets) (lowest_edge n t.packed))))))

-- ---- over a run

begun_poised : (x : Result (Unit {0}) Limit) (size slots cells n : ℕ) → PoisedState n (begun x size slots cells)
begun_poised (Ok u) size slots cells n = tt
begun_poised (Err l) size slots cells n = tt

module _ (b : Beginning) where
  abbrev Fine : List Call → Type 0
  Fine cs = PoisedState (span b) (at b cs)

  -- at the moment of a live snapshot
  then : (cs : List Call) → Throughout Fine cs → (j : ℕ) (live : Live b j cs) → Fine live.before
  then cs all j live = throughout_here Fine live.before (throughout_drop Fine (live.since ++ (Snap ∷ [])) live.before
      (subst (Throughout Fine) (live.made ∙ sym (append_assoc live.since (Snap ∷ []) live.before)) all))

  next : (c : Call) (cs : List Call) → Turning c → MayRevert b (role c) cs → LiveRun b cs → Throughout Fine cs → Fine (c ∷ cs)
  next c cs (ahead plain) live run-live all =
      effect_poised (span b) c (at b cs) (run_sound b cs) (run b cs).register (at b (c ∷ cs)).memory (at b (c ∷ cs)).head plain (throughout_here Fine cs all) (call_effect c (at b cs) (run b cs).register (run b cs).answers)
  next c cs (back j) live run-live all =
      subst (λ (x : Option Snapshot). PoisedState (span b) (revert_to x (at b cs) (run b cs).register).state) (sym (live_taken b j cs live))
      (reverted_poised (span b) (at b live.before) (at b cs) (run b cs).register (run_sound b live.before) (run_sound b cs) (since_live b cs (nest b cs run-live) j live) (sym live.again) (then cs all j live) (throughout_here Fine cs all))
  next c cs (away p) live run-live all = absurd live

  all_fine : (cs : List Call) → LiveRun b cs → Throughout Fine cs
  all_fine [] live = begun_poised (checked b.size b.slots b.cells b.register.capacity) b.size b.slots b.cells (span b)
  all_fine (c ∷ cs) live = let ih = all_fine cs live.1 in (next c cs (turning c) live.0 live.1 ih, ih)

  fine : (cs : List Call) → LiveRun b cs → Fine cs
  fine cs live = throughout_here Fine cs (all_fine cs live)

pub edges : Edges
edges = record {
  above = λ b cs live o os is. (subst (λ (x : List Object). Poised (span b) (at b cs).packed (at b cs).head (marks x)) is (fine b cs live)).0;
  discards = λ b cs live. discard_flags (span b) (at b cs) (run_sound b cs) (fine b cs live) (run b cs).register;
  reverts = λ b cs run-live j live.
      subst (λ (x : Option Snapshot). ((revert_to x (at b cs) (run b cs).register).state.flags ≡ (at b cs).flags) ⊎ ((revert_to x (at b cs) (run b cs).register).state.flags ≡ (at b live.before).flags)) (sym (live_taken b j cs live))
      (reverted_flags (span b) (at b live.before) (at b cs) (run b cs).register (run_sound b live.before) (run_sound b cs) (since_live b cs (nest b cs run-live) j live) (sym live.again) (then b cs (all_fine b cs run-live) j live) (fine b cs run-live));
}
