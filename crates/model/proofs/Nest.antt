-- In a live run no call digs below the moment at which a still open object was opened, or a live snapshot taken: what was packed then stays, and head does not fall below.
use Rattle.std.proofs.Common.{◌≡◌, ℕ, suc, ◌<◌, ◌≤◌, min, not, ◌||◌, eqb, ltb, ◌⊎◌, List, [], ◌∷◌, ◌++◌, length, take, Some, Option, sym, refl, ap, ◌∙◌, subst, subst₂, inl, inr, arith, length-take}
use Rattle.register.specs.Pairs.{Pairs}
use Rattle.std.proofs.lemmas.List.{append_assoc}
use Rattle.std.proofs.lemmas.Bool.{eqb-true, eqb-false, cases_Bool}
use Rattle.model.specs.declared.snapshot.Snapshot.{Snapshot}
use Rattle.model.specs.State.{State, Object, numbered, with_flags}
use Rattle.model.specs.Declining.{flagged, idle}
use Rattle.model.specs.Closing.{Out, out}
use Rattle.model.specs.Rewinding.{discard, rewound, snapshot, real_count, open_slot, same_slot, cut_first, cut, revert_snapshot}
use Rattle.model.specs.Run.{Call, Beginning, run, revert_to}
use Rattle.model.specs.Run.Call.{Snap, Revert}
use Rattle.model.specs.Moments.{at, span, depth, count, Through, role}
use Rattle.model.specs.Liveness.{NotOlder, NoneOlder, Live, MayRevert, LiveRun}
use Rattle.model.proofs.Split.{by_test}
use Rattle.model.proofs.Number.{none_some, some_inj, numbered_is, numbered_at, numbered_here, numbered_there, numbered_below, numbered_first}
use Rattle.model.proofs.Sound.{SoundState}
use Rattle.model.proofs.Stack.{run_sound, numbered_above}
use Rattle.model.proofs.Last.{Persist, persist_same, discard_persist}
use Rattle.model.proofs.Slot.{cut_length}
use Rattle.model.proofs.Effect.{Turns}
use Rattle.model.proofs.Change.{call_effect}
use Rattle.model.proofs.Grow.{Step, discard_floor, effect_step}
use Rattle.model.proofs.Moment.{Throughout, throughout_here, throughout_drop, Turning, turning, through_here, through_split, through_snoc, split_two, older_snoc, live_taken}
use Rattle.model.proofs.Moment.Turning.{ahead, back, away}

-- ---- within

-- s came from s₀ and did not dig below it
pub record Within (s₀ s : State) : Type 0 where
  pub fewer : count s₀ ≤ count s
  pub above : (k : ℕ) (p : Object) → k < count s₀ → numbered s.packed k ≡ Some p → s₀.tail ≤ p.head
  pub tails : (j : ℕ) (o : Object) → depth s₀ ≤ j → numbered s.opened j ≡ Some o → (k : ℕ) (p : Object) → k < count s₀ → numbered s.packed k ≡ Some p → o.tail ≤ p.head
  pub links : (j : ℕ) (o₀ o : Object) → suc j ≡ depth s₀ → numbered s₀.opened j ≡ Some o₀ → numbered s.opened j ≡ Some o → length o₀.real ≤ length o.real
  pub levels : (j : ℕ) (o₀ o : Object) → numbered s₀.opened j ≡ Some o₀ → numbered s.opened j ≡ Some o → (o.head ≡ o₀.head) × (o.tail ≡ o₀.tail)
  pub stand : (k : ℕ) (p₀ p : Object) → numbered s₀.packed k ≡ Some p₀ → numbered s.packed k ≡ Some p → p.head ≡ p₀.head
  pub forward : s₀.head ≤ s.head
  pub heads : (j : ℕ) (o : Object) → depth s₀ ≤ j → numbered s.opened j ≡ Some o → s₀.head ≤ o.head

within_same : (n : ℕ) (s : State) → SoundState n s → Within s s
within_same n s d = record {
  fewer = omega arith;
  above = λ k p l e. let a = numbered_above n s.packed d.stacked k p e in omega (arith, d.under);
  tails = λ j o l e. absurd (let b = numbered_below s.opened j o e in omega arith);
  links = λ j o₀ o l e f. let g = some_inj o₀ o (sym e ∙ f) in subst (λ (x : Object). length o₀.real ≤ length x.real) g (omega arith);
  levels = λ j o₀ o e f. let g = some_inj o o₀ (sym f ∙ e) in (ap (λ (x : Object). x.head) g, ap (λ (x : Object). x.tail) g);
  stand = λ k p₀ p e f. ap (λ (x : Object). x.head) (some_inj p p₀ (sym f ∙ e));
  forward = omega arith;
  heads = λ j o l e. absurd (let b = numbered_below s.opened j o e in omega arith);
}

-- a packed object that stands came from one at the same place
came_from : (ps ps' : List Object) → Persist ps ps' → (k : ℕ) (p' : Object) → k < length ps → numbered ps' k ≡ Some p' → (p : Object) × (numbered ps k ≡ Some p) × (p'.head ≡ p.head)
came_from ps ps' per k p' l e =
    let q = numbered_is ps k l in
    let t = per k q.0 q.1 (numbered_below ps' k p' e) in
    (q.0, q.1, ap (λ (x : Object). x.head) (some_inj p' t.object (sym e ∙ t.named)) ∙ t.head)

-- each open object after recorded what one before did, or head and tail now
abbrev Levels : State → List Object → Type 0
Levels s os = (j : ℕ) (o' : Object) → numbered os j ≡ Some o' → ((o : Object) × (numbered s.opened j ≡ Some o) × (o'.head ≡ o.head) × (o'.tail ≡ o.tail)) ⊎ ((j ≡ depth s) × (o'.head ≡ s.head) × (o'.tail ≡ s.tail))

abbrev Links : State → List Object → Type 0
Links s₀ os = (j : ℕ) (o₀ o : Object) → suc j ≡ depth s₀ → numbered s₀.opened j ≡ Some o₀ → numbered os j ≡ Some o → length o₀.real ≤ length o.real

module _ (n : ℕ) (s₀ s s' : State) (d : SoundState n s) (w : Within s₀ s) (deep₀ : depth s₀ ≤ depth s) (deep : depth s₀ ≤ depth s') where
  less : (k : ℕ) → k < count s₀ → k < count s
  less k l = omega (arith, w.fewer)

  within_core : Levels s s'.opened → Links s₀ s'.opened → count s₀ ≤ count s' → Persist s.packed s'.packed → s₀.head ≤ s'.head → Within s₀ s'
  within_core g links fewer per forward = record {
    fewer = fewer;
    above = λ k p l e. let q = came_from s.packed s'.packed per k p (less k l) e in subst (λ (x : ℕ). s₀.tail ≤ x) (sym q.2) (w.above k q.0 l q.1);
    tails = λ j o l e k p u f.
        let q = came_from s.packed s'.packed per k p (less k u) f in
        subst (λ (x : ℕ). o.tail ≤ x) (sym q.2)
        (elim (g j o e) [
          | inl v ↦ subst (λ (x : ℕ). x ≤ q.0.head) (sym v.3) (w.tails j v.0 l v.1 k q.0 u q.1)
          | inr v ↦ subst (λ (x : ℕ). x ≤ q.0.head) (sym v.2) (let a = numbered_above n s.packed d.stacked k q.0 q.1 in omega (arith, d.under))
        ]);
    links = links;
    levels = λ j o₀ o e f. elim (g j o f) [
      | inl v ↦ let x = w.levels j o₀ v.0 e v.1 in (v.2 ∙ x.0, v.3 ∙ x.1)
      | inr v ↦ absurd (let z : j ≡ depth s = v.0 in let y = numbered_below s₀.opened j o₀ e in omega arith)
    ];
    stand = λ k p₀ p e f.
        let q = came_from s.packed s'.packed per k p (less k (numbered_below s₀.packed k p₀ e)) f in
        q.2 ∙ w.stand k p₀ q.0 e q.1;
    forward = forward;
    heads = λ j o l e. elim (g j o e) [
      | inl v ↦ subst (λ (x : ℕ). s₀.head ≤ x) (sym v.2) (w.heads j v.0 l v.1)
      | inr v ↦ subst (λ (x : ℕ). s₀.head ≤ x) (sym v.1) w.forward
    ];
  }

  within_step : Step s s'.head s'.opened s'.packed → Within s₀ s'
  within_step st = within_core
      (λ j o e. elim (st.grown j o e) [ inl v ↦ inl (v.0, v.1, v.2.head, v.2.tail) | inr v ↦ inr v ])
      (λ j o₀ o l e f. elim (st.grown j o f) [
        | inl v ↦ let a = w.links j o₀ v.0 l e v.1 in let b = v.2.links in omega arith
        | inr v ↦ absurd (let z : j ≡ depth s = v.0 in omega arith)
      ])
      (st.floor (count s₀) w.fewer (λ lt o os e k p l f. w.tails (length os) o (let z = ap length e in omega arith) (ap (λ (x : List Object). numbered x (length os)) e ∙ numbered_here o os) k p l f))
      st.persist
      (elim st.moves [
        | inl l ↦ let a = w.forward in omega arith
        | inr v ↦ let a = w.heads (depth s') v.0 deep (ap (λ (x : List Object). numbered x (depth s')) v.1 ∙ numbered_here v.0 s'.opened) in let b = v.2 in omega arith
      ])

-- ---- reverting

pub cut_level : (a b : ℕ) (os : List Object) (j : ℕ) (o' : Object) → numbered (cut_first a b os) j ≡ Some o' →
    (o : Object) × (numbered os j ≡ Some o) × (o'.head ≡ o.head) × (o'.tail ≡ o.tail) × (((suc j ≡ length os) × (o'.real ≡ take a o.real)) ⊎ (o'.real ≡ o.real))
cut_level a b [] j o' e = absurd (none_some o' e)
cut_level a b (o ∷ os) j o' e = elim (cases_Bool (eqb (length os) j)) [
  | inl u ↦ let g = eqb-true (length os) j u in
      let v = numbered_first _ o' os j g e in
      (o, numbered_at o os j g, sym (ap (λ (x : Object). x.head) v), sym (ap (λ (x : Object). x.tail) v), inl (ap suc (sym g), sym (ap (λ (x : Object). x.real) v)))
  | inr u ↦ let ne = eqb-false (length os) j u in (o', numbered_there o os j ne ∙ (sym (numbered_there _ os j ne) ∙ e), refl, refl, inr refl)
]

pub snap_real : (os : List Object) (j : ℕ) (o : Object) → suc j ≡ length os → numbered os j ≡ Some o → real_count os ≡ length o.real
snap_real [] j o l e = absurd (none_some o e)
snap_real (q ∷ os) j o l e = let g : length os ≡ j = omega arith in ap (λ (x : Object). length x.real) (numbered_first q o os j g e)

module _ (n : ℕ) (s₀ t s : State) (r : Pairs) (d : SoundState n s) (w : Within s₀ s) (v : Within s₀ t) (u : Within t s)
    (deep₀ : depth s₀ ≤ depth t) (level : depth t ≡ depth s) where
  abbrev p : Snapshot
  p = snapshot t

  abbrev s₁ : State
  s₁ = cut p.num_real_links p.num_virtual_links (with_flags s p.errors)

  reverted_fewer : count s₀ ≤ length (discard s.memory t.tail s.packed s₁.pool r).left
  reverted_fewer = discard_floor s.memory t.tail s.packed s₁.pool r (count s₀) w.fewer (λ k q l e. u.above k q (let z = v.fewer in omega arith) e)

  reverted_links : Links s₀ s₁.opened
  reverted_links j o₀ o l e f =
      let c = cut_level p.num_real_links p.num_virtual_links s.opened j o f in
      let a = w.links j o₀ c.0 l e c.1 in
      elim c.4 [
        | inl y ↦ let x : suc j ≡ depth t = y.0 ∙ sym level in
            let q = numbered_is t.opened j (let z = x in omega arith) in
            let b = v.links j o₀ q.0 l e q.1 in
            let g = snap_real t.opened j q.0 x q.1 in
            let h : length o.real ≡ min (real_count t.opened) (length c.0.real) = ap length y.1 ∙ length-take (real_count t.opened) c.0.real in omega arith
        | inr y ↦ let h : length o.real ≡ length c.0.real = ap length y in omega arith
      ]

  reverted_levels : Levels s s₁.opened
  reverted_levels j o e = let c = cut_level p.num_real_links p.num_virtual_links s.opened j o e in inl (c.0, c.1, c.2, c.3)

  deep : depth s₀ ≤ depth s₁
  deep = let z = cut_length p.num_real_links p.num_virtual_links s.opened in omega arith

  within_revert : Within s₀ (revert_snapshot p s r).state
  within_revert = by_test (idle s || (not (same_slot p.current (open_slot s)) || ltb (length s.memory) p.tail)) _ _ (λ (x : Out (Unit {0})). Within s₀ x.state) (λ e. w)
      (λ e. by_test (flagged s₁ || (ltb s.head t.head || ltb t.tail s.tail)) (out s₁ r tt) (rewound t.head t.tail s₁ r) (λ (x : Out (Unit {0})). Within s₀ x.state)
      (λ e. within_core n s₀ s s₁ d w (omega arith) deep reverted_levels reverted_links w.fewer (persist_same s.packed) w.forward)
      (λ e. within_core n s₀ s (rewound t.head t.tail s₁ r).state d w (omega arith) deep reverted_levels reverted_links reverted_fewer (discard_persist s.memory t.tail s.packed s₁.pool r) v.forward))

-- ---- over a run

-- each of the calls reverts no snapshot older than the n-th call, or does nothing
abbrev pub Calm : Beginning → ℕ → List Call → List Call → Type 0
Calm b n [] before = Unit {0}
Calm b n (c ∷ since) before = (NotOlder n (role c) ⊎ (at b (c ∷ (since ++ before)) ≡ at b (since ++ before))) × Calm b n since before

calm_split : (b : Beginning) (n : ℕ) (xs ys before : List Call) → Calm b n (xs ++ ys) before → Calm b n ys before
calm_split b n [] ys before t = t
calm_split b n (c ∷ xs) ys before t = calm_split b n xs ys before t.1

pub calm_from : (b : Beginning) (n : ℕ) (xs before : List Call) → NoneOlder n xs → Calm b n xs before
calm_from b n [] before t = tt
calm_from b n (c ∷ xs) before t = (inl t.0, calm_from b n xs before t.1)

module _ (b : Beginning) where
  abbrev pub Undug : List Call → Type 0
  Undug cs = (before since : List Call) → cs ≡ since ++ before → Through (λ ds. depth (at b before) ≤ depth (at b ds)) since before → Calm b (length before) since before → Within (at b before) (at b cs)

  same : (cs before : List Call) → cs ≡ before → Within (at b before) (at b cs)
  same cs before e = subst (λ (x : List Call). Within (at b x) (at b cs)) e (within_same (span b) (at b cs) (run_sound b cs))

  -- from the moment of a live snapshot on
  pub since_live : (cs : List Call) → Throughout Undug cs → (j : ℕ) (live : Live b j cs) → Within (at b live.before) (at b cs)
  since_live cs all j live =
      let bs = live.before in
      let ys = live.since ++ (Snap ∷ []) in
      throughout_here Undug cs all bs ys (live.made ∙ sym (append_assoc live.since (Snap ∷ []) bs))
      (through_snoc (λ ds. depth (at b bs) ≤ depth (at b ds)) live.since Snap bs live.not_closed (omega arith))
      (calm_from b (length bs) ys bs (older_snoc (length bs) live.since Snap (subst (λ (x : ℕ). NoneOlder x live.since) (sym live.then) live.not_older) tt))

  module _ (cs : List Call) (all : Throughout Undug cs) (before since : List Call) (is : cs ≡ since ++ before)
      (t : Through (λ ds. depth (at b before) ≤ depth (at b ds)) since before) (o : Calm b (length before) since before) where
    w : Within (at b before) (at b cs)
    w = throughout_here Undug cs all before since is t o

    deep_now : depth (at b before) ≤ depth (at b cs)
    deep_now = subst (λ (x : List Call). depth (at b before) ≤ depth (at b x)) (sym is) (through_here (λ ds. depth (at b before) ≤ depth (at b ds)) since before t)

    plain : (c : Call) → (Turns (role c) → ⊥) → depth (at b before) ≤ depth (at b (c ∷ cs)) → Within (at b before) (at b (c ∷ cs))
    plain c n l = within_step (span b) (at b before) (at b cs) (at b (c ∷ cs)) (run_sound b cs) w deep_now l (effect_step n (call_effect c (at b cs) (run b cs).register (run b cs).answers))

    turned : (j : ℕ) → Live b j cs → length before ≤ j → Within (at b before) (at b (Revert j ∷ cs))
    turned j live l =
        let bs = live.before in
        let ys = live.since ++ (Snap ∷ []) in
        let made : cs ≡ ys ++ bs = live.made ∙ sym (append_assoc live.since (Snap ∷ []) bs) in
        let q = split_two since before ys bs (sym is ∙ made) (let z = live.then in omega arith) in
        let P : List Call → Type 0 = λ ds. depth (at b before) ≤ depth (at b ds) in
        let tm : Through P q.0 before = through_split P ys q.0 before (subst (λ (x : List Call). Through P x before) q.2 t) in
        let om : Calm b (length before) q.0 before = calm_split b (length before) ys q.0 before (subst (λ (x : List Call). Calm b (length before) x before) q.2 o) in
        let v : Within (at b before) (at b bs) = throughout_here Undug bs (throughout_drop Undug ys bs (subst (Throughout Undug) made all)) before q.0 q.1 tm om in
        let d₀ : depth (at b before) ≤ depth (at b bs) = subst (λ (x : List Call). depth (at b before) ≤ depth (at b x)) (sym q.1) (through_here P q.0 before tm) in
        subst (λ (x : Option Snapshot). Within (at b before) (revert_to x (at b cs) (run b cs).register).state) (sym (live_taken b j cs live))
        (within_revert (span b) (at b before) (at b bs) (at b cs) (run b cs).register (run_sound b cs) w v (since_live cs all j live) d₀ (sym live.again))

    next_by : (c : Call) → Turning c → MayRevert b (role c) cs → NotOlder (length before) (role c) → depth (at b before) ≤ depth (at b (c ∷ cs)) → Within (at b before) (at b (c ∷ cs))
    next_by c (ahead n) live l deep = plain c n deep
    next_by c (back j) live l _ = turned j live l
    next_by c (away p) live l _ = absurd live

    next : (c : Call) → MayRevert b (role c) cs → (NotOlder (length before) (role c) ⊎ (at b (c ∷ cs) ≡ at b cs)) → depth (at b before) ≤ depth (at b (c ∷ cs)) → Within (at b before) (at b (c ∷ cs))
    next c live (inl l) deep = next_by c (turning c) live l deep
    next c live (inr e) _ = subst (λ (x : State). Within (at b before) x) (sym e) w

  pub nest : (cs : List Call) → LiveRun b cs → Throughout Undug cs
  nest [] live = λ before since e t o. first before since e
    where
      first : (before since : List Call) → [] ≡ since ++ before → Within (at b before) (at b [])
      first before [] e = same [] before e
      first before (c ∷ since) e = absurd (let z = ap length e in omega arith)
  nest (c ∷ cs) live = (step (nest cs live.1), nest cs live.1)
    where
      step : Throughout Undug cs → Undug (c ∷ cs)
      step all before [] e t o = same (c ∷ cs) before e
      step all before (x ∷ since) e t o =
          let y : c ≡ x = cc in let f : cs ≡ since ++ before = cc in
          next cs all before since f t.1 o.1 c live.0 (subst₂ (λ (z : Call) (zs : List Call). NotOlder (length before) (role z) ⊎ (at b (z ∷ zs) ≡ at b zs)) (sym y) (sym f) o.0) (subst (λ (z : List Call). depth (at b before) ≤ depth (at b z)) (sym e) t.0)
