-- In a live run, what a link's number named when the link was added it names at every moment since.
use Rattle.std.proofs.Common.{◌≡◌, ℕ, suc, ◌<◌, ◌≤◌, not, ◌||◌, ltb, ◌⊎◌, List, [], ◌∷◌, ◌++◌, length, take, Some, Err, Option, sym, refl, ap, ◌∙◌, subst, inl, inr, arith, length-take}
use Rattle.link.specs.declared.Link.{Link}
use Rattle.register.specs.Pairs.{Pairs}
use Rattle.std.proofs.lemmas.List.{append_assoc}
use Rattle.std.proofs.lemmas.Bool.{cases_lt}
use Rattle.model.specs.declared.snapshot.Snapshot.{Snapshot}
use Rattle.model.specs.State.{State, Object, numbered, with_flags}
use Rattle.model.specs.Declining.{flagged, idle}
use Rattle.model.specs.Linking.{extend, link_tests, linking}
use Rattle.model.specs.Closing.{Out, out}
use Rattle.model.specs.Rewinding.{rewound, snapshot, real_count, open_slot, same_slot, cut_first, cut, revert_snapshot}
use Rattle.model.specs.Reading.{nth}
use Rattle.model.specs.Run.{Call, Beginning, run, revert_to}
use Rattle.model.specs.Run.Call.{Snap, Revert}
use Rattle.model.specs.Moments.{at, depth, count, Through, Role, role}
use Rattle.model.specs.Moments.Role.{Reverts, RevertsElsewhere, Enters, Plain}
use Rattle.model.specs.Liveness.{NotOlder, NoneOlder, Live, LiveRun}
use Rattle.model.specs.Offsets.{HasLink, adds, Added, Still}
use Rattle.model.proofs.Split.{by_test, guarded_keeps}
use Rattle.model.proofs.Number.{numbered_is, numbered_at, numbered_below, numbered_first, nth_below}
use Rattle.model.proofs.Last.{still_same, still_then, effect_persist}
use Rattle.model.proofs.Effect.{Turns}
use Rattle.model.proofs.Change.{call_effect}
use Rattle.model.proofs.Moment.{throughout_here, Turning, turning, through_here, through_split, through_snoc, through_join, through_map, split_two, older_split, older_snoc, live_drop, live_taken}
use Rattle.model.proofs.Moment.Turning.{ahead, back, away}
use Rattle.model.proofs.Nest.{Within, Calm, Undug, calm_from, nest, snap_real}

-- ---- what stands through calls

module _ (b : Beginning) where
  still_through : (n : ℕ) (since start : List Call) (c : Object) → Through (λ ds. n < count (at b ds)) since start → numbered (at b start).packed n ≡ Some c → Through (λ ds. Still (at b ds).packed n c) since start
  still_through n [] start c t e = still_same (at b start).packed n c e
  still_through n (x ∷ since) start c t e =
      let ih = still_through n since start c t.1 e in
      let ds = since ++ start in
      let q = through_here (λ ds. Still (at b ds).packed n c) since start ih in
      let w = effect_persist (call_effect x (at b ds) (run b ds).register (run b ds).answers) n q.object q.named t.0 in
      (still_then (at b (x ∷ ds)).packed n c q.object w q.slot q.head q.tail q.real, ih)

-- adding a link packs and discards nothing
adding_packs : (l : Link) (from to : ℕ) (b : Beginning) (cs : List Call) → (at b (adds l from to ∷ cs)).packed ≡ (at b cs).packed
adding_packs l from to b cs =
    guarded_keeps (λ x. x.packed ≡ (at b cs).packed) (λ x f p. p) (link_tests from to) Err (linking from to l.objidx l.whence l.bias l.is_signed) (at b cs) refl (λ h no. refl)

extend_depth : (l : Link) (os : List Object) → length (extend l os) ≡ length os
extend_depth l [] = refl
extend_depth l (o ∷ os) = refl

adding_depth : (l : Link) (from to : ℕ) (b : Beginning) (cs : List Call) → depth (at b (adds l from to ∷ cs)) ≡ depth (at b cs)
adding_depth l from to b cs =
    guarded_keeps (λ x. length x.opened ≡ depth (at b cs)) (λ x f p. p) (link_tests from to) Err (linking from to l.objidx l.whence l.bias l.is_signed) (at b cs) refl (λ h no. extend_depth _ (at b cs).opened)

-- ---- a link that is kept is not cut

cut_short : (n i : ℕ) (l : Link) (os : List Object) (a v : ℕ) → length os ≡ suc n → a ≤ i → HasLink (cut_first a v os) n i l → ⊥
cut_short n i l [] a v z u k = omega arith
cut_short n i l (o ∷ os) a v z u k =
    let e = numbered_first _ k.0 os n (omega arith) k.1 in
    let h : nth (take a o.real) i ≡ Some l = subst (λ (x : Object). nth x.real i ≡ Some l) (sym e) k.2 in
    let x = nth_below (take a o.real) i l h in let y = length-take a o.real in omega arith

-- a revert to fewer links than the link's place does nothing, if the link is there afterwards
cut_off : (n i : ℕ) (l : Link) (s t : State) (r : Pairs) → real_count t.opened ≤ i → depth s ≡ suc n → HasLink (revert_snapshot (snapshot t) s r).state.opened n i l → (revert_snapshot (snapshot t) s r).state ≡ s
cut_off n i l s t r u d =
    let p = snapshot t in let s₁ = cut p.num_real_links p.num_virtual_links (with_flags s p.errors) in
    by_test (idle s || (not (same_slot p.current (open_slot s)) || ltb (length s.memory) p.tail)) _ _ (λ (x : Out (Unit {0})). HasLink x.state.opened n i l → x.state ≡ s)
    (λ e k. refl)
    (λ e. by_test (flagged s₁ || (ltb s.head p.head || ltb p.tail s.tail)) (out s₁ r tt) (rewound p.head p.tail s₁ r) (λ (x : Out (Unit {0})). HasLink x.state.opened n i l → x.state ≡ s)
    (λ e k. absurd (cut_short n i l s.opened p.num_real_links p.num_virtual_links d u k))
    (λ e k. absurd (cut_short n i l s.opened p.num_real_links p.num_virtual_links d u k)))

-- ---- from the adding on

module _ (b : Beginning) (n i : ℕ) (l : Link) (adding : Call) (before : List Call) (parent : Object) (below : List Object) (opened : (at b before).opened ≡ parent ∷ below) (level : length below ≡ n) (next : length parent.real ≡ i) where
  abbrev start : List Call
  start = adding ∷ before

  abbrev Keep : List Call → Type 0
  Keep ds = HasLink (at b ds).opened n i l

  -- a revert of a snapshot from before the adding does nothing while the link is kept
  old_revert : (m : List Call) (j : ℕ) → LiveRun b (Revert j ∷ (m ++ start)) → j ≤ length before → Keep (m ++ start) → Keep (Revert j ∷ (m ++ start)) → at b (Revert j ∷ (m ++ start)) ≡ at b (m ++ start)
  old_revert m j run-live u now keep =
      let ds = m ++ start in
      let live : Live b j ds = run-live.0 in
      let bs = live.before in
      let ys = live.since ++ (Snap ∷ []) in
      let zs = m ++ (adding ∷ []) in
      let P : List Call → Type 0 = λ es. depth (at b bs) ≤ depth (at b es) in
      let made : ys ++ bs ≡ zs ++ before = append_assoc live.since (Snap ∷ []) bs ∙ (sym live.made ∙ sym (append_assoc m (adding ∷ []) before)) in
      let q = split_two ys bs zs before made (let z = live.then in omega arith) in
      let t : Through P q.0 bs = through_split P zs q.0 bs (subst (λ (x : List Call). Through P x bs) q.2 (through_snoc P live.since Snap bs live.not_closed (omega arith))) in
      let older : NoneOlder (length bs) ys = older_snoc (length bs) live.since Snap (subst (λ (x : ℕ). NoneOlder x live.since) (sym live.then) live.not_older) tt in
      let o : Calm b (length bs) q.0 bs = calm_from b (length bs) q.0 bs (older_split (length bs) zs q.0 (subst (NoneOlder (length bs)) q.2 older)) in
      let before-live : LiveRun b before = live_drop b (adding ∷ []) before (live_drop b m start run-live.1) in
      let w : Within (at b bs) (at b before) = throughout_here (Undug b) before (nest b before before-live) bs q.0 q.1 t o in
      let d₁ : depth (at b bs) ≤ depth (at b before) = subst (λ (x : List Call). depth (at b bs) ≤ depth (at b x)) (sym q.1) (through_here P q.0 bs t) in
      let d₂ : depth (at b before) ≡ suc n = ap length opened ∙ ap suc level in
      let d₃ : n < depth (at b ds) = numbered_below (at b ds).opened n now.0 now.1 in
      let again = live.again in
      let d₄ : suc n ≡ depth (at b bs) = omega arith in
      let o₀ = numbered_is (at b bs).opened n (omega arith) in
      let o₁ : numbered (at b before).opened n ≡ Some parent = ap (λ (x : List Object). numbered x n) opened ∙ numbered_at parent below n level in
      let le = w.links n o₀.0 parent d₄ o₀.1 o₁ in
      let sr = snap_real (at b bs).opened n o₀.0 d₄ o₀.1 in
      subst (λ (x : Option Snapshot). HasLink (revert_to x (at b ds) (run b ds).register).state.opened n i l → (revert_to x (at b ds) (run b ds).register).state ≡ at b ds)
      (sym (live_taken b j ds live)) (cut_off n i l (at b ds) (at b bs) (run b ds).register (omega arith) (omega arith)) keep

  calm : (m : List Call) → LiveRun b (m ++ start) → Through Keep m start → Calm b (length start) m start
  calm [] live t = tt
  calm (c ∷ m) live t = (one c (turning c) live t.0, calm m live.1 t.1)
    where
      unturned : (x : Role) → (Turns x → ⊥) → NotOlder (length start) x
      unturned (Reverts k) p = absurd (p tt)
      unturned RevertsElsewhere p = p tt
      unturned Enters p = tt
      unturned Plain p = tt

      one : (c : Call) → Turning c → LiveRun b (c ∷ (m ++ start)) → Keep (c ∷ (m ++ start)) → NotOlder (length start) (role c) ⊎ (at b (c ∷ (m ++ start)) ≡ at b (m ++ start))
      one c (ahead p) live keep = inl (unturned (role c) p)
      one c (back j) live keep = elim (cases_lt (length before) j) [
        | inl u ↦ inl u
        | inr u ↦ inr (old_revert m j live u (through_here Keep m start t.1) keep)
      ]
      one c (away p) live keep = absurd live.0

  deep_start : depth (at b start) ≡ suc n → (m : List Call) → Through Keep m start → Through (λ ds. depth (at b start) ≤ depth (at b ds)) m start
  deep_start d [] t = omega arith
  deep_start d (c ∷ m) t = ((let z = numbered_below (at b (c ∷ (m ++ start))).opened n t.0.0 t.0.1 in omega arith), deep_start d m t.1)

  -- what was packed when the link was added stays packed while it is kept
  counts : (m : List Call) → depth (at b start) ≡ suc n → LiveRun b (m ++ start) → Through Keep m start → Through (λ ds. count (at b start) ≤ count (at b ds)) m start
  counts [] d live t = omega arith
  counts (c ∷ m) d live t = (
    (throughout_here (Undug b) (c ∷ (m ++ start)) (nest b (c ∷ (m ++ start)) live) start (c ∷ m) refl (deep_start d (c ∷ m) t) (calm (c ∷ m) live t)).fewer,
    counts m d live.1 t.1,
  )

-- ---- to the end

pub child_stood : (b : Beginning) (cs : List Call) → LiveRun b cs → (k i : ℕ) (l : Link) (a : Added b cs k i l) (m : ℕ) (c : Object) → numbered (at b a.before).packed m ≡ Some c →
    Through (λ ds. Still (at b ds).packed m c) (a.since ++ (a.closing ∷ a.meanwhile)) (adds l a.range_from a.range_to ∷ a.before)
child_stood b cs live k i l a m c e =
    let adding = adds l a.range_from a.range_to in
    let start = adding ∷ a.before in
    let mid = a.meanwhile ++ start in
    let P : List Call → Type 0 = λ ds. m < count (at b ds) in
    let live' : LiveRun b (a.since ++ (a.closing ∷ mid)) = subst (LiveRun b) a.made live in
    let live-mid : LiveRun b mid = live_drop b (a.closing ∷ []) mid (live_drop b a.since (a.closing ∷ mid) live') in
    let d : depth (at b start) ≡ suc (length a.below) = adding_depth l a.range_from a.range_to b a.before ∙ ap length a.opened in
    let packed = adding_packs l a.range_from a.range_to b a.before in
    let named : numbered (at b start).packed m ≡ Some c = ap (λ (x : List Object). numbered x m) packed ∙ e in
    let l₁ : m < count (at b start) = numbered_below (at b start).packed m c named in
    let through = counts b (length a.below) i l adding a.before a.parent a.below a.opened refl a.next a.meanwhile d live-mid a.kept in
    let l₂ : count (at b start) ≤ count (at b mid) = through_here (λ ds. count (at b start) ≤ count (at b ds)) a.meanwhile start through in
    let l₃ : m < suc k = let z = a.as_number.0 in omega arith in
    let t₁ : Through P a.meanwhile start = through_map (λ ds. count (at b start) ≤ count (at b ds)) P (λ ds z. omega arith) a.meanwhile start through in
    let t₂ : P (a.closing ∷ mid) = let z = a.as_number.1 in omega arith in
    let t₃ : Through P a.since (a.closing ∷ mid) = through_map (λ ds. HasLink (at b ds).packed k i l) P (λ ds z. let y = numbered_below (at b ds).packed k z.0 z.1 in omega arith) a.since (a.closing ∷ mid) a.stands in
    still_through b m (a.since ++ (a.closing ∷ a.meanwhile)) start c (through_join P a.since (a.closing ∷ a.meanwhile) start t₃ (t₂, t₁)) named
