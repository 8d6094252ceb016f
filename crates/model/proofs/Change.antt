-- Every call makes one of these changes.
use Rattle.std.proofs.Common.{◌≡◌, ℕ, suc, ◌+◌, ◌-◌, Bool, true, false, cond, not, ◌||◌, eqb, ltb, List, [], ◌∷◌, length, is_some, Some, None, Ok, Err, Option, Result, unwrap_or, sym, refl, ◌∙◌, subst, arith}
use Rattle.cursor.specs.declared.flags.SerializeErrorFlags.{SerializeErrorFlags}
use Rattle.link.specs.declared.Link.{Link}
use Rattle.link.specs.declared.LinkWidth.{LinkWidth}
use Rattle.link.specs.declared.LinkWidth.TheVariants.{Zero, Two, Three, Four}
use Rattle.link.specs.declared.ObjIdx.{ObjIdx}
use Rattle.link.specs.declared.OffsetWhence.{OffsetWhence}
use Rattle.link.specs.Width.{width_of_length, bytes_of_width}
use Rattle.register.specs.Pairs.{Pairs}
use Rattle.std.proofs.lemmas.Bool.{ltb-false, eqb-true, not-false, both_ways, cond_both}
use Rattle.model.specs.declared.snapshot.Snapshot.{Snapshot}
use Rattle.model.specs.State.{State, Object, Pool, slot_back, links_of, with_linked, flag, with_flags, with_ended}
use Rattle.model.specs.Declining.{guarded, silent, no_tests, setting, flagged, nothing_open, idle}
use Rattle.model.specs.Opening.{opening, push_tests, start_tests}
use Rattle.model.specs.Writing.{room_tests, allocating, writing, assign_tests, assigning, count_tests, assigning_count}
use Rattle.model.specs.Linking.{link_at, extend, extend_virtual, link_tests, linking, virtual_tests, linking_virtual, virtual_to, lend, open_links, child_tests, ordering, repacking, repack_tests}
use Rattle.model.specs.Closing.{Out, out, object_hash, twin, moved, move, pack_shared, linkless, close, close_first, pop_pack}
use Rattle.model.specs.Rewinding.{rewound, discard_first, pop_discard, open_slot, same_slot, cut, revert_snapshot}
use Rattle.model.specs.Ending.{Field, largest, put_field, put_fields, fields, resolved, resolve, end_over, end_serialize}
use Rattle.model.specs.Run.{Call, Answer, call, taken_at, revert_to}
use Rattle.model.specs.Run.Call.{SetErr, Start, Push, Allocate, Pad, Embed, Assign, CheckAssign, AddLink, AddVirtual, Repack, PopPack, PopDiscard, Snap, Revert, RevertForeign, End, Read, OwnerEnter, OwnerStrike}
use Rattle.model.specs.Run.Answer.{Nothing, Done, Place, Flags}
use Rattle.model.specs.Moments.{role}
use Rattle.model.proofs.Split.{NoneHold, by_test, refuse_by, guarded_by}
use Rattle.model.proofs.Effect.{Relent, relent_same, relent_then, lend_relent, Turns, bytes_in, Effect}
use Rattle.model.proofs.Effect.Effect.{same, opens, links, orders, lends, closes, packs, packs_entered, shares, drops, drops_back, cuts, cuts_back, enters, strikes}

abbrev pub Effects : Call → State → Pairs → Answer → State → Pairs → Type 0
Effects c s r a s' r' = Effect c s r s'.memory s'.head a s'.opened s'.packed s'.pool r'

module _ (c : Call) (s : State) (r : Pairs) where
  unmoved : {m : List ℕ} {a : Answer} → Effect c s r m s.head a s.opened s.packed s.pool r
  unmoved = same (omega arith)

  -- a call that leaves these parts alone when it is declined
  guards : {A : Type 0} (say : A → Answer) (tests : State → List (Bool × SerializeErrorFlags)) (e : SerializeErrorFlags → A) (go : State → State × A) →
      (NoneHold (tests s) → Effects c s r (say (go s).1) (go s).0 r) → Effects c s r (say (guarded tests e go s).1) (guarded tests e go s).0 r
  guards {A} say tests e go q = guarded_by (λ (x : State × A). Effects c s r (say x.1) x.0 r) tests e go s unmoved (λ f. unmoved) (λ h no. q no)

  virtual_effect : (a : Answer) (k : ObjIdx) (xs : List Object) → s.opened ≡ xs → (elim xs [ [] ↦ true | o ∷ os ↦ false ]) ≡ false → (n : ℕ) →
      Effect c s r s.memory s.head a (extend_virtual k xs) s.packed (with_linked s.pool n) r
  virtual_effect a k [] e h n = absurd (both_ways true h refl)
  virtual_effect a k (o ∷ os) e h n = orders o os (virtual_to k) n e refl

  -- ---- ordering the children

  -- s after some of them were ordered
  abbrev ordered : List Object → ℕ → State
  ordered ps n = record { memory = s.memory; head = s.head; tail = s.tail; flags = s.flags; ended = s.ended; opened = s.opened; packed = ps; pool = with_linked s.pool n }

  repacking_effect : (k : ObjIdx) (ls : List Link) (ps : List Object) (n : ℕ) → Relent s.packed ps → Effects c s r (Done (repacking k ls (ordered ps n)).1) (repacking k ls (ordered ps n)).0 r
  repacking_effect k [] ps n t = lends ps n refl t
  repacking_effect k (l ∷ ls) ps n t = by_test (eqb l.objidx.0 k.0) _ _ (λ (x : State × Result (Unit {0}) SerializeErrorFlags). Effects c s r (Done x.1) x.0 r)
      (λ e. repacking_effect k ls ps n t)
      (λ e. refuse_by (λ (x : State × Result (Unit {0}) SerializeErrorFlags). Effects c s r (Done x.1) x.0 r) (child_tests l (ordered ps n)) Err (ordered ps n) (λ x. repacking k ls (ordering k l x))
      (λ f. lends ps n refl t)
      (λ no. repacking_effect k ls (lend (virtual_to k ∷ []) l.objidx.0 ps) (suc n) (relent_then s.packed ps _ t (lend_relent (virtual_to k ∷ []) l.objidx.0 ps))))

  -- ---- closing

  module _ (a : Answer) (o : Object) (os : List Object) (is : s.opened ≡ o ∷ os) where
    -- without sharing, whatever the memory is then
    plain_effect : (m : List ℕ) → Effect c s r m (close false o os s r).state.head a (close false o os s r).state.opened (close false o os s r).state.packed (close false o os s r).state.pool (close false o os s r).register
    plain_effect m = by_test (ltb s.head o.head) _ _ (λ (x : Out (Option ObjIdx)). Effect c s r m x.state.head a x.state.opened x.state.packed x.state.pool x.register) (λ e. closes o os is refl)
        (λ e. by_test (eqb s.head o.head) _ _ (λ (x : Out (Option ObjIdx)). Effect c s r m x.state.head a x.state.opened x.state.packed x.state.pool x.register)
        (λ e. by_test (linkless o) _ _ (λ (x : Out (Option ObjIdx)). Effect c s r m x.state.head a x.state.opened x.state.packed x.state.pool x.register) (λ e. closes o os is refl) (λ e. closes o os is refl))
        (λ e. packs o os is refl))

    shared_effect : (k : Option ℕ) → twin (move o os s).memory r (object_hash (move o os s).memory (moved o s)) (bytes_in (move o os s).memory (moved o s)) o.real s.packed ≡ k →
        let x = pack_shared (moved o s) (object_hash (move o os s).memory (moved o s)) k (move o os s) r in Effects c s r a x.state x.register
    shared_effect None e = packs_entered o os is refl e
    shared_effect (Some k) e = shares o os (lend o.virtual k s.packed) is refl (lend_relent o.virtual k s.packed)

    close_effect : (share : Bool) → Effects c s r a (close share o os s r).state (close share o os s r).register
    close_effect false = plain_effect (close false o os s r).state.memory
    close_effect true = by_test (ltb s.head o.head) _ _ (λ (x : Out (Option ObjIdx)). Effects c s r a x.state x.register) (λ e. closes o os is refl)
        (λ e. by_test (eqb s.head o.head) _ _ (λ (x : Out (Option ObjIdx)). Effects c s r a x.state x.register)
        (λ e. by_test (linkless o) _ _ (λ (x : Out (Option ObjIdx)). Effects c s r a x.state x.register) (λ e. closes o os is refl) (λ e. closes o os is refl))
        (λ e. shared_effect (twin (move o os s).memory r _ _ o.real s.packed) refl))

    discard_effect : Effects c s r a (discard_first (o ∷ os) s r).state (discard_first (o ∷ os) s r).register
    discard_effect = by_test (flagged s || (ltb s.head o.head || ltb o.tail s.tail)) _ _
        (λ (x : Out (Unit {0})). Effect c s r x.state.memory x.state.head a x.state.opened x.state.packed (slot_back x.state.pool o.slot (links_of o)) x.register) (λ e. drops o os is refl) (λ e. drops_back o os is refl refl)

  pop_plain : (a : Answer) (m : List ℕ) → Effect c s r m (pop_pack false s r).state.head a (pop_pack false s r).state.opened (pop_pack false s r).state.packed (pop_pack false s r).state.pool (pop_pack false s r).register
  pop_plain a m = by_test (idle s) _ _ (λ (x : Out (Option ObjIdx)). Effect c s r m x.state.head a x.state.opened x.state.packed x.state.pool x.register) (λ e. unmoved) (λ e. first s.opened refl)
    where
      first : (os : List Object) → s.opened ≡ os → Effect c s r m (close_first false os s r).state.head a (close_first false os s r).state.opened (close_first false os s r).state.packed (close_first false os s r).state.pool (close_first false os s r).register
      first [] e = unmoved
      first (o ∷ os) e = plain_effect a o os e m

  pop_effect : (a : Answer) (share : Bool) → Effects c s r a (pop_pack share s r).state (pop_pack share s r).register
  pop_effect a share = by_test (idle s) _ _ (λ (x : Out (Option ObjIdx)). Effects c s r a x.state x.register) (λ e. unmoved) (λ e. first s.opened refl)
    where
      first : (os : List Object) → s.opened ≡ os → Effects c s r a (close_first share os s r).state (close_first share os s r).register
      first [] e = unmoved
      first (o ∷ os) e = close_effect a o os e share

  discards_effect : (a : Answer) → Effects c s r a (pop_discard s r).state (pop_discard s r).register
  discards_effect a = by_test (idle s) _ _ (λ (x : Out (Unit {0})). Effects c s r a x.state x.register) (λ e. unmoved) (λ e. first s.opened refl)
    where
      first : (os : List Object) → s.opened ≡ os → Effects c s r a (discard_first os s r).state (discard_first os s r).register
      first [] e = unmoved
      first (o ∷ os) e = discard_effect a o os e

  -- ---- reverting

  revert_effect : Turns (role c) → (a : Answer) (p : Snapshot) → Effects c s r a (revert_snapshot p s r).state (revert_snapshot p s r).register
  revert_effect turns a p =
      let s₁ = cut p.num_real_links p.num_virtual_links (with_flags s p.errors) in
      by_test (idle s || (not (same_slot p.current (open_slot s)) || ltb (length s.memory) p.tail)) _ _ (λ (x : Out (Unit {0})). Effects c s r a x.state x.register) (λ e. unmoved)
      (λ e. by_test (flagged s₁ || (ltb s.head p.head || ltb p.tail s.tail)) (out s₁ r tt) (rewound p.head p.tail s₁ r) (λ (x : Out (Unit {0})). Effects c s r a x.state x.register)
      (λ e. cuts turns p.num_real_links p.num_virtual_links s₁.pool.linked)
      (λ e. cuts_back turns p.num_real_links p.num_virtual_links s₁.pool.linked p.tail refl))

  reverted_effect : Turns (role c) → (a : Answer) (p : Option Snapshot) → Effects c s r a (revert_to p s r).state (revert_to p s r).register
  reverted_effect turns a None = unmoved
  reverted_effect turns a (Some p) = revert_effect turns a p

-- ---- ending

-- open and packed objects and slots are as they were
pub record SameObjects (s x : State) : Type 0 where
  pub opened : x.opened ≡ s.opened
  pub packed : x.packed ≡ s.packed
  pub pool : x.pool ≡ s.pool
  pub head : x.head ≡ s.head

same_objects : (s : State) → SameObjects s s
same_objects s = record { opened = refl; packed = refl; pool = refl; head = refl }

flagged_objects : (s : State) (f : SerializeErrorFlags) → SameObjects s (flag s f)
flagged_objects s f = record { opened = refl; packed = refl; pool = refl; head = refl }

put_objects : (f : Field) (s : State) → SameObjects s (put_field f s)
put_objects f s = by_test (eqb f.width 0) _ _ (SameObjects s) (λ e. same_objects s)
    (λ e. by_test (ltb (largest f.width f.signed) f.value) _ _ (SameObjects s) (λ e. flagged_objects s _)
    (λ e. by_test (ltb (length s.memory) (f.place + f.width)) _ _ (SameObjects s) (λ e. flagged_objects s _) (λ e. record { opened = refl; packed = refl; pool = refl; head = refl })))

puts_objects : (fs : List Field) (s : State) → SameObjects s (put_fields fs s)
puts_objects [] s = same_objects s
puts_objects (f ∷ fs) s =
    let a = puts_objects fs (put_field f s) in let b = put_objects f s in
    record { opened = a.opened ∙ b.opened; packed = a.packed ∙ b.packed; pool = a.pool ∙ b.pool; head = a.head ∙ b.head }

resolved_objects : (o : Option (List Field)) (s : State) → SameObjects s (resolved o s)
resolved_objects None s = flagged_objects s _
resolved_objects (Some fs) s = puts_objects fs s

pub resolve_objects : (s : State) → SameObjects s (resolve s)
resolve_objects s = by_test (flagged s) _ _ (SameObjects s) (λ e. same_objects s)
    (λ e. by_test (nothing_open s) _ _ (SameObjects s) (λ e. resolved_objects (fields s s.packed) s) (λ e. flagged_objects s _))

end_effect : (s : State) (r : Pairs) (a : Answer) → Effects End s r a (end_serialize s r).state (end_serialize s r).register
end_effect s r a = by_test (s.ended || nothing_open s) _ _ (λ (x : Out (Unit {0})). Effects End s r a x.state x.register) (λ e. unmoved End s r)
    (λ e. by_test (flagged s) _ _ (λ (x : Out (Unit {0})). Effects End s r a x.state x.register) (λ e. unmoved End s r) (λ e. over s.packed))
  where
    over : (ps : List Object) → Effects End s r a (end_over ps s r).state (end_over ps s r).register
    over [] = unmoved End s r
    over (p ∷ ps) =
        let w = with_ended (pop_pack false s r).state in let q = resolve_objects w in let m = (resolve w).memory in
        subst (λ (x : ℕ). Effect End s r m x a (resolve w).opened (resolve w).packed (resolve w).pool (pop_pack false s r).register) (sym q.head)
        (subst (λ (x : List Object). Effect End s r m w.head a x (resolve w).packed (resolve w).pool (pop_pack false s r).register) (sym q.opened)
        (subst (λ (x : List Object). Effect End s r m w.head a w.opened x (resolve w).pool (pop_pack false s r).register) (sym q.packed)
        (subst (λ (x : Pool). Effect End s r m w.head a w.opened w.packed x (pop_pack false s r).register) (sym q.pool) (pop_plain End s r a m))))

-- ---- adding a link

wide_step : (n d : ℕ) (v : LinkWidth) → bytes_of_width v ≡ d → (rest : Option LinkWidth) → (not (is_some rest) ≡ false → bytes_of_width (unwrap_or rest Zero) ≡ n) →
    not (is_some (cond (eqb n d) (Some v) rest)) ≡ false → bytes_of_width (unwrap_or (cond (eqb n d) (Some v) rest) Zero) ≡ n
wide_step n d v b rest q = cond_both (eqb n d) (Some v) rest (λ (x : Option LinkWidth). not (is_some x) ≡ false → bytes_of_width (unwrap_or x Zero) ≡ n) (λ e h. b ∙ sym (eqb-true n d e)) (λ e. q)

-- a width that there is has the length asked for
wide : (n : ℕ) → not (is_some (width_of_length n)) ≡ false → bytes_of_width (unwrap_or (width_of_length n) Zero) ≡ n
wide n = wide_step n 0 Zero refl _ (wide_step n 2 Two refl _ (wide_step n 3 Three refl _ (wide_step n 4 Four refl None (λ h. absurd (both_ways true h refl)))))

module _ (from to : ℕ) (k : ObjIdx) (w : OffsetWhence) (b : ℕ) (g : Bool) (s : State) (r : Pairs) where
  add_effect : (xs : List Object) → s.opened ≡ xs → (elim xs [ [] ↦ true | o ∷ os ↦ false ]) ≡ false → not (is_some (width_of_length (to - from))) ≡ false →
      ltb from (elim xs [ [] ↦ 0 | o ∷ os ↦ o.head ]) ≡ false → (n : ℕ) →
      Effect (AddLink from to k w b g) s r s.memory s.head (Done (Ok tt)) (extend (link_at (elim xs [ [] ↦ 0 | o ∷ os ↦ o.head ]) from to k w b g) xs) s.packed (with_linked s.pool n) r
  add_effect [] e h v l n = absurd (both_ways true h refl)
  add_effect (o ∷ os) e h v l n = links o os _ n e refl
      (record { range_from = from; range_to = to; is = refl; accepted = refl; starts = omega (arith, ltb-false from o.head l); long = sym (wide (to - from) v) })

-- ---- every call

pub call_effect : (c : Call) (s : State) (r : Pairs) (an : List Answer) → Effects c s r (call c s r an).answer (call c s r an).state (call c s r an).register
call_effect (SetErr f) s r an = guards (SetErr f) s r Flags no_tests (λ g. g) (setting f) (λ no. unmoved (SetErr f) s r)
call_effect Start s r an = guards Start s r Done start_tests Err opening (λ no. opens no.1.0 (not-false _ no.1.1.0) refl)
call_effect Push s r an = guards Push s r Done push_tests Err opening (λ no. opens no.0 (not-false _ no.1.0) refl)
call_effect (Allocate k z) s r an = guards (Allocate k z) s r Place (room_tests k) Err (allocating k z) (λ no. same (omega arith))
call_effect (Pad k) s r an = guards (Pad k) s r Place (room_tests k) Err (allocating k false) (λ no. same (omega arith))
call_effect (Embed bs) s r an = guards (Embed bs) s r Place (room_tests (length bs)) Err (writing bs) (λ no. same (omega arith))
call_effect (Assign k bs) s r an = guards (Assign k bs) s r (λ u. Nothing) (assign_tests k bs) silent (assigning k bs) (λ no. unmoved (Assign k bs) s r)
call_effect (CheckAssign k fit f) s r an = guards (CheckAssign k fit f) s r Done (count_tests fit f) Err (assigning_count k fit)
    (λ no. guards (CheckAssign k fit f) s r (λ u. Done (Ok tt)) (assign_tests k (unwrap_or fit [])) silent (assigning k (unwrap_or fit [])) (λ no. unmoved (CheckAssign k fit f) s r))
call_effect (AddLink x y k w i g) s r an = guards (AddLink x y k w i g) s r Done (link_tests x y) Err (linking x y k w i g) (λ no. add_effect x y k w i g s r s.opened refl no.1.0 no.1.1.0 no.1.1.1.0 _)
call_effect (AddVirtual k) s r an = guards (AddVirtual k) s r Done virtual_tests Err (linking_virtual k) (λ no. virtual_effect (AddVirtual k) s r _ k s.opened refl no.0 _)
call_effect (Repack k) s r an = guards (Repack k) s r Done repack_tests Err (λ x. repacking k (open_links x) x) (λ no. repacking_effect (Repack k) s r k (open_links s) s.packed s.pool.linked (relent_same s.packed))
call_effect (PopPack b) s r an = pop_effect (PopPack b) s r _ b
call_effect PopDiscard s r an = discards_effect PopDiscard s r _
call_effect Snap s r an = unmoved Snap s r
call_effect (Revert k) s r an = reverted_effect (Revert k) s r tt _ (taken_at an k)
call_effect (RevertForeign p) s r an = revert_effect (RevertForeign p) s r tt _ p
call_effect End s r an = end_effect s r _
call_effect (Read q) s r an = unmoved (Read q) s r
call_effect (OwnerEnter h k) s r an = enters h k refl refl
call_effect (OwnerStrike h k) s r an = strikes h k refl refl
