-- Hard flags never go away, and an ended serializer does not change.
use Rattle.std.proofs.Common.{◌≡◌, Bool, true, false, cond, not, ◌||◌, eqb, ltb, List, [], ◌∷◌, ◌++◌, length, Some, None, Err, Option, Result, unwrap_or, sym, refl, ap, ◌∙◌}
use Rattle.std.specs.Int.Bits.{or_zero_r}
use Rattle.cursor.specs.declared.flags.SerializeErrorFlags.{SerializeErrorFlags}
use Rattle.cursor.specs.Flags.{flags, none, other, offset_overflow, joined, same_flags, contains, hard}
use Rattle.link.specs.declared.Link.{Link}
use Rattle.link.specs.declared.ObjIdx.{ObjIdx}
use Rattle.register.specs.Pairs.{Pairs}
use Rattle.std.proofs.lemmas.Bool.{and_parts, or_left, or_right, both_ways}
use Rattle.model.specs.declared.snapshot.Snapshot.{Snapshot}
use Rattle.model.specs.State.{State}
use Rattle.model.specs.Declining.{guarded, silent, no_tests, setting, flagged, nothing_open, idle}
use Rattle.model.specs.Opening.{opening, push_tests, start_tests}
use Rattle.model.specs.Writing.{room_tests, allocating, writing, assign_tests, assigning, count_tests, assigning_count}
use Rattle.model.specs.Linking.{link_tests, linking, virtual_tests, linking_virtual, open_links, child_tests, ordering, repacking, repack_tests}
use Rattle.model.specs.Closing.{Out}
use Rattle.model.specs.Rewinding.{open_slot, same_slot, revert_snapshot}
use Rattle.model.specs.Ending.{end_serialize}
use Rattle.model.specs.Run.{Call, Answer, Beginning, run, call, taken_at, revert_to}
use Rattle.model.specs.Run.Call.{SetErr, Start, Push, Allocate, Pad, Embed, Assign, CheckAssign, AddLink, AddVirtual, Repack, PopPack, PopDiscard, Snap, Revert, RevertForeign, End, Read, OwnerEnter, OwnerStrike}
use Rattle.model.specs.Moments.{at}
use Rattle.model.specs.Standing.{Standing}
use Rattle.model.proofs.Split.{by_test, if_true, refuse_by, guarded_by}
use Rattle.model.proofs.Flag.{hard_joined}

-- ---- flags

-- the flags g are those of s and perhaps more
abbrev More : State → SerializeErrorFlags → Type 0
More s g = (f : SerializeErrorFlags) × (g ≡ joined s.flags f)

as_is : (s : State) (g : SerializeErrorFlags) → g ≡ s.flags → More s g
as_is s g e = (none, e ∙ sym (ap flags (or_zero_r s.flags.0)))

guards : {A : Type 0} (s : State) (tests : State → List (Bool × SerializeErrorFlags)) (e : SerializeErrorFlags → A) (go : State → State × A) → More s (go s).0.flags → More s (guarded tests e go s).0.flags
guards {A} s tests e go q = guarded_by (λ (x : State × A). More s x.0.flags) tests e go s (as_is s s.flags refl) (λ f. (f, refl)) (λ h no. q)

repacking_more : (k : ObjIdx) (ls : List Link) (s : State) → More s (repacking k ls s).0.flags
repacking_more k [] s = as_is s s.flags refl
repacking_more k (l ∷ ls) s = by_test (eqb l.objidx.0 k.0) _ _ (λ (x : State × Result (Unit {0}) SerializeErrorFlags). More s x.0.flags)
    (λ e. repacking_more k ls s)
    (λ e. refuse_by (λ (x : State × Result (Unit {0}) SerializeErrorFlags). More s x.0.flags) (child_tests l s) Err s (λ x. repacking k ls (ordering k l x)) (λ f. (f, refl)) (λ no. repacking_more k ls (ordering k l s)))

module _ (s : State) (r : Pairs) (stuck : hard s.flags ≡ true) where
  idle_so : idle s ≡ true
  idle_so = or_right s.ended (hard s.flags) stuck

  flagged_so : flagged s ≡ true
  flagged_so = (and_parts (not (same_flags s.flags none)) _ stuck).0

  revert_more : (p : Snapshot) → More s (revert_snapshot p s r).state.flags
  revert_more p = as_is s _ (ap (λ (x : Out (Unit {0})). x.state.flags) (if_true (idle s || (not (same_slot p.current (open_slot s)) || ltb (length s.memory) p.tail)) _ _ (or_left (idle s) _ idle_so)))

  reverted_more : (p : Option Snapshot) → More s (revert_to p s r).state.flags
  reverted_more None = as_is s s.flags refl
  reverted_more (Some p) = revert_more p

  end_more : More s (end_serialize s r).state.flags
  end_more = by_test (s.ended || nothing_open s) _ _ (λ (x : Out (Unit {0})). More s x.state.flags) (λ e. as_is s s.flags refl)
      (λ e. by_test (flagged s) _ _ (λ (x : Out (Unit {0})). More s x.state.flags) (λ e. by_flag (contains s.flags offset_overflow)) (λ e. absurd (both_ways (flagged s) e flagged_so)))
    where
      by_flag : (b : Bool) → (f : SerializeErrorFlags) × (cond b (joined s.flags other) s.flags ≡ joined s.flags f)
      by_flag true = (other, refl)
      by_flag false = (none, sym (ap flags (or_zero_r s.flags.0)))

call_more : (c : Call) (s : State) (r : Pairs) (an : List Answer) → hard s.flags ≡ true → More s (call c s r an).state.flags
call_more (SetErr f) s r an h = guards s no_tests (λ g. g) (setting f) (f, refl)
call_more Start s r an h = guards s start_tests Err opening (as_is s _ refl)
call_more Push s r an h = guards s push_tests Err opening (as_is s _ refl)
call_more (Allocate k z) s r an h = guards s (room_tests k) Err (allocating k z) (as_is s _ refl)
call_more (Pad k) s r an h = guards s (room_tests k) Err (allocating k false) (as_is s _ refl)
call_more (Embed bs) s r an h = guards s (room_tests (length bs)) Err (writing bs) (as_is s _ refl)
call_more (Assign k bs) s r an h = guards s (assign_tests k bs) silent (assigning k bs) (as_is s _ refl)
call_more (CheckAssign k fit f) s r an h = guards s (count_tests fit f) Err (assigning_count k fit) (guards s (assign_tests k (unwrap_or fit [])) silent (assigning k (unwrap_or fit [])) (as_is s _ refl))
call_more (AddLink x y k w i g) s r an h = guards s (link_tests x y) Err (linking x y k w i g) (as_is s _ refl)
call_more (AddVirtual k) s r an h = guards s virtual_tests Err (linking_virtual k) (as_is s _ refl)
call_more (Repack k) s r an h = guards s repack_tests Err (λ x. repacking k (open_links x) x) (repacking_more k (open_links s) s)
call_more (PopPack b) s r an h = as_is s _ (ap (λ (x : Out (Option ObjIdx)). x.state.flags) (if_true (idle s) _ _ (idle_so s r h)))
call_more PopDiscard s r an h = as_is s _ (ap (λ (x : Out (Unit {0})). x.state.flags) (if_true (idle s) _ _ (idle_so s r h)))
call_more Snap s r an h = as_is s s.flags refl
call_more (Revert k) s r an h = reverted_more s r h (taken_at an k)
call_more (RevertForeign p) s r an h = revert_more s r h p
call_more End s r an h = end_more s r h
call_more (Read q) s r an h = as_is s s.flags refl
call_more (OwnerEnter g k) s r an h = as_is s s.flags refl
call_more (OwnerStrike g k) s r an h = as_is s s.flags refl

-- ---- ended

ended_guard : {A : Type 0} (s : State) (tests : State → List (Bool × SerializeErrorFlags)) (e : SerializeErrorFlags → A) (go : State → State × A) → s.ended ≡ true → (guarded tests e go s).0 ≡ s
ended_guard {A} s tests e go h = ap (λ (x : State × A). x.0) (if_true s.ended _ _ h)

module _ (s : State) (r : Pairs) (over : s.ended ≡ true) where
  ended_idle : idle s ≡ true
  ended_idle = or_left s.ended (hard s.flags) over

  ended_revert : (p : Snapshot) → (revert_snapshot p s r).state ≡ s
  ended_revert p = ap (λ (x : Out (Unit {0})). x.state) (if_true (idle s || (not (same_slot p.current (open_slot s)) || ltb (length s.memory) p.tail)) _ _ (or_left (idle s) _ ended_idle))

  ended_reverted : (p : Option Snapshot) → (revert_to p s r).state ≡ s
  ended_reverted None = refl
  ended_reverted (Some p) = ended_revert p

call_ended : (c : Call) (s : State) (r : Pairs) (an : List Answer) → s.ended ≡ true → (call c s r an).state ≡ s
call_ended (SetErr f) s r an h = ended_guard s no_tests (λ g. g) (setting f) h
call_ended Start s r an h = ended_guard s start_tests Err opening h
call_ended Push s r an h = ended_guard s push_tests Err opening h
call_ended (Allocate k z) s r an h = ended_guard s (room_tests k) Err (allocating k z) h
call_ended (Pad k) s r an h = ended_guard s (room_tests k) Err (allocating k false) h
call_ended (Embed bs) s r an h = ended_guard s (room_tests (length bs)) Err (writing bs) h
call_ended (Assign k bs) s r an h = ended_guard s (assign_tests k bs) silent (assigning k bs) h
call_ended (CheckAssign k fit f) s r an h = ended_guard s (count_tests fit f) Err (assigning_count k fit) h
call_ended (AddLink x y k w i g) s r an h = ended_guard s (link_tests x y) Err (linking x y k w i g) h
call_ended (AddVirtual k) s r an h = ended_guard s virtual_tests Err (linking_virtual k) h
call_ended (Repack k) s r an h = ended_guard s repack_tests Err (λ x. repacking k (open_links x) x) h
call_ended (PopPack b) s r an h = ap (λ (x : Out (Option ObjIdx)). x.state) (if_true (idle s) _ _ (ended_idle s r h))
call_ended PopDiscard s r an h = ap (λ (x : Out (Unit {0})). x.state) (if_true (idle s) _ _ (ended_idle s r h))
call_ended Snap s r an h = refl
call_ended (Revert k) s r an h = ended_reverted s r h (taken_at an k)
call_ended (RevertForeign p) s r an h = ended_revert s r h p
call_ended End s r an h = ap (λ (x : Out (Unit {0})). x.state) (if_true (s.ended || nothing_open s) _ _ (or_left s.ended (nothing_open s) h))
call_ended (Read q) s r an h = refl
call_ended (OwnerEnter g k) s r an h = refl
call_ended (OwnerStrike g k) s r an h = refl

-- ---- over a run

module _ (b : Beginning) where
  more : (c : Call) (cs : List Call) → hard (at b cs).flags ≡ true → More (at b cs) (at b (c ∷ cs)).flags
  more c cs h = call_more c (at b cs) (run b cs).register (run b cs).answers h

  later_hard : (since cs : List Call) → hard (at b cs).flags ≡ true → hard (at b (since ++ cs)).flags ≡ true
  later_hard [] cs h = h
  later_hard (c ∷ since) cs h =
      let ih = later_hard since cs h in let m = more c (since ++ cs) ih in
      ap hard m.1 ∙ hard_joined (at b (since ++ cs)).flags m.0 ih

  later_ended : (since cs : List Call) → (at b cs).ended ≡ true → at b (since ++ cs) ≡ at b cs
  later_ended [] cs h = refl
  later_ended (c ∷ since) cs h =
      let ih = later_ended since cs h in let ds = since ++ cs in
      call_ended c (at b ds) (run b ds).register (run b ds).answers (ap (λ (x : State). x.ended) ih ∙ h) ∙ ih

pub standing : Standing
standing = record { stands = λ b cs. record { joins = λ c h. more b c cs h; stays_hard = λ since h. later_hard b since cs h; stays_ended = λ since h. later_ended b since cs h } }
