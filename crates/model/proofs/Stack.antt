-- The law's first part: where packed objects lie, after every run.
use Rattle.std.proofs.Common.{◌≡◌, ℕ, ◌≤◌, false, eqb, ◌≢◌, List, [], ◌∷◌, length, drop, replicate, Some, None, Option, Ok, Err, Result, sym, refl, ap, ◌∙◌, inr, le_of_eq, arith}
use Rattle.std.proofs.lemmas.List.{length-replicate}
use Rattle.register.specs.Pairs.{Pairs}
use Rattle.model.specs.declared.limit.Limit.{Limit}
use Rattle.model.specs.declared.snapshot.Snapshot.{Snapshot}
use Rattle.model.specs.State.{State, Object, numbered}
use Rattle.model.specs.New.{checked, begun}
use Rattle.model.specs.Run.{Call, Answer, Beginning, run, call, taken_at, revert_to}
use Rattle.model.specs.Run.Call.{SetErr, Start, Push, Allocate, Pad, Embed, Assign, CheckAssign, AddLink, AddVirtual, Repack, PopPack, PopDiscard, Snap, Revert, RevertForeign, End, Read, OwnerEnter, OwnerStrike}
use Rattle.model.specs.Moments.{at, span}
use Rattle.model.specs.Stacking.{Stacked, lowest, LawA}
use Rattle.model.proofs.Split.{by_test}
use Rattle.model.proofs.Memory.{part_kept}
use Rattle.model.proofs.Number.{none_some, some_inj}
use Rattle.model.proofs.Sound.{SoundState, Kept, Good, set_good, push_good, start_good, allocate_good, embed_good, assign_good, check_good, link_good, virtual_good, repack_good}
use Rattle.model.proofs.Packing.{pop_pack_good, pop_discard_good, revert_good}
use Rattle.model.proofs.Finish.{end_sound, end_quiet, end_stays}

-- what every call keeps
pub record Called (n : ℕ) (c : Call) (s s' : State) : Type 0 where
  pub sound : SoundState n s'
  pub only_end : c ≢ End → s'.ended ≡ s.ended
  pub stays : s'.ended ≡ false → s.ended ≡ false
  pub kept : s'.ended ≡ s.ended → Kept s s'

called : (n : ℕ) (c : Call) (s s' : State) → Good n s s' → Called n c s s'
called n c s s' g = record { sound = g.0; only_end = λ ne. g.2; stays = λ e. sym g.2 ∙ e; kept = λ e. g.1 }

revert_to_good : (n : ℕ) (s : State) → SoundState n s → (p : Option Snapshot) (r : Pairs) → Good n s (revert_to p s r).state
revert_to_good n s d (Some p) r = revert_good n s d p r
revert_to_good n s d None r = (d, refl, refl)

pub call_good : (n : ℕ) (c : Call) (s : State) → SoundState n s → (r : Pairs) (an : List Answer) → Called n c s (call c s r an).state
call_good n (SetErr f) s d r an = called n (SetErr f) s _ (set_good n s d f)
call_good n Start s d r an = called n Start s _ (start_good n s d)
call_good n Push s d r an = called n Push s _ (push_good n s d)
call_good n (Allocate k c) s d r an = called n (Allocate k c) s _ (allocate_good n s d k c)
call_good n (Pad k) s d r an = called n (Pad k) s _ (allocate_good n s d k false)
call_good n (Embed bs) s d r an = called n (Embed bs) s _ (embed_good n s d bs)
call_good n (Assign k bs) s d r an = called n (Assign k bs) s _ (assign_good n s d k bs)
call_good n (CheckAssign k fit f) s d r an = called n (CheckAssign k fit f) s _ (check_good n s d k fit f)
call_good n (AddLink a b k w i g) s d r an = called n (AddLink a b k w i g) s _ (link_good n s d a b k w i g)
call_good n (AddVirtual k) s d r an = called n (AddVirtual k) s _ (virtual_good n s d k)
call_good n (Repack k) s d r an = called n (Repack k) s _ (repack_good n s d k)
call_good n (PopPack b) s d r an = called n (PopPack b) s _ (pop_pack_good n s d b r)
call_good n PopDiscard s d r an = called n PopDiscard s _ (pop_discard_good n s d r)
call_good n Snap s d r an = called n Snap s _ (d, refl, refl)
call_good n (Revert k) s d r an = called n (Revert k) s _ (revert_to_good n s d (taken_at an k) r)
call_good n (RevertForeign p) s d r an = called n (RevertForeign p) s _ (revert_good n s d p r)
call_good n End s d r an = record { sound = end_sound n s d r; only_end = λ ne. absurd (ne refl); stays = end_stays s r; kept = λ e. ap (drop s.tail) (end_quiet s r e).memory }
call_good n (Read q) s d r an = called n (Read q) s _ (d, refl, refl)
call_good n (OwnerEnter h k) s d r an = called n (OwnerEnter h k) s _ (d, refl, refl)
call_good n (OwnerStrike h k) s d r an = called n (OwnerStrike h k) s _ (d, refl, refl)

-- ---- over a run

begun_sound : (o : Result (Unit {0}) Limit) (size slots cells : ℕ) → SoundState (length (begun o size slots cells).memory) (begun o size slots cells)
begun_sound (Ok u) size slots cells = let zeros : List ℕ = replicate size 0 in let e : length zeros ≡ size = length-replicate size 0 in record { sized = refl; below = omega arith; stacked = tt; under = le_of_eq (sym e); meets = inr (sym e); tails = tt }
begun_sound (Err l) size slots cells = record { sized = refl; below = omega arith; stacked = tt; under = omega arith; meets = inr refl; tails = tt }

pub run_sound : (b : Beginning) (cs : List Call) → SoundState (span b) (at b cs)
run_sound b [] = begun_sound (checked b.size b.slots b.cells b.register.capacity) b.size b.slots b.cells
run_sound b (c ∷ cs) = (call_good (span b) c (at b cs) (run_sound b cs) (run b cs).register (run b cs).answers).sound

pub run_called : (b : Beginning) (c : Call) (cs : List Call) → Called (span b) c (at b cs) (at b (c ∷ cs))
run_called b c cs = call_good (span b) c (at b cs) (run_sound b cs) (run b cs).register (run b cs).answers

-- a packed object lies at or above the lowest
pub numbered_above : (n : ℕ) (ps : List Object) → Stacked n ps → (k : ℕ) (p : Object) → numbered ps k ≡ Some p → lowest n ps ≤ p.head
numbered_above n [] st k p e = absurd (none_some p e)
numbered_above n (q ∷ qs) st k p e = by_test (eqb (length qs) k) (Some q) (numbered qs k) (λ (x : Option Object). x ≡ Some p → q.head ≤ p.head)
    (λ t f. let g : q ≡ p = some_inj q p f in rw g (omega arith))
    (λ t f. let l : lowest n qs ≤ p.head = numbered_above n qs st.2 k p f in omega (arith, st.0, st.1)) e

pub law_a : (b : Beginning) (cs : List Call) → LawA b cs
law_a b cs =
    let d = run_sound b cs in
    record {
      stacked = d.stacked;
      apart = d.below;
      under = d.under;
      meets = d.meets;
      ending = λ c ne. (run_called b c cs).only_end ne;
      unwritten = λ c same k p e.
          part_kept (at b cs).memory (at b (c ∷ cs)).memory (at b cs).tail p.head p.tail
          (let l : lowest (span b) (at b cs).packed ≤ p.head = numbered_above (span b) (at b cs).packed d.stacked k p e in omega (arith, d.under))
          ((run_called b c cs).kept same);
    }
