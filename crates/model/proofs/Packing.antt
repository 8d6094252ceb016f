-- Closing, discarding and reverting keep a state sound, and write only below the packed objects.
use Rattle.std.proofs.Common.{◌≡◌, ℕ, ◌+◌, ◌-◌, ◌≤◌, Bool, true, false, cond, not, ◌||◌, eqb, ltb, ◌⊎◌, List, [], ◌∷◌, length, Some, None, Option, sym, refl, ◌∙◌, inl, inr, arith}
use Rattle.cursor.specs.Flags.{other, joined, hard}
use Rattle.link.specs.declared.ObjIdx.{ObjIdx}
use Rattle.register.specs.Pairs.{Pairs}
use Rattle.scalar.specs.Place.{part}
use Rattle.std.proofs.lemmas.Bool.{ltb-false, eqb-true, eqb-false, or_parts, both_ways, cases_Bool}
use Rattle.model.specs.declared.snapshot.Snapshot.{Snapshot}
use Rattle.model.specs.State.{flag, State, Object, Pool, with_flags, with_opened}
use Rattle.model.specs.Declining.{flagged, idle}
use Rattle.model.specs.Closing.{Out, moved, move, pack_new, pack_twin, pack_shared, pack, twin, linkless, close, close_first, pop_pack}
use Rattle.model.specs.Rewinding.{Discarded, discard, rewound, rewind, discard_first, pop_discard, open_slot, same_slot, cut, revert_snapshot}
use Rattle.model.specs.Stacking.{Stacked, lowest}
use Rattle.model.proofs.Split.{by_test}
use Rattle.model.proofs.Flag.{zero_flags}
use Rattle.model.proofs.Memory.{length_write, drop_write, length_part}
use Rattle.model.proofs.Sound.{Tails, SoundState, Good, under_end, flag_good, with_tails, cut_tails, lend_lowest, lend_stacked}

-- ---- closing

pub idle_hard : (s : State) → idle s ≡ false → hard s.flags ≡ false
idle_hard s e = (or_parts s.ended (hard s.flags) e).1

pub not_hard : (n : ℕ) (s : State) → SoundState n s → hard s.flags ≡ false → s.tail ≡ lowest n s.packed
not_hard n s d h = elim d.meets [ inl p ↦ absurd (both_ways (hard s.flags) h p) | inr e ↦ e ]

module _ (n : ℕ) (s : State) (sound : SoundState n s) (soft : hard s.flags ≡ false) (o : Object) (os : List Object) (over : ltb s.head o.head ≡ false) (ts : Tails n os) where
  edge_is : s.tail ≡ lowest n s.packed
  edge_is = not_hard n s sound soft

  pub size_is : length (part s.memory o.head s.head) ≡ s.head - o.head
  size_is = let u : s.tail ≤ n = under_end n s sound in length_part s.memory o.head s.head (omega (arith, sound.sized, sound.below))

  fits : s.tail - (s.head - o.head) + length (part s.memory o.head s.head) ≤ s.tail
  fits = rw size_is (omega (arith, sound.below))

  fits_all : s.tail - (s.head - o.head) + length (part s.memory o.head s.head) ≤ length s.memory
  fits_all = let u : s.tail ≤ n = under_end n s sound in omega (arith, sound.sized, fits)

  pub moved_good : Good n s (move o os s)
  moved_good =
      (record { sized = length_write s.memory _ _ fits_all ∙ sound.sized; below = omega (arith, ltb-false s.head o.head over, sound.below); stacked = sound.stacked; under = sound.under; meets = sound.meets; tails = ts }, drop_write s.memory _ _ s.tail fits fits_all, refl)

  pub new_good : (s.head ≡ o.head → ⊥) → Good n s (pack_new (moved o s) (move o os s))
  new_good ne =
      let l = ltb-false s.head o.head over in
      (record { sized = moved_good.0.sized; below = omega (arith, sound.below); stacked = (omega (arith, sound.below), edge_is, sound.stacked); under = omega arith; meets = inr refl; tails = ts }, moved_good.1, refl)

  twin_good : (k : ℕ) → Good n s (pack_twin (moved o s) k (move o os s))
  twin_good k =
      (record { sized = moved_good.0.sized; below = moved_good.0.below; stacked = lend_stacked n o.virtual k s.packed sound.stacked; under = rw lend_lowest sound.under; meets = inr (edge_is ∙ sym (lend_lowest n o.virtual k s.packed)); tails = ts }, moved_good.1, refl)

  shared_good : (ne : s.head ≡ o.head → ⊥) (h : ℕ) (k : Option ℕ) (r : Pairs) → Good n s (pack_shared (moved o s) h k (move o os s) r).state
  shared_good ne h None r = new_good ne
  shared_good ne h (Some k) r = twin_good k

  pack_good : (ne : s.head ≡ o.head → ⊥) (share : Bool) (r : Pairs) → Good n s (pack share (moved o s) (move o os s) r).state
  pack_good ne false r = new_good ne
  pack_good ne true r = shared_good ne _ (twin (move o os s).memory r _ _ o.real s.packed) r

-- the object closed, and nothing packed
closed_good : (n : ℕ) (s : State) → SoundState n s → (os : List Object) → Tails n os → Good n s (with_opened s os s.pool)
closed_good n s sound os ts = (with_tails n s os s.pool sound ts, refl, refl)

refused_good : (n : ℕ) (s : State) → SoundState n s → (os : List Object) → Tails n os → Good n s (flag (with_opened s os s.pool) other)
refused_good n s sound os ts = flag_good n s (with_opened s os s.pool) other (closed_good n s sound os ts)

close_good : (n : ℕ) (s : State) (sound : SoundState n s) → hard s.flags ≡ false → (share : Bool) (o : Object) (os : List Object) (ts : Tails n os) (r : Pairs) → Good n s (close share o os s r).state
close_good n s sound soft share o os ts r =
    by_test (ltb s.head o.head) _ _ (λ (x : Out (Option ObjIdx)). Good n s x.state) (λ e. refused_good n s sound os ts)
    (λ over. by_test (eqb s.head o.head) _ _ (λ (x : Out (Option ObjIdx)). Good n s x.state)
    (λ e. by_test (linkless o) _ _ (λ (x : Out (Option ObjIdx)). Good n s x.state) (λ e. closed_good n s sound os ts) (λ e. refused_good n s sound os ts))
    (λ ne. pack_good n s sound soft o os over ts (eqb-false s.head o.head ne) share r))

pub pop_pack_good : (n : ℕ) (s : State) (sound : SoundState n s) (share : Bool) (r : Pairs) → Good n s (pop_pack share s r).state
pop_pack_good n s sound share r =
    by_test (idle s) _ _ (λ (x : Out (Option ObjIdx)). Good n s x.state) (λ e. (sound, refl, refl)) (λ e. first (idle_hard s e) s.opened sound.tails)
  where
    first : hard s.flags ≡ false → (os : List Object) → Tails n os → Good n s (close_first share os s r).state
    first h [] ts = (sound, refl, refl)
    first h (o ∷ os) ts = close_good n s sound h share o os ts.1 r

-- ---- rewinding

pub discard_stacked : (m : List ℕ) (n t : ℕ) (ps : List Object) (p : Pool) (r : Pairs) → t ≤ n → Stacked n ps →
    Stacked n (discard m t ps p r).left × (t ≤ lowest n (discard m t ps p r).left)
discard_stacked m n t [] p r l st = (tt, l)
discard_stacked m n t (o ∷ os) p r l st =
    by_test (ltb o.head t) _ _ (λ (x : Discarded). Stacked n x.left × (t ≤ lowest n x.left))
    (λ e. discard_stacked m n t os _ _ l st.2)
    (λ e. (st, ltb-false o.head t e))

pub edge_lowest : (n : ℕ) (m : List ℕ) (ps : List Object) → length m ≡ n → (elim ps [ [] ↦ length m | p ∷ qs ↦ p.head ]) ≡ lowest n ps
edge_lowest n m [] e = e
edge_lowest n m (p ∷ ps) e = refl

-- s may have had its flags and links put back: tail meets the lowest packed object
module _ (n : ℕ) (s₀ s : State) (g : Good n s₀ s) (r : Pairs) (h t : ℕ) (l : t ≤ n) where
  rewound_good : flagged s ≡ false → ltb s.head h ≡ false → ltb t s.tail ≡ false → Good n s₀ (rewound h t s r).state
  rewound_good z a b =
      let d = discard_stacked s.memory n t s.packed s.pool r l g.0.stacked in
      let e = edge_lowest n s.memory (discard s.memory t s.packed s.pool r).left g.0.sized in (
        record {
          sized = g.0.sized;
          below = omega (arith, ltb-false s.head h a, ltb-false t s.tail b, g.0.below);
          stacked = d.0;
          under = d.1;
          meets = meets_so _ (discard s.memory t s.packed s.pool r).left e;
          tails = g.0.tails;
        },
        g.1,
        g.2,
      )
    where
      meets_so : (x : ℕ) (ps : List Object) → x ≡ lowest n ps → (hard (cond (eqb x t) s.flags (joined s.flags other)) ≡ true) ⊎ (t ≡ lowest n ps)
      meets_so x ps e = elim (cases_Bool (eqb x t)) [
        | inl y ↦ inr (sym (eqb-true x t y) ∙ e)
        | inr y ↦ inl (rw (y, zero_flags s z) refl)
      ]

  rewind_good : Good n s₀ (rewind h t s r).state
  rewind_good = by_test (flagged s || (ltb s.head h || ltb t s.tail)) _ _ (λ (x : Out (Unit {0})). Good n s₀ x.state) (λ e. g)
      (λ e. let p = or_parts (flagged s) (ltb s.head h || ltb t s.tail) e in let q = or_parts (ltb s.head h) (ltb t s.tail) p.1 in rewound_good p.0 q.0 q.1)

pub pop_discard_good : (n : ℕ) (s : State) → SoundState n s → (r : Pairs) → Good n s (pop_discard s r).state
pop_discard_good n s sound r =
    by_test (idle s) _ _ (λ (x : Out (Unit {0})). Good n s x.state) (λ e. (sound, refl, refl)) (λ e. first s.opened sound.tails)
  where
    first : (os : List Object) → Tails n os → Good n s (discard_first os s r).state
    first [] t = (sound, refl, refl)
    first (o ∷ os) t = rewind_good n s (with_opened s os s.pool) (with_tails n s os s.pool sound t.1, refl, refl) r o.head o.tail t.0

pub revert_good : (n : ℕ) (s : State) → SoundState n s → (p : Snapshot) (r : Pairs) → Good n s (revert_snapshot p s r).state
revert_good n s sound p r =
    by_test (idle s || (not (same_slot p.current (open_slot s)) || ltb (length s.memory) p.tail)) _ _ (λ (x : Out (Unit {0})). Good n s x.state) (λ e. (sound, refl, refl))
    (λ e. let a = or_parts (idle s) _ e in let b = or_parts (not (same_slot p.current (open_slot s))) (ltb (length s.memory) p.tail) a.1 in
    rewind_good n s (cut p.num_real_links p.num_virtual_links (with_flags s p.errors))
    (record { sized = sound.sized; below = sound.below; stacked = sound.stacked; under = sound.under; meets = inr (not_hard n s sound (idle_hard s a.0)); tails = cut_tails n p.num_real_links p.num_virtual_links s.opened sound.tails }, refl, refl)
    r p.head p.tail (omega (arith, sound.sized, ltb-false (length s.memory) p.tail b.1)))
