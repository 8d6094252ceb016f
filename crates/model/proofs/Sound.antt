-- Packed objects lie one against the other up to the end of memory, and what a call but the ending writes lies below them.
use Rattle.std.proofs.Common.{◌≡◌, ℕ, ◌+◌, ◌-◌, ◌≤◌, Bool, true, false, eqb, ltb, ◌⊎◌, List, [], ◌∷◌, length, drop, replicate, Err, Option, Result, unwrap_or, sym, refl, ◌∙◌, subst, inl, inr, arith}
use Rattle.std.proofs.lemmas.List.{length-replicate}
use Rattle.cursor.specs.declared.flags.SerializeErrorFlags.{SerializeErrorFlags}
use Rattle.cursor.specs.Flags.{hard}
use Rattle.link.specs.declared.Link.{Link}
use Rattle.link.specs.declared.ObjIdx.{ObjIdx}
use Rattle.link.specs.declared.OffsetWhence.{OffsetWhence}
use Rattle.scalar.specs.Place.{write}
use Rattle.std.proofs.lemmas.Bool.{ltb-false}
use Rattle.model.specs.State.{State, Object, Pool, flag, with_memory, with_opened}
use Rattle.model.specs.Declining.{guarded, silent, no_tests, setting, set_err}
use Rattle.model.specs.Opening.{opening, push_tests, push, start_tests, start_serialize}
use Rattle.model.specs.Writing.{advancing, room_tests, allocating, allocate_size, writing, embed_bytes, assign_tests, assigning, copy_assign, count_tests, assigning_count, check_assign}
use Rattle.model.specs.Linking.{extend, extend_virtual, link_tests, linking, add_link, virtual_tests, linking_virtual, add_virtual_link, lend, virtual_to, open_links, child_tests, ordering, repacking, repack_tests, repack_last}
use Rattle.model.specs.Rewinding.{cut_first}
use Rattle.model.specs.Stacking.{Stacked, lowest}
use Rattle.model.proofs.Split.{NoneHold, by_test, refuse_by, guarded_keeps}
use Rattle.model.proofs.Flag.{hard_joined}
use Rattle.model.proofs.Memory.{length_write, drop_write}

-- the tails that open objects recorded lie in memory
abbrev pub Tails : ℕ → List Object → Type 0
Tails n [] = Unit {0}
Tails n (o ∷ os) = (o.tail ≤ n) × Tails n os

-- by parts of the state, so that a call that touches none of them needs no proof
pub record Sound (n : ℕ) (m : List ℕ) (h t : ℕ) (f : SerializeErrorFlags) (ps os : List Object) : Type 0 where
  pub sized : length m ≡ n
  pub below : h ≤ t
  pub stacked : Stacked n ps
  pub under : t ≤ lowest n ps
  pub meets : (hard f ≡ true) ⊎ (t ≡ lowest n ps)
  pub tails : Tails n os

abbrev pub SoundState : ℕ → State → Type 0
SoundState n s = Sound n s.memory s.head s.tail s.flags s.packed s.opened

-- the memory from the tail of s₀ on is that of s₀
abbrev pub Kept : State → State → Type 0
Kept s₀ s = drop s₀.tail s.memory ≡ drop s₀.tail s₀.memory

-- sound, nothing written from the tail of s₀ on, and ended only if s₀ was
abbrev pub Good : ℕ → State → State → Type 0
Good n s₀ s = SoundState n s × Kept s₀ s × (s.ended ≡ s₀.ended)

pub lowest_le : (n : ℕ) (ps : List Object) → Stacked n ps → lowest n ps ≤ n
lowest_le n [] st = omega arith
lowest_le n (p ∷ ps) st = let ih : lowest n ps ≤ n = lowest_le n ps st.2 in omega (arith, st.0, st.1)

pub under_end : (n : ℕ) (s : State) → SoundState n s → s.tail ≤ n
under_end n s d = let l : lowest n s.packed ≤ n = lowest_le n s.packed d.stacked in omega (arith, d.under)

pub flag_sound : (n : ℕ) (s : State) (f : SerializeErrorFlags) → SoundState n s → SoundState n (flag s f)
flag_sound n s f d = record { sized = d.sized; below = d.below; stacked = d.stacked; under = d.under; meets = elim d.meets [ inl h ↦ inl (hard_joined s.flags f h) | inr e ↦ inr e ]; tails = d.tails }

pub flag_good : (n : ℕ) (s₀ s : State) (f : SerializeErrorFlags) → Good n s₀ s → Good n s₀ (flag s f)
flag_good n s₀ s f g = (flag_sound n s f g.0, g.1, g.2)

pub with_tails : (n : ℕ) (s : State) (os : List Object) (p : Pool) → SoundState n s → Tails n os → SoundState n (with_opened s os p)
with_tails n s os p d ts = record { sized = d.sized; below = d.below; stacked = d.stacked; under = d.under; meets = d.meets; tails = ts }

extend_tails : (n : ℕ) (l : Link) (os : List Object) → Tails n os → Tails n (extend l os)
extend_tails n l [] ts = ts
extend_tails n l (o ∷ os) ts = ts

virtual_tails : (n : ℕ) (k : ObjIdx) (os : List Object) → Tails n os → Tails n (extend_virtual k os)
virtual_tails n k [] ts = ts
virtual_tails n k (o ∷ os) ts = ts

pub cut_tails : (n a b : ℕ) (os : List Object) → Tails n os → Tails n (cut_first a b os)
cut_tails n a b [] ts = ts
cut_tails n a b (o ∷ os) ts = ts

-- ---- virtual links lent to a packed object

pub lend_lowest : (n : ℕ) (vs : List Link) (k : ℕ) (ps : List Object) → lowest n (lend vs k ps) ≡ lowest n ps
lend_lowest n vs k [] = refl
lend_lowest n vs k (p ∷ ps) = by_test (eqb (length ps) k) _ _ (λ x. lowest n x ≡ p.head) (λ e. refl) (λ e. refl)

pub lend_stacked : (n : ℕ) (vs : List Link) (k : ℕ) (ps : List Object) → Stacked n ps → Stacked n (lend vs k ps)
lend_stacked n vs k [] st = st
lend_stacked n vs k (p ∷ ps) st = by_test (eqb (length ps) k) _ _ (Stacked n) (λ e. st) (λ e. (st.0, st.1 ∙ sym (lend_lowest n vs k ps), lend_stacked n vs k ps st.2))

ordering_good : (n : ℕ) (s₀ s : State) (k : ObjIdx) (l : Link) → Good n s₀ s → Good n s₀ (ordering k l s)
ordering_good n s₀ s k l g =
    let e = lend_lowest n (virtual_to k ∷ []) l.objidx.0 s.packed in (
      record {
        sized = g.0.sized;
        below = g.0.below;
        stacked = lend_stacked n (virtual_to k ∷ []) l.objidx.0 s.packed g.0.stacked;
        under = rw e g.0.under;
        meets = elim g.0.meets [ inl h ↦ inl h | inr f ↦ inr (f ∙ sym e) ];
        tails = g.0.tails;
      },
      g.1,
      g.2,
    )

repacking_good : (n : ℕ) (s₀ : State) (k : ObjIdx) (ls : List Link) (s : State) → Good n s₀ s → Good n s₀ (repacking k ls s).0
repacking_good n s₀ k [] s g = g
repacking_good n s₀ k (l ∷ ls) s g = by_test (eqb l.objidx.0 k.0) _ _ (λ (x : State × Result (Unit {0}) SerializeErrorFlags). Good n s₀ x.0)
    (λ e. repacking_good n s₀ k ls s g)
    (λ e. refuse_by (λ (x : State × Result (Unit {0}) SerializeErrorFlags). Good n s₀ x.0) (child_tests l s) Err s (λ s. repacking k ls (ordering k l s)) (λ f. flag_good n s₀ s f g) (λ no. repacking_good n s₀ k ls (ordering k l s) (ordering_good n s₀ s k l g)))

-- ---- the calls that only the state takes

module _ (n : ℕ) (s : State) (sound : SoundState n s) where
  start : Good n s s
  start = (sound, refl, refl)

  retailed : (os : List Object) → Tails n os → Sound n s.memory s.head s.tail s.flags s.packed os × Kept s s × (s.ended ≡ s.ended)
  retailed os ts = (record { sized = sound.sized; below = sound.below; stacked = sound.stacked; under = sound.under; meets = sound.meets; tails = ts }, refl, refl)

  opened : Good n s (opening s).0
  opened = retailed _ (under_end n s sound, sound.tails)

  written : (bs : List ℕ) → ltb (s.tail - s.head) (length bs) ≡ false → Good n s (writing bs s).0
  written bs e =
      let l : s.head + length bs ≤ s.tail = omega (arith, ltb-false (s.tail - s.head) (length bs) e, sound.below) in
      let u : s.tail ≤ n = under_end n s sound in
      let v : s.head + length bs ≤ length s.memory = omega (arith, sound.sized) in
      (record { sized = length_write s.memory s.head bs v ∙ sound.sized; below = l; stacked = sound.stacked; under = sound.under; meets = sound.meets; tails = sound.tails }, drop_write s.memory s.head bs s.tail l v, refl)

  advanced : (k : ℕ) → ltb (s.tail - s.head) k ≡ false → Good n s (advancing k s).0
  advanced k e = (record { sized = sound.sized; below = omega (arith, ltb-false (s.tail - s.head) k e, sound.below); stacked = sound.stacked; under = sound.under; meets = sound.meets; tails = sound.tails }, refl, refl)

  cleared : (k : ℕ) → ltb (s.tail - s.head) k ≡ false → Good n s (allocating k true s).0
  cleared k e =
      let z = length-replicate k 0 in
      subst (λ (x : ℕ). Good n s (advancing x (with_memory s (write s.memory s.head (replicate k 0)))).0) z
      (written (replicate k 0) (subst (λ (x : ℕ). ltb (s.tail - s.head) x ≡ false) (sym z) e))

  allocated : (k : ℕ) (clear : Bool) → ltb (s.tail - s.head) k ≡ false → Good n s (allocating k clear s).0
  allocated k true e = cleared k e
  allocated k false e = advanced k e

  assigned : (a : ℕ) (bs : List ℕ) → ltb s.tail (a + length bs) ≡ false → Good n s (assigning a bs s).0
  assigned a bs e =
      let l : a + length bs ≤ s.tail = ltb-false s.tail (a + length bs) e in
      let u : s.tail ≤ n = under_end n s sound in
      let v : a + length bs ≤ length s.memory = omega (arith, sound.sized) in
      (record { sized = length_write s.memory a bs v ∙ sound.sized; below = sound.below; stacked = sound.stacked; under = sound.under; meets = sound.meets; tails = sound.tails }, drop_write s.memory a bs s.tail l v, refl)

  keeps : {A : Type 0} (tests : State → List (Bool × SerializeErrorFlags)) (e : SerializeErrorFlags → A) (go : State → State × A) → (NoneHold (tests s) → Good n s (go s).0) → Good n s (guarded tests e go s).0
  keeps tests e go q = guarded_keeps (Good n s) (flag_good n s) tests e go s start (λ h no. q no)

  pub set_good : (f : SerializeErrorFlags) → Good n s (set_err f s).0
  set_good f = keeps no_tests (λ g. g) (setting f) (λ no. flag_good n s s f start)

  pub push_good : Good n s (push s).0
  push_good = keeps push_tests Err opening (λ no. opened)

  pub start_good : Good n s (start_serialize s).0
  start_good = keeps start_tests Err opening (λ no. opened)

  pub allocate_good : (k : ℕ) (clear : Bool) → Good n s (allocate_size k clear s).0
  allocate_good k clear = keeps (room_tests k) Err (allocating k clear) (λ no. allocated k clear no.1.0)

  pub embed_good : (bs : List ℕ) → Good n s (embed_bytes bs s).0
  embed_good bs = keeps (room_tests (length bs)) Err (writing bs) (λ no. written bs no.1.0)

  pub assign_good : (a : ℕ) (bs : List ℕ) → Good n s (copy_assign a bs s)
  assign_good a bs = keeps (assign_tests a bs) silent (assigning a bs) (λ no. assigned a bs no.0)

  pub check_good : (a : ℕ) (fit : Option (List ℕ)) (f : SerializeErrorFlags) → Good n s (check_assign a fit f s).0
  check_good a fit f = keeps (count_tests fit f) Err (assigning_count a fit) (λ no. assign_good a (unwrap_or fit []))

  pub link_good : (from to : ℕ) (k : ObjIdx) (w : OffsetWhence) (b : ℕ) (g : Bool) → Good n s (add_link from to k w b g s).0
  link_good from to k w b g = keeps (link_tests from to) Err (linking from to k w b g) (λ no. retailed _ (extend_tails n _ s.opened sound.tails))

  pub virtual_good : (k : ObjIdx) → Good n s (add_virtual_link k s).0
  virtual_good k = keeps virtual_tests Err (linking_virtual k) (λ no. retailed _ (virtual_tails n k s.opened sound.tails))

  pub repack_good : (k : ObjIdx) → Good n s (repack_last k s).0
  repack_good k = keeps repack_tests Err (λ s. repacking k (open_links s) s) (λ no. repacking_good n s k (open_links s) s start)
