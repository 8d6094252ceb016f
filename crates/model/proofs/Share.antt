-- The law's second part: what numbers name, and which equal objects share one.
use Rattle.std.proofs.Common.{◌≡◌, ℕ, ◌-◌, ◌<◌, ◌≤◌, Bool, true, false, eqb, ltb, ◌≢◌, ◌⊎◌, List, [], ◌∷◌, ◌++◌, length, Some, None, Option, sym, refl, ap, ◌∙◌, subst, inl, inr, arith}
use Rattle.cursor.specs.Flags.{hard}
use Rattle.link.specs.declared.Link.{Link}
use Rattle.link.specs.declared.ObjIdx.{ObjIdx}
use Rattle.register.specs.Pairs.{Pairs, fits, entered, Counted}
use Rattle.scalar.specs.Place.{part}
use Rattle.std.proofs.lemmas.Bool.{le-ltb, ne_eqb, or_from, or_parts, both_ways, cases_Bool}
use Rattle.model.specs.State.{State, Object, index, numbered}
use Rattle.model.specs.Declining.{idle}
use Rattle.model.specs.Closing.{Out, out, hash, object_hash, twin, moved, move, pack_new, pack_twin, pack_shared, pack, linkless, close, close_first, pop_pack}
use Rattle.model.specs.Reading.{bytes_of}
use Rattle.model.specs.Run.{Call, Beginning, run}
use Rattle.model.specs.Run.Call.{PopPack, OwnerStrike}
use Rattle.model.specs.Run.Answer.{Number}
use Rattle.model.specs.Moments.{at, answered, span, depth, count, Through}
use Rattle.model.specs.Stacking.{lowest}
use Rattle.model.specs.Sharing.{Names, Entered, Twin, OwnerFilled, Shared, LawB}
use Rattle.model.specs.Offsets.{Still}
use Rattle.model.proofs.Split.{by_test, if_false}
use Rattle.model.proofs.Memory.{part_kept, part_inside}
use Rattle.model.proofs.Number.{none_some, some_inj, numbered_at}
use Rattle.model.proofs.Sound.{SoundState, Kept, Tails, under_end}
use Rattle.model.proofs.Packing.{idle_hard, size_is, moved_good}
use Rattle.model.proofs.Stack.{run_sound, run_called, numbered_above}
use Rattle.model.proofs.Pair.{entered_has, full_so}
use Rattle.model.proofs.Last.{effect_persist, effect_pairs, relent_still}
use Rattle.model.proofs.Effect.{lend_relent}
use Rattle.model.proofs.Change.{call_effect}
use Rattle.model.proofs.Slot.{room_left}
use Rattle.model.proofs.Tally.{run_tallied}
use Rattle.model.proofs.Twin.{Searched, twin_searched}

-- ---- names over time

-- an object still there has its bytes still
pub still_bytes : (n : ℕ) (s s' : State) → SoundState n s → Kept s s' → (k : ℕ) (p : Object) → numbered s.packed k ≡ Some p → (t : Still s'.packed k p) → bytes_of s' t.object ≡ bytes_of s p
still_bytes n s s' d kept k p e t =
    ap (λ (x : ℕ). part s'.memory x t.object.tail) t.head ∙ ap (λ (x : ℕ). part s'.memory p.head x) t.tail
    ∙ part_kept s.memory s'.memory s.tail p.head p.tail
    (let l : lowest n s.packed ≤ p.head = numbered_above n s.packed d.stacked k p e in omega (arith, d.under)) kept

module _ (b : Beginning) where
  run_still : (c : Call) (cs : List Call) (k : ℕ) (p : Object) → numbered (at b cs).packed k ≡ Some p → k < count (at b (c ∷ cs)) → Still (at b (c ∷ cs)).packed k p
  run_still c cs k p e l = effect_persist (call_effect c (at b cs) (run b cs).register (run b cs).answers) k p e l

  names_step : (c : Call) (cs : List Call) (k : ℕ) (bs : List ℕ) (ls : List Link) → k < count (at b (c ∷ cs)) → (at b (c ∷ cs)).ended ≡ false →
      Names (at b cs) k bs ls → Names (at b (c ∷ cs)) k bs ls
  names_step c cs k bs ls l e w =
      let called = run_called b c cs in
      let t = run_still c cs k w.object w.named l in
      record {
        object = t.object;
        named = t.named;
        links = t.real ∙ w.links;
        bytes = still_bytes (span b) (at b cs) (at b (c ∷ cs)) (run_sound b cs) (called.kept (e ∙ sym (called.stays e))) k w.object w.named t ∙ w.bytes;
      }

  names_later : (since before : List Call) (k : ℕ) (bs : List ℕ) (ls : List Link) → Through (λ ds. (k < count (at b ds)) × ((at b ds).ended ≡ false)) since before →
      Names (at b before) k bs ls → Names (at b (since ++ before)) k bs ls
  names_later [] before k bs ls t w = w
  names_later (c ∷ since) before k bs ls t w = names_step c (since ++ before) k bs ls t.0.0 t.0.1 (names_later since before k bs ls t.1 w)

  pub entered_stays : (c : Call) (cs : List Call) → (at b (c ∷ cs)).ended ≡ (at b cs).ended → (k : ℕ) (t : Entered (run b cs) k) →
      c ≢ OwnerStrike (object_hash (at b cs).memory t.object) (index k) → k < count (at b (c ∷ cs)) → Entered (run b (c ∷ cs)) k
  entered_stays c cs same k t ne l =
      let q = run_still c cs k t.object t.named l in
      let f = still_bytes (span b) (at b cs) (at b (c ∷ cs)) (run_sound b cs) ((run_called b c cs).kept same) k t.object t.named q in
      record {
        object = q.object;
        named = q.named;
        entered = subst (λ (x : List Link). (run b (c ∷ cs)).register.has (hash (bytes_of (at b (c ∷ cs)) q.object) x) k ≡ true) (sym q.real)
            (subst (λ (x : List ℕ). (run b (c ∷ cs)).register.has (hash x t.object.real) k ≡ true) (sym f)
            (effect_pairs (call_effect c (at b cs) (run b cs).register (run b cs).answers) (object_hash (at b cs).memory t.object) k ne l t.entered));
      }

-- ---- the closing

number_inj : (x y : Option ObjIdx) → Number x ≡ Number y → x ≡ y
number_inj x y e = cc

index_inj : (j k : ℕ) → Some (index j) ≡ Some (index k) → j ≡ k
index_inj j k e = ap (λ (x : ObjIdx). x.0) (some_inj (index j) (index k) e)

-- the bytes of the open object o
abbrev pub own : State → Object → List ℕ
own s o = part s.memory o.head s.head

-- what a closing promises of the number that it answers
pub record Closed (s : State) (r : Pairs) (o : Object) (share : Bool) (x : Out (Option ObjIdx)) (k : ℕ) : Type 0 where
  pub names : Names x.state k (own s o) o.real
  pub sought : share ≡ true →
      (((p : Object) × (numbered s.packed k ≡ Some p) × (bytes_of s p ≡ own s o) × (p.real ≡ o.real) × (r.has (hash (own s o) o.real) k ≡ true))
      × ((j : ℕ) (q : Object) → j < k → numbered s.packed j ≡ Some q → bytes_of s q ≡ own s o → q.real ≡ o.real → r.has (hash (own s o) o.real) j ≡ true → ⊥))
      ⊎ (((j : ℕ) (q : Object) → numbered s.packed j ≡ Some q → bytes_of s q ≡ own s o → q.real ≡ o.real → r.has (hash (own s o) o.real) j ≡ true → ⊥)
      × (k ≡ length s.packed) × ((x.register.has (hash (own s o) o.real) k ≡ true) ⊎ (r.capacity ≤ r.count)))

module _ (n : ℕ) (s : State) (sound : SoundState n s) (r : Pairs) (o : Object) (os : List Object) (soft : hard s.flags ≡ false) (over : ltb s.head o.head ≡ false) (ts : Tails n os) where
  own_moved : bytes_of (move o os s) (moved o s) ≡ own s o
  own_moved =
      let z : length (own s o) ≡ s.head - o.head = size_is n s sound soft o os over ts in
      let l : s.tail ≤ n = under_end n s sound in
      part_inside s.memory (s.tail - (s.head - o.head)) (own s o) s.tail (omega (arith, sound.below)) (omega (arith, sound.sized))

  before_after : (k : ℕ) (p : Object) → numbered s.packed k ≡ Some p → bytes_of (move o os s) p ≡ bytes_of s p
  before_after k p e =
      part_kept s.memory (move o os s).memory s.tail p.head p.tail
      (let l : lowest n s.packed ≤ p.head = numbered_above n s.packed sound.stacked k p e in omega (arith, sound.under)) (moved_good n s sound soft o os over ts).1

  new_names : (k : ℕ) → length s.packed ≡ k → Names (pack_new (moved o s) (move o os s)) k (own s o) o.real
  new_names k e = record { object = moved o s; named = numbered_at (moved o s) s.packed k e; bytes = own_moved; links = refl }

  entering : (h k : ℕ) → ((entered r h k).has h k ≡ true) ⊎ (r.capacity ≤ r.count)
  entering h k = elim (cases_Bool (fits r h k)) [ inl e ↦ inl (entered_has r h k e) | inr e ↦ inr (full_so r h k e) ]

  abbrev seen : List ℕ
  seen = bytes_of (move o os s) (moved o s)

  shared_closed : (f : Option ℕ) → Searched (move o os s).memory r (hash seen o.real) seen o.real s.packed f → (k : ℕ) →
      (pack_shared (moved o s) (hash seen o.real) f (move o os s) r).answer ≡ Some (index k) → Closed s r o true (pack_shared (moved o s) (hash seen o.real) f (move o os s) r) k
  shared_closed None w k e =
      let g : length s.packed ≡ k = index_inj (length s.packed) k e in
      record {
        names = new_names k g;
        sought = λ t. inr (
          (λ j q u bs ls h. w j q u (record { entered = subst (λ (x : List ℕ). r.has (hash x o.real) j ≡ true) (sym own_moved) h; bytes = before_after j q u ∙ bs ∙ sym own_moved; links = ls })),
          sym g,
          subst (λ (x : List ℕ). ((entered r (hash seen o.real) (length s.packed)).has (hash x o.real) k ≡ true) ⊎ (r.capacity ≤ r.count)) own_moved
              (subst (λ (x : ℕ). ((entered r (hash seen o.real) (length s.packed)).has (hash seen o.real) x ≡ true) ⊎ (r.capacity ≤ r.count)) g (entering (hash seen o.real) (length s.packed))),
        );
      }
  shared_closed (Some j) w k e =
      let g : j ≡ k = index_inj j k e in
      subst (λ (x : ℕ). Closed s r o true (out (pack_twin (moved o s) j (move o os s)) r (Some (index j))) x) g
      (let t = relent_still s.packed _ (lend_relent o.virtual j s.packed) j w.object w.named in
      record {
        names = record {
          object = t.object;
          named = t.named;
          links = t.real ∙ w.match.links;
          bytes = ap (λ (x : ℕ). part (move o os s).memory x t.object.tail) t.head ∙ ap (λ (x : ℕ). part (move o os s).memory w.object.head x) t.tail ∙ w.match.bytes ∙ own_moved;
        };
        sought = λ t. inl (
          (w.object, w.named, sym (before_after j w.object w.named) ∙ w.match.bytes ∙ own_moved, w.match.links, subst (λ (x : List ℕ). r.has (hash x o.real) j ≡ true) own_moved w.match.entered),
          (λ i q l u bs ls h. w.least i q l u (record { entered = subst (λ (x : List ℕ). r.has (hash x o.real) i ≡ true) (sym own_moved) h; bytes = before_after i q u ∙ bs ∙ sym own_moved; links = ls })),
        );
      })

  pack_closed : (share : Bool) (k : ℕ) → (pack share (moved o s) (move o os s) r).answer ≡ Some (index k) → Closed s r o share (pack share (moved o s) (move o os s) r) k
  pack_closed false k e = record { names = new_names k (index_inj (length s.packed) k e); sought = λ t. absurd (both_ways false refl t) }
  pack_closed true k e = shared_closed (twin (move o os s).memory r (hash seen o.real) seen o.real s.packed) (twin_searched (move o os s).memory r (hash seen o.real) seen o.real s.packed) k e

close_closed : (n : ℕ) (s : State) → SoundState n s → (r : Pairs) (o : Object) (os : List Object) → hard s.flags ≡ false → Tails n os → (share : Bool) (k : ℕ) →
    (close share o os s r).answer ≡ Some (index k) → Closed s r o share (close share o os s r) k
close_closed n s sound r o os soft ts share k =
    by_test (ltb s.head o.head) _ _ (λ (x : Out (Option ObjIdx)). x.answer ≡ Some (index k) → Closed s r o share x k) (λ t a. absurd (none_some (index k) a))
    (λ over. by_test (eqb s.head o.head) _ _ (λ (x : Out (Option ObjIdx)). x.answer ≡ Some (index k) → Closed s r o share x k)
    (λ t. by_test (linkless o) _ _ (λ (x : Out (Option ObjIdx)). x.answer ≡ Some (index k) → Closed s r o share x k) (λ t a. absurd (none_some (index k) a)) (λ t a. absurd (none_some (index k) a)))
    (λ t a. pack_closed n s sound r o os soft over ts share k a))

pub pop_closed : (n : ℕ) (s : State) → SoundState n s → (r : Pairs) (o : Object) (os : List Object) → s.opened ≡ o ∷ os → (share : Bool) (k : ℕ) →
    (pop_pack share s r).answer ≡ Some (index k) → Closed s r o share (pop_pack share s r) k
pop_closed n s sound r o os e share k =
    by_test (idle s) _ _ (λ (x : Out (Option ObjIdx)). x.answer ≡ Some (index k) → Closed s r o share x k) (λ t a. absurd (none_some (index k) a))
    (λ t. subst (λ (z : List Object). (close_first share z s r).answer ≡ Some (index k) → Closed s r o share (close_first share z s r) k) (sym e)
    (close_closed n s sound r o os (idle_hard s t) (subst (Tails n) e sound.tails).1 share k))

-- ---- the law

-- what answers a number was not ended, and without sharing it is the next one
module _ (s : State) (r : Pairs) where
  pub unended : (share : Bool) (k : ObjIdx) → (pop_pack share s r).answer ≡ Some k → s.ended ≡ false
  unended share k = by_test (idle s) _ _ (λ (x : Out (Option ObjIdx)). x.answer ≡ Some k → s.ended ≡ false) (λ t a. absurd (none_some k a)) (λ t a. (or_parts s.ended (hard s.flags) t).0)

  unshared : (k : ℕ) → (pop_pack false s r).answer ≡ Some (index k) → k ≡ length s.packed
  unshared k = by_test (idle s) _ _ (λ (x : Out (Option ObjIdx)). x.answer ≡ Some (index k) → k ≡ length s.packed) (λ t a. absurd (none_some (index k) a)) (λ t. first s.opened)
    where
      first : (os : List Object) → (close_first false os s r).answer ≡ Some (index k) → k ≡ length s.packed
      first [] = λ a. absurd (none_some (index k) a)
      first (o ∷ os) = by_test (ltb s.head o.head) _ _ (λ (x : Out (Option ObjIdx)). x.answer ≡ Some (index k) → k ≡ length s.packed) (λ t a. absurd (none_some (index k) a))
          (λ over. by_test (eqb s.head o.head) _ _ (λ (x : Out (Option ObjIdx)). x.answer ≡ Some (index k) → k ≡ length s.packed)
          (λ t. by_test (linkless o) _ _ (λ (x : Out (Option ObjIdx)). x.answer ≡ Some (index k) → k ≡ length s.packed) (λ t a. absurd (none_some (index k) a)) (λ t a. absurd (none_some (index k) a)))
          (λ t a. sym (index_inj (length s.packed) k a)))

  -- an object with bytes gets a number
  given : (share : Bool) (o : Object) (os : List Object) → s.opened ≡ o ∷ os → o.head < s.head → hard s.flags ≡ false → s.ended ≡ false → (k : ℕ) × ((pop_pack share s r).answer ≡ Some (index k))
  given share o os is l soft going =
      let active : idle s ≡ false = or_from s.ended (hard s.flags) going soft in
      let q : pop_pack share s r ≡ close share o os s r = if_false (idle s) _ _ active ∙ ap (λ (x : List Object). close_first share x s r) is in
      let c : close share o os s r ≡ pack share (moved o s) (move o os s) r = if_false (ltb s.head o.head) _ _ (le-ltb s.head o.head (omega arith)) ∙ if_false (eqb s.head o.head) _ _ (ne_eqb s.head o.head (λ z. omega arith)) in
      let p = packed share in (p.0, ap (λ (x : Out (Option ObjIdx)). x.answer) (q ∙ c) ∙ p.1)
    where
      by_twin : (h : ℕ) (f : Option ℕ) → (k : ℕ) × ((pack_shared (moved o s) h f (move o os s) r).answer ≡ Some (index k))
      by_twin h None = (length s.packed, refl)
      by_twin h (Some k) = (k, refl)

      packed : (share : Bool) → (k : ℕ) × ((pack share (moved o s) (move o os s) r).answer ≡ Some (index k))
      packed false = (length s.packed, refl)
      packed true = by_twin _ (twin (move o os s).memory r _ _ o.real s.packed)

module _ (b : Beginning) (cs : List Call) where
  abbrev now : State
  now = at b cs

  abbrev reg : Pairs
  reg = (run b cs).register

  pub said : (share : Bool) (k : ℕ) → answered b (PopPack share ∷ cs) ≡ Number (Some (index k)) → (pop_pack share now reg).answer ≡ Some (index k)
  said share k a = number_inj (pop_pack share now reg).answer (Some (index k)) a

  pub twin_parts : (j : ℕ) (bs : List ℕ) (ls : List Link) → Twin (run b cs) j bs ls → (q : Object) × (numbered now.packed j ≡ Some q) × (bytes_of now q ≡ bs) × (q.real ≡ ls) × (reg.has (hash bs ls) j ≡ true)
  twin_parts j bs ls t =
      let p = t.names.object in let q = t.entered.object in
      let e : q ≡ p = some_inj q p (sym t.entered.named ∙ t.names.named) in (
        p,
        t.names.named,
        t.names.bytes,
        t.names.links,
        subst (λ (x : List Link). reg.has (hash bs x) j ≡ true) t.names.links (subst (λ (x : List ℕ). reg.has (hash x p.real) j ≡ true) t.names.bytes (subst (λ (x : Object). reg.has (hash (bytes_of now x) x.real) j ≡ true) e t.entered.entered)),
      )

  twin_whole : (j : ℕ) (bs : List ℕ) (ls : List Link) (q : Object) → numbered now.packed j ≡ Some q → bytes_of now q ≡ bs → q.real ≡ ls → reg.has (hash bs ls) j ≡ true → Twin (run b cs) j bs ls
  twin_whole j bs ls q n x y h = record {
    names = record { object = q; named = n; bytes = x; links = y };
    entered = record { object = q; named = n; entered = subst (λ (z : List ℕ). reg.has (hash z q.real) j ≡ true) (sym x) (subst (λ (z : List Link). reg.has (hash bs z) j ≡ true) (sym y) h) };
  }

  filled : Counted b.register → now.ended ≡ false → 0 < depth now → reg.capacity ≤ reg.count → OwnerFilled b cs
  filled ok going deep f =
      let t = run_tallied b ok cs going in let c = t.capacity in let l = t.few in let u = room_left b cs deep in
      record { full = f; entered = omega arith; enough = omega arith }

  pub shared_so : Counted b.register → (k : ℕ) (o : Object) (os : List Object) → now.opened ≡ o ∷ os → answered b (PopPack true ∷ cs) ≡ Number (Some (index k)) → Shared b cs k (own now o) o.real
  shared_so ok k o os e a =
      let c = pop_closed (span b) now (run_sound b cs) reg o os e true k (said true k a) in
      elim (c.sought refl) [
        | inl w ↦ inl (
          twin_whole k (own now o) o.real w.0.0 w.0.1 w.0.2 w.0.3 w.0.4,
          (λ j l t. let p = twin_parts j (own now o) o.real t in w.1 j p.0 l p.1 p.2 p.3 p.4),
        )
        | inr w ↦ inr (
          (λ j t. let p = twin_parts j (own now o) o.real t in w.0 j p.0 p.1 p.2 p.3 p.4),
          w.1,
          elim w.2 [
            | inl h ↦ inl (record {
              object = c.names.object;
              named = c.names.named;
              entered = subst (λ (z : List ℕ). (run b (PopPack true ∷ cs)).register.has (hash z c.names.object.real) k ≡ true) (sym c.names.bytes)
                  (subst (λ (z : List Link). (run b (PopPack true ∷ cs)).register.has (hash (own now o) z) k ≡ true) (sym c.names.links) h);
            })
            | inr f ↦ inr (filled ok (unended now reg true (index k) (said true k a)) (let z = ap length e in omega arith) f)
          ],
        )
      ]

pub law_b : (b : Beginning) → Counted b.register → (cs : List Call) → LawB b cs
law_b b ok cs = record {
  names = λ share k o os e a since t. names_later b since (PopPack share ∷ cs) k (own (at b cs) o) o.real t
      (pop_closed (span b) (at b cs) (run_sound b cs) (run b cs).register o os e share k (said b cs share k a)).names;
  shared = shared_so b cs ok;
  given = λ share o os is l soft going. let g = given (at b cs) (run b cs).register share o os is l soft going in (g.0, ap Number g.1);
  unshared = λ k a. unshared (at b cs) (run b cs).register k (said b cs false k a);
  stays = λ c same k t ne l. entered_stays b c cs same k t ne l;
}
