-- What an ending that ends the serializer and leaves no flag has done, and what the bytes of its fields show.
use Rattle.std.proofs.Common.{◌≡◌, ℕ, zero, suc, ◌+◌, ◌-◌, ◌*◌, ◌^◌, ◌<◌, ◌≤◌, Bool, true, false, cond, not, ◌||◌, eqb, ltb, List, [], ◌∷◌, ◌++◌, length, take, drop, pos, ◌-ℤ◌, Some, None, Option, sym, refl, ap, ◌∙◌, subst, arith, pow_pos, pow-add}
use Rattle.std.proofs.Math.Nat.{pow-succ'}
use Rattle.cursor.specs.declared.flags.SerializeErrorFlags.{SerializeErrorFlags}
use Rattle.cursor.specs.Flags.{none, other, hard, same_flags}
use Rattle.link.specs.declared.ObjIdx.{ObjIdx}
use Rattle.register.specs.Pairs.{Pairs}
use Rattle.scalar.specs.BigEndian.{number, big_endian}
use Rattle.scalar.specs.Place.{part}
use Rattle.scalar.specs.Laws.{length_big_endian}
use Rattle.scalar.proofs.BigEndian.{number_back}
use Rattle.std.proofs.lemmas.Int.{ints}
use Rattle.std.proofs.lemmas.Bool.{ltb-false, eqb-true, eqb-false, lt-ltb, or_from, or_parts, both_ways}
use Rattle.model.specs.State.{State, Object, with_ended}
use Rattle.model.specs.Declining.{flagged, nothing_open, idle}
use Rattle.model.specs.Closing.{Out, linkless, close, close_first, pop_pack}
use Rattle.model.specs.Ending.{Field, fields, largest, resolved, resolve, end_over, end_serialize}
use Rattle.model.specs.Offsets.{shown}
use Rattle.model.proofs.Split.{by_test, if_false}
use Rattle.model.proofs.Finish.{resolve_ended}
use Rattle.model.proofs.Flag.{raised, zero_flags}
use Rattle.model.proofs.Memory.{from_write, take_write, part_empty}
use Rattle.model.proofs.Sound.{SoundState, Tails, under_end, with_tails}
use Rattle.model.proofs.Packing.{size_is, new_good}
use Rattle.model.proofs.Change.{resolve_objects}
use Rattle.model.proofs.Output.{Placed, puts_placed}

abbrev own : State → Object → List ℕ
own s o = part s.memory o.head s.head

-- ---- the last closing

-- the object o closed: what lies from the new tail on, and below the new head
pub record Popped (n : ℕ) (s : State) (o : Object) (s₁ : State) : Type 0 where
  pub sound : SoundState n s₁
  pub under : o.head ≤ s.head
  pub head : s₁.head ≡ o.head
  pub tail : s₁.tail ≡ s.tail - (s.head - o.head)
  pub after : drop s₁.tail s₁.memory ≡ own s o ++ drop s.tail s.memory
  pub loose : take o.head s₁.memory ≡ take o.head s.memory

module _ (n : ℕ) (s : State) (d : SoundState n s) (r : Pairs) (o : Object) (os : List Object) (ts : Tails n os) (clean : s.flags ≡ none) where
  soft : hard s.flags ≡ false
  soft = ap hard clean

  close_popped : (close false o os s r).state.flags ≡ none → Popped n s o (close false o os s r).state
  close_popped = by_test (ltb s.head o.head) _ _ (λ (x : Out (Option ObjIdx)). x.state.flags ≡ none → Popped n s o x.state) (λ e f. absurd (raised s.flags other (omega arith) f))
      (λ over. by_test (eqb s.head o.head) _ _ (λ (x : Out (Option ObjIdx)). x.state.flags ≡ none → Popped n s o x.state)
      (λ e. by_test (linkless o) _ _ (λ (x : Out (Option ObjIdx)). x.state.flags ≡ none → Popped n s o x.state)
      (λ _ f. let g = eqb-true s.head o.head e in
      record {
        sound = with_tails n s os s.pool d ts;
        under = omega arith;
        head = g;
        tail = omega arith;
        loose = refl;
        after = ap (λ (x : List ℕ). x ++ drop s.tail s.memory) (sym (part_empty s.memory o.head s.head g));
      })
      (λ _ f. absurd (raised s.flags other (omega arith) f)))
      (λ e f. let l = ltb-false s.head o.head over in
      let z = size_is n s d soft o os over ts in
      let u = under_end n s d in
      let at = s.tail - (s.head - o.head) in
      record {
        sound = (new_good n s d soft o os over ts (eqb-false s.head o.head e)).0;
        under = l;
        head = refl;
        tail = refl;
        after = from_write s.memory at (own s o) (omega (arith, d.sized)) ∙ ap (λ (x : ℕ). own s o ++ drop x s.memory) (let y = d.below in omega arith);
        loose = take_write s.memory at (own s o) o.head (omega (arith, d.below)) (omega (arith, d.sized));
      }))

close_opened : (s : State) (r : Pairs) (o : Object) (os : List Object) → (close false o os s r).state.opened ≡ os
close_opened s r o os = by_test (ltb s.head o.head) _ _ (λ (x : Out (Option ObjIdx)). x.state.opened ≡ os) (λ e. refl)
    (λ e. by_test (eqb s.head o.head) _ _ (λ (x : Out (Option ObjIdx)). x.state.opened ≡ os)
    (λ e. by_test (linkless o) _ _ (λ (x : Out (Option ObjIdx)). x.state.opened ≡ os) (λ e. refl) (λ e. refl)) (λ e. refl))

-- ---- the ending

pub record Ending (n : ℕ) (s : State) (s₃ : State) : Type 0 where
  pub last : Object
  pub opened : s.opened ≡ last ∷ []
  pub clean : s.flags ≡ none
  pub closed : State
  pub popped : Popped n s last closed
  pub written : List Field
  pub these : fields closed closed.packed ≡ Some written
  pub placed : Placed written closed s₃
  pub packed : s₃.packed ≡ closed.packed

none_open : (s : State) → nothing_open s ≡ true → s.opened ≡ []
none_open s e = go s.opened e
  where
    go : (os : List Object) → (elim os [ [] ↦ true | o ∷ os ↦ false ]) ≡ true → os ≡ []
    go [] e = refl
    go (o ∷ os) e = absurd (both_ways false refl e)

module _ (n : ℕ) (s : State) (o : Object) (os : List Object) (is : s.opened ≡ o ∷ os) (clean : s.flags ≡ none) (w : State) (popped : w.flags ≡ none → Popped n s o w) (left : w.opened ≡ os) where
  resolved_ending : w.opened ≡ [] → w.flags ≡ none → (f : Option (List Field)) → fields w w.packed ≡ f → (resolved f w).flags ≡ none → (resolved f w).packed ≡ w.packed → Ending n s (resolved f w)
  resolved_ending e c None g z k = absurd (raised w.flags other (omega arith) z)
  resolved_ending e c (Some fs) g z k = record
      { last = o; opened = is ∙ ap (λ (x : List Object). o ∷ x) (sym left ∙ e); clean = clean; closed = w; popped = popped c; written = fs; these = g; placed = puts_placed fs w z; packed = k }

  resolve_ending : (resolve w).flags ≡ none → (resolve w).packed ≡ w.packed → Ending n s (resolve w)
  resolve_ending = by_test (flagged w) _ _ (λ (x : State). x.flags ≡ none → x.packed ≡ w.packed → Ending n s x)
      (λ e z k. absurd (both_ways (flagged w) (ap (λ (x : SerializeErrorFlags). not (same_flags x none)) z) e))
      (λ e. let c = zero_flags w e in by_test (nothing_open w) _ _ (λ (x : State). x.flags ≡ none → x.packed ≡ w.packed → Ending n s x)
      (λ u z k. resolved_ending (none_open w u) c (fields w w.packed) refl z k)
      (λ u z k. absurd (raised w.flags other (omega arith) z)))

module _ (n : ℕ) (s : State) (d : SoundState n s) (r : Pairs) (going : s.ended ≡ false) where
  -- over an open object, without flags
  closing : (o : Object) (os : List Object) → s.opened ≡ o ∷ os → s.flags ≡ none → (x : Out (Option ObjIdx)) → x ≡ pop_pack false s r → (resolve (with_ended x.state)).flags ≡ none → Ending n s (resolve (with_ended x.state))
  closing o os is clean x e z =
      let active : idle s ≡ false = ap (λ (b : Bool). b || hard s.flags) going ∙ ap hard clean in
      let q : pop_pack false s r ≡ close false o os s r = if_false (idle s) _ _ active ∙ ap (λ (y : List Object). close_first false y s r) is in
      let w = with_ended x.state in
      resolve_ending n s o os is clean w
      (λ c. let y : Popped n s o x.state = subst (λ (v : Out (Option ObjIdx)). v.state.flags ≡ none → Popped n s o v.state) (sym (e ∙ q)) (close_popped n s d r o os (subst (Tails n) is d.tails).1 clean) c in
      record { sound = y.sound; under = y.under; head = y.head; tail = y.tail; after = y.after; loose = y.loose })
      (ap (λ (v : Out (Option ObjIdx)). v.state.opened) (e ∙ q) ∙ close_opened s r o os) z (resolve_objects w).packed

  pub end_ending : (end_serialize s r).state.ended ≡ true → (end_serialize s r).state.flags ≡ none → Ending n s (end_serialize s r).state
  end_ending = by_test (s.ended || nothing_open s) _ _ (λ (x : Out (Unit {0})). x.state.ended ≡ true → x.state.flags ≡ none → Ending n s x.state)
      (λ t e. absurd (both_ways s.ended going e))
      (λ t. by_test (flagged s) _ _ (λ (x : Out (Unit {0})). x.state.ended ≡ true → x.state.flags ≡ none → Ending n s x.state)
      (λ f e. absurd (both_ways s.ended going e))
      (λ f. first (or_parts s.ended (nothing_open s) t).1 (zero_flags s f) s.opened refl))
    where
      over : (o : Object) (os : List Object) → s.opened ≡ o ∷ os → s.flags ≡ none → (ps : List Object) → (end_over ps s r).state.ended ≡ true → (end_over ps s r).state.flags ≡ none → Ending n s (end_over ps s r).state
      over o os is clean [] e z = absurd (both_ways s.ended going e)
      over o os is clean (p ∷ ps) e z = closing o os is clean (pop_pack false s r) refl z

      first : nothing_open s ≡ false → s.flags ≡ none → (os : List Object) → s.opened ≡ os → (end_over s.packed s r).state.ended ≡ true → (end_over s.packed s r).state.flags ≡ none → Ending n s (end_over s.packed s r).state
      first u clean [] is = absurd (both_ways (nothing_open s) u (ap (λ (x : List Object). elim x as (λ y. Bool) [ [] ↦ true | p ∷ ps ↦ false ]) is))
      first u clean (o ∷ os) is = over o os is clean s.packed

-- an ending without flags over an open object and packed ones ends
pub end_ends : (s : State) (r : Pairs) → s.ended ≡ false → s.flags ≡ none → 0 < length s.opened → 0 < length s.packed → (end_serialize s r).state.ended ≡ true
end_ends s r going clean deep some =
    by_test (s.ended || nothing_open s) _ _ (λ (x : Out (Unit {0})). x.state.ended ≡ true) (λ t. absurd (both_ways (s.ended || nothing_open s) (or_from s.ended (nothing_open s) going (opens s.opened deep)) t))
    (λ t. by_test (flagged s) _ _ (λ (x : Out (Unit {0})). x.state.ended ≡ true) (λ f. absurd (both_ways (flagged s) (ap (λ (x : SerializeErrorFlags). not (same_flags x none)) clean) f)) (λ f. over s.packed some))
  where
    opens : (os : List Object) → 0 < length os → (elim os [ [] ↦ true | o ∷ os ↦ false ]) ≡ false
    opens [] l = absurd (omega arith)
    opens (o ∷ os) l = refl

    over : (ps : List Object) → 0 < length ps → (end_over ps s r).state.ended ≡ true
    over [] l = absurd (omega arith)
    over (p ∷ ps) l = resolve_ended (with_ended (pop_pack false s r).state)

-- ---- what a field shows

pub minus : (a b : ℕ) → b ≤ a → pos a -ℤ pos b ≡ pos (a - b)
minus a b l = omega (arith, ints)

-- w bytes have as many values as 8 w bits
bits : (w : ℕ) → 2 ^ (8 * w) ≡ 256 ^ w
bits zero = refl
bits (suc k) =
    let e : 8 * suc k ≡ 8 + 8 * k = omega arith in
    ap (λ (x : ℕ). 2 ^ x) e ∙ (pow-add 2 8 (8 * k) ∙ (ap (λ (x : ℕ). 256 * x) (bits k) ∙ sym (pow-succ' 256 k)))

-- a field's bytes read as its value
pub shown_field : (w v : ℕ) (g : Bool) → 0 < w → v ≤ largest w g → shown g (big_endian w v) ≡ pos v
shown_field w v g l u = go g u
  where
    half : 2 ^ (8 * w - 1) + 2 ^ (8 * w - 1) ≡ 2 ^ (8 * w)
    half = let e : 1 + (8 * w - 1) ≡ 8 * w = omega arith in let c = pow-add 2 1 (8 * w - 1) in sym (ap (λ (x : ℕ). 2 ^ x) (sym e) ∙ (c ∙ omega arith))

    some_power : 0 < 2 ^ (8 * w - 1)
    some_power = pow_pos (8 * w - 1)

    whole : v < 2 ^ (8 * w) → number (big_endian w v) ≡ v
    whole h = number_back w v (subst (λ (x : ℕ). v < x) (bits w) h)

    go : (g : Bool) → v ≤ largest w g → shown g (big_endian w v) ≡ pos v
    go false h = let p = half in let q = some_power in ap pos (whole (omega arith))
    go true h =
        let p = half in let q = some_power in
        let bs = big_endian w v in
        let e : number bs ≡ v = whole (omega arith) in
        let t : ltb (number bs) (2 ^ (8 * length bs - 1)) ≡ true = lt-ltb (number bs) (2 ^ (8 * length bs - 1)) (subst (λ (x : ℕ). number bs < 2 ^ (8 * x - 1)) (sym (length_big_endian w v)) (omega arith)) in
        ap (λ (b : Bool). cond b (pos (number bs)) (pos (number bs) -ℤ pos (2 ^ (8 * length bs)))) t ∙ ap pos e
