-- Each link of a packed object was added by a call that was accepted, in an object that kept it until it was closed under its number.
use Rattle.std.proofs.Common.{◌≡◌, ℕ, suc, ◌+◌, ◌-◌, List, [], ◌∷◌, ◌++◌, length, Some, Ok, Err, Result, sym, ap, ◌∙◌, subst, inl, inr}
use Rattle.link.specs.declared.Link.{Link}
use Rattle.link.specs.Width.{bytes_of_width}
use Rattle.model.specs.declared.limit.Limit.{Limit}
use Rattle.model.specs.State.{Object, numbered}
use Rattle.model.specs.New.{checked, begun}
use Rattle.model.specs.Reading.{nth}
use Rattle.model.specs.Run.{Call, Beginning, run}
use Rattle.model.specs.Run.Answer.{Done}
use Rattle.model.specs.Moments.{at, answered, depth, count, Through}
use Rattle.model.specs.Offsets.{HasLink, adds, Added}
use Rattle.model.proofs.Number.{none_some, numbered_here, numbered_at, nth_at, nth_more}
use Rattle.model.proofs.Effect.{Adds}
use Rattle.model.proofs.Change.{call_effect}
use Rattle.model.proofs.Trail.{Kind, From, effect_opens, effect_packs}
use Rattle.model.proofs.Trail.Kind.{was, fresh, linked}
use Rattle.model.proofs.Trail.From.{stood, closed}

module _ (b : Beginning) where
  -- l is link i of the object open at level j because a call added it
  record Pending (cs : List Call) (j i : ℕ) (l : Link) : Type 0 where
    before : List Call
    range_from : ℕ
    range_to : ℕ
    meanwhile : List Call
    made : cs ≡ meanwhile ++ (adds l range_from range_to ∷ before)
    accepted : answered b (adds l range_from range_to ∷ before) ≡ Done (Ok tt)
    parent : Object
    below : List Object
    opened : (at b before).opened ≡ parent ∷ below
    level : length below ≡ j
    next : length parent.real ≡ i
    starts : range_from ≡ parent.head + l.position
    long : range_to - range_from ≡ bytes_of_width l.width
    kept : Through (λ ds. HasLink (at b ds).opened (length below) i l) meanwhile (adds l range_from range_to ∷ before)

  pend_next : (c : Call) (cs : List Call) (j i : ℕ) (l : Link) → HasLink (at b (c ∷ cs)).opened j i l → Pending cs j i l → Pending (c ∷ cs) j i l
  pend_next c cs j i l h t = record {
    before = t.before;
    range_from = t.range_from;
    range_to = t.range_to;
    meanwhile = c ∷ t.meanwhile;
    made = ap (λ (x : List Call). c ∷ x) t.made;
    accepted = t.accepted;
    parent = t.parent;
    below = t.below;
    opened = t.opened;
    level = t.level;
    next = t.next;
    starts = t.starts;
    long = t.long;
    kept = (subst (λ (x : ℕ). HasLink (at b (c ∷ (t.meanwhile ++ (adds l t.range_from t.range_to ∷ t.before)))).opened x i l) (sym t.level) (subst (λ (x : List Call). HasLink (at b (c ∷ x)).opened j i l) t.made h), t.kept);
  }

  pend_new : (c : Call) (cs : List Call) (j i : ℕ) (o o' : Object) (os : List Object) (l : Link) → (at b cs).opened ≡ o ∷ os → (at b (c ∷ cs)).opened ≡ o' ∷ os → j ≡ length os → o'.real ≡ o.real ++ (l ∷ []) →
      i ≡ length o.real → Adds c (answered b (c ∷ cs)) o l → Pending (c ∷ cs) j i l
  pend_new c cs j i o o' os l e f g h k a = record {
    before = cs;
    range_from = a.range_from;
    range_to = a.range_to;
    meanwhile = [];
    made = ap (λ (x : Call). x ∷ cs) a.is;
    accepted = subst (λ (x : Call). answered b (x ∷ cs) ≡ Done (Ok tt)) a.is a.accepted;
    parent = o;
    below = os;
    opened = e;
    level = sym g;
    next = sym k;
    starts = a.starts;
    long = a.long;
    kept = subst (λ (x : Call). HasLink (at b (x ∷ cs)).opened (length os) i l) a.is
        (o', ap (λ (x : List Object). numbered x (length os)) f ∙ numbered_here o' os, subst (λ (x : ℕ). nth o'.real x ≡ Some l) (sym k) (subst (λ (x : List Link). nth x (length o.real) ≡ Some l) (sym h) (nth_at o.real l [])));
  }

  abbrev AllPending : List Call → Type 0
  AllPending cs = (j : ℕ) (o : Object) → numbered (at b cs).opened j ≡ Some o → (i : ℕ) (l : Link) → nth o.real i ≡ Some l → Pending cs j i l

  abbrev AllAdded : List Call → Type 0
  AllAdded cs = (k : ℕ) (p : Object) → numbered (at b cs).packed k ≡ Some p → (i : ℕ) (l : Link) → nth p.real i ≡ Some l → Added b cs k i l

  pend_by : (c : Call) (cs : List Call) → AllPending cs → (j : ℕ) (o : Object) → numbered (at b (c ∷ cs)).opened j ≡ Some o → (i : ℕ) (l : Link) → nth o.real i ≡ Some l →
      Kind c (answered b (c ∷ cs)) (at b cs) (at b (c ∷ cs)).opened j o → Pending (c ∷ cs) j i l
  pend_by c cs all j o e i l h (was p f m) = pend_next c cs j i l (o, e, h) (all j p f i l (m i l h))
  pend_by c cs all j o e i l h (fresh z) = absurd (none_some l (subst (λ (x : List Link). nth x i ≡ Some l) z h))
  pend_by c cs all j o e i l h (linked p os k f g u m a) = elim (nth_more p.real k i l (subst (λ (x : List Link). nth x i ≡ Some l) m h)) [
    | inl v ↦ pend_next c cs j i l (o, e, h) (all j p (ap (λ (x : List Object). numbered x j) f ∙ numbered_at p os j (sym u)) i l v)
    | inr v ↦ pend_new c cs j i p o os l f g u (m ∙ ap (λ (x : Link). p.real ++ (x ∷ [])) v.1) v.0 (subst (Adds c (answered b (c ∷ cs)) p) v.1 a)
  ]

  add_next : (c : Call) (cs : List Call) (k i : ℕ) (l : Link) → HasLink (at b (c ∷ cs)).packed k i l → Added b cs k i l → Added b (c ∷ cs) k i l
  add_next c cs k i l h t = record {
    before = t.before;
    range_from = t.range_from;
    range_to = t.range_to;
    meanwhile = t.meanwhile;
    closing = t.closing;
    since = c ∷ t.since;
    made = ap (λ (x : List Call). c ∷ x) t.made;
    accepted = t.accepted;
    parent = t.parent;
    below = t.below;
    opened = t.opened;
    next = t.next;
    starts = t.starts;
    long = t.long;
    kept = t.kept;
    innermost = t.innermost;
    closed = t.closed;
    as_number = t.as_number;
    stands = (subst (λ (x : List Call). HasLink (at b (c ∷ x)).packed k i l) t.made h, t.stands);
  }

  add_new : (c : Call) (cs : List Call) (k i : ℕ) (l : Link) (o : Object) (os : List Object) → k ≡ count (at b cs) → (at b cs).opened ≡ o ∷ os → (at b (c ∷ cs)).opened ≡ os → count (at b (c ∷ cs)) ≡ suc k →
      HasLink (at b (c ∷ cs)).packed k i l → Pending cs (length os) i l → Added b (c ∷ cs) k i l
  add_new c cs k i l o os e f g h u t =
      let m = t.made in
      record {
        before = t.before;
        range_from = t.range_from;
        range_to = t.range_to;
        meanwhile = t.meanwhile;
        closing = c;
        since = [];
        made = ap (λ (x : List Call). c ∷ x) m;
        accepted = t.accepted;
        parent = t.parent;
        below = t.below;
        opened = t.opened;
        next = t.next;
        starts = t.starts;
        long = t.long;
        kept = t.kept;
        innermost = subst (λ (x : List Call). depth (at b x) ≡ suc (length t.below)) m (ap length f ∙ ap suc (sym t.level));
        closed = subst (λ (x : List Call). depth (at b (c ∷ x)) ≡ length t.below) m (ap length g ∙ sym t.level);
        as_number = (subst (λ (x : List Call). count (at b x) ≡ k) m (sym e), subst (λ (x : List Call). count (at b (c ∷ x)) ≡ suc k) m h);
        stands = subst (λ (x : List Call). HasLink (at b (c ∷ x)).packed k i l) m u;
      }

  add_by : (c : Call) (cs : List Call) → AllPending cs → AllAdded cs → (k : ℕ) (p : Object) → numbered (at b (c ∷ cs)).packed k ≡ Some p → (i : ℕ) (l : Link) → nth p.real i ≡ Some l →
      From (at b cs) (at b (c ∷ cs)).opened (at b (c ∷ cs)).packed k p → Added b (c ∷ cs) k i l
  add_by c cs pend all k p e i l h (stood q f r) = add_next c cs k i l (p, e, h) (all k q f i l (subst (λ (x : List Link). nth x i ≡ Some l) r h))
  add_by c cs pend all k p e i l h (closed o os f g u r n) = add_new c cs k i l o os f g u n (p, e, h)
      (pend (length os) o (ap (λ (x : List Object). numbered x (length os)) g ∙ numbered_here o os) i l (subst (λ (x : List Link). nth x i ≡ Some l) r h))

  none_open : (x : Result (Unit {0}) Limit) (size slots cells j : ℕ) (o : Object) → numbered (begun x size slots cells).opened j ≡ Some o → ⊥
  none_open (Ok u) size slots cells j o e = none_some o e
  none_open (Err l) size slots cells j o e = none_some o e

  none_packed : (x : Result (Unit {0}) Limit) (size slots cells k : ℕ) (p : Object) → numbered (begun x size slots cells).packed k ≡ Some p → ⊥
  none_packed (Ok u) size slots cells k p e = none_some p e
  none_packed (Err l) size slots cells k p e = none_some p e

  origins : (cs : List Call) → AllPending cs × AllAdded cs
  origins [] =
      let x = checked b.size b.slots b.cells b.register.capacity in
      ((λ j o e. absurd (none_open x b.size b.slots b.cells j o e)), (λ k p e. absurd (none_packed x b.size b.slots b.cells k p e)))
  origins (c ∷ cs) =
      let ih = origins cs in
      let f = call_effect c (at b cs) (run b cs).register (run b cs).answers in
      ((λ j o e i l h. pend_by c cs ih.0 j o e i l h (effect_opens f j o e)), (λ k p e i l h. add_by c cs ih.0 ih.1 k p e i l h (effect_packs f k p e)))

  pub all_added : (cs : List Call) (k : ℕ) (p : Object) → numbered (at b cs).packed k ≡ Some p → (i : ℕ) (l : Link) → nth p.real i ≡ Some l → Added b cs k i l
  all_added cs = (origins cs).1
