-- What holds of the fields at once, and how it lasts as slots go from one stack to another.
use Rattle.std.proofs.Common.{◌≡◌, ℕ, ◌+◌, ◌<◌, ◌≤◌, cond, eqb, ltb, length, sym, ap, ◌∙◌, subst, inl, inr, arith}
use Rattle.std.proofs.lemmas.Bool.{cases_eq, cases_lt}
use Rattle.link.specs.declared.PoolIdx.{PoolIdx}
use Rattle.objects.specs.declared.state.Objects.{Objects}
use Rattle.objects.specs.Slots.{occ, held, Apart, Blank}
use Rattle.objects.specs.Contents.{Parts, parts}
use Rattle.objects.specs.Loose.{Loose}
use Rattle.objects.proofs.Count.{here, there, inside, outside, not_inside, not_outside, in_used, used_more}

pub record Sound (p : Parts) : Type 0 where
  pub sized : length p.extents ≡ p.slots
  pub paired : length p.links ≡ p.slots + p.slots
  pub counted : length p.opened + length p.packed + length p.released ≤ p.used
  pub roomy : p.used ≤ p.slots
  pub apart : Apart p.opened p.packed p.released p.used
  pub blank : Blank p.links p.released p.used

pub sound : (s : Objects) → Sound (parts s)
sound s = record { sized = omega (arith, s.extents.ok.0); paired = s.paired; counted = s.counted; roomy = s.roomy; apart = s.apart; blank = s.blank }

-- what `Objects` asks of its fields, and of the room on the stacks
pub kept : (p : Parts) (A : Type 0) → Sound p → A → record {
  paired : length p.links ≡ p.slots + p.slots;
  reserved : A;
  counted : length p.opened + length p.packed + length p.released ≤ p.used;
  roomy : p.used ≤ p.slots;
  apart : Apart p.opened p.packed p.released p.used;
  blank : Blank p.links p.released p.used;
}
kept p A w r = record { paired = w.paired; reserved = r; counted = w.counted; roomy = w.roomy; apart = w.apart; blank = w.blank }

-- how often a slot stands on the stacks, and how many stand on them
abbrev pub mass : Parts → ℕ → ℕ
mass p k = occ k p.opened + occ k p.packed + occ k p.released

abbrev pub size : Parts → ℕ
size p = length p.opened + length p.packed + length p.released

-- a slot that stands on a stack stands once
pub once : (p : Parts) (k : ℕ) → Sound p → 0 < mass p k → (k < p.used) × (mass p k ≡ 1)
once p k w h =
    let t : k < p.used = in_used k p.used _ (w.apart k) h in
    (t, omega (arith, w.apart k, inside k p.used t))

-- ---- other stacks over the same slots

pub record Restacked (p q : Parts) : Type 0 where
  pub extents : length q.extents ≡ length p.extents
  pub links : q.links ≡ p.links
  pub used : q.used ≡ p.used
  pub slots : q.slots ≡ p.slots

-- a slot fewer
pub lighter : (p q : Parts) → Sound p → Restacked p q → ((k : ℕ) → mass q k ≤ mass p k) → size q ≤ size p → ((k : ℕ) → occ k q.released ≤ occ k p.released) → Sound q
lighter p q w r m s b =
    record {
      sized = r.extents ∙ w.sized ∙ sym r.slots;
      paired = omega (arith, ap length r.links, w.paired, r.slots);
      counted = omega (arith, w.counted, r.used);
      roomy = omega (arith, w.roomy, r.used, r.slots);
      apart = λ k. subst (λ (n : ℕ). mass q k ≤ cond (ltb k n) 1 0) (sym r.used) (omega (arith, m k, w.apart k));
      blank = λ k h. subst (λ ls. held ls k ≡ 0) (sym r.links) (w.blank k (let h' = subst (λ (n : ℕ). 0 < occ k q.released + cond (ltb k n) 0 1) r.used h in omega (arith, b k)));
    }

-- the slot taken
pub loosened : (p q : Parts) (x : PoolIdx) → Sound p → q.used ≡ p.used → mass p x.0 ≡ mass q x.0 + 1 → size p ≡ size q + 1 → Loose q x
loosened p q x w u m s =
    let o = once p x.0 w (omega arith) in
    record {
      taken = omega (arith, o.0);
      not_open = omega (arith, o.1);
      not_packed = omega (arith, o.1);
      not_released = omega (arith, o.1);
      spare = omega (arith, w.counted);
    }

-- a slot more
pub heavier : (p q : Parts) (x : PoolIdx) → Sound p → Restacked p q → Loose p x → ((k : ℕ) → mass q k ≡ mass p k + cond (eqb k x.0) 1 0) → size q ≡ size p + 1 → Blank q.links q.released q.used → Sound q
heavier p q x w r l m s b =
    record {
      sized = r.extents ∙ w.sized ∙ sym r.slots;
      paired = omega (arith, ap length r.links, w.paired, r.slots);
      counted = omega (arith, l.spare, r.used);
      roomy = omega (arith, w.roomy, r.used, r.slots);
      apart = λ k. subst (λ (n : ℕ). mass q k ≤ cond (ltb k n) 1 0) (sym r.used) (elim (cases_eq k x.0) [
        | inl e ↦
            let z : mass p k ≡ 0 = ap (mass p) e ∙ omega (arith, l.not_open, l.not_packed, l.not_released) in
            let o : ◌≡◌ {A = ℕ} (cond (eqb k x.0) 1 0) 1 = subst (λ (n : ℕ). ◌≡◌ {A = ℕ} (cond (eqb k n) 1 0) 1) e (here k) in
            omega (arith, m k, inside k p.used (omega (arith, l.taken)))
        | inr e ↦ omega (arith, m k, there k x.0 e, w.apart k)
      ]);
      blank = b;
    }

-- ---- one slot more in use

abbrev pub with_used : Parts → ℕ → Parts
with_used p n = record { extents = p.extents; links = p.links; opened = p.opened; packed = p.packed; released = p.released; used = n; slots = p.slots; cells = p.cells }

pub used_sound : (p : Parts) → Sound p → p.used < p.slots → Sound (with_used p (p.used + 1))
used_sound p w h =
    record {
      sized = w.sized;
      paired = w.paired;
      counted = omega (arith, w.counted);
      roomy = omega arith;
      apart = λ k. omega (arith, w.apart k, used_more k p.used);
      blank = λ k g. w.blank k (elim (cases_lt k p.used) [
        | inl q ↦ let i = not_outside k (p.used + 1) (omega arith) in omega arith
        | inr q ↦ let i = not_inside k p.used q in omega arith
      ]);
    }

pub used_loose : (p : Parts) → Sound p → Loose (with_used p (p.used + 1)) (record { 0 = p.used })
used_loose p w =
    let o = outside p.used p.used (omega arith) in
    let a = w.apart p.used in
    record { taken = omega arith; not_open = omega arith; not_packed = omega arith; not_released = omega arith; spare = omega (arith, w.counted) }

pub used_blank : (p : Parts) → Sound p → held p.links p.used ≡ 0
used_blank p w = w.blank p.used (let i = not_inside p.used p.used (omega arith) in omega arith)
