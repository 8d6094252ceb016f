-- The least number that is entered and whose object is like the one that is closed. Used by the search for it.
use Rattle.std.proofs.Common.{◌≡◌, ℕ, suc, ◌<◌, Bool, true, false, cond, ◌&&◌, ◌≢◌, List, [], ◌∷◌, length, Some, None, Option, sym, refl, ap, ◌∙◌, inl, inr, arith}
use Rattle.std.proofs.lemmas.Bool.{cases_eq, cases_Bool, eq-eqb, ne_eqb, and_from, and_left, and_right}
use Rattle.std.specs.Option.{option_map}
use Rattle.link.specs.declared.Link.{Link}
use Rattle.link.specs.declared.ObjIdx.{ObjIdx}
use Rattle.register.specs.Pairs.{Pairs}
use Rattle.register.specs.Match.{LeastWhere}
use Rattle.model.specs.State.{Object, index, numbered}
use Rattle.model.specs.Closing.{matches, twin, or_else}
use Rattle.serializer_close.specs.Twins.{like}

module _ (m : List ℕ) (r : Pairs) (h : ℕ) (bs : List ℕ) (ls : List Link) where
  abbrev pub hit : List Object → ℕ → Bool
  hit ps k = r.has h k && like m bs ls (numbered ps k)

  hit_here : (p : Object) (ps : List Object) → hit (p ∷ ps) (length ps) ≡ matches m r h bs ls (length ps) p
  hit_here p ps = ap (λ (t : Bool). r.has h (length ps) && like m bs ls (elim t [ true ↦ Some p | false ↦ numbered ps (length ps) ])) (eq-eqb (length ps) (length ps) refl)

  hit_there : (p : Object) (ps : List Object) (k : ℕ) → length ps ≢ k → hit (p ∷ ps) k ≡ hit ps k
  hit_there p ps k n = ap (λ (t : Bool). r.has h k && like m bs ls (elim t [ true ↦ Some p | false ↦ numbered ps k ])) (ne_eqb (length ps) k n)

  pub twin_none : (ps : List Object) → ((k : ℕ) → k < length ps → hit ps k ≡ false) → twin m r h bs ls ps ≡ None
  twin_none [] f = refl
  twin_none (p ∷ ps) f =
      ap (λ (o : Option ℕ). or_else o (cond (matches m r h bs ls (length ps) p) (Some (length ps)) None)) (twin_none ps (λ k l. sym (hit_there p ps k (λ e. omega arith)) ∙ f k (omega arith)))
      ∙ ap (λ (t : Bool). cond t (Some (length ps)) None) (sym (hit_here p ps) ∙ f (length ps) (omega arith))

  pub twin_some : (ps : List Object) (k : ℕ) → k < length ps → hit ps k ≡ true → ((j : ℕ) → j < k → hit ps j ≡ false) → twin m r h bs ls ps ≡ Some k
  twin_some [] k l e f = absurd (omega arith)
  twin_some (p ∷ ps) k l e f = elim (cases_eq (length ps) k) [
    | inl q ↦ ap (λ (o : Option ℕ). or_else o (cond (matches m r h bs ls (length ps) p) (Some (length ps)) None)) (twin_none ps (λ j g. sym (hit_there p ps j (λ w. omega arith)) ∙ f j (omega arith)))
        ∙ ap (λ (t : Bool). cond t (Some (length ps)) None) (sym (hit_here p ps) ∙ ap (hit (p ∷ ps)) q ∙ e) ∙ ap {B = Option ℕ} Some q
    | inr q ↦ ap (λ (o : Option ℕ). or_else o (cond (matches m r h bs ls (length ps) p) (Some (length ps)) None)) (twin_some ps k (omega arith) (sym (hit_there p ps k q) ∙ e) (λ j g. sym (hit_there p ps j (λ w. omega arith)) ∙ f j g))
  ]

  -- a number that is not like, if it is held
  miss : (ps : List Object) (k : ℕ) → (r.has h k ≡ true → false ≡ like m bs ls (numbered ps k)) → hit ps k ≡ false
  miss ps k f = elim (cases_Bool (r.has h k)) [
    | inl e ↦ and_right (r.has h k) _ (sym (f e))
    | inr e ↦ and_left (r.has h k) _ e
  ]

  -- what a search by likeness finds
  pub twin_is : (ps : List Object) (o : Option ObjIdx) → LeastWhere r h (length ps) (λ i b. b ≡ like m bs ls (numbered ps i.0)) o → o ≡ option_map index (twin m r h bs ls ps)
  twin_is ps None l = ap (option_map index) (sym (twin_none ps (λ k lt. miss ps k (l.others (record { 0 = k }) lt tt))))
  twin_is ps (Some i) l = let q = l.passes in ap (option_map index) (sym (twin_some ps i.0 q.0 (and_from _ _ q.1 (sym q.2)) (λ j lt. miss ps j (l.others (record { 0 = j }) (omega (arith, q.0, lt)) lt))))

  -- the least such number is that of a packed object
  pub twin_within : (ps : List Object) (k : ℕ) → twin m r h bs ls ps ≡ Some k → k < length ps
  twin_within [] k e = absurd (let z : ◌≡◌ {A = ℕ} 0 1 = cc in omega arith)
  twin_within (p ∷ ps) k e = go (twin m r h bs ls ps) (λ j q. twin_within ps j q) (matches m r h bs ls (length ps) p) e
    where
      go : (o : Option ℕ) → ((j : ℕ) → o ≡ Some j → j < length ps) → (b : Bool) → or_else o (cond b (Some (length ps)) None) ≡ Some k → k < suc (length ps)
      go (Some j) q b f = let t = q j refl in let g : k ≡ j = cc in omega arith
      go None q true f = let g : k ≡ length ps = cc in omega arith
      go None q false f = absurd (let z : ◌≡◌ {A = ℕ} 0 1 = cc in omega arith)
