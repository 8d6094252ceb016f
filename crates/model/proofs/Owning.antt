-- A register left alone never answers no, and holds one entered object to the same bytes and links.
use Rattle.std.proofs.Common.{◌≡◌, ℕ, ◌<◌, true, false, ltb, List, [], ◌∷◌, length, Some, Option, sym, refl, ap, ◌∙◌, inl, inr, arith}
use Rattle.link.specs.declared.Link.{Link}
use Rattle.link.specs.declared.ObjIdx.{ObjIdx}
use Rattle.register.specs.Pairs.{Pairs, fits}
use Rattle.std.proofs.lemmas.Bool.{or_right, lt-ltb}
use Rattle.model.specs.State.{State, Object, index}
use Rattle.model.specs.Declining.{idle}
use Rattle.model.specs.Closing.{Out, object_hash, close_first, pop_pack}
use Rattle.model.specs.Reading.{bytes_of}
use Rattle.model.specs.Run.{Call, Beginning, run}
use Rattle.model.specs.Run.Call.{PopPack, End, OwnerStrike}
use Rattle.model.specs.Run.Answer.{Number}
use Rattle.model.specs.Moments.{at, answered, span, depth, count}
use Rattle.model.specs.Sharing.{Entered, Twin}
use Rattle.model.specs.Owning.{LeftAlone, Owning}
use Rattle.model.proofs.Split.{by_test}
use Rattle.model.proofs.Number.{none_some, some_inj, numbered_below}
use Rattle.model.proofs.Stack.{run_sound, run_called}
use Rattle.model.proofs.Slot.{room_left}
use Rattle.model.proofs.Tally.{run_tallied}
use Rattle.model.proofs.Share.{pop_closed, said, shared_so, entered_stays}
use Rattle.model.proofs.Alone.{run_lone}

has_room : (b : Beginning) (cs : List Call) → LeftAlone b cs → (at b cs).ended ≡ false → 0 < depth (at b cs) → (h k : ℕ) → fits (run b cs).register h k ≡ true
has_room b cs a going deep h k =
    let t = run_tallied b a.counted cs going in let l = t.few in let c = t.capacity in let u = room_left b cs deep in let x = a.empty in let y = a.untouched in
    or_right ((run b cs).register.has h k) (ltb (run b cs).register.count (run b cs).register.capacity) (lt-ltb (run b cs).register.count (run b cs).register.capacity (omega arith))

-- what answers a number had an object open
opened_so : (s : State) (r : Pairs) (k : ObjIdx) → (pop_pack true s r).answer ≡ Some k → (o : Object) × (os : List Object) × (s.opened ≡ o ∷ os)
opened_so s r k = by_test (idle s) _ _ (λ (x : Out (Option ObjIdx)). x.answer ≡ Some k → (o : Object) × (os : List Object) × (s.opened ≡ o ∷ os)) (λ t a. absurd (none_some k a)) (λ t. first s.opened refl)
  where
    first : (os : List Object) → s.opened ≡ os → (close_first true os s r).answer ≡ Some k → (o : Object) × (os : List Object) × (s.opened ≡ o ∷ os)
    first [] e a = absurd (none_some k a)
    first (o ∷ os) e a = (o, os, e)

not_end : PopPack true ≡ End → ⊥
not_end e = let z : ◌≡◌ {A = ℕ} 0 1 = cc in omega arith

not_strike : (h : ℕ) (k : ObjIdx) → PopPack true ≡ OwnerStrike h k → ⊥
not_strike h k e = let z : ◌≡◌ {A = ℕ} 0 1 = cc in omega arith

shares_entered : (b : Beginning) (cs : List Call) → LeftAlone b cs → (k : ℕ) → answered b (PopPack true ∷ cs) ≡ Number (Some (index k)) → Entered (run b (PopPack true ∷ cs)) k
shares_entered b cs a k e =
    let s = at b cs in let r = (run b cs).register in
    let x = said b cs true k e in
    let o = opened_so s r (index k) x in
    let c = pop_closed (span b) s (run_sound b cs) r o.0 o.1 o.2 true k x in
    let l : k < count (at b (PopPack true ∷ cs)) = numbered_below (at b (PopPack true ∷ cs)).packed k c.names.object c.names.named in
    elim (shared_so b cs a.counted k o.0 o.1 o.2 e) [
      | inl w ↦ entered_stays b (PopPack true) cs ((run_called b (PopPack true) cs).only_end not_end) k w.0.entered (not_strike (object_hash s.memory w.0.entered.object) (index k)) l
      | inr w ↦ elim w.2 [ inl t ↦ t | inr f ↦ absurd (let u = f.entered in let y = a.empty in let z = a.untouched in omega arith) ]
    ]

one_twin : (b : Beginning) (cs : List Call) → LeftAlone b cs → (at b cs).ended ≡ false → (bs : List ℕ) (ls : List Link) (j k : ℕ) → Twin (run b cs) j bs ls → Twin (run b cs) k bs ls → j ≡ k
one_twin b cs a going bs ls j k t u =
    let w = run_lone b a.counted a.empty cs a.untouched going in
    let p = t.entered.object in let q = u.entered.object in
    let e : t.names.object ≡ p = some_inj t.names.object p (sym t.names.named ∙ t.entered.named) in
    let f : u.names.object ≡ q = some_inj u.names.object q (sym u.names.named ∙ u.entered.named) in
    w.alone j k p q t.entered.named u.entered.named t.entered.entered u.entered.entered
    (ap (λ (x : Object). bytes_of (at b cs) x) (sym e) ∙ (t.names.bytes ∙ (sym u.names.bytes ∙ ap (λ (x : Object). bytes_of (at b cs) x) f)))
    (ap (λ (x : Object). x.real) (sym e) ∙ (t.names.links ∙ (sym u.names.links ∙ ap (λ (x : Object). x.real) f)))

pub owning : Owning
owning = record {
  yes = λ b cs a going o os e h k. has_room b cs a going (let z = ap length e in omega arith) h k;
  shared = shares_entered;
  alone = one_twin;
}
