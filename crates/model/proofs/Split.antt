-- Case splits on the tests of the model; every proof about calls uses them.
use Rattle.std.proofs.Common.{◌≡◌, Bool, true, false, List, [], ◌∷◌, refl, ap}
use Rattle.cursor.specs.declared.flags.SerializeErrorFlags.{SerializeErrorFlags}
use Rattle.cursor.specs.Flags.{joined, other}
use Rattle.model.specs.State.{State, flag}
use Rattle.model.specs.Declining.{refuse, guarded}

-- no test of the list holds
abbrev pub NoneHold : List (Bool × SerializeErrorFlags) → Type 0
NoneHold [] = Unit {0}
NoneHold (t ∷ ts) = (t.0 ≡ false) × NoneHold ts

pub by_test : {A : Type 0} (b : Bool) (x y : A) (P : A → Type 0) → (b ≡ true → P x) → (b ≡ false → P y) → P (elim b [ true ↦ x | false ↦ y ])
by_test true x y P p q = p refl
by_test false x y P p q = q refl

pub if_true : {A : Type 0} (b : Bool) (x y : A) → b ≡ true → (elim b as (λ t. A) [ true ↦ x | false ↦ y ]) ≡ x
if_true {A} b x y e = ap (λ (t : Bool). elim t as (λ t. A) [ true ↦ x | false ↦ y ]) e

pub if_false : {A : Type 0} (b : Bool) (x y : A) → b ≡ false → (elim b as (λ t. A) [ true ↦ x | false ↦ y ]) ≡ y
if_false {A} b x y e = ap (λ (t : Bool). elim t as (λ t. A) [ true ↦ x | false ↦ y ]) e

-- P over what a declined call leaves and answers, and over what the call does if no test holds
pub refuse_by : {A : Type 0} (P : State × A → Type 0) (ts : List (Bool × SerializeErrorFlags)) (e : SerializeErrorFlags → A) (s : State) (go : State → State × A) →
    ((f : SerializeErrorFlags) → P (flag s f, e (joined s.flags f))) → (NoneHold ts → P (go s)) → P (refuse ts e s go)
refuse_by P [] e s go d q = q tt
refuse_by P (t ∷ ts) e s go d q =
    by_test t.0 (flag s t.1, e (joined s.flags t.1)) (refuse ts e s go) P (λ h. d t.1) (λ h. refuse_by P ts e s go d (λ n. q (h, n)))

pub guarded_by : {A : Type 0} (P : State × A → Type 0) (tests : State → List (Bool × SerializeErrorFlags)) (e : SerializeErrorFlags → A) (go : State → State × A) (s : State) →
    P (s, e (joined s.flags other)) → ((f : SerializeErrorFlags) → P (flag s f, e (joined s.flags f))) → (s.ended ≡ false → NoneHold (tests s) → P (go s)) → P (guarded tests e go s)
guarded_by P tests e go s p d q = by_test s.ended (s, e (joined s.flags other)) (refuse (tests s) e s go) P (λ h. p) (λ h. refuse_by P (tests s) e s go d (q h))

-- the same of the state alone
pub guarded_keeps : {A : Type 0} (P : State → Type 0) → ((s : State) (f : SerializeErrorFlags) → P s → P (flag s f)) →
    (tests : State → List (Bool × SerializeErrorFlags)) (e : SerializeErrorFlags → A) (go : State → State × A) (s : State) → P s → (s.ended ≡ false → NoneHold (tests s) → P (go s).0) → P (guarded tests e go s).0
guarded_keeps {A} P j tests e go s p q = guarded_by (λ (x : State × A). P x.0) tests e go s p (λ f. j s f p) q
