-- What a search by a test finds, in words of what the test computes. Used by the proofs of the searches for an equal object.
use Rattle.std.proofs.Common.{◌≡◌, ℕ, ◌<◌, Bool, true, false, eqb, List, length, get_or, Some, None, Option, IfSome, sym}
use Rattle.std.proofs.lemmas.Bool.{both_ways, eqb-true, eq-eqb}
use Rattle.link.specs.declared.ObjIdx.{ObjIdx}
use Rattle.register.specs.Pairs.{Pairs}
use Rattle.register.specs.Match.{LeastMatch, LeastWhere}

-- a test whose answers are what f computes
pub least_as : (p : Pairs) (h n : ℕ) {answers : ObjIdx → Bool → Type 0} (f : ℕ → Bool) {o : Option ObjIdx} → LeastWhere p h n answers o → ((m : ObjIdx) (b : Bool) → answers m b → b ≡ f m.0)
    → LeastWhere p h n (λ m b. b ≡ f m.0) o
least_as p h n {answers} f {o} l same = record { passes = go o l.passes; others = λ m lt below held. same m false (l.others m lt below held) }
  where
    go : (o : Option ObjIdx) → IfSome o (λ i. (i.0 < n) × (p.has h i.0 ≡ true) × answers i true) → IfSome o (λ i. (i.0 < n) × (p.has h i.0 ≡ true) × (true ≡ f i.0))
    go None q = tt
    go (Some i) (lt, held, found) = (lt, held, same i true found)

pub match_as : (p : Pairs) (h : ℕ) (table : List ℕ) (key : ℕ) (o : Option ObjIdx) → LeastWhere p h (length table) (λ m b. b ≡ eqb (get_or table m.0 0) key) o → LeastMatch p h table key o
match_as p h table key None l = λ m t. both_ways _ (sym (l.others (record { 0 = m }) t.within tt t.held)) (eq-eqb _ _ t.entry)
match_as p h table key (Some i) l = let q = l.passes in (
  record { held = q.1; within = q.0; entry = eqb-true _ _ (sym q.2) },
  λ m lt u. both_ways _ (sym (l.others (record { 0 = m }) u.within lt u.held)) (eq-eqb _ _ u.entry),
)
