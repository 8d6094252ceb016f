-- Which case of ending holds, by the tests that the call makes.
use Rattle.std.proofs.Common.{◌≡◌, Bool, true, false, ◌||◌, List, [], ◌∷◌, length, refl, ◌∙◌, arith}
use Rattle.std.proofs.lemmas.Bool.{or_left, or_right, or_from}
use Rattle.model.specs.State.{State, Object}
use Rattle.model.specs.Declining.{flagged, nothing_open}
use Rattle.model.specs.Closing.{Out, out, pop_pack}
use Rattle.model.specs.Ending.{finish, end_over, end_flagged, end_serialize}
use Rattle.register.specs.Pairs.{Pairs}

by_tests : (s : State) (r : Pairs) (b f : Bool) → (s.ended || nothing_open s) ≡ b → flagged s ≡ f →
    end_serialize s r ≡ elim b as (λ _. Out (Unit {0})) [ true ↦ out s r tt | false ↦ elim f as (λ _. Out (Unit {0})) [ true ↦ out (end_flagged s) r tt | false ↦ end_over s.packed s r ] ]
by_tests s r b f e h = λ i. elim (e i) as (λ _. Out (Unit {0})) [ true ↦ out s r tt | false ↦ elim (h i) as (λ _. Out (Unit {0})) [ true ↦ out (end_flagged s) r tt | false ↦ end_over s.packed s r ] ]

pub when_ended : (s : State) (r : Pairs) → s.ended ≡ true → end_serialize s r ≡ out s r tt
when_ended s r e = by_tests s r true (flagged s) (or_left s.ended (nothing_open s) e) refl

pub when_closed : (s : State) (r : Pairs) → nothing_open s ≡ true → end_serialize s r ≡ out s r tt
when_closed s r e = by_tests s r true (flagged s) (or_right s.ended (nothing_open s) e) refl

pub when_flagged : (s : State) (r : Pairs) → s.ended ≡ false → nothing_open s ≡ false → flagged s ≡ true → end_serialize s r ≡ out (end_flagged s) r tt
when_flagged s r e n f = by_tests s r false true (or_from s.ended (nothing_open s) e n) f

over_none : (ps : List Object) (s : State) (r : Pairs) → length ps ≡ 0 → end_over ps s r ≡ out s r tt
over_none [] s r e = refl
over_none (p ∷ ps) s r e = absurd (omega arith)

over_some : (ps : List Object) (s : State) (r : Pairs) → (length ps ≡ 0 → ⊥) → end_over ps s r ≡ finish (pop_pack false s r)
over_some [] s r h = absurd (h refl)
over_some (p ∷ ps) s r h = refl

pub when_none_packed : (s : State) (r : Pairs) → s.ended ≡ false → nothing_open s ≡ false → flagged s ≡ false → length s.packed ≡ 0 → end_serialize s r ≡ out s r tt
when_none_packed s r e n f h = by_tests s r false false (or_from s.ended (nothing_open s) e n) f ∙ over_none s.packed s r h

pub when_packed : (s : State) (r : Pairs) → s.ended ≡ false → nothing_open s ≡ false → flagged s ≡ false → (length s.packed ≡ 0 → ⊥) → end_serialize s r ≡ finish (pop_pack false s r)
when_packed s r e n f h = by_tests s r false false (or_from s.ended (nothing_open s) e n) f ∙ over_some s.packed s r h
