-- The ending keeps a state sound, and changes neither memory, objects nor register unless it ends the serializer.
use Rattle.std.proofs.Common.{◌≡◌, ℕ, ◌+◌, true, false, ◌||◌, eqb, ltb, ◌⊎◌, List, [], ◌∷◌, length, Some, None, Option, sym, refl, ◌∙◌, inl, inr}
use Rattle.cursor.specs.Flags.{other, offset_overflow, contains}
use Rattle.register.specs.Pairs.{Pairs}
use Rattle.scalar.specs.BigEndian.{big_endian}
use Rattle.scalar.specs.Laws.{length_big_endian}
use Rattle.std.proofs.lemmas.Bool.{ltb-false, or_parts, both_ways, cases_Bool}
use Rattle.model.specs.State.{State, Object, with_ended}
use Rattle.model.specs.Declining.{flagged, nothing_open}
use Rattle.model.specs.Closing.{Out, pop_pack}
use Rattle.model.specs.Ending.{Field, fields, largest, put_field, put_fields, resolved, resolve, end_over, end_flagged, end_serialize}
use Rattle.model.proofs.Split.{by_test}
use Rattle.model.proofs.Memory.{length_write}
use Rattle.model.proofs.Sound.{SoundState, flag_sound}
use Rattle.model.proofs.Packing.{pop_pack_good}

-- ---- soundness

put_sound : (n : ℕ) (f : Field) (s : State) → SoundState n s → SoundState n (put_field f s)
put_sound n f s d =
    by_test (eqb f.width 0) _ _ (SoundState n) (λ e. d)
    (λ e. by_test (ltb (largest f.width f.signed) f.value) _ _ (SoundState n) (λ e. flag_sound n s offset_overflow d)
    (λ e. by_test (ltb (length s.memory) (f.place + f.width)) _ _ (SoundState n) (λ e. flag_sound n s other d)
    (λ e. record { sized = length_write s.memory f.place (big_endian f.width f.value) (rw (length_big_endian f.width f.value) (ltb-false (length s.memory) (f.place + f.width) e)) ∙ d.sized; below = d.below; stacked = d.stacked; under = d.under; meets = d.meets; tails = d.tails })))

puts_sound : (n : ℕ) (fs : List Field) (s : State) → SoundState n s → SoundState n (put_fields fs s)
puts_sound n [] s d = d
puts_sound n (f ∷ fs) s d = puts_sound n fs (put_field f s) (put_sound n f s d)

resolved_sound : (n : ℕ) (o : Option (List Field)) (s : State) → SoundState n s → SoundState n (resolved o s)
resolved_sound n None s d = flag_sound n s other d
resolved_sound n (Some fs) s d = puts_sound n fs s d

resolve_sound : (n : ℕ) (s : State) → SoundState n s → SoundState n (resolve s)
resolve_sound n s d = by_test (flagged s) _ _ (SoundState n) (λ e. d)
    (λ e. by_test (nothing_open s) _ _ (SoundState n) (λ e. resolved_sound n (fields s s.packed) s d) (λ e. flag_sound n s other d))

pub end_sound : (n : ℕ) (s : State) → SoundState n s → (r : Pairs) → SoundState n (end_serialize s r).state
end_sound n s d r =
    by_test (s.ended || nothing_open s) _ _ (λ (x : Out (Unit {0})). SoundState n x.state) (λ e. d)
    (λ e. by_test (flagged s) _ _ (λ (x : Out (Unit {0})). SoundState n x.state) (λ e. flags_so (cases_Bool (contains s.flags offset_overflow))) (λ e. over s.packed))
  where
    flags_so : ((contains s.flags offset_overflow ≡ true) ⊎ (contains s.flags offset_overflow ≡ false)) → SoundState n (end_flagged s)
    flags_so (inl e) = rw e (flag_sound n s other d)
    flags_so (inr e) = rw e d

    over : (ps : List Object) → SoundState n (end_over ps s r).state
    over [] = d
    over (p ∷ ps) = resolve_sound n (with_ended (pop_pack false s r).state) (pop_pack_good n s d false r).0

-- ---- ended

put_ended : (fs : List Field) (s : State) → (put_fields fs s).ended ≡ s.ended
put_ended [] s = refl
put_ended (f ∷ fs) s = put_ended fs (put_field f s) ∙ one
  where
    one : (put_field f s).ended ≡ s.ended
    one = by_test (eqb f.width 0) _ _ (λ (x : State). x.ended ≡ s.ended) (λ e. refl)
        (λ e. by_test (ltb (largest f.width f.signed) f.value) _ _ (λ (x : State). x.ended ≡ s.ended) (λ e. refl)
        (λ e. by_test (ltb (length s.memory) (f.place + f.width)) _ _ (λ (x : State). x.ended ≡ s.ended) (λ e. refl) (λ e. refl)))

resolved_ended : (o : Option (List Field)) (s : State) → (resolved o s).ended ≡ s.ended
resolved_ended None s = refl
resolved_ended (Some fs) s = put_ended fs s

pub resolve_ended : (s : State) → (resolve s).ended ≡ s.ended
resolve_ended s = by_test (flagged s) _ _ (λ (x : State). x.ended ≡ s.ended) (λ e. refl)
    (λ e. by_test (nothing_open s) _ _ (λ (x : State). x.ended ≡ s.ended) (λ e. resolved_ended (fields s s.packed) s) (λ e. refl))

pub record Quiet (s : State) (r : Pairs) (x : Out (Unit {0})) : Type 0 where
  pub memory : x.state.memory ≡ s.memory
  pub packed : x.state.packed ≡ s.packed
  pub register : x.register ≡ r

-- an ending that does not end the serializer
pub end_quiet : (s : State) (r : Pairs) → (end_serialize s r).state.ended ≡ s.ended → Quiet s r (end_serialize s r)
end_quiet s r = by_test (s.ended || nothing_open s) _ _ (λ (x : Out (Unit {0})). x.state.ended ≡ s.ended → Quiet s r x) (λ e n. record { memory = refl; packed = refl; register = refl })
    (λ going. by_test (flagged s) _ _ (λ (x : Out (Unit {0})). x.state.ended ≡ s.ended → Quiet s r x) (λ e n. record { memory = refl; packed = refl; register = refl }) (λ e. over going s.packed))
  where
    over : (s.ended || nothing_open s) ≡ false → (ps : List Object) → (end_over ps s r).state.ended ≡ s.ended → Quiet s r (end_over ps s r)
    over going [] n = record { memory = refl; packed = refl; register = refl }
    over going (p ∷ ps) n = absurd (both_ways s.ended (or_parts s.ended (nothing_open s) going).0 (sym n ∙ resolve_ended (with_ended (pop_pack false s r).state)))

-- an ended serializer stays so
pub end_stays : (s : State) (r : Pairs) → (end_serialize s r).state.ended ≡ false → s.ended ≡ false
end_stays s r = by_test (s.ended || nothing_open s) _ _ (λ (x : Out (Unit {0})). x.state.ended ≡ false → s.ended ≡ false) (λ e n. n) (λ e n. (or_parts s.ended (nothing_open s) e).0)
