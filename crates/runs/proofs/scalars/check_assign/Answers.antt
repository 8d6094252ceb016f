-- Each kind: the bytes of the count that the scalar holds are those of the count.
use Rattle.std.proofs.Common.{ℕ, pos, refl, ap, ◌∙◌, mod-eq_of_lt, arith, w16, of_z}
use Rattle.scalar.specs.BigEndian.{big_endian}
use Rattle.scalar.specs.Kinds.{value_of, uint24}
use Rattle.runs.proofs.Count.{checked}
use Rattle.runs.proofs.scalars.check_assign.Goals as goal

pub returns-in-U8 : goal.returns-in-U8
returns-in-U8 c =
    let e = checked (big_endian 1) (λ (k : ℕ). k) c.args.pos c.args.count c.args.flags c.args.s.now c.in-U8.is (λ h. refl) in
    record { answer = c.check_assign.ensures.answer ∙ ap (λ o. o.1) e; state = c.check_assign.ensures.state ∙ ap (λ o. o.0) e }

pub returns-in-U16 : goal.returns-in-U16
returns-in-U16 c =
    let e = checked (big_endian 2) (λ (k : ℕ). k) c.args.pos c.args.count c.args.flags c.args.s.now c.in-U16.is (λ h. refl) in
    record { answer = c.check_assign-in-U16.ensures.answer ∙ ap (λ o. o.1) e; state = c.check_assign-in-U16.ensures.state ∙ ap (λ o. o.0) e }

pub returns-in-I16 : goal.returns-in-I16
returns-in-I16 c =
    let e = checked (λ z. big_endian 2 (of_z w16 z)) pos c.args.pos c.args.count c.args.flags c.args.s.now c.in-I16.is (λ h. refl) in
    record { answer = c.check_assign-in-I16.ensures.answer ∙ ap (λ o. o.1) e; state = c.check_assign-in-I16.ensures.state ∙ ap (λ o. o.0) e }

pub returns-in-U32 : goal.returns-in-U32
returns-in-U32 c =
    let e = checked (big_endian 4) (λ (k : ℕ). k) c.args.pos c.args.count c.args.flags c.args.s.now c.in-U32.is (λ h. refl) in
    record { answer = c.check_assign-in-U32.ensures.answer ∙ ap (λ o. o.1) e; state = c.check_assign-in-U32.ensures.state ∙ ap (λ o. o.0) e }

pub returns-in-U24 : goal.returns-in-U24
returns-in-U24 c =
    let e = checked (λ x. big_endian 3 (value_of x)) uint24 c.args.pos c.args.count c.args.flags c.args.s.now c.in-U24.is (λ h. ap (big_endian 3) (mod-eq_of_lt (omega arith))) in
    record { answer = c.check_assign-in-U24.ensures.answer ∙ ap (λ o. o.1) e; state = c.check_assign-in-U24.ensures.state ∙ ap (λ o. o.0) e }
