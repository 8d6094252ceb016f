use Rattle.std.proofs.Common.{ℤ, sym, ap, ◌∙◌, w16, SFits, of_z, rules}
use Rattle.std.proofs.lemmas.Int.{to_z-of_z}
use Rattle.scalar.specs.BigEndian.{big_endian}
use Rattle.calls.specs.declared.scalar_value.ScalarValue.{ScalarValue}
use Rattle.calls.specs.Meaning.{scalar_bytes}
use Rattle.model.specs.Writing.{copy_assign}
use Rattle.runs.proofs.scalars.copy_assign.Goals as goal

pub returns-in-I16 : goal.returns-in-I16
returns-in-I16 c =
    let s = c.args.s.now in
    let x = c.in-I16.x in
    let f : SFits w16 x = search rules in
    record {
      state =
          c.copy_assign-in-I16.ensures.state
          ∙ ap (λ (z : ℤ). copy_assign c.args.pos (big_endian 2 (of_z w16 z)) s) (to_z-of_z w16 x f)
          ∙ ap (λ (v : ScalarValue). copy_assign c.args.pos (scalar_bytes v) s) (sym c.in-I16.is);
    }
