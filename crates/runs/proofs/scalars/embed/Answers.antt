use Rattle.std.proofs.Common.{ℤ, sym, ap, ◌∙◌, w16, SFits, of_z, rules}
use Rattle.std.proofs.lemmas.Int.{to_z-of_z}
use Rattle.scalar.specs.BigEndian.{big_endian}
use Rattle.calls.specs.declared.scalar_value.ScalarValue.{ScalarValue}
use Rattle.calls.specs.Meaning.{scalar_bytes}
use Rattle.model.specs.Writing.{embed}
use Rattle.runs.proofs.scalars.embed.Goals as goal

pub returns-in-I16-clause-state : goal.returns-in-I16-clause-state
returns-in-I16-clause-state c =
    let s = c.args.s.now in
    let x = c.in-I16.x in
    let f : SFits w16 x = search rules in
    c.embed-in-I16.ensures.state
    ∙ ap (λ (z : ℤ). (embed (big_endian 2 (of_z w16 z)) s).0) (to_z-of_z w16 x f)
    ∙ ap (λ (v : ScalarValue). (embed (scalar_bytes v) s).0) (sym c.in-I16.is)
