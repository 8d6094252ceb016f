use Rattle.std.proofs.Common.{◌≡◌, Some, ap, ◌∙◌, arith, rules}
use Rattle.std.specs.Option.{option_map}
use Rattle.std.proofs.lemmas.Grind.{common_steps}
use Rattle.scalar.specs.Place.{read}
use Rattle.scalar.proofs.Place.{bytes_read}
use Rattle.scalar.proofs.buffer.read_at.Goals as goal

pub returns-clause-bytes : goal.returns-clause-bytes
returns-clause-bytes g c =
    let m = g.S.Scalar in
    let d = c.args.buf.now in
    let answer : Some c.from_raw.result ≡ read m.reads m.width d c.args.at = grind (arith, common_steps) in
    ap (option_map m.bytes) answer ∙ bytes_read g.met.S.Scalar.laws d c.args.at (λ i. search rules)
