use Rattle.std.proofs.Common.{rules, ◌≡◌, ◌<◌, length, Decides, vec_len, sym, ◌∙◌, arith}
use Rattle.std.proofs.lemmas.Grind.{common_steps}
use Rattle.links.specs.Meaning.{Same, list_at}
use Rattle.std.proofs.lemmas.Iterator.{YieldsList-from_zip, same_from_all}
use Rattle.std.proofs.lemmas.Iterator.Consumers.{YieldsList-at}
use Rattle.links.proofs.Reading.{list_length}
use Rattle.links.proofs.Compare.{on_way, not_first, not_second, not_as_long, both}
use Rattle.links.proofs.state.Links.same.Goals as goal
use Rattle.links.proofs.state.Links.same.Goals.{then-a-len, else-a-len, then-b-len, else-b-len}

pub returns-then-index : goal.returns-then-index
returns-then-index c =
    let s = c.args.self.now in
    let are : (c.args.a < vec_len s.chains) × (c.args.b < vec_len s.chains) =
    elim c.if-b-len.branch [
      | then-b-len v ↦ elim c.if-a-len.branch [ then-a-len w ↦ search (rules, common_steps) | else-a-len w ↦ search (rules, common_steps) ]
      | else-b-len v ↦ elim c.if-a-len.branch [ then-a-len w ↦ search (rules, common_steps) | else-a-len w ↦ search (rules, common_steps) ]
    ] in
    let long : length (list_at s c.args.a) ≡ length (list_at s c.args.b) =
    elim c.if-b-len.branch [
      | then-b-len v ↦ list_length s c.args.a v.index.result.now (record { within = are.0; read = v.index.ensures })
          ∙ search (rules, common_steps)
          ∙ sym (list_length s c.args.b v.index-then-b-len.result.now (record { within = are.1; read = v.index-then-b-len.ensures }))
      | else-b-len v ↦ search (rules, common_steps)
    ] in
    let same : Decides c.all.result (list_at s c.args.a ≡ list_at s c.args.b) =
    same_from_all _ _ c.all.result (list_at s c.args.a) (list_at s c.args.b) c.all.ensures.ran
    (YieldsList-from_zip (YieldsList-at c.zip.ensures.first (on_way _ c.iter.ensures.answer)) (YieldsList-at c.zip.ensures.second (on_way _ c.iter-then-index.ensures.answer))) long (λ x q k. search (rules, common_steps)) (λ x q k. search (rules, common_steps)) in
    record { answer = both s c.args.a c.args.b c.all.result are.0 are.1 same }

pub returns-else-index : goal.returns-else-index
returns-else-index c =
    let s = c.args.self.now in
    let no : Decides c.if-b-len.value (Same s c.args.a c.args.b) =
    elim c.if-b-len.branch [
      | then-b-len v ↦ rw c.if-index.false (
          not_as_long s c.args.a c.args.b v.index.result.now v.index-then-b-len.result.now (record { within = search (rules, common_steps); read = v.index.ensures })
          (record { within = search (rules, common_steps); read = v.index-then-b-len.ensures }) (search (rules, common_steps))
          )
      | else-b-len v ↦ elim c.if-a-len.branch [
        | then-a-len w ↦ rw c.if-index.false (not_second s c.args.a c.args.b (search (rules, common_steps)))
        | else-a-len w ↦ rw c.if-index.false (not_first s c.args.a c.args.b (omega arith))
      ]
    ] in
    record { answer = no }
