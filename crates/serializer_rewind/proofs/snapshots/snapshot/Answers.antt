use Rattle.std.proofs.Common.{◌≡◌, rules, ◌∙◌}
use Rattle.std.specs.Option.{option_map, unwrap_or}
use Rattle.objects.specs.declared.extents.Outline.{Outline}
use Rattle.serializer_state.specs.View.{view}
use Rattle.serializer_rewind.proofs.Innermost.{slot_read, real_read, virtual_read}
use Rattle.serializer_rewind.proofs.snapshots.snapshot.Goals as goal

pub returns : goal.returns
returns c =
    let v = view c.args.s.now in
    let o = c.outline-innermost.result in
    let e = c.outline-innermost.ensures.answer in
    let m : c.map.result ≡ option_map (λ (x : Outline). x.slot) o = search rules in
    let a : c.map_or.result ≡ unwrap_or (option_map (λ (x : Outline). x.num_real_links) o) 0 = search rules in
    let b : c.map_or-2.result ≡ unwrap_or (option_map (λ (x : Outline). x.num_virtual_links) o) 0 = search rules in
    record {
      answer = λ t. record { head = v.head; tail = v.tail; current = (m ∙ slot_read v o e) t; num_real_links = (a ∙ real_read v o e) t; num_virtual_links = (b ∙ virtual_read v o e) t; errors = v.flags };
    }
