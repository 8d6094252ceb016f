use Rattle.std.proofs.Common.{List, ◌+◌, ◌<◌, ◌++◌, map, length, Option, sym, refl, ap, ◌∙◌, subst, arith}
use Rattle.link.specs.declared.Link.{Link}
use Rattle.offset_fields.specs.Passes.{placed, placed_from}
use Rattle.offset_fields.specs.declared.walk.ObjectLinks.{ObjectLinks}
use Rattle.offset_fields.specs.Walk.{packed_of, Begins}
use Rattle.offset_fields.proofs.Way.{none_from, none_outlined, next_outlined}
use Rattle.offset_fields.proofs.walk.PackedLinks.begin.Goals as goal

pub returns-then-self-packed_count : goal.returns-then-self-packed_count
returns-then-self-packed_count c = record { state = (refl, none_from c.args.self.now.next (packed_of c.args.self.now) (omega (arith, c.packed_count.ensures.answer))) }

pub returns-in_err-parent : goal.returns-in_err-parent
returns-in_err-parent c =
    let w = c.args.self.now in
    let none = none_outlined w.next (packed_of w) (sym c.outline.ensures.answer ∙ c.in_err-parent.was) in
    record { state = subst (λ (r : Option ObjectLinks). Begins w r w) (sym c.from_residual.ensures) (refl, none) }

pub returns : goal.returns
returns c =
    let w = c.args.self.now in
    let n = w.next in
    let ps = packed_of w in
    let object = c.in_ok-parent.field-0 in
    let within : n < length ps = omega (arith, c.packed_count.ensures.answer) in
    let first = next_outlined n ps object within (sym c.outline.ensures.answer ∙ c.in_ok-parent.was) in
    record { state = (within, refl, refl, first ∙ ap (λ (ls : List Link). map (placed object.extent) ls ++ placed_from (n + 1) ps) (sym c.real_links.ensures.answer)) }
