use Rattle.std.proofs.Common.{◌≡◌, replicate, ap, ◌∙◌, None, Option, rules}
use Rattle.register.specs.Pairs.{pairs_of}
use Rattle.register_table.specs.Cells.{entries}
use Rattle.register_table.specs.declared.cells.Entry.{Entry}
use Rattle.register_table.proofs.Change.{free_entries}
use Rattle.register_table.proofs.TableRegister.new.Goals as goal

pub returns-clause-register : goal.returns-clause-register
returns-clause-register c =
    let n = c.max.result in
    let all : c.in_ok-cells.cells.items ≡ replicate {A = Option Entry} n None = c.in_ok-cells.ensures.items_if_clones_equal (λ y e. search rules) in
    ap (λ es. pairs_of es c.args.capacity) (ap entries all ∙ free_entries n)
