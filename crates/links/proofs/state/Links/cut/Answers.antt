use Rattle.std.proofs.Common.{refl, ap, ◌∙◌, arith}
use Rattle.links.specs.Walk.{linked}
use Rattle.links.specs.Meaning.{lists, cells, meaning}
use Rattle.links.proofs.Reading.{links_of, nexts_of, At, lent_back, put_back, no_list, a_list, read_inside, free_last, counts_fit}
use Rattle.links.proofs.Cut.{cut_no_list, cut_none, cut_wired, cut_lists}
use Rattle.links.proofs.state.Links.cut.Goals as goal

pub returns-in_default-clause-answer : goal.returns-in_default-clause-answer
returns-in_default-clause-answer c = no_list c.args.self.now c.args.list (omega (arith, c.in_default.ensures.item.3))

pub returns-in_default-clause-state : goal.returns-in_default-clause-state
unfolding lists
returns-in_default-clause-state c = cut_no_list c.args.self.now c.args.list _ (omega (arith, c.in_default.ensures.item.3))

pub returns-then-n-chain-clause-answer : goal.returns-then-n-chain-clause-answer
returns-then-n-chain-clause-answer c = a_list c.args.self.now c.args.list (c.in-Some.ensures.variant.0 refl)

pub returns-then-n-chain-clause-state : goal.returns-then-n-chain-clause-state
unfolding lists
returns-then-n-chain-clause-state c =
    let s = c.args.self.now in
    let x = c.in-Some.chain.now in
    let at : At s c.args.list x = record { within = c.in-Some.ensures.variant.0 refl; read = c.in-Some.ensures.value } in
    ap (meaning (links_of s) (nexts_of s)) (put_back s c.args.list x at) ∙ cut_none s c.args.list c.args.n x at c.if-n-chain.true

pub split-requires-clause-inside : goal.split-requires-clause-inside
split-requires-clause-inside c =
    let at : At c.args.self.now c.args.list c.in-Some.chain.now = record { within = c.in-Some.ensures.variant.0 refl; read = c.in-Some.ensures.value } in
    rw c.deref.ensures.value (read_inside c.args.self.now c.args.list c.in-Some.chain.now at)

pub join-self-requires-clause-inside : goal.join-self-requires-clause-inside
join-self-requires-clause-inside c = λ h. omega (arith, free_last c.args.self.now h, c.deref_mut.ensures.len)

pub join-self-requires-clause-fits : goal.join-self-requires-clause-fits
join-self-requires-clause-fits c =
    let at : At c.args.self.now c.args.list c.in-Some.chain.now = record { within = c.in-Some.ensures.variant.0 refl; read = c.in-Some.ensures.value } in
    omega (arith, counts_fit c.args.self.now c.args.list c.in-Some.chain.now at, ap (λ t. t.count) c.split.ensures.back, c.deref_mut.ensures.len)

pub invariant_of-self-2 : goal.invariant_of-self-2
invariant_of-self-2 c =
    let s = c.args.self.now in
    let x = c.in-Some.chain.now in
    let at : At s c.args.list x = record { within = c.in-Some.ensures.variant.0 refl; read = c.in-Some.ensures.value } in
    let ms = lent_back s.nexts c.deref_mut.result.now c.join-self.new.nexts c.deref_mut.ensures.value c.join-self.auto.nexts (λ ns. linked ns s.free c.split.result.1) c.join-self.ensures.nexts in
    let w = cut_wired s c.args.list c.args.n x c.split.result.0 c.split.result.1 c.join-self.result _ at (omega arith)
    (rw c.deref.ensures.value at c.split.ensures.front) (rw c.deref.ensures.value at c.split.ensures.back) c.join-self.ensures.chain ms in
    record { sized = s.sized; once = w.once; ended = w.ended; filled = w.filled }

pub returns-clause-answer : goal.returns-clause-answer
returns-clause-answer c = a_list c.args.self.now c.args.list (c.in-Some.ensures.variant.0 refl)

pub returns-clause-state : goal.returns-clause-state
unfolding lists
returns-clause-state c =
    let s = c.args.self.now in
    let x = c.in-Some.chain.now in
    let at : At s c.args.list x = record { within = c.in-Some.ensures.variant.0 refl; read = c.in-Some.ensures.value } in
    let ms = lent_back s.nexts c.deref_mut.result.now c.join-self.new.nexts c.deref_mut.ensures.value c.join-self.auto.nexts (λ ns. linked ns s.free c.split.result.1) c.join-self.ensures.nexts in
    cut_lists s c.args.list c.args.n x c.split.result.0 c.split.result.1 c.join-self.result _ at (omega arith)
    (rw c.deref.ensures.value at c.split.ensures.front) (rw c.deref.ensures.value at c.split.ensures.back) c.join-self.ensures.chain ms

pub returns-clause-same : goal.returns-clause-same
unfolding cells
returns-clause-same c = refl
