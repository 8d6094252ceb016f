use Rattle.std.proofs.Common.{refl, ap, arith}
use Rattle.links.specs.Walk.{linked}
use Rattle.links.specs.Meaning.{lists, cells}
use Rattle.links.proofs.Reading.{At, lent_back, free_inside, read_last, counts_fit}
use Rattle.links.proofs.Append.{refuse_list, refuse_full, accept, free_in, append_wired, append_lists}
use Rattle.links.proofs.state.Links.append.Goals as goal

pub returns-then-self-eq0-clause-answer : goal.returns-then-self-eq0-clause-answer
returns-then-self-eq0-clause-answer c = refuse_full c.args.self.now c.args.list (omega arith)

pub returns-in_default-clause-answer : goal.returns-in_default-clause-answer
returns-in_default-clause-answer c = refuse_list c.args.self.now c.args.list (omega (arith, c.in_default.ensures.item.3))

pub split-requires-clause-inside : goal.split-requires-clause-inside
split-requires-clause-inside c = rw c.deref.ensures.value (free_inside c.args.self.now)

pub index_mut-requires : goal.index_mut-requires
index_mut-requires c = omega (arith, free_in c.args.self.now (omega arith), ap (λ t. t.first) c.split.ensures.front)

pub join-requires-clause-inside : goal.join-requires-clause-inside
join-requires-clause-inside c =
    let at : At c.args.self.now c.args.list c.in-Some.chain.now = record { within = c.in-Some.ensures.variant.0 refl; read = c.in-Some.ensures.value } in
    λ h. omega (arith, read_last c.args.self.now c.args.list c.in-Some.chain.now at h, c.deref_mut.ensures.len)

pub join-requires-clause-fits : goal.join-requires-clause-fits
join-requires-clause-fits c =
    let s = c.args.self.now in
    let at : At s c.args.list c.in-Some.chain.now = record { within = c.in-Some.ensures.variant.0 refl; read = c.in-Some.ensures.value } in
    omega (arith, counts_fit s c.args.list c.in-Some.chain.now at, ap (λ t. t.count) c.split.ensures.front, c.deref_mut.ensures.len)

pub invariant_of-self-2 : goal.invariant_of-self-2
invariant_of-self-2 c =
    let s = c.args.self.now in
    let x = c.in-Some.chain.now in
    let at : At s c.args.list x = record { within = c.in-Some.ensures.variant.0 refl; read = c.in-Some.ensures.value } in
    let ms = lent_back s.nexts c.deref_mut.result.now c.join.new.nexts c.deref_mut.ensures.value c.join.auto.nexts (λ ns. linked ns x c.split.result.0) c.join.ensures.nexts in
    let w = append_wired s c.args.list x c.split.result.0 c.split.result.1 c.join.result _ at (omega arith) c.split.ensures.front (rw c.deref.ensures.value at c.split.ensures.back) c.join.ensures.chain ms in
    record { sized = s.sized; once = w.once; ended = w.ended; filled = w.filled }

pub returns-clause-answer : goal.returns-clause-answer
returns-clause-answer c = accept c.args.self.now c.args.list (c.in-Some.ensures.variant.0 refl) (omega arith)

pub returns-clause-state : goal.returns-clause-state
unfolding lists
returns-clause-state c =
    let s = c.args.self.now in
    let x = c.in-Some.chain.now in
    let at : At s c.args.list x = record { within = c.in-Some.ensures.variant.0 refl; read = c.in-Some.ensures.value } in
    let ms = lent_back s.nexts c.deref_mut.result.now c.join.new.nexts c.deref_mut.ensures.value c.join.auto.nexts (λ ns. linked ns x c.split.result.0) c.join.ensures.nexts in
    append_lists s c.args.list x c.split.result.0 c.split.result.1 c.join.result _ at (omega arith) c.split.ensures.front (rw c.deref.ensures.value at c.split.ensures.back) c.join.ensures.chain ms c.args.link

pub returns-clause-same : goal.returns-clause-same
unfolding cells
returns-clause-same c = refl
