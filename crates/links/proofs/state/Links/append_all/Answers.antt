use Rattle.std.proofs.Common.{refl, arith}
use Rattle.links.specs.Walk.{linked}
use Rattle.links.specs.Meaning.{lists, cells}
use Rattle.links.proofs.Reading.{At, lent_back, read_last}
use Rattle.links.proofs.AppendAll.{not_first, not_second, not_two, two, all_fits, all_wired, all_lists}
use Rattle.links.proofs.state.Links.append_all.Goals as goal
use Rattle.links.proofs.state.Links.append_all.Goals.{then-to-len-via-then-to-len, then-to-len-via-else-to-len+then-from-len, then-to-len-via-else-to-len+else-from-len+then-to-from}

pub returns-then-to-len : goal.returns-then-to-len
returns-then-to-len c =
    record {
      answer =
          elim c.then-to-len.branch [
            | then-to-len-via-then-to-len w ↦ not_first c.args.self.now c.args.to c.args.from (omega arith)
            | then-to-len-via-else-to-len+then-from-len w ↦ not_second c.args.self.now c.args.to c.args.from (omega arith)
            | then-to-len-via-else-to-len+else-from-len+then-to-from w ↦ not_two c.args.self.now c.args.to c.args.from (omega arith)
          ];
      state = refl;
      same = refl;
    }

pub join-requires : goal.join-requires
join-requires c =
    let s = c.args.self.now in
    let at_to : At s c.args.to c.index-front.result.now = record { within = omega arith; read = c.index-front.ensures } in
    let at_from : At s c.args.from c.index-back.result.now = record { within = omega arith; read = c.index-back.ensures } in
    record {
      inside = λ h. omega (arith, read_last s c.args.to c.index-front.result.now at_to h, c.deref_mut.ensures.len);
      fits = omega (arith, all_fits s c.args.to c.args.from c.index-front.result.now c.index-back.result.now _ _ at_to at_from (omega arith) refl refl, c.deref_mut.ensures.len);
    }

pub invariant_of-self : goal.invariant_of-self
invariant_of-self c =
    let s = c.args.self.now in
    let front = c.index-front.result.now in
    let back = c.index-back.result.now in
    let at_to : At s c.args.to front = record { within = omega arith; read = c.index-front.ensures } in
    let at_from : At s c.args.from back = record { within = omega arith; read = c.index-back.ensures } in
    let ms = lent_back s.nexts c.deref_mut.result.now c.join.new.nexts c.deref_mut.ensures.value c.join.auto.nexts (λ ns. linked ns front back) c.join.ensures.nexts in
    let w = all_wired s c.args.to c.args.from front back c.join.result _ at_to at_from (omega arith) c.join.ensures.chain ms in
    record { sized = s.sized; once = w.once; ended = w.ended; filled = w.filled }

pub returns : goal.returns
unfolding lists cells
returns c =
    let s = c.args.self.now in
    let front = c.index-front.result.now in
    let back = c.index-back.result.now in
    let at_to : At s c.args.to front = record { within = omega arith; read = c.index-front.ensures } in
    let at_from : At s c.args.from back = record { within = omega arith; read = c.index-back.ensures } in
    let ms = lent_back s.nexts c.deref_mut.result.now c.join.new.nexts c.deref_mut.ensures.value c.join.auto.nexts (λ ns. linked ns front back) c.join.ensures.nexts in
    record {
      answer = two s c.args.to c.args.from (omega arith) (omega arith) (omega arith);
      state = all_lists s c.args.to c.args.from front back c.join.result _ at_to at_from (omega arith) c.join.ensures.chain ms;
      same = refl;
    }
