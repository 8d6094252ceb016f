use Rattle.std.proofs.Common.{[], ◌∙◌, arith}
use Rattle.links.specs.Meaning.{lists}
use Rattle.links.proofs.Reading.{lists_length}
use Rattle.links.proofs.Clear.{reached_more, reached_all}
use Rattle.links.proofs.state.Links.clear_all.Goals as goal

pub loop-list-preserved : goal.loop-list-preserved
loop-list-preserved c =
    let s = c.args.self.now in (
      reached_more (lists s) (lists c.loop-list.self) (lists c.clear.new.self) [] c.loop-list.list (omega (arith, lists_length s)) c.loop-list.invariant.0 c.clear.ensures.state,
      c.clear.ensures.same ∙ c.loop-list.invariant.1,
    )

pub returns : goal.returns
returns c =
    let s = c.args.self.now in
    record {
      state = reached_all (lists s) (lists c.loop-list.self) [] c.loop-list.list (omega (arith, lists_length s)) c.loop-list.invariant.0;
      same = c.loop-list.invariant.1;
    }
