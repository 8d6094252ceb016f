use Rattle.std.proofs.Common.{◌∙◌}
use Rattle.links.specs.Rest.{rest}
use Rattle.links.proofs.Feed.{links_fed}
use Rattle.links.proofs.state.Links.feed.Goals as goal

pub loop-link-preserved : goal.loop-link-preserved
loop-link-preserved c =
    links_fed c.loop-link.hasher.0 c.feed_link.new.hasher.0 c.in-Some.link (rest c.loop-link.link-iterator) (rest c.next.new.self) c.in-Some.ensures.steps c.feed_link.ensures.state
    ∙ c.loop-link.invariant
