use Rattle.std.proofs.Common.{◌≡◌}
use Rattle.fnv.specs.Fnv.{hashed_from}
use Rattle.link.specs.Feed.{links_feed}
use Rattle.links.specs.Meaning.{list_at}
use Rattle.links.specs.Rest.{rest}
use Rattle.links.proofs.state.Links.feed.Given as goal

-- what is left gives the same hash
abbrev pub invariant-loop-link : goal.invariant-loop-link
invariant-loop-link l = hashed_from l.hasher.0 (links_feed (rest l.link-iterator)) ≡ hashed_from l.initial.hasher.0 (links_feed (list_at l.self l.list))
