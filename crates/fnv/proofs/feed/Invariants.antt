use Rattle.std.proofs.Common.{◌≡◌, drop}
use Rattle.fnv.specs.Fnv.{hashed_from}
use Rattle.fnv.proofs.feed.Given as goal

-- what is left gives the same result
abbrev pub invariant-loop-byte : goal.invariant-loop-byte
invariant-loop-byte l = hashed_from l.hash (drop l.byte-index l.bytes) ≡ hashed_from l.initial.hash l.bytes
