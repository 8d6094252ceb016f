use Rattle.std.proofs.Common.{rules}
use Rattle.serialize.proofs.serializer.Serializer.allocated.Goals as goal

pub returns-clause-kept : goal.returns-clause-kept
returns-clause-kept c = (c.self.inside.state, search rules)
