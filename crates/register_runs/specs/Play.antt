-- What a call of a register answers, and what the register means after it.
use Rattle.std.specs.Prelude.{◌≡◌, ℕ, List, Option}
use Rattle.link.specs.declared.ObjIdx.{ObjIdx}
use Rattle.register.specs.Match.{LeastMatch}
use Rattle.register.specs.Pairs.{Pairs, fits, entered, struck}
use Rattle.register.specs.Pairs as pairs
use Rattle.register_runs.specs.declared.call.Call.{Call}
use Rattle.register_runs.specs.declared.call.Call.TheVariants as call
use Rattle.register_runs.specs.declared.call.Answer.{Answer}
use Rattle.register_runs.specs.declared.call.Answer.TheVariants as answer

-- p is what the register means before the call, q after it
abbrev pub Played : Pairs → List ℕ → Call → Answer → Pairs → Type 0
Played p entries (call.Enter h n) r q = (r ≡ answer.Entered (fits p h n.0)) × (q ≡ entered p h n.0)
Played p entries (call.Strike h n) r q = (r ≡ answer.Struck) × (q ≡ struck p h n.0)
Played p entries (call.Next h n) r q = ((o : Option ObjIdx) × (r ≡ answer.Least o) × pairs.Next p h n.0 o) × (q ≡ p)
Played p entries (call.Match h key) r q = ((o : Option ObjIdx) × (r ≡ answer.Least o) × LeastMatch p h entries key o) × (q ≡ p)
Played p entries call.Capacity r q = (r ≡ answer.Capacity p.capacity) × (q ≡ p)
