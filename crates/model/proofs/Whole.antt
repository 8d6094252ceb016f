-- The law over all runs, from its parts; and the law of one run, from it.
use Rattle.std.proofs.Common.{List}
use Rattle.register.specs.Pairs.{Counted}
use Rattle.model.specs.Law.{LawStands, HoldsAfter, Law}
use Rattle.model.specs.Moments.{at}
use Rattle.model.specs.Run.{Call, Beginning, run}
use Rattle.model.proofs.Stack.{law_a}
use Rattle.model.proofs.Share.{law_b}
use Rattle.model.proofs.Ending.{end_ends}
use Rattle.model.proofs.Offset.{law_c}

pub law_stands : LawStands
law_stands = record {
  law_a = λ b ok cs. law_a b cs;
  law_b = law_b;
  ends = λ b ok cs going clean deep some. end_ends (at b cs) (run b cs).register going clean deep some;
  law_c = λ b ok cs going ended done. law_c b cs going ended done;
}

-- at any moment, since it is the end of the run that led there
pub holds_after : LawStands → (b : Beginning) → Counted b.register → (cs : List Call) → HoldsAfter b cs
holds_after l b ok cs = record { law_a = l.law_a b ok cs; law_b = l.law_b b ok cs; ends = l.ends b ok cs; law_c = l.law_c b ok cs }

-- whatever the memory and the register were at the beginning, and whatever was called
pub law_of_run : LawStands → (b : Beginning) → Counted b.register → (cs : List Call) → Law b cs
law_of_run l b ok cs since before split = holds_after l b ok before
