-- The answers of the model that the answers of a list stand for.
use Rattle.std.specs.Prelude.{ℕ, List, map, reverse, Vec, vec_items}
use Rattle.std.specs.Option.{option_map}
use Rattle.model.specs.Run as model
use Rattle.model.specs.Reading.{Seen}
use Rattle.calls.specs.Meaning.{scalar_bytes}
use Rattle.runs.specs.declared.answer.Answer.{Answer}
use Rattle.runs.specs.declared.answer.Answer.TheVariants as answer
use Rattle.serializer_read.specs.declared.view.ObjectView.{ObjectView}
use Rattle.serializer_read.specs.Reads.{seen_by}

-- an object with a copy of its bytes
abbrev pub seen_as : {A : Type 0} → ObjectView (Vec ℕ A) → Seen
seen_as o = seen_by vec_items o

-- a scalar goes by its bytes
abbrev pub answer_of : Answer → model.Answer
answer_of answer.Nothing = model.Answer.Nothing
answer_of (answer.Done x) = model.Answer.Done x
answer_of (answer.Place x) = model.Answer.Place x
answer_of (answer.Number k) = model.Answer.Number k
answer_of (answer.Flags f) = model.Answer.Flags f
answer_of (answer.Whether b) = model.Answer.Whether b
answer_of (answer.Amount n) = model.Answer.Amount n
answer_of (answer.Value v) = model.Answer.Bytes (option_map scalar_bytes v)
answer_of (answer.Bytes bs) = model.Answer.Bytes (option_map vec_items bs)
answer_of (answer.Object o) = model.Answer.Object (option_map seen_as o)
answer_of (answer.Linked l) = model.Answer.Linked l
answer_of (answer.Taken p) = model.Answer.Taken p

-- answers in their order, as the model has them: the last first
abbrev pub told : List Answer → List model.Answer
told xs = reverse (map answer_of xs)
