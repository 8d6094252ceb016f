-- What the lines of a sheet say, in the words of the model.
use Rattle.std.specs.Prelude.{map, None}
use Rattle.cursor.specs.Flags.{none}
use Rattle.model.specs.Run as model
use Rattle.model.specs.Sheets as proved
use Rattle.calls.specs.Meaning.{call_of}
use Rattle.worked_sheets.specs.declared.sheet.Reply.{Reply}
use Rattle.worked_sheets.specs.declared.sheet.Reply.TheVariants as reply
use Rattle.worked_sheets.specs.declared.sheet.Line.{Line}
use Rattle.worked_sheets.specs.declared.sheet.Sheet.{Sheet}

abbrev pub answer_of : Reply → model.Answer
answer_of reply.Nothing = model.Answer.Nothing
answer_of (reply.Done x) = model.Answer.Done x
answer_of (reply.Place x) = model.Answer.Place x
answer_of (reply.Number k) = model.Answer.Number k
answer_of (reply.Flags f) = model.Answer.Flags f
answer_of (reply.Taken head tail) = model.Answer.Taken (record { head = head; tail = tail; current = None; num_real_links = 0; num_virtual_links = 0; errors = none })

abbrev pub line_of : Line → model.Call × model.Answer
line_of l = (call_of l.0, answer_of l.1)

abbrev pub sheet_of : Sheet → proved.Sheet
sheet_of s = record { size = s.size; lines = map line_of s.lines.now; flags = s.flags.0; long = s.length; first = s.first.now }
