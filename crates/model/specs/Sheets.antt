-- Worked sheets: runs with what each call answers, the flags at the end, and the output.
use Rattle.std.specs.Prelude.{◌≡◌, ℕ, Bool, true, false, List, [], ◌∷◌, ◌++◌, map, reverse, length, take, replicate, Some, None, Ok, Err}
use Rattle.cursor.specs.declared.flags.SerializeErrorFlags.{SerializeErrorFlags}
use Rattle.cursor.specs.Flags as flag
use Rattle.link.specs.declared.OffsetWhence.{OffsetWhence}
use Rattle.link.specs.declared.OffsetWhence.TheVariants.{Head, Tail}
use Rattle.register.specs.Pairs.{empty}
use Rattle.model.specs.State.{index}
use Rattle.model.specs.Reading.{output}
use Rattle.model.specs.Run.{Call, Answer, World, Beginning, run}
use Rattle.model.specs.Run.Call.{SetErr, Start, Push, Pad, Embed, AddLink, PopPack, Snap, Revert, End}
use Rattle.model.specs.Run.Answer.{Nothing, Done, Place, Number, Flags, Taken}

-- the output by its length and its first 16 bytes, which are all where it is no longer
pub record Shown : Type 0 where
  pub answers : List Answer
  pub flags : SerializeErrorFlags
  pub long : ℕ
  pub first : List ℕ

-- so much memory, each call with its answer, then flags and output
pub record Sheet : Type 0 where
  pub size : ℕ
  pub lines : List (Call × Answer)
  pub flags : ℕ
  pub long : ℕ
  pub first : List ℕ

abbrev pub over : ℕ → Beginning
over n = record { size = n; slots = 8; cells = 8; register = empty 8 }

abbrev pub shown : World → Shown
shown w = record { answers = reverse w.answers; flags = w.state.flags; long = length (output w.state); first = take 16 (output w.state) }

-- what the run of a sheet shows
abbrev pub runs : Sheet → Shown
runs h = shown (run (over h.size) (reverse (map (λ (l : Call × Answer). l.0) h.lines)))

-- what the sheet says
abbrev pub says : Sheet → Shown
says h = record { answers = map (λ (l : Call × Answer). l.1) h.lines; flags = flag.flags h.flags; long = h.long; first = h.first }

-- ---- answers

abbrev pub fine : Answer
fine = Done (Ok tt)

abbrev pub failed : ℕ → Answer
failed f = Done (Err (flag.flags f))

abbrev pub placed : ℕ → Answer
placed n = Place (Ok n)

abbrev pub number : ℕ → Answer
number k = Number (Some (index k))

abbrev pub no_number : Answer
no_number = Number None

-- ---- parts of the sheets

abbrev pub sheet : ℕ → List (Call × Answer) → ℕ → ℕ → List ℕ → Sheet
sheet n ls f k bs = record { size = n; lines = ls; flags = f; long = k; first = bs }

-- a link at Head from the first two bytes
abbrev pub head_link : ℕ → Bool → Call
head_link bias signed = AddLink 0 2 (index 0) Head bias signed

-- two equal children, linked at Head with a bias and at Tail
abbrev pub children : ℕ → List (Call × Answer)
children bias =
    (Start, fine) ∷ (Embed (0 ∷ 0 ∷ 0 ∷ 0 ∷ 7 ∷ []), placed 0)
    ∷ (Push, fine) ∷ (Embed (0x0a ∷ 0x0b ∷ []), placed 5) ∷ (PopPack true, number 0) ∷ (head_link bias false, fine)
    ∷ (Push, fine) ∷ (Embed (0x0a ∷ 0x0b ∷ []), placed 5) ∷ (PopPack true, number 0) ∷ (AddLink 2 4 (index 0) Tail 0 false, fine)
    ∷ (End, Nothing) ∷ []

-- a child of one byte at a distance from its parent
abbrev pub distant : ℕ → ℕ → Bool → List (Call × Answer)
distant d bias signed =
    (Start, fine) ∷ (Push, fine) ∷ (Embed (1 ∷ []), placed 0) ∷ (PopPack false, number 0) ∷ (Pad d, placed 0) ∷ (head_link bias signed, fine) ∷ (End, Nothing) ∷ []

-- an object of two bytes with a link to itself
abbrev pub itself : OffsetWhence → List (Call × Answer)
itself whence =
    (Start, fine) ∷ (Push, fine) ∷ (Embed (9 ∷ 9 ∷ []), placed 0) ∷ (AddLink 0 2 (index 0) whence 0 false, fine) ∷ (PopPack true, number 0) ∷ (End, Nothing) ∷ []

abbrev pub two_bytes : List (Call × Answer)
two_bytes = (Push, fine) ∷ (Embed (1 ∷ 2 ∷ []), placed 0) ∷ []

abbrev pub linked : ℕ → ℕ → Call
linked from to = AddLink from to (index 0) Head 0 false

-- ---- the table

abbrev pub sheets : List Sheet
sheets =
    sheet 16 (children 0) 0 7 (0x00 ∷ 0x05 ∷ 0x00 ∷ 0x00 ∷ 0x07 ∷ 0x0a ∷ 0x0b ∷ [])
    ∷ sheet 16 (children 5) 0 7 (0x00 ∷ 0x00 ∷ 0x00 ∷ 0x00 ∷ 0x07 ∷ 0x0a ∷ 0x0b ∷ [])
    ∷ sheet 16 (children 6) 1 0 []
    -- memory 4 takes 4 bytes
    ∷ sheet 4 ((Embed (1 ∷ 2 ∷ 3 ∷ 4 ∷ []), placed 0) ∷ []) 0 4 (1 ∷ 2 ∷ 3 ∷ 4 ∷ [])
    ∷ sheet 4 ((Embed (1 ∷ 2 ∷ 3 ∷ 4 ∷ []), placed 0) ∷ (Embed (5 ∷ []), Place (Err (flag.flags 4))) ∷ []) 4 0 []
    -- lengths of link ranges
    ∷ sheet 16 ((Start, fine) ∷ (linked 3 3, fine) ∷ (linked 9 2, fine) ∷ []) 0 0 []
    ∷ sheet 16 ((Start, fine) ∷ (linked 3 4, failed 1) ∷ []) 1 0 []
    ∷ sheet 16 ((Start, fine) ∷ (linked 0 5, failed 1) ∷ []) 1 0 []
    -- values of width 2, unsigned and signed
    ∷ sheet 65536 (distant 65535 0 false) 0 65536 (0xff ∷ 0xff ∷ replicate 14 0)
    ∷ sheet 65537 (distant 65536 0 false) 2 0 []
    ∷ sheet 65537 (distant 65536 1 false) 0 65537 (0xff ∷ 0xff ∷ replicate 14 0)
    ∷ sheet 32768 (distant 32767 0 true) 0 32768 (0x7f ∷ 0xff ∷ replicate 14 0)
    ∷ sheet 32769 (distant 32768 0 true) 2 0 []
    -- an empty object
    ∷ sheet 8 ((Push, fine) ∷ (PopPack true, no_number) ∷ []) 0 0 []
    ∷ sheet 8 ((Push, fine) ∷ (linked 0 2, fine) ∷ (PopPack true, no_number) ∷ []) 1 0 []
    -- discarding an object that was not shared leaves an equal one entered
    ∷ sheet 8
    (two_bytes ++ ((PopPack true, number 0) ∷ (Snap, Taken (record { head = 0; tail = 6; current = None; num_real_links = 0; num_virtual_links = 0; errors = flag.none })) ∷ two_bytes)
    ++ ((PopPack false, number 1) ∷ (Revert 3, Nothing) ∷ two_bytes) ++ ((PopPack true, number 0) ∷ []))
    0 2 (1 ∷ 2 ∷ [])
    -- nothing packed
    ∷ sheet 8 ((Start, fine) ∷ (Embed (1 ∷ 2 ∷ []), placed 0) ∷ (End, Nothing) ∷ []) 0 2 (1 ∷ 2 ∷ [])
    -- a soft and a hard set
    ∷ sheet 8 (two_bytes ++ ((SetErr (flag.flags 8), Flags (flag.flags 8)) ∷ (PopPack true, number 0) ∷ [])) 8 0 []
    ∷ sheet 8 (two_bytes ++ ((SetErr (flag.flags 24), Flags (flag.flags 24)) ∷ (PopPack true, no_number) ∷ [])) 24 0 []
    ∷ sheet 16 (itself Head) 0 2 (0 ∷ 0 ∷ [])
    ∷ sheet 16 (itself Tail) 1 0 []
    ∷ []

-- every sheet shows what it says
pub record SheetsHold : Type 0 where
  pub table : map runs sheets ≡ map says sheets
