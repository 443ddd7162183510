-- The text of a log, word by word.
use Rattle.std.specs.Prelude.{ℕ, List, [], ◌∷◌, ◌++◌, map, Option, Some, None, Bool, true, false, codes}
use Rattle.std.specs.List.{flat_map, join_with_byte}
use Rattle.std.specs.Fmt.{decimal}
use Rattle.eleos_base.specs.declared.memory.Looked.{Looked}
use Rattle.eleos_base.specs.declared.memory.Part.{Part as Offence}
use Rattle.eleos_base.specs.declared.memory.Part.TheVariants.{Present, Frame, Absent, Linked, Owner, Untied}
use Rattle.eleos_texts.specs.Texts.{hex_text}
use Rattle.eleos_trace.specs.Spelling.{fields, actor_text}
use Rattle.eleos_report.specs.declared.answer.Answer.{Answer}
use Rattle.eleos_report.specs.declared.answer.Answer.TheVariants.{At, Okay, Got, Put, BadSize, NoSpace, NotABlock, NotYours, BadRange, Unallocated, Worn, Tampered, NoFrame, Enough, Swept, Reached, Short, Pinned, Illegal, Replied, WrongId, TooLong, BadStatus, Nothing, Skipped}
use Rattle.eleos_report.specs.declared.line.LogLine.{LogLine}
use Rattle.eleos_report.specs.declared.line.LogLine.TheVariants.{Said, End}

-- `FRAME:WORD`
abbrev pub looked_text : Looked → List ℕ
looked_text looked = join_with_byte 58 (decimal looked.frame ∷ decimal looked.word ∷ [])

-- what is offended against
abbrev pub part_text : Offence → List ℕ
part_text Present = codes "present"
part_text Frame = codes "frame"
part_text Absent = codes "absent"
part_text Linked = codes "linked"
part_text Owner = codes "owner"
part_text Untied = codes "untied"

-- the block that did not pass, where it is told
abbrev pub block_fields : Option (List ℕ) → List (List ℕ)
block_fields None = []
block_fields (Some block) = hex_text block ∷ []

-- a number and the frames of a sweep with their words, behind a word
abbrev pub counted_fields : List ℕ → ℕ → List Looked → List (List ℕ)
counted_fields word count sweep = word ∷ decimal count ∷ map looked_text sweep

-- a reply word by word
abbrev pub answer_fields : Answer → List (List ℕ)
answer_fields (At at) = codes "at" ∷ decimal at ∷ []
answer_fields Okay = codes "ok" ∷ []
answer_fields (Got bytes) = codes "got" ∷ hex_text bytes ∷ []
answer_fields (Put count) = codes "put" ∷ decimal count ∷ []
answer_fields BadSize = codes "badsize" ∷ []
answer_fields NoSpace = codes "nospace" ∷ []
answer_fields NotABlock = codes "notablock" ∷ []
answer_fields (NotYours owner) = codes "notyours" ∷ decimal owner ∷ []
answer_fields BadRange = codes "badrange" ∷ []
answer_fields Unallocated = codes "unallocated" ∷ []
answer_fields (Worn sub) = codes "worn" ∷ decimal sub ∷ []
answer_fields (Tampered sub block) = codes "tampered" ∷ decimal sub ∷ block_fields block
answer_fields (NoFrame sweep) = codes "noframe" ∷ map looked_text sweep
answer_fields (Enough free sweep) = counted_fields (codes "enough") free sweep
answer_fields (Swept free sweep) = counted_fields (codes "swept") free sweep
answer_fields (Reached share) = codes "done" ∷ decimal share ∷ []
answer_fields (Short share sweep) = counted_fields (codes "short") share sweep
answer_fields (Pinned share sweep) = counted_fields (codes "pinned") share sweep
answer_fields (Illegal part) = codes "illegal" ∷ part_text part ∷ []
answer_fields (Replied status bytes) = codes "reply" ∷ decimal status ∷ hex_text bytes ∷ []
answer_fields (WrongId seen) = codes "wrongid" ∷ decimal seen ∷ []
answer_fields (TooLong seen) = codes "toolong" ∷ decimal seen ∷ []
answer_fields (BadStatus seen) = codes "badstatus" ∷ decimal seen ∷ []
answer_fields Nothing = codes "none" ∷ []
answer_fields Skipped = codes "skipped" ∷ []

-- the place in the history, where a dash stands for none
abbrev pub stamp_text : Option ℕ → List ℕ
stamp_text None = codes "-"
stamp_text (Some stamp) = decimal stamp

-- `STAMP ACTOR TEXT = REPLY`, or `end N`, word by word
abbrev pub line_fields : LogLine → List (List ℕ)
line_fields (Said stamp actor command reply) = stamp_text stamp ∷ actor_text actor ∷ fields command ++ codes "=" ∷ answer_fields reply
line_fields (End count) = codes "end" ∷ decimal count ∷ []

-- the line ends a log
abbrev pub is_last : LogLine → Bool
is_last (Said stamp actor command reply) = false
is_last (End count) = true

-- the words with single blanks between, and a newline
abbrev pub line_text : LogLine → List ℕ
line_text line = join_with_byte 32 (line_fields line) ++ 10 ∷ []

-- the lines, one after another
abbrev pub log_text : List LogLine → List ℕ
log_text lines = flat_map line_text lines

-- a blank before each word
abbrev pub spaced : List (List ℕ) → List ℕ
spaced words = flat_map (λ word. 32 ∷ word) words
