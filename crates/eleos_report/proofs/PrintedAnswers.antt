-- A reply that is printed is read again.
use Rattle.std.proofs.Common.{◌≡◌, ℕ, List, [], ◌∷◌, map, Option, Some, None, Ok, true, refl}
use Rattle.std.specs.Prelude.{IfSome}
use Rattle.std.specs.List.{AllByRecursion}
use Rattle.eleos_base.specs.declared.memory.Looked.{Looked}
use Rattle.eleos_base.specs.declared.memory.Part.{Part}
use Rattle.eleos_base.specs.declared.memory.Part.TheVariants.{Present, Frame, Absent, Linked, Owner, Untied}
use Rattle.eleos_texts.specs.Reasons.{one, two, one_and_more}
use Rattle.eleos_trace.specs.declared.trace.Kind.{Kind}
use Rattle.eleos_report.specs.declared.answer.Answer.{Answer}
use Rattle.eleos_report.specs.declared.answer.Answer.TheVariants.{At, Okay, Got, Put, BadSize, NoSpace, NotABlock, NotYours, BadRange, Unallocated, Worn, Tampered, NoFrame, Enough, Swept, Reached, Short, Pinned, Illegal, Replied, WrongId, TooLong, BadStatus, Nothing, Skipped}
use Rattle.eleos_report.specs.Answers.{is_reply, part_of, sweep_of, told_block_of, answer_in}
use Rattle.eleos_report.specs.Grammar.{HasParts, IsLooked, IsBlock}
use Rattle.eleos_report.specs.Log.{looked_text, part_text, block_fields, answer_fields}
use Rattle.eleos_report.proofs.PrintedFields.{short_again, long_again, bytes_again, block_again, looked_again}
use Rattle.eleos_report.proofs.PrintedCommands.{number_alone-again}

part_again : (part : Part) → part_of (part_text part) ≡ Ok part
part_again Present = refl
part_again Frame = refl
part_again Absent = refl
part_again Linked = refl
part_again Owner = refl
part_again Untied = refl

block_fields-again : (block : Option (List ℕ)) → IfSome block IsBlock → told_block_of (block_fields block) ≡ Ok block
unfolding one
block_fields-again None is = refl
block_fields-again (Some block) is = rw (block_again block is) refl

sweep_again : (sweep : List Looked) → AllByRecursion IsLooked sweep → sweep_of (map looked_text sweep) ≡ Ok sweep
sweep_again [] is = refl
sweep_again (looked ∷ sweep) is = rw (looked_again looked is.0, sweep_again sweep is.1) refl

-- the words of a printed reply are read as that reply, in a log of a kind that has such replies
pub answer_again : (kind : Kind) (reply : Answer) → is_reply kind reply ≡ true → HasParts reply → answer_in kind (answer_fields reply) ≡ Ok reply
unfolding one two one_and_more
answer_again kind (At at) is has = rw (number_alone-again at has, is) refl
answer_again kind Okay is has = rw is refl
answer_again kind (Got bytes) is has = rw (bytes_again bytes has, is) refl
answer_again kind (Put count) is has = rw (number_alone-again count has, is) refl
answer_again kind BadSize is has = rw is refl
answer_again kind NoSpace is has = rw is refl
answer_again kind NotABlock is has = rw is refl
answer_again kind (NotYours owner) is has = rw (number_alone-again owner has, is) refl
answer_again kind BadRange is has = rw is refl
answer_again kind Unallocated is has = rw is refl
answer_again kind (Worn sub) is has = rw (number_alone-again sub has, is) refl
answer_again kind (Tampered sub block) is has = rw (short_again sub has.0, block_fields-again block has.1, is) refl
answer_again kind (NoFrame sweep) is has = rw (sweep_again sweep has, is) refl
answer_again kind (Enough free sweep) is has = rw (short_again free has.0, sweep_again sweep has.1, is) refl
answer_again kind (Swept free sweep) is has = rw (short_again free has.0, sweep_again sweep has.1, is) refl
answer_again kind (Reached share) is has = rw (number_alone-again share has, is) refl
answer_again kind (Short share sweep) is has = rw (short_again share has.0, sweep_again sweep has.1, is) refl
answer_again kind (Pinned share sweep) is has = rw (short_again share has.0, sweep_again sweep has.1, is) refl
answer_again kind (Illegal part) is has = rw (part_again part, is) refl
answer_again kind (Replied status bytes) is has = rw (long_again status has.0, bytes_again bytes has.1, is) refl
answer_again kind (WrongId seen) is has = rw (long_again seen has, is) refl
answer_again kind (TooLong seen) is has = rw (long_again seen has, is) refl
answer_again kind (BadStatus seen) is has = rw (long_again seen has, is) refl
answer_again kind Nothing is has = rw is refl
answer_again kind Skipped is has = rw is refl
