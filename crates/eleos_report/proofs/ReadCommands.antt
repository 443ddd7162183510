-- What the readers of commands give.
use Rattle.std.proofs.Common.{◌≡◌, ℕ, List, Option, Some, None, Result, Ok, Err, Bool, true, false, cond, codes}
use Rattle.std.specs.Prelude.{IfOk, IfSome}
use Rattle.eleos_texts.specs.declared.why.Why.{Why}
use Rattle.eleos_texts.specs.declared.why.Why.TheVariants.{Form}
use Rattle.eleos_trace.specs.Calls.{call_named, with_call}
use Rattle.eleos_trace.specs.declared.word.Actor.{Actor}
use Rattle.eleos_trace.specs.declared.word.CallWord.{CallWord}
use Rattle.eleos_trace.specs.declared.word.Word.{Word}
use Rattle.eleos_trace.specs.declared.word.Word.TheVariants.{Alloc, Free, Share, Tie, Untie, Fill, Evict, Move, Flip, SwapPlaces, Keep, Restore, SwapRound, SetShare, Call}
use Rattle.eleos_texts.specs.Fields.{is, most_u32}
use Rattle.eleos_texts.specs.Reasons.{one, two, three, one_and_more, with_one_and_more}
use Rattle.eleos_trace.specs.declared.trace.Kind.{Kind}
use Rattle.eleos_report.specs.Fields.{number_of, name_of, bytes_of, optional_of}
use Rattle.eleos_report.specs.Commands.{is_command, is_move, name_alone, name_and_number, number_alone, two_numbers, means_round, swap_word, read_of, write_of, call_of, move_of, host_command_of, frame_command_of, command_of, command_in}
use Rattle.eleos_report.specs.Grammar.{IsShort, IsName, HasFields}
use Rattle.hex.specs.Hex.{IsBytes}
use Rattle.eleos_report.proofs.ReadFields.{step, any_step, tested, either, short_is, name_is, bytes_are, owner_is}

name_alone_is : (args : List (List ℕ)) → IfOk (name_alone args) IsName
name_alone_is args = any_step IsName (one args) name_of name_is

-- a name and a number
abbrev IsPair : List ℕ × ℕ → Type 0
IsPair x = IsName x.0 × IsShort x.1

name_and_number_is : (args : List (List ℕ)) → IfOk (name_and_number args) IsPair
name_and_number_is args = any_step IsPair (two args) _ (λ x.
    step IsName IsPair (name_of x.0) _ (name_is x.0) (λ name named.
    step IsShort IsPair (number_of most_u32 x.1) _ (short_is x.1) (λ n fits. (named, fits))))

-- a number that is read alone has 32 bits
pub number_alone_is : (args : List (List ℕ)) → IfOk (number_alone args) IsShort
number_alone_is args = any_step IsShort (one args) (number_of most_u32) short_is

-- two numbers
abbrev AreShort : ℕ × ℕ → Type 0
AreShort x = IsShort x.0 × IsShort x.1

two_numbers_are : (args : List (List ℕ)) → IfOk (two_numbers args) AreShort
two_numbers_are args = any_step AreShort (two args) _ (λ x.
    step IsShort AreShort (number_of most_u32 x.0) _ (short_is x.0) (λ a a_fits.
    step IsShort AreShort (number_of most_u32 x.1) _ (short_is x.1) (λ b b_fits. (a_fits, b_fits))))

-- what `swap` means has two numbers, whichever it means
swap_is : (round : Bool) (a b : ℕ) → IsShort a × IsShort b → HasFields (cond round (SwapRound a b) (SwapPlaces a b))
swap_is true a b are = are
swap_is false a b are = are

read_is : (args : List (List ℕ)) → IfOk (read_of args) HasFields
read_is args = any_step HasFields (three args) _ (λ x.
    step IsName HasFields (name_of x.0) _ (name_is x.0) (λ name named.
    step IsShort HasFields (number_of most_u32 x.1) _ (short_is x.1) (λ offset offset_fits.
    step IsShort HasFields (number_of most_u32 x.2) _ (short_is x.2) (λ len len_fits. (named, offset_fits, len_fits)))))

write_is : (args : List (List ℕ)) → IfOk (write_of args) HasFields
write_is args = any_step HasFields (three args) _ (λ x.
    step IsName HasFields (name_of x.0) _ (name_is x.0) (λ name named.
    step IsShort HasFields (number_of most_u32 x.1) _ (short_is x.1) (λ offset offset_fits.
    step IsBytes HasFields (bytes_of x.2) _ (bytes_are x.2) (λ bytes are. (named, offset_fits, are)))))

named_is : (named : Option CallWord) (f : CallWord → Result Word Why) → ((call : CallWord) → IfOk (f call) HasFields) → IfOk (with_call named f) HasFields
named_is None f is = tt
named_is (Some call) f is = is call

call_is : (args : List (List ℕ)) → IfOk (call_of args) HasFields
call_is args = any_step HasFields (three args) _ (λ x.
    named_is (call_named x.0) _ (λ call.
    step IsBytes HasFields (bytes_of x.1) _ (bytes_are x.1) (λ bytes are.
    step IsShort HasFields (number_of most_u32 x.2) _ (short_is x.2) (λ room fits. (are, fits)))))

abbrev IsOwner : Option ℕ → Type 0
IsOwner owner = IfSome owner IsShort

move_is : (args : List (List ℕ)) → IfOk (move_of args) HasFields
move_is args = any_step HasFields (three args) _ (λ x.
    step IsShort HasFields (number_of most_u32 x.0) _ (short_is x.0) (λ frame frame_fits.
    step IsOwner HasFields (optional_of most_u32 x.1) _ (owner_is x.1) (λ from from_fits.
    step IsOwner HasFields (optional_of most_u32 x.2) _ (owner_is x.2) (λ to to_fits.
    tested HasFields (is_move from to) (Move frame from to) (λ moves. (frame_fits, from_fits, to_fits, moves))))))

module _ (kind : Kind) (who : Actor) (verb : List ℕ) (args : List (List ℕ)) where
  host_command_is : IfOk (host_command_of kind who verb args) HasFields
  host_command_is =
      either HasFields (is (codes "flip") verb) _ _ (step AreShort HasFields (two_numbers args) (λ x. Ok (Flip x.0 x.1)) (two_numbers_are args) (λ x are. are))
      (either HasFields (is (codes "swap") verb) _ _ (step AreShort HasFields (two_numbers args) (λ x. Ok (swap_word kind who x.0 x.1)) (two_numbers_are args) (λ x are. swap_is (means_round kind who) x.0 x.1 are))
      (either HasFields (is (codes "keep") verb) _ _ (step IsShort HasFields (number_alone args) (λ place. Ok (Keep place)) (number_alone_is args) (λ place fits. fits))
      (either HasFields (is (codes "restore") verb) _ (Err Form) (step IsShort HasFields (number_alone args) (λ place. Ok (Restore place)) (number_alone_is args) (λ place fits. fits)) tt)))

  frame_command_is : IfOk (frame_command_of kind who verb args) HasFields
  frame_command_is =
      either HasFields (is (codes "tie") verb) _ _ (step IsPair HasFields (name_and_number args) (λ x. Ok (Tie x.0 x.1)) (name_and_number_is args) (λ x are. are))
      (either HasFields (is (codes "untie") verb) _ _ (step IsPair HasFields (name_and_number args) (λ x. Ok (Untie x.0 x.1)) (name_and_number_is args) (λ x are. are))
      (either HasFields (is (codes "fill") verb) _ _ (step AreShort HasFields (two_numbers args) (λ x. Ok (Fill x.0 x.1)) (two_numbers_are args) (λ x are. are))
      (either HasFields (is (codes "evict") verb) _ _ (step AreShort HasFields (two_numbers args) (λ x. Ok (Evict x.0 x.1)) (two_numbers_are args) (λ x are. are))
      (either HasFields (is (codes "move") verb) (move_of args) _ (move_is args)
      (either HasFields (is (codes "balloon") verb) _ (host_command_of kind who verb args) (step AreShort HasFields (two_numbers args) (λ x. Ok (SetShare x.0 x.1)) (two_numbers_are args) (λ x are. are)) host_command_is)))))

  command_of_is : IfOk (command_of kind who verb args) HasFields
  command_of_is =
      either HasFields (is (codes "alloc") verb) _ _ (step IsPair HasFields (name_and_number args) (λ x. Ok (Alloc x.0 x.1)) (name_and_number_is args) (λ x are. are))
      (either HasFields (is (codes "free") verb) _ _ (step IsName HasFields (name_alone args) (λ name. Ok (Free name)) (name_alone_is args) (λ name named. named))
      (either HasFields (is (codes "share") verb) _ _ (step IsName HasFields (name_alone args) (λ name. Ok (Share name)) (name_alone_is args) (λ name named. named))
      (either HasFields (is (codes "read") verb) (read_of args) _ (read_is args)
      (either HasFields (is (codes "write") verb) (write_of args) _ (write_is args)
      (either HasFields (is (codes "call") verb) (call_of args) (frame_command_of kind who verb args) (call_is args) frame_command_is)))))

-- a command with its fields, of the kind
abbrev pub IsCommand : Kind → Actor → Word → Type 0
IsCommand kind who command = HasFields command × (is_command kind who command ≡ true)

-- a command that is read is one that its actor has in this kind of log, and its numbers, names and bytes are in their limits
pub command_is : (kind : Kind) (who : Actor) (words : List (List ℕ)) → IfOk (command_in kind who words) (IsCommand kind who)
command_is kind who words = step HasFields (IsCommand kind who) (with_one_and_more (command_of kind who) words) _ (any_step HasFields (one_and_more words) (λ x. command_of kind who x.0 x.1) (λ x. command_of_is kind who x.0 x.1))
    (λ command has. tested (IsCommand kind who) (is_command kind who command) command (λ is. (has, is)))
