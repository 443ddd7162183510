-- A command that is printed is read again.
use Rattle.std.proofs.Common.{◌≡◌, ℕ, List, [], ◌∷◌, Some, Ok, Bool, true, false, not, refl}
use Rattle.std.specs.Fmt.{decimal}
use Rattle.eleos_trace.specs.declared.word.Actor.{Actor}
use Rattle.eleos_trace.specs.declared.word.CallWord.{CallWord}
use Rattle.eleos_trace.specs.declared.word.CallWord.TheVariants.{Echo, Put, Get, Cut, Clock}
use Rattle.eleos_trace.specs.declared.word.Word.{Word}
use Rattle.eleos_trace.specs.declared.word.Word.TheVariants.{Alloc, Free, Share, Read, Write, Tie, Untie, Fill, Evict, Move, Flip, SwapPlaces, Keep, Restore, SwapRound, SetShare, Call}
use Rattle.eleos_texts.specs.Reasons.{one, two, three, one_and_more}
use Rattle.eleos_trace.specs.Actors.{is_host}
use Rattle.eleos_trace.specs.Calls.{call_named, call_text}
use Rattle.eleos_trace.specs.Spelling.{fields}
use Rattle.eleos_trace.specs.declared.trace.Kind.{Kind}
use Rattle.eleos_trace.specs.declared.trace.Kind.TheVariants.{Run, Replay}
use Rattle.eleos_report.specs.Commands.{name_alone, name_and_number, number_alone, two_numbers, command_in, is_command, means_round}
use Rattle.eleos_report.specs.Grammar.{IsShort, IsName, HasFields}
use Rattle.eleos_report.proofs.PrintedFields.{short_again, name_again, bytes_again, owner_again}

name_alone-again : (name : List ℕ) → IsName name → name_alone (name ∷ []) ≡ Ok name
unfolding one
name_alone-again name is = name_again name is

name_and_number-again : (name : List ℕ) (n : ℕ) → IsName name → IsShort n → name_and_number (name ∷ decimal n ∷ []) ≡ Ok (name, n)
unfolding two
name_and_number-again name n is fits = rw (name_again name is, short_again n fits) refl

-- a printed number that stands alone is read as that number
pub number_alone-again : (n : ℕ) → IsShort n → number_alone (decimal n ∷ []) ≡ Ok n
unfolding one
number_alone-again n fits = short_again n fits

two_numbers-again : (a b : ℕ) → IsShort a → IsShort b → two_numbers (decimal a ∷ decimal b ∷ []) ≡ Ok (a, b)
unfolding two
two_numbers-again a b fits_a fits_b = rw (short_again a fits_a, short_again b fits_b) refl

call_again : (call : CallWord) → call_named (call_text call) ≡ Some call
call_again Echo = refl
call_again Put = refl
call_again Get = refl
call_again Cut = refl
call_again Clock = refl

not_of : (b : Bool) → b ≡ true → not b ≡ false
not_of true h = refl
not_of false h = absurd cc

-- where a swap of places may stand, `swap` means one
means_places : (kind : Kind) (who : Actor) (a b : ℕ) → is_command kind who (SwapPlaces a b) ≡ true → means_round kind who ≡ false
means_places Run who a b is = not_of (is_host who) is
means_places Replay who a b is = refl

-- and where a round of the swapper may stand, it means that
means_round_here : (kind : Kind) (who : Actor) (enclave low : ℕ) → is_command kind who (SwapRound enclave low) ≡ true → means_round kind who ≡ true
means_round_here Run who enclave low is = is
means_round_here Replay who enclave low is = absurd cc

-- the words of a printed command are read as that command, in a log of a kind that has such commands
pub command_again : (kind : Kind) (who : Actor) (command : Word) → is_command kind who command ≡ true → HasFields command → command_in kind who (fields command) ≡ Ok command
unfolding one_and_more three
command_again kind who (Alloc name bytes) is has = rw (name_and_number-again name bytes has.0 has.1, is) refl
command_again kind who (Free name) is has = rw (name_alone-again name has, is) refl
command_again kind who (Share name) is has = rw (name_alone-again name has, is) refl
command_again kind who (Read name offset len) is has = rw (name_again name has.0, short_again offset has.1, short_again len has.2, is) refl
command_again kind who (Write name offset bytes) is has = rw (name_again name has.0, short_again offset has.1, bytes_again bytes has.2, is) refl
command_again kind who (Tie name offset) is has = rw (name_and_number-again name offset has.0 has.1, is) refl
command_again kind who (Untie name offset) is has = rw (name_and_number-again name offset has.0 has.1, is) refl
command_again kind who (Fill page frame) is has = rw (two_numbers-again page frame has.0 has.1, is) refl
command_again kind who (Evict page frame) is has = rw (two_numbers-again page frame has.0 has.1, is) refl
command_again kind who (Move frame from to) is has = rw (short_again frame has.0, owner_again from has.1, owner_again to has.2, has.3, is) refl
command_again kind who (Flip place bit) is has = rw (two_numbers-again place bit has.0 has.1, is) refl
command_again kind who (SwapPlaces a b) is has = rw (two_numbers-again a b has.0 has.1, means_places kind who a b is, is) refl
command_again kind who (Keep place) is has = rw (number_alone-again place has, is) refl
command_again kind who (Restore place) is has = rw (number_alone-again place has, is) refl
command_again kind who (SwapRound enclave low) is has = rw (two_numbers-again enclave low has.0 has.1, means_round_here kind who enclave low is, is) refl
command_again kind who (SetShare enclave to) is has = rw (two_numbers-again enclave to has.0 has.1, is) refl
command_again kind who (Call call bytes room) is has = rw (call_again call, bytes_again bytes has.0, short_again room has.1, is) refl
