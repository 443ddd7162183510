-- What a poll answers, from one copy of each field.
use Rattle.std.specs.Prelude.{ℕ, ◌==◌, nat_lt, if◌then◌else◌}
use Rattle.eleos_words.specs.declared.layout.TheConstants.{DONE}
use Rattle.eleos_ring.specs.declared.accept.TheConstants.{MOST_STATUS}
use Rattle.eleos_ring.specs.declared.accept.Fields.{Fields}
use Rattle.eleos_ring.specs.declared.accept.Polled.{Polled}
use Rattle.eleos_ring.specs.declared.accept.Polled.TheVariants.{Pending, Refused, Reply}
use Rattle.eleos_ring.specs.declared.accept.RingWhy.TheVariants.{WrongId, TooLong, BadStatus}
use Rattle.eleos_ring.specs.declared.ticket.Ticket.{Ticket}

-- Pending where the state is not that of a reply. Else refused for the first of number, length and
-- status that is not good. Else the reply. The room is that of the buffer, in bytes.
abbrev pub accept : Ticket → ℕ → Fields → Polled
accept t room f =
    if f.state == DONE
    then (if f.id == t.id
    then (if nat_lt room f.length
    then Refused TooLong f.length
    else (if nat_lt MOST_STATUS f.status
    then Refused BadStatus f.status
    else Reply f.length f.status))
    else Refused WrongId f.id)
    else Pending t f.state
