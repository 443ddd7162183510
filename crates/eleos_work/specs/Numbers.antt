-- The numbers by which jobs name the calls.
use Rattle.std.specs.Prelude.{ℕ, ◌==◌, Option, Some, None, if◌then◌else◌}
use Rattle.eleos_work.specs.declared.calls.HostCall.{HostCall}
use Rattle.eleos_work.specs.declared.calls.HostCall.TheVariants.{Echo, Put, Get, Cut, Clock}

-- the call of this number, if there is one
abbrev pub call_of : ℕ → Option HostCall
call_of number =
    if number == 1 then Some Echo
    else (if number == 2 then Some Put
    else (if number == 3 then Some Get
    else (if number == 4 then Some Cut
    else (if number == 5 then Some Clock
    else None))))
