use Rattle.eleos_meaning.specs.NameTable.{names_in}
use Rattle.eleos_meaning.proofs.HeaderBlocks.{Stands}
use Rattle.eleos_meaning.proofs.headers.header_names.Given as goal

-- the header blocks so far stand one behind the other, and their names have their addresses
abbrev pub invariant-loop-i : goal.invariant-loop-i
invariant-loop-i l = Stands l.trace.plan l.home l.trace.names l.i l.start (names_in l.names)
