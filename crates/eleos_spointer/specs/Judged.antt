-- A link that is judged on the page in hand.
use Rattle.std.specs.Prelude.{◌≡◌, ◌<◌, [], ◌∷◌, Result, Ok, Err}
use Rattle.eleos_base.specs.declared.memory.Addr.{Addr}
use Rattle.eleos_base.specs.declared.memory.Reply.{Reply}
use Rattle.eleos_base.specs.Plans.{IsCaller}
use Rattle.eleos_core.specs.declared.event.Wanted.TheVariants.{Link as ALink}
use Rattle.eleos_core.specs.Accesses.{IsAccess, link_stamp, page_at}
use Rattle.eleos_machine.specs.declared.holding.HeldPage.{HeldPage}
use Rattle.eleos_machine.specs.Holding.{HasPage}
use Rattle.eleos_machine.specs.Machines.{Site}
use Rattle.eleos_machine.specs.Passes.{IsLawful, PassState, plan_of}
use Rattle.eleos_pages.specs.Entered.{Enters}
use Rattle.eleos_spointer.specs.declared.refusing.LinkRefused.{LinkRefused}
use Rattle.eleos_spointer.specs.Brought.{Accepts, cell_of_held}
use Rattle.eleos_spointer.specs.Refused.{IsPlain, refusal_reply}

-- by its one new entry the pass was refused a link at the address, with this reply. No turn is left
abbrev pub RefusesLink : PassState → Addr → Reply → PassState → Type 0
RefusesLink s at reply s' = Enters s (link_stamp s.hand.number at reply) [] s'

-- the pass is a caller's and has the turn of the page of the address, where a byte is in range, no other turn, and a stamp
pub record MayJudge (z : Site) (s : PassState) (at : Addr) (page : HeldPage) : Type 0 where
  pub own : s.hand.home ≡ z
  pub caller : IsCaller (plan_of s) s.hand.number
  pub left : 0 < s.hand.left
  pub has : HasPage s page.page page.cell
  pub page_is : page.page ≡ page_at (plan_of s) at
  pub range : IsAccess (plan_of s) s.hand.number at 1
  pub turns : s.hand.turns ≡ cell_of_held s page ∷ []

-- plain memory refuses the link, and that was stamped
pub record Refuses (s : PassState) (at : Addr) (refused : LinkRefused) (s' : PassState) : Type 0 where
  pub plain : IsPlain refused
  pub entered : RefusesLink s at (refusal_reply refused) s'
  pub lawful : IsLawful s'

-- how the link was judged: nothing was done, or it is refused
abbrev pub Judges : PassState → Addr → HeldPage → Result HeldPage LinkRefused → PassState → Type 0
Judges s at page (Ok page') s' = (page' ≡ page) × (s' ≡ s) × Accepts s page (ALink at)
Judges s at page (Err refused) s' = Refuses s at refused s'
