use Rattle.eleos_core.proofs.AtHome.{frames_hold}
use Rattle.eleos_core.proofs.laws.frames_hold_pages.Goals as goal

pub returns : goal.returns
returns c = record { hold = frames_hold }
