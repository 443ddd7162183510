use Rattle.std.proofs.Common.{Option, sym, subst}
use Rattle.eleos_swap.specs.declared.evicts.Evicted.{Evicted}
use Rattle.eleos_run.specs.Surveys.{Writes, page_told}
use Rattle.eleos_run.proofs.frame_lines.push_page.Goals as goal

pub returns : goal.returns
returns c number = subst (λ (page : Option Evicted). Writes c.args.actor (page_told number page) c.args.lines.now c.push_evict.new.lines) (sym c.in-Some.is) (c.push_evict.ensures number)
