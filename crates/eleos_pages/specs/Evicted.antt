-- A page that left its frame by a pass.
use Rattle.std.specs.Prelude.{◌≡◌, ◌≢◌, ℕ, [], length, None}
use Rattle.eleos_base.specs.Ties.{Has}
use Rattle.eleos_core.specs.Applying.{puts_of}
use Rattle.eleos_core.specs.Evicts.{evict_stamp}
use Rattle.eleos_core.specs.Parts.{frame_cell, owner_in, page_cell}
use Rattle.eleos_host.specs.declared.port.HostPort.{Ghosts}
use Rattle.eleos_host.specs.declared.port.HostStore as store
use Rattle.eleos_host.specs.Taps.{TapState, failed_block}
use Rattle.eleos_machine.specs.declared.holding.FreeFrame.{FreeFrame}
use Rattle.eleos_machine.specs.declared.holding.SolePage.{SolePage}
use Rattle.eleos_machine.specs.Holding.{HasFree}
use Rattle.eleos_machine.specs.Passes.{IsLawful, PassState, part_seen, plan_of, seals_of}
use Rattle.eleos_pages.specs.Crossed.{HasCrossed}
use Rattle.eleos_pages.specs.Entered.{Enters}
use Rattle.eleos_turn.specs.Numbers.{less_one}

module _ {P : Type 0} (port : Ghosts P) (host : store.Ghosts P) where
  -- the page left its frame by the pass's one new entry. The tap began once, and since then the host took just the blocks that the entry seals,
  -- of which there are so many, and gave none. The pass has the frame's turn still, and the page's no more; other cells whose turns it has are as before.
  pub record HasEvicted (s : PassState) (before : TapState P) (sole : SolePage) (free : FreeFrame) (puts : ℕ) (s' : PassState) (tap : TapState P) : Type 0 where
    pub entered : Enters s (evict_stamp s.hand.number sole.page sole.frame) (less_one (page_cell (plan_of s) sole.page) s.hand.turns) s'
    pub crossed : HasCrossed port host before tap [] (puts_of (plan_of s) (seals_of s) (evict_stamp s.hand.number sole.page sole.frame).entry entered.past)
    pub count : puts ≡ length (puts_of (plan_of s) (seals_of s) (evict_stamp s.hand.number sole.page sole.frame).entry entered.past)
    pub unfailed : failed_block tap ≡ None
    pub frame : free.frame ≡ sole.frame
    pub has : HasFree s' free
    pub owner : owner_in (part_seen s' (frame_cell (plan_of s) sole.frame)) ≡ owner_in (part_seen s (frame_cell (plan_of s) sole.frame))
    pub parts : (c : ℕ) → Has c s.hand.turns → c ≢ page_cell (plan_of s) sole.page → c ≢ frame_cell (plan_of s) sole.frame → part_seen s' c ≡ part_seen s c
    pub lawful : IsLawful s'
