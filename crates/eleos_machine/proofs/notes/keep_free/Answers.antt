use Rattle.std.proofs.Common.{◌≡◌, ◌≤◌, ◌==◌, List, length, not, refl, arith, rules}
use Rattle.std.proofs.lemmas.Fn.{filter_same}
use Rattle.std.proofs.lemmas.List.Filters.{length-filter_both}
use Rattle.eleos_base.specs.declared.memory.Looked.{Looked}
use Rattle.eleos_machine.specs.Notes.{free_notes}
use Rattle.eleos_machine.proofs.notes.keep_free.Goals as goal

-- the notes of free frames are no more than all
fewer : (old new : List Looked) → new ≡ free_notes old → length new ≤ length old
fewer old new is = let both = length-filter_both (λ (seen : Looked). seen.word == 0) (λ (seen : Looked). not (seen.word == 0)) (λ seen. refl) old in rw is (omega (arith, both))

pub returns-clause-items : goal.returns-clause-items
returns-clause-items c = filter_same _ _ _ (λ x b f' k. search rules) _ _ c.retain.ensures.filtered

pub returns-clause-fewer : goal.returns-clause-fewer
returns-clause-fewer c = fewer c.args.words.now.items c.retain.new.self.items (filter_same _ _ _ (λ x b f' k. search rules) _ _ c.retain.ensures.filtered)
