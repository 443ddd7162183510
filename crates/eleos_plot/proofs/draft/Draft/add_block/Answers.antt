use Rattle.std.proofs.Common.{◌≡◌, ◌+◌, ℕ, suc, List, [], ◌∷◌, ◌++◌, ap, ◌∙◌, add-one}
use Rattle.eleos_core.specs.Parts.{Stamp}
use Rattle.eleos_plot.specs.Drafts.{blocks_in, draft_of}
use Rattle.eleos_plot.specs.Entries.{with_block}
use Rattle.eleos_plot.proofs.Blocks.{blocks_in-append}
use Rattle.eleos_plot.proofs.draft.Draft.add_block.Goals as goal

pub returns : goal.returns
returns c =
    let a = c.self.inside in
    let block : List ℕ = c.args.block.now in
    let is : blocks_in (a.count + 1) c.append.new.room.items ≡ blocks_in a.count a.blocks.items ++ block ∷ [] =
    ap (λ n. blocks_in n c.append.new.room.items) (add-one a.count)
    ∙ (ap (λ bytes. blocks_in (suc a.count) bytes) c.append.ensures.items ∙ blocks_in-append a.count a.blocks.items block c.self.invariant.whole c.requires.whole) in
    let put : List (List ℕ) → Stamp = λ blocks. record (draft_of a) { entry = record (draft_of a).entry { blocks = blocks } } in
    ap put is ∙ ap (λ (d : Stamp). with_block d block) c.self.view_is
