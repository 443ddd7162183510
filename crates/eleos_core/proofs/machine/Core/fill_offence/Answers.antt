use Rattle.std.proofs.Common.{◌≡◌, true, None, ◌∙◌, sym, ap, inl, inr}
use Rattle.eleos_core.specs.Cells.{Cells, part_of_frame, part_of_page}
use Rattle.eleos_core.specs.Fills.{page_in, the_frame_in}
use Rattle.eleos_core.specs.Parts.{frame_in, holder_in, owner_in}
use Rattle.eleos_base.specs.Places.{home_of}
use Rattle.eleos_core.proofs.Offending.{not_present, owner_other, owner_same}
use Rattle.eleos_core.proofs.TwoCells.{frame_part_is, page_part_is}
use Rattle.eleos_core.proofs.machine.Core.fill_offence.Goals as goal
use Rattle.eleos_core.proofs.machine.Core.fill_offence.Goals.{else-is_free-via-then-is_free+else-eq, else-is_free-via-else-is_free}

pub returns-then-eq : goal.returns-then-eq
returns-then-eq c =
    let page_part : page_in c.args.self.now c.args.page ≡ part_of_page c.index.result.now = rw (← c.self.view_is) (page_part_is c.self.inside.plan c.self.inside.live.items c.self.inside.clocks.items c.self.inside.pages.items c.self.inside.frames.items c.self.inside.links.items c.self.invariant
    c.args.page (rw (← c.self.view_is) at c.requires.page) c.index.result.now c.index.ensures) in
    let frame_part : the_frame_in c.args.self.now c.args.frame ≡ part_of_frame c.index-cell.result.now = rw (← c.self.view_is) (frame_part_is c.self.inside.plan c.self.inside.live.items c.self.inside.clocks.items c.self.inside.pages.items c.self.inside.frames.items c.self.inside.links.items c.self.invariant
    c.args.frame (rw (← c.self.view_is) at c.requires.frame) c.index-cell.result.now c.index-cell.ensures) in
    let absent : frame_in (page_in c.args.self.now c.args.page) ≡ None = ap frame_in page_part ∙ not_present c.index.result.now.present (sym c.is_some.ensures ∙ c.if-is_some.false) in
    let home : c.home_of.result ≡ home_of c.args.self.now.plan c.args.page = c.home_of.ensures ∙ ap (λ (m : Cells). home_of m.plan c.args.page) c.self.view_is in
    record {
      absent = absent;
      free = ap holder_in frame_part ∙ c.is_free.ensures.0 c.if-is_free.true;
      at_home = ap owner_in frame_part ∙ (owner_same c.index-cell.result.now.owner c.home_of.result (sym c.eq.ensures ∙ c.if-eq.true) ∙ home);
    }

pub returns-else-is_free : goal.returns-else-is_free
returns-else-is_free c =
    let page_part : page_in c.args.self.now c.args.page ≡ part_of_page c.index.result.now = rw (← c.self.view_is) (page_part_is c.self.inside.plan c.self.inside.live.items c.self.inside.clocks.items c.self.inside.pages.items c.self.inside.frames.items c.self.inside.links.items c.self.invariant
    c.args.page (rw (← c.self.view_is) at c.requires.page) c.index.result.now c.index.ensures) in
    let frame_part : the_frame_in c.args.self.now c.args.frame ≡ part_of_frame c.index-cell.result.now = rw (← c.self.view_is) (frame_part_is c.self.inside.plan c.self.inside.live.items c.self.inside.clocks.items c.self.inside.pages.items c.self.inside.frames.items c.self.inside.links.items c.self.invariant
    c.args.frame (rw (← c.self.view_is) at c.requires.frame) c.index-cell.result.now c.index-cell.ensures) in
    let absent : frame_in (page_in c.args.self.now c.args.page) ≡ None = ap frame_in page_part ∙ not_present c.index.result.now.present (sym c.is_some.ensures ∙ c.if-is_some.false) in (
      absent,
      elim c.else-is_free.branch [
        | else-is_free-via-then-is_free+else-eq w ↦ inr (λ same. owner_other c.index-cell.result.now.owner w.home_of.result (sym w.eq.ensures ∙ w.if-eq.false)
            (sym (ap owner_in frame_part) ∙ (same ∙ sym (w.home_of.ensures ∙ ap (λ (m : Cells). home_of m.plan c.args.page) c.self.view_is))))
        | else-is_free-via-else-is_free w ↦ inl (λ none. let yes : c.is_free.result ≡ true = c.is_free.ensures.1 (sym (ap holder_in frame_part) ∙ none) in let no_is = w.if-is_free.false in cc)
      ],
    )
