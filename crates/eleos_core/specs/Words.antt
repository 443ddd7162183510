-- The words that the clauses of this crate cite, from one place. It declares nothing.
pub use Rattle.eleos_base.specs.Answers.{access_refusal_reply, read_reply, write_reply}
pub use Rattle.eleos_base.specs.Lists.{map_from}
pub use Rattle.eleos_base.specs.Places.{all_frames, all_pages, first_sub, home_of, page_of, sub_of}
pub use Rattle.eleos_base.specs.Places.{subs}
pub use Rattle.eleos_base.specs.Plain.{block_refusal, has_sub, is_in_range, lowest_run, shared_at}
pub use Rattle.eleos_base.specs.Plain.{starts_at, use_refusal, with_block, zeros}
pub use Rattle.eleos_base.specs.Plans.{IsCaller, IsGood, enclave_of, page_bytes, sub_bytes}
pub use Rattle.eleos_base.specs.Words.{is_busy, is_taken}
pub use Rattle.eleos_core.specs.Accesses.{AreBlocks, IsAccess, IsSpot, Opens, ReadsOn, ReadsPage}
pub use Rattle.eleos_core.specs.Accesses.{Reseals, WritesOn, WritesPage, block_places, call_places}
pub use Rattle.eleos_core.specs.Accesses.{link_stamp, may_link, opened_places, page_for, read_stamp}
pub use Rattle.eleos_core.specs.Accesses.{refusal_for, refusal_on, rewritten_places, sealed_by}
pub use Rattle.eleos_core.specs.Accesses.{sub_for, taken_places, unlink_stamp, with_bytes}
pub use Rattle.eleos_core.specs.Accesses.{write_refusal, write_stamp}
pub use Rattle.eleos_core.specs.Allots.{Allots, ArePages, IsCleared, IsWholePage, KeepsPage}
pub use Rattle.eleos_core.specs.Allots.{KeepsPages, marked, marked_block, marked_bytes, run_marked}
pub use Rattle.eleos_core.specs.Allots.{with_marked}
pub use Rattle.eleos_core.specs.Applying.{AlwaysApplies, AlwaysIllegal, Makes, Shows, parts_in}
pub use Rattle.eleos_core.specs.Applying.{put_of, puts_in}
pub use Rattle.eleos_core.specs.Cells.{IsPage, IsPresent, IsSubPage, IsUse, frame_of_page}
pub use Rattle.eleos_core.specs.Cells.{holder_of_use, links_in, part_of_frame, part_of_page}
pub use Rattle.eleos_core.specs.Cells.{part_with, piece, sub_size, subs_per_page}
pub use Rattle.eleos_core.specs.Evicts.{CanLeave, evict_stamp, sealed_block, sealed_blocks}
pub use Rattle.eleos_core.specs.Evicts.{sealed_sub}
pub use Rattle.eleos_core.specs.Fills.{AreFit, AreOpened, CanFillIn, IsFree, IsJudged, absent_page}
pub use Rattle.eleos_core.specs.Fills.{fill_stamp, page_in, sealed_places}
pub use Rattle.eleos_core.specs.Legal.{IsActor, IsOwner, IsWithin, OneIsPool}
pub use Rattle.eleos_core.specs.Memory.{MayWantMemory}
pub use Rattle.eleos_core.specs.Moves.{CanMoveIn, move_stamp}
pub use Rattle.eleos_core.specs.Needs.{AlwaysCovers, needed}
pub use Rattle.eleos_core.specs.Offences.{CanEvictIn, IsLinked, IsUnlinked, OffendsEvict}
pub use Rattle.eleos_core.specs.Offences.{OffendsFill, OffendsMove}
pub use Rattle.eleos_core.specs.Opening.{AreFrames, opening_clocks, opening_frame, opening_lives}
pub use Rattle.eleos_core.specs.Opening.{opening_page, pages_among, sub_among, with_header}
pub use Rattle.eleos_core.specs.Order.{AreInOrder}
pub use Rattle.eleos_core.specs.Outcomes.{Outcome}
pub use Rattle.eleos_core.specs.Parts.{clock_cell, frame_in, frame_part, is_worn_in, page_part}
pub use Rattle.eleos_core.specs.Parts.{part_after, sealed_from, subs_in, the_frame, the_page}
pub use Rattle.eleos_core.specs.Quiet.{AllPass, IsSpoiledAt, IsStarving, IsSurveyed, IsWaiting}
pub use Rattle.eleos_core.specs.Quiet.{MayWait, spoiled_stamp, starved_stamp, survey_stamp}
pub use Rattle.eleos_core.specs.Quiet.{waiting_fault, wanted_page, wanted_part, wanted_places}
pub use Rattle.eleos_core.specs.Seals.{Seals, seals_by}
pub use Rattle.eleos_core.specs.State.{address_of, call_address, live}
pub use Rattle.eleos_core.specs.Surveys.{IsTheReply}
pub use Rattle.eleos_core.specs.Sweeps.{IsEnough, IsShort, IsSwept, IsTaken, SurveyReply}
pub use Rattle.eleos_core.specs.Texts.{came_for}
