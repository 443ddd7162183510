use Rattle.std.proofs.Common.{[], ◌∷◌, length, ap, arith, length-append}
use Rattle.std.proofs.Common.{map}
use lib.ListN.{length-map}
use Rattle.eleos_meaning.specs.Told.{line_of}
use Rattle.eleos_run.specs.Surveys.{move_told, page_told}
use Rattle.eleos_run.proofs.ShareLines.{page_few}
use Rattle.eleos_run.proofs.Writing.{writes_more}
use Rattle.eleos_run.proofs.frame_lines.push_went.Goals as goal

pub push_move-requires : goal.push_move-requires
push_move-requires c = record {
  room = let wrote = c.push_page.ensures 0 in let a = ap length wrote.lines in let b = wrote.room in let room = c.requires.room in
      let d = length-append c.args.lines.now.items (map (line_of c.args.actor) (page_told 0 c.args.went.evicted)) in let f = length-map (page_told 0 c.args.went.evicted) (line_of c.args.actor) in let few = page_few 0 c.args.went.evicted in omega (arith, a, b, d, f, few, room);
}

pub returns : goal.returns
returns c number = writes_more c.args.actor (page_told number c.args.went.evicted) (move_told number c.args.gets c.args.enclave c.args.went ∷ []) c.args.lines.now c.push_page.new.lines c.push_move.new.lines (c.push_page.ensures number) (c.push_move.ensures number)
