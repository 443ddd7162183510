use Rattle.std.proofs.Common.{◌≡◌, refl, ◌∙◌}
use Rattle.eleos_report.specs.Log.{line_text}
use Rattle.eleos_report.proofs.PrintedLines.{line_is_utf8}
use Rattle.eleos_report.proofs.writing.write_line.Goals as goal

pub returns : goal.returns
returns c kind is =
    let same : c.deref.result.now ≡ line_text c.args.line.now = rw (c.deref.ensures.value, c.in_ok-push_line.ensures, c.new-out.ensures.items) refl in
    c.in_ok-from_utf8_lossy.ensures.ok (rw same (line_is_utf8 kind c.args.line.now is)) ∙ same
