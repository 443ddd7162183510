use Rattle.std.proofs.Common.{◌≡◌, ◌+◌, List, ℕ, Bor, Some, map, length, sym, ◌∙◌, arith}
use Rattle.std.specs.List.{position}
use Rattle.std.proofs.lemmas.Slice.{between_to_end}
use Rattle.std.proofs.lemmas.List.{drop-map, take-map}
use Rattle.eleos_report.specs.Reading.{is_equals}
use Rattle.eleos_report.proofs.Splits.{parted-none, parted-some}
use Rattle.eleos_report.proofs.reading.parted.Goals as goal

-- what a word is
abbrev bytes : Bor (List ℕ) → List ℕ
bytes word = word.now

pub returns-in_default : goal.returns-in_default
returns-in_default c = rw c.refused.ensures (parted-none (map bytes c.args.words.now) (sym c.in_default.ensures))

pub returns : goal.returns
returns c =
    let found : position is_equals (map bytes c.args.words.now) ≡ Some c.in-Some.at = sym c.equals_at.ensures ∙ c.in-Some.is in
    let parts = rw (take-map bytes c.in-Some.at c.args.words.now, drop-map bytes (c.in-Some.at + 1) c.args.words.now) at (parted-some (map bytes c.args.words.now) c.in-Some.at found) in
    rw (between_to_end c.args.words.now (c.in-Some.at + 1) (length c.args.words.now) (omega arith)) parts
