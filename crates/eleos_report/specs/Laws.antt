-- What holds of every log.
use Rattle.std.specs.Prelude.{◌≡◌, ℕ, ◌≤◌, List, length, map, Ok}
use Rattle.std.specs.Char.{to_ascii_lowercase}
use Rattle.eleos_texts.specs.Texts.{most_text}
use Rattle.eleos_trace.specs.declared.trace.Kind.{Kind}
use Rattle.eleos_report.specs.declared.line.LogLine.{LogLine}
use Rattle.eleos_report.specs.Grammar.{IsLog}
use Rattle.eleos_report.specs.Log.{log_text}
use Rattle.eleos_report.specs.Reading.{log_of}

-- a log that is printed is read again, whatever the number of its first line
abbrev pub ReadsWhatIsPrinted : Type 0
ReadsWhatIsPrinted = (kind : Kind) (first : ℕ) (lines : List LogLine) → IsLog kind lines → length (log_text lines) ≤ most_text → log_of kind first (log_text lines) ≡ Ok lines

-- what is read is a log, and each byte of it stands as it is printed, but that digits of hex may be capitals
abbrev pub ReadsOnlyLogs : Type 0
ReadsOnlyLogs = (kind : Kind) (first : ℕ) (text : List ℕ) (lines : List LogLine) → log_of kind first text ≡ Ok lines → IsLog kind lines × (map to_ascii_lowercase text ≡ log_text lines)
