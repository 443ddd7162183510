-- What each call replies, and what it leaves.
use Rattle.std.specs.Prelude.{ℕ, ◌+◌, ◌^◌, ◌-◌, min, List, [], ◌∷◌, ◌++◌, length, take, drop, nat_le, nat_lt, ◌==◌, position, slice_set, slice_index_or, Option, Some, None, if◌then◌else◌}
use Rattle.std.specs.List.{remove}
use Rattle.eleos_words.specs.declared.layout.TheConstants.{MOST_BYTES}
use Rattle.eleos_words.specs.Bytes.{word_in, bytes_of_word}
use Rattle.eleos_work.specs.declared.calls.HostCall.{HostCall}
use Rattle.eleos_work.specs.declared.calls.HostCall.TheVariants.{Echo, Put, Get, Cut, Clock}
use Rattle.eleos_work.specs.declared.calls.TheConstants.{BAD_JOB, FULL, KEY_BYTES, MISSING, MOST_KEYS, OKAY}
use Rattle.eleos_work.specs.Numbers.{call_of}
use Rattle.eleos_work.specs.States.{KeptValue, TableState}

-- the bytes of a job of this length, none where it is above MOST_BYTES
abbrev pub text_in : List ℕ → ℕ → Option (List ℕ)
text_in text count = if nat_le count MOST_BYTES then Some (take count text) else None

-- a reply: its status and its bytes
pub record TableReply : Type 0 where
  pub status : ℕ
  pub bytes : List ℕ

-- this status with these bytes
abbrev pub replied : ℕ → List ℕ → TableReply
replied status bytes = record { status = status; bytes = bytes }

-- the key of a job: the number that its first eight bytes spell
abbrev pub key_of : List ℕ → ℕ
key_of text = word_in text 0

-- where the value of a key stands
abbrev pub place_of : TableState → ℕ → Option ℕ
place_of t key = position (λ e. e.key == key) t.kept

-- the value that stands there
abbrev pub kept_at : TableState → ℕ → KeptValue
kept_at t i = slice_index_or t.kept i (record { key = 0; value = [] })

-- the value that a put brings, behind its key
abbrev pub entry_of : List ℕ → KeptValue
entry_of text = record { key = key_of text; value = drop KEY_BYTES text }

-- the status of a put whose key stands here, or is new
abbrev pub put_status_at : TableState → Option ℕ → ℕ
put_status_at t (Some i) = OKAY
put_status_at t None = if nat_lt (length t.kept) MOST_KEYS then OKAY else FULL

-- the status of a put
abbrev pub put_status : TableState → List ℕ → ℕ
put_status t text =
    if nat_lt (length text) KEY_BYTES then BAD_JOB else put_status_at t (place_of t (key_of text))

-- the reply to a get whose key stands here, or has no value
abbrev pub get_reply_at : TableState → Option ℕ → TableReply
get_reply_at t (Some i) = replied OKAY (kept_at t i).value
get_reply_at t None = replied MISSING []

-- the reply to a get
abbrev pub get_reply : TableState → List ℕ → TableReply
get_reply t text =
    if length text == KEY_BYTES then get_reply_at t (place_of t (key_of text))
    else replied BAD_JOB []

-- the status of a cut whose key stands here, or has no value
abbrev pub cut_status_at : Option ℕ → ℕ
cut_status_at (Some i) = OKAY
cut_status_at None = MISSING

-- the status of a cut
abbrev pub cut_status : TableState → List ℕ → ℕ
cut_status t text =
    if length text == KEY_BYTES then cut_status_at (place_of t (key_of text)) else BAD_JOB

-- the reply to a clock: how many jobs were done before, as eight bytes
abbrev pub clock_reply : TableState → List ℕ → TableReply
clock_reply t text =
    if length text == 0 then replied OKAY (bytes_of_word t.done) else replied BAD_JOB []

-- the reply to a call with these bytes
abbrev pub reply_to_call : TableState → HostCall → List ℕ → TableReply
reply_to_call t Echo text = replied OKAY text
reply_to_call t Put text = replied (put_status t text) []
reply_to_call t Get text = get_reply t text
reply_to_call t Cut text = replied (cut_status t text) []
reply_to_call t Clock text = clock_reply t text

-- the reply to a job: a bad job where there is no such call or no such bytes
abbrev pub reply_by : TableState → Option HostCall → Option (List ℕ) → TableReply
reply_by t None text = replied BAD_JOB []
reply_by t (Some call) None = replied BAD_JOB []
reply_by t (Some call) (Some text) = reply_to_call t call text

-- what the host replies to a job with the number of a call
abbrev pub reply_to : TableState → ℕ → Option (List ℕ) → TableReply
reply_to t number text = reply_by t (call_of number) text

-- what a put leaves whose key stands here, or is new
abbrev pub after_put_at : TableState → Option ℕ → KeptValue → List KeptValue
after_put_at t (Some i) e = slice_set t.kept i e
after_put_at t None e = if nat_lt (length t.kept) MOST_KEYS then t.kept ++ e ∷ [] else t.kept

-- what a put leaves
abbrev pub after_put : TableState → List ℕ → List KeptValue
after_put t text =
    if nat_lt (length text) KEY_BYTES then t.kept
    else after_put_at t (place_of t (key_of text)) (entry_of text)

-- what a cut leaves whose key stands here, or has no value
abbrev pub after_cut_at : TableState → Option ℕ → List KeptValue
after_cut_at t (Some i) = remove t.kept i
after_cut_at t None = t.kept

-- what a cut leaves
abbrev pub after_cut : TableState → List ℕ → List KeptValue
after_cut t text =
    if length text == KEY_BYTES then after_cut_at t (place_of t (key_of text)) else t.kept

-- what a call with these bytes leaves
abbrev pub kept_after_call : TableState → HostCall → List ℕ → List KeptValue
kept_after_call t Echo text = t.kept
kept_after_call t Put text = after_put t text
kept_after_call t Get text = t.kept
kept_after_call t Cut text = after_cut t text
kept_after_call t Clock text = t.kept

-- what a job leaves
abbrev pub kept_by : TableState → Option HostCall → Option (List ℕ) → List KeptValue
kept_by t None text = t.kept
kept_by t (Some call) None = t.kept
kept_by t (Some call) (Some text) = kept_after_call t call text

-- the table after a job with the number of a call: one more was done, also where it was a bad one
abbrev pub state_after : TableState → ℕ → Option (List ℕ) → TableState
state_after t number text = record {
  kept = kept_by t (call_of number) text;
  done = min (t.done + 1) (2 ^ 64 - 1);
}
