-- The lines of a session's header, each of which comes once.
use Rattle.std.specs.Prelude.{ℕ, List, [], ◌∷◌, Bool, true, false, ◌&&◌, nat_le, Result, Ok, codes}
use Rattle.eleos_base.specs.Limits.{most_pages, most_frames, most_callers, most_wear}
use Rattle.eleos_texts.specs.declared.why.Why.{Why}
use Rattle.eleos_texts.specs.declared.why.Why.TheVariants.{Form, Range}
use Rattle.eleos_texts.specs.Fields.{is, is_numeral, number, is_up_to}
use Rattle.eleos_texts.specs.Heads.{key_line, start_line}
use Rattle.eleos_texts.specs.Reasons.{unless, with_two, with_four, ◌>>=◌}
use Rattle.eleos_kvwire.specs.declared.header.Header.{Header}
use Rattle.eleos_kvwire.specs.declared.stage.HeaderLine.{HeaderLine}
use Rattle.eleos_kvwire.specs.declared.stage.HeaderLine.TheVariants.{Title, Sizes, Shards, Clients, Wear, Key, Start}
use Rattle.eleos_kvwire.specs.declared.stage.Stage.{Stage}
use Rattle.eleos_kvwire.specs.declared.stage.Stage.TheVariants as stages

-- clients
abbrev pub most_clients : ℕ
most_clients = 8

-- `eleos-kv 1`
abbrev pub title_line : List (List ℕ) → Result (Unit {0}) Why
title_line = with_two (λ name version. unless (
    (is (codes "eleos-kv") name && is (codes "1") version, Form) ∷ [])
    tt)

-- `pages N frames N`
abbrev pub sizes_line : List (List ℕ) → Result (ℕ × ℕ) Why
sizes_line = with_four (λ first pages second frames. unless (
    (is (codes "pages") first && is_numeral pages && is (codes "frames") second && is_numeral frames, Form)
    ∷ (nat_le 1 (number pages) && is_up_to most_pages pages && is_up_to most_frames frames, Range) ∷ [])
    (number pages, number frames))

-- a word and a number from 1 up to so much
abbrev pub count_line : List ℕ → ℕ → List (List ℕ) → Result ℕ Why
count_line word most = with_two (λ first count. unless (
    (is word first && is_numeral count, Form)
    ∷ (nat_le 1 (number count) && is_up_to most count, Range) ∷ [])
    (number count))

-- what the line that is due adds to the header before it
abbrev pub header_line : HeaderLine → Header → List (List ℕ) → Result Header Why
header_line Title before words = title_line words >>= λ _. Ok before
header_line Sizes before words = sizes_line words >>= λ sizes. Ok (record before { pages = sizes.0; frames = sizes.1 })
header_line Shards before words = count_line (codes "shards") most_callers words >>= λ shards. Ok (record before { shards = shards })
header_line Clients before words = count_line (codes "clients") most_clients words >>= λ clients. Ok (record before { clients = clients })
header_line Wear before words = count_line (codes "wear") most_wear words >>= λ wear. Ok (record before { wear = wear })
header_line Key before words = key_line words >>= λ key. Ok (record before { key = key })
header_line Start before words = start_line words >>= λ _. Ok before

-- a header of which no line has come
abbrev pub no_header : Header
no_header = record { pages = 0; frames = 0; shards = 0; clients = 0; wear = 0; key = [] }

-- what stands behind a line of the header
abbrev pub stage_after : HeaderLine → Stage
stage_after Title = stages.Header Sizes
stage_after Sizes = stages.Header Shards
stage_after Shards = stages.Header Clients
stage_after Clients = stages.Header Wear
stage_after Wear = stages.Header Key
stage_after Key = stages.Header Start
stage_after Start = stages.Command

-- the last line has come
abbrev pub is_ended : Stage → Bool
is_ended stages.End = true
is_ended _ = false
