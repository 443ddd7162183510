-- The lines of which a header has one each.
use Rattle.std.specs.Prelude.{ℕ, ◌+◌, List, [], ◌∷◌, ◌&&◌, nat_le, Result, codes}
use Rattle.eleos_base.specs.declared.plan.EnclavePlan.{EnclavePlan}
use Rattle.eleos_base.specs.Limits.{most_frames, most_wear}
use Rattle.eleos_trace.specs.declared.trace.Kind.{Kind}
use Rattle.eleos_texts.specs.declared.why.Why.{Why}
use Rattle.eleos_texts.specs.declared.why.Why.TheVariants.{Form, Range}
use Rattle.eleos_texts.specs.Fields.{is, is_numeral, number, is_up_to}
use Rattle.eleos_texts.specs.Reasons.{unless, with_two, with_three}
use Rattle.eleos_trace.specs.Machines.{frames_of}
use Rattle.eleos_trace.specs.Spelling.{kind_text}

-- `eleos 1 run` or `eleos 1 replay`, by the kind that is asked for
abbrev pub title_line : Kind → List (List ℕ) → Result (Unit {0}) Why
title_line kind = with_three (λ first version word. unless (
    (is (codes "eleos") first && is (codes "1") version && is (kind_text kind) word, Form) ∷ [])
    tt)

-- `spare S`, beside the frames of these enclaves
abbrev pub spare_line : List EnclavePlan → List (List ℕ) → Result ℕ Why
spare_line enclaves = with_two (λ first spare. unless (
    (is (codes "spare") first && is_numeral spare, Form)
    ∷ (nat_le (frames_of enclaves + number spare) most_frames, Range) ∷ [])
    (number spare))

-- `wear W`
abbrev pub wear_line : List (List ℕ) → Result ℕ Why
wear_line = with_two (λ first wear. unless (
    (is (codes "wear") first && is_numeral wear, Form)
    ∷ (nat_le 1 (number wear) && is_up_to most_wear wear, Range) ∷ [])
    (number wear))
