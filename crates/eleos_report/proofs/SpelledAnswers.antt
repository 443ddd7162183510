-- A reply that is read is the one that is printed, but that digits of hex may be capitals.
use Rattle.std.proofs.Common.{◌≡◌, ℕ, List, [], ◌∷◌, length, map, eqb, Some, None, Ok, Err, true, refl, ap, ◌∙◌, arith, codes}
use Rattle.std.specs.Prelude.{IfOk}
use Rattle.std.specs.Fmt.{decimal}
use Rattle.std.proofs.lemmas.Bool.Decides.{nat_tests}
use Rattle.eleos_base.specs.declared.memory.Looked.{Looked}
use Rattle.eleos_base.specs.declared.memory.Part.{Part as Offence}
use Rattle.eleos_base.specs.declared.memory.Part.TheVariants.{Present, Frame, Absent, Linked, Owner, Untied}
use Rattle.eleos_texts.specs.declared.why.Why.TheVariants.{Form}
use Rattle.eleos_trace.specs.declared.trace.Kind.{Kind}
use Rattle.eleos_texts.specs.Fields.{is, most_u32}
use Rattle.eleos_texts.specs.Reasons.{one, two, one_and_more, with_one, with_one_and_more}
use Rattle.eleos_texts.specs.Texts.{hex_text}
use Rattle.eleos_report.specs.declared.answer.Answer.{Answer}
use Rattle.eleos_report.specs.declared.answer.Answer.TheVariants.{At, Okay, Got, Put, BadSize, NoSpace, NotABlock, NotYours, BadRange, Unallocated, Worn, NoFrame, Enough, Swept, Reached, Short, Pinned, Illegal, Replied, WrongId, TooLong, BadStatus, Nothing, Skipped}
use Rattle.eleos_report.specs.Fields.{formed, most_u64, number_of, bytes_of, block_of, looked_of}
use Rattle.eleos_report.specs.Commands.{number_alone}
use Rattle.eleos_report.specs.Answers.{is_reply, part_of, sweep_of, told_block_of, tampered_of, plain_of, long_alone, replied_of, call_answer_of, counted_of, survey_answer_of, other_answer_of, answer_of, answer_in}
use Rattle.eleos_report.specs.Log.{looked_text, part_text, block_fields, answer_fields}
use Rattle.eleos_report.proofs.ReadFields.{step, tested}
use Rattle.eleos_report.proofs.SpelledHex.{lower}
use Rattle.eleos_report.proofs.SpelledFields.{when, weaker, verb_is, one_is, two_are, one_and_more_are, short_spelled, long_spelled, bytes_spelled, block_spelled, looked_spelled}
use Rattle.eleos_report.proofs.SpelledCommands.{lowers, both, alone, verb_step, verb_all, number_alone_spelled}

part_spelled : (word : List ℕ) → IfOk (part_of word) (λ part. lower word ≡ part_text part)
part_spelled word =
    let P : Offence → Type 0 = λ part. lower word ≡ part_text part in
    when P (is (codes "present") word) (Ok Present) _ (verb_is (codes "present") word refl)
    (when P (is (codes "frame") word) (Ok Frame) _ (verb_is (codes "frame") word refl)
    (when P (is (codes "absent") word) (Ok Absent) _ (verb_is (codes "absent") word refl)
    (when P (is (codes "linked") word) (Ok Linked) _ (verb_is (codes "linked") word refl)
    (when P (is (codes "owner") word) (Ok Owner) _ (verb_is (codes "owner") word refl)
    (when P (is (codes "untied") word) (Ok Untied) (Err Form) (verb_is (codes "untied") word refl) tt)))))

sweep_spelled : (words : List (List ℕ)) → IfOk (sweep_of words) (λ sweep. lowers words ≡ map looked_text sweep)
sweep_spelled [] = refl
sweep_spelled (word ∷ words) = step (λ looked. lower word ≡ looked_text looked) (λ sweep. lowers (word ∷ words) ≡ map looked_text sweep) (looked_of word) _ (looked_spelled word) (λ looked same.
    step (λ sweep. lowers words ≡ map looked_text sweep) (λ sweep. lowers (word ∷ words) ≡ map looked_text sweep) (sweep_of words) _ (sweep_spelled words) (λ sweep all.
    both (lower word) (looked_text looked) (lowers words) (map looked_text sweep) same all))

none_left : (words : List (List ℕ)) → eqb (length words) 0 ≡ true → words ≡ []
none_left [] h = refl
none_left (word ∷ words) h = absurd (grind (arith, nat_tests))

told_block_spelled : (words : List (List ℕ)) → IfOk (told_block_of words) (λ block. lowers words ≡ block_fields block)
told_block_spelled words = when (λ block. lowers words ≡ block_fields block) (eqb (length words) 0) (Ok None) _ (λ h. ap lowers (none_left words h))
    (step (λ block. lowers words ≡ hex_text block ∷ []) (λ block. lowers words ≡ block_fields block) (with_one block_of words) (λ block. Ok (Some block))
    (step (λ a. words ≡ a ∷ []) (λ block. lowers words ≡ hex_text block ∷ []) (one words) block_of (one_is words) (λ a are.
    weaker (λ block. lower a ≡ hex_text block) (λ block. lowers words ≡ hex_text block ∷ []) (block_of a) (block_spelled a) (λ block same. ap lowers are ∙ ap alone same)))
    (λ block same. same))

tampered_spelled : (words : List (List ℕ)) → IfOk (tampered_of words) (λ a. codes "tampered" ∷ lowers words ≡ answer_fields a)
tampered_spelled words =
    let P : Answer → Type 0 = λ a. codes "tampered" ∷ lowers words ≡ answer_fields a in
    step (λ x. words ≡ x.0 ∷ x.1) P (one_and_more words) _ (one_and_more_are words) (λ x are.
    step (λ n. lower x.0 ≡ decimal n) P (number_of most_u32 x.0) _ (short_spelled x.0) (λ sub sub_same.
    step (λ block. lowers x.1 ≡ block_fields block) P (told_block_of x.1) _ (told_block_spelled x.1) (λ block told.
    ap (λ ws. codes "tampered" ∷ lowers ws) are ∙ (rw (sub_same, told) refl))))

module _ (word : List ℕ) where
  abbrev IsWord : Answer → Type 0
  IsWord a = lower word ∷ [] ≡ answer_fields a

  plain_spelled : IfOk (plain_of word) IsWord
  plain_spelled =
      when IsWord (is (codes "ok") word) (Ok Okay) _ (λ h. ap alone (verb_is (codes "ok") word refl h))
      (when IsWord (is (codes "badsize") word) (Ok BadSize) _ (λ h. ap alone (verb_is (codes "badsize") word refl h))
      (when IsWord (is (codes "nospace") word) (Ok NoSpace) _ (λ h. ap alone (verb_is (codes "nospace") word refl h))
      (when IsWord (is (codes "notablock") word) (Ok NotABlock) _ (λ h. ap alone (verb_is (codes "notablock") word refl h))
      (when IsWord (is (codes "badrange") word) (Ok BadRange) _ (λ h. ap alone (verb_is (codes "badrange") word refl h))
      (when IsWord (is (codes "unallocated") word) (Ok Unallocated) _ (λ h. ap alone (verb_is (codes "unallocated") word refl h))
      (when IsWord (is (codes "none") word) (Ok Nothing) _ (λ h. ap alone (verb_is (codes "none") word refl h))
      (when IsWord (is (codes "skipped") word) (Ok Skipped) (Err Form) (λ h. ap alone (verb_is (codes "skipped") word refl h)) tt)))))))

module _ (word : List ℕ) (args : List (List ℕ)) where
  -- the words are those of the reply
  abbrev AreParts : Answer → Type 0
  AreParts a = lower word ∷ lowers args ≡ answer_fields a

  abbrev number_word : ℕ → List (List ℕ)
  number_word n = decimal n ∷ []

  abbrev hex_word : List ℕ → List (List ℕ)
  hex_word bytes = hex_text bytes ∷ []

  abbrev part_word : Offence → List (List ℕ)
  part_word part = part_text part ∷ []

  abbrev sweep_words : List Looked → List (List ℕ)
  sweep_words sweep = map looked_text sweep

  abbrev counted_words : ℕ × List Looked → List (List ℕ)
  counted_words x = decimal x.0 ∷ map looked_text x.1

  counted_spelled : IfOk (counted_of args) (λ x. lowers args ≡ counted_words x)
  counted_spelled =
      let P : ℕ × List Looked → Type 0 = λ x. lowers args ≡ counted_words x in
      step (λ x. args ≡ x.0 ∷ x.1) P (one_and_more args) _ (one_and_more_are args) (λ x are.
      step (λ n. lower x.0 ≡ decimal n) P (number_of most_u32 x.0) _ (short_spelled x.0) (λ n n_same.
      step (λ sweep. lowers x.1 ≡ map looked_text sweep) P (sweep_of x.1) _ (sweep_spelled x.1) (λ sweep sweep_same.
      ap lowers are ∙ (rw (n_same, sweep_same) refl))))

  bytes_alone : IfOk (with_one bytes_of args) (λ bytes. lowers args ≡ hex_word bytes)
  bytes_alone = step (λ a. args ≡ a ∷ []) (λ bytes. lowers args ≡ hex_word bytes) (one args) bytes_of (one_is args) (λ a are.
      weaker (λ bytes. lower a ≡ hex_text bytes) (λ bytes. lowers args ≡ hex_word bytes) (bytes_of a) (bytes_spelled a) (λ bytes same. ap lowers are ∙ ap alone same))

  part_alone : IfOk (with_one part_of args) (λ part. lowers args ≡ part_word part)
  part_alone = step (λ a. args ≡ a ∷ []) (λ part. lowers args ≡ part_word part) (one args) part_of (one_is args) (λ a are.
      weaker (λ part. lower a ≡ part_text part) (λ part. lowers args ≡ part_word part) (part_of a) (part_spelled a) (λ part same. ap lowers are ∙ ap alone same))

  long_spelled_alone : IfOk (long_alone args) (λ n. lowers args ≡ number_word n)
  long_spelled_alone = step (λ a. args ≡ a ∷ []) (λ n. lowers args ≡ number_word n) (one args) (number_of most_u64) (one_is args) (λ a are.
      weaker (λ n. lower a ≡ decimal n) (λ n. lowers args ≡ number_word n) (number_of most_u64 a) (long_spelled a) (λ n same. ap lowers are ∙ ap alone same))

  replied_spelled : IfOk (replied_of args) (λ a. codes "reply" ∷ lowers args ≡ answer_fields a)
  replied_spelled =
      let P : Answer → Type 0 = λ a. codes "reply" ∷ lowers args ≡ answer_fields a in
      step (λ x. args ≡ x.0 ∷ x.1 ∷ []) P (two args) _ (two_are args) (λ x are.
      step (λ n. lower x.0 ≡ decimal n) P (number_of most_u64 x.0) _ (long_spelled x.0) (λ status status_same.
      step (λ bytes. lower x.1 ≡ hex_text bytes) P (bytes_of x.1) _ (bytes_spelled x.1) (λ bytes bytes_same.
      ap (λ ws. codes "reply" ∷ lowers ws) are ∙ (rw (status_same, bytes_same) refl))))

  call_answer_spelled : IfOk (call_answer_of word args) AreParts
  call_answer_spelled =
      when AreParts (is (codes "reply") word) (replied_of args) _ (verb_all answer_fields (codes "reply") word args (replied_of args) refl replied_spelled)
      (when AreParts (is (codes "wrongid") word) _ _ (verb_step answer_fields number_word (codes "wrongid") word args (long_alone args) (λ seen. WrongId seen) refl long_spelled_alone (λ seen. refl))
      (when AreParts (is (codes "toolong") word) _ _ (verb_step answer_fields number_word (codes "toolong") word args (long_alone args) (λ seen. TooLong seen) refl long_spelled_alone (λ seen. refl))
      (when AreParts (is (codes "badstatus") word) _ (Err Form) (verb_step answer_fields number_word (codes "badstatus") word args (long_alone args) (λ seen. BadStatus seen) refl long_spelled_alone (λ seen. refl)) tt)))

  survey_answer_spelled : IfOk (survey_answer_of word args) AreParts
  survey_answer_spelled =
      when AreParts (is (codes "enough") word) _ _ (verb_step answer_fields counted_words (codes "enough") word args (counted_of args) (λ x. Enough x.0 x.1) refl counted_spelled (λ x. refl))
      (when AreParts (is (codes "swept") word) _ _ (verb_step answer_fields counted_words (codes "swept") word args (counted_of args) (λ x. Swept x.0 x.1) refl counted_spelled (λ x. refl))
      (when AreParts (is (codes "done") word) _ _ (verb_step answer_fields number_word (codes "done") word args (number_alone args) (λ share. Reached share) refl (number_alone_spelled args) (λ share. refl))
      (when AreParts (is (codes "short") word) _ _ (verb_step answer_fields counted_words (codes "short") word args (counted_of args) (λ x. Short x.0 x.1) refl counted_spelled (λ x. refl))
      (when AreParts (is (codes "pinned") word) _ _ (verb_step answer_fields counted_words (codes "pinned") word args (counted_of args) (λ x. Pinned x.0 x.1) refl counted_spelled (λ x. refl))
      (when AreParts (eqb (length args) 0) (plain_of word) (call_answer_of word args) (λ h. weaker (λ a. lower word ∷ [] ≡ answer_fields a) AreParts (plain_of word) (plain_spelled word) (λ a same. ap (λ ws. lower word ∷ lowers ws) (none_left args h) ∙ same)) call_answer_spelled)))))

  other_answer_spelled : IfOk (other_answer_of word args) AreParts
  other_answer_spelled =
      when AreParts (is (codes "got") word) _ _ (verb_step answer_fields hex_word (codes "got") word args (with_one bytes_of args) (λ bytes. Got bytes) refl bytes_alone (λ bytes. refl))
      (when AreParts (is (codes "tampered") word) (tampered_of args) _ (verb_all answer_fields (codes "tampered") word args (tampered_of args) refl (tampered_spelled args))
      (when AreParts (is (codes "noframe") word) _ _ (verb_step answer_fields sweep_words (codes "noframe") word args (sweep_of args) (λ sweep. NoFrame sweep) refl (sweep_spelled args) (λ sweep. refl))
      (when AreParts (is (codes "illegal") word) _ _ (verb_step answer_fields part_word (codes "illegal") word args (with_one part_of args) (λ part. Illegal part) refl part_alone (λ part. refl)) survey_answer_spelled)))

  answer_of_spelled : IfOk (answer_of word args) AreParts
  answer_of_spelled =
      when AreParts (is (codes "at") word) _ _ (verb_step answer_fields number_word (codes "at") word args (number_alone args) (λ n. At n) refl (number_alone_spelled args) (λ n. refl))
      (when AreParts (is (codes "put") word) _ _ (verb_step answer_fields number_word (codes "put") word args (number_alone args) (λ n. Put n) refl (number_alone_spelled args) (λ n. refl))
      (when AreParts (is (codes "notyours") word) _ _ (verb_step answer_fields number_word (codes "notyours") word args (number_alone args) (λ n. NotYours n) refl (number_alone_spelled args) (λ n. refl))
      (when AreParts (is (codes "worn") word) _ (other_answer_of word args) (verb_step answer_fields number_word (codes "worn") word args (number_alone args) (λ n. Worn n) refl (number_alone_spelled args) (λ n. refl)) other_answer_spelled)))

-- the words that are read as a reply are those that it is printed with, but for capitals
pub answer_spelled : (kind : Kind) (words : List (List ℕ)) → IfOk (answer_in kind words) (λ a. lowers words ≡ answer_fields a)
answer_spelled kind words = step (λ a. lowers words ≡ answer_fields a) (λ a. lowers words ≡ answer_fields a) (with_one_and_more answer_of words) (λ a. formed (is_reply kind a) a)
    (step (λ x. words ≡ x.0 ∷ x.1) (λ a. lowers words ≡ answer_fields a) (one_and_more words) (λ x. answer_of x.0 x.1) (one_and_more_are words) (λ x are.
    weaker (λ a. lower x.0 ∷ lowers x.1 ≡ answer_fields a) (λ a. lowers words ≡ answer_fields a) (answer_of x.0 x.1) (answer_of_spelled x.0 x.1) (λ a same. ap lowers are ∙ same)))
    (λ a same. tested (λ a. lowers words ≡ answer_fields a) (is_reply kind a) a (λ h. same))
