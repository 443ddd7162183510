-- A command that is read is the one that is printed, but that digits of hex may be capitals.
use Rattle.std.proofs.Common.{◌≡◌, ℕ, List, [], ◌∷◌, map, Option, Some, None, Bool, true, false, cond, Result, Ok, Err, refl, sym, ap, ◌∙◌, codes}
use Rattle.std.specs.Prelude.{IfOk, IfSome}
use Rattle.std.specs.Fmt.{decimal}
use Rattle.eleos_texts.specs.declared.why.Why.{Why}
use Rattle.eleos_texts.specs.declared.why.Why.TheVariants.{Form}
use Rattle.eleos_trace.specs.Calls.{call_named, call_text, with_call}
use Rattle.eleos_trace.specs.declared.word.Actor.{Actor}
use Rattle.eleos_trace.specs.declared.word.CallWord.{CallWord}
use Rattle.eleos_trace.specs.declared.word.CallWord.TheVariants.{Echo, Put, Get, Cut, Clock}
use Rattle.eleos_trace.specs.declared.word.Word.{Word}
use Rattle.eleos_trace.specs.declared.word.Word.TheVariants.{Alloc, Free, Share, Tie, Untie, Fill, Evict, Move, Flip, SwapPlaces, Keep, Restore, SwapRound, SetShare, Call}
use Rattle.eleos_trace.specs.declared.trace.Kind.{Kind}
use Rattle.eleos_texts.specs.Fields.{is, most_u32}
use Rattle.eleos_texts.specs.Reasons.{one, two, three, one_and_more, with_one_and_more, ◌>>=◌}
use Rattle.eleos_texts.specs.Texts.{hex_text}
use Rattle.eleos_trace.specs.Spelling.{fields, owner_text}
use Rattle.eleos_report.specs.Fields.{formed, number_of, name_of, bytes_of, optional_of}
use Rattle.eleos_report.specs.Commands.{is_command, is_move, name_alone, name_and_number, number_alone, two_numbers, means_round, swap_word, read_of, write_of, call_of, move_of, host_command_of, frame_command_of, command_of, command_in}
use Rattle.eleos_report.proofs.ReadFields.{step, tested}
use Rattle.eleos_report.proofs.SpelledHex.{lower}
use Rattle.eleos_report.proofs.SpelledFields.{when, weaker, verb_is, one_is, two_are, three_are, one_and_more_are, short_spelled, name_spelled, bytes_spelled, owner_spelled}

-- words in small letters
abbrev pub lowers : List (List ℕ) → List (List ℕ)
lowers words = map lower words

-- two lists with the same first word and the same others are the same
pub both : (a b : List ℕ) (xs ys : List (List ℕ)) → a ≡ b → xs ≡ ys → a ∷ xs ≡ b ∷ ys
both a b xs ys same all = rw (same, all) refl

-- a verb, and what is made of its words
pub verb_step : {A B : Type 0} (fields_of : B → List (List ℕ)) (printed : A → List (List ℕ)) (word verb : List ℕ) (args : List (List ℕ)) (r : Result A Why) (make : A → B)
    → lower word ≡ word → IfOk r (λ x. lowers args ≡ printed x) → ((x : A) → fields_of (make x) ≡ word ∷ printed x) → is word verb ≡ true
    → IfOk (r >>= λ x. Ok (make x)) (λ b. lower verb ∷ lowers args ≡ fields_of b)
verb_step fields_of printed word verb args r make small are made h = step (λ x. lowers args ≡ printed x) (λ b. lower verb ∷ lowers args ≡ fields_of b) r (λ x. Ok (make x)) are
    (λ x same. both (lower verb) word (lowers args) (printed x) (verb_is word verb small h) same ∙ sym (made x))

-- a verb, and the reader of its words
pub verb_all : {B : Type 0} (fields_of : B → List (List ℕ)) (word verb : List ℕ) (args : List (List ℕ)) (r : Result B Why)
    → lower word ≡ word → IfOk r (λ b. word ∷ lowers args ≡ fields_of b) → is word verb ≡ true → IfOk r (λ b. lower verb ∷ lowers args ≡ fields_of b)
verb_all fields_of word verb args (Ok b) small are h = both (lower verb) word (lowers args) (lowers args) (verb_is word verb small h) refl ∙ are
verb_all fields_of word verb args (Err why) small are h = tt

-- this word and no other
abbrev pub alone : List ℕ → List (List ℕ)
alone word = word ∷ []

name_alone_spelled : (args : List (List ℕ)) → IfOk (name_alone args) (λ name. lowers args ≡ name ∷ [])
name_alone_spelled args = step (λ a. args ≡ a ∷ []) (λ name. lowers args ≡ name ∷ []) (one args) name_of (one_is args) (λ a are.
    weaker (λ name. lower a ≡ name) (λ name. lowers args ≡ name ∷ []) (name_of a) (name_spelled a) (λ name same. ap lowers are ∙ ap alone same))

name_and_number_spelled : (args : List (List ℕ)) → IfOk (name_and_number args) (λ x. lowers args ≡ x.0 ∷ decimal x.1 ∷ [])
name_and_number_spelled args = step (λ x. args ≡ x.0 ∷ x.1 ∷ []) (λ x. lowers args ≡ x.0 ∷ decimal x.1 ∷ []) (two args) _ (two_are args) (λ x are.
    step (λ name. lower x.0 ≡ name) (λ x. lowers args ≡ x.0 ∷ decimal x.1 ∷ []) (name_of x.0) _ (name_spelled x.0) (λ name name_same.
    step (λ n. lower x.1 ≡ decimal n) (λ x. lowers args ≡ x.0 ∷ decimal x.1 ∷ []) (number_of most_u32 x.1) _ (short_spelled x.1) (λ n n_same.
    ap lowers are ∙ (rw (name_same, n_same) refl))))

-- a number that is read alone is spelled as it is printed
pub number_alone_spelled : (args : List (List ℕ)) → IfOk (number_alone args) (λ n. lowers args ≡ decimal n ∷ [])
number_alone_spelled args = step (λ a. args ≡ a ∷ []) (λ n. lowers args ≡ decimal n ∷ []) (one args) (number_of most_u32) (one_is args) (λ a are.
    weaker (λ n. lower a ≡ decimal n) (λ n. lowers args ≡ decimal n ∷ []) (number_of most_u32 a) (short_spelled a) (λ n same. ap lowers are ∙ ap alone same))

two_numbers_spelled : (args : List (List ℕ)) → IfOk (two_numbers args) (λ x. lowers args ≡ decimal x.0 ∷ decimal x.1 ∷ [])
two_numbers_spelled args = step (λ x. args ≡ x.0 ∷ x.1 ∷ []) (λ x. lowers args ≡ decimal x.0 ∷ decimal x.1 ∷ []) (two args) _ (two_are args) (λ x are.
    step (λ n. lower x.0 ≡ decimal n) (λ x. lowers args ≡ decimal x.0 ∷ decimal x.1 ∷ []) (number_of most_u32 x.0) _ (short_spelled x.0) (λ a a_same.
    step (λ n. lower x.1 ≡ decimal n) (λ x. lowers args ≡ decimal x.0 ∷ decimal x.1 ∷ []) (number_of most_u32 x.1) _ (short_spelled x.1) (λ b b_same.
    ap lowers are ∙ (rw (a_same, b_same) refl))))

read_spelled : (args : List (List ℕ)) → IfOk (read_of args) (λ c. codes "read" ∷ lowers args ≡ fields c)
read_spelled args = step (λ x. args ≡ x.0 ∷ x.1 ∷ x.2 ∷ []) (λ c. codes "read" ∷ lowers args ≡ fields c) (three args) _ (three_are args) (λ x are.
    step (λ name. lower x.0 ≡ name) (λ c. codes "read" ∷ lowers args ≡ fields c) (name_of x.0) _ (name_spelled x.0) (λ name name_same.
    step (λ n. lower x.1 ≡ decimal n) (λ c. codes "read" ∷ lowers args ≡ fields c) (number_of most_u32 x.1) _ (short_spelled x.1) (λ offset offset_same.
    step (λ n. lower x.2 ≡ decimal n) (λ c. codes "read" ∷ lowers args ≡ fields c) (number_of most_u32 x.2) _ (short_spelled x.2) (λ len len_same.
    ap (λ words. codes "read" ∷ lowers words) are ∙ (rw (name_same, offset_same, len_same) refl)))))

write_spelled : (args : List (List ℕ)) → IfOk (write_of args) (λ c. codes "write" ∷ lowers args ≡ fields c)
write_spelled args = step (λ x. args ≡ x.0 ∷ x.1 ∷ x.2 ∷ []) (λ c. codes "write" ∷ lowers args ≡ fields c) (three args) _ (three_are args) (λ x are.
    step (λ name. lower x.0 ≡ name) (λ c. codes "write" ∷ lowers args ≡ fields c) (name_of x.0) _ (name_spelled x.0) (λ name name_same.
    step (λ n. lower x.1 ≡ decimal n) (λ c. codes "write" ∷ lowers args ≡ fields c) (number_of most_u32 x.1) _ (short_spelled x.1) (λ offset offset_same.
    step (λ bytes. lower x.2 ≡ hex_text bytes) (λ c. codes "write" ∷ lowers args ≡ fields c) (bytes_of x.2) _ (bytes_spelled x.2) (λ bytes bytes_same.
    ap (λ words. codes "write" ∷ lowers words) are ∙ (rw (name_same, offset_same, bytes_same) refl)))))

-- a word that names a call, in small letters, is the call's
call_spelled_as : (word : List ℕ) → IfSome (call_named word) (λ call. lower word ≡ call_text call)
call_spelled_as word =
    let P : CallWord → Type 0 = λ call. lower word ≡ call_text call in
    if_named P (is (codes "echo") word) Echo _ (verb_is (codes "echo") word refl)
    (if_named P (is (codes "put") word) Put _ (verb_is (codes "put") word refl)
    (if_named P (is (codes "get") word) Get _ (verb_is (codes "get") word refl)
    (if_named P (is (codes "cut") word) Cut _ (verb_is (codes "cut") word refl)
    (if_named P (is (codes "clock") word) Clock None (verb_is (codes "clock") word refl) tt)))) where
      if_named : (P : CallWord → Type 0) (b : Bool) (call : CallWord) (others : Option CallWord) → (b ≡ true → P call) → IfSome others P → IfSome (cond b (Some call) others) P
      if_named P true call others p q = p refl
      if_named P false call others p q = q

-- what is made of a call that a word names
with_call_all : (P : CallWord → Type 0) (Q : Word → Type 0) (named : Option CallWord) (f : CallWord → Result Word Why) → IfSome named P → ((call : CallWord) → P call → IfOk (f call) Q) → IfOk (with_call named f) Q
with_call_all P Q None f is next = tt
with_call_all P Q (Some call) f is next = next call is

call_spelled : (args : List (List ℕ)) → IfOk (call_of args) (λ c. codes "call" ∷ lowers args ≡ fields c)
call_spelled args = step (λ x. args ≡ x.0 ∷ x.1 ∷ x.2 ∷ []) (λ c. codes "call" ∷ lowers args ≡ fields c) (three args) _ (three_are args) (λ x are.
    with_call_all (λ call. lower x.0 ≡ call_text call) (λ c. codes "call" ∷ lowers args ≡ fields c) (call_named x.0) _ (call_spelled_as x.0) (λ call call_same.
    step (λ bytes. lower x.1 ≡ hex_text bytes) (λ c. codes "call" ∷ lowers args ≡ fields c) (bytes_of x.1) _ (bytes_spelled x.1) (λ bytes bytes_same.
    step (λ n. lower x.2 ≡ decimal n) (λ c. codes "call" ∷ lowers args ≡ fields c) (number_of most_u32 x.2) _ (short_spelled x.2) (λ room room_same.
    ap (λ words. codes "call" ∷ lowers words) are ∙ (rw (call_same, bytes_same, room_same) refl)))))

move_spelled : (args : List (List ℕ)) → IfOk (move_of args) (λ c. codes "move" ∷ lowers args ≡ fields c)
move_spelled args = step (λ x. args ≡ x.0 ∷ x.1 ∷ x.2 ∷ []) (λ c. codes "move" ∷ lowers args ≡ fields c) (three args) _ (three_are args) (λ x are.
    step (λ n. lower x.0 ≡ decimal n) (λ c. codes "move" ∷ lowers args ≡ fields c) (number_of most_u32 x.0) _ (short_spelled x.0) (λ frame frame_same.
    step (λ o. lower x.1 ≡ owner_text o) (λ c. codes "move" ∷ lowers args ≡ fields c) (optional_of most_u32 x.1) _ (owner_spelled x.1) (λ from from_same.
    step (λ o. lower x.2 ≡ owner_text o) (λ c. codes "move" ∷ lowers args ≡ fields c) (optional_of most_u32 x.2) _ (owner_spelled x.2) (λ to to_same.
    tested (λ c. codes "move" ∷ lowers args ≡ fields c) (is_move from to) (Move frame from to) (λ moves.
    ap (λ words. codes "move" ∷ lowers words) are ∙ (rw (frame_same, from_same, to_same) refl))))))

-- what `swap` means is spelled so, whichever it means
swap_fields : (round : Bool) (a b : ℕ) → fields (cond round (SwapRound a b) (SwapPlaces a b)) ≡ codes "swap" ∷ decimal a ∷ decimal b ∷ []
swap_fields true a b = refl
swap_fields false a b = refl

module _ (kind : Kind) (who : Actor) (verb : List ℕ) (args : List (List ℕ)) where
  -- the words are those of the command
  abbrev AreFields : Word → Type 0
  AreFields command = lower verb ∷ lowers args ≡ fields command

  -- what a name and a number, two numbers, a number and a name print
  abbrev pair_words : List ℕ × ℕ → List (List ℕ)
  pair_words x = x.0 ∷ decimal x.1 ∷ []

  abbrev two_words : ℕ × ℕ → List (List ℕ)
  two_words x = decimal x.0 ∷ decimal x.1 ∷ []

  abbrev number_words : ℕ → List (List ℕ)
  number_words n = decimal n ∷ []

  host_command_spelled : IfOk (host_command_of kind who verb args) AreFields
  host_command_spelled =
      when AreFields (is (codes "flip") verb) _ _ (verb_step fields two_words (codes "flip") verb args (two_numbers args) (λ x. Flip x.0 x.1) refl (two_numbers_spelled args) (λ x. refl))
      (when AreFields (is (codes "swap") verb) _ _ (verb_step fields two_words (codes "swap") verb args (two_numbers args) (λ x. swap_word kind who x.0 x.1) refl (two_numbers_spelled args) (λ x. swap_fields (means_round kind who) x.0 x.1))
      (when AreFields (is (codes "keep") verb) _ _ (verb_step fields number_words (codes "keep") verb args (number_alone args) (λ n. Keep n) refl (number_alone_spelled args) (λ n. refl))
      (when AreFields (is (codes "restore") verb) _ (Err Form) (verb_step fields number_words (codes "restore") verb args (number_alone args) (λ n. Restore n) refl (number_alone_spelled args) (λ n. refl)) tt)))

  frame_command_spelled : IfOk (frame_command_of kind who verb args) AreFields
  frame_command_spelled =
      when AreFields (is (codes "tie") verb) _ _ (verb_step fields pair_words (codes "tie") verb args (name_and_number args) (λ x. Tie x.0 x.1) refl (name_and_number_spelled args) (λ x. refl))
      (when AreFields (is (codes "untie") verb) _ _ (verb_step fields pair_words (codes "untie") verb args (name_and_number args) (λ x. Untie x.0 x.1) refl (name_and_number_spelled args) (λ x. refl))
      (when AreFields (is (codes "fill") verb) _ _ (verb_step fields two_words (codes "fill") verb args (two_numbers args) (λ x. Fill x.0 x.1) refl (two_numbers_spelled args) (λ x. refl))
      (when AreFields (is (codes "evict") verb) _ _ (verb_step fields two_words (codes "evict") verb args (two_numbers args) (λ x. Evict x.0 x.1) refl (two_numbers_spelled args) (λ x. refl))
      (when AreFields (is (codes "move") verb) (move_of args) _ (verb_all fields (codes "move") verb args (move_of args) refl (move_spelled args))
      (when AreFields (is (codes "balloon") verb) _ (host_command_of kind who verb args) (verb_step fields two_words (codes "balloon") verb args (two_numbers args) (λ x. SetShare x.0 x.1) refl (two_numbers_spelled args) (λ x. refl)) host_command_spelled)))))

  pub command_of_spelled : IfOk (command_of kind who verb args) AreFields
  command_of_spelled =
      when AreFields (is (codes "alloc") verb) _ _ (verb_step fields pair_words (codes "alloc") verb args (name_and_number args) (λ x. Alloc x.0 x.1) refl (name_and_number_spelled args) (λ x. refl))
      (when AreFields (is (codes "free") verb) _ _ (verb_step fields alone (codes "free") verb args (name_alone args) (λ name. Free name) refl (name_alone_spelled args) (λ name. refl))
      (when AreFields (is (codes "share") verb) _ _ (verb_step fields alone (codes "share") verb args (name_alone args) (λ name. Share name) refl (name_alone_spelled args) (λ name. refl))
      (when AreFields (is (codes "read") verb) (read_of args) _ (verb_all fields (codes "read") verb args (read_of args) refl (read_spelled args))
      (when AreFields (is (codes "write") verb) (write_of args) _ (verb_all fields (codes "write") verb args (write_of args) refl (write_spelled args))
      (when AreFields (is (codes "call") verb) (call_of args) (frame_command_of kind who verb args) (verb_all fields (codes "call") verb args (call_of args) refl (call_spelled args)) frame_command_spelled)))))

-- the words that are read as a command are those that it is printed with, but for capitals
pub command_spelled : (kind : Kind) (who : Actor) (words : List (List ℕ)) → IfOk (command_in kind who words) (λ c. lowers words ≡ fields c)
command_spelled kind who words = step (λ c. lowers words ≡ fields c) (λ c. lowers words ≡ fields c) (with_one_and_more (command_of kind who) words) (λ c. formed (is_command kind who c) c)
    (step (λ x. words ≡ x.0 ∷ x.1) (λ c. lowers words ≡ fields c) (one_and_more words) (λ x. command_of kind who x.0 x.1) (one_and_more_are words) (λ x are.
    weaker (λ c. lower x.0 ∷ lowers x.1 ≡ fields c) (λ c. lowers words ≡ fields c) (command_of kind who x.0 x.1) (command_of_spelled kind who x.0 x.1) (λ c same. ap lowers are ∙ same)))
    (λ c same. tested (λ c. lowers words ≡ fields c) (is_command kind who c) c (λ h. same))
