-- What a call makes of an enclave's memory.
use Rattle.std.proofs.Common.{◌≡◌, ◌≢◌, ℕ, ◌+◌, ◌*◌, ◌/◌, ◌%◌, ◌<◌, ◌==◌, ◌||◌, List, [], length, filter, map, Bool, true, false, not, Option, Some, None, unwrap_or, slice_index_or, slice_set, if◌then◌else◌, refl, sym, ◌∙◌, ap, subst, arith}
use Rattle.std.specs.List.{find, splice}
use Rattle.std.proofs.lemmas.Bool.Decides.{nat_tests}
use Rattle.eleos_base.specs.declared.memory.Addr.{Addr}
use Rattle.eleos_base.specs.declared.memory.Live.{Live}
use Rattle.eleos_base.specs.declared.memory.Op.{Op}
use Rattle.eleos_base.specs.declared.memory.Op.TheVariants.{Alloc, Free, Share, Read, Write}
use Rattle.eleos_base.specs.declared.memory.Reply.{Reply}
use Rattle.eleos_base.specs.declared.memory.Reply.TheVariants.{Got, Done, Text, BadSize, NoSpace, NotYours}
use Rattle.eleos_base.specs.Lists.{map_from}
use Rattle.eleos_base.specs.Plain.{EnclaveMemory, access_refusal, alloc_answer, answer, block_refusal, blocks_after, bytes_of, covers, is_accepted, is_good_size, is_in, is_in_run, lowest_run, memory_after, shared_at, starts_at, subs_for, text_after, with_block, writes, zeros}
use Rattle.eleos_core.proofs.ByPlace.{map_from-set_one}
use Rattle.eleos_core.proofs.Changes.{map_from-keeps}
use Rattle.eleos_core.proofs.Replies.{IsRefusal, refuses}
use Rattle.eleos_plain.specs.Enclaves.{Gives}

-- what a clear leaves of the texts
abbrev pub cleared : ℕ → ℕ → List (List ℕ) → List (List ℕ)
cleared start len texts = map_from (λ s text. if is_in_run start len s then zeros 1024 else text) 0 texts

module _ (enclave who : ℕ) where
  -- a call that covers no sub-page and writes none keeps the texts
  texts_kept : (blocks : List Live) (op : Op) (reply : Reply) (texts : List (List ℕ)) → ((s : ℕ) → covers 1024 enclave blocks op reply s ≡ false) → ((s : ℕ) → writes 1024 enclave op reply s ≡ false)
      → texts ≡ map_from (text_after 1024 enclave blocks op reply) 0 texts
  texts_kept blocks op reply texts uncovered unwritten = sym (map_from-keeps (text_after 1024 enclave blocks op reply) 0 texts (λ s text from. rw (uncovered s, unwritten s) refl))

  blocks_refused : (op : Op) (reply : Reply) (blocks : List Live) → is_accepted reply ≡ false → blocks ≡ blocks_after 1024 enclave who op reply blocks
  blocks_refused (Alloc n) reply blocks refused = rw refused refl
  blocks_refused (Free at) reply blocks refused = rw refused refl
  blocks_refused (Share at) reply blocks refused = rw refused refl
  blocks_refused (Read at n) reply blocks refused = refl
  blocks_refused (Write at bytes) reply blocks refused = refl

  covers_refused : (op : Op) (reply : Reply) (blocks : List Live) → is_accepted reply ≡ false → (s : ℕ) → covers 1024 enclave blocks op reply s ≡ false
  covers_refused (Alloc n) reply blocks refused s = rw refused refl
  covers_refused (Free at) reply blocks refused s = rw refused refl
  covers_refused (Share at) reply blocks refused s = refl
  covers_refused (Read at n) reply blocks refused s = refl
  covers_refused (Write at bytes) reply blocks refused s = refl

  writes_refused : (op : Op) (reply : Reply) → is_accepted reply ≡ false → (s : ℕ) → writes 1024 enclave op reply s ≡ false
  writes_refused (Alloc n) reply refused s = refl
  writes_refused (Free at) reply refused s = refl
  writes_refused (Share at) reply refused s = refl
  writes_refused (Read at n) reply refused s = refl
  writes_refused (Write at bytes) reply refused s = rw refused refl

  -- a refusal changes nothing
  pub refused : (op : Op) (reply : Reply) (m : EnclaveMemory) → is_accepted reply ≡ false → reply ≡ answer 1024 enclave m who op → Gives enclave who op m reply m
  refused op reply m unserved is = record {
    reply_is = is;
    after = let bs = blocks_refused op reply m.blocks unserved in let ts = texts_kept m.blocks op reply m.texts (covers_refused op reply m.blocks unserved) (writes_refused op reply unserved) in λ t. record { blocks = bs t; texts = ts t };
  }

  -- an alloc of a bad size
  pub bad_size : (bytes : ℕ) (m : EnclaveMemory) → is_good_size bytes ≡ false → Gives enclave who (Alloc bytes) m BadSize m
  bad_size bytes m bad = refused (Alloc bytes) BadSize m refl (rw bad refl)

  -- one that finds no room
  pub no_space : (bytes : ℕ) (m : EnclaveMemory) → is_good_size bytes ≡ true → lowest_run m.blocks (length m.texts) (subs_for 1024 bytes) ≡ None → Gives enclave who (Alloc bytes) m NoSpace m
  no_space bytes m good none = refused (Alloc bytes) NoSpace m refl (rw (good, none) refl)

  -- and one that is served
  pub allocated : (bytes start : ℕ) (old new : EnclaveMemory) → is_good_size bytes ≡ true → lowest_run old.blocks (length old.texts) (subs_for 1024 bytes) ≡ Some start
      → new.blocks ≡ with_block (record { start = start; len = subs_for 1024 bytes; owner = who; is_shared = false }) old.blocks → new.texts ≡ cleared start (subs_for 1024 bytes) old.texts
      → Gives enclave who (Alloc bytes) old (Got (record { enclave = enclave; at = start * 1024 })) new
  allocated bytes start old new good found blocks texts =
      let at_is : start * 1024 ≡ 1024 * start = omega arith in
      let start_is : start ≡ start * 1024 / 1024 = omega arith in
      let bs = blocks ∙ ap (λ (n : ℕ). with_block (record { start = n; len = subs_for 1024 bytes; owner = who; is_shared = false }) old.blocks) start_is in
      let ts = texts ∙ ap (λ (n : ℕ). cleared n (subs_for 1024 bytes) old.texts) start_is in
      record {
        reply_is = ap (λ (n : ℕ). Got (record { enclave = enclave; at = n })) at_is ∙ rw (good, found) refl;
        after = λ t. record { blocks = bs t; texts = ts t };
      }

  -- why a block is neither freed nor shared is no accepted reply
  block_refuses : (o : Option Live) (reply : Reply) → block_refusal who o ≡ Some reply → is_accepted reply ≡ false
  block_refuses o reply is = subst IsRefusal is (at o) where
    at : (o : Option Live) → IsRefusal (block_refusal who o)
    at None = refl
    at (Some block) = by (block.owner == who) where
      by : (b : Bool) → IsRefusal (if b then None else Some (NotYours block.owner))
      by true = tt
      by false = refl

  pub not_freed : (at : Addr) (reply : Reply) (m : EnclaveMemory) → Some reply ≡ block_refusal who (find (starts_at 1024 enclave at) m.blocks) → Gives enclave who (Free at) m reply m
  not_freed at reply m is = refused (Free at) reply m (block_refuses (find (starts_at 1024 enclave at) m.blocks) reply (sym is)) (ap (λ o. unwrap_or o Done) is)

  pub not_shared : (at : Addr) (reply : Reply) (m : EnclaveMemory) → Some reply ≡ block_refusal who (find (starts_at 1024 enclave at) m.blocks) → Gives enclave who (Share at) m reply m
  not_shared at reply m is = refused (Share at) reply m (block_refuses (find (starts_at 1024 enclave at) m.blocks) reply (sym is)) (ap (λ o. unwrap_or o Done) is)

  pub freed : (at : Addr) (block : Live) (old new : EnclaveMemory) → None ≡ block_refusal who (find (starts_at 1024 enclave at) old.blocks) → find (starts_at 1024 enclave at) old.blocks ≡ Some block
      → new.blocks ≡ filter (λ b. not (starts_at 1024 enclave at b)) old.blocks → new.texts ≡ cleared block.start block.len old.texts → Gives enclave who (Free at) old Done new
  freed at block old new own found blocks texts =
      let ts : new.texts ≡ map_from (text_after 1024 enclave old.blocks (Free at) Done) 0 old.texts = texts ∙ ap (λ (o : Option Live). map_from (λ s text. if is_in s o then zeros 1024 else text) 0 old.texts) (sym found) in
      record { reply_is = ap (λ o. unwrap_or o Done) own; after = λ t. record { blocks = blocks t; texts = ts t } }

  pub shared : (at : Addr) (old new : EnclaveMemory) → None ≡ block_refusal who (find (starts_at 1024 enclave at) old.blocks) → new.blocks ≡ map (shared_at 1024 enclave at) old.blocks → new.texts ≡ old.texts → Gives enclave who (Share at) old Done new
  shared at old new own blocks texts =
      let ts = texts ∙ texts_kept old.blocks (Share at) Done old.texts (λ s. refl) (λ s. refl) in
      record { reply_is = ap (λ o. unwrap_or o Done) own; after = λ t. record { blocks = blocks t; texts = ts t } }

  access_refuses : (m : EnclaveMemory) (at : Addr) (n : ℕ) (reply : Reply) → access_refusal 1024 enclave m.blocks (length m.texts) who at n ≡ Some reply → is_accepted reply ≡ false
  access_refuses m at n reply is = subst IsRefusal is (refuses 1024 enclave m.blocks (length m.texts) who at n)

  pub not_read : (at : Addr) (n : ℕ) (reply : Reply) (m : EnclaveMemory) → Some reply ≡ access_refusal 1024 enclave m.blocks (length m.texts) who at n → Gives enclave who (Read at n) m reply m
  not_read at n reply m is =
      refused (Read at n) reply m (access_refuses m at n reply (sym is)) (ap (λ o. unwrap_or o (Text (bytes_of 1024 enclave at.at n (slice_index_or m.texts (at.at / 1024) [])))) is)

  pub read_is : (at : Addr) (n : ℕ) (bytes : List ℕ) (m : EnclaveMemory) → None ≡ access_refusal 1024 enclave m.blocks (length m.texts) who at n → bytes ≡ bytes_of 1024 enclave at.at n (slice_index_or m.texts (at.at / 1024) [])
      → Gives enclave who (Read at n) m (Text bytes) m
  read_is at n bytes m own is =
      let ts = texts_kept m.blocks (Read at n) (Text bytes) m.texts (λ s. refl) (λ s. refl) in
      record {
        reply_is = ap (λ (bs : List ℕ). Text bs) is ∙ ap (λ o. unwrap_or o (Text (bytes_of 1024 enclave at.at n (slice_index_or m.texts (at.at / 1024) [])))) own;
        after = λ t. record { blocks = m.blocks; texts = ts t };
      }

  pub not_written : (at : Addr) (bytes : List ℕ) (reply : Reply) (m : EnclaveMemory) → Some reply ≡ access_refusal 1024 enclave m.blocks (length m.texts) who at (length bytes) → Gives enclave who (Write at bytes) m reply m
  not_written at bytes reply m is = refused (Write at bytes) reply m (access_refuses m at (length bytes) reply (sym is)) (ap (λ o. unwrap_or o Done) is)

  -- one sub-page's text is written, and the others stay
  texts_written : (at : Addr) (bytes : List ℕ) (blocks : List Live) (texts : List (List ℕ)) (text : List ℕ) → text ≡ splice (slice_index_or texts (at.at / 1024) []) (at.at % 1024) (at.at % 1024 + length bytes) bytes
      → slice_set texts (at.at / 1024) text ≡ map_from (text_after 1024 enclave blocks (Write at bytes) Done) 0 texts
  texts_written at bytes blocks texts text is =
      ap (λ ts. slice_set ts (at.at / 1024) text) (sym (map_from-keeps (λ (s : ℕ) (x : List ℕ). x) 0 texts (λ s x from. refl)))
      ∙ map_from-set_one (λ (s : ℕ) (x : List ℕ). x) (text_after 1024 enclave blocks (Write at bytes) Done) 0 (at.at / 1024) texts [] text
      (λ j within differ. let other : (at.at / 1024 == 0 + j) ≡ false = differs (at.at / 1024) (0 + j) (λ same. differ (omega arith)) in rw other refl)
      (λ within. let own : (at.at / 1024 == 0 + at.at / 1024) ≡ true = same (at.at / 1024) (0 + at.at / 1024) (omega arith) in rw own is) where
        differs : (a b : ℕ) → (b ≡ a → ⊥) → (a == b) ≡ false
        differs a b ne = grind (arith, nat_tests)

        same : (a b : ℕ) → a ≡ b → (a == b) ≡ true
        same a b eq = grind (arith, nat_tests)

  pub written : (at : Addr) (bytes : List ℕ) (old new : EnclaveMemory) → None ≡ access_refusal 1024 enclave old.blocks (length old.texts) who at (length bytes) → new.blocks ≡ old.blocks
      → new.texts ≡ slice_set old.texts (at.at / 1024) (splice (slice_index_or old.texts (at.at / 1024) []) (at.at % 1024) (at.at % 1024 + length bytes) bytes) → Gives enclave who (Write at bytes) old Done new
  written at bytes old new own blocks texts =
      let ts = texts ∙ texts_written at bytes old.blocks old.texts (splice (slice_index_or old.texts (at.at / 1024) []) (at.at % 1024) (at.at % 1024 + length bytes) bytes) refl in
      record { reply_is = ap (λ o. unwrap_or o Done) own; after = λ t. record { blocks = blocks t; texts = ts t } }
