-- The machine seen as plain memory, and what a call makes of it.
use Rattle.std.proofs.Common.{◌≡◌, ◌≢◌, ℕ, ◌+◌, ◌-◌, ◌<◌, ◌==◌, ◌&&◌, List, [], ◌∷◌, length, map, replicate, get_or, true, false, Option, Some, None, if◌then◌else◌, refl, sym, ◌∙◌, subst, ap, arith}
use Rattle.std.specs.List.{fold, filter, range_with_len}
use Rattle.std.proofs.lemmas.List.FromFn.{length-map-range_with_len, get_or-map-range_with_len}
use Rattle.eleos_base.specs.declared.memory.Op.{Op as Calls}
use Rattle.eleos_base.specs.declared.memory.Reply.{Reply}
use Rattle.eleos_base.specs.declared.plan.Plan.{Plan}
use Rattle.eleos_base.specs.declared.plan.BlockPlan.{BlockPlan}
use Rattle.eleos_base.specs.declared.plan.EnclavePlan.{EnclavePlan}
use Rattle.eleos_base.specs.Plain as plain
use Rattle.eleos_base.specs.Plain.{EnclaveMemory, Plain, lowest_run, subs_for, blank, opened_at, with_header_block, opening_of, opening, memory_of, memory_after, text_after, plain_after}
use Rattle.eleos_base.specs.Plans.{enclave_of, sub_bytes, subs_in}
use Rattle.eleos_core.specs.declared.event.Event.TheVariants.{Op}
use Rattle.eleos_core.specs.Seals.{Seals}
use Rattle.eleos_base.specs.Places.{subs, first_sub, is_sub_of, blank_bytes}
use Rattle.eleos_core.specs.State.{History, live, live_by, covers, writes, rewritten}
use Rattle.eleos_core.proofs.Ranges.{range-same, range-set, range-from, from-range, get_or-map_from, replicate-range}
use Rattle.eleos_core.proofs.Addresses.{blank-is, sub-inside, sub-local, sub-outside, subs-is}
use Rattle.eleos_core.proofs.Passed.{here, apart}
use Rattle.eleos_core.proofs.Contents.{text, text_by}

module _ (k : Plan) (x : Seals) where
  -- the text of an enclave's sub-page, by its place in the enclave
  abbrev pub text_in : History → ℕ → ℕ → List ℕ
  text_in past e i = text k x past (first_sub k e + i)

  -- an enclave's memory
  abbrev pub enclave_memory : History → ℕ → EnclaveMemory
  enclave_memory past e = record { blocks = live k past e; texts = map (text_in past e) (range_with_len 0 (subs k e)) }

  -- the machine's memory
  abbrev pub as_plain : History → Plain
  as_plain past = map (enclave_memory past) (range_with_len 0 (length k.enclaves))

  -- the memory that it has for an enclave is that enclave's
  pub memory-is : (past : History) (e : ℕ) → e < length k.enclaves → memory_of (as_plain past) e ≡ enclave_memory past e
  memory-is past e within = get_or-map-range_with_len (enclave_memory past) 0 (length k.enclaves) e e (record { blocks = []; texts = [] }) within (omega arith)

  -- an enclave's memory has as many texts as the enclave has sub-pages
  pub length-texts : (past : History) (e : ℕ) → length (enclave_memory past e).texts ≡ subs k e
  length-texts past e = length-map-range_with_len (text_in past e) 0 (subs k e)

  -- and in each place the text of the sub-page there
  pub texts-at : (past : History) (e i : ℕ) → i < subs k e → get_or (enclave_memory past e).texts i [] ≡ text_in past e i
  texts-at past e i within = get_or-map-range_with_len (text_in past e) 0 (subs k e) i i [] within (omega arith)

  -- entries that change no block and no text leave the memory
  pub memory-same : (past new : History) → ((e : ℕ) → live k past e ≡ live k new e) → ((s : ℕ) → text k x past s ≡ text k x new s) → as_plain past ≡ as_plain new
  memory-same past new blocks texts t = map (λ e. record { blocks = blocks e t; texts = map (λ i. texts (first_sub k e + i) t) (range_with_len 0 (subs k e)) }) (range_with_len 0 (length k.enclaves))

  -- what new entries have to do, to be a call's
  module _ (past new : History) (who : ℕ) (op : Calls) (reply : Reply)
      (blocks-are : (j : ℕ) → live k new j ≡ live_by k j who (Op op) reply (live k past j)) (texts-are : (s : ℕ) → text k x new s ≡ text_by k x who op reply past s) where
    abbrev home : ℕ
    home = enclave_of k who

    -- the texts of the caller's enclave
    pub text_own : (i : ℕ) → i < subs k home → text_after (sub_bytes k home) home (live k past home) op reply i (text_in past home i) ≡ text_in new home i
    text_own i within =
        let s : ℕ = first_sub k home + i in
        let inside : is_sub_of k home s ≡ true = sub-inside k home i within in
        let local : s - first_sub k home ≡ i = sub-local k home i in
        let covers-is : covers k who (Op op) reply past s ≡ plain.covers (sub_bytes k home) home (live k past home) op reply i =
        λ t. inside t && plain.covers (sub_bytes k home) home (live k past home) op reply (local t) in
        let writes-is : writes k who (Op op) reply s ≡ plain.writes (sub_bytes k home) home op reply i = λ t. inside t && plain.writes (sub_bytes k home) home op reply (local t) in
        sym (texts-are s ∙ (λ t. if covers-is t then sym (blank-is k home) t else if writes-is t then plain.rewritten (sub_bytes k home) home op (text k x past s) else text k x past s))

    -- and those of another
    pub text_other : (j i : ℕ) → j ≢ home → i < subs k j → text_in past j i ≡ text_in new j i
    text_other j i other within =
        let s : ℕ = first_sub k j + i in
        let outside : is_sub_of k home s ≡ false = sub-outside k home j i other within in
        let covers-is : covers k who (Op op) reply past s ≡ false = λ t. outside t && plain.covers (sub_bytes k home) home (live k past home) op reply (s - first_sub k home) in
        let writes-is : writes k who (Op op) reply s ≡ false = λ t. outside t && plain.writes (sub_bytes k home) home op reply (s - first_sub k home) in
        sym (texts-are s ∙ (λ t. if covers-is t then blank_bytes k else if writes-is t then rewritten k who (Op op) (text k x past s) else text k x past s))

    own-after : memory_after (sub_bytes k home) home who op reply (enclave_memory past home) ≡ enclave_memory new home
    own-after =
        let blocks-is = sym (blocks-are home ∙ here home home (plain.blocks_after (sub_bytes k home) home who op reply (live k past home)) (live k past home) refl) in
        let texts-is = range-from (text_after (sub_bytes k home) home (live k past home) op reply) (text_in past home) 0 (subs k home)
        ∙ range-same (λ i. text_after (sub_bytes k home) home (live k past home) op reply i (text_in past home i)) (text_in new home) 0 (subs k home) (λ i low high. text_own i (omega arith)) in
        λ t. record { blocks = blocks-is t; texts = texts-is t }

    other-after : (j : ℕ) → j ≢ home → enclave_memory past j ≡ enclave_memory new j
    other-after j other =
        let blocks-is = sym (blocks-are j ∙ apart j home (plain.blocks_after (sub_bytes k j) j who op reply (live k past j)) (live k past j) other) in
        let texts-is = range-same (text_in past j) (text_in new j) 0 (subs k j) (λ i low high. text_other j i other (omega arith)) in
        λ t. record { blocks = blocks-is t; texts = texts-is t }

    -- the memory after the call
    pub memory-after : home < length k.enclaves → plain_after k who op reply (as_plain past) ≡ as_plain new
    memory-after within =
        range-set (enclave_memory past) (enclave_memory new) 0 (length k.enclaves) home home (memory_after (sub_bytes k home) home who op reply (memory_of (as_plain past) home)) (omega arith)
        (ap (memory_after (sub_bytes k home) home who op reply) (memory-is past home within) ∙ own-after) (λ j low high other. other-after j other)

  -- header blocks leave the texts
  header-texts : (size : ℕ) (blocks : List BlockPlan) (m : EnclaveMemory) → (fold (with_header_block size) m blocks).texts ≡ m.texts
  header-texts size [] m = refl
  header-texts size (block ∷ blocks) m = header-texts size blocks (with_header_block size m block) ∙ opened-texts (lowest_run m.blocks (length m.texts) (subs_for size block.bytes))
    where
      opened-texts : (start : Option ℕ) → (opened_at size block m start).texts ≡ m.texts
      opened-texts None = refl
      opened-texts (Some start) = refl

  -- before the first event
  no_enclave : EnclavePlan
  no_enclave = record { pages = 0; frames = 0 }

  opened-is : (e : ℕ) → e < length k.enclaves → opening_of k e (get_or k.enclaves e no_enclave) ≡ enclave_memory [] e
  opened-is e within =
      let made = get_or k.enclaves e no_enclave in
      let size = sub_bytes k e in
      let memory-is : memory_of (opening k) e ≡ opening_of k e made = get_or-map_from (opening_of k) 0 e e k.enclaves no_enclave (record { blocks = []; texts = [] }) within (omega arith) in
      let blocks-is : (opening_of k e made).blocks ≡ live k [] e = sym (ap (λ (m : EnclaveMemory). m.blocks) memory-is) in
      let texts-is : (opening_of k e made).texts ≡ (enclave_memory [] e).texts =
      header-texts size (filter (λ block. block.enclave == e) k.blocks) (blank size (subs_in k e made.pages))
      ∙ (λ t. replicate (subs-is k e no_enclave within t) (blank-is k e t)) ∙ replicate-range (blank_bytes k) 0 (subs k e) in
      λ t. record { blocks = blocks-is t; texts = texts-is t }

  -- the memory that the plan opens with is the machine's before its first event
  pub opening-is : opening k ≡ as_plain []
  opening-is = from-range (opening_of k) (enclave_memory []) 0 k.enclaves no_enclave
      (λ i j within at. subst (λ (p : ℕ). opening_of k p (get_or k.enclaves i no_enclave) ≡ enclave_memory [] p) (let same : i ≡ j = omega arith in same) (opened-is i within))
