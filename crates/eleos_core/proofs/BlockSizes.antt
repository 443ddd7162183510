-- In a sound history every block that passed is as long as a sub-page, and so is every text.
use Rattle.std.proofs.Common.{◌≡◌, ℕ, ◌+◌, ◌-◌, ◌/◌, ◌%◌, ◌≤◌, ◌==◌, ◌&&◌, ◌||◌, List, [], ◌∷◌, length, filter, Bool, true, false, not, if◌then◌else◌, refl, ◌∙◌, ap, arith, ⊎_elim, length-append, length-drop, length-take}
use Rattle.std.specs.List.{AllByRecursion, splice}
use Rattle.std.proofs.lemmas.Bool.Decides.{nat_tests}
use Rattle.std.proofs.lemmas.List.{length-replicate}
use Rattle.eleos_base.specs.declared.memory.Addr.{Addr}
use Rattle.eleos_base.specs.declared.memory.Op.{Op as Calls}
use Rattle.eleos_base.specs.declared.memory.Op.TheVariants.{Alloc, Free, Share, Read, Write}
use Rattle.eleos_base.specs.declared.memory.Reply.{Reply}
use Rattle.eleos_base.specs.declared.plan.Plan.{Plan}
use Rattle.eleos_base.specs.Places.{blank_bytes, first_sub, is_sub_of, page_of, sub_of, subs, subs_of}
use Rattle.eleos_base.specs.Plain.{is_accepted, is_in_range, zeros}
use Rattle.eleos_base.specs.Plans.{enclave_of}
use Rattle.eleos_base.proofs.GctrLemmas.{length-ciphertext_of}
use Rattle.eleos_core.specs.declared.event.Entry.{Entry}
use Rattle.eleos_core.specs.declared.event.Event.{Event}
use Rattle.eleos_core.specs.declared.event.Event.TheVariants.{Op, Fill, Evict, Spoiled}
use Rattle.eleos_core.specs.Laws.{BlocksFit, HaveSize, OfEveryRun, PassedBlocksFit}
use Rattle.eleos_core.specs.Legal.{AreTrue, CallStep, CoreRun, CoreStep, Sound, access_refusal, is_worn, passes, verdict}
use Rattle.eleos_core.specs.Seals.{Seals, nonce_of, seals_by}
use Rattle.eleos_core.specs.State.{History, address_of, block_for, bytes, covers, entry, evicts, fills, is_dirty, is_present, is_sealed, last, opened, places, rewritten, version, writes}
use Rattle.eleos_core.proofs.Contents.{fill_block, in_range, text, write_block}
use Rattle.eleos_core.proofs.Replies.{access_refuses, write_accepted}
use Rattle.eleos_core.proofs.Seals.{seals-open}
use Rattle.eleos_core.proofs.Tests.{by_test, either_of, first_of, not_true, second_of}

-- which of three has so many bytes
of_three : (c w : Bool) (n : ℕ) (z r t : List ℕ) → length z ≡ n → (w ≡ true → length r ≡ n) → length t ≡ n → length (if c then z else if w then r else t) ≡ n
of_three true w n z r t z_is r_is t_is = z_is
of_three false true n z r t z_is r_is t_is = r_is refl
of_three false false n z r t z_is r_is t_is = t_is

-- a sealed sub-page was sealed by this entry, or before
sealed_size : (c g sealed : Bool) (n : ℕ) (new old : List ℕ) → (if c then false else if g then true else sealed) ≡ true → (g ≡ true → length new ≡ n) → (sealed ≡ true → length old ≡ n)
    → length (if g then new else old) ≡ n
sealed_size true g sealed n new old is new_is old_is = cc
sealed_size false true sealed n new old is new_is old_is = new_is refl
sealed_size false false sealed n new old is new_is old_is = old_is is

-- a text with other bytes within it is as long as before
pub length-splice : (text new : List ℕ) (from : ℕ) → from + length new ≤ length text → length (splice text from (from + length new) new) ≡ length text
length-splice text new from within = simp (length-append, length-take, length-drop) (omega arith)

all_passing : (p : ℕ → Bool) (xs : List ℕ) → AllByRecursion (λ s. p s ≡ true) (filter p xs)
all_passing p [] = tt
all_passing p (s ∷ xs) = by_test (p s) (λ v. p s ≡ v → AllByRecursion (λ q. p q ≡ true) (if v then s ∷ filter p xs else filter p xs)) (λ _ is. (is, all_passing p xs)) (λ _ _. all_passing p xs) refl

module _ (k : Plan) (key : List ℕ) where
  -- sealing under the key
  abbrev pub seals : Seals
  seals = seals_by key

  -- the bytes of each sub-page, and each block last sealed, are as long as a sub-page
  pub record AreSized (past : History) : Type 0 where
    pub bytes_size : (s : ℕ) → length (bytes k seals past s) ≡ 1024
    pub last_size : (s : ℕ) → is_sealed k past s ≡ true → length (last k seals past s) ≡ 1024

  blank_size : length (blank_bytes k) ≡ 1024
  unfolding zeros
  blank_size = length-replicate {A = ℕ} 1024 0

  -- what opens from the block last sealed
  opened_size : (past : History) (e : Entry) (s : ℕ) → AreSized past → (is_sealed k past s ≡ true → block_for (places k e.event past) e.blocks s ≡ last k seals past s) → length (opened k seals e past s) ≡ 1024
  opened_size past e s sized block_is = by_test (is_sealed k past s)
      (λ v. is_sealed k past s ≡ v → length (if v then seals.unseal s (version k past s) (block_for (places k e.event past) e.blocks s) else blank_bytes k) ≡ 1024)
      (λ _ is. length-ciphertext_of key (nonce_of s (version k past s)) (block_for (places k e.event past) e.blocks s) ∙ (ap length (block_is is) ∙ sized.last_size s is))
      (λ _ _. blank_size) refl

  -- a write leaves the length of a text
  rewritten_size : (past : History) (who : ℕ) (op : Calls) (blocks : List (List ℕ)) (reply : Reply) (s : ℕ) → CallStep k seals past (entry who (Op op) blocks reply) op → writes k who (Op op) reply s ≡ true
      → (t : List ℕ) → length t ≡ 1024 → length (rewritten k who (Op op) t) ≡ 1024
  rewritten_size past who (Alloc n) blocks reply s step w t size = let no : false ≡ true = second_of (is_sub_of k (enclave_of k who) s) false w in cc
  rewritten_size past who (Free at) blocks reply s step w t size = let no : false ≡ true = second_of (is_sub_of k (enclave_of k who) s) false w in cc
  rewritten_size past who (Share at) blocks reply s step w t size = let no : false ≡ true = second_of (is_sub_of k (enclave_of k who) s) false w in cc
  rewritten_size past who (Read at n) blocks reply s step w t size = let no : false ≡ true = second_of (is_sub_of k (enclave_of k who) s) false w in cc
  rewritten_size past who (Write at new) blocks reply s step w t size =
      let home = enclave_of k who in
      let local = at.at / 1024 == s - first_sub k home in
      let accepted : is_accepted reply ≡ true = first_of (is_accepted reply) local (second_of (is_sub_of k home s) (is_accepted reply && local) w) in
      let h = write_accepted (access_refusal k past who at (length new)) (is_worn k past (sub_of k at)) (verdict k seals past (Op (Write at new)) blocks) (sub_of k at) (entry who (Op (Write at new)) blocks reply)
      (access_refuses k past who at (length new)) step accepted in
      let inside : is_in_range 1024 home (subs k home) at (length new) ≡ true = in_range k past who (length new) at h.0 in
      let fits : at.at % 1024 + length new ≤ 1024 = within home (subs k home) (length new) at inside in
      length-splice t new (at.at % 1024) (omega arith) ∙ size
    where
      within : (e n m : ℕ) (to : Addr) → is_in_range 1024 e n to m ≡ true → to.at % 1024 + m ≤ 1024
      within e n m to inside = grind (arith, nat_tests)

  sized_step : (past : History) (who : ℕ) (event : Event) (blocks : List (List ℕ)) (reply : Reply) → CoreStep k seals past (entry who event blocks reply) → AreTrue k seals past (places k event past) blocks
      → AreSized past → AreSized (entry who event blocks reply ∷ past)
  sized_step past who (Op op) blocks reply step true_is sized =
      let e : Entry = entry who (Op op) blocks reply in
      record {
        bytes_size = λ s. of_three (covers k who (Op op) reply past s) (writes k who (Op op) reply s && is_present k past s) 1024 (blank_bytes k) (rewritten k who (Op op) (bytes k seals past s)) (bytes k seals past s)
            blank_size (λ is. rewritten_size past who op blocks reply s step.step (first_of (writes k who (Op op) reply s) (is_present k past s) is) (bytes k seals past s) (sized.bytes_size s)) (sized.bytes_size s);
        last_size = λ s is. sealed_size (covers k who (Op op) reply past s) (writes k who (Op op) reply s && not (is_present k past s)) (is_sealed k past s) 1024
            (seals.seal s (version k past s + 1) (rewritten k who (Op op) (opened k seals e past s))) (last k seals past s) is
            (λ both. let w = first_of (writes k who (Op op) reply s) (not (is_present k past s)) both in
            let absent = not_true (is_present k past s) (second_of (writes k who (Op op) reply s) (not (is_present k past s)) both) in
            length-ciphertext_of key (nonce_of s (version k past s + 1)) (rewritten k who (Op op) (opened k seals e past s))
            ∙ rewritten_size past who op blocks reply s step.step w (opened k seals e past s)
            (opened_size past e s sized (λ sealed. write_block k seals past e op s step.step true_is refl w absent sealed)))
            (sized.last_size s);
      }
  sized_step past who (Fill p f) blocks reply step true_is sized =
      let e : Entry = entry who (Fill p f) blocks reply in
      record {
        bytes_size = λ s. of_three false (fills k (Fill p f) reply s) 1024 (blank_bytes k) (opened k seals e past s) (bytes k seals past s) blank_size
            (λ filled. opened_size past e s sized (λ sealed. fill_block k seals (seals-open key) past who p f blocks reply step.step true_is s filled sealed)) (sized.bytes_size s);
        last_size = sized.last_size;
      }
  sized_step past who (Evict p f) blocks reply step true_is sized =
      let e : Entry = entry who (Evict p f) blocks reply in
      record {
        bytes_size = sized.bytes_size;
        last_size = λ s is. sealed_size false ((evicts k (Evict p f) s && is_dirty k past s) || false) (is_sealed k past s) 1024
            (seals.seal s (version k past s + 1) (if evicts k (Evict p f) s then bytes k seals past s else opened k seals e past s)) (last k seals past s) is
            (λ both. let gone : evicts k (Evict p f) s ≡ true = ⊎_elim (λ (h : evicts k (Evict p f) s && is_dirty k past s ≡ true). first_of (evicts k (Evict p f) s) (is_dirty k past s) h) (λ (h : false ≡ true). cc) (either_of (evicts k (Evict p f) s && is_dirty k past s) false both) in
            length-ciphertext_of key (nonce_of s (version k past s + 1)) (if evicts k (Evict p f) s then bytes k seals past s else opened k seals e past s)
            ∙ (ap (λ v. length (if v then bytes k seals past s else opened k seals e past s)) gone ∙ sized.bytes_size s))
            (sized.last_size s);
      }
  sized_step past who _ blocks reply step true_is sized = record { bytes_size = sized.bytes_size; last_size = sized.last_size }

  -- after every sound legal history
  pub are_sized : (h : History) → CoreRun k seals h → Sound k seals h → AreSized h
  are_sized [] run sound = record { bytes_size = λ s. blank_size; last_size = λ s is. cc }
  are_sized (e ∷ past) run sound = sized_step past e.who e.event e.blocks e.reply run.0 sound.0 (are_sized past run.1 sound.1)

  -- a text, wherever it lies
  pub text_size : (past : History) (s : ℕ) → AreSized past → length (text k seals past s) ≡ 1024
  text_size past s sized = by_test (is_present k past s)
      (λ v. length (if v then bytes k seals past s else if is_sealed k past s then seals.unseal s (version k past s) (last k seals past s) else blank_bytes k) ≡ 1024)
      (λ _. sized.bytes_size s)
      (λ _. by_test (is_sealed k past s) (λ v. is_sealed k past s ≡ v → length (if v then seals.unseal s (version k past s) (last k seals past s) else blank_bytes k) ≡ 1024)
      (λ _ is. length-ciphertext_of key (nonce_of s (version k past s)) (last k seals past s) ∙ sized.last_size s is) (λ _ _. blank_size) refl)

  -- blocks are taken for sealed sub-pages alone
  access_sealed : (past : History) (s : ℕ) → AllByRecursion (λ q. is_sealed k past q ≡ true) (if is_present k past s then [] else filter (is_sealed k past) (s ∷ []))
  access_sealed past s = by_test (is_present k past s) (λ v. AllByRecursion (λ q. is_sealed k past q ≡ true) (if v then [] else filter (is_sealed k past) (s ∷ []))) (λ _. tt) (λ _. all_passing (is_sealed k past) (s ∷ []))

  places_sealed : (event : Event) (past : History) → AllByRecursion (λ s. is_sealed k past s ≡ true) (places k event past)
  places_sealed (Op (Read at n)) past = access_sealed past (sub_of k at)
  places_sealed (Op (Write at new)) past = access_sealed past (sub_of k at)
  places_sealed (Op (Alloc n)) past = tt
  places_sealed (Op (Free at)) past = tt
  places_sealed (Op (Share at)) past = tt
  places_sealed (Fill p f) past = all_passing (is_sealed k past) (subs_of k p)
  places_sealed (Spoiled wanted) past = all_passing (is_sealed k past) (subs_of k (page_of k (sub_of k (address_of wanted))))
  places_sealed _ past = tt

  have_size : (past : History) → AreSized past → (ps : List ℕ) (cs : List (List ℕ)) → AllByRecursion (λ s. is_sealed k past s ≡ true) ps → AreTrue k seals past ps cs → HaveSize 1024 (passes k seals past) ps cs
  have_size past sized [] cs sealed true_is = tt
  have_size past sized (s ∷ ss) [] sealed true_is = tt
  have_size past sized (s ∷ ss) (c ∷ cs) sealed true_is = ((λ passing. ap length (true_is.0 passing) ∙ sized.last_size s sealed.0), have_size past sized ss cs sealed.1 true_is.1)

  all_fit : (h : History) → CoreRun k seals h → Sound k seals h → BlocksFit k seals h
  all_fit [] run sound = tt
  all_fit (e ∷ past) run sound = (have_size past (are_sized past run.1 sound.1) (places k e.event past) e.blocks (places_sealed e.event past) sound.0, all_fit past run.1 sound.1)

-- the law
pub blocks_fit : OfEveryRun PassedBlocksFit
blocks_fit k key h run sound = all_fit k key h run.legal sound
