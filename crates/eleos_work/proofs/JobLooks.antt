-- One look at a job: its fields, and its bytes.
use Rattle.std.proofs.Common.{◌≡◌, ℕ, ◌+◌, ◌≤◌, Bool, true, List, ◌++◌, length, take, drop, nat_le, Some, None, if◌then◌else◌, refl, sym, ap, ◌∙◌, subst, arith}
use Rattle.std.proofs.lemmas.List.{take_at}
use Rattle.std.proofs.lemmas.Bool.Decides.{nat_tests}
use Rattle.eleos_words.specs.declared.layout.TheConstants.{BYTES, CALL, CELL_WORDS, ID, LENGTH}
use Rattle.eleos_words.specs.declared.port.RingPort.{Ghosts}
use Rattle.eleos_words.specs.declared.glance.Glance.{Glance}
use Rattle.eleos_words.specs.Bytes.{bytes_in, words_for}
use Rattle.eleos_words.specs.Glances.{copy_of, Copies, CopiesBytes, IsNewAt}
use Rattle.eleos_words.specs.Layout.{place}
use Rattle.eleos_words.specs.Told.{Placed, placed_from, with_word, with_words, more_calls, AllPlaced}
use Rattle.eleos_words.proofs.Tellings.{with_words-few, more_calls-more, AllPlaced-append, length-placed_from}
use Rattle.eleos_ring.proofs.Looks.{none_at, loads, stays}
use Rattle.eleos_work.specs.declared.read.Job.{Job}
use Rattle.eleos_work.specs.Jobs.{field_words, job_loads, words_read, CopiesJob, Reads}

-- the call of `glance`, and then those of the look
pub read_calls : (c g p n : ℕ) → g ≡ more_calls c 1 → p ≡ more_calls g (3 + n) → p ≡ more_calls c (4 + n)
read_calls c g p n one more =
    more ∙ ap (λ k. more_calls k (3 + n)) one ∙ more_calls-more c 1 (3 + n) ∙ ap (more_calls c) (omega arith)

-- the calls of the look, and then those of the reply
pub served_calls : (c r p n m : ℕ) → r ≡ more_calls c (4 + n) → p ≡ more_calls r m → p ≡ more_calls c (4 + n + m)
served_calls c r p n m look stores = stores ∙ ap (λ k. more_calls k m) look ∙ more_calls-more c (4 + n) m

few-yes : (l : ℕ) → l ≤ 1024 → nat_le l 1024 ≡ true
few-yes l few = grind (arith, nat_tests)

module _ {P : Type 0} (ring : Ghosts P) where
  -- a new look that copies number, call and length of a job loads each of the three once, in this order
  pub job-copied : (a b c d : Glance P) (cell : ℕ) (job : Job) → IsNewAt ring a cell
      → Copies ring a b ID job.id → Copies ring b c CALL job.call → Copies ring c d LENGTH job.length → CopiesJob ring a d job
  job-copied a b c d cell job new one two three =
      let none : (i : ℕ) → copy_of a.copies i ≡ None = λ i. ap (λ l. copy_of l i) new.copies ∙ none_at CELL_WORDS i in
      let b-cell : b.cell ≡ a.cell = one.cell in
      let c-cell : c.cell ≡ a.cell = two.cell ∙ b-cell in
      let call₁ : copy_of b.copies CALL ≡ None = stays ring a b ID job.id CALL (omega arith) one (none CALL) in
      let length₁ : copy_of b.copies LENGTH ≡ None = stays ring a b ID job.id LENGTH (omega arith) one (none LENGTH) in
      let length₂ : copy_of c.copies LENGTH ≡ None = stays ring b c CALL job.call LENGTH (omega arith) two length₁ in
      let l₁ = loads ring a b ID job.id a.cell refl (none ID) one in
      let l₂ = loads ring b c CALL job.call a.cell b-cell call₁ two in
      let l₃ = loads ring c d LENGTH job.length a.cell c-cell length₂ three in
      record {
        loaded = l₃.loaded ∙ ap (λ s. with_word s (place a.cell LENGTH) job.length)
            (l₂.loaded ∙ ap (λ s. with_word s (place a.cell CALL) job.call)
            (l₁.loaded ∙ ap (λ s. with_word s (place a.cell ID) job.id) new.loaded));
        showed = (l₁.showed, (l₂.showed, (l₃.showed, tt)));
        stored = l₃.stored ∙ l₂.stored ∙ l₁.stored ∙ new.stored;
        calls = l₃.calls ∙ ap (λ n. more_calls n 1) (l₂.calls ∙ ap (λ n. more_calls n 1) l₁.calls);
        cell = three.cell ∙ c-cell;
        uncopied = λ i far.
            stays ring c d LENGTH job.length i (omega arith) three
            (stays ring b c CALL job.call i (omega arith) two
            (stays ring a b ID job.id i (omega arith) one (none i)));
      }

  -- a look that copied a job's fields, and then as many bytes as its length says, has read that job
  pub reads-job : (a e z : Glance P) (job : Job) (text front : List ℕ) → CopiesJob ring a e job → CopiesBytes ring e z front
      → length front ≡ job.length → job.length ≤ 1024 → Reads ring a.cell z.port.now job (front ++ drop job.length text)
  reads-job a e z job text front fields bytes len few =
      let l : ℕ = job.length in
      let yes : nat_le l 1024 ≡ true = few-yes l few in
      let xs : List Placed = placed_from (place e.cell BYTES) bytes.words in
      let count : length bytes.words ≡ words_for l = bytes.count ∙ ap words_for len in
      let fit : length (field_words a.cell job) + length xs ≤ 136 = omega (arith, length-placed_from (place e.cell BYTES) bytes.words) in
      let all : ring.loaded z.port.now ≡ Some (field_words a.cell job ++ xs) = bytes.copies.loaded ∙ ap (λ o. with_words o xs) fields.loaded ∙ with_words-few (field_words a.cell job) xs fit in
      let moved : field_words a.cell job ++ xs ≡ job_loads a.cell job bytes.words = λ i. field_words a.cell job ++ placed_from (place (fields.cell i) BYTES) bytes.words in
      let front-is : take l (front ++ drop l text) ≡ take l (bytes_in bytes.words) = take_at front (drop l text) l len ∙ bytes.bytes ∙ ap (λ n. take n (bytes_in bytes.words)) len in
      record {
        words = bytes.words;
        count = count ∙ sym (ap (λ (b : Bool). if b then words_for l else 0) yes);
        bytes = ap (λ (b : Bool). if b then Some (take l (front ++ drop l text)) else None) yes ∙ ap Some front-is ∙ sym (ap (λ (b : Bool). if b then Some (take l (bytes_in bytes.words)) else None) yes);
        loaded = all ∙ ap Some moved;
        showed = subst (AllPlaced ring.showed) moved (AllPlaced-append ring.showed (field_words a.cell job) xs fields.showed bytes.copies.showed);
        stored = bytes.copies.stored ∙ fields.stored;
      }

  -- the calls for the fields, and then those for the bytes
  pub calls-job : (a e z : Glance P) (job : Job) (front : List ℕ) → CopiesJob ring a e job → CopiesBytes ring e z front
      → length front ≡ job.length → job.length ≤ 1024
      → ring.calls z.port.now ≡ more_calls (ring.calls a.port.now) (3 + words_read job.length)
  calls-job a e z job front fields bytes len few =
      let l : ℕ = job.length in
      let yes : nat_le l 1024 ≡ true = few-yes l few in
      let count : length bytes.words ≡ words_read l = bytes.count ∙ ap words_for len ∙ sym (ap (λ (b : Bool). if b then words_for l else 0) yes) in
      bytes.copies.calls ∙ ap (λ n. more_calls n (length bytes.words)) fields.calls
      ∙ more_calls-more (ring.calls a.port.now) 3 (length bytes.words) ∙ ap (λ n. more_calls (ring.calls a.port.now) (3 + n)) count
