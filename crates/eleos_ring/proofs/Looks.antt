-- One look at a cell: the four fields, and the bytes of a reply.
use Rattle.std.proofs.Common.{◌≡◌, ◌≢◌, ℕ, zero, suc, ◌+◌, ◌≤◌, List, ◌++◌, length, take, drop, replicate, get_or, Option, Some, None, refl, sym, ap, ◌∙◌, subst, arith}
use Rattle.std.proofs.lemmas.List.{get_or-set_other}
use Rattle.eleos_words.specs.declared.layout.TheConstants.{BYTES, CELL_WORDS, ID, LENGTH, STATE, STATUS}
use Rattle.eleos_words.specs.declared.port.RingPort.{Ghosts}
use Rattle.eleos_words.specs.declared.glance.Glance.{Glance}
use Rattle.eleos_words.specs.Bytes.{bytes_in, words_for}
use Rattle.eleos_words.specs.Glances.{copy_of, Copies, CopiesBytes, Loads, LoadsOnce, IsNewAt}
use Rattle.eleos_words.specs.Layout.{place}
use Rattle.eleos_words.specs.Told.{Placed, placed_from, with_word, with_words, more_calls, AllPlaced}
use Rattle.eleos_words.proofs.Tellings.{with_words-few, more_calls-more, AllPlaced-append, length-placed_from}
use Rattle.eleos_ring.specs.declared.accept.Fields.{Fields}
use Rattle.std.proofs.lemmas.Bool.Decides.{nat_tests}
use Rattle.eleos_ring.specs.declared.accept.Polled.{Polled}
use Rattle.eleos_ring.specs.declared.accept.Polled.TheVariants.{Reply}
use Rattle.eleos_ring.specs.declared.ticket.Ticket.{Ticket}
use Rattle.eleos_ring.specs.Accept.{accept}
use Rattle.eleos_ring.specs.Polls.{field_words, poll_words, words_read, buffer_after, CopiesFields, Polls}

-- the call of `glance`, and then those of the look
pub looked_calls : (c g p n : ℕ) → g ≡ more_calls c 1 → p ≡ more_calls g (4 + n) → p ≡ more_calls c (5 + n)
looked_calls c g p n one more =
    more ∙ ap (λ k. more_calls k (4 + n)) one ∙ more_calls-more c 1 (4 + n) ∙ ap (more_calls c) (omega arith)

abbrev pub none_of : Option ℕ
none_of = None

-- where nothing was copied no word has a copy
pub none_at : (n i : ℕ) → get_or (replicate n none_of) i none_of ≡ none_of
none_at zero i = refl
none_at (suc n) zero = refl
none_at (suc n) (suc i) = none_at n i

module _ {P : Type 0} (ring : Ghosts P) where
  -- a word that was not copied is loaded now, once
  pub loads-now : {copy : Option ℕ} (old new : P) (at word : ℕ) → copy ≡ None → LoadsOnce ring copy old new at word → Loads ring old new at word
  loads-now old new at word none once = subst (λ c. LoadsOnce ring c old new at word) none once

  -- a word of the cell that was not copied yet is loaded from its place, once
  pub loads : (old new : Glance P) (j word cell : ℕ) → old.cell ≡ cell → copy_of old.copies j ≡ None → Copies ring old new j word
      → Loads ring old.port.now new.port.now (place cell j) word
  loads old new j word cell here none one =
      subst (λ c. Loads ring old.port.now new.port.now (place c j) word) here (loads-now old.port.now new.port.now (place old.cell j) word none one.once)

  -- another word stays uncopied
  pub stays : (old new : Glance P) (j word i : ℕ) → i ≢ j → Copies ring old new j word → copy_of old.copies i ≡ None → copy_of new.copies i ≡ None
  stays old new j word i other one none = ap (λ l. copy_of l i) one.copies ∙ get_or-set_other old.copies j i (Some word) None other ∙ none

  -- a new look that copies state, number, length and status loads each of the four once, in this order
  pub fields-copied : (a b c d e : Glance P) (cell : ℕ) (f : Fields) → IsNewAt ring a cell
      → Copies ring a b STATE f.state → Copies ring b c ID f.id → Copies ring c d LENGTH f.length → Copies ring d e STATUS f.status
      → CopiesFields ring a e f
  fields-copied a b c d e cell f new one two three four =
      let none : (i : ℕ) → copy_of a.copies i ≡ None = λ i. ap (λ l. copy_of l i) new.copies ∙ none_at CELL_WORDS i in
      let b-cell : b.cell ≡ a.cell = one.cell in
      let c-cell : c.cell ≡ a.cell = two.cell ∙ b-cell in
      let d-cell : d.cell ≡ a.cell = three.cell ∙ c-cell in
      let id₁ : copy_of b.copies ID ≡ None = stays a b STATE f.state ID (omega arith) one (none ID) in
      let length₁ : copy_of b.copies LENGTH ≡ None = stays a b STATE f.state LENGTH (omega arith) one (none LENGTH) in
      let length₂ : copy_of c.copies LENGTH ≡ None = stays b c ID f.id LENGTH (omega arith) two length₁ in
      let status₁ : copy_of b.copies STATUS ≡ None = stays a b STATE f.state STATUS (omega arith) one (none STATUS) in
      let status₂ : copy_of c.copies STATUS ≡ None = stays b c ID f.id STATUS (omega arith) two status₁ in
      let status₃ : copy_of d.copies STATUS ≡ None = stays c d LENGTH f.length STATUS (omega arith) three status₂ in
      let l₁ = loads a b STATE f.state a.cell refl (none STATE) one in
      let l₂ = loads b c ID f.id a.cell b-cell id₁ two in
      let l₃ = loads c d LENGTH f.length a.cell c-cell length₂ three in
      let l₄ = loads d e STATUS f.status a.cell d-cell status₃ four in
      record {
        loaded = l₄.loaded ∙ ap (λ s. with_word s (place a.cell STATUS) f.status)
            (l₃.loaded ∙ ap (λ s. with_word s (place a.cell LENGTH) f.length)
            (l₂.loaded ∙ ap (λ s. with_word s (place a.cell ID) f.id)
            (l₁.loaded ∙ ap (λ s. with_word s (place a.cell STATE) f.state) new.loaded)));
        showed = (l₁.showed, (l₂.showed, (l₃.showed, (l₄.showed, tt))));
        stored = l₄.stored ∙ l₃.stored ∙ l₂.stored ∙ l₁.stored ∙ new.stored;
        calls = l₄.calls ∙ ap (λ n. more_calls n 1) (l₃.calls ∙ ap (λ n. more_calls n 1) (l₂.calls ∙ ap (λ n. more_calls n 1) l₁.calls));
        cell = four.cell ∙ d-cell;
        uncopied = λ i far.
            stays d e STATUS f.status i (omega arith) four
            (stays c d LENGTH f.length i (omega arith) three
            (stays b c ID f.id i (omega arith) two
            (stays a b STATE f.state i (omega arith) one (none i))));
      }

accept-fits : (t : Ticket) (room : ℕ) (f : Fields) (l s : ℕ) → accept t room f ≡ Reply l s → l ≤ room
accept-fits t room f l s is = grind (arith, nat_tests)

-- a reply is no longer than the room for it
pub reply-fits : (t : Ticket) (room : ℕ) (f : Fields) (l s : ℕ) (polled : Polled) → polled ≡ accept t room f
    → polled ≡ Reply l s → l ≤ room
reply-fits t room f l s polled by is = accept-fits t room f l s (sym by ∙ is)

module _ {P : Type 0} (ring : Ghosts P) where
  -- the fields, and then the bytes of a reply
  pub polls-reply : (a e z : Glance P) (t : Ticket) (f : Fields) (buf front : List ℕ) (l s : ℕ) (result : Polled) → IsNewAt ring a t.cell → CopiesFields ring a e f
      → CopiesBytes ring e z front → result ≡ accept t (length buf) f → result ≡ Reply l s → length front ≡ l → l ≤ 1024
      → Polls ring t buf (front ++ drop l buf) z.port.now result
  polls-reply a e z t f buf front l s result new fields bytes accepted is len few =
      let here : a.cell ≡ t.cell = new.here in
      let there : e.cell ≡ t.cell = fields.cell ∙ here in
      let count : length bytes.words ≡ words_for l = bytes.count ∙ ap words_for len in
      let xs : List Placed = placed_from (place e.cell BYTES) bytes.words in
      let fit : length (field_words a.cell f) + length xs ≤ 136 = omega (arith, length-placed_from (place e.cell BYTES) bytes.words) in
      let all : ring.loaded z.port.now ≡ Some (field_words a.cell f ++ xs) = bytes.copies.loaded ∙ ap (λ o. with_words o xs) fields.loaded ∙ with_words-few (field_words a.cell f) xs fit in
      let moved : field_words a.cell f ++ xs ≡ poll_words t.cell f bytes.words = λ i. field_words (here i) f ++ placed_from (place (there i) BYTES) bytes.words in
      record {
        fields = f;
        words = bytes.words;
        accepted = accepted;
        count = count ∙ ap words_read (sym is);
        bytes = (λ i. (bytes.bytes ∙ ap (λ n. take n (bytes_in bytes.words)) len) i ++ drop l buf) ∙ ap (λ r. buffer_after r buf bytes.words) (sym is);
        loaded = all ∙ ap Some moved;
        showed = subst (AllPlaced ring.showed) moved (AllPlaced-append ring.showed (field_words a.cell f) xs fields.showed bytes.copies.showed);
        stored = bytes.copies.stored ∙ fields.stored;
      }

  -- the calls for the fields, and then those for the bytes of a reply
  pub calls-reply : (a e z : Glance P) (f : Fields) (front : List ℕ) (l s : ℕ) (result : Polled) → CopiesFields ring a e f
      → CopiesBytes ring e z front → result ≡ Reply l s → length front ≡ l
      → ring.calls z.port.now ≡ more_calls (ring.calls a.port.now) (4 + words_read result)
  calls-reply a e z f front l s result fields bytes is len =
      let count : length bytes.words ≡ words_read result = bytes.count ∙ ap words_for len ∙ ap words_read (sym is) in
      bytes.copies.calls ∙ ap (λ n. more_calls n (length bytes.words)) fields.calls
      ∙ more_calls-more (ring.calls a.port.now) 4 (length bytes.words) ∙ ap (λ n. more_calls (ring.calls a.port.now) (4 + n)) count
