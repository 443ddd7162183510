-- The texts of sub-pages as their map changes.
use Rattle.std.proofs.Common.{◌≡◌, ◌≢◌, ℕ, ◌+◌, ◌-◌, ◌<◌, ◌≤◌, ◌==◌, List, [], length, Bool, true, false, Option, Some, None, unwrap_or, cond, if◌then◌else◌, slice_index_or, slice_set, replicate, refl, sym, ◌∙◌, ap, arith}
use Rattle.std.specs.BTreeMap.{BTreeMap, get, Updates}
use Rattle.std.specs.Cmp.{unsigned_tied}
use Rattle.std.specs.List.{range_with_len}
use Rattle.std.specs.Ordering.{is_eq, nat_cmp}
use Rattle.std.proofs.lemmas.Bool.Decides.{nat_tests}
use Rattle.std.proofs.lemmas.List.{length-replicate}
use Rattle.std.proofs.lemmas.List.FromFn.{get_or-map-range_with_len, length-map-range_with_len}
use Rattle.eleos_base.specs.Lists.{map_from}
use Rattle.eleos_base.specs.Plain.{is_in_run, zeros}
use Rattle.eleos_plain.specs.Texts.{AreTexts, Written, text_in, texts_of}
use Rattle.eleos_core.proofs.Ranges.{range-from, range-same, range-set, replicate-range}

-- zeros are as long as a sub-page
pub length-zeros : (n : ℕ) → length (zeros n) ≡ n
unfolding zeros
length-zeros n = length-replicate {A = ℕ} n 0

-- zeros by the word of a list
pub zeros-is : (n : ℕ) → replicate n 0 ≡ zeros n
unfolding zeros
zeros-is n = refl

-- how many texts there are
pub length-texts : (written : Written) (count : ℕ) → count ≡ length (texts_of written count)
length-texts written count = sym (length-map-range_with_len (text_in written) 0 count)

-- the text of a sub-page
pub text-at : (written : Written) (count s : ℕ) → s < length (texts_of written count) → slice_index_or (texts_of written count) s [] ≡ text_in written s
text-at written count s within = let many = length-texts written count in get_or-map-range_with_len (text_in written) 0 count s s [] (omega (arith, many)) (omega arith)

-- where nothing was written all are zeros
pub texts-blank : (written : Written) (count : ℕ) → written.entries ≡ [] → texts_of written count ≡ replicate count (zeros 1024)
texts-blank written count empty =
    range-same (text_in written) (λ (i : ℕ). zeros 1024) 0 count (λ i low high. at i) ∙ sym (replicate-range (zeros 1024) 0 count) where
      at : (i : ℕ) → text_in written i ≡ zeros 1024
      at i = rw empty refl

-- and the text of none is too short
pub blank-is : (written : Written) (blank : List ℕ) → written.entries ≡ [] → blank ≡ replicate 1024 0 → AreTexts written blank
blank-is written blank empty is = record {
  sized = λ s text found. absurd (let none : get nat_cmp written s ≡ None = rw empty refl in cc);
  blank_is = is ∙ zeros-is 1024;
}

-- the text that stands in the map
pub text-found : (written : Written) (count s : ℕ) (text : List ℕ) → s < length (texts_of written count) → get nat_cmp written s ≡ Some text → text ≡ slice_index_or (texts_of written count) s []
text-found written count s text within found = sym (text-at written count s within ∙ ap (λ (o : Option (List ℕ)). unwrap_or o (zeros 1024)) found)

-- or the blank one
pub text-not_found : (written : Written) (blank : List ℕ) (count s : ℕ) → AreTexts written blank → s < length (texts_of written count) → get nat_cmp written s ≡ None → blank ≡ slice_index_or (texts_of written count) s []
text-not_found written blank count s are within found = are.blank_is ∙ sym (text-at written count s within ∙ ap (λ (o : Option (List ℕ)). unwrap_or o (zeros 1024)) found)

-- two numbers that differ are told apart
apart : (s q : ℕ) → q ≢ s → is_eq (nat_cmp s q) ≡ false
apart s q ne = grind (arith, nat_tests)

-- the map with another text at a sub-page
pub texts-insert : (old new : Written) (count s : ℕ) (text : List ℕ) → Updates nat_cmp old new s (Some text) → texts_of new count ≡ slice_set (texts_of old count) s text
texts-insert old new count s text updates = sym (range-set (text_in old) (text_in new) 0 count s s text (omega arith)
    (ap (λ (o : Option (List ℕ)). unwrap_or o (zeros 1024)) (sym updates.1))
    (λ q low high ne. ap (λ (o : Option (List ℕ)). unwrap_or o (zeros 1024)) (sym (updates.2 q (apart s q ne)))))

-- keeps to its texts
pub texts-insert_sized : (old new : Written) (blank : List ℕ) (s : ℕ) (text : List ℕ) → Updates nat_cmp old new s (Some text) → length text ≡ 1024 → AreTexts old blank → AreTexts new blank
texts-insert_sized old new blank s text updates whole are = record {
  sized = λ q t is. at q t (is_eq (nat_cmp s q)) (sym is ∙ updates.0 q);
  blank_is = are.blank_is;
} where
  at : (q : ℕ) (t : List ℕ) (b : Bool) → Some t ≡ cond b (Some text) (get nat_cmp old q) → length t ≡ 1024
  at q t true is = let same : t ≡ text = cc in ap length same ∙ whole
  at q t false is = are.sized q t (sym is)

-- one more key of the run is gone
pub forget-more : {X : Type 0} (start s s' q : ℕ) (was now now' : Option X) → start ≤ s → s' ≡ s + 1 → now ≡ (if is_in_run start (s - start) q then None else was)
    → now' ≡ cond (is_eq (nat_cmp s q)) None now → now' ≡ (if is_in_run start (s' - start) q then None else was)
forget-more start s s' q was now now' low next before after =
    after ∙ (ap (λ o. cond (is_eq (nat_cmp s q)) None o) before ∙ by (is_eq (nat_cmp s q)) refl (is_in_run start (s - start) q) refl (is_in_run start (s' - start) q) refl) where
      by : (e : Bool) → is_eq (nat_cmp s q) ≡ e → (b : Bool) → is_in_run start (s - start) q ≡ b → (b' : Bool) → is_in_run start (s' - start) q ≡ b' → cond e None (if b then None else was) ≡ (if b' then None else was)
      by true e b is true is' = refl
      by true e b is false is' = absurd (grind (arith, nat_tests))
      by false e true is true is' = refl
      by false e true is false is' = absurd (grind (arith, nat_tests))
      by false e false is true is' = absurd (grind (arith, nat_tests))
      by false e false is false is' = refl

-- a run that has no number
pub forget-none : {X : Type 0} (start q : ℕ) (was : Option X) → was ≡ (if is_in_run start (start - start) q then None else was)
forget-none start q was = by (is_in_run start (start - start) q) refl where
  by : (b : Bool) → is_in_run start (start - start) q ≡ b → was ≡ (if b then None else was)
  by true is = absurd (grind (arith, nat_tests))
  by false is = refl

-- the texts of a run are cleared
pub texts-forget : (old new : Written) (start len count : ℕ) → ((s : ℕ) → get nat_cmp new s ≡ (if is_in_run start len s then None else get nat_cmp old s))
    → texts_of new count ≡ map_from (λ s text. if is_in_run start len s then zeros 1024 else text) 0 (texts_of old count)
texts-forget old new start len count gone =
    range-same (text_in new) (λ s. if is_in_run start len s then zeros 1024 else text_in old s) 0 count (λ s low high. ap (λ (o : Option (List ℕ)). unwrap_or o (zeros 1024)) (gone s) ∙ at s (is_in_run start len s))
    ∙ sym (range-from (λ s text. if is_in_run start len s then zeros 1024 else text) (text_in old) 0 count) where
      at : (s : ℕ) (b : Bool) → unwrap_or (if b then None else get nat_cmp old s) (zeros 1024) ≡ (if b then zeros 1024 else text_in old s)
      at s true = refl
      at s false = refl

-- those that are left are as long as before
pub texts-forget_sized : (old new : Written) (blank : List ℕ) (start len : ℕ) → ((s : ℕ) → get nat_cmp new s ≡ (if is_in_run start len s then None else get nat_cmp old s)) → AreTexts old blank → AreTexts new blank
texts-forget_sized old new blank start len gone are = record {
  sized = λ s text is. at s text (is_in_run start len s) (sym is ∙ gone s);
  blank_is = are.blank_is;
} where
  at : (s : ℕ) (text : List ℕ) (b : Bool) → Some text ≡ (if b then None else get nat_cmp old s) → length text ≡ 1024
  at s text true is = cc
  at s text false is = are.sized s text (sym is)
