use Rattle.std.proofs.Common.{◌≡◌, ℕ, List, [], ◌∷◌, ◌++◌, map, sym, ◌∙◌, ap, append_assoc}
use Rattle.std.proofs.lemmas.List.{map-append}
use Rattle.std.specs.List.{slice_split}
use Rattle.eleos_texts.specs.Fields.{is_blank}
use Rattle.eleos_texts.proofs.splits.words_of.Goals as goal

one_more : (before : List (List ℕ)) (word : List ℕ) (after rest whole : List (List ℕ)) → before ++ rest ≡ whole → rest ≡ word ∷ after → (before ++ word ∷ []) ++ after ≡ whole
one_more before word after rest whole so_far is = append_assoc before (word ∷ []) after ∙ (ap (λ parts. before ++ parts) (sym is) ∙ so_far)

the_last : (before : List (List ℕ)) (word : List ℕ) (rest whole : List (List ℕ)) → before ++ rest ≡ whole → rest ≡ word ∷ [] → before ++ word ∷ [] ≡ whole
the_last before word rest whole so_far is = ap (λ parts. before ++ parts) (sym is) ∙ so_far

pub loop-word-preserved : goal.loop-word-preserved
loop-word-preserved c =
    rw (c.in_ok-push.ensures.items, map-append (λ word. word.now) c.loop-word.words.items (c.in-Some.word ∷ []))
    (one_more (map (λ word. word.now) c.loop-word.words.items) c.in-Some.word.now (slice_split is_blank c.in-Some.after.now) (slice_split is_blank c.loop-word.rest.now) (slice_split is_blank c.args.line.now) c.loop-word.invariant c.in-Some.ensures.parts)

pub returns : goal.returns
returns c =
    rw (c.in_ok-push-2.ensures.items, map-append (λ word. word.now) c.loop-word.words.items (c.loop-word.rest ∷ []))
    (the_last (map (λ word. word.now) c.loop-word.words.items) c.loop-word.rest.now (slice_split is_blank c.loop-word.rest.now) (slice_split is_blank c.args.line.now) c.loop-word.invariant c.in_default.ensures.parts)
