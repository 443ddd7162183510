-- Reading the frames of a sweep one after another.
use Rattle.std.proofs.Common.{◌≡◌, ◌<◌, ℕ, List, [], ◌∷◌, ◌++◌, Bor, map, length, get_or, drop, drop-cons, suc, Result, Ok, Err, refl, sym, ap, ◌∙◌, append_assoc, append-nil}
use Rattle.eleos_base.specs.declared.memory.Looked.{Looked}
use Rattle.eleos_texts.specs.declared.why.Why.{Why}
use Rattle.eleos_texts.specs.declared.why.LineRefused.{LineRefused}
use Rattle.eleos_texts.specs.declared.why.LineRefused.TheVariants as line_refused
use Rattle.eleos_texts.specs.Reasons.{LineFails, ◌>>=◌}
use Rattle.eleos_report.specs.Fields.{looked_of}
use Rattle.eleos_report.specs.Answers.{sweep_of}

-- these frames, and then the others where there are any
abbrev pub with_frames : List Looked → Result (List Looked) Why → Result (List Looked) Why
with_frames front sweep = sweep >>= λ others. Ok (front ++ others)

with_frames-push : (front : List Looked) (looked : Looked) (sweep : Result (List Looked) Why) → with_frames front (sweep >>= λ others. Ok (looked ∷ others)) ≡ with_frames (front ++ looked ∷ []) sweep
with_frames-push front looked (Ok others) = ap Ok (sym (append_assoc front (looked ∷ []) others))
with_frames-push front looked (Err why) = refl

module _ (front : List Looked) (whole : Result (List Looked) Why) where
  -- one frame more
  pub sweep_more : (text : List ℕ) (texts : List (List ℕ)) (looked : Looked) → with_frames front (sweep_of (text ∷ texts)) ≡ whole → looked_of text ≡ Ok looked → with_frames (front ++ looked ∷ []) (sweep_of texts) ≡ whole
  sweep_more text texts looked so_far is = sym (with_frames-push front looked (sweep_of texts)) ∙ (rw is at so_far)

  -- a frame that is none
  pub sweep_bad : (text : List ℕ) (texts : List (List ℕ)) (e : LineRefused) → with_frames front (sweep_of (text ∷ texts)) ≡ whole → LineFails e (looked_of text) → LineFails e whole
  sweep_bad text texts line_refused.NoMemory so_far fails = tt
  sweep_bad text texts (line_refused.Bad why) so_far fails = sym (rw fails at so_far)

  -- no frame more
  pub sweep_done : with_frames front (sweep_of []) ≡ whole → whole ≡ Ok front
  sweep_done so_far = sym so_far ∙ ap Ok (append-nil front)

-- the place of a frame that is none, among the words
pub sweep_bad_at : (front : List Looked) (whole : Result (List Looked) Why) (texts : List (Bor (List ℕ))) (i : ℕ) (d : Bor (List ℕ)) (e : LineRefused) → i < length texts
    → with_frames front (sweep_of (map (λ text. text.now) (drop i texts))) ≡ whole → LineFails e (looked_of (get_or texts i d).now) → LineFails e whole
sweep_bad_at front whole texts i d e lt so_far fails =
    let here = rw (drop-cons texts i d) at so_far in
    sweep_bad front whole (get_or texts i d).now (map (λ text. text.now) (drop (suc i) texts)) e here fails
