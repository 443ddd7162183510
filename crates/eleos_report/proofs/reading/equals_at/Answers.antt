use Rattle.std.proofs.Common.{◌≡◌, List, ℕ, Bor, sym, ◌∙◌, rules, tests}
use Rattle.std.specs.List.{position}
use Rattle.std.proofs.lemmas.Iterator.{YieldsList-from_slice}
use Rattle.std.proofs.lemmas.Iterator.Search.{position_from_yields_List}
use Rattle.eleos_report.specs.Reading.{is_equals}
use Rattle.eleos_report.proofs.Splits.{position-map}
use Rattle.eleos_report.proofs.reading.equals_at.Goals as goal

pub returns : goal.returns
returns c =
    let found : c.position.result ≡ position (λ (word : Bor (List ℕ)). is_equals word.now) c.args.words.now =
    position_from_yields_List (λ word. is_equals word.now) _ _ c.position.result c.position.ensures.ran (YieldsList-from_slice _ c.iter.ensures.rest) (λ x b q k. search (rules, tests)) in
    found ∙ sym (position-map (λ (word : Bor (List ℕ)). word.now) is_equals c.args.words.now)
