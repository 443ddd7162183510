use Rattle.std.proofs.Common.{◌≡◌, List, [], ◌∷◌, ◌++◌, length, get_or, ap, arith, sym, ◌∙◌}
use Rattle.std.proofs.lemmas.List.{length-map, length-append}
use Rattle.eleos_core.specs.Parts.{Part, Stamp}
use Rattle.eleos_plot.specs.declared.plot.Ground.{Ground}
use Rattle.eleos_turn.specs.Hands.{HandState}
use Rattle.eleos_machine.specs.Closing.{hands_of}
use Rattle.eleos_machine.specs.Passes.{PassState}
use Rattle.machine_tests.proofs.closing.three_passes.Goals as goal

-- three hands that are the last of three are all of them
three_hands : (xs : List PassState) (a b d : PassState) (f g h : HandState Stamp Part Ground) → hands_of (((xs ++ a ∷ []) ++ b ∷ []) ++ d ∷ []) ≡ f ∷ g ∷ h ∷ []
    → (a.hand ≡ f) × (b.hand ≡ g) × (d.hand ≡ h)
three_hands [] a b d f g h e = (ap (λ l. get_or l 0 f) e, ap (λ l. get_or l 1 f) e, ap (λ l. get_or l 2 f) e)
three_hands (x ∷ xs) a b d f g h e = let n = ap length e in let m = simp (length-map, length-append) at n in absurd (omega (arith, m))

pub returns : goal.returns
returns c = three_hands c.pop-3.new.self.items c.in_ok-caller.caller c.in_ok-swapper.swapper c.in_ok-balloon.balloon _ _ _
    (ap hands_of (sym (c.in_ok-balloon.ensures.items ∙ ap (λ l. l ++ c.in_ok-balloon.balloon ∷ []) (c.in_ok-swapper.ensures.items ∙ ap (λ l. l ++ c.in_ok-swapper.swapper ∷ []) c.in_ok-caller.ensures.items))) ∙ c.requires)
