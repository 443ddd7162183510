use Rattle.std.proofs.Common.{◌≡◌, List, [], ◌∷◌, ◌++◌, length, get_or, ap, arith, sym, ◌∙◌}
use Rattle.std.proofs.lemmas.List.{length-map, length-append}
use Rattle.eleos_core.specs.Parts.{Part, Stamp}
use Rattle.eleos_plot.specs.declared.plot.Ground.{Ground}
use Rattle.eleos_turn.specs.Hands.{HandState}
use Rattle.eleos_machine.specs.Closing.{hands_of}
use Rattle.eleos_machine.specs.Passes.{PassState}
use Rattle.machine_tests.proofs.setups.first_passes.Goals as goal

-- four hands that are the last of four are all of them
four_hands : (xs : List PassState) (a b d e : PassState) (f g h i : HandState Stamp Part Ground) → hands_of ((((xs ++ a ∷ []) ++ b ∷ []) ++ d ∷ []) ++ e ∷ []) ≡ f ∷ g ∷ h ∷ i ∷ []
    → (a.hand ≡ f) × (b.hand ≡ g) × (d.hand ≡ h)
four_hands [] a b d e f g h i s = (ap (λ l. get_or l 0 f) s, ap (λ l. get_or l 1 f) s, ap (λ l. get_or l 2 f) s)
four_hands (x ∷ xs) a b d e f g h i s = let n = ap length s in let m = simp (length-map, length-append) at n in absurd (omega (arith, m))

pub returns : goal.returns
returns c = four_hands c.pop-4.new.self.items c.in_ok-one.one c.in_ok-two.two c.in_ok-swapper.swapper c.in_ok-_balloon._balloon _ _ _ _
    (ap hands_of (sym (c.in_ok-_balloon.ensures.items ∙ ap (λ l. l ++ c.in_ok-_balloon._balloon ∷ []) (c.in_ok-swapper.ensures.items ∙ ap (λ l. l ++ c.in_ok-swapper.swapper ∷ []) (c.in_ok-two.ensures.items ∙ ap (λ l. l ++ c.in_ok-two.two ∷ []) c.in_ok-one.ensures.items)))) ∙ c.requires)
