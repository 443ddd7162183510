-- Lists that have another number of items than the one asked for are of no form.
use Rattle.std.proofs.Common.{◌≡◌, ◌<◌, List, [], ◌∷◌, length, Err, refl, arith}
use Rattle.eleos_texts.specs.declared.why.Why.TheVariants.{Form}
use Rattle.eleos_texts.specs.Reasons.{one, two, three, four, five, six, eight, one_and_more, two_and_more}

module _ {A : Type 0} where
  -- where one item is asked for, more or fewer are refused for their form
  pub one-other : (items : List A) → (length items ≡ 1 → ⊥) → one items ≡ Err Form
  unfolding one
  one-other [] other = refl
  one-other (a ∷ []) other = absurd (other refl)
  one-other (a ∷ b ∷ _) other = refl

  -- the same of two
  pub two-other : (items : List A) → (length items ≡ 2 → ⊥) → two items ≡ Err Form
  unfolding two
  two-other [] other = refl
  two-other (a ∷ []) other = refl
  two-other (a ∷ b ∷ []) other = absurd (other refl)
  two-other (a ∷ b ∷ c ∷ _) other = refl

  -- the same of three
  pub three-other : (items : List A) → (length items ≡ 3 → ⊥) → three items ≡ Err Form
  unfolding three
  three-other [] other = refl
  three-other (a ∷ []) other = refl
  three-other (a ∷ b ∷ []) other = refl
  three-other (a ∷ b ∷ c ∷ []) other = absurd (other refl)
  three-other (a ∷ b ∷ c ∷ d ∷ _) other = refl

  -- the same of four
  pub four-other : (items : List A) → (length items ≡ 4 → ⊥) → four items ≡ Err Form
  unfolding four
  four-other [] other = refl
  four-other (a ∷ []) other = refl
  four-other (a ∷ b ∷ []) other = refl
  four-other (a ∷ b ∷ c ∷ []) other = refl
  four-other (a ∷ b ∷ c ∷ d ∷ []) other = absurd (other refl)
  four-other (a ∷ b ∷ c ∷ d ∷ e ∷ _) other = refl

  -- the same of five
  pub five-other : (items : List A) → (length items ≡ 5 → ⊥) → five items ≡ Err Form
  unfolding five
  five-other [] other = refl
  five-other (a ∷ []) other = refl
  five-other (a ∷ b ∷ []) other = refl
  five-other (a ∷ b ∷ c ∷ []) other = refl
  five-other (a ∷ b ∷ c ∷ d ∷ []) other = refl
  five-other (a ∷ b ∷ c ∷ d ∷ e ∷ []) other = absurd (other refl)
  five-other (a ∷ b ∷ c ∷ d ∷ e ∷ f ∷ _) other = refl

  -- the same of six
  pub six-other : (items : List A) → (length items ≡ 6 → ⊥) → six items ≡ Err Form
  unfolding six
  six-other [] other = refl
  six-other (a ∷ []) other = refl
  six-other (a ∷ b ∷ []) other = refl
  six-other (a ∷ b ∷ c ∷ []) other = refl
  six-other (a ∷ b ∷ c ∷ d ∷ []) other = refl
  six-other (a ∷ b ∷ c ∷ d ∷ e ∷ []) other = refl
  six-other (a ∷ b ∷ c ∷ d ∷ e ∷ f ∷ []) other = absurd (other refl)
  six-other (a ∷ b ∷ c ∷ d ∷ e ∷ f ∷ g ∷ _) other = refl

  -- the same of eight
  pub eight-other : (items : List A) → (length items ≡ 8 → ⊥) → eight items ≡ Err Form
  unfolding eight
  eight-other [] other = refl
  eight-other (a ∷ []) other = refl
  eight-other (a ∷ b ∷ []) other = refl
  eight-other (a ∷ b ∷ c ∷ []) other = refl
  eight-other (a ∷ b ∷ c ∷ d ∷ []) other = refl
  eight-other (a ∷ b ∷ c ∷ d ∷ e ∷ []) other = refl
  eight-other (a ∷ b ∷ c ∷ d ∷ e ∷ f ∷ []) other = refl
  eight-other (a ∷ b ∷ c ∷ d ∷ e ∷ f ∷ g ∷ []) other = refl
  eight-other (a ∷ b ∷ c ∷ d ∷ e ∷ f ∷ g ∷ h ∷ []) other = absurd (other refl)
  eight-other (a ∷ b ∷ c ∷ d ∷ e ∷ f ∷ g ∷ h ∷ i ∷ _) other = refl

  -- where one item and more are asked for, an empty list is refused for its form
  pub one_and_more-other : (items : List A) → length items < 1 → one_and_more items ≡ Err Form
  unfolding one_and_more
  one_and_more-other [] few = refl
  one_and_more-other (a ∷ _) few = absurd (omega arith)

  -- where two items and more are asked for, fewer are refused for their form
  pub two_and_more-other : (items : List A) → length items < 2 → two_and_more items ≡ Err Form
  unfolding two_and_more
  two_and_more-other [] few = refl
  two_and_more-other (a ∷ []) few = refl
  two_and_more-other (a ∷ b ∷ _) few = absurd (omega arith)
