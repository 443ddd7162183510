-- The bytes of an enclave's sub-pages, of which those that were written stand in a map.
use Rattle.std.specs.Prelude.{◌≡◌, ℕ, List, map, length, Option, Some, unwrap_or, replicate}
use Rattle.std.specs.BTreeMap.{BTreeMap, get}
use Rattle.std.specs.List.{range_with_len}
use Rattle.std.specs.Ordering.{nat_cmp}
use Rattle.eleos_base.specs.Plain.{zeros}

-- texts by their sub-pages
abbrev pub Written : Type 0
Written = BTreeMap ℕ (List ℕ)

-- the bytes of a sub-page: those in the map, else zeros
abbrev pub text_in : Written → ℕ → List ℕ
text_in written s = unwrap_or (get nat_cmp written s) (zeros 1024)

-- the bytes of each of so many sub-pages
abbrev pub texts_of : Written → ℕ → List (List ℕ)
texts_of written count = map (text_in written) (range_with_len 0 count)

-- each text in the map is as long as a sub-page, and the blank one is zeros
pub record AreTexts (written : Written) (blank : List ℕ) : Type 0 where
  pub sized : (s : ℕ) (text : List ℕ) → get nat_cmp written s ≡ Some text → length text ≡ 1024
  pub blank_is : blank ≡ zeros 1024
