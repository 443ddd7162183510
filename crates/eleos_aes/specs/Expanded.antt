-- The words that an `Aes` keeps.
use Rattle.std.specs.Prelude.{◌≡◌, ℕ, ◌+◌, ◌*◌, List, length, take}
use Rattle.std.specs.List.{flat_map}
use Rattle.eleos_base.specs.AesKey.{IsKeyLength, first_words}

-- the key: the bytes of its own words, which come first
unfoldable pub key_of : ℕ → List (List ℕ) → List ℕ
key_of key_words words = flat_map (λ word. word) (take key_words words)

-- the words begin with the key expansion of the key, whose length is a key's
pub record IsExpanded (key_words : ℕ) (words : List (List ℕ)) : Type 0 where
  pub key_length : IsKeyLength (length (key_of key_words words))
  pub key_size : 4 * key_words ≡ length (key_of key_words words)
  pub expansion : take (4 * (key_words + 7)) words
      ≡ first_words (key_of key_words words) (4 * (key_words + 7))
