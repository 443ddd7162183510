-- The stream of encrypted counter blocks (SP 800-38D, 6.5).
use Rattle.std.specs.Prelude.{ℕ, zero, suc, List, [], ◌++◌}
use Rattle.eleos_base.specs.AesCipher.{aes}
use Rattle.eleos_base.specs.Gcm.{inc32}

-- the counter block n after another
unfoldable pub later : ℕ → List ℕ → List ℕ
later zero counter = counter
later (suc n) counter = later n (inc32 counter)

-- n encrypted counter blocks, one after another
unfoldable pub stream : List ℕ → List ℕ → ℕ → List ℕ
stream key counter zero = []
stream key counter (suc n) = aes key counter ++ stream key (inc32 counter) n
