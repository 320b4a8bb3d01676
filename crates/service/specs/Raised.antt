-- How the code raises the totals by a tick. No part of the paper.
use Rattle.std.specs.Prelude.{ℕ, ◌+◌, ◌<◌, Bool, false, List, get_or}
use Rattle.lists.specs.Lists.{pick}

-- each of eight numbers can be raised by 1 in 64 bits
pub record Room (numbers : List ℕ) : Type 0 where
  pub each : (i : ℕ) → i < 8 → get_or numbers i 0 < 18446744073709551615

-- number i, and one more where its task is among those given
unfoldable pub raised_at : List ℕ → List Bool → ℕ → ℕ
raised_at numbers tasks i = get_or numbers i 0 + pick (get_or tasks i false) 1 0
