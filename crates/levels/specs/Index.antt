-- Only the search's bookkeeping, no part of its claim: a hash index over numbered states.
-- A bucket has a chain of slots, from the newest to the oldest: head b is its first and link j the one after slot j, where slot i is
-- written i + 1 and 0 ends the chain.
use Rattle.std.specs.Prelude.{◌≡◌, ◌≢◌, ℕ, suc, ◌≤◌, ◌<◌}

-- the index of the first n slots
pub record Index {S : Type 0} (hash : S → ℕ) (at : ℕ → S) (head link : ℕ → ℕ) (n : ℕ) : Type 0 where
  -- head b is 0 or one more than a slot of bucket b, and no slot from head b on is of bucket b
  pub head_low : (b : ℕ) → head b ≤ n
  pub head_last : (b i : ℕ) → head b ≤ i → i < n → hash (at i) ≢ b
  pub head_hash : (b i : ℕ) → head b ≡ suc i → hash (at i) ≡ b
  -- link j is 0 or one more than a slot of j's bucket, and no slot from link j to j - 1 is of j's bucket
  pub link_low : (j : ℕ) → j < n → link j ≤ j
  pub link_last : (j i : ℕ) → j < n → link j ≤ i → i < j → hash (at i) ≢ hash (at j)
  pub link_hash : (j i : ℕ) → j < n → link j ≡ suc i → hash (at i) ≡ hash (at j)
