-- The state of bytes in words, and the key of a state in words. Assumes nothing.
use Rattle.std.proofs.Common.{◌≡◌, ℕ, ◌+◌, ◌*◌, ◌/◌, ◌%◌, ◌<◌, List, get_or, sym, refl, arith, w8, w16, Fits}
use Rattle.lists.specs.Lists.{eight}
use Rattle.tasks.specs.Words.{state_of}
use Rattle.lists.proofs.Fill.{eight_at, eight_same}
use Rattle.tasks.proofs.InWords.{work_word, gap_word}
use Rattle.states.specs.Keys.{word_of}
use Rattle.states.specs.Bytes.{state_from}
use Rattle.states.proofs.KeyLaws.{Bytes}

low : (x y : ℕ) → Fits w8 x → (x + 256 * y) % 256 ≡ x
low x y f = omega arith

high : (x y : ℕ) → Fits w8 x → (x + 256 * y) / 256 ≡ y
high x y f = omega arith

-- the words of a state's bytes are the state
pub loaded :
    (w : List ℕ) (a : ℕ) → ((k : ℕ) → Fits w8 (get_or w k 0))
    → state_of (eight (λ j. get_or w (a + 2 * j) 0 + 256 * get_or w (a + 2 * j + 1) 0)) ≡ state_from w a
unfolding state_of
loaded w a fits =
    λ x. record {
      c = eight_same (λ j. get_or (eight f) j 0 % 256) (λ j. get_or w (a + 2 * j) 0) (λ j h. rw (eight_at 0 f j h) (low (get_or w (a + 2 * j) 0) (get_or w (a + 2 * j + 1) 0) (fits (a + 2 * j)))) x;
      p = eight_same (λ j. get_or (eight f) j 0 / 256) (λ j. get_or w (a + 2 * j + 1) 0) (λ j h. rw (eight_at 0 f j h) (high (get_or w (a + 2 * j) 0) (get_or w (a + 2 * j + 1) 0) (fits (a + 2 * j)))) x;
    }
  where
    f : ℕ → ℕ
    f j = get_or w (a + 2 * j) 0 + 256 * get_or w (a + 2 * j + 1) 0

whole : (x y : ℕ) → x % 256 + 256 * (x / 256) + 65536 * (y % 256) + 16777216 * (y / 256) ≡ x + 65536 * y
whole x y = omega arith

-- word k of a key is made of two words of the state
pub key_word : (v : List ℕ) (k : ℕ) → k < 4 → get_or v (2 * k) 0 + 65536 * get_or v (2 * k + 1) 0 ≡ word_of (state_of v) k
unfolding word_of
key_word v k h =
    rw (work_word v (2 * k) (omega arith), gap_word v (2 * k) (omega arith), work_word v (2 * k + 1) (omega arith), gap_word v (2 * k + 1) (omega arith))
    (sym (whole (get_or v (2 * k) 0) (get_or v (2 * k + 1) 0)))

-- a state in words has bytes
pub word_bytes : (v : List ℕ) → ((k : ℕ) → k < 8 → Fits w16 (get_or v k 0)) → Bytes (state_of v)
unfolding state_of
word_bytes v fits = record {
  c_length = refl;
  p_length = refl;
  c_fits = λ k b. rw (work_word v k b) (omega arith);
  p_fits = λ k b. let f = fits k b in rw (gap_word v k b) (omega arith);
}
