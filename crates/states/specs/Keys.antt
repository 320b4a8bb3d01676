-- Only the bookkeeping of those who look states up, no part of any claim: a state's sixteen bytes as four numbers, and a hash of them.
use Rattle.std.specs.Prelude.{ℕ, ◌+◌, ◌*◌, Bool, ◌&&◌, List, ◌==◌, slice_index}
use Rattle.tasks.specs.declared.state.State.{State}
use Rattle.states.specs.Bytes.{four, four_at}
use Rattle.states.specs.declared.keys.Key.{Key}

-- word k has the bytes of tasks 2k and 2k + 1, counted from 0
unfoldable pub word_of : State → ℕ → ℕ
word_of s k = four (slice_index s.c (2 * k)) (slice_index s.p (2 * k)) (slice_index s.c (2 * k + 1)) (slice_index s.p (2 * k + 1))

unfoldable pub key_of : State → Key
key_of s = record { a = word_of s 0; b = word_of s 1; c = word_of s 2; d = word_of s 3 }

-- the key of the state in the bytes from a on
abbrev pub key_from : List ℕ → ℕ → Key
key_from w a = record { a = four_at w a; b = four_at w (a + 4); c = four_at w (a + 8); d = four_at w (a + 12) }

-- the key of state i of those that stand one after the other
unfoldable pub key_in : List ℕ → ℕ → Key
key_in w i = key_from w (16 * i)

unfoldable pub same_keys : Key → Key → Bool
same_keys k l = ((k.a == l.a && k.b == l.b) && k.c == l.c) && k.d == l.d

-- a sum in which every byte of the key counts: the factors are below 2^30, so it fits 64 bits
unfoldable pub mixed : Key → ℕ
mixed k = 625341585 * k.a + 1013904223 * k.b + 668265261 * k.c + 374761393 * k.d
