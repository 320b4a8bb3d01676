-- The lines and their lengths. Assumes nothing.
use Prim.Native.Nat.{ℕ, zero, suc, ◌+◌, ◌*◌, ◌≤◌, ◌<◌}
use mathlib.Core.Path.{◌≡◌, ap, ◌∙◌}
use mathlib.Core.List.{List, [], ◌∷◌, ◌++◌}
use native.Mathlib.Omega.{arith}
use native.Mathlib.Numerals.{add-one}
use lib.ListN.{length, get_or, take, drop, length-append}
use lib.Seq.{drop-cons, drop-length, sets, sets-eq}
use borrow.Author.Tests.{lt-ltb, le-ltb}
use Rattle.std.specs.Prelude.{Result, Ok, Err}
use Rattle.tasks.specs.declared.refusal.Refusal.{Refusal}
use Rattle.search.specs.declared.run.Verdict.{Verdict}
use Rattle.search.specs.declared.run.Verdict.TheVariants.{Safe, Unsafe, NoRoom}
use Rattle.lines.specs.Lines.{decimal, line, unsafe_word, blank, first_line, mask_lines, masks_given, lines_of, lines_writing, lines_out}
use Rattle.lines.proofs.Digits.{decimal_byte}

-- ---- lengths

pub line_length : (word : List ℕ) (x : ℕ) → length (line word x) ≡ length word + length (decimal x) + 1
unfolding line
line_length word x =
    length-append (word ++ decimal x) (10 ∷ []) ∙ ap (λ n. n + 1) (length-append word (decimal x))

pub safe_length : (n : ℕ) → length (first_line (Ok (Safe n))) ≡ 5 + length (decimal n) + 1
unfolding first_line
safe_length n = line_length _ n

pub unsafe_length : (l n : ℕ) → length (first_line (Ok (Unsafe l n))) ≡ 7 + length (decimal l) + 1 + length (decimal n) + 1
unfolding first_line
unsafe_length l n =
    omega (arith, length-append (unsafe_word ++ decimal l) (line blank n), length-append unsafe_word (decimal l), line_length blank n)

pub room_length : (n : ℕ) → length (first_line (Ok (NoRoom n))) ≡ 5 + length (decimal n) + 1
unfolding first_line
room_length n = line_length _ n

pub refused_length : (r : ℕ) → length (first_line (Err r)) ≡ 8 + length (decimal r) + 1
unfolding first_line
refused_length r = line_length _ r

-- ---- the masks, one after the other

pub masks_turn : (masks : List ℕ) (i : ℕ) → i < length masks → mask_lines (drop i masks) ≡ line [] (get_or masks i 0) ++ mask_lines (drop (i + 1) masks)
unfolding mask_lines
masks_turn masks i h = rw (drop-cons masks i 0 h, add-one i)

pub masks_end : (masks : List ℕ) (i : ℕ) → i ≡ length masks → mask_lines (drop i masks) ≡ []
unfolding mask_lines
masks_end masks i e = rw (e, drop-length masks)

pub masks_longer : (masks : List ℕ) (i : ℕ) → i < length masks → length (mask_lines (drop i masks)) ≡ length (decimal (get_or masks i 0)) + 1 + length (mask_lines (drop (i + 1) masks))
masks_longer masks i h =
    omega (arith, ap length (masks_turn masks i h), length-append (line [] (get_or masks i 0)) (mask_lines (drop (i + 1) masks)), line_length [] (get_or masks i 0))

-- ---- all lines

module _ (a : Result Verdict ℕ) (trace : List ℕ) where
  pub lines_length : length (lines_of a trace) ≡ length (first_line a) + length (mask_lines (masks_given a trace))
  unfolding lines_of
  lines_length = length-append (first_line a) (mask_lines (masks_given a trace))

  module _ (out : List ℕ) where
    -- the output is too short
    pub lines_short : length out < length (lines_of a trace) → (Err Refusal.ShortOutput ≡ lines_writing a trace out) × (out ≡ lines_out a trace out)
    unfolding lines_writing lines_out
    lines_short h = let e = lt-ltb (length out) (length (lines_of a trace)) h in (rw e, rw e)

    -- the lines stand at its front
    pub lines_fit :
        length (lines_of a trace) ≤ length out
        → (Ok (length (lines_of a trace)) ≡ lines_writing a trace out) × (lines_of a trace ++ drop (length (lines_of a trace)) out ≡ lines_out a trace out)
    unfolding lines_writing lines_out
    lines_fit h = let e = le-ltb (length out) (length (lines_of a trace)) h in (rw e, rw e)

    pub lines_stored : length (lines_of a trace) ≤ length out → sets out 0 (lines_of a trace) ≡ lines_out a trace out
    lines_stored h =
        let z : 0 + length (lines_of a trace) ≡ length (lines_of a trace) = omega arith in
        sets-eq (lines_of a trace) out 0 (omega arith) ∙ ap (λ n. lines_of a trace ++ drop n out) z ∙ (lines_fit h).1

-- ---- how long the lines can be

-- a mask's line has at most four bytes
masks_most : (l : ℕ) (trace : List ℕ) → ((i : ℕ) → get_or trace i 0 < 256) → length (mask_lines (take l trace)) ≤ 4 * length trace
unfolding mask_lines
masks_most zero trace byte = omega arith
masks_most (suc l) [] byte = omega arith
masks_most (suc l) (m ∷ ms) byte =
    omega
    (arith, length-append (line [] m) (mask_lines (take l ms)), line_length [] m, decimal_byte m (byte 0), masks_most l ms (λ i. byte (suc i)))

given_most : (a : Result Verdict ℕ) (trace : List ℕ) → ((i : ℕ) → get_or trace i 0 < 256) → length (mask_lines (masks_given a trace)) ≤ 4 * length trace
unfolding masks_given mask_lines
given_most (Ok (Safe n)) trace byte = omega arith
given_most (Ok (Unsafe l n)) trace byte = masks_most l trace byte
given_most (Ok (NoRoom n)) trace byte = omega arith
given_most (Err r) trace byte = omega arith

-- LAW: the lines of an answer with a trace blank of n bytes
pub lines_most : (a : Result Verdict ℕ) (trace : List ℕ) → length (first_line a) ≤ 60 → ((i : ℕ) → get_or trace i 0 < 256) → length (lines_of a trace) ≤ 60 + 4 * length trace
lines_most a trace h byte = omega (arith, lines_length a trace, given_most a trace byte)
