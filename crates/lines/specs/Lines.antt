-- The lines of a verdict (document 01, "Benchmark tables"), as bytes: `safe N`, `unsafe L N` then one mask a line, `room K`, or `refused
-- R`.
use Rattle.std.specs.Prelude.{ℕ, zero, suc, ◌+◌, ◌/◌, ◌%◌, List, [], ◌∷◌, ◌++◌, ltb, length, take, drop, Result, Ok, Err}
use Rattle.lists.specs.Lists.{pick}
use Rattle.tasks.specs.declared.refusal.Refusal.{Refusal}
use Rattle.search.specs.declared.run.Verdict.{Verdict}
use Rattle.search.specs.declared.run.Verdict.TheVariants.{Safe, Unsafe, NoRoom}

-- ---- numbers

-- the decimal digits of x in ASCII, of which there are at most k + 1
unfoldable pub digits_in : ℕ → ℕ → List ℕ
digits_in zero x = (48 + x) ∷ []
digits_in (suc k) x = pick (ltb x 10) ((48 + x) ∷ []) (digits_in k (x / 10) ++ (48 + x % 10) ∷ [])

-- a number in decimal
unfoldable pub decimal : ℕ → List ℕ
decimal x = digits_in x x

-- ---- lines

-- a word, a number, and the end of the line
unfoldable pub line : List ℕ → ℕ → List ℕ
line word x = (word ++ decimal x) ++ 10 ∷ []

-- the words with the space after them: "safe ", "unsafe ", "room ", "refused "; and a space alone
abbrev pub safe_word : List ℕ
safe_word = 115 ∷ 97 ∷ 102 ∷ 101 ∷ 32 ∷ []

abbrev pub unsafe_word : List ℕ
unsafe_word = 117 ∷ 110 ∷ 115 ∷ 97 ∷ 102 ∷ 101 ∷ 32 ∷ []

abbrev pub room_word : List ℕ
room_word = 114 ∷ 111 ∷ 111 ∷ 109 ∷ 32 ∷ []

abbrev pub refused_word : List ℕ
refused_word = 114 ∷ 101 ∷ 102 ∷ 117 ∷ 115 ∷ 101 ∷ 100 ∷ 32 ∷ []

abbrev pub blank : List ℕ
blank = 32 ∷ []

-- an answer with the number of its refusal
abbrev pub numbered : {R : Type 0} → (R → ℕ) → Result Verdict R → Result Verdict ℕ
numbered number (Ok verdict) = Ok verdict
numbered number (Err why) = Err (number why)

-- the first line of an answer, whose refusal is any number
unfoldable pub first_line : Result Verdict ℕ → List ℕ
first_line (Ok (Safe n)) = line safe_word n
first_line (Ok (Unsafe l n)) = (unsafe_word ++ decimal l) ++ line blank n
first_line (Ok (NoRoom n)) = line room_word n
first_line (Err r) = line refused_word r

-- one mask a line
unfoldable pub mask_lines : List ℕ → List ℕ
mask_lines [] = []
mask_lines (mask ∷ masks) = line [] mask ++ mask_lines masks

-- the masks that an answer gives: under Unsafe the first L of the trace blank
unfoldable pub masks_given : Result Verdict ℕ → List ℕ → List ℕ
masks_given (Ok (Safe n)) trace = []
masks_given (Ok (Unsafe l n)) trace = take l trace
masks_given (Ok (NoRoom n)) trace = []
masks_given (Err r) trace = []

-- all lines of an answer
unfoldable pub lines_of : Result Verdict ℕ → List ℕ → List ℕ
lines_of a trace = first_line a ++ mask_lines (masks_given a trace)

-- ---- written to an output

-- what is answered: the length, or 12 where the output is shorter
unfoldable pub lines_writing : Result Verdict ℕ → List ℕ → List ℕ → Result ℕ Refusal
lines_writing a trace out =
    pick (ltb (length out) (length (lines_of a trace))) (Err Refusal.ShortOutput) (Ok (length (lines_of a trace)))

-- the output afterwards: the lines at its front, later bytes as they were; a refusal leaves every byte
unfoldable pub lines_out : Result Verdict ℕ → List ℕ → List ℕ → List ℕ
lines_out a trace out =
    pick (ltb (length out) (length (lines_of a trace))) out (lines_of a trace ++ drop (length (lines_of a trace)) out)
