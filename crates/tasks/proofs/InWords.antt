-- A state and its words. Assumes nothing.
use Prim.Native.Nat.{ℕ, ◌+◌, ◌*◌, ◌/◌, ◌%◌, ◌<◌}
use mathlib.Core.Path.{◌≡◌, sym, ap, ◌∙◌}
use mathlib.Core.List.{List}
use native.Mathlib.Omega.{arith}
use lib.ListN.{length, get_or}
use lib.Seq.{ext_get_or}
use mir.Syntax.{w8, w16}
use mir.Val.{Fits}
use Rattle.lists.specs.Lists.{eight}
use Rattle.jobs.specs.Job.{late_job}
use Rattle.tasks.specs.State.{late}
use Rattle.tasks.specs.Words.{words_of, state_of}
use Rattle.tasks.specs.declared.state.State.{State}
use Rattle.tasks.specs.declared.table.Table.{Table}
use Rattle.lists.proofs.Fill.{eight_at}

-- the state's numbers are bytes, eight of each
pub record StateBytes (s : State) : Type 0 where
  pub c_length : length s.c ≡ 8
  pub p_length : length s.p ≡ 8
  pub c : (i : ℕ) → i < 8 → Fits w8 (get_or s.c i 0)
  pub p : (i : ℕ) → i < 8 → Fits w8 (get_or s.p i 0)

-- the words are of two bytes
pub record WordList (v : List ℕ) : Type 0 where
  pub word : (i : ℕ) → i < 8 → Fits w16 (get_or v i 0)

-- ---- states in words

low : (c p : ℕ) → c < 256 → (c + 256 * p) % 256 ≡ c
low c p h = omega arith

high : (c p : ℕ) → c < 256 → (c + 256 * p) / 256 ≡ p
high c p h = omega arith

pub state_same : {s u : State} → s.c ≡ u.c → s.p ≡ u.p → s ≡ u
state_same e h = λ x. record { c = e x; p = h x }

-- LAW: a word of a state
pub words_at : (s : State) (i : ℕ) → i < 8 → get_or (words_of s) i 0 ≡ get_or s.c i 0 + 256 * get_or s.p i 0
unfolding words_of
words_at s i h = eight_at 0 (λ i. get_or s.c i 0 + 256 * get_or s.p i 0) i h

-- LAW: the words have two bytes
pub words_fit : (s : State) → StateBytes s → WordList (words_of s)
words_fit s b = record { word = λ i h. rw (words_at s i h) (record { fits = omega (arith, b.c i h, b.p i h) }) }

-- LAW: the state of a state's words is the state
pub words_state : (s : State) → StateBytes s → state_of (words_of s) ≡ s
unfolding state_of
words_state s b =
    state_same
    (ext_get_or 0 (eight (λ i. get_or (words_of s) i 0 % 256)) s.c (sym b.c_length) (λ i h. c_same i (omega arith)))
    (ext_get_or 0 (eight (λ i. get_or (words_of s) i 0 / 256)) s.p (sym b.p_length) (λ i h. p_same i (omega arith)))
  where
    c_same : (i : ℕ) → i < 8 → get_or (eight (λ i. get_or (words_of s) i 0 % 256)) i 0 ≡ get_or s.c i 0
    c_same i h =
        eight_at 0 (λ i. get_or (words_of s) i 0 % 256) i h
        ∙ ap (λ w. w % 256) (words_at s i h)
        ∙ low (get_or s.c i 0) (get_or s.p i 0) (omega (arith, b.c i h))

    p_same : (i : ℕ) → i < 8 → get_or (eight (λ i. get_or (words_of s) i 0 / 256)) i 0 ≡ get_or s.p i 0
    p_same i h =
        eight_at 0 (λ i. get_or (words_of s) i 0 / 256) i h
        ∙ ap (λ w. w / 256) (words_at s i h)
        ∙ high (get_or s.c i 0) (get_or s.p i 0) (omega (arith, b.c i h))

-- ---- a state read from its words

module _ (v : List ℕ) (i : ℕ) (h : i < 8) where
  -- LAW: c of task i
  pub work_word : get_or (state_of v).c i 0 ≡ get_or v i 0 % 256
  unfolding state_of
  work_word = eight_at 0 (λ k. get_or v k 0 % 256) i h

  -- LAW: p of task i
  pub gap_word : get_or (state_of v).p i 0 ≡ get_or v i 0 / 256
  unfolding state_of
  gap_word = eight_at 0 (λ k. get_or v k 0 / 256) i h

  pub late_word :
      (t : Table)
      → late_job (get_or t.deadline i 0) (get_or t.gap i 0) (get_or v i 0 / 256) (get_or v i 0 % 256) ≡ late t (state_of v) i
  unfolding late
  late_word t = rw (work_word, gap_word)
