-- A signed difference of two natural numbers, `sub_ℕ a b`, and what a signed test says in natural numbers. Assumes nothing.
use Rattle.std.proofs.Common.{◌≡◌, ℕ, zero, suc, ◌+◌, ◌-◌, ◌^◌, ◌<◌, ◌≤◌, ltb, ℤ, pos, negsuc, ◌-ℤ◌, sym, refl, ap, ◌∙◌, zero-le, arith, w8, w16, Fits, SFits, to_z, of_z, le-ltb, lt-ltb}
use native.Mathlib.Decide.{dec_lt}
use lib.IntN.{sub_ℕ}
use lib.Signed.{lt_z, mag}
use mir.ValLaws.{to_z-of_z}
use Rattle.jobs.specs.Job.{time_left, slack}

pub by_lt : {X : Type 0} (a b : ℕ) → (a < b → X) → (b ≤ a → X) → X
by_lt a b f g = elim (dec_lt a b) [ yes h ↦ f h | no n ↦ g (omega arith) ]

pub sub_lt : (a b : ℕ) → a < b → sub_ℕ a b ≡ negsuc (b - suc a)
sub_lt a b h = rw (lt-ltb a b h)

pub sub_ge : (a b : ℕ) → b ≤ a → sub_ℕ a b ≡ pos (a - b)
sub_ge a b h = rw (le-ltb a b h)

-- the range of a difference
pub mag_sub : (a b n : ℕ) → a < n → b ≤ n → mag (sub_ℕ a b) < n
mag_sub a b n ha hb =
    by_lt a b (λ h. rw (sub_lt a b h) (omega arith)) (λ h. rw (sub_ge a b h) (omega arith))

-- two equal differences
pub sub_same : (a b c d : ℕ) → a + d ≡ c + b → sub_ℕ a b ≡ sub_ℕ c d
sub_same a b c d e =
    by_lt a b
    (λ h. sub_lt a b h ∙ ap negsuc (omega arith) ∙ sym (sub_lt c d (omega arith)))
    (λ h. sub_ge a b h ∙ ap pos (omega arith) ∙ sym (sub_ge c d (omega arith)))

pub pos_sub_pos : (a b : ℕ) → pos a -ℤ pos b ≡ sub_ℕ a b
pos_sub_pos a zero = ap pos (omega arith) ∙ sym (sub_ge a 0 zero-le)
pos_sub_pos a (suc b) = refl

pub pos_sub_sub : (a b c : ℕ) → pos a -ℤ sub_ℕ b c ≡ sub_ℕ (a + c) b
pos_sub_sub a b c =
    by_lt b c
    (λ h. rw (sub_lt b c h) (ap pos (omega arith) ∙ sym (sub_ge (a + c) b (omega arith))))
    (λ h. rw (sub_ge b c h) (pos_sub_pos a (b - c) ∙ sub_same a (b - c) (a + c) b (omega arith)))

pub sub_sub_pos : (a b c : ℕ) → sub_ℕ a b -ℤ pos c ≡ sub_ℕ a (b + c)
sub_sub_pos a b c =
    by_lt a b
    (λ h. rw (sub_lt a b h) (neg c h))
    (λ h. rw (sub_ge a b h) (pos_sub_pos (a - b) c ∙ sub_same (a - b) c a (b + c) (omega arith)))
  where
    neg : (c : ℕ) → a < b → negsuc (b - suc a) -ℤ pos c ≡ sub_ℕ a (b + c)
    neg zero h = sub_same 0 (suc (b - suc a)) a (b + 0) (omega arith)
    neg (suc c) h = ap negsuc (omega arith) ∙ sym (sub_lt a (b + suc c) (omega arith))

-- two tests that say the same
pub ltb_same : (a b c d : ℕ) → (a < b → c < d) → (c < d → a < b) → ltb a b ≡ ltb c d
ltb_same a b c d f g =
    by_lt a b
    (λ h. lt-ltb a b h ∙ sym (lt-ltb c d (f h)))
    (λ h. le-ltb a b h ∙ sym (le-ltb c d (by_lt c d (λ k. let q : a < b = g k in omega arith) (λ k. k))))

-- a signed test of two differences, in natural numbers
pub lt_z_sub : (a b c d : ℕ) → lt_z (sub_ℕ a b) (sub_ℕ c d) ≡ ltb (a + d) (c + b)
lt_z_sub a b c d =
    by_lt a b
    (λ h. rw (sub_lt a b h)
    (by_lt c d
    (λ k. rw (sub_lt c d k) (ltb_same (d - suc c) (b - suc a) (a + d) (c + b) (λ q. omega arith) (λ q. omega arith)))
    (λ k. rw (sub_ge c d k) (sym (lt-ltb (a + d) (c + b) (omega arith))))))
    (λ h. rw (sub_ge a b h)
    (by_lt c d
    (λ k. rw (sub_lt c d k) (sym (le-ltb (a + d) (c + b) (omega arith))))
    (λ k. rw (sub_ge c d k) (ltb_same (a - b) (c - d) (a + d) (c + b) (λ q. omega arith) (λ q. omega arith)))))

-- a difference is negative
pub lt_z_zero : (a b : ℕ) → lt_z (sub_ℕ a b) (pos 0) ≡ ltb a b
lt_z_zero a b = lt_z_sub a b 0 0 ∙ ltb_same (a + 0) (0 + b) a b (λ q. omega arith) (λ q. omega arith)

-- ---- at sixteen bits

pub fits_sub : (a b : ℕ) → a < 32768 → b ≤ 32768 → SFits w16 (sub_ℕ a b)
fits_sub a b ha hb = record { sfits = mag_sub a b 32768 ha hb }

-- the time left and the slack, as one difference of natural numbers
pub time_left_sub : (d g p : ℕ) → time_left d g p ≡ sub_ℕ (d + p) g
time_left_sub d g p = ap (λ z. pos d -ℤ z) (pos_sub_pos g p) ∙ pos_sub_sub d g p

pub slack_sub : (d g p c : ℕ) → slack d g p c ≡ sub_ℕ (d + p) (g + c)
slack_sub d g p c = ap (λ z. z -ℤ pos c) (time_left_sub d g p) ∙ sub_sub_pos (d + p) g c

-- the slack goes by what p is above c, and no more
pub slack_same : (d g p c q e : ℕ) → p + e ≡ q + c → slack d g p c ≡ slack d g q e
slack_same d g p c q e h = slack_sub d g p c ∙ sub_same (d + p) (g + c) (d + q) (g + e) (omega arith) ∙ sym (slack_sub d g q e)

-- one tick of work more takes 1 off
pub slack_less : (d g p c : ℕ) → slack d g p (c + 1) ≡ slack d g p c -ℤ pos 1
slack_less d g p c =
    slack_sub d g p (c + 1)
    ∙ sub_same (d + p) (g + (c + 1)) (d + p) (g + c + 1) (omega arith)
    ∙ sym (ap (λ z. z -ℤ pos 1) (slack_sub d g p c) ∙ sub_sub_pos (d + p) (g + c) 1)

-- a job is late where D + p is below P + c
pub slack_late : (d g p c : ℕ) → lt_z (slack d g p c) (pos 0) ≡ ltb (d + p) (g + c)
slack_late d g p c = ap (λ z. lt_z z (pos 0)) (slack_sub d g p c) ∙ lt_z_zero (d + p) (g + c)

pub bytes_fit : {g p : ℕ} → Fits w8 g → Fits w8 p → SFits w16 (pos g -ℤ pos p)
bytes_fit {g} {p} fg fp = rw (pos_sub_pos g p) (fits_sub g p (omega arith) (omega arith))

pub time_left_fits : {d g p : ℕ} → Fits w8 d → Fits w8 g → Fits w8 p → SFits w16 (time_left d g p)
time_left_fits {d} {g} {p} fd fg fp = rw (time_left_sub d g p) (fits_sub (d + p) g (omega arith) (omega arith))

pub slack_fits : {d g p c : ℕ} → Fits w8 d → Fits w8 g → Fits w8 p → Fits w8 c → SFits w16 (slack d g p c)
slack_fits {d} {g} {p} {c} fd fg fp fc = rw (slack_sub d g p c) (fits_sub (d + p) (g + c) (omega arith) (omega arith))

-- a signed number that a call returned, read back from its bits
pub back : (z : ℤ) → mag z < 2 ^ 15 → to_z w16 (of_z w16 z) ≡ z
back z h = to_z-of_z w16 z (record { sfits = h })
