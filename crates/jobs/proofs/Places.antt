-- The order of the places of jobs that are in time is that of their keys and ages. Assumes nothing.
use Rattle.std.proofs.Common.{◌≡◌, ℕ, suc, ◌+◌, ◌-◌, ◌*◌, ◌%◌, ◌<◌, ◌≤◌, not, ◌&&◌, ◌||◌, ltb, pos, ap, ◌∙◌, mul-le-mul_right, arith, ltb-false, le-ltb, lt-ltb}
use lib.Bits.{bit_and, and_zero_r, and_mask}
use lib.Signed.{lt_z}
use Rattle.lists.specs.Lists.{pick}
use Rattle.lists.proofs.Bools.{by_bool}
use Rattle.jobs.specs.Job.{job_key, job_age, lex}
use Rattle.jobs.specs.Place.{base_of, gap_mask, work_mask, moved}
use Rattle.jobs.proofs.Signed.{by_lt, sub_ge, pos_sub_pos, ltb_same, time_left_sub, slack_sub}

-- ---- a field put below another

-- a smaller high field decides, whatever the low ones below w are
high : (w a b x : ℕ) → a < b → x < w → a * w + x < b * w
high w a b x h f = omega (arith, mul-le-mul_right {m = suc a} {n = b} w (omega arith), row)
  where
    row : suc a * w ≡ a * w + w
    row = omega arith

-- numbers made of a high field and a low one below w compare by the high one first
pack_less : (w a b x y : ℕ) → x < w → y < w → ltb (a * w + x) (b * w + y) ≡ (ltb a b || (not (ltb b a) && ltb x y))
pack_less w a b x y f g =
    by_lt a b
    (λ h. rw (lt-ltb a b h) (lt-ltb (a * w + x) (b * w + y) (omega (arith, high w a b x h f))))
    (λ h.
    by_lt b a
    (λ k. rw (le-ltb a b h, lt-ltb b a k) (le-ltb (a * w + x) (b * w + y) (omega (arith, high w b a y k g))))
    (λ k. let q : a ≡ b = omega arith in rw (q, le-ltb b b (omega arith)) (ltb_same (b * w + x) (b * w + y) x y (λ z. omega arith) (λ z. omega arith))))

-- ---- a job in time

-- the numbers of a job that is not late, of a table's task: what those of a proper state are
pub record InTime (d g p c : ℕ) : Type 0 where
  pub least : g ≤ 200
  pub deadline : d ≤ g
  pub gap : p ≤ g
  pub kept : g + c ≤ d + p

-- key and age in natural numbers
key_in : ℕ → ℕ → ℕ → ℕ → ℕ → ℕ
key_in policy d g p c = pick (ltb policy 2) 0 (pick (ltb policy 4) (d + p - g) (d + p - (g + c)))

age_in : ℕ → ℕ → ℕ → ℕ
age_in policy g p = pick (ltb policy 2) 0 (g - p)

-- the place
abbrev pub job_place : ℕ → ℕ → ℕ → ℕ → ℕ → ℕ
job_place policy d g p c = moved (gap_mask policy) (work_mask policy) (base_of policy d g) p c

-- a sum at sixteen bits, of which b and z are taken off, that has a number of sixteen bits for its result
settled : (y a b z r : ℕ) → b ≤ 65536 → z ≤ 65536 → r < 65536 → y + a ≡ r + b + z → (y + (a + 65536 - b) % 65536 + 65536 - z) % 65536 ≡ r
settled y a b z r hb hz hr e =
    by_lt (a + 65536 - b) 65536
    (λ l. let v : (a + 65536 - b) % 65536 ≡ a + 65536 - b = omega arith in rw v (omega arith))
    (λ l. omega arith)

bits_all : (x : ℕ) → x < 256 → bit_and x 255 ≡ x
bits_all x h = and_mask x 8 ∙ omega arith

module _ (policy d g p c : ℕ) (t : InTime d g p c) where
  key_in_lem : job_key policy d g p c ≡ pos (key_in policy d g p c)
  unfolding job_key key_in
  key_in_lem =
      by_bool (ltb policy 2) (λ e. rw e)
      (λ e. rw e
      (by_bool (ltb policy 4)
      (λ h. rw h (time_left_sub d g p ∙ sub_ge (d + p) g (omega (arith, t.kept))))
      (λ h. rw h (slack_sub d g p c ∙ sub_ge (d + p) (g + c) t.kept))))

  age_in_lem : job_age policy g p ≡ pos (age_in policy g p)
  unfolding job_age age_in
  age_in_lem = by_bool (ltb policy 2) (λ e. rw e) (λ e. rw e (pos_sub_pos g p ∙ sub_ge g p t.gap))

  key_most : key_in policy d g p c ≤ 200
  unfolding key_in
  key_most =
      by_bool (ltb policy 2) (λ e. rw e (omega arith))
      (λ e. rw e
      (by_bool (ltb policy 4)
      (λ h. rw h (omega (arith, t.least, t.deadline, t.gap)))
      (λ h. rw h (omega (arith, t.least, t.deadline, t.gap)))))

  age_most : age_in policy g p ≤ 200
  unfolding age_in
  age_most = by_bool (ltb policy 2) (λ e. rw e (omega arith)) (λ e. rw e (omega (arith, t.least)))

  -- LAW: a place is 256 × key + 255 - age
  place_in_lem : job_place policy d g p c ≡ key_in policy d g p c * 256 + (255 - age_in policy g p)
  unfolding key_in age_in
  place_in_lem =
      by_bool (ltb policy 4)
      (λ e. rw (e, and_zero_r c)
      (by_bool (ltb policy 2)
      (λ k. rw (k, and_zero_r p))
      (λ k.
      rw (k, bits_all p (omega (arith, t.least, t.gap)))
      (settled (p * 257) (256 * d + 255) (257 * g) 0 ((d + p - g) * 256 + (255 - (g - p))) (omega (arith, t)) (omega arith) (omega (arith, t)) (omega (arith, t))))))
      (λ e.
      rw (e, le-ltb policy 2 (omega (arith, ltb-false policy 4 e)), bits_all p (omega (arith, t)), bits_all c (omega (arith, t)))
      (settled (p * 257) (256 * d + 255) (257 * g) (c * 256) ((d + p - (g + c)) * 256 + (255 - (g - p))) (omega (arith, t)) (omega (arith, t)) (omega (arith, t)) (omega (arith, t))))

  -- LAW: it is above 0 and below 65534
  pub place_range : (0 < job_place policy d g p c) × (job_place policy d g p c < 65534)
  place_range = (omega (arith, place_in_lem, age_most), omega (arith, place_in_lem, key_most))

-- LAW: of two jobs in time the smaller key has the smaller place, and of equal keys the greater age
pub place_less :
    (policy d g p c e h q b : ℕ) → InTime d g p c → InTime e h q b
    → ltb (job_place policy d g p c) (job_place policy e h q b)
    ≡ lex (job_key policy d g p c) (job_key policy e h q b) (lt_z (job_age policy h q) (job_age policy g p))
place_less policy d g p c e h q b t u =
    rw
    (place_in_lem policy d g p c t, place_in_lem policy e h q b u, key_in_lem policy d g p c t, key_in_lem policy e h q b u, age_in_lem policy d g p c t, age_in_lem policy e h q b u)
    (pack_less 256 (key_in policy d g p c) (key_in policy e h q b) (255 - age_in policy g p) (255 - age_in policy h q) (omega arith) (omega arith)
    ∙ ap (λ z. ltb (key_in policy d g p c) (key_in policy e h q b) || (not (ltb (key_in policy e h q b) (key_in policy d g p c)) && z))
    (ltb_same (255 - age_in policy g p) (255 - age_in policy h q) (age_in policy h q) (age_in policy g p)
    (λ z. omega arith)
    (λ z. omega (arith, age_most policy d g p c t))))
