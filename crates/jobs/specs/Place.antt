-- The place of a job in the order, one number: the smaller goes first, and of equal ones that of the smaller task number. No part of the
-- paper's model: the code chooses by it, and the proofs of `tasks` show that it gives the choice of a tick (Place.antt and Ticking.antt
-- there).
use Rattle.std.specs.Prelude.{ℕ, suc, ◌+◌, ◌-◌, ◌*◌, ◌%◌, Bool, bit_and, nat_lt}
use Rattle.lists.specs.Lists.{pick}

-- 0 for a job that keeps its processor, 65535 for no job, else one more than how many jobs go before it
abbrev pub place_of : Bool → Bool → ℕ → ℕ
place_of has stays earlier = pick has (pick stays 0 (suc earlier)) 65535

-- ---- a place from the job's own numbers, for a state that is proper: 256 × key + 255 - age

-- that of p = 0 and c = 0, at sixteen bits
abbrev pub base_of : ℕ → ℕ → ℕ → ℕ
base_of policy deadline gap = pick (nat_lt policy 2) 255 ((256 * deadline + 255 + 65536 - 257 * gap) % 65536)

-- 255 where a policy goes by p, and where it goes by c; else 0
abbrev pub gap_mask : ℕ → ℕ
gap_mask policy = pick (nat_lt policy 2) 0 255

abbrev pub work_mask : ℕ → ℕ
work_mask policy = pick (nat_lt policy 4) 0 255

-- a base moved up by p, which raises the key and lowers the age, and down by c
abbrev pub moved : ℕ → ℕ → ℕ → ℕ → ℕ → ℕ
moved bygap bywork base p c = (bit_and p bygap * 257 + base + 65536 - bit_and c bywork * 256) % 65536
