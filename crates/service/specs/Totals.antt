-- Where the core time of a replay went (document 02, §5): for each task three totals, and their balance.
use Rattle.std.specs.Prelude.{ℕ, ◌+◌, ◌*◌, ◌<◌, ◌≡◌, Bool, false, List, [], ◌∷◌, get_or}
use Rattle.lists.specs.Lists.{eight, pick}
use Rattle.std.specs.Prelude.{Result, Ok, Err}
use Rattle.tasks.specs.declared.refusal.Refusal.{Refusal}
use Rattle.tasks.specs.State.{start}
use Rattle.tasks.specs.Tick.{bit, released, chosen, ticked}
use Rattle.tasks.specs.Replay.{replayed}
use Rattle.tasks.specs.declared.state.State.{State}
use Rattle.tasks.specs.declared.table.Table.{Table}
use Rattle.tasks.specs.declared.tick.Step.{Step}
use Rattle.tasks.specs.declared.tick.Step.TheVariants.{Next, Missed}
use Rattle.tasks.specs.declared.play.Replayed.{Replayed}
use Rattle.service.specs.declared.totals.Totals.{Totals}
use Rattle.service.specs.declared.totals.Account.{Account}

-- ---- the ticks played

-- what a tick adds to a count, where `rest` is that of the masks after it: a tick that is refused is not counted, and after a miss no mask
-- is read
abbrev pub count_next : ℕ → ℕ → Result Step Refusal → ℕ
count_next one rest (Ok Next) = one + rest
count_next one rest (Ok Missed) = one
count_next one rest (Err r) = 0

-- how many ticks of a list, played from state s, pass a test of the state before the tick and of its mask
unfoldable pub count_ticks : Table → (State → ℕ → Bool) → State → List ℕ → ℕ
count_ticks t test s [] = 0
count_ticks t test s (mask ∷ masks) =
    count_next (pick (test s mask) 1 0) (count_ticks t test (ticked t s mask).state masks) (ticked t s mask).answer

-- ---- the totals of task i, which is numbered from 0

-- a tick releases it: its bit is set
abbrev pub releases : ℕ → State → ℕ → Bool
releases i s mask = bit mask i

-- it runs in a tick, "read off the choices of the ticks played, not off c"
abbrev pub runs_in : Table → ℕ → State → ℕ → Bool
runs_in t i s mask = get_or (chosen t (released t s mask)) i false

-- "number of releases"
unfoldable pub release_count : Table → List ℕ → ℕ → ℕ
release_count t masks i = count_ticks t (releases i) start masks

-- "ticks in which it ran"
unfoldable pub ticks_run : Table → List ℕ → ℕ → ℕ
ticks_run t masks i = count_ticks t (runs_in t i) start masks

-- ---- a replay with its totals

-- what a replay answers, with its releases and ticks: "work left at the end" is c of its state, that before the tick where one is refused
abbrev pub account_from : Replayed → List ℕ → List ℕ → Account
account_from r releases ran = record { replayed = r; totals = record { releases = releases; ran = ran; left = r.state.c } }

-- for any table and list; a bad table (4 to 7) refuses every tick, so its totals are all 0
unfoldable pub account_of : Table → List ℕ → Account
account_of t masks = account_from (replayed t masks) (eight (release_count t masks)) (eight (ticks_run t masks))

-- ---- the balance

-- "number of releases × C = ticks in which it ran + work left at the end", for each task
pub record Balanced (t : Table) (x : Totals) : Type 0 where
  pub each : (i : ℕ) → i < 8 → get_or x.releases i 0 * get_or t.work i 0 ≡ get_or x.ran i 0 + get_or x.left i 0
