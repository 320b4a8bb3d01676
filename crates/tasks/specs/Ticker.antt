-- Many ticks with one table, on states in words. No part of the paper's model: the contracts of src/ticker.rt cite it, and
-- proofs/Ticking.antt and proofs/Free.antt show that from a proper state it gives the state after a tick of Tick.antt, and from any the
-- mask of Masks.antt.
use Rattle.std.specs.Prelude.{ℕ, ◌+◌, ◌-◌, ◌*◌, ◌/◌, ◌%◌, ◌^◌, List, Bool, false, get_or, eqb, ltb}
use Rattle.std.specs.Int.Bits.{bit_and}
use Rattle.lists.specs.Lists.{eight, pick, bits_of}
use Rattle.jobs.specs.Place.{base_of, gap_mask, work_mask, moved}
use Rattle.tasks.specs.State.{start, not_preempted}
use Rattle.tasks.specs.Tick.{released, ran}
use Rattle.cores.specs.Walk.{taken}
use Rattle.tasks.specs.Words.{words_of}
use Rattle.tasks.specs.declared.table.Table.{Table}
use Rattle.tasks.specs.declared.ticker.Prepared.{Prepared}
use Rattle.tasks.specs.declared.ticker.Ticker.{Ticker}

-- ---- the places, from the words

-- the task with word w has a job with work left
abbrev pub ready_in : ℕ → Bool
ready_in w = ltb 0 (w % 256)

-- its job keeps its processor: less work is left than `kept`
abbrev pub keeps_in : ℕ → ℕ → Bool
keeps_in kept w = ltb (w % 256) kept

-- the place of a task with word w
unfoldable pub place_in : ℕ → ℕ → ℕ → ℕ → ℕ → ℕ
place_in bygap bywork kept base w =
    pick (ready_in w) (pick (keeps_in kept w) 0 (moved bygap bywork base (w / 256) (w % 256))) 65535

-- the places of eight tasks
unfoldable pub places_in : List ℕ → List ℕ → List ℕ → List ℕ → List ℕ → List ℕ
places_in bygap bywork kept base v =
    eight (λ i. place_in (get_or bygap i 0) (get_or bywork i 0) (get_or kept i 0) (get_or base i 0) (get_or v i 0))

-- ---- a table made ready

-- the work below which task i's job keeps its processor
unfoldable pub kept_at : Table → ℕ → ℕ
kept_at t i = pick (not_preempted t) (get_or t.work i 0) 0

-- its place but for what its two numbers add to it
unfoldable pub base_at : Table → ℕ → ℕ
base_at t i = base_of t.policy (get_or t.deadline i 0) (get_or t.gap i 0)

-- what a release leaves of a task is read off a state in which every task has just been released
unfoldable pub ticker_of : Table → Ticker
ticker_of t =
    record {
      bits = eight (λ i. 2 ^ i);
      kept = eight (kept_at t);
      base = eight (base_at t);
      bygap = eight (λ i. gap_mask t.policy);
      bywork = eight (λ i. work_mask t.policy);
      newplace = places_in (eight (λ i. gap_mask t.policy)) (eight (λ i. work_mask t.policy)) (eight (kept_at t)) (eight (base_at t)) (words_of (released t start 255));
      newword = words_of (ran (released t start 255) (eight (λ i. false)));
      limit = eight (λ i. pick (ltb i t.n) 256 0);
      m = t.m;
    }

-- ---- a state made ready

-- the word after the tick of a task that is not released, but for its run
unfoldable pub old_word : ℕ → ℕ
old_word w = w % 256 + 256 * (w / 256 - 1)

unfoldable pub prepared_by : Ticker → List ℕ → Prepared
prepared_by k v =
    record {
      place = places_in k.bygap k.bywork k.kept k.base v;
      word = eight (λ i. old_word (get_or v i 0));
    }

-- ---- a tick

-- the old number of task i where the mask does not release it, else the new one
unfoldable pub selected : List ℕ → ℕ → List ℕ → List ℕ → ℕ → ℕ
selected bits mask old new i = pick (eqb (bit_and mask (get_or bits i 0)) 0) (get_or old i 0) (get_or new i 0)

-- the words with those of the tasks that run lowered
unfoldable pub lowered : List ℕ → List ℕ → ℕ → List ℕ
lowered places words m = eight (λ i. get_or words i 0 - pick (taken places m i) 1 0)

-- the words after a tick
unfoldable pub ticked_by : Ticker → Prepared → ℕ → List ℕ
ticked_by k r mask =
    lowered
    (eight (selected k.bits mask r.place k.newplace))
    (eight (selected k.bits mask r.word k.newword))
    k.m

-- ---- what may be released

-- task i may be released: its word is below its limit
unfoldable pub releasable_in : Ticker → List ℕ → ℕ → Bool
releasable_in k v i = ltb (get_or v i 0) (get_or k.limit i 0)

-- the mask of all tasks that may be released
unfoldable pub free_by : Ticker → List ℕ → ℕ
free_by k v = bits_of 8 (releasable_in k v)
