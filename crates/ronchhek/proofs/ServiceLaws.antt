-- The totals of a replay in their space, and the balance of the call. Assumes nothing.
use Prim.Native.Nat.{ℕ, ◌+◌, ◌*◌, ◌^◌, ◌≤◌, ◌<◌}
use mathlib.Core.Path.{◌≡◌, refl}
use mathlib.Core.List.{List}
use native.Mathlib.Omega.{arith}
use native.Mathlib.Nat.{mul-le-mul}
use lib.ListN.{length, get_or}
use borrow.Author.Tests.{le-leb, lt-leb}
use Rattle.lists.proofs.Fill.{eight_at}
use Rattle.std.specs.Prelude.{Ok, Err}
use Rattle.tasks.specs.Table.{table_fault}
use Rattle.tasks.specs.State.{start}
use Rattle.tasks.specs.Sheet.{sheet_of}
use Rattle.tasks.specs.Replay.{replayed}
use Rattle.tasks.specs.declared.table.Table.{Table}
use Rattle.tasks.specs.declared.refusal.Refusal.{Refusal}
use Rattle.tasks.specs.declared.refusal.Refusal.TheVariants.{Mask}
use Rattle.tasks.specs.declared.play.ReplayAnswer.{ReplayAnswer}
use Rattle.tasks.specs.declared.play.ReplayAnswer.TheVariants.{Played, Refused}
use Rattle.tasks.proofs.Tables.{ordered}
use Rattle.tasks.proofs.RoundTrip.{read_valid}
use Rattle.tasks.proofs.Played.{replayed_eleven}
use Rattle.service.specs.Totals.{releases, runs_in, release_count, ticks_run, account_of}
use Rattle.service.specs.Bytes.{totals_space}
use Rattle.service.specs.declared.totals.Totals.{Totals}
use Rattle.service.proofs.Balance.{balance, count_most}
use Rattle.service.proofs.ByteLaws.{releases_read, ran_read, left_read}
use Rattle.ronchhek.specs.Services.{answer_totals, table_totals, call_totals, total_at}

-- where a replay is refused with 11 or not at all, its totals are written whatever it answers
answer_written :
    (a : ReplayAnswer) (x : Totals) (space : List ℕ) → ((r : Refusal) (k : ℕ) → a ≡ Refused r k → r ≡ Mask) → totals_space x space ≡ answer_totals a x space
answer_written (Played o) x space h = refl
answer_written (Refused r k) x space h = rw (h r k refl)

module _ (sheet list space : List ℕ) where
  -- the sheet is refused
  pub unread_totals : {r : Refusal} → sheet_of sheet ≡ Err r → space ≡ call_totals sheet list space
  unfolding call_totals
  unread_totals e = rw e

  module _ {t : Table} (read : sheet_of sheet ≡ Ok t) where
    pub long_totals : 2 ^ 48 ≤ length list → space ≡ call_totals sheet list space
    unfolding call_totals table_totals
    long_totals h = rw (read, le-leb (2 ^ 48) (length list) h)

    -- the totals of a valid table are written, whatever the answer
    pub totals_written :
        ((j : ℕ) → get_or sheet j 0 < 256) → length list < 2 ^ 48 → totals_space (account_of t list).totals space ≡ call_totals sheet list space
    unfolding call_totals table_totals
    totals_written byte short =
        rw (read, lt-leb (2 ^ 48) (length list) short)
        (answer_written (replayed t list).answer (account_of t list).totals space (replayed_eleven t (read_valid sheet byte t read) list))

-- ---- the balance, in the bytes that the call leaves

module _ (t : Table) (valid : table_fault t ≡ 0) (list : List ℕ) (short : length list < 2 ^ 48) (i : ℕ) (h : i < 8) where
  -- each number fits its 8 bytes
  few_releases : get_or (account_of t list).totals.releases i 0 < 2 ^ 48
  unfolding account_of release_count
  few_releases = rw (eight_at 0 (release_count t list) i h) (omega (arith, count_most t (releases i) start list))

  few_ticks : get_or (account_of t list).totals.ran i 0 < 2 ^ 48
  unfolding account_of ticks_run
  few_ticks = rw (eight_at 0 (ticks_run t list) i h) (omega (arith, count_most t (runs_in t i) start list))

  little_left : get_or (account_of t list).totals.left i 0 < 2 ^ 64
  little_left =
      let o = ordered t valid i h in
      let few : get_or (account_of t list).totals.releases i 0 ≤ 2 ^ 48 = omega (arith, few_releases) in
      let short-work : get_or t.work i 0 ≤ 200 = omega (arith, o.work, o.deadline, o.least) in
      let most = mul-le-mul few short-work in
      omega (arith, most, (balance t list).each i h)

  bytes_balanced :
      (space : List ℕ) → 192 ≤ length space
      → total_at (totals_space (account_of t list).totals space) i 0 * get_or t.work i 0
      ≡ total_at (totals_space (account_of t list).totals space) i 1 + total_at (totals_space (account_of t list).totals space) i 2
  unfolding total_at
  bytes_balanced space room =
      let x = (account_of t list).totals in
      rw (releases_read x space room i h (omega (arith, few_releases)), ran_read x space room i h (omega (arith, few_ticks)), left_read x space room i h (omega (arith, little_left)))
      ((balance t list).each i h)

-- THEOREM: after every call with an accepted sheet and room for the totals, whatever the list and the answer, the bytes of each task
-- balance
pub service_balanced :
    (sheet list space : List ℕ) → ((j : ℕ) → get_or sheet j 0 < 256) → {t : Table} → sheet_of sheet ≡ Ok t → length list < 2 ^ 48
    → 192 ≤ length space → (i : ℕ) → i < 8
    → total_at (call_totals sheet list space) i 0 * get_or t.work i 0
    ≡ total_at (call_totals sheet list space) i 1 + total_at (call_totals sheet list space) i 2
service_balanced sheet list space byte {t} read short room i h =
    rw (← totals_written sheet list space read byte short) (bytes_balanced t (read_valid sheet byte t read) list short i h space room)
