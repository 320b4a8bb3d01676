-- Where the core time of a replay went, for the plotter's C build (document 02, §5): a sheet, a list of masks, and a lent space for the
-- totals of eight tasks, 192 bytes. The number returned is that of the replay's call (`call_number` of Replays.antt) with a size of 192.
use Rattle.std.specs.Prelude.{ℕ, ◌+◌, ◌*◌, ◌^◌, List, eqb, leb, length}
use Rattle.lists.specs.Lists.{pick}
use Rattle.tasks.specs.Refusals.{refusal_number}
use Rattle.tasks.specs.Sheet.{sheet_of, table_in}
use Rattle.tasks.specs.Replay.{replayed}
use Rattle.tasks.specs.declared.table.Table.{Table}
use Rattle.tasks.specs.declared.play.ReplayAnswer.{ReplayAnswer}
use Rattle.tasks.specs.declared.play.ReplayAnswer.TheVariants.{Played, Refused}
use Rattle.service.specs.Totals.{account_of}
use Rattle.service.specs.Bytes.{low_at, totals_space}
use Rattle.service.specs.declared.totals.Totals.{Totals}
use Rattle.ronchhek.specs.Replays.{space_if_accepted}

-- the space afterwards: Kept, Missed and refusal 11 leave the totals at its front, where it has room for them; every other refusal leaves
-- all
abbrev pub answer_totals : ReplayAnswer → Totals → List ℕ → List ℕ
answer_totals (Played o) x space = totals_space x space
answer_totals (Refused r k) x space = pick (eqb (refusal_number r) 11) (totals_space x space) space

-- of a table; a list with more ticks than the answer has room for is not played (12)
unfoldable pub table_totals : Table → List ℕ → List ℕ → List ℕ
table_totals t list space =
    pick (leb (2 ^ 48) (length list)) space (answer_totals (replayed t list).answer (account_of t list).totals space)

-- the call's space afterwards
unfoldable pub call_totals : List ℕ → List ℕ → List ℕ → List ℕ
call_totals sheet list space = space_if_accepted (sheet_of sheet) (table_totals (table_in (sheet_of sheet)) list space) space

-- number k of task i in such a space: 0 its releases, 1 the ticks in which it ran, 2 the work left
unfoldable pub total_at : List ℕ → ℕ → ℕ → ℕ
total_at space i k = low_at 8 space (24 * i + 8 * k)
