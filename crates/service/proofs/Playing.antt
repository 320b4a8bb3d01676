-- A list on its way: what is known after i of its masks, and how it ends. Assumes nothing.
use Prim.Native.Nat.{ℕ, ◌+◌, ◌≤◌, ◌<◌}
use mathlib.Core.Path.{◌≡◌, refl, sym, ap, ◌∙◌}
use mathlib.Core.Bool.{Bool, true, false}
use mathlib.Core.List.{List}
use native.Mathlib.Omega.{arith}
use lib.ListN.{length, drop, get_or}
use Rattle.lists.specs.Lists.{eight, pick}
use Rattle.lists.proofs.Fill.{eight_at}
use Rattle.std.specs.Prelude.{Ok}
use Rattle.tasks.specs.Table.{table_fault}
use Rattle.tasks.specs.State.{start, improper}
use Rattle.tasks.specs.Tick.{bit, illegal, released, chosen, ran, missed, answered, ticked}
use Rattle.tasks.specs.Replay.{played}
use Rattle.tasks.specs.declared.state.State.{State}
use Rattle.tasks.specs.declared.table.Table.{Table}
use Rattle.tasks.specs.declared.tick.Step.TheVariants as Tick
use Rattle.tasks.specs.declared.play.Outcome.TheVariants.{Kept, Missed}
use Rattle.tasks.specs.declared.play.ReplayAnswer.TheVariants.{Played, Refused}
use Rattle.tasks.specs.declared.refusal.Refusal.TheVariants.{Mask}
use Rattle.tasks.specs.declared.play.Replayed.{Replayed}
use Rattle.tasks.proofs.Proper.{start_proper}
use Rattle.tasks.proofs.Answered.{ticked_steps, ticked_illegal, ticked_proper}
use Rattle.tasks.proofs.Played.{played_step, played_end, replayed_played}
use Rattle.service.specs.Totals.{count_ticks, releases, runs_in, release_count, ticks_run, account_from, account_of}
use Rattle.service.specs.Raised.{Room, raised_at}
use Rattle.service.proofs.Counting.{Totaled, totaled_start, totaled_room, totaled_end, totaled_refused, totaled_next, totaled_missed}

-- after i masks the state is s, and the totals so far are `more` releases and `longer` ticks
pub record Playing (t : Table) (l : List ℕ) (s : State) (i : ℕ) (more longer : List ℕ) : Type 0 where
  pub proper : improper t s ≡ false
  pub rest : played t start 0 l ≡ played t s i (drop i l)
  pub released : Totaled t releases l s i more
  pub run : Totaled t (runs_in t) l s i longer

module _ (t : Table) (l : List ℕ) where
  pub playing_start : Playing t l start 0 (eight (λ j. 0)) (eight (λ j. 0))
  playing_start =
      record { proper = start_proper t; rest = refl; released = totaled_start t releases l; run = totaled_start t (runs_in t) l }

  -- each total can be raised
  pub playing_room :
      {s : State} {i : ℕ} {more longer : List ℕ} → Playing t l s i more longer → i < length l → length l ≤ 18446744073709551615
      → Room more × Room longer
  playing_room x h long = (totaled_room t releases l x.released h long, totaled_room t (runs_in t) l x.run h long)

  module _ (valid : table_fault t ≡ 0) where
    -- the replay and both totals make the account
    account_is :
        {r : Replayed} {more longer : List ℕ} → played t start 0 l ≡ r → more ≡ eight (λ j. count_ticks t (releases j) start l)
        → longer ≡ eight (λ j. count_ticks t (runs_in t j) start l) → account_from r more longer ≡ account_of t l
    unfolding account_of release_count ticks_run
    account_is e f g = rw (f, g, ← e, ← replayed_played t l (omega (arith, valid)))

    module _ {s : State} {i : ℕ} {more longer : List ℕ} (x : Playing t l s i more longer) where
      -- no mask is left
      pub playing_kept : length l ≤ i → account_from (record { answer = Played Kept; state = s }) more longer ≡ account_of t l
      playing_kept h =
          account_is (x.rest ∙ played_end t s l i h) (totaled_end t releases l x.released h) (totaled_end t (runs_in t) l x.run h)

      module _ (h : i < length l) where
        -- the next mask is not legal
        pub playing_refused :
            illegal t s (get_or l i 0) ≡ true → account_from (record { answer = Refused Mask (i + 1); state = s }) more longer ≡ account_of t l
        playing_refused bad =
            let e = ticked_illegal t s (get_or l i 0) valid x.proper bad in
            account_is (x.rest ∙ played_step t s l i h (sym e) refl) (totaled_refused t releases l x.released h e) (totaled_refused t (runs_in t) l x.run h e)

        -- the next mask is legal: the steps of its tick, and the totals raised by it
        module _
            (legal : illegal t s (get_or l i 0) ≡ false)
            {named run : List Bool} {more' longer' : List ℕ} {r next : State}
            (named-is : named ≡ eight (bit (get_or l i 0))) (more-is : more' ≡ eight (raised_at more named))
            (r-is : r ≡ released t s (get_or l i 0)) (run_is : run ≡ chosen t r) (longer-is : longer' ≡ eight (raised_at longer run))
            (next-is : next ≡ ran r run)
          where
            which : (j : ℕ) → j < 8 → get_or named j false ≡ releases j s (get_or l i 0)
            which j b = ap (λ (k : List Bool). get_or k j false) named-is ∙ eight_at false (bit (get_or l i 0)) j b

            who : (j : ℕ) → j < 8 → get_or run j false ≡ runs_in t j s (get_or l i 0)
            who j b = ap (λ (k : List Bool). get_or k j false) (run_is ∙ ap (chosen t) r-is)

            now : ticked t s (get_or l i 0) ≡ answered (Ok (pick (missed t next) Tick.Missed Tick.Next)) next
            now = ticked_steps t s (get_or l i 0) r-is run_is next-is valid x.proper legal

            pub playing_missed :
                missed t next ≡ true → account_from (record { answer = Played (Missed (i + 1)); state = next }) more' longer' ≡ account_of t l
            playing_missed m =
                let e : ticked t s (get_or l i 0) ≡ answered (Ok Tick.Missed) next = rw m at now in
                account_is (x.rest ∙ played_step t s l i h (sym e) refl) (totaled_missed t releases l x.released h named which more-is e) (totaled_missed t (runs_in t) l x.run h run who longer-is e)

            pub playing_next : missed t next ≡ false → Playing t l next (i + 1) more' longer'
            playing_next m =
                let e : ticked t s (get_or l i 0) ≡ answered (Ok Tick.Next) next = rw m at now in
                record {
                  proper = rw e at (ticked_proper t s (get_or l i 0) (ap (λ a. a.answer) e));
                  rest = x.rest ∙ played_step t s l i h (sym e) refl;
                  released = totaled_next t releases l x.released h named which more-is e;
                  run = totaled_next t (runs_in t) l x.run h run who longer-is e;
                }
