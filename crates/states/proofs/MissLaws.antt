-- Whether some mask misses from a proper state: one mask tells, and most states need no tick. Assumes nothing.
use Rattle.std.proofs.Common.{◌≡◌, ℕ, ◌<◌, true, false, List, sym, refl, ap, ◌∙◌, arith}
use Rattle.tasks.specs.Table.{table_fault}
use Rattle.tasks.specs.State.{improper}
use Rattle.tasks.specs.Tick.{after, missed}
use Rattle.tasks.specs.Masks.{free_mask}
use Rattle.tasks.specs.Tight.{tight}
use Rattle.tasks.specs.Words.{state_of}
use Rattle.tasks.specs.Ticker.{ticker_of, free_by}
use Rattle.tasks.specs.declared.state.State.{State}
use Rattle.tasks.specs.declared.table.Table.{Table}
use Rattle.tasks.specs.declared.ticker.Ticker.{Ticker}
use Rattle.lists.proofs.Bools.{by_bool, clash}
use Rattle.tasks.proofs.More.{full_legal, full_miss}
use Rattle.tasks.proofs.Free.{ticks, frees, free_full}
use Rattle.tasks.proofs.InWords.{WordList}
use Rattle.tasks.proofs.NoMiss.{miss_tight}
use Rattle.levels.specs.Levels.{Calm}
use Rattle.levels.proofs.Legal.{calm_legal}
use Rattle.states.specs.Miss.{full_by, miss_by}
use Rattle.states.specs.System.{system}
use Rattle.states.proofs.MaskTest.{submask}
use Rattle.states.proofs.MaskLaws.{submask_legal}
use Rattle.states.proofs.SystemLaws.{step_next, legal_or_refused}

module _ (t : Table) (valid : table_fault t ≡ 0) (s : State) (proper : improper t s ≡ false) where
  -- no job is tight, so the mask of all tasks that may be released does not miss
  pub calm_tight : tight t s ≡ false → missed t (after t s (free_mask t s)) ≡ false
  calm_tight e =
      by_bool (missed t (after t s (free_mask t s)))
      (λ h. clash (miss_tight t s valid proper (free_mask t s) (full_legal t s (free_mask t s) (free_full t s)) h) e)
      (λ h. h)

  -- .. and where it does not miss, no mask does
  calm_full : missed t (after t s (free_mask t s)) ≡ false → Calm (system t) s
  calm_full e =
      calm_legal (system t) s {Legal = λ q. (q < 256) × (submask (free_mask t s) q ≡ true)} (legal_or_refused t valid s proper)
      (λ q l u r.
      let legal = submask_legal t s q l.1 in
      by_bool (missed t (after t s q))
      (λ h. clash (full_miss t s valid proper (free_mask t s) q (free_full t s) legal h) e)
      (λ h.
      let n = step_next t valid s proper q l.0 l.1 h in
      let z : ◌≡◌ {A = ℕ} 0 1 = cc in
      omega arith))

  -- LAW: the test of a state by its words
  module _ {v : List ℕ} (here : state_of v ≡ s) {ticker : Ticker} (is : ticker ≡ ticker_of t) (words : WordList v) where
    pub full_by_lem : full_by t ticker v ≡ missed t (after t s (free_mask t s))
    unfolding full_by
    full_by_lem =
        ap (missed t) (ticks t v is refl valid (ap (improper t) here ∙ proper) words (free_by ticker v))
        ∙ ap (λ m. missed t (after t (state_of v) m)) (frees t v is refl)
        ∙ ap (λ u. missed t (after t u (free_mask t u))) here

    pub miss_by_lem : miss_by t ticker v ≡ missed t (after t s (free_mask t s))
    miss_by_lem = by_bool (tight t s)
        (λ e. rw (here, e) full_by_lem)
        (λ e. rw (here, e) (sym (calm_tight e)))

    -- no mask misses
    pub calm_by : miss_by t ticker v ≡ false → Calm (system t) s
    calm_by e = calm_full (sym miss_by_lem ∙ e)
