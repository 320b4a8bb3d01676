-- The masks of one state in a pass, and the pass over proper states. Assumes nothing.
use Prim.Native.Nat.{ℕ, ◌+◌, ◌*◌, ◌<◌, ◌≤◌}
use mathlib.Core.Path.{◌≡◌, refl, ap, ◌∙◌}
use mathlib.Core.Bool.{Bool, true, false, ◌&&◌, ◌||◌}
use mathlib.Core.List.{List}
use native.Mathlib.Omega.{arith}
use native.Mathlib.Decide.{dec_lt}
use borrow.Author.Tests.{le-leb, lt-ltb}
use lib.Bits.{bit_and}
use lib.Dec.{eqb, leb, ltb}
use lib.ListN.{length, get_or}
use mir.Syntax.{w8}
use mir.Val.{Fits}
use Rattle.std.specs.Bool.{MatchBool}
use Rattle.lists.specs.Lists.{pick}
use Rattle.tasks.specs.Table.{table_fault}
use Rattle.tasks.specs.State.{improper}
use Rattle.tasks.specs.Tick.{illegal, after, missed}
use Rattle.tasks.specs.Masks.{free_mask}
use Rattle.tasks.specs.Words.{state_of}
use Rattle.tasks.specs.Ticker.{ticked_by}
use Rattle.tasks.specs.declared.state.State.{State}
use Rattle.tasks.specs.declared.table.Table.{Table}
use Rattle.tasks.specs.declared.ticker.Prepared.{Prepared}
use Rattle.tasks.specs.declared.ticker.Ticker.{Ticker}
use Rattle.lists.proofs.Bools.{by_bool, clash, both, nor_left, nor_right}
use Rattle.tasks.proofs.More.{full_legal}
use Rattle.tasks.proofs.Free.{free_small, free_full}
use Rattle.levels.specs.Verdict.{Holds}
use Rattle.levels.specs.Levels.{Calm}
use Rattle.states.specs.Keys.{key_of}
use Rattle.states.specs.Masks.{follows}
use Rattle.states.specs.declared.keys.Key.{Key}
use Rattle.states.specs.System.{system}
use Rattle.states.proofs.MaskTest.{submask}
use Rattle.states.proofs.SystemLaws.{step_missed}
use Rattle.states.proofs.MaskLaws.{Walked, walked_start, walked_next, submask_legal, legal_submask}
use Rattle.states.specs.Bytes.{state_in}
use Rattle.closed.specs.Closed.{states_in, Closed}
use Rattle.closed.specs.Keeping.{class_of, landing, lands, Due, RowOf, SoundState, StateIs, SoundIs, Ready, key_at, AllHeld, Grown, AfterWaits, From, RowWaits}
use Rattle.closed.specs.declared.split.Split.{Split}
use Rattle.closed.specs.declared.split.Pass.{Pass}
use Rattle.closed.proofs.Theorems.{closed_calm}
use Rattle.closed.proofs.PendingLaws.{grown_not, grown_next, held_before}

-- ---- the masks of a state

-- mask q, where it is due, leads to a state of the file if the keys that wait are held
abbrev Led : Ticker → List ℕ → ℕ → Split → Pass → Bool → Bool → Prepared → List Key → ℕ → ℕ → Type 0
Led ticker file n split pass kept released state pending count q =
    pick (eqb (bit_and q split.bit) 0) kept released ≡ true → class_of pass.classes (key_of (state_of (ticked_by ticker state q))) ≡ pass.class
    → AllHeld file n pending count → Holds (state_in file) n (state_of (ticked_by ticker state q))

-- the key of the state after a submask
pub record Ticked (ticker : Ticker) (state : Prepared) (free : ℕ) (key : Key) : Type 0 where
  pub mask : ℕ
  pub small : mask < 256
  pub sub : submask free mask ≡ true
  pub is : key ≡ key_of (state_of (ticked_by ticker state mask))

-- the masks before m are passed
pub record RowTo (ticker : Ticker) (file : List ℕ) (n : ℕ) (split : Split) (pass : Pass) (kept released : Bool) (state : Prepared) (free : ℕ) (old : List Key) (count : ℕ) (new : List Key) (next m : ℕ) : Type 0 where
  pub grown : Grown old count new next
  pub from : (k : ℕ) → count ≤ k → k < next → Ticked ticker state free (key_at new k)
  pub walked : Walked (Led ticker file n split pass kept released state new next) free m

module _ {ticker : Ticker} {file : List ℕ} {n : ℕ} {split : Split} {pass : Pass} {kept released : Bool} {state : Prepared} {free : ℕ} (small : free < 256) where
  pub row_start : (p : List Key) (count : ℕ) → RowTo ticker file n split pass kept released state free p count p count 0
  row_start p count = record { grown = grown_not; from = λ k l h. absurd (omega arith); walked = walked_start _ small }

  pub row_next :
      {p q r : List Key} {count next last m : ℕ} {due : Bool} → RowTo ticker file n split pass kept released state free p count q next m → m < 256
      → due ≡ pick (eqb (bit_and m split.bit) 0) kept released → ((k : ℕ) → Fits w8 (get_or file k 0))
      → AfterWaits pass due (state_of (ticked_by ticker state m)) q next r last → RowTo ticker file n split pass kept released state free p count r last (follows free m)
  row_next {p} {q} {r} {count} {next} {last} {m} x b due fits y = record {
    grown = grown_next x.grown y.grown;
    from = λ k l h. go k l h (dec_lt k next);
    walked = walked_next (Led ticker file n split pass kept released state r last) small passed b (λ d c all. y.held (due ∙ d) c file n fits all);
  }
    where
      go : (k : ℕ) → count ≤ k → k < last → Dec (k < next) → Ticked ticker state free (key_at r k)
      go k l h (yes z) = rw (y.grown.first k z) (x.from k l z)
      go k l h (no z) = record { mask = m; small = b; sub = x.walked.is b; is = y.is k (omega arith) h }

      passed : Walked (Led ticker file n split pass kept released state r last) free m
      passed = record {
        most = x.walked.most;
        is = x.walked.is;
        each = λ j l e d c all. x.walked.each j l e d c (held_before y.grown all);
      }

abbrev in_pass : Pass → ℕ → Bool
in_pass pass at = leb pass.low at && ltb at pass.high

-- what a row knows of its state: whether its masks are due, the ticks, and the mask of all tasks that may be released
pub record Row (t : Table) (ticker : Ticker) (file : List ℕ) (split : Split) (pass : Pass) (i : ℕ) (kept released : Bool) (state : Prepared) (free : ℕ) : Type 0 where
  pub keeps : kept ≡ (leb pass.low (landing split.top (get_or file (16 * i + 2 * split.task + 1) 0) false) && ltb (landing split.top (get_or file (16 * i + 2 * split.task + 1) 0) false) pass.high)
  pub releases : released ≡ (leb pass.low (landing split.top (get_or file (16 * i + 2 * split.task + 1) 0) true) && ltb (landing split.top (get_or file (16 * i + 2 * split.task + 1) 0) true) pass.high)
  pub ticks : (q : ℕ) → state_of (ticked_by ticker state q) ≡ after t (state_in file i) q
  pub frees : free ≡ free_mask t (state_in file i)

-- a pair that is due
module _ (t : Table) (file : List ℕ) (split : Split) (pass : Pass) (i : ℕ) {kept released : Bool} where
  due_yes :
      kept ≡ in_pass pass (landing split.top (get_or file (16 * i + 2 * split.task + 1) 0) false)
      → released ≡ in_pass pass (landing split.top (get_or file (16 * i + 2 * split.task + 1) 0) true)
      → (m : ℕ) → Due t file split pass i m → pick (eqb (bit_and m split.bit) 0) kept released ≡ true
  unfolding lands
  due_yes k r m d =
      let is : in_pass pass (lands file split i m) ≡ true = both (le-leb _ _ d.low) (lt-ltb _ _ d.high) in
      by_bool (eqb (bit_and m split.bit) 0)
      (λ e. rw (e, k) (rw e at is))
      (λ e. rw (e, r) (rw e at is))

  -- no mask is due
  pub row_skipped :
      kept ≡ in_pass pass (landing split.top (get_or file (16 * i + 2 * split.task + 1) 0) false)
      → released ≡ in_pass pass (landing split.top (get_or file (16 * i + 2 * split.task + 1) 0) true)
      → kept || released ≡ false → (n : ℕ) (p : List Key) (count : ℕ) → RowWaits t file n (RowOf t file split pass i) p count p count
  row_skipped k r none n p count = record {
    grown = grown_not;
    from = λ j l h. absurd (omega arith);
    inside = λ all. record {
      inside = λ j m h b legal d.
          let due = due_yes k r m (rw d.is at d.due) in
          absurd (by_bool (eqb (bit_and m split.bit) 0)
          (λ e. clash (rw e at due) (nor_left kept released none))
          (λ e. clash (rw e at due) (nor_right kept released none)));
    };
  }

module _ {t : Table} {ticker : Ticker} {file : List ℕ} {split : Split} {pass : Pass} {i : ℕ} {kept released : Bool} {state : Prepared} {free n : ℕ}
    (x : Row t ticker file split pass i kept released state free) (is : n ≡ states_in file) where
  -- the key of a state after a submask is that of one after a legal mask
  row_from : i < n → (key : Key) → Ticked ticker state free key → From t file key
  row_from h key y = record {
    state = i;
    mask = y.mask;
    below = omega arith;
    small = y.small;
    legal = submask_legal t (state_in file i) y.mask (rw (← x.frees) y.sub);
    is = y.is ∙ ap key_of (x.ticks y.mask);
  }

  -- every mask is passed
  pub row_end :
      {old new : List Key} {count next m : ℕ} → i < n → RowTo ticker file n split pass kept released state free old count new next m → 256 ≤ m
      → RowWaits t file n (RowOf t file split pass i) old count new next
  row_end {old} {new} {count} {next} {m} low w l = record {
    grown = w.grown;
    from = λ k a b. row_from low (key_at new k) (w.from k a b);
    inside = λ all. record {
      inside = λ j q h b legal d.
          let here : illegal t (state_in file i) q ≡ false = rw d.is at legal in
          let due = rw d.is at d.due in
          let held = w.walked.each q (omega arith) (rw x.frees (legal_submask t (state_in file i) q here)) (due_yes t file split pass i x.keeps x.releases q due) (rw (x.ticks q) due.class) all in
          rw (d.is, ← is) (rw (x.ticks q) at held);
    };
  }

-- ---- sound states

-- a file with a state that is not sound is not closed
pub not_sound : (t : Table) (file : List ℕ) {i n : ℕ} → n ≡ states_in file → i < n → (SoundState t (state_in file i) → ⊥) → Closed t file → ⊥
not_sound t file {i} e h bad x =
    bad (record { proper = x.proper i (omega arith); calm = closed_calm x (record { place = i; below = omega arith; same = refl }) })

-- every state of the file is sound, or one is not
pub sound_is :
    (t : Table) (file : List ℕ) {n : ℕ} → n ≡ states_in file → (r : Bool)
    → MatchBool r ((k : ℕ) → k < n → SoundState t (state_in file k)) ((k : ℕ) × (k < n) × (SoundState t (state_in file k) → ⊥)) → SoundIs t file r
sound_is t file e true h = record { state = λ j b. h j (omega arith) }
sound_is t file e false h = not_sound t file e h.1 h.2

-- a state is sound or not, as its full mask misses or not
pub full_sound :
    (t : Table) (s : State) (r : Bool) → table_fault t ≡ 0 → (proper : improper t s ≡ false) → (r ≡ true → Calm (system t) s)
    → (r ≡ false → missed t (after t s (free_mask t s)) ≡ true) → StateIs t s r
full_sound t s true valid proper calm miss = record { proper = proper; calm = calm refl }
full_sound t s false valid proper calm miss = λ x.
    let full = free_mask t s in
    x.calm full (after t s full)
    (step_missed t valid s proper full (free_small t s) (legal_submask t s full (full_legal t s full (free_full t s))) (miss refl))

-- ---- the cells

-- other cells, as many
pub ready_cells :
    {t : Table} {file cells cells' : List ℕ} {n : ℕ} → Ready t file cells n → length cells' ≡ length cells → Ready t file cells' n
ready_cells x e = record { given = x.given; sound = x.sound; some = (let s = x.some in omega arith) }
