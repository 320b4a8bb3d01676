-- Keys that wait for their lookup, and what the rows of a pass know while they wait. Assumes nothing.
use Prim.Native.Nat.{ℕ, ◌+◌, ◌<◌, ◌≤◌}
use mathlib.Core.Path.{◌≡◌, refl, ◌∙◌}
use mathlib.Core.Bool.{Bool, true, false}
use mathlib.Core.List.{List}
use native.Mathlib.Omega.{arith}
use native.Mathlib.Decide.{dec_lt}
use lib.ListN.{length, set, length-set}
use lib.Seq.{get_or-set_same, get_or-set_other}
use Rattle.std.specs.Bool.{MatchBool}
use Rattle.tasks.specs.Table.{table_fault}
use Rattle.tasks.specs.Tick.{after}
use Rattle.tasks.specs.declared.state.State.{State}
use Rattle.tasks.specs.declared.table.Table.{Table}
use Rattle.levels.specs.Verdict.{Holds}
use Rattle.states.specs.Keys.{key_of, key_in}
use Rattle.states.specs.declared.keys.Key.{Key}
use Rattle.states.proofs.KeyLaws.{Bytes}
use Rattle.states.specs.Bytes.{state_in}
use Rattle.closed.specs.Closed.{states_in, Closed}
use Rattle.closed.specs.Keeping.{key_at, class_of, Due, RowOf, Inside, InsideIs, AllHeld, AllHeldIs, Grown, AfterWaits, From, RowWaits}
use Rattle.closed.specs.declared.split.Split.{Split}
use Rattle.closed.specs.declared.split.Pass.{Pass}
use Rattle.states.proofs.ColumnLaws.{held, held_key}
use Rattle.closed.proofs.InsideLaws.{closed_after, RowsTo, rows_start, rows_next, rows_end}

-- ---- a key is put behind the others

-- one key more
pub record Added (key : Key) (old : List Key) (count : ℕ) (new : List Key) : Type 0 where
  pub grown : Grown old count new (count + 1)
  pub is : key_at new count ≡ key

-- what stands where no key waits
abbrev pub no_key : Key
no_key = record { a = 0; b = 0; c = 0; d = 0 }

pub key_put : (p : List Key) (k : ℕ) (key : Key) → k < length p → Added key p k (set p k key)
unfolding key_at
key_put p k key h = record {
  grown = record {
    same = length-set p k key;
    up = omega arith;
    first = λ j b. get_or-set_other p k j key no_key (λ e. omega arith);
  };
  is = get_or-set_same p k key no_key h;
}

-- ---- keys are added

pub grown_not : {p : List Key} {count : ℕ} → Grown p count p count
grown_not = record { same = refl; up = omega arith; first = λ k h. refl }

pub grown_next :
    {p q r : List Key} {count next last : ℕ} → Grown p count q next → Grown q next r last → Grown p count r last
grown_next x y = record {
  same = y.same ∙ x.same;
  up = (let a = x.up in let b = y.up in omega arith);
  first = λ k h. y.first k (let a = x.up in omega arith) ∙ x.first k h;
}

-- the first keys are held where all are
pub held_before :
    {file : List ℕ} {p q : List Key} {n count next : ℕ} → Grown p count q next → AllHeld file n q next → AllHeld file n p count
held_before x y = record { each = λ k h. rw (x.first k h) at (y.each k (let a = x.up in omega arith)) }

-- each key that waits is held, or one is not
pub all_held_is :
    (file : List ℕ) (n : ℕ) (p : List Key) (count : ℕ) (r : Bool)
    → MatchBool r ((k : ℕ) → k < count → Holds (key_in file) n (key_at p k)) ((k : ℕ) × (k < count) × (Holds (key_in file) n (key_at p k) → ⊥)) → AllHeldIs file n p count r
all_held_is file n p count true h = record { each = h }
all_held_is file n p count false h = λ all. h.2 (all.each h.0 h.1)

-- ---- the state after a mask

module _ (pass : Pass) (due : Bool) (s : State) where
  -- its key is not added
  pub after_not : (p : List Key) (count : ℕ) → (due ≡ true → class_of pass.classes (key_of s) ≡ pass.class → ⊥) → AfterWaits pass due s p count p count
  after_not p count none = record {
    grown = grown_not;
    is = λ k l h. absurd (omega arith);
    held = λ d e. absurd (none d e);
  }

  -- it is
  pub after_added : {p q : List Key} {count : ℕ} {key : Key} → Bytes s → key ≡ key_of s → Added key p count q → AfterWaits pass due s p count q (count + 1)
  after_added {p} {q} {count} {key} bytes e x = record {
    grown = x.grown;
    is = λ k l h. (let z : k ≡ count = omega arith in rw z (x.is ∙ e));
    held = λ d c file n fits all. held file s fits bytes (rw (x.is ∙ e) at (all.each count (omega arith)));
  }

-- ---- the rows of a pass

module _ (t : Table) (file : List ℕ) (n : ℕ) where
  -- the pairs with the property D lead to states of the file where the keys that wait are held
  pub record Waiting (D : ℕ → ℕ → Type 0) (pending : List Key) (count : ℕ) : Type 0 where
    pub from : (k : ℕ) → k < count → From t file (key_at pending k)
    pub inside : AllHeld file n pending count → Inside t file D

  -- all are held
  pub waiting_held : {D : ℕ → ℕ → Type 0} {p : List Key} {count : ℕ} → Waiting D p count → AllHeld file n p count → Waiting D p 0
  waiting_held x all = record { from = λ k h. absurd (omega arith); inside = λ none. x.inside all }

  module _ (split : Split) (pass : Pass) where
    pub waiting_start : (pending : List Key) → Waiting (RowsTo t file split pass 0) pending 0
    waiting_start pending = record { from = λ k h. absurd (omega arith); inside = λ all. rows_start t file split pass }

    pub waiting_next :
        {i : ℕ} {p q : List Key} {count next : ℕ} → Waiting (RowsTo t file split pass i) p count
        → RowWaits t file n (RowOf t file split pass i) p count q next → Waiting (RowsTo t file split pass (i + 1)) q next
    waiting_next {i} {p} {q} {count} {next} x y = record {
      from = λ k h. go k h (dec_lt k count);
      inside = λ all. rows_next t file split pass (x.inside (held_before y.grown all)) (y.inside all);
    }
      where
        go : (k : ℕ) → k < next → Dec (k < count) → From t file (key_at q k)
        go k h (yes l) = rw (y.grown.first k l) (x.from k l)
        go k h (no l) = y.from k (omega arith) h

  -- in a closed file every key that waits is held
  closed_held : table_fault t ≡ 0 → n ≡ states_in file → Closed t file → (key : Key) → From t file key → Holds (key_in file) n key
  closed_held valid e c key x =
      rw (x.is, e) (held_key file (after t (state_in file x.state) x.mask) (closed_after t file valid x.state x.mask x.below x.small x.legal c))

  pub waiting_open :
      {D : ℕ → ℕ → Type 0} {p : List Key} {count : ℕ} → table_fault t ≡ 0 → n ≡ states_in file → Waiting D p count → (AllHeld file n p count → ⊥) → Closed t file → ⊥
  waiting_open {D} {p} valid e x none c = none (record { each = λ k h. closed_held valid e c (key_at p k) (x.from k h) })

  -- every row is passed
  pub waiting_end :
      (split : Split) (pass : Pass) {i : ℕ} {p : List Key} {count : ℕ} (r : Bool) → table_fault t ≡ 0 → n ≡ states_in file → n ≤ i
      → Waiting (RowsTo t file split pass i) p count → AllHeldIs file n p count r → InsideIs t file (Due t file split pass) r
  waiting_end split pass true valid e l x all = rows_end t file split pass (x.inside all) e l
  waiting_end split pass false valid e l x none = waiting_open valid e x none
