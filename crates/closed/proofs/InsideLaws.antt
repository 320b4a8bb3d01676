-- What the passes know so far, and when the file is closed. Assumes nothing.
use Prim.Native.Nat.{ℕ, ◌+◌, ◌<◌, ◌≤◌}
use mathlib.Core.Path.{◌≡◌, ap, ◌∙◌}
use mathlib.Core.Logic.{◌⊎◌, ⊎_elim}
use mathlib.Core.Logic.◌⊎◌.{inl, inr}
use mathlib.Core.Bool.{false}
use mathlib.Core.List.{List}
use native.Mathlib.Omega.{arith}
use native.Mathlib.Decide.{ℕ_discrete, dec_lt}
use Rattle.lists.specs.Lists.{pick}
use Rattle.std.specs.Prelude.{Ok}
use Rattle.tasks.specs.Table.{table_fault}
use Rattle.tasks.specs.State.{start}
use Rattle.tasks.specs.Tick.{illegal, after, missed}
use Rattle.tasks.specs.declared.table.Table.{Table}
use Rattle.tasks.specs.declared.tick.Step.TheVariants as Step
use Rattle.lists.proofs.Bools.{by_bool}
use Rattle.tasks.proofs.Answered.{ticked_legal}
use Rattle.states.specs.Keys.{key_of}
use Rattle.states.proofs.MaskLaws.{legal_submask}
use Rattle.states.proofs.SystemLaws.{step_missed}
use Rattle.states.specs.Bytes.{state_in}
use Rattle.closed.specs.Closed.{states_in, Contains, Leads, Closed}
use Rattle.closed.specs.Keeping.{class_of, lands, Due, RowOf, Between, Every, Sound, Inside}
use Rattle.closed.specs.declared.split.Split.{Split}
use Rattle.closed.specs.declared.split.Pass.{Pass}
use Rattle.closed.proofs.PassLaws.{lands_low, class_low}

module _ (t : Table) (file : List ℕ) (valid : table_fault t ≡ 0) where
  -- ---- a file that is closed

  -- LAW: in a closed file the state after a legal mask is in the file
  pub closed_after : (i m : ℕ) → i < states_in file → m < 256 → illegal t (state_in file i) m ≡ false → Closed t file → Contains file (after t (state_in file i) m)
  closed_after i m h b legal x =
      let e = ticked_legal t (state_in file i) m valid (x.proper i h) legal in
      rw (ap (λ r. r.state) e) at (x.leads i m h b legal).contained

  -- LAW: sound states, the start state among them, and every pair inside: the file is closed
  pub all_closed : Sound t file → Contains file start → Inside t file Every → Closed t file
  all_closed sound begins x = record {
    begins = begins;
    proper = λ i h. (sound.state i h).proper;
    leads = λ i m h b legal. leads i m h b legal;
  }
    where
      calm : (i m : ℕ) → i < states_in file → m < 256 → illegal t (state_in file i) m ≡ false → missed t (after t (state_in file i) m) ≡ false
      calm i m h b legal =
          by_bool (missed t (after t (state_in file i) m))
          (λ e. absurd ((sound.state i h).calm m (after t (state_in file i) m) (step_missed t valid (state_in file i) (sound.state i h).proper m b (legal_submask t (state_in file i) m legal) e)))
          (λ e. e)

      leads : (i m : ℕ) → i < states_in file → m < 256 → illegal t (state_in file i) m ≡ false → Leads t file (state_in file i) m
      leads i m h b legal =
          let e = ticked_legal t (state_in file i) m valid (sound.state i h).proper legal in
          record {
            next = ap (λ r. r.answer) e ∙ ap (λ b. Ok (pick b Step.Missed Step.Next)) (calm i m h b legal);
            contained = rw (ap (λ r. r.state) e) (x.inside i m h b legal tt);
          }

module _ (t : Table) (file : List ℕ) where
  -- pairs of either kind
  inside_either :
      {D E F : ℕ → ℕ → Type 0} → Inside t file D → Inside t file E → ((i m : ℕ) → i < states_in file → F i m → D i m ⊎ E i m) → Inside t file F
  inside_either x y f = record { inside = λ i m h b legal d. ⊎_elim (λ q. x.inside i m h b legal q) (λ q. y.inside i m h b legal q) (f i m h d) }

  inside_none : {D : ℕ → ℕ → Type 0} → ((i m : ℕ) → i < states_in file → D i m → ⊥) → Inside t file D
  inside_none f = record { inside = λ i m h b legal d. absurd (f i m h d) }

  inside_fewer : {D E : ℕ → ℕ → Type 0} → Inside t file D → ((i m : ℕ) → i < states_in file → E i m → D i m) → Inside t file E
  inside_fewer x f = record { inside = λ i m h b legal e. x.inside i m h b legal (f i m h e) }

  -- ---- the rows of a pass

  module _ (split : Split) (pass : Pass) where
    -- the pairs of the states before row i
    pub record RowsTo (row i m : ℕ) : Type 0 where
      pub below : i < row
      pub due : Due t file split pass i m

    pub rows_start : Inside t file (RowsTo 0)
    rows_start = inside_none (λ i m h d. let b = d.below in omega arith)

    pub rows_next : {i : ℕ} → Inside t file (RowsTo i) → Inside t file (RowOf t file split pass i) → Inside t file (RowsTo (i + 1))
    rows_next {i} x y = inside_either x y (λ j m h d. go j m d (ℕ_discrete j i))
      where
        go : (j m : ℕ) → RowsTo (i + 1) j m → Dec (j ≡ i) → RowsTo i j m ⊎ RowOf t file split pass i j m
        go j m d (yes e) = inr (record { is = e; due = d.due })
        go j m d (no ne) = inl (record { below = (let b = d.below in omega arith); due = d.due })

    pub rows_end : {n i : ℕ} → Inside t file (RowsTo i) → n ≡ states_in file → n ≤ i → Inside t file (Due t file split pass)
    rows_end x e l = inside_fewer x (λ i m h d. record { below = omega arith; due = d })

  -- ---- the classes of a band

  module _ (split : Split) (low high classes : ℕ) where
    pub record ClassesTo (class i m : ℕ) : Type 0 where
      pub between : Between file split low high i m
      pub below : class_of classes (key_of (after t (state_in file i) m)) < class

    pub classes_start : Inside t file (ClassesTo 0)
    classes_start = inside_none (λ i m h d. let b = d.below in omega arith)

    pub classes_next :
        {class : ℕ} {some : 0 < classes} → Inside t file (ClassesTo class)
        → Inside t file (Due t file split (record { low = low; high = high; classes = classes; class = class; some = some })) → Inside t file (ClassesTo (class + 1))
    classes_next {class} {some} x y = inside_either x y (λ i m h d. go i m d (ℕ_discrete (class_of classes (key_of (after t (state_in file i) m))) class))
      where
        go :
            (i m : ℕ) → ClassesTo (class + 1) i m → Dec (class_of classes (key_of (after t (state_in file i) m)) ≡ class)
            → ClassesTo class i m ⊎ Due t file split (record { low = low; high = high; classes = classes; class = class; some = some }) i m
        go i m d (yes e) = inr (record { low = d.between.from; high = d.between.below; class = e })
        go i m d (no ne) = inl (record { between = d.between; below = (let b = d.below in omega arith) })

    pub classes_end : {class : ℕ} → Inside t file (ClassesTo class) → 0 < classes → classes ≤ class → Inside t file (Between file split low high)
    classes_end x some l = inside_fewer x (λ i m h d. record { between = d; below = (let b = class_low (key_of (after t (state_in file i) m)) some in omega arith) })

  -- ---- the bands

  module _ (split : Split) where
    pub record BandsTo (low i m : ℕ) : Type 0 where
      pub below : lands file split i m < low

    pub bands_start : Inside t file (BandsTo 0)
    bands_start = inside_none (λ i m h d. let b = d.below in omega arith)

    pub bands_next : {low high : ℕ} → Inside t file (BandsTo low) → Inside t file (Between file split low high) → Inside t file (BandsTo high)
    bands_next {low} {high} x y = inside_either x y (λ i m h d. go i m d (dec_lt (lands file split i m) low))
      where
        go : (i m : ℕ) → BandsTo high i m → Dec (lands file split i m < low) → BandsTo low i m ⊎ Between file split low high i m
        go i m d (yes l) = inl (record { below = l })
        go i m d (no l) = inr (record { from = omega arith; below = d.below })

    pub bands_end : {low : ℕ} → Inside t file (BandsTo low) → split.top < low → Inside t file Every
    bands_end x l = inside_fewer x (λ i m h d. record { below = (let b = lands_low file split i m in omega arith) })
