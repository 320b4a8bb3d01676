-- From a Safe search to a file that is accepted (document 02, §1, "the states of any Safe search, copied out, are accepted"). Assumes
-- nothing.
use Prim.Native.Nat.{ℕ, ◌+◌, ◌*◌, ◌%◌, ◌≤◌, ◌<◌}
use mathlib.Core.Path.{◌≡◌, sym, ap, ◌∙◌}
use mathlib.Core.Bool.{true, false}
use mathlib.Core.List.{List, [], ◌∷◌}
use native.Mathlib.Omega.{arith}
use lib.ListN.{length, get_or}
use lib.Seq.{length-take-le, get_or-take}
use borrow.Author.Tests.{le-ltb, ne_eqb}
use Rattle.tasks.specs.Table.{table_fault}
use Rattle.std.specs.Prelude.{Ok}
use Rattle.tasks.specs.Sheet.{sheet_of, table_in, after_reading}
use Rattle.tasks.specs.State.{start}
use Rattle.tasks.specs.Tick.{illegal, after, missed, answered, ticked}
use Rattle.tasks.specs.Masks.{free_mask}
use Rattle.tasks.specs.declared.state.State.{State}
use Rattle.tasks.specs.declared.table.Table.{Table}
use Rattle.tasks.specs.declared.tick.Step.TheVariants as Step
use Rattle.lists.proofs.Bools.{by_bool}
use Rattle.tasks.proofs.Answered.{ticked_legal}
use Rattle.tasks.proofs.RoundTrip.{read_valid}
use Rattle.levels.specs.Verdict.{Reached, Misses}
use Rattle.levels.specs.Verdict.Answer.{Safe}
use Rattle.levels.proofs.Replay.{within_start, reached, reached_next, reached_calm}
use Rattle.states.specs.Bytes.{state_in}
use Rattle.states.specs.System.{system}
use Rattle.states.proofs.MaskTest.{submask}
use Rattle.states.proofs.MaskLaws.{legal_submask}
use Rattle.states.proofs.SystemLaws.{step_missed, step_next, reached_proper}
use Rattle.slots.specs.Layout.{Layout, columns, state_at}
use Rattle.slots.proofs.Bytes.{state_same}
use Rattle.search.specs.Claim.{slots_in, Figures, Searched, TableSearch, SheetSearch}
use Rattle.search.proofs.ClaimLaws.{slots_fit}
use Rattle.search.proofs.SafeLaws.{safe_search, table_passed, sheet_passed}
use Rattle.closed.specs.Closed.{states_in, Contains, Leads, Closed, file_refusal, table_file_refusal, sheet_file_refusal, Judged, TableJudged, SheetJudged}
use Rattle.evidence.specs.Evidence.{file_of, HasStates}

-- ---- the states of a Safe search are closed

-- .. whatever the layout of its slots
module _ {l : Layout} {K : ℕ} {t : Table} (valid : table_fault t ≡ 0) {work work' trace trace' : List ℕ} {N : ℕ} (x : Searched l K t work work' trace trace' (Safe N)) where
  none : (list : List ℕ) → Misses (system t) list → ⊥
  none = (x.verdict.safe.0 tt).none

  module _ {file : List ℕ} (h : HasStates (state_at l work') N file) where
    -- every state that lists reach is in the file, and no other
    contained : (s : State) → Reached (system t) s → Contains file s
    contained s r = let e = x.complete s r in rw e.same at (h.all e.place e.below)

    listed : (i : ℕ) → i < states_in file → Reached (system t) (state_in file i)
    listed i b = let e = h.only i b in rw e.same at (x.stored.reached e.place e.below)

    leads : (s : State) (m : ℕ) → Reached (system t) s → m < 256 → illegal t s m ≡ false → Leads t file s m
    leads s m r small legal =
        let proper = reached_proper t valid s r in
        let sub : submask (free_mask t s) m ≡ true = legal_submask t s m legal in
        by_bool (missed t (after t s m))
        (λ e. absurd (reached_calm (system t) none r m (after t s m) (step_missed t valid s proper m small sub e)))
        (λ e.
        let u = after t s m in
        let is : ticked t s m ≡ answered (Ok Step.Next) u = rw e at (ticked_legal t s m valid proper legal) in
        record {
          next = ap (λ a. a.answer) is;
          contained = rw is (contained u (reached_next (system t) r m (step_next t valid s proper m small sub e)));
        })

    -- LAW: where a search of a valid table answers Safe with N states, any file that has exactly the states of its first N slots is
    -- closed: it has the start state, its states are proper, and every legal mask leads from each of them, without a miss, to one of them.
    -- Neither the order of the states nor repeats matter.
    pub safe_closed : Closed t file
    safe_closed =
        record {
          begins = contained start (reached (system t) (within_start (system t) 0));
          proper = λ i b. reached_proper t valid (state_in file i) (listed i b);
          leads = λ i m b small legal. leads (state_in file i) m (listed i b) small legal;
        }

-- ---- .. and so is the front of the work space

module _ (w : List ℕ) (n : ℕ) (fits : 16 * n ≤ length w) where
  front_long : length (file_of w n) ≡ 16 * n
  front_long = length-take-le (16 * n) w fits

  front_count : states_in (file_of w n) ≡ n
  unfolding states_in
  front_count = let l = front_long in omega arith

  front_state : (K i : ℕ) → i < n → state_in (file_of w n) i ≡ state_at (columns K) w i
  unfolding state_in state_at
  front_state K i h = state_same (file_of w n) w (16 * i) (16 * i) (λ k b. get_or-take (16 * n) w (16 * i + k) 0 (omega arith))

  -- the states of the first n slots in their order are such a file
  pub front_states : (K : ℕ) → HasStates (state_at (columns K) w) n (file_of w n)
  front_states K =
      let count = front_count in
      record {
        only = λ i b. record { place = i; below = omega arith; same = sym (front_state K i (omega arith)) };
        all = λ j b. record { place = j; below = omega arith; same = front_state K j b };
      }

  front_whole : 0 < n → file_refusal (file_of w n) ≡ 0
  unfolding file_refusal
  front_whole some = rw (front_long, ne_eqb (16 * n) 0 (λ e. omega arith), le-ltb 0 (16 * n % 16) (omega arith))

module _ {K : ℕ} {t : Table} (valid : table_fault t ≡ 0) {work work' trace trace' : List ℕ} {N : ℕ} (x : Searched (columns K) K t work work' trace trace' (Safe N))
    (fits : 21 * K ≤ length work) where
  -- the start state is among the states of a search
  some : 0 < N
  some = let e = x.complete start (reached (system t) (within_start (system t) 0)) in omega (arith, e.below)

  long : 16 * N ≤ length work'
  long = let a = x.most in let b = x.work_length in omega arith

  -- LAW: the first 16 N bytes of a Safe search's work space are a file that is not refused and is closed
  pub front_closed : (file_refusal (file_of work' N) ≡ 0) × Closed t (file_of work' N)
  front_closed = (front_whole work' N long some, safe_closed valid x (front_states work' N long K))

  accepted : {p : ℕ} {a : List ℕ} → (file_refusal (file_of work' N) ≡ 0 → p ≡ 0) → Judged p t (file_of work' N) a → a ≡ 1 ∷ []
  accepted whole judged = let closed = front_closed in (judged.accepted (whole closed.0)).1 closed.1

-- ---- from the search's call to the checker's answer

table_file : (t : Table) (file : List ℕ) → table_fault t ≡ 0 → file_refusal file ≡ 0 → table_file_refusal t file ≡ 0
unfolding table_file_refusal
table_file t file valid whole = rw (valid, whole)

-- LAW: for every table. Where `search_table` answers Safe with N states, the checker accepts the first 16 N bytes of its work space as a
-- file for the table.
pub table_accepted :
    (t : Table) (work work' trace trace' : List ℕ) (f : Figures) → TableSearch t work work' trace trace' f → f.kind ≡ 1
    → (a : List ℕ) → TableJudged t (file_of work' f.N) a → a ≡ 1 ∷ []
table_accepted t work work' trace trace' f x k a judged =
    let y = safe_search x k in
    let valid = (table_passed t (slots_in work) trace y.0).0 in
    accepted valid y.1 (slots_fit work) (table_file t (file_of work' f.N) valid) judged

sheet_file : (sheet file : List ℕ) {t : Table} → sheet_of sheet ≡ Ok t → file_refusal file ≡ 0 → sheet_file_refusal sheet file ≡ 0
unfolding sheet_file_refusal
sheet_file sheet file e whole = ap (λ a. after_reading a (file_refusal file)) e ∙ whole

-- LAW: the same for every sheet, a list of bytes: `search_sheet`, and the checker with the same sheet
pub sheet_accepted :
    (sheet : List ℕ) → ((i : ℕ) → get_or sheet i 0 < 256)
    → (work work' trace trace' : List ℕ) (f : Figures) → SheetSearch sheet work work' trace trace' f → f.kind ≡ 1
    → (a : List ℕ) → SheetJudged sheet (file_of work' f.N) a → a ≡ 1 ∷ []
sheet_accepted sheet bytes work work' trace trace' f x k a judged =
    let y = safe_search x k in
    let read = (sheet_passed sheet (slots_in work) trace y.0).0 in
    let valid = read_valid sheet bytes (table_in (sheet_of sheet)) read in
    accepted valid y.1 (slots_fit work) (sheet_file sheet (file_of work' f.N) read) judged
