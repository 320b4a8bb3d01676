-- Laws of replays: joined lists, two principles of induction along a replay, and the states reached within d ticks.
use mathlib.Core.Path.{◌≡◌, refl, ◌∙◌}
use mathlib.Core.List.{List, [], ◌∷◌, ◌++◌}
use Prim.Native.Nat.{ℕ, suc, ◌+◌, ◌≤◌, ◌<◌}
use native.Mathlib.Omega.{arith}
use native.Mathlib.Nat.{add-zero, zero-add}
use lib.ListN.{length, length-append}
use Rattle.levels.specs.Verdict.{Tick, Replay, System, go_on, replay_from, replay, Reaches, Misses, Within, Reached}
use Rattle.levels.specs.Verdict.Tick.{Next, Missed, Refused}
use Rattle.levels.specs.Verdict.Replay.{Kept, MissedAt, RefusedAt}

-- an answer after k more ticks before it
abbrev pub raise : {S : Type 0} → ℕ → Replay S → Replay S
raise k (Kept s) = Kept s
raise k (MissedAt i s) = MissedAt (k + i) s
raise k (RefusedAt i) = RefusedAt (k + i)

-- what more masks make of an answer: they are read only where it is Kept
abbrev onward : {S : Type 0} → Replay S → (S → Replay S) → Replay S
onward (Kept s) go = go s
onward (MissedAt i s) go = MissedAt i s
onward (RefusedAt i) go = RefusedAt i

module _ (sys : System) where
  open sys use {State, Mask, start, step}

  -- two joined lists
  from_join : (k : ℕ) (s : State) (a b : List Mask) → replay_from sys k s (a ++ b) ≡ onward (replay_from sys k s a) (λ t. replay_from sys (k + length a) t b)
  from_join k s [] b = rw add-zero
  from_join k s (m ∷ ms) b = go (λ t. from_join (suc k) t ms b) (step s m)
    where
      go : ((t : State) → replay_from sys (suc k) t (ms ++ b) ≡ onward (replay_from sys (suc k) t ms) (λ u. replay_from sys (suc k + length ms) u b))
          → (o : Tick State) → go_on k o (λ t. replay_from sys (suc k) t (ms ++ b)) ≡ onward (go_on k o (λ t. replay_from sys (suc k) t ms)) (λ u. replay_from sys (k + suc (length ms)) u b)
      go ih (Next t) = let e : suc k + length ms ≡ k + suc (length ms) = omega arith in rw e at (ih t)
      go ih (Missed t) = refl
      go ih Refused = refl

  from_raise : (k j : ℕ) (s : State) (l : List Mask) → replay_from sys (k + j) s l ≡ raise k (replay_from sys j s l)
  from_raise k j s [] = refl
  from_raise k j s (m ∷ ms) = go (λ t. from_raise k (suc j) t ms) (step s m)
    where
      go : ((t : State) → replay_from sys (k + suc j) t ms ≡ raise k (replay_from sys (suc j) t ms))
          → (o : Tick State) → go_on (k + j) o (λ t. replay_from sys (suc (k + j)) t ms) ≡ raise k (go_on j o (λ t. replay_from sys (suc j) t ms))
      go ih (Next t) = let e : k + suc j ≡ suc (k + j) = omega arith in rw e at (ih t)
      go ih (Missed t) = let e : k + suc j ≡ suc (k + j) = omega arith in rw e
      go ih Refused = let e : k + suc j ≡ suc (k + j) = omega arith in rw e

  -- playing two joined lists is playing the second from the state where the first was Kept, with its tick numbers raised by the first's
  -- length
  pub replay_join : (a b : List Mask) {s : State} → Reaches sys a s → replay sys (a ++ b) ≡ raise (length a) (replay_from sys 0 s b)
  replay_join a b {s} r = from_join 0 start a b ∙ (rw (r, zero-add) (rw add-zero at (from_raise (length a) 0 s b)))

  -- .. and where the first was not Kept the second is unread
  pub replay_missed : (a b : List Mask) {i : ℕ} {s : State} → replay sys a ≡ MissedAt i s → replay sys (a ++ b) ≡ MissedAt i s
  replay_missed a b r = from_join 0 start a b ∙ (rw r)

  pub replay_refused : (a b : List Mask) {i : ℕ} → replay sys a ≡ RefusedAt i → replay sys (a ++ b) ≡ RefusedAt i
  replay_refused a b r = from_join 0 start a b ∙ (rw r)

  -- one more mask
  pub reach_snoc : (l : List Mask) (m : Mask) {s t : State} → Reaches sys l s → step s m ≡ Next t → Reaches sys (l ++ m ∷ []) t
  reach_snoc l m r e = from_join 0 start l (m ∷ []) ∙ (rw (r, e))

  pub miss_snoc : (l : List Mask) (m : Mask) {s t : State} → Reaches sys l s → step s m ≡ Missed t → replay sys (l ++ m ∷ []) ≡ MissedAt (suc (length l)) t
  miss_snoc l m r e = from_join 0 start l (m ∷ []) ∙ (rw (r, e, zero-add))

  -- P holds of a state, after fewer than n ticks, from which a mask misses
  pub record BeforeMiss (P : ℕ → State → Type 0) (n : ℕ) : Type 0 where
    pub ticks : ℕ
    pub fewer : ticks < n
    pub state : State
    pub holds : P ticks state
    pub mask : Mask
    pub next : State
    pub missed : step state mask ≡ Missed next

  -- what holds at the start and is kept by each tick holds where a list ends
  module _ (P : ℕ → State → Type 0) (keep : (k : ℕ) (s : State) (m : Mask) (t : State) → P k s → step s m ≡ Next t → P (suc k) t) where
    reach_from : (l : List Mask) (k : ℕ) (s t : State) → P k s → replay_from sys k s l ≡ Kept t → P (k + length l) t
    reach_from [] k s t p r = rw add-zero (let e : s ≡ t = cc in rw e at p)
    reach_from (m ∷ ms) k s t p r = go (λ u q. reach_from ms (suc k) u t q) (step s m) refl r
      where
        go : ((u : State) → P (suc k) u → replay_from sys (suc k) u ms ≡ Kept t → P (suc k + length ms) t)
            → (o : Tick State) → step s m ≡ o → go_on k o (λ u. replay_from sys (suc k) u ms) ≡ Kept t → P (k + suc (length ms)) t
        go ih (Next u) e r' = let z : suc k + length ms ≡ k + suc (length ms) = omega arith in rw z at (ih u (keep k s m u p e) r')
        go ih (Missed u) e r' = absurd (let z : ◌≡◌ {A = ℕ} 0 1 = cc in omega arith)
        go ih Refused e r' = absurd (let z : ◌≡◌ {A = ℕ} 0 1 = cc in omega arith)

    pub reach_ind : P 0 start → (l : List Mask) (t : State) → Reaches sys l t → P (length l) t
    reach_ind p l t r = rw zero-add at (reach_from l 0 start t p r)

    -- .. and where a list misses, it holds of the state before the miss, after fewer ticks than the list has
    miss_from : (l : List Mask) (k : ℕ) (s : State) (i : ℕ) (t : State) → P k s → replay_from sys k s l ≡ MissedAt i t → BeforeMiss P (k + length l)
    miss_from [] k s i t p r = absurd (let z : ◌≡◌ {A = ℕ} 0 1 = cc in omega arith)
    miss_from (m ∷ ms) k s i t p r = go (λ u q. miss_from ms (suc k) u i t q) (step s m) refl r
      where
        go : ((u : State) → P (suc k) u → replay_from sys (suc k) u ms ≡ MissedAt i t → BeforeMiss P (suc k + length ms))
            → (o : Tick State) → step s m ≡ o → go_on k o (λ u. replay_from sys (suc k) u ms) ≡ MissedAt i t → BeforeMiss P (k + suc (length ms))
        go ih (Next u) e r' = let z : suc k + length ms ≡ k + suc (length ms) = omega arith in rw z at (ih u (keep k s m u p e) r')
        go ih (Missed u) e r' = record { ticks = k; fewer = omega arith; state = s; holds = p; mask = m; next = u; missed = e }
        go ih Refused e r' = absurd (let z : ◌≡◌ {A = ℕ} 0 1 = cc in omega arith)

    pub miss_ind : P 0 start → (l : List Mask) → Misses sys l → BeforeMiss P (length l)
    miss_ind p l w = rw zero-add at (miss_from l 0 start w.tick w.state p w.answer)

module _ (sys : System) where
  open sys use {State, Mask, start, step}

  pub within_start : (d : ℕ) → Within sys d start
  within_start d = record { masks = []; short = omega arith; reaches = refl }

  pub within_next : {d : ℕ} {s t : State} → Within sys d s → (m : Mask) → step s m ≡ Next t → Within sys (suc d) t
  within_next w m e = record {
    masks = w.masks ++ m ∷ [];
    short = simp length-append (let h = w.short in omega arith);
    reaches = reach_snoc sys w.masks m w.reaches e;
  }

  pub within_more : {d e : ℕ} {s : State} → d ≤ e → Within sys d s → Within sys e s
  within_more h w = record { masks = w.masks; short = (let l = w.short in omega arith); reaches = w.reaches }

  pub reached : {d : ℕ} {s : State} → Within sys d s → Reached sys s
  reached w = record { masks = w.masks; reaches = w.reaches }

  pub reached_next : {s t : State} → Reached sys s → (m : Mask) → step s m ≡ Next t → Reached sys t
  reached_next r m e = record { masks = r.masks ++ m ∷ []; reaches = reach_snoc sys r.masks m r.reaches e }

  -- where no list misses, no mask misses from a state that lists reach
  pub reached_calm : ((l : List Mask) → Misses sys l → ⊥) → {s : State} → Reached sys s → (m : Mask) (t : State) → step s m ≡ Missed t → ⊥
  reached_calm none r m t e = none (r.masks ++ m ∷ []) (record { tick = suc (length r.masks); state = t; answer = miss_snoc sys r.masks m r.reaches e })

  -- a list of at most d + 1 ticks misses only by a miss from a state reached within d
  pub miss_within : (d : ℕ) (l : List Mask) → length l ≤ suc d → Misses sys l
      → (s : State) × (m : Mask) × (t : State) × Within sys d s × (step s m ≡ Missed t)
  miss_within d l h w =
      let b = miss_ind sys (λ k s. Within sys k s) (λ k s m t q e. within_next q m e) (within_start 0) l w in
      (b.state, b.mask, b.next, within_more (let x = b.fewer in omega arith) b.holds, b.missed)
