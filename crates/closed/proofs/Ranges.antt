-- What `any` and `all` answer over the numbers below n, where a call leaves the closure as it was. Assumes nothing.
use Prim.Native.Nat.{ℕ, ◌<◌}
use mathlib.Core.Path.{◌≡◌, refl, subst, ◌∙◌}
use mathlib.Core.Bool.{Bool, true, false}
use mathlib.Core.List.{List}
use native.Mathlib.Omega.{arith}
use denote.Param.Members.{Mut}
use Rattle.std.specs.declared.ops.Range.{Range}
use Rattle.std.specs.declared.option.Option.{Option}
use Rattle.std.specs.Bool.{MatchBool}
use Rattle.std.specs.Fn.{Called}
use Rattle.std.specs.Iterator.{YieldsThen}
use Rattle.std.specs.List.{FoldsTo, range_with_len}
use Rattle.std.specs.Option.{MatchOption}
use Rattle.std.proofs.iter.Yields.{nat_range_steps}
use Rattle.std.proofs.lemmas.Iterator.{cases_from_any, cases_from_all, YieldsList-from_range}
use Rattle.std.proofs.lemmas.List.FromFn.{length-range_with_len, get_or-range_with_len}
use lib.ListN.{get_or}

-- the numbers below n, one by one
at_place : (n k : ℕ) → k < n → get_or (range_with_len 0 n) k 0 ≡ k
at_place n k b = get_or-range_with_len 0 n k 0 b ∙ omega arith

module _ {F : Type 0} {g : Mut F (ℕ × Unit {0}) Bool} (n : ℕ) {u : Range ℕ} {f : F} {Yes No : ℕ → Type 0} where
  pub any_below :
      (r : Bool)
      → (xs : List ℕ) × (o : Option ℕ) × (j : F) × YieldsThen nat_range_steps (record { start = 0; end = n }) xs o u × FoldsTo (λ p x q. Called g p (x, tt) false q) f xs j × MatchOption o (r ≡ false) (λ x. (r ≡ true) × ((h : F) × Called g j (x, tt) true h))
      → ((x : ℕ) (q : F) → Called g f (x, tt) true q → Yes x) → ((x : ℕ) (q : F) → Called g f (x, tt) false q → (q ≡ f) × No x)
      → MatchBool r ((k : ℕ) × (k < n) × Yes k) ((k : ℕ) → k < n → No k)
  any_below true ran pass fail =
      let h = cases_from_any _ _ true Yes No ran (YieldsList-from_range 0 n n refl (omega arith)) pass fail in
      let b : h.0 < n = omega (arith, h.1, length-range_with_len 0 n) in
      (h.0, b, subst Yes (at_place n h.0 b) (h.2 0))
  any_below false ran pass fail =
      let h = cases_from_any _ _ false Yes No ran (YieldsList-from_range 0 n n refl (omega arith)) pass fail in
      λ k b. subst No (at_place n k b) (h k 0 (omega arith) (omega (arith, length-range_with_len 0 n)))

  pub all_below :
      (r : Bool)
      → (xs : List ℕ) × (o : Option ℕ) × (j : F) × YieldsThen nat_range_steps (record { start = 0; end = n }) xs o u × FoldsTo (λ p x q. Called g p (x, tt) true q) f xs j × MatchOption o (r ≡ true) (λ x. (r ≡ false) × ((h : F) × Called g j (x, tt) false h))
      → ((x : ℕ) (q : F) → Called g f (x, tt) true q → (q ≡ f) × Yes x) → ((x : ℕ) (q : F) → Called g f (x, tt) false q → No x)
      → MatchBool r ((k : ℕ) → k < n → Yes k) ((k : ℕ) × (k < n) × No k)
  all_below true ran pass fail =
      let h = cases_from_all _ _ true Yes No ran (YieldsList-from_range 0 n n refl (omega arith)) pass fail in
      λ k b. subst Yes (at_place n k b) (h k 0 (omega arith) (omega (arith, length-range_with_len 0 n)))
  all_below false ran pass fail =
      let h = cases_from_all _ _ false Yes No ran (YieldsList-from_range 0 n n refl (omega arith)) pass fail in
      let b : h.0 < n = omega (arith, h.1, length-range_with_len 0 n) in
      (h.0, b, subst No (at_place n h.0 b) (h.2 0))
