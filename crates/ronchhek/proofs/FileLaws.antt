-- The laws of the call on files of states. Assumes nothing.
use Prim.Native.Nat.{ℕ, ◌*◌, ◌^◌, ◌<◌}
use mathlib.Core.Path.{◌≡◌, refl, sym, ap}
use mathlib.Core.List.{List, [], ◌∷◌}
use native.Mathlib.Omega.{arith}
use lib.ListN.{get_or}
use mathlib.Core.Bool.{Bool, true, false}
use Rattle.std.specs.Prelude.{Result, Ok, Err}
use Rattle.tasks.specs.Refusals.{refusal_number}
use Rattle.tasks.specs.declared.refusal.Refusal.{Refusal}
use Rattle.closed.specs.Closed.{closed_answer, sheet_file_refusal, SheetJudged}
use Rattle.ronchhek.specs.Files.{FileJudged}

-- the number of a file's answer
abbrev pub closed_number : Result Bool Refusal → ℕ
closed_number (Ok true) = 2 ^ 48
closed_number (Ok false) = 2 * 2 ^ 48
closed_number (Err r) = refusal_number r

one_two : (◌≡◌ {A = List ℕ} (1 ∷ []) (2 ∷ [])) → ⊥
one_two e = let z : ◌≡◌ {A = ℕ} 1 2 = cc in omega arith

zero_one : {r k : ℕ} → 0 < k → (◌≡◌ {A = List ℕ} (0 ∷ r ∷ []) (k ∷ [])) → ⊥
zero_one h e = let z : ◌≡◌ {A = ℕ} 0 _ = ap (λ l. get_or l 0 0) e in omega arith

-- LAW: an answer's number says what the answer does
pub file_judged : (sheet file : List ℕ) (a : Result Bool Refusal) → SheetJudged sheet file (closed_answer a) → FileJudged sheet file (closed_number a)
unfolding closed_answer
file_judged sheet file (Ok true) x = record {
  refused = λ h. absurd (zero_one (omega arith) (sym (x.refused h)));
  accepted = λ z. (λ e. (x.accepted z).0 refl, λ c. refl);
  no = λ z. (λ e. absurd (omega arith), λ c. absurd (one_two ((x.no z).1 c)));
}
file_judged sheet file (Ok false) x = record {
  refused = λ h. absurd (zero_one (omega arith) (sym (x.refused h)));
  accepted = λ z. (λ e. absurd (omega arith), λ c. absurd (one_two (sym ((x.accepted z).1 c))));
  no = λ z. (λ e. (x.no z).0 refl, λ c. refl);
}
file_judged sheet file (Err r) x = record {
  refused = λ h. ap (λ l. get_or l 1 0) (x.refused h);
  accepted = λ z. absurd (no_answer z);
  no = λ z. absurd (no_answer z);
}
  where
    -- a file that is not refused is closed or is not
    no_answer : sheet_file_refusal sheet file ≡ 0 → ⊥
    no_answer z = zero_one (omega arith) ((x.no z).1 (λ c. zero_one (omega arith) ((x.accepted z).1 c)))
