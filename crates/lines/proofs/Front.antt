-- Bytes after the 64th change nothing of a judgement. Assumes nothing.
use Prim.Native.Nat.{ℕ}
use mathlib.Core.List.{List}
use lib.ListN.{take}
use Rattle.tasks.proofs.Front.{sheet_front}
use Rattle.search.specs.Claim.{sheet_refusal}
use Rattle.lines.specs.Judged.{Judged}

-- LAW: what is printed for the first 64 bytes of an input is what its whole calls for
pub judged_front : {s out out' : List ℕ} {n : ℕ} → Judged (take 64 s) out out' n → Judged s out out' n
unfolding sheet_refusal
judged_front {s} j =
    record {
      answer = j.answer;
      work' = j.work';
      trace' = j.trace';
      search = rw (sheet_front s) at j.search;
      long = j.long;
      text = j.text;
    }
