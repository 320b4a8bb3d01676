-- The first test that holds picks the refusal. Assumes nothing.
use Rattle.lists.proofs.Picks.{pick_yes, pick_no}
use Prim.Native.Nat.{ℕ, ◌<◌, ◌≤◌}
use mathlib.Core.Path.{◌≡◌, sym, ◌∙◌, refl}
use mathlib.Core.Bool.{true, false}
use native.Mathlib.Omega.{arith}
use lib.Dec.{ltb}
use borrow.Author.Tests.{lt-ltb, le-ltb}
use Rattle.tasks.specs.Table.{last_policy, table_fault}
use Rattle.tasks.specs.declared.refusal.Refusal.TheVariants.{Policy, Processors, TaskCount, Task}
use Rattle.tasks.proofs.Refusals.{refused_at, unless_none}
use Rattle.tasks.proofs.table.Table.check.Goals as goal

-- the policy that the test reads is the table's
above : (policy w : ℕ) → w ≡ policy → last_policy < w → ltb last_policy policy ≡ true
above policy w e h = lt-ltb last_policy policy (omega arith)

within : (policy w : ℕ) → w ≡ policy → w ≤ last_policy → ltb last_policy policy ≡ false
within policy w e h = le-ltb last_policy policy (omega arith)

pub returns-then-policy-gt-LAST_POLICY : goal.returns-then-policy-gt-LAST_POLICY
unfolding table_fault
returns-then-policy-gt-LAST_POLICY c = refused_at Policy tt (pick_yes _ (above _ _ c.from-policy.ensures c.if-policy-gt-LAST_POLICY.true))

pub returns-then-m : goal.returns-then-m
unfolding table_fault
returns-then-m c =
    refused_at Processors tt
    (pick_no _ (within _ _ c.from-policy.ensures c.if-policy-gt-LAST_POLICY.false) (pick_yes _ (sym c.outside-m.ensures ∙ c.if-m.true)))

pub returns-then-n : goal.returns-then-n
unfolding table_fault
returns-then-n c =
    refused_at TaskCount tt
    (pick_no _ (within _ _ c.from-policy.ensures c.if-policy-gt-LAST_POLICY.false)
    (pick_no _ (sym c.outside-m.ensures ∙ c.if-m.false)
    (pick_yes _ (sym c.outside-n.ensures ∙ c.if-n.true))))

pub returns-then-any_fault : goal.returns-then-any_fault
unfolding table_fault
returns-then-any_fault c =
    refused_at Task tt
    (pick_no _ (within _ _ c.from-policy.ensures c.if-policy-gt-LAST_POLICY.false)
    (pick_no _ (sym c.outside-m.ensures ∙ c.if-m.false)
    (pick_no _ (sym c.outside-n.ensures ∙ c.if-n.false)
    (pick_yes _ (sym c.any_fault.ensures ∙ c.if-any_fault.true)))))

pub returns : goal.returns
unfolding table_fault
returns c =
    unless_none tt
    (pick_no _ (within _ _ c.from-policy.ensures c.if-policy-gt-LAST_POLICY.false)
    (pick_no _ (sym c.outside-m.ensures ∙ c.if-m.false)
    (pick_no _ (sym c.outside-n.ensures ∙ c.if-n.false)
    (pick_no _ (sym c.any_fault.ensures ∙ c.if-any_fault.false) refl))))
