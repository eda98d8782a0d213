-- The counter word.
use Rattle.std.specs.Prelude.{◌≡◌, ℕ, ◌+◌, ◌^◌, ◌<◌, ◌≤◌, Bool, true, false, List}
use Rattle.std.specs.List.{sum_by}
use Rattle.std.specs.Int.{from_bool}
use Rattle.hwp_page.specs.Orders.{IsNotLater}
use Rattle.hwp_words.specs.Counters.{hardware_of, biased_poisoned_of}
use Rattle.hwp_words.specs.Frames.{poison_of}
use Rattle.hwp_core_rule.specs.declared.shared_word.SharedWord.TheVariants as places
use Rattle.hwp_core_rule.specs.declared.view.Mark.{Mark}
use Rattle.hwp_core_rule.specs.declared.view.MarkKind.{MarkKind}
use Rattle.hwp_core_rule.specs.declared.view.MarkKind.TheVariants as kinds
use Rattle.hwp_core_rule.specs.declared.view.Sight.{Sight}
use Rattle.hwp_core_rule.specs.Lists.{EachMember, EachListed, SomeMember}

abbrev pub is_by_hardware : MarkKind → Bool
is_by_hardware (kinds.Poisoned hardware) = hardware
is_by_hardware kinds.Revived = false

abbrev pub is_poisoning : MarkKind → Bool
is_poisoning (kinds.Poisoned hardware) = true
is_poisoning kinds.Revived = false

abbrev pub is_revival : MarkKind → Bool
is_revival (kinds.Poisoned hardware) = false
is_revival kinds.Revived = true

-- what a view has to do with the counter
pub record CountDebts : Type 0 where
  pub counts : ℕ
  pub hardware : ℕ
  pub uncounts : ℕ
  pub marks : List Mark

-- a view owes no more counts than it poisoned frames, and no more counts to take back than it unpoisoned frames
pub record IsCovered (debts : CountDebts) : Type 0 where
  pub counts : debts.counts + debts.hardware ≤ sum_by (λ (m : Mark). from_bool (is_poisoning m.kind)) debts.marks
  pub uncounts : debts.uncounts ≤ sum_by (λ (m : Mark). from_bool (is_revival m.kind)) debts.marks

-- some mark by a hardware failure is of no later command of the sight's processor
abbrev pub SomeHardware : List CountDebts → Sight → Type 0
SomeHardware debts s =
    SomeMember (λ (d : CountDebts). SomeMember (λ (m : Mark). (is_by_hardware m.kind ≡ true) × IsNotLater m.stamp.who s.stamp.who) d.marks) debts

-- The poisoned frames that the counter counts, plus the counts owed, less those to take back, are the frames with POISON;
-- its hardware failures plus those owed are the marks by hardware failures. Where a step showed hardware failures, one of
-- them is of no later command of its processor. Broken by: a poison that owes no count; a count of the wrong kind; the
-- counter read without its sign.
pub record CounterAgrees (frames : List ℕ) (counter : ℕ) (debts : List CountDebts) (sights : List (List Sight)) : Type 0 where
  pub poisoned : biased_poisoned_of counter + sum_by (λ (d : CountDebts). d.counts + d.hardware) debts
      ≡ 2 ^ 31 + sum_by poison_of frames + sum_by (λ (d : CountDebts). d.uncounts) debts
  pub hardware : hardware_of counter + sum_by (λ (d : CountDebts). d.hardware) debts
      ≡ sum_by (λ (d : CountDebts). sum_by (λ (m : Mark). from_bool (is_by_hardware m.kind)) d.marks) debts
  pub covered : EachMember IsCovered debts
  pub shown : EachListed (λ (s : Sight). s.place ≡ places.Counter → 0 < hardware_of s.word → SomeHardware debts s) sights
