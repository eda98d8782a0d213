-- Poisonings and unpoisonings of a frame.
use Rattle.std.specs.Prelude.{◌≡◌, ℕ, ◌<◌, ◌≤◌, ◌==◌, ◌&&◌, nat_lt, cond, List, Some, length, slice_get}
use Rattle.std.specs.List.{sum_by}
use Rattle.std.specs.Int.{from_bool}
use Rattle.hwp_page.specs.hwp_geom.declared.Cpu.{Cpu}
use Rattle.hwp_page.specs.hwp_geom.declared.Frame.{Frame}
use Rattle.hwp_page.specs.hwp_geom.Limits.{command_limit}
use Rattle.hwp_words.specs.Frames.{poison_of, cycle_of}
use Rattle.hwp_core_rule.specs.declared.shared_word.SharedWord.TheVariants as places
use Rattle.hwp_core_rule.specs.declared.view.Mark.{Mark}
use Rattle.hwp_core_rule.specs.declared.view.Sight.{Sight}
use Rattle.hwp_core_rule.specs.parts.Counter.{is_poisoning, is_revival}
use Rattle.hwp_core_rule.specs.Lists.{EachMember, EachListed, sum_all}

-- the marks of a frame in a cycle that poisoned it, and those that cleared its poison
abbrev pub poisonings : ℕ → ℕ → List (List Mark) → ℕ
poisonings f cycle marks = sum_all (λ (m : Mark). from_bool ((m.frame.0 == f) && ((m.cycle == cycle) && is_poisoning m.kind))) marks

abbrev pub revivals : ℕ → ℕ → List (List Mark) → ℕ
revivals f cycle marks = sum_all (λ (m : Mark). from_bool ((m.frame.0 == f) && ((m.cycle == cycle) && is_revival m.kind))) marks

-- how often the processor cleared a poison
abbrev pub revivals_by : Cpu → List Mark → ℕ
revivals_by cpu marks = sum_by (λ (m : Mark). from_bool ((m.stamp.who.cpu.0 == cpu.0) && is_revival m.kind)) marks

-- a sight of the frame word is of no later cycle, and of the same cycle only without a poison that the word lacks
pub record IsBefore (word : ℕ) (s : Sight) : Type 0 where
  pub cycle : cycle_of s.word ≤ cycle_of word
  pub poison : cycle_of s.word ≡ cycle_of word → poison_of s.word ≤ poison_of word

-- Of each cycle below a frame's CYCLE the views list one poisoning and one unpoisoning; of its CYCLE one poisoning
-- where POISON is set; and no others, nor any of a frame that the board lacks. No processor lists more than 4,096
-- unpoisonings. Broken by: a poison that found the bit set and marks all the same; a `revive` that leaves the cycle as
-- it was.
pub record MarksAlternate (frames : List ℕ) (marks : List (List Mark)) (sights : List (List Sight)) : Type 0 where
  pub poisoned : (f w cycle : ℕ) → slice_get frames f ≡ Some w → poisonings f cycle marks ≡ cond (nat_lt cycle (cycle_of w)) 1 (cond (cycle == cycle_of w) (poison_of w) 0)
  pub revived : (f w cycle : ℕ) → slice_get frames f ≡ Some w → revivals f cycle marks ≡ from_bool (nat_lt cycle (cycle_of w))
  pub framed : EachListed (λ (m : Mark). m.frame.0 < length frames) marks
  pub few : EachMember (λ (list : List Mark). (cpu : Cpu) → revivals_by cpu list ≤ command_limit) marks
  pub shown : (frame : Frame) (w : ℕ) → slice_get frames frame.0 ≡ Some w → EachListed (λ (s : Sight). s.place ≡ places.Frame frame → IsBefore w s) sights
