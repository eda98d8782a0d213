-- What stays: ended processes and the stop.
use Rattle.std.specs.Prelude.{◌≡◌, ◌≢◌, ℕ, ◌+◌, min, List, Some, length, slice_get}
use Rattle.std.specs.List.{sum_by}
use Rattle.hwp_page.specs.hwp_geom.declared.Proc.{Proc}
use Rattle.hwp_page.specs.hwp_geom.declared.Who.{Who}
use Rattle.hwp_words.specs.Stops.{stopper_of}
use Rattle.hwp_core_rule.specs.declared.shared_word.SharedWord.TheVariants as places
use Rattle.hwp_core_rule.specs.declared.view.InHand.{InHand}
use Rattle.hwp_core_rule.specs.declared.view.Sight.{Sight}
use Rattle.hwp_core_rule.specs.Lists.{EachMember, EachListed}

-- A process that a `kill` met has a word that is not 0, and a word that a step showed as not 0 is as it was. The stop word
-- names the one processor that a view lists as having stopped the machine, and names none where no view does; a name that
-- a step showed is still there. Broken by: a process word written twice; a stop by two processors.
pub record EndingsAndStopsStay (processes : List ℕ) (stop : ℕ) (bodies : List (List InHand)) (sights : List (List Sight)) (stops : List (List Who)) : Type 0 where
  pub killed : EachListed (λ (b : InHand). EachMember (λ (p : Proc). (w : ℕ) → slice_get processes p.0 ≡ Some w → w ≢ 0) b.killed) bodies
  pub ended_stays : (process : Proc) (w : ℕ) → slice_get processes process.0 ≡ Some w → EachListed (λ (s : Sight). s.place ≡ places.Process process → s.word ≢ 0 → w ≡ s.word) sights
  pub stop_stays : EachListed (λ (s : Sight). s.place ≡ places.Stop → stopper_of s.word ≢ 0 → stopper_of stop ≡ stopper_of s.word) sights
  pub one : sum_by (λ (l : List Who). length l) stops ≡ min (stopper_of stop) 1
  pub named : EachListed (λ (w : Who). stopper_of stop ≡ w.cpu.0 + 1) stops
