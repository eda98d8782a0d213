-- Processes that a signal ended.
use Rattle.std.specs.Prelude.{◌≡◌, ◌≢◌, ℕ, ◌+◌, ◌≤◌, true, List, Some, length, take, slice_get}
use Rattle.hwp_page.specs.hwp_geom.declared.Layout.{Layout}
use Rattle.hwp_page.specs.hwp_geom.declared.Proc.{Proc}
use Rattle.hwp_page.specs.declared.Entry.{Entry}
use Rattle.hwp_page.specs.Endings.{has_ending, is_ending}
use Rattle.hwp_page.specs.Orders.{IsNotLater}
use Rattle.hwp_core_rule.specs.declared.log.Log.{Log}
use Rattle.hwp_core_rule.specs.declared.shared_word.SharedWord.TheVariants as places
use Rattle.hwp_core_rule.specs.declared.view.InHand.{InHand}
use Rattle.hwp_core_rule.specs.declared.view.Sight.{Sight}
use Rattle.hwp_core_rule.specs.Lists.{Homes, EachBody, EachMember, EachListed, SomeMember}

-- the processes that a history ended have a word that is not 0
abbrev pub AreEnded : Layout → List ℕ → List Entry → Type 0
AreEnded layout processes list = (process : Proc) (w : ℕ) → slice_get processes process.0 ≡ Some w → has_ending layout process list ≡ true → w ≢ 0

-- the process's word names the page, and a sight of it did: the page's body has an ending signal of the process that is
-- of no later command of the sight's processor
abbrev pub ShowsEnding : Layout → Homes → List (List InHand) → Sight → Type 0
ShowsEnding layout homes bodies s =
    (process : Proc) → s.place ≡ places.Process process
    → EachBody (λ (log : Log). s.word ≡ log.page.0 + 1 → SomeMember (λ (e : Entry). (is_ending layout process e.what ≡ true) × IsNotLater e.who s.stamp.who) log.entries) homes bodies

-- A process word is 0 or names a page of the layout, which has an ending signal of the process in its body; a process with
-- an ending signal, in a body at home or in what a body in hand had when it was taken, has a word that is not 0. A body in
-- hand has all entries that it was taken with. Broken by: a `kill` that names no page; a `kill` of a body without the signal; a body put home with an ending
-- signal and no `kill`; a process word set back to 0.
pub record EndingsAgree (layout : Layout) (processes : List ℕ) (homes : Homes) (bodies : List (List InHand)) (sights : List (List Sight)) : Type 0 where
  pub named : EachMember (λ (w : ℕ). w ≤ length layout.pages) processes
  pub caused : (process : Proc) (w : ℕ) → slice_get processes process.0 ≡ Some w → EachBody (λ (log : Log). w ≡ log.page.0 + 1 → has_ending layout process log.entries ≡ true) homes bodies
  pub ended : (i : ℕ) (log : Log) → slice_get homes i ≡ Some (Some (Some log)) → AreEnded layout processes log.entries
  pub ended_before : EachListed (λ (b : InHand). AreEnded layout processes (take b.since b.log.entries)) bodies
  pub taken : EachListed (λ (b : InHand). b.since ≤ length b.log.entries) bodies
  pub shown : EachListed (ShowsEnding layout homes bodies) sights
