-- The policies of threads.
use Rattle.std.specs.Prelude.{◌≡◌, ℕ, ◌≤◌, ◌==◌, List, [], ◌∷◌, Some, length, take, slice_get}
use Rattle.std.specs.List.{filter}
use Rattle.hwp_page.specs.hwp_geom.declared.Cpu.{Cpu}
use Rattle.hwp_page.specs.hwp_geom.declared.Thread.{Thread}
use Rattle.hwp_page.specs.hwp_geom.declared.ThreadDecl.{ThreadDecl}
use Rattle.hwp_page.specs.hwp_geom.Limits.{command_limit}
use Rattle.hwp_page.specs.hwp_kill.declared.Policy.{Policy}
use Rattle.hwp_page.specs.hwp_kill.declared.Policy.TheVariants as policy_names
use Rattle.hwp_core_rule.specs.declared.shared_word.SharedWord.TheVariants as places
use Rattle.hwp_core_rule.specs.declared.view.Part.{Part}
use Rattle.hwp_core_rule.specs.declared.view.Setting.{Setting}
use Rattle.hwp_core_rule.specs.declared.view.Sight.{Sight}
use Rattle.hwp_core_rule.specs.Lists.{EachMember, EachListed, SomeMember}
use Rattle.hwp_core_rule.specs.Steps.{policy_at}

-- the settings of a thread, in their order
abbrev pub settings_of : Thread → List Setting → List Setting
settings_of thread list = filter (λ (s : Setting). s.thread.0 == thread.0) list

-- the last policy set, or the default
abbrev pub last_policy : Policy → List Setting → Policy
last_policy policy [] = policy
last_policy policy (s ∷ list) = last_policy s.policy list

-- the policy word after these settings
abbrev pub policy_after : List Setting → ℕ
policy_after list = policy_at (length list) (last_policy policy_names.Default list)

-- the view is that of the processor
abbrev pub IsOf : Cpu → List Part → Type 0
IsOf cpu parts = SomeMember (λ (p : Part). p.cpu ≡ cpu) parts

-- the word says what the settings of the thread leave, and a sight of it says what some of the first ones left
pub record PolicyAgrees (thread : Thread) (word : ℕ) (sights : List (List Sight)) (list : List Setting) : Type 0 where
  pub now : word ≡ policy_after list
  pub few : length list ≤ command_limit
  pub shown : EachListed (λ (s : Sight). s.place ≡ places.Policy thread → (n : ℕ) × (n ≤ length list) × (s.word ≡ policy_after (take n list))) sights

-- the setting is of a thread of the layout, and was made by the thread's processor
pub record IsSetByOwn (threads : List ThreadDecl) (s : Setting) : Type 0 where
  pub decl : ThreadDecl
  pub declared : slice_get threads s.thread.0 ≡ Some decl
  pub own : decl.cpu ≡ s.stamp.who.cpu

-- A policy word has the number of the settings that its processor's view lists for the thread, and the last of them, or the
-- default; a sight of it is such a place in that list. Each setting is by the processor of its thread. Broken by: a policy
-- written without its number; a thread set by another processor.
pub record PoliciesListed (threads : List ThreadDecl) (policies : List ℕ) (views : List (List Part × List Setting)) (sights : List (List Sight)) : Type 0 where
  pub own : EachMember (λ (v : List Part × List Setting). EachMember (IsSetByOwn threads) v.1) views
  pub agrees : (thread : Thread) (d : ThreadDecl) (w : ℕ) → slice_get threads thread.0 ≡ Some d → slice_get policies thread.0 ≡ Some w
      → EachMember (λ (v : List Part × List Setting). IsOf d.cpu v.0 → PolicyAgrees thread w sights (settings_of thread v.1)) views
