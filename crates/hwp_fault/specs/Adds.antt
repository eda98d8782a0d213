-- What a step of an access adds to the entries of its command.
use Rattle.std.specs.Prelude.{◌≡◌, ◌⊎◌, ℕ, ◌&&◌, Bool, true, false, [], ◌∷◌, ◌++◌, Option, Some, None}
use Rattle.hwp_page.specs.hwp_geom.declared.VSlot.{VSlot}
use Rattle.hwp_page.specs.hwp_geom.declared.Who.{Who}
use Rattle.hwp_page.specs.declared.Met.{Met}
use Rattle.hwp_page.specs.declared.What.{What}
use Rattle.hwp_page.specs.declared.What.TheVariants as entries
use Rattle.hwp_core.specs.hwp_core_rule.declared.Made.{Made}
use Rattle.hwp_core.specs.hwp_core_rule.declared.View.{View}
use Rattle.hwp_core.specs.hwp_core_rule.Known.{deeds, such_deeds}
use Rattle.hwp_core.specs.declared.unlock.UnlockAt.{UnlockAt}
use Rattle.hwp_core.specs.declared.unlock.UnlockAt.TheVariants as unlock_at
use Rattle.hwp_fault.specs.declared.access.Request.{Request}
use Rattle.hwp_fault.specs.declared.access.AccessAt.{AccessAt}
use Rattle.hwp_fault.specs.declared.access.AccessAt.TheVariants as at
use Rattle.hwp_fault.specs.declared.access.AccessAnswer.{AccessAnswer}
use Rattle.hwp_fault.specs.declared.access.AccessAnswer.TheVariants as answers
use Rattle.hwp_fault.specs.Accesses.{check_of}

-- the test finds no entry by which an access brings its page in, and none that answers it
pub record Skips (test : What → Bool) : Type 0 where
  pub fault_in : test entries.FaultIn ≡ false
  pub map : (slot : VSlot) → test (entries.Map slot) ≡ false
  pub load : (slot : VSlot) (line : ℕ) (met : Met) → test (entries.Load slot line met) ≡ false
  pub store : (slot : VSlot) (line : ℕ) (met : Met) → test (entries.Store slot line met) ≡ false

-- such a test finds of the command's entries what it found before
abbrev pub AddsNone : Who → View → View → Type 0
AddsNone who old new = (test : What → Bool) → Skips test → such_deeds test who new ≡ such_deeds test who old

-- the command made the entry that the line is bad, and no other
pub record AddsCheck (a : Request) (old new : View) : Type 0 where
  pub mask : ℕ
  pub check : Made
  pub what_is : check.entry.what ≡ check_of a mask
  pub added : deeds a.who new ≡ deeds a.who old ++ check ∷ []

-- the access has met a bad line
abbrev pub is_checked : AccessAnswer → Bool
is_checked (answers.Checked frame place) = true
is_checked _ = false

-- the frame's body is home
abbrev pub is_home : UnlockAt → Bool
is_home (unlock_at.UnlockFrame frame body) = false
is_home _ = true

-- and the entry that the line is bad is listed: once the body is home
abbrev pub is_listed : UnlockAt → Option AccessAnswer → Bool
is_listed x None = false
is_listed x (Some answer) = is_home x && is_checked answer

abbrev pub has_checked : AccessAt → Bool
has_checked (at.Unlock u then) = is_listed u.at then
has_checked (at.Over answer) = is_checked answer
has_checked _ = false

-- a step of an access adds no entry but such as those tests skip; or it adds that of its machine check
abbrev pub Adds : Request → View → View → Bool → Bool → Type 0
Adds a old new before after = (AddsNone a.who old new × (after ≡ before)) ⊎ (AddsCheck a old new × (before ≡ false) × (after ≡ true))
