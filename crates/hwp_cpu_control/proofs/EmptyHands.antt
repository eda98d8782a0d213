-- What a step leaves that holds nothing: the hand stays empty, and the command has made no entry.
use Rattle.std.proofs.Common.{◌≡◌, ℕ, true, Option, ap, inl, inr}
use Rattle.hwp_core_rule.specs.hwp_geom.declared.Layout.{Layout}
use Rattle.hwp_core_rule.specs.hwp_geom.declared.Who.{Who}
use Rattle.hwp_core_rule.specs.hwp_page.History.{BodyValue}
use Rattle.hwp_core_rule.specs.hwp_words.Stops.{is_stopped}
use Rattle.hwp_core_rule.specs.declared.Log.{Log}
use Rattle.hwp_core_rule.specs.declared.SharedWord.TheVariants as places
use Rattle.hwp_core_rule.specs.declared.Step.TheVariants as steps
use Rattle.hwp_core_rule.specs.declared.View.{View}
use Rattle.hwp_core_rule.specs.Calls.{Steps}
use Rattle.hwp_core_rule.specs.Ranks.{HasFrame, HasPage}
use Rattle.hwp_core_rule.specs.Hands.{Hand, hand_of, empty}
use Rattle.hwp_core_rule.specs.Known.{SawStop}
use Rattle.hwp_core_rule.proofs.tasks.SightKeeps.{saw-load}

-- a view that holds nothing has no frame and no page
pub no-frame : (view : View) → hand_of view ≡ empty → HasFrame view → ⊥
no-frame view is (inl some) = some (ap (λ (h : Hand). h.locks) is)
no-frame view is (inr (inl some)) = some (ap (λ (h : Hand). h.hands) is)
no-frame view is (inr (inr some)) = some (ap (λ (h : Hand). h.reserved) is)

pub no-page : (view : View) → hand_of view ≡ empty → HasPage view → ⊥
no-page view is some = some (ap (λ (h : Hand). h.pages) is)

-- a stop word that was shown says that the machine stopped
pub saw-stop : {layout : Layout} {who : Who} {put : Option Log} {old new : View} {found : ℕ} {got : Option BodyValue} → Steps layout who (steps.Load places.Stop) put old new found got → is_stopped found ≡ true → SawStop new who
saw-stop {layout} {who} {put} {old} {new} {found} made is = record { word = found; stopped = is; saw = saw-load made }
