-- A step that can be made has a kind.
use Rattle.std.proofs.Common.{◌≡◌, Option, Some, refl}
use Rattle.hwp_core_rule.specs.hwp_geom.declared.Kind.{Kind}
use Rattle.hwp_core_rule.specs.hwp_geom.declared.Kind.TheVariants as kinds
use Rattle.hwp_core_rule.specs.hwp_geom.declared.Layout.{Layout}
use Rattle.hwp_core_rule.specs.hwp_geom.declared.Who.{Who}
use Rattle.hwp_core_rule.specs.declared.Log.{Log}
use Rattle.hwp_core_rule.specs.declared.SharedWord.{SharedWord}
use Rattle.hwp_core_rule.specs.declared.SharedWord.TheVariants as places
use Rattle.hwp_core_rule.specs.declared.Step.{Step}
use Rattle.hwp_core_rule.specs.declared.Step.TheVariants as steps
use Rattle.hwp_core_rule.specs.declared.View.{View}
use Rattle.hwp_core_rule.specs.Asks.{AsksOf}
use Rattle.hwp_core_rule.specs.Steps.{IsLoaded, kind_of}

pub record HasKind (step : Step) : Type 0 where
  pub kind : Kind
  pub is : kind_of step ≡ Some kind

of-load : (place : SharedWord) → IsLoaded place → HasKind (steps.Load place)
of-load (places.Frame frame) loaded = record { kind = kinds.LoadFrame; is = refl }
of-load (places.Trans slot) loaded = record { kind = kinds.LoadPte; is = refl }
of-load (places.Cache page) loaded = record { kind = kinds.LoadCache; is = refl }
of-load (places.Page page) loaded = absurd loaded
of-load (places.Free number) loaded = record { kind = kinds.LoadFree; is = refl }
of-load places.Available loaded = record { kind = kinds.LoadAvail; is = refl }
of-load (places.Bad frame) loaded = record { kind = kinds.LoadBad; is = refl }
of-load (places.Weak frame) loaded = record { kind = kinds.LoadBad; is = refl }
of-load places.Counter loaded = record { kind = kinds.LoadCount; is = refl }
of-load (places.Process process) loaded = record { kind = kinds.LoadProc; is = refl }
of-load (places.Policy thread) loaded = record { kind = kinds.LoadPolicy; is = refl }
of-load (places.Loss file) loaded = absurd loaded
of-load places.Stop loaded = record { kind = kinds.LoadStop; is = refl }

pub has-kind : (layout : Layout) (who : Who) (step : Step) (content : Option Log) (v : View) → AsksOf layout who step content v → HasKind step
has-kind layout who (steps.Load place) content v asks = of-load place asks
has-kind layout who (steps.Reserve seen) content v asks = record { kind = kinds.Reserve; is = refl }
has-kind layout who (steps.TakeBit frame) content v asks = record { kind = kinds.TakeBit; is = refl }
has-kind layout who (steps.GiveBit frame) content v asks = record { kind = kinds.GiveBit; is = refl }
has-kind layout who steps.Unreserve content v asks = record { kind = kinds.Unreserve; is = refl }
has-kind layout who (steps.Adopt frame) content v asks = record { kind = kinds.Adopt; is = refl }
has-kind layout who (steps.GetRef frame seen count) content v asks = record { kind = kinds.GetRef; is = refl }
has-kind layout who (steps.PutRef frame count) content v asks = record { kind = kinds.PutRef; is = refl }
has-kind layout who (steps.LockFrame frame) content v asks = record { kind = kinds.LockFrame; is = refl }
has-kind layout who (steps.UnlockFrame frame) content v asks = record { kind = kinds.UnlockFrame; is = refl }
has-kind layout who (steps.Retire frame) content v asks = record { kind = kinds.Retire; is = refl }
has-kind layout who (steps.Revive frame seen) content v asks = record { kind = kinds.Revive; is = refl }
has-kind layout who (steps.SetOwner frame page owned) content v asks = record { kind = kinds.SetOwner; is = refl }
has-kind layout who (steps.LockPage page) content v asks = record { kind = kinds.LockPage; is = refl }
has-kind layout who (steps.UnlockPage page) content v asks = record { kind = kinds.UnlockPage; is = refl }
has-kind layout who (steps.SetPte slot pte) content v asks = record { kind = kinds.SetPte; is = refl }
has-kind layout who (steps.SetCache page frame) content v asks = record { kind = kinds.SetCache; is = refl }
has-kind layout who (steps.Poison frame hardware) content v asks = record { kind = kinds.Poison; is = refl }
has-kind layout who (steps.CountPoison hardware) content v asks = record { kind = kinds.CountPoison; is = refl }
has-kind layout who steps.Uncount content v asks = record { kind = kinds.Uncount; is = refl }
has-kind layout who (steps.Spoil frame line damage) content v asks = record { kind = kinds.Spoil; is = refl }
has-kind layout who (steps.Stop cpu) content v asks = record { kind = kinds.Stop; is = refl }
has-kind layout who steps.GiveUp content v asks = record { kind = kinds.GiveUp; is = refl }
has-kind layout who (steps.Kill process page body) content v asks = record { kind = kinds.Kill; is = refl }
has-kind layout who (steps.SetPolicy thread policy settings) content v asks = record { kind = kinds.SetPolicy; is = refl }
has-kind layout who (steps.Lose file body) content v asks = record { kind = kinds.Lose; is = refl }
has-kind layout who (steps.ReportLost file) content v asks = record { kind = kinds.ReportLost; is = refl }
