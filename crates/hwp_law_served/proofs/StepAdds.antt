-- What a step adds to the sights, the marks and the settings that its view lists: one more at most, of the step's command.
use Rattle.std.proofs.Common.{◌≡◌, ◌⊎◌, inl, inr, ℕ, ◌==◌, Bool, true, false, cond, List, [], ◌∷◌, ◌++◌, Option, Some, None, refl, sym, subst}
use Rattle.hwp_law.specs.hwp_geom.declared.Frame.{Frame}
use Rattle.hwp_law.specs.hwp_geom.declared.Layout.{Layout}
use Rattle.hwp_law.specs.hwp_geom.declared.Page.{Page}
use Rattle.hwp_law.specs.hwp_geom.declared.Proc.{Proc}
use Rattle.hwp_law.specs.hwp_geom.declared.Who.{Who}
use Rattle.hwp_plain.specs.hwp_core_rule.declared.InHand.{InHand}
use Rattle.hwp_plain.specs.hwp_core_rule.declared.Log.{Log}
use Rattle.hwp_plain.specs.hwp_core_rule.declared.Mark.{Mark}
use Rattle.hwp_plain.specs.hwp_core_rule.declared.SharedWord.{SharedWord}
use Rattle.hwp_plain.specs.hwp_core_rule.declared.SharedWord.TheVariants as places
use Rattle.hwp_plain.specs.hwp_core_rule.declared.Setting.{Setting}
use Rattle.hwp_plain.specs.hwp_core_rule.declared.Sight.{Sight}
use Rattle.hwp_plain.specs.hwp_core_rule.declared.Step.{Step}
use Rattle.hwp_plain.specs.hwp_core_rule.declared.Step.TheVariants as steps
use Rattle.hwp_plain.specs.hwp_core_rule.declared.View.{View}
use Rattle.hwp_plain.specs.hwp_core_rule.Lists.{SomeMember}
use Rattle.hwp_plain.specs.hwp_core_rule.Logs.{log_of}
use Rattle.hwp_plain.specs.hwp_core_rule.Steps.{goes, place_of}
use Rattle.hwp_plain.specs.hwp_core_rule.Views.{body_of, killed_by, listed_of, loaded, put_home, sighted, taken, view_by}
use Rattle.hwp_plain.proofs.of_hwp_core_rule.Lists.{some-push}

-- a list is as it was, or has one member more, which is such
abbrev pub OneMore : {A : Type 0} → (A → Type 0) → List A → List A → Type 0
OneMore {A} Such old new = (new ≡ old) ⊎ ((x : A) × (new ≡ old ++ x ∷ []) × Such x)

-- what is listed stays
pub some-more : {A : Type 0} (P : A → Type 0) {Such : A → Type 0} (old new : List A) → OneMore Such old new → SomeMember P old → SomeMember P new
some-more P old new (inl same) some = subst (SomeMember P) (sym same) some
some-more P old new (inr (x, more, such)) some = subst (SomeMember P) (sym more) (some-push P old x some)

pub record Adds (who : Who) (step : Step) (found : ℕ) (v x : View) : Type 0 where
  pub sights : OneMore (λ (s : Sight). (s.stamp.who ≡ who) × (s.place ≡ place_of step) × (s.word ≡ found)) v.sights x.sights
  pub marks : OneMore (λ (m : Mark). m.stamp.who ≡ who) v.marks x.marks
  pub settings : OneMore (λ (g : Setting). (g.stamp.who ≡ who) × (x.sights ≡ v.sights)) v.settings x.settings
  pub parts : x.parts ≡ v.parts

module _ (who : Who) (step : Step) (found : ℕ) where
  nothing : (v x : View) → x.sights ≡ v.sights → x.marks ≡ v.marks → x.settings ≡ v.settings → x.parts ≡ v.parts → Adds who step found v x
  nothing v x sights marks settings parts = record { sights = inl sights; marks = inl marks; settings = inl settings; parts = parts }

  a-sight : (v x : View) (s : Sight) → x.sights ≡ v.sights ++ s ∷ [] → s.stamp.who ≡ who → s.place ≡ place_of step → s.word ≡ found → x.marks ≡ v.marks → x.settings ≡ v.settings → x.parts ≡ v.parts → Adds who step found v x
  a-sight v x s more own place word marks settings parts = record { sights = inr (s, more, (own, place, word)); marks = inl marks; settings = inl settings; parts = parts }

  a-mark : (v x : View) (m : Mark) → x.marks ≡ v.marks ++ m ∷ [] → m.stamp.who ≡ who → x.sights ≡ v.sights → x.settings ≡ v.settings → x.parts ≡ v.parts → Adds who step found v x
  a-mark v x m more own sights settings parts = record { sights = inl sights; marks = inr (m, more, own); settings = inl settings; parts = parts }

  either : (b : Bool) (v x y : View) → Adds who step found v x → Adds who step found v y → Adds who step found v (cond b x y)
  either true v x y g h = g
  either false v x y g h = h

  loads : (place : SharedWord) (v : View) → place ≡ place_of step → Adds who step found v (loaded who place found v)
  loads (places.Cache page) v is = a-sight v _ _ refl refl is refl refl refl refl
  loads _ v is = a-sight v _ _ refl refl is refl refl refl refl

  takes : (layout : Layout) (frame : Option Frame) (content : Option Log) (u v : View) → Adds who step found u v → Adds who step found u (taken layout who frame content v)
  takes layout frame None u v adds = adds
  takes layout frame (Some log) u v adds = record { sights = adds.sights; marks = adds.marks; settings = adds.settings; parts = adds.parts }

  lists : (layout : Layout) (log : Log) (body : Option InHand) (v : View) → Adds who step found v (listed_of layout who log body v)
  lists layout log None v = nothing v _ refl refl refl refl
  lists layout log (Some body) v = nothing v _ refl refl refl refl

  puts : (layout : Layout) (content : Option Log) (v : View) → Adds who step found v (put_home layout who content v)
  puts layout None v = nothing v _ refl refl refl refl
  puts layout (Some log) v = let listed = lists layout log (body_of log.page v) v in record { sights = listed.sights; marks = listed.marks; settings = listed.settings; parts = listed.parts }

-- a process that a kill met, after the entries past those that are listed
kills : (layout : Layout) (who : Who) (step : Step) (process : Proc) (page : Page) → places.Process process ≡ place_of step → (found : ℕ) (log : Log) (body : Option InHand) (v : View)
    → Adds who step found v (cond (found == 0) (killed_by process page (listed_of layout who log body v)) (sighted who (places.Process process) found (killed_by process page (listed_of layout who log body v))))
kills layout who step process page is found log None v = either who step found (found == 0) v _ _ (nothing who step found v _ refl refl refl refl) (a-sight who step found v _ _ refl refl is refl refl refl refl)
kills layout who step process page is found log (Some body) v = either who step found (found == 0) v _ _ (nothing who step found v _ refl refl refl refl) (a-sight who step found v _ _ refl refl is refl refl refl refl)

pub adds-by : (layout : Layout) (who : Who) (step : Step) (found : ℕ) (content : Option Log) (v : View) → Adds who step found v (view_by layout who step found content v)
adds-by layout who (steps.Load place) found content v = loads who (steps.Load place) found place v refl
adds-by layout who (steps.Reserve seen) found content v = let by = steps.Reserve seen in either who by found (found == seen) v _ _ (nothing who by found v _ refl refl refl refl) (a-sight who by found v _ _ refl refl refl refl refl refl refl)
adds-by layout who (steps.TakeBit frame) found content v = let by = steps.TakeBit frame in either who by found (goes by found) v _ _ (nothing who by found v _ refl refl refl refl) (a-sight who by found v _ _ refl refl refl refl refl refl refl)
adds-by layout who (steps.GiveBit frame) found content v = nothing who (steps.GiveBit frame) found v _ refl refl refl refl
adds-by layout who steps.Unreserve found content v = nothing who steps.Unreserve found v _ refl refl refl refl
adds-by layout who (steps.Adopt frame) found content v = a-sight who (steps.Adopt frame) found v _ _ refl refl refl refl refl refl refl
adds-by layout who (steps.GetRef frame seen count) found content v =
    let by = steps.GetRef frame seen count in either who by found (found == seen) v _ _ (nothing who by found v _ refl refl refl refl) (a-sight who by found v _ _ refl refl refl refl refl refl refl)
adds-by layout who (steps.PutRef frame count) found content v = nothing who (steps.PutRef frame count) found v _ refl refl refl refl
adds-by layout who (steps.LockFrame frame) found content v =
    let by = steps.LockFrame frame in either who by found (goes by found) v _ _ (takes who by found layout (Some frame) content v _ (nothing who by found v _ refl refl refl refl)) (nothing who by found v v refl refl refl refl)
adds-by layout who (steps.UnlockFrame frame) found content v = let put = puts who (steps.UnlockFrame frame) found layout content v in record { sights = put.sights; marks = put.marks; settings = put.settings; parts = put.parts }
adds-by layout who (steps.Retire frame) found content v = nothing who (steps.Retire frame) found v _ refl refl refl refl
adds-by layout who (steps.Revive frame seen) found content v =
    let by = steps.Revive frame seen in either who by found (found == seen) v _ _ (a-mark who by found v _ _ refl refl refl refl refl) (a-sight who by found v _ _ refl refl refl refl refl refl refl)
adds-by layout who (steps.SetOwner frame page owned) found content v = nothing who (steps.SetOwner frame page owned) found v _ refl refl refl refl
adds-by layout who (steps.LockPage page) found content v =
    let by = steps.LockPage page in either who by found (goes by found) v _ _ (takes who by found layout None content v _ (nothing who by found v _ refl refl refl refl)) (nothing who by found v v refl refl refl refl)
adds-by layout who (steps.UnlockPage page) found content v = let put = puts who (steps.UnlockPage page) found layout content v in record { sights = put.sights; marks = put.marks; settings = put.settings; parts = put.parts }
adds-by layout who (steps.SetPte slot pte) found content v = nothing who (steps.SetPte slot pte) found v _ refl refl refl refl
adds-by layout who (steps.SetCache page frame) found content v = nothing who (steps.SetCache page frame) found v _ refl refl refl refl
adds-by layout who (steps.Poison frame hardware) found content v =
    let by = steps.Poison frame hardware in
    let adds = either who by found (goes by found) v _ _ (a-mark who by found v _ _ refl refl refl refl refl) (a-sight who by found v _ _ refl refl refl refl refl refl refl) in record { sights = adds.sights; marks = adds.marks; settings = adds.settings; parts = adds.parts }
adds-by layout who (steps.CountPoison hardware) found content v = nothing who (steps.CountPoison hardware) found v _ refl refl refl refl
adds-by layout who steps.Uncount found content v = nothing who steps.Uncount found v _ refl refl refl refl
adds-by layout who (steps.Spoil frame line damage) found content v = nothing who (steps.Spoil frame line damage) found v _ refl refl refl refl
adds-by layout who (steps.Stop cpu) found content v = let by = steps.Stop cpu in either who by found (found == 0) v _ _ (nothing who by found v _ refl refl refl refl) (a-sight who by found v _ _ refl refl refl refl refl refl refl)
adds-by layout who steps.GiveUp found content v = nothing who steps.GiveUp found v v refl refl refl refl
adds-by layout who (steps.Kill process page body) found content v = kills layout who (steps.Kill process page body) process page refl found (log_of body.value) (body_of body.value.page v) v
adds-by layout who (steps.SetPolicy thread policy settings) found content v =
    record { sights = inl refl; marks = inl refl; settings = inr (record { stamp = _; thread = thread; policy = policy }, refl, (refl, refl)); parts = refl }
adds-by layout who (steps.Lose file body) found content v = let listed = lists who (steps.Lose file body) found layout (log_of body.value) (body_of body.value.page v) v in record { sights = listed.sights; marks = listed.marks; settings = listed.settings; parts = listed.parts }
adds-by layout who (steps.ReportLost file) found content v = record { sights = inr (_, refl, (refl, refl, refl)); marks = inl refl; settings = inl refl; parts = refl }
