-- A step keeps the turn: the seat still has its processors, and has come to no later command.
use Rattle.std.proofs.Common.{◌≡◌, ℕ, ◌≤◌, ◌==◌, max, Bool, true, false, cond, Option, Some, None, refl, sym, ap, ◌∙◌, subst, arith, true≢false}
use Rattle.std.proofs.lemmas.Bool.{eq-eqb}
use Rattle.hwp_page.specs.hwp_geom.declared.Cpu.{Cpu}
use Rattle.hwp_page.specs.hwp_geom.declared.Frame.{Frame}
use Rattle.hwp_page.specs.hwp_geom.declared.Layout.{Layout}
use Rattle.hwp_page.specs.hwp_geom.declared.Who.{Who}
use Rattle.hwp_core_rule.specs.declared.log.Log.{Log}
use Rattle.hwp_core_rule.specs.declared.shared_word.SharedWord.{SharedWord}
use Rattle.hwp_core_rule.specs.declared.record.Rec.{Rec}
use Rattle.hwp_core_rule.specs.declared.step.Step.{Step}
use Rattle.hwp_core_rule.specs.declared.view.InHand.{InHand}
use Rattle.hwp_core_rule.specs.declared.view.Part.{Part}
use Rattle.hwp_core_rule.specs.declared.view.View.{View}
use Rattle.hwp_core_rule.specs.Asks.{BeginsBare, IsTurnOf}
use Rattle.hwp_core_rule.specs.Lists.{EachMember, SomeMember}
use Rattle.hwp_core_rule.specs.Logs.{log_of}
use Rattle.hwp_core_rule.specs.Steps.{goes}
use Rattle.hwp_core_rule.specs.Views.{loaded, taken, listed_of, body_of, put_home, view_by, noted, view_after}
use Rattle.hwp_core_rule.proofs.Lists.{each-changed, each-map, some-changed}
use Rattle.hwp_core_rule.specs.declared.shared_word.SharedWord.TheVariants as places
use Rattle.hwp_core_rule.specs.declared.step.Step.TheVariants as steps

either-way : (b : Bool) (x y v : View) → x.parts ≡ v.parts → y.parts ≡ v.parts → (cond b x y).parts ≡ v.parts
either-way true x y v e g = e
either-way false x y v e g = g

by-load : (who : Who) (place : SharedWord) (found : ℕ) (v : View) → (loaded who place found v).parts ≡ v.parts
by-load who (places.Frame frame) found v = refl
by-load who (places.Trans slot) found v = refl
by-load who (places.Cache page) found v = refl
by-load who (places.Page page) found v = refl
by-load who (places.Free number) found v = refl
by-load who places.Available found v = refl
by-load who (places.Bad frame) found v = refl
by-load who (places.Weak frame) found v = refl
by-load who places.Counter found v = refl
by-load who (places.Process process) found v = refl
by-load who (places.Policy thread) found v = refl
by-load who (places.Loss file) found v = refl
by-load who places.Stop found v = refl

by-take : (layout : Layout) (who : Who) (frame : Option Frame) (content : Option Log) (v : View) → (taken layout who frame content v).parts ≡ v.parts
by-take layout who frame None v = refl
by-take layout who frame (Some log) v = refl

by-list : (layout : Layout) (who : Who) (log : Log) (body : Option InHand) (v : View) → (listed_of layout who log body v).parts ≡ v.parts
by-list layout who log None v = refl
by-list layout who log (Some body) v = refl

by-put : (layout : Layout) (who : Who) (content : Option Log) (v : View) → (put_home layout who content v).parts ≡ v.parts
by-put layout who None v = refl
by-put layout who (Some log) v = by-list layout who log (body_of log.page v) v

-- no kind of step changes it
by-step : (layout : Layout) (who : Who) (step : Step) (found : ℕ) (content : Option Log) (v : View) → (view_by layout who step found content v).parts ≡ v.parts
by-step layout who (steps.Load place) found content v = by-load who place found v
by-step layout who (steps.Reserve seen) found content v = either-way (found == seen) _ _ v refl refl
by-step layout who (steps.TakeBit frame) found content v = either-way (goes (steps.TakeBit frame) found) _ _ v refl refl
by-step layout who (steps.GiveBit frame) found content v = refl
by-step layout who steps.Unreserve found content v = refl
by-step layout who (steps.Adopt frame) found content v = refl
by-step layout who (steps.GetRef frame seen count) found content v = either-way (found == seen) _ _ v refl refl
by-step layout who (steps.PutRef frame count) found content v = refl
by-step layout who (steps.LockFrame frame) found content v = either-way (goes (steps.LockFrame frame) found) _ _ v (by-take layout who (Some frame) content _) refl
by-step layout who (steps.UnlockFrame frame) found content v = by-put layout who content v
by-step layout who (steps.Retire frame) found content v = refl
by-step layout who (steps.Revive frame seen) found content v = either-way (found == seen) _ _ v refl refl
by-step layout who (steps.SetOwner frame page owned) found content v = refl
by-step layout who (steps.LockPage page) found content v = either-way (goes (steps.LockPage page) found) _ _ v (by-take layout who None content _) refl
by-step layout who (steps.UnlockPage page) found content v = by-put layout who content v
by-step layout who (steps.SetPte slot pte) found content v = refl
by-step layout who (steps.SetCache page frame) found content v = refl
by-step layout who (steps.Poison frame hardware) found content v = either-way (goes (steps.Poison frame hardware) found) _ _ v refl refl
by-step layout who (steps.CountPoison hardware) found content v = refl
by-step layout who steps.Uncount found content v = refl
by-step layout who (steps.Spoil frame line damage) found content v = refl
by-step layout who (steps.Stop cpu) found content v = either-way (found == 0) _ _ v refl refl
by-step layout who steps.GiveUp found content v = refl
by-step layout who (steps.Kill process page body) found content v = either-way (found == 0) _ _ v (by-list layout who (log_of body.value) (body_of body.value.page v) v) (by-list layout who (log_of body.value) (body_of body.value.page v) v)
by-step layout who (steps.SetPolicy thread policy settings) found content v = refl
by-step layout who (steps.Lose file body) found content v = by-list layout who (log_of body.value) (body_of body.value.page v) v
by-step layout who (steps.ReportLost file) found content v = refl

abbrev is_part : Who → Part → Bool
is_part who p = p.cpu.0 == who.cpu.0

abbrev later : Who → Part → Part
later who p = record p { latest = max p.latest who.seq }

-- the processor has its turn, also after a step of its own
pub turn-after : (layout : Layout) (r : Rec) (v : View) (who : Who) → r.who ≡ who → IsTurnOf v who → IsTurnOf (view_after layout r v) who
turn-after layout r v who own turn = record { part = subst (SomeMember (λ (p : Part). (p.cpu ≡ who.cpu) × (p.latest ≤ who.seq))) (sym same) part }
  where
    same : (view_after layout r v).parts ≡ (noted r.who v).parts
    same = by-step layout r.who r.step r.found r.content (noted r.who v)

    part : SomeMember (λ (p : Part). (p.cpu ≡ who.cpu) × (p.latest ≤ who.seq)) (noted r.who v).parts
    part = some-changed (λ (p : Part). (p.cpu ≡ who.cpu) × (p.latest ≤ who.seq)) (is_part r.who) (later r.who) v.parts
        (λ p is h. let below : p.latest ≤ who.seq = h.1 in let now : r.who.seq ≡ who.seq = ap (λ (w : Who). w.seq) own in (h.0, omega arith)) turn.part

-- after a step its processor has come to its command
come-to : (layout : Layout) (r : Rec) (v : View) → EachMember (λ (p : Part). p.cpu ≡ r.who.cpu → r.who.seq ≤ p.latest) (view_after layout r v).parts
come-to layout r v = subst (EachMember (λ (p : Part). p.cpu ≡ r.who.cpu → r.who.seq ≤ p.latest))
    (sym (by-step layout r.who r.step r.found r.content (noted r.who v)))
    (each-map (λ (p : Part). cond (is_part r.who p) (later r.who p) p) (λ (p : Part). p.cpu ≡ r.who.cpu → r.who.seq ≤ p.latest) v.parts (λ i p there. which p (is_part r.who p) refl))
  where
    which : (p : Part) (b : Bool) → is_part r.who p ≡ b → (cond b (later r.who p) p).cpu ≡ r.who.cpu → r.who.seq ≤ (cond b (later r.who p) p).latest
    which p true is same = omega arith
    which p false is same = absurd (true≢false (sym (eq-eqb p.cpu.0 r.who.cpu.0 (ap (λ (c : Cpu). c.0) same)) ∙ is))

-- so its next step begins no command
pub begun-after : (layout : Layout) (r : Rec) (v : View) → BeginsBare (view_after layout r v) r.who
begun-after layout r v i p there same less = absurd (let come : r.who.seq ≤ p.latest = come-to layout r v i p there same in omega (arith, less))

-- a processor of the view has come to no later command, also after a step of that command or of an earlier one
pub none-later-after : (layout : Layout) (r : Rec) (v : View) (cpu : Cpu) (seq : ℕ) → r.who.seq ≤ seq
    → EachMember (λ (p : Part). p.cpu ≡ cpu → p.latest ≤ seq) v.parts → EachMember (λ (p : Part). p.cpu ≡ cpu → p.latest ≤ seq) (view_after layout r v).parts
none-later-after layout r v cpu seq now each = subst (EachMember (λ (p : Part). p.cpu ≡ cpu → p.latest ≤ seq))
    (sym (by-step layout r.who r.step r.found r.content (noted r.who v)))
    (each-changed (λ (p : Part). p.cpu ≡ cpu → p.latest ≤ seq) (is_part r.who) (later r.who) v.parts (λ p is h same. let below : p.latest ≤ seq = h same in omega arith) each)

-- a processor of the view is one of it, also after a step
pub part-after : (layout : Layout) (r : Rec) (v : View) (cpu : Cpu) → SomeMember (λ (p : Part). p.cpu ≡ cpu) v.parts → SomeMember (λ (p : Part). p.cpu ≡ cpu) (view_after layout r v).parts
part-after layout r v cpu some = subst (SomeMember (λ (p : Part). p.cpu ≡ cpu)) (sym (by-step layout r.who r.step r.found r.content (noted r.who v)))
    (some-changed (λ (p : Part). p.cpu ≡ cpu) (is_part r.who) (later r.who) v.parts (λ p is h. h) some)
