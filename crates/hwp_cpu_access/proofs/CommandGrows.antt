-- What a command has made only grows, and its lines stay right.
use Rattle.std.proofs.Common.{◌≡◌, inl, inr, ℕ, ◌+◌, ◌==◌, Bool, true, false, cond, List, [], ◌∷◌, ◌++◌, Option, Some, None, filter, filter_map, length, append-nil, refl, sym, ap, ◌∙◌, subst, arith}
use Rattle.std.specs.Int.{from_bool}
use Rattle.std.specs.List.{cons_option}
use Rattle.std.proofs.lemmas.Bool.{both_ways}
use Rattle.std.proofs.lemmas.List.{length-append}
use Rattle.std.proofs.lemmas.List.Elements.{filter-append, filter_map-append}
use Rattle.std.proofs.lemmas.Option.{none-some}
use Rattle.hwp_fault.specs.hwp_geom.declared.Frame.{Frame}
use Rattle.hwp_fault.specs.hwp_geom.declared.Layout.{Layout}
use Rattle.hwp_fault.specs.hwp_geom.declared.Mode.{Mode}
use Rattle.hwp_fault.specs.hwp_geom.declared.Page.{Page}
use Rattle.hwp_fault.specs.hwp_geom.declared.Who.{Who}
use Rattle.hwp_claim.specs.hwp_banks.declared.Origin.{Origin}
use Rattle.hwp_fault.specs.hwp_page.declared.What.{What}
use Rattle.hwp_fault.specs.hwp_page.declared.What.TheVariants as entries
use Rattle.hwp_fault.specs.hwp_page.History.{BodyValue}
use Rattle.hwp_fault.specs.hwp_core_rule.declared.InHand.{InHand}
use Rattle.hwp_fault.specs.hwp_core_rule.declared.Log.{Log}
use Rattle.hwp_fault.specs.hwp_core_rule.declared.Made.{Made}
use Rattle.hwp_fault.specs.hwp_core_rule.declared.Mark.{Mark}
use Rattle.hwp_fault.specs.hwp_core_rule.declared.SharedWord.{SharedWord}
use Rattle.hwp_fault.specs.hwp_core_rule.declared.Step.{Step}
use Rattle.hwp_fault.specs.hwp_core_rule.declared.Step.TheVariants as steps
use Rattle.hwp_fault.specs.hwp_core_rule.declared.View.{View}
use Rattle.hwp_fault.specs.hwp_core_rule.Lists.{SomeMember}
use Rattle.hwp_fault.specs.hwp_core_rule.Logs.{log_of}
use Rattle.hwp_fault.specs.hwp_core_rule.Views.{body_of, killed_by, listed, listed_of, noted, put_home, sighted}
use Rattle.hwp_fault.specs.hwp_core_rule.declared.SharedWord.TheVariants as places
use Rattle.hwp_fault.proofs.of_hwp_core_rule.Lists.{at_longer, each-push}
use Rattle.hwp_fault.specs.hwp_core_rule.Calls.{Steps, logs}
use Rattle.hwp_fault.specs.hwp_core_rule.Known.{HasMadeBeside, HasOnlyBeside, IsOnTheWay, Precedes, Saw, deeds, is_by, is_failure, such_deeds}
use Rattle.hwp_fault.proofs.of_hwp_core_rule.tasks.MadeEntries.{made-kept, only-beside-more, only-beside-stays, only-of-made}
use Rattle.hwp_fault.proofs.of_hwp_core_rule.tasks.SightKeeps.{saw-stays}
use Rattle.hwp_claim.specs.hwp_claim_act.declared.Failed.{Failed}
use Rattle.hwp_claim.specs.hwp_claim_act.Abandoned.{AddsFailure, failed_in, failed_of}
use Rattle.hwp_claim.specs.hwp_claim_frame.Claims.{is_own}
use Rattle.hwp_fault.specs.declared.Access.{Access}
use Rattle.hwp_fault.specs.declared.Request.{Request}
use Rattle.hwp_fault.specs.Accesses as accesses
use Rattle.hwp_fault.specs.Accesses.{check_of}
use Rattle.hwp_fault.specs.Adds as adds
use Rattle.hwp_fault.specs.Adds.{Skips}
use Rattle.hwp_claim.proofs.of_hwp_claim_frame.Quiet.{Alike, PlansQuiet, leaves}
use Rattle.hwp_claim.specs.hwp_banks.Banks.{Banks, empty_banks}
use Rattle.hwp_claim.specs.hwp_severity.Handling.{has_stop}
use Rattle.hwp_claim.specs.hwp_law.Commands.{is_check}
use Rattle.hwp_claim.proofs.FailureKeeps.{Stay, told-stays}
use Rattle.hwp_claim.specs.Checks.{Check, restarting, with_own}
use Rattle.hwp_cpu_access.specs.Checks.{AreChecks, IsCheck, SawBad}
use Rattle.hwp_cpu_access.specs.Done.{FailuresGrow, failures_by}
use Rattle.hwp_cpu_access.specs.Fits.{checks_made}
use Rattle.hwp_cpu_access.proofs.Quiet.{access}

-- ---- the entries of a view

pub record More (v x : View) : Type 0 where
  pub more : List Made
  pub made_is : x.made ≡ v.made ++ more

same : (v x : View) → x.made ≡ v.made → More v x
same v x is = record { more = []; made_is = is ∙ sym (append-nil v.made) }

either : (b : Bool) (v x y : View) → More v x → More v y → More v (cond b x y)
either true v x y one other = one
either false v x y one other = other

lists-more : (layout : Layout) (who : Who) (log : Log) (body : Option InHand) (v : View) → More v (listed_of layout who log body v)
lists-more layout who log None v = same v v refl
lists-more layout who log (Some body) v = record { more = _; made_is = refl }

puts-more : (layout : Layout) (who : Who) (content : Option Log) (v : View) → More v (put_home layout who content v)
puts-more layout who None v = same v v refl
puts-more layout who (Some log) v = let is = lists-more layout who log (body_of log.page v) v in record { more = is.more; made_is = is.made_is }

of-view : (who : Who) (old new x : View) → new.made ≡ x.made → More (noted who old) x → More old new
of-view who old new x is more = record { more = more.more; made_is = is ∙ more.made_is }

module _ {layout : Layout} {who : Who} {put : Option Log} {old new : View} {found : ℕ} {got : Option BodyValue} where
  -- the entries of a view only grow
  pub made-more : (step : Step) → Steps layout who step put old new found got → More old new
  made-more (steps.UnlockFrame frame) made = of-view who old new (put_home layout who put (noted who old)) (ap (λ (v : View). v.made) made.told.next) (puts-more layout who put (noted who old))
  made-more (steps.UnlockPage page) made = of-view who old new (put_home layout who put (noted who old)) (ap (λ (v : View). v.made) made.told.next) (puts-more layout who put (noted who old))
  made-more (steps.Kill process page body) made =
      let now : View = listed layout who (log_of body.value) (noted who old) in
      let is : More (noted who old) now = lists-more layout who (log_of body.value) (body_of (log_of body.value).page (noted who old)) (noted who old) in
      of-view who old new (cond (found == 0) (killed_by process page now) (sighted who (places.Process process) found (killed_by process page now))) (ap (λ (v : View). v.made) made.told.next)
      (either (found == 0) (noted who old) (killed_by process page now) (sighted who (places.Process process) found (killed_by process page now)) (record { more = is.more; made_is = is.made_is }) (record { more = is.more; made_is = is.made_is }))
  made-more (steps.Lose file body) made =
      let is : More (noted who old) (listed layout who (log_of body.value) (noted who old)) = lists-more layout who (log_of body.value) (body_of (log_of body.value).page (noted who old)) (noted who old) in
      of-view who old new (listed layout who (log_of body.value) (noted who old)) (ap (λ (v : View). v.made) made.told.next) (record { more = is.more; made_is = is.made_is })
  made-more step made = same old new (made-kept made tt)

  -- and so do the entries of each command
  pub deeds-grow : {step : Step} → Steps layout who step put old new found got → (by : Who) (P : Made → Type 0) → SomeMember P (deeds by old) → SomeMember P (deeds by new)
  deeds-grow {step} made by P some =
      let grown : More old new = made-more step made in
      subst (SomeMember P) (sym (ap (filter (is_by by)) grown.made_is ∙ filter-append (is_by by) old.made grown.more)) (some.0, some.1, at_longer (deeds by old) (filter (is_by by) grown.more) some.0 some.1 some.2, some.3)

-- ---- a step of an access

module _ {layout : Layout} {old new : View} {step : Step} {found : ℕ} {got : Option BodyValue} (a : Access) (is : accesses.plan a ≡ Some step) (made : Steps layout a.request.who step (logs (accesses.put a)) old new found got) where
  pub access-alike : Alike old new
  access-alike = leaves made (subst PlansQuiet is (access a.request a.at))

  pub access-stay : Stay a.request.who old new
  access-stay = record {
    marks = λ P some. subst (λ (l : List Mark). SomeMember P (filter (is_own a.request.who) l)) (sym access-alike.marks) some;
    deeds = deeds-grow made a.request.who;
    saw = λ frame saw. record { word = saw.word; poisoned = saw.poisoned; saw = saw-stays made saw.saw };
  }

-- ---- the machine checks so far

module _ (layout : Layout) (a : Request) (origin : Origin) (mode : Mode) {old new : View} (stay : Stay a.who old new) (saws : (place : SharedWord) (word : ℕ) → Saw old a.who place word → Saw new a.who place word) where
  pub bad-stays : (frame : Frame) → SawBad layout old a frame → SawBad layout new a frame
  bad-stays frame has = record { mask = has.mask; bad = has.bad; saw = saws (places.Bad frame) has.mask has.saw; within = has.within }

  check-stays : (banks : Banks) (c : Check) → IsCheck layout old a origin mode banks c → IsCheck layout new a origin mode banks c
  check-stays banks c has = record {
    bad = bad-stays c.frame has.bad;
    acted_on = record { events = has.acted_on.events; told = told-stays layout a.who (Some a.thread) stay (has_stop (restarting mode) (with_own origin c.frame a.line banks)) c.lines has.acted_on.told };
  }

  pub checks-stay : (banks : Banks) (checks : List Check) → AreChecks layout old a origin mode banks checks → AreChecks layout new a origin mode banks checks
  checks-stay banks [] are = tt
  checks-stay banks (c ∷ cs) are = (check-stays banks c are.0, checks-stay empty_banks cs are.1)

-- ---- the entries of machine checks, and of failures

skips-check : Skips is_check
skips-check = record { fault_in = refl; map = λ slot. refl; load = λ slot line met. refl; store = λ slot line met. refl }

skips-failure : Skips is_failure
skips-failure = record { fault_in = refl; map = λ slot. refl; load = λ slot line met. refl; store = λ slot line met. refl }

-- an entry more, which the test finds or doesn't
pub such-more : (test : What → Bool) (l : List Made) (m : Made) (b : Bool) → test m.entry.what ≡ b → length (filter (λ (x : Made). test x.entry.what) (l ++ m ∷ [])) ≡ length (filter (λ (x : Made). test x.entry.what) l) + from_bool b
such-more test l m b is = ap length (filter-append (λ (x : Made). test x.entry.what) l (m ∷ [])) ∙ length-append (filter (λ (x : Made). test x.entry.what) l) (filter (λ (x : Made). test x.entry.what) (m ∷ []))
    ∙ ap (λ (n : ℕ). length (filter (λ (x : Made). test x.entry.what) l) + n) (ap (λ (c : Bool). length (cond c (m ∷ []) [])) is ∙ one b)
  where
    one : (c : Bool) → length (cond c (m ∷ []) []) ≡ from_bool c
    one true = refl
    one false = refl

pub count-after : (a : Request) (old new : View) (b c : Bool) → adds.Adds a old new b c → (n : ℕ) → checks_made a.who old ≡ n + from_bool b → checks_made a.who new ≡ n + from_bool c
count-after a old new b c (inl none) n has = ap length (none.0 is_check skips-check) ∙ has ∙ ap (λ (d : Bool). n + from_bool d) (sym none.1)
count-after a old new b c (inr some) n has =
    let more : checks_made a.who new ≡ checks_made a.who old + 1 = ap (λ (l : List Made). length (filter (λ (x : Made). is_check x.entry.what) l)) some.0.added ∙ such-more is_check (deeds a.who old) some.0.check true (ap is_check some.0.what_is) in
    let none : from_bool b ≡ 0 = ap from_bool some.1 in
    let one : from_bool c ≡ 1 = ap from_bool some.2 in
    omega (arith, more, has, none, one)

-- the failure of a frame is no machine check
failed-is : (m : Made) (failed : Failed) → failed_in m ≡ Some failed → (is_failure m.entry.what ≡ true) × (is_check m.entry.what ≡ false)
failed-is m failed is = which m.entry.what is
  where
    which : (what : What) → failed_of m.page m.place what ≡ Some failed → (is_failure what ≡ true) × (is_check what ≡ false)
    which (entries.Fail situation required seen signals) is = (refl, refl)
    which _ is = absurd (none-some failed is)

pub count-kept : (who : Who) (old new : View) {before after : List Failed} → AddsFailure who old new before after → checks_made who new ≡ checks_made who old
count-kept who old new (inl none) = ap (λ (l : List Made). length (filter (λ (x : Made). is_check x.entry.what) l)) none.0
count-kept who old new (inr some) =
    let more : length (filter (λ (x : Made). is_check x.entry.what) (deeds who old ++ some.0 ∷ [])) ≡ length (filter (λ (x : Made). is_check x.entry.what) (deeds who old)) + 0 = such-more is_check (deeds who old) some.0 false (failed-is some.0 some.1 some.3).1 in
    let now : checks_made who new ≡ length (filter (λ (x : Made). is_check x.entry.what) (deeds who old ++ some.0 ∷ [])) = ap (λ (l : List Made). length (filter (λ (x : Made). is_check x.entry.what) l)) some.2 in
    omega (arith, now, more)

-- the entries that a failure adds may stand before the one that answers the command
pub only-kept : {base : List Made} (a : Request) (old new : View) {before after : List Failed} → AddsFailure a.who old new before after → HasOnlyBeside base (Precedes a.page a.slot a.line) old a.who → HasOnlyBeside base (Precedes a.page a.slot a.line) new a.who
only-kept a old new (inl none) only = only-beside-stays a.who old new none.0 only
only-kept a old new (inr some) only = only-beside-more a.who old new (some.0 ∷ []) some.2 (each-push (Precedes a.page a.slot a.line) [] some.0 (inr (failed-is some.0 some.1 some.3).0) (λ i m there. absurd (none-some m there))) only

-- so may the entry of a machine check
pub only-checked : {base : List Made} (a : Request) (view : View) (place mask : ℕ) → HasMadeBeside base (Precedes a.page a.slot a.line) view a.who a.page place (check_of a mask) → HasOnlyBeside base (Precedes a.page a.slot a.line) view a.who
only-checked a view place mask has = only-of-made view a.who has (inl (has.at.0, subst (IsOnTheWay a.slot a.line) (sym has.at.2) (refl, refl)))

-- ---- the failures among entries

none-failed : (page : Page) (place : ℕ) (what : What) → is_failure what ≡ false → failed_of page place what ≡ None
none-failed page place (entries.Fail situation required seen signals) is = absurd (both_ways true is refl)
none-failed page place _ is = refl

-- they are among those that the test finds
failures-such : (l : List Made) → filter_map failed_in l ≡ filter_map failed_in (filter (λ (m : Made). is_failure m.entry.what) l)
failures-such [] = refl
failures-such (m ∷ ms) = which (is_failure m.entry.what) refl (failures-such ms)
  where
    found : List Made
    found = filter (λ (x : Made). is_failure x.entry.what) ms

    which : (b : Bool) → is_failure m.entry.what ≡ b → filter_map failed_in ms ≡ filter_map failed_in found → cons_option (failed_in m) (filter_map failed_in ms) ≡ filter_map failed_in (cond b (m ∷ found) found)
    which true is rest = ap (cons_option (failed_in m)) rest
    which false is rest = ap (λ (o : Option Failed). cons_option o (filter_map failed_in ms)) (none-failed m.page m.place m.entry.what is) ∙ rest

-- where the test finds the same, they are the same
pub failures-listed : (who : Who) (old new : View) → such_deeds is_failure who new ≡ such_deeds is_failure who old → failures_by who new ≡ failures_by who old
failures-listed who old new same = failures-such (deeds who new) ∙ ap (filter_map failed_in) same ∙ sym (failures-such (deeds who old))

-- an access adds none
pub failures-same : (a : Request) (old new : View) (b c : Bool) → adds.Adds a old new b c → failures_by a.who new ≡ failures_by a.who old
failures-same a old new b c (inl none) = failures-listed a.who old new (none.0 is_failure skips-failure)
failures-same a old new b c (inr some) = ap (filter_map failed_in) some.0.added ∙ filter_map-append failed_in (deeds a.who old) (some.0.check ∷ [])
    ∙ ap (λ (o : Option Failed). failures_by a.who old ++ cons_option o []) (none-failed some.0.check.page some.0.check.place some.0.check.entry.what (ap is_failure some.0.what_is)) ∙ append-nil (failures_by a.who old)

-- a failure adds its own
pub failures-grow : (who : Who) (old new : View) {before after : List Failed} → AddsFailure who old new before after → FailuresGrow (failures_by who old) (failures_by who new) before after
failures-grow who old new (inl none) = inl (ap (filter_map failed_in) none.0, none.1)
failures-grow who old new (inr some) = inr (
  some.1,
  ap (filter_map failed_in) some.2 ∙ filter_map-append failed_in (deeds who old) (some.0 ∷ []) ∙ ap (λ (o : Option Failed). failures_by who old ++ cons_option o []) some.3,
  some.4,
)
