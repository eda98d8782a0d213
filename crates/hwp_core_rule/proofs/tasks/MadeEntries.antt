-- The entries that a command made: a step that puts no body lists none, and one that puts a body lists those that the body has
-- more.
use Rattle.std.proofs.Common.{◌≡◌, ◌≢◌, ℕ, zero, suc, ◌<◌, ◌≤◌, ◌==◌, ◌&&◌, Bool, true, false, cond, List, [], ◌∷◌, ◌++◌, Option, Some, None, filter, length, slice_get, append-nil, refl, sym, ap, ◌∙◌, subst, arith}
use Rattle.std.proofs.lemmas.Bool.{both_ways, eqb-true}
use Rattle.std.proofs.lemmas.List.{append_assoc}
use Rattle.std.proofs.lemmas.List.Elements.{filter-append}
use Rattle.std.proofs.lemmas.Option.{none-some, same_Some}
use Rattle.std.specs.declared.snapshot.Snapshot.{Snapshot}
use Rattle.hwp_page.specs.hwp_geom.declared.FileNo.{FileNo}
use Rattle.hwp_page.specs.hwp_geom.declared.Frame.{Frame}
use Rattle.hwp_page.specs.hwp_geom.declared.Layout.{Layout}
use Rattle.hwp_page.specs.hwp_geom.declared.Page.{Page}
use Rattle.hwp_page.specs.hwp_geom.declared.Proc.{Proc}
use Rattle.hwp_page.specs.hwp_geom.declared.Who.{Who}
use Rattle.hwp_page.specs.declared.Entry.{Entry}
use Rattle.hwp_page.specs.declared.What.{What}
use Rattle.hwp_page.specs.History.{BodyValue}
use Rattle.hwp_core_rule.specs.declared.view.InHand.{InHand}
use Rattle.hwp_core_rule.specs.declared.log.Log.{Log}
use Rattle.hwp_core_rule.specs.declared.view.Made.{Made}
use Rattle.hwp_core_rule.specs.declared.shared_word.SharedWord.{SharedWord}
use Rattle.hwp_core_rule.specs.declared.shared_word.SharedWord.TheVariants as places
use Rattle.hwp_core_rule.specs.declared.view.Stamp.{Stamp}
use Rattle.hwp_core_rule.specs.declared.record.State.{State}
use Rattle.hwp_core_rule.specs.declared.step.Step.{Step}
use Rattle.hwp_core_rule.specs.declared.step.Step.TheVariants as steps
use Rattle.hwp_core_rule.specs.declared.view.View.{View}
use Rattle.hwp_core_rule.specs.Lists.{EachMember}
use Rattle.hwp_core_rule.specs.Logs.{log_of}
use Rattle.hwp_core_rule.specs.Rule.{Holds}
use Rattle.hwp_core_rule.specs.Steps.{goes}
use Rattle.hwp_core_rule.specs.Views.{body_of, killed_by, listed, listed_of, loaded, made_from, more_of, noted, put_home, sighted, stamp_of, taken, view_by}
use Rattle.hwp_core_rule.specs.parts.Holdings.{IsPast}
use Rattle.hwp_core_rule.proofs.Lists.{each-push, same-number}
use Rattle.hwp_core_rule.proofs.MoreEntries.{each-append, made-each}
use Rattle.hwp_core_rule.specs.Calls.{CanMake, IsLater, Steps, logs}
use Rattle.hwp_core_rule.proofs.tasks.StepLeaves.{content_of}
use Rattle.hwp_core_rule.specs.Known.{IsAt, HasMade, HasMadeBeside, HasMadeNone, HasMadeNoneBeside, HasOnly, HasOnlyBeside, deeds, is_by, such_deeds}

-- ---- a step that puts no body

-- the step puts no body, whatever it is given
abbrev pub PutsNone : Step → Type 0
PutsNone (steps.UnlockFrame frame) = ⊥
PutsNone (steps.UnlockPage page) = ⊥
PutsNone (steps.Kill process page body) = ⊥
PutsNone (steps.Lose file body) = ⊥
PutsNone step = Unit {0}

-- given no body, the step lists no entry
abbrev pub ListsNone : Step → Type 0
ListsNone (steps.Kill process page body) = ⊥
ListsNone (steps.Lose file body) = ⊥
ListsNone step = Unit {0}

either : (b : Bool) (x y v : View) → x.made ≡ v.made → y.made ≡ v.made → (cond b x y).made ≡ v.made
either true x y v e f = e
either false x y v e f = f

loads-none : (who : Who) (place : SharedWord) (found : ℕ) (v : View) → (loaded who place found v).made ≡ v.made
loads-none who (places.Cache page) found v = refl
loads-none who _ found v = refl

takes-none : (layout : Layout) (who : Who) (frame : Option Frame) (content : Option Log) (v : View) → (taken layout who frame content v).made ≡ v.made
takes-none layout who frame None v = refl
takes-none layout who frame (Some log) v = refl

by-none : (layout : Layout) (who : Who) (step : Step) (found : ℕ) (content : Option Log) (v : View) → PutsNone step → (view_by layout who step found content v).made ≡ v.made
by-none layout who (steps.Load place) found content v none = loads-none who place found v
by-none layout who (steps.Reserve seen) found content v none = either (found == seen) _ _ v refl refl
by-none layout who (steps.TakeBit frame) found content v none = either (goes (steps.TakeBit frame) found) _ _ v refl refl
by-none layout who (steps.GetRef frame seen count) found content v none = either (found == seen) _ _ v refl refl
by-none layout who (steps.LockFrame frame) found content v none = either (goes (steps.LockFrame frame) found) _ _ v (takes-none layout who (Some frame) content _) refl
by-none layout who (steps.UnlockFrame frame) found content v none = absurd none
by-none layout who (steps.Revive frame seen) found content v none = either (found == seen) _ _ v refl refl
by-none layout who (steps.LockPage page) found content v none = either (goes (steps.LockPage page) found) _ _ v (takes-none layout who None content _) refl
by-none layout who (steps.UnlockPage page) found content v none = absurd none
by-none layout who (steps.Poison frame hardware) found content v none = either (goes (steps.Poison frame hardware) found) _ _ v refl refl
by-none layout who (steps.Stop cpu) found content v none = either (found == 0) _ _ v refl refl
by-none layout who (steps.Kill process page body) found content v none = absurd none
by-none layout who (steps.Lose file body) found content v none = absurd none
by-none layout who _ found content v none = refl

module _ {layout : Layout} {who : Who} {old new : View} {found : ℕ} {got : Option BodyValue} where
  -- of a step that puts none
  pub made-kept : {step : Step} {put : Option Log} → Steps layout who step put old new found got → PutsNone step → new.made ≡ old.made
  made-kept {step} {put} made none = ap (λ (v : View). v.made) made.told.next ∙ by-none layout who step found (content_of layout who step put found got) (noted who old) none

  same-by : (step : Step) → ListsNone step → Steps layout who step None old new found got → new.made ≡ old.made
  same-by (steps.UnlockFrame frame) lists made = ap (λ (v : View). v.made) made.told.next
  same-by (steps.UnlockPage page) lists made = ap (λ (v : View). v.made) made.told.next
  same-by (steps.Kill process page body) lists made = absurd lists
  same-by (steps.Lose file body) lists made = absurd lists
  same-by step lists made = made-kept made tt

  -- of a step that lists none, given none
  pub made-same : {step : Step} → ListsNone step → Steps layout who step None old new found got → new.made ≡ old.made
  made-same {step} lists made = same-by step lists made

  pub deeds-same : (by : Who) {step : Step} → ListsNone step → Steps layout who step None old new found got → deeds by new ≡ deeds by old
  deeds-same by lists made = ap (filter (is_by by)) (made-same lists made)

-- ---- a step that puts a body

-- the entries that the body has more are listed, each at its place
pub record Lists (old new : View) (stamp : Stamp) (body : InHand) (log : Log) : Type 0 where
  pub made_is : new.made ≡ old.made ++ made_from stamp log.page body.frame (length body.log.entries) (more_of body log)

put-lists : (layout : Layout) (who : Who) (old new : View) (body : InHand) (log : Log) → body_of log.page old ≡ Some body → new.made ≡ (put_home layout who (Some log) (noted who old)).made → Lists old new (stamp_of who old) body log
put-lists layout who old new body log there is = record { made_is = is ∙ ap (λ (b : Option InHand). (listed_of layout who log b (noted who old)).made) there }

module _ {layout : Layout} {who : Who} {old new : View} {found : ℕ} {got : Option BodyValue} {body : InHand} {log : Log} (there : body_of log.page old ≡ Some body) where
  pub frame-lists : {frame : Frame} → Steps layout who (steps.UnlockFrame frame) (Some log) old new found got → Lists old new (stamp_of who old) body log
  frame-lists made = put-lists layout who old new body log there (ap (λ (v : View). v.made) made.told.next)

  pub page-lists : {page : Page} → Steps layout who (steps.UnlockPage page) (Some log) old new found got → Lists old new (stamp_of who old) body log
  page-lists made = put-lists layout who old new body log there (ap (λ (v : View). v.made) made.told.next)

either-made : (b : Bool) (x y : View) (l : List Made) → x.made ≡ l → y.made ≡ l → (cond b x y).made ≡ l
either-made true x y l e f = e
either-made false x y l e f = f

-- a kill lists what the body has more, and so does a loss that is counted
module _ {layout : Layout} {who : Who} {old new : View} {put : Option Log} {found : ℕ} {got : Option BodyValue} {body : InHand} where
  pub kill-lists : {process : Proc} {page : Page} {with_entries : Snapshot BodyValue} → body_of (log_of with_entries.value).page old ≡ Some body
      → Steps layout who (steps.Kill process page with_entries) put old new found got → Lists old new (stamp_of who old) body (log_of with_entries.value)
  kill-lists {process} {page} {with_entries} there made =
      let now : (listed layout who (log_of with_entries.value) (noted who old)).made ≡ (listed_of layout who (log_of with_entries.value) (Some body) (noted who old)).made = ap (λ (b : Option InHand). (listed_of layout who (log_of with_entries.value) b (noted who old)).made) there in
      record { made_is = ap (λ (v : View). v.made) made.told.next ∙ either-made (found == 0) (killed_by process page (listed layout who (log_of with_entries.value) (noted who old))) (sighted who (places.Process process) found (killed_by process page (listed layout who (log_of with_entries.value) (noted who old)))) _ now now }

  pub loss-lists : {file : FileNo} {with_entries : Snapshot BodyValue} → body_of (log_of with_entries.value).page old ≡ Some body
      → Steps layout who (steps.Lose file with_entries) put old new found got → Lists old new (stamp_of who old) body (log_of with_entries.value)
  loss-lists {file} {with_entries} there made = record {
    made_is = ap (λ (v : View). v.made) made.told.next ∙ ap (λ (b : Option InHand). (listed_of layout who (log_of with_entries.value) b (noted who old)).made) there;
  }

is-own : (who other : Who) → other ≡ who → ((other.cpu.0 == who.cpu.0) && (other.seq == who.seq)) ≡ true
is-own who other own =
    ap (λ (b : Bool). b && (other.seq == who.seq)) (same-number other.cpu.0 who.cpu.0 (ap (λ (w : Who). w.cpu.0) own)) ∙ same-number other.seq who.seq (ap (λ (w : Who). w.seq) own)

-- an entry as it is listed
abbrev pub as_made : Stamp → InHand → Log → ℕ → Entry → Made
as_made stamp body log place e = record { stamp = stamp; page = log.page; place = place; entry = e; frame = body.frame }

module _ (who : Who) {old new : View} {stamp : Stamp} {body : InHand} {log : Log} (lists : Lists old new stamp body log) where
  listed-more : (more : List Entry) → more_of body log ≡ more → deeds who new ≡ deeds who old ++ filter (is_by who) (made_from stamp log.page body.frame (length body.log.entries) more)
  listed-more more is = ap (filter (is_by who)) (lists.made_is ∙ ap (λ (es : List Entry). old.made ++ made_from stamp log.page body.frame (length body.log.entries) es) is)
      ∙ filter-append (is_by who) old.made (made_from stamp log.page body.frame (length body.log.entries) more)

  -- no entry more
  pub deeds-none : more_of body log ≡ [] → deeds who new ≡ deeds who old
  deeds-none none = listed-more [] none ∙ append-nil (deeds who old)

  -- one more, and two
  pub deeds-one : (e : Entry) → more_of body log ≡ e ∷ [] → e.who ≡ who → (m : Made) × (deeds who new ≡ deeds who old ++ m ∷ []) × IsAt log.page (length body.log.entries) e.what m
  deeds-one e is own = (as_made stamp body log (length body.log.entries) e, listed-more (e ∷ []) is ∙ ap (λ (b : Bool). deeds who old ++ cond b (as_made stamp body log (length body.log.entries) e ∷ []) []) (is-own who e.who own), (refl, refl, refl))

-- ---- what a command made

module _ (who : Who) {base : List Made} {Such : Made → Type 0} (old new : View) where
  -- what a command made it has made where it has no entry more
  pub has-made-stays : {page : Page} {place : ℕ} {what : What} → deeds who new ≡ deeds who old → HasMadeBeside base Such old who page place what → HasMadeBeside base Such new who page place what
  has-made-stays is has = record { before = has.before; last = has.last; all = is ∙ has.all; such = has.such; at = has.at }

  pub only-beside-stays : deeds who new ≡ deeds who old → HasOnlyBeside base Such old who → HasOnlyBeside base Such new who
  only-beside-stays is has = record { own = has.own; all = is ∙ has.all; such = has.such }

  -- with such entries more it has made such alone
  pub only-beside-more : (more : List Made) → deeds who new ≡ deeds who old ++ more → EachMember Such more → HasOnlyBeside base Such old who → HasOnlyBeside base Such new who
  only-beside-more more is each has = record { own = has.own ++ more; all = is ∙ ap (λ (l : List Made). l ++ more) has.all ∙ append_assoc base has.own more; such = each-append Such has.own more has.such each }

  -- and with one entry more it has made that one last
  pub has-made-beside : (m : Made) {page : Page} {place : ℕ} {what : What} → deeds who new ≡ deeds who old ++ m ∷ [] → IsAt page place what m → HasOnlyBeside base Such old who → HasMadeBeside base Such new who page place what
  has-made-beside m is at only = record { before = only.own; last = m; all = is ∙ ap (λ (l : List Made). l ++ m ∷ []) only.all ∙ append_assoc base only.own (m ∷ []); such = only.such; at = at }

module _ (who : Who) {Such : Made → Type 0} (old new : View) where
  -- the same of a command that had made nothing before
  pub has-only-stays : deeds who new ≡ deeds who old → HasOnly Such old who → HasOnly Such new who
  has-only-stays is has = subst (EachMember Such) (sym is) has

  pub has-made : (m : Made) {page : Page} {place : ℕ} {what : What} → deeds who new ≡ deeds who old ++ m ∷ [] → IsAt page place what m → HasOnly Such old who → HasMade Such new who page place what
  has-made m is at only = record { before = deeds who old; last = m; all = is; such = only; at = at }

module _ {base : List Made} {Such : Made → Type 0} (view : View) (who : Who) where
  -- where it has made none beside these, it has made such alone
  pub only-of-none : HasMadeNoneBeside base view who → HasOnlyBeside base Such view who
  only-of-none none = record { own = []; all = none ∙ sym (append-nil base); such = λ i m there. absurd (none-some m there) }

  -- and where the last one is such too
  pub only-of-made : {page : Page} {place : ℕ} {what : What} (has : HasMadeBeside base Such view who page place what) → Such has.last → HasOnlyBeside base Such view who
  only-of-made has last = record { own = has.before ++ has.last ∷ []; all = has.all; such = each-push Such has.before has.last last has.such }

-- ---- other commands

same-who : (w x : Who) → w.cpu.0 ≡ x.cpu.0 → w.seq ≡ x.seq → w ≡ x
same-who w x e f = λ i. record { cpu = record { 0 = e i }; seq = f i }

and-parts : (a b : Bool) → (a && b) ≡ true → (a ≡ true) × (b ≡ true)
and-parts true b is = (refl, is)
and-parts false b is = absurd (both_ways true (sym is) refl)

-- an entry that the test finds is of the command
is-of : (who : Who) (m : Made) → is_by who m ≡ true → m.entry.who ≡ who
is-of who m is = let parts = and-parts (m.entry.who.cpu.0 == who.cpu.0) (m.entry.who.seq == who.seq) is in
    same-who m.entry.who who (eqb-true m.entry.who.cpu.0 who.cpu.0 parts.0) (eqb-true m.entry.who.seq who.seq parts.1)

-- where no member is so, none is left
none-left : {A : Type 0} (test : A → Bool) (l : List A) → EachMember (λ (x : A). test x ≡ true → ⊥) l → filter test l ≡ []
none-left test [] each = refl
none-left test (x ∷ xs) each = ap (λ (b : Bool). cond b (x ∷ filter test xs) (filter test xs)) (which (test x) refl) ∙ none-left test xs (λ i y there. each (suc i) y there)
  where
    which : (b : Bool) → test x ≡ b → test x ≡ false
    which true is = absurd (each 0 x refl is)
    which false is = is

each-chosen : {A : Type 0} (P : A → Type 0) (b : Bool) (x : A) (l : List A) → P x → EachMember P l → EachMember P (cond b (x ∷ l) l)
each-chosen {A} P b x l here each = by b
  where
    first : EachMember P (x ∷ l)
    first zero y e = subst P (same_Some x y e) here
    first (suc i) y e = each i y e

    by : (b : Bool) → EachMember P (cond b (x ∷ l) l)
    by true = first
    by false = each

pub each-filter : {A : Type 0} (P : A → Type 0) (test : A → Bool) (l : List A) → EachMember P l → EachMember P (filter test l)
each-filter P test [] each = each
each-filter P test (x ∷ xs) each = each-chosen P (test x) x (filter test xs) (each 0 x refl) (each-filter P test xs (λ i y e. each (suc i) y e))

-- where a test finds none of the entries more, it finds of the command's entries what it found before
pub such-kept : (who : Who) {old new : View} {stamp : Stamp} {body : InHand} {log : Log} (test : What → Bool) → Lists old new stamp body log → EachMember (λ (e : Entry). test e.what ≡ false) (more_of body log)
    → such_deeds test who new ≡ such_deeds test who old
such-kept who {old} {new} {stamp} {body} {log} test lists none =
    ap (filter (λ (m : Made). test m.entry.what)) (listed-more who lists (more_of body log) refl)
    ∙ filter-append (λ (m : Made). test m.entry.what) (deeds who old) (filter (is_by who) more)
    ∙ ap (λ (l : List Made). such_deeds test who old ++ l) (none-left (λ (m : Made). test m.entry.what) (filter (is_by who) more)
    (each-filter (λ (m : Made). test m.entry.what ≡ true → ⊥) (is_by who) more (made-each (λ (m : Made). test m.entry.what ≡ true → ⊥) stamp log.page body.frame (length body.log.entries) (more_of body log)
    (λ i e at n is. both_ways (test e.what) (none i e at) is))))
    ∙ append-nil (such_deeds test who old)
  where
    more : List Made
    more = made_from stamp log.page body.frame (length body.log.entries) (more_of body log)

-- entries of one command are none of another's
others-list : {who : Who} {old new : View} {stamp : Stamp} {body : InHand} {log : Log} (other : Who) → Lists old new stamp body log → EachMember (λ (e : Entry). e.who ≡ who) (more_of body log) → other ≢ who → deeds other new ≡ deeds other old
others-list {who} {old} {new} {stamp} {body} {log} other lists own differs =
    listed-more other lists (more_of body log) refl
    ∙ ap (λ (l : List Made). deeds other old ++ l) (none-left (is_by other) (made_from stamp log.page body.frame (length body.log.entries) (more_of body log))
    (made-each (λ (m : Made). is_by other m ≡ true → ⊥) stamp log.page body.frame (length body.log.entries) (more_of body log)
    (λ i e at n is. differs (sym (is-of other (as_made stamp body log n e) is) ∙ own i e at))))
    ∙ append-nil (deeds other old)

module _ {layout : Layout} {who : Who} {old new : View} {found : ℕ} {got : Option BodyValue} (other : Who) (differs : other ≢ who) where
  frame-puts : (frame : Frame) (body : Option BodyValue) → CanMake layout who (steps.UnlockFrame frame) body old → Steps layout who (steps.UnlockFrame frame) (logs body) old new found got → deeds other new ≡ deeds other old
  frame-puts frame None can made = deeds-same other tt made
  frame-puts frame (Some b) can made = others-list other (frame-lists can.asks.kind.put.body_is made) can.asks.kind.put.extends.own differs

  page-puts : (page : Page) (body : Option BodyValue) → CanMake layout who (steps.UnlockPage page) body old → Steps layout who (steps.UnlockPage page) (logs body) old new found got → deeds other new ≡ deeds other old
  page-puts page None can made = deeds-same other tt made
  page-puts page (Some b) can made = others-list other (page-lists can.asks.kind.put.body_is made) can.asks.kind.put.extends.own differs

  by-other : (step : Step) (body : Option BodyValue) → CanMake layout who step body old → Steps layout who step (logs body) old new found got → deeds other new ≡ deeds other old
  by-other (steps.UnlockFrame frame) body can made = frame-puts frame body can made
  by-other (steps.UnlockPage page) body can made = page-puts page body can made
  by-other (steps.Kill process page body) put can made = others-list other (kill-lists can.asks.kind.page_held.body_is made) can.asks.kind.extends.own differs
  by-other (steps.Lose file body) put can made = others-list other (loss-lists can.asks.kind.page_held.body_is made) can.asks.kind.extends.own differs
  by-other step body can made = ap (filter (is_by other)) (made-kept made tt)

  -- a step of a command lists no entry of another
  pub deeds-other : {step : Step} {body : Option BodyValue} → CanMake layout who step body old → Steps layout who step (logs body) old new found got → deeds other new ≡ deeds other old
  deeds-other {step} {body} can made = by-other step body can made

-- ---- before its first step a command has made nothing

module _ (layout : Layout) (s : State) (h : Holds layout s) (seat : ℕ) (view : View) (me : slice_get s.views seat ≡ Some view) (who : Who) where
  pub made-none-on : (last : ℕ) → last < who.seq → IsLater view who last → HasMadeNone view who
  made-none-on last below later = none-left (is_by who) view.made (λ i m there is.
      let past : IsPast view.parts m.entry.who = (h.rule.processors.commands.own seat view me).made i m there in
      let own : m.entry.who ≡ who = is-of who m is in
      let reached : m.entry.who.seq ≤ past.1.latest = past.3.1 in
      let least : past.1.latest ≤ last = later past.0 past.1 past.2 (past.3.0 ∙ ap (λ (w : Who). w.cpu) own) in
      let seqs : m.entry.who.seq ≡ who.seq = ap (λ (w : Who). w.seq) own in
      absurd (omega arith))

pub made-none : {layout : Layout} {by : Who} {step : Step} {put : Option Log} {old new : View} {found : ℕ} {got : Option BodyValue} → Steps layout by step put old new found got
    → (who : Who) (last : ℕ) → last < who.seq → IsLater old who last → HasMadeNone old who
made-none {layout} {by} {step} {put} {old} made who last below later = made-none-on layout made.told.board made.told.rule made.told.seat old made.told.me who last below later
