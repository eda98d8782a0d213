-- What goes home while a translation is freed: of entries of some sort no one more, where its own entry isn't of that sort.
use Rattle.std.proofs.Common.{◌≡◌, zero, suc, Bool, false, List, [], ◌∷◌, Option, Some, None, sym, subst}
use Rattle.std.proofs.lemmas.Option.{none-some, same_Some}
use Rattle.hwp_fault.specs.hwp_geom.declared.Layout.{Layout}
use Rattle.hwp_fault.specs.hwp_geom.declared.Page.{Page}
use Rattle.hwp_fault.specs.hwp_geom.declared.Who.{Who}
use Rattle.hwp_fault.specs.hwp_page.declared.Entry.{Entry}
use Rattle.hwp_fault.specs.hwp_page.declared.What.{What}
use Rattle.hwp_fault.specs.hwp_page.History.{BodyValue}
use Rattle.hwp_fault.specs.hwp_core_rule.declared.InHand.{InHand}
use Rattle.hwp_fault.specs.hwp_core_rule.declared.Made.{Made}
use Rattle.hwp_fault.specs.hwp_core_rule.declared.View.{View}
use Rattle.hwp_fault.specs.hwp_core_rule.Lists.{EachMember}
use Rattle.hwp_fault.specs.hwp_core_rule.Logs.{log_of}
use Rattle.hwp_fault.specs.hwp_core_rule.Views.{body_of, more_of}
use Rattle.hwp_fault.specs.hwp_evict.declared.evict.EvictAnswer.{EvictAnswer}
use Rattle.hwp_fault.specs.hwp_evict.declared.evict.EvictAnswer.TheVariants as answers
use Rattle.hwp_fault.specs.hwp_evict.declared.evict.Eviction.{Eviction}
use Rattle.hwp_fault.specs.hwp_evict.Evictions.{entry_of}
use Rattle.hwp_fault.specs.hwp_evict.Evicts.{Comes, IsAhead, KnowsPut, PutsNoMore}

-- the body that goes home has no entry of this sort more than when it was taken
pub record HomeWithout (sort : What → Bool) (view : View) (body : BodyValue) : Type 0 where
  pub taken : InHand
  pub there : body_of body.page view ≡ Some taken
  pub none : EachMember (λ (e : Entry). sort e.what ≡ false) (more_of taken (log_of body))

abbrev pub PutsNone : (What → Bool) → View → Option BodyValue → Type 0
PutsNone sort view None = Unit {0}
PutsNone sort view (Some body) = HomeWithout sort view body

no-entry : (sort : What → Bool) (l : List Entry) → l ≡ [] → EachMember (λ (e : Entry). sort e.what ≡ false) l
no-entry sort l is = subst (EachMember (λ (e : Entry). sort e.what ≡ false)) (sym is) (λ n e there. absurd (none-some e there))

module _ (sort : What → Bool) (what : Eviction) (other : sort (entry_of what) ≡ false) where
  one : (who : Who) → EachMember (λ (e : Entry). sort e.what ≡ false) ((record { who = who; what = entry_of what }) ∷ [])
  one who zero e there = subst (λ (x : Entry). sort x.what ≡ false) (same_Some (record { who = who; what = entry_of what }) e there) other
  one who (suc n) e there = absurd (none-some e there)

  pub ahead-home : {base : List Made} {layout : Layout} {view : View} {who : Who} {page : Page} (answer : EvictAnswer) {body : BodyValue} → IsAhead base layout view who page what answer body → HomeWithout sort view body
  ahead-home {base} {layout} {view} {who} {page} answer {body} ahead = record { taken = ahead.taken; there = ahead.there; none = which answer ahead.comes }
    where
      which : (a : EvictAnswer) → Comes layout view who page what a ahead.taken body → EachMember (λ (e : Entry). sort e.what ≡ false) (more_of ahead.taken (log_of body))
      which answers.Stopped comes = absurd comes
      which (answers.Done place) comes = subst (EachMember (λ (e : Entry). sort e.what ≡ false)) (sym comes.0) (one who)
      which (answers.Refused refusal place) comes = no-entry sort (more_of ahead.taken (log_of body)) comes.0

  pub known-home : (base : List Made) (layout : Layout) (view : View) (who : Who) (page : Page) (answer : EvictAnswer) (put : Option BodyValue) → KnowsPut base layout view who page what answer put → PutsNone sort view put
  known-home base layout view who page answer None knows = tt
  known-home base layout view who page answer (Some body) knows = ahead-home answer knows

-- and of a command that gives up
pub given-up-home : (sort : What → Bool) (view : View) (put : Option BodyValue) → PutsNoMore view put → PutsNone sort view put
given-up-home sort view None puts = tt
given-up-home sort view (Some body) puts = record { taken = puts.taken; there = puts.there; none = no-entry sort (more_of puts.taken (log_of body)) puts.none_more }
