-- What the freeing of a translation has seen of its page. This project's rule.
use Rattle.std.specs.Prelude.{◌≡◌, ℕ, ◌<◌, List, Option, Some, None, length}
use Rattle.hwp_fault.specs.hwp_geom.declared.Page.{Page}
use Rattle.hwp_fault.specs.hwp_page.History.{BodyValue}
use Rattle.hwp_fault.specs.hwp_core_rule.declared.Made.{Made}
use Rattle.hwp_fault.specs.hwp_core_rule.Lists.{EachMember}
use Rattle.hwp_fault.specs.hwp_core.declared.hold.HoldAt.{HoldAt}
use Rattle.hwp_fault.specs.hwp_core.declared.hold.HoldAt.TheVariants as hold_at
use Rattle.hwp_fault.specs.hwp_evict.declared.evict.EvictAnswer.{EvictAnswer}
use Rattle.hwp_fault.specs.hwp_evict.declared.evict.EvictAnswer.TheVariants as answers
use Rattle.hwp_fault.specs.hwp_evict.declared.evict.EvictAt.{EvictAt}
use Rattle.hwp_fault.specs.hwp_evict.declared.evict.EvictAt.TheVariants as at

-- those of the entries that are of the page stand before the place
abbrev pub StandBefore : Page → ℕ → List Made → Type 0
StandBefore page place made = EachMember (λ (m : Made). m.page ≡ page → m.place < place) made

-- ---- while it goes on: the page's history, as soon as it has it, has these entries

abbrev pub HasInBody : Page → List Made → Option BodyValue → Type 0
HasInBody page made None = Unit {0}
HasInBody page made (Some body) = StandBefore page (length body.log) made

abbrev pub HasInHold : Page → List Made → HoldAt → Type 0
HasInHold page made (hold_at.LoadCache body) = HasInBody page made body
HasInHold page made (hold_at.Held frame body) = HasInBody page made (Some body)
HasInHold page made _ = Unit {0}

abbrev pub HasInAnswer : Page → List Made → EvictAnswer → Type 0
HasInAnswer page made (answers.Refused refusal place) = StandBefore page place.entry made
HasInAnswer page made _ = Unit {0}

abbrev pub HasInView : Page → List Made → EvictAt → Type 0
HasInView page made (at.Hold h) = HasInHold page made h.at
HasInView page made (at.Unhold u answer) = HasInAnswer page made answer
HasInView page made (at.Over answer) = HasInAnswer page made answer
HasInView page made _ = Unit {0}
