-- What a load of a report got, and what its command was shown before.
use Rattle.std.specs.Prelude.{◌≡◌, ℕ, List, Some, IsBitSet, IsTrue, slice_index}
use Rattle.std.specs.FinSet as set
use Rattle.hwp_law_served.specs.hwp_geom.declared.Frame.{Frame}
use Rattle.hwp_law_served.specs.hwp_geom.declared.Layout.{Layout}
use Rattle.hwp_law_served.specs.hwp_geom.declared.Mask.{Mask}
use Rattle.hwp_law_served.specs.hwp_geom.declared.Page.{Page}
use Rattle.hwp_law_served.specs.hwp_geom.declared.VSlot.{VSlot}
use Rattle.hwp_law_served.specs.hwp_geom.declared.Who.{Who}
use Rattle.hwp_law_served.specs.hwp_page.declared.At.{At}
use Rattle.hwp_law_served.specs.hwp_page.declared.Entry.{Entry}
use Rattle.hwp_law_served.specs.hwp_page.declared.Met.TheVariants.{Word}
use Rattle.hwp_law_served.specs.hwp_page.declared.PageState.{PageState}
use Rattle.hwp_law_served.specs.hwp_page.declared.What.TheVariants.{Load}
use Rattle.hwp_law_served.specs.hwp_core_rule.declared.FrameLock.{FrameLock}
use Rattle.hwp_law_served.specs.hwp_core_rule.declared.InHand.{InHand}
use Rattle.hwp_law_served.specs.hwp_core_rule.declared.SharedWord.TheVariants as places
use Rattle.hwp_law_served.specs.hwp_core_rule.declared.Rec.{Rec}
use Rattle.hwp_law_served.specs.hwp_core_rule.declared.View.{View}
use Rattle.hwp_law_served.specs.hwp_core_rule.Lists.{SomeMember}
use Rattle.hwp_law_served.specs.hwp_core_rule.Steps.{place_of}
use Rattle.hwp_law_served.specs.hwp_core_rule.Boards.{Played}
use Rattle.hwp_law_served.specs.hwp_report_text.declared.Report.{Report}
use Rattle.hwp_law_served.specs.hwp_law.Places.{entry_at}
use Rattle.hwp_law_served.specs.hwp_law.States.{HadState}
use Rattle.hwp_law_served.specs.Turns.{TurnBy}

-- the seat has the frame's lock, and in hand the body of the page, which it took from the frame
pub record HasPageIn (page : Page) (frame : Frame) (view : View) : Type 0 where
  pub locked : SomeMember (λ (l : FrameLock). l.frame ≡ frame) view.locks
  pub body : SomeMember (λ (b : InHand). (b.log.page ≡ page) × (b.frame ≡ Some frame)) view.bodies

-- a step of the command, made under the lock of the frame from which it had the page's body, showed these bad lines of the frame
abbrev pub Inspects : Layout → List Played → Who → Page → Frame → ℕ → Type 0
Inspects layout turns who page frame mask =
    TurnBy layout turns who (λ (made : Rec) (view : View). (place_of made.step ≡ places.Bad frame) × (made.found ≡ mask) × HasPageIn page frame view)

-- The load met the content of its page: the translation was in use, and the word is the page's content on the line, in the state that
-- the page had at the entry's place. A step of the command, made under the lock of the page's frame, had shown the bad lines of
-- that frame, and the line is none of them.
pub record IsGoodLoad (layout : Layout) (report : Report) (turns : List Played) (who : Who) (at : At) (slot : VSlot) (line : ℕ) (mask : Mask) (word : ℕ) : Type 0 where
  pub mapped : HadState layout report.pages at (λ (s : PageState). IsTrue (set.contains s.maps slot.0))
  pub content : HadState layout report.pages at (λ (s : PageState). slice_index s.val line ≡ word)
  pub frame : Frame
  pub inspected : Inspects layout turns who at.page frame mask.0
  pub good : ¬ IsBitSet mask.0 line

-- each load of the report that got a word is such
abbrev pub AreGoodLoads : Layout → Report → List Played → Type 0
AreGoodLoads layout report turns =
    (at : At) (e : Entry) (slot : VSlot) (line : ℕ) (mask : Mask) (word : ℕ) → entry_at report.pages at ≡ Some e → e.what ≡ Load slot line (Word mask word) → IsGoodLoad layout report turns e.who at slot line mask word
