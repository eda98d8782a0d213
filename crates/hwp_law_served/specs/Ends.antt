-- What a report says of the board on which a run ends.
use Rattle.std.specs.Prelude.{◌≡◌, ℕ, ◌+◌, ◌^◌, cond, Bool, false, List, Option, Some, None, map, slice_get}
use Rattle.std.specs.List.{sum_by}
use Rattle.hwp_law.specs.hwp_geom.declared.Frame.{Frame}
use Rattle.hwp_law.specs.hwp_geom.declared.Layout.{Layout}
use Rattle.hwp_law.specs.hwp_geom.declared.Page.{Page}
use Rattle.hwp_law.specs.hwp_geom.declared.Who.{Who}
use Rattle.hwp_law.specs.hwp_page.declared.Entry.{Entry}
use Rattle.hwp_plain.specs.hwp_words.Counters.{biased_poisoned_of}
use Rattle.hwp_plain.specs.hwp_words.Frames.{is_handled, is_kernel, owner_of, poison_of}
use Rattle.hwp_plain.specs.hwp_words.Names.{page_named}
use Rattle.hwp_plain.specs.hwp_words.Stops.{stopper_of}
use Rattle.hwp_plain.specs.hwp_core_rule.declared.Log.{Log}
use Rattle.hwp_plain.specs.hwp_core_rule.declared.Mark.{Mark}
use Rattle.hwp_plain.specs.hwp_core_rule.declared.MarkKind.TheVariants as kinds
use Rattle.hwp_plain.specs.hwp_core_rule.declared.State.{State}
use Rattle.hwp_plain.specs.hwp_core_rule.declared.View.{View}
use Rattle.hwp_plain.specs.hwp_core_rule.Lists.{SomeListed, SomeMember}
use Rattle.hwp_plain.specs.hwp_core_rule.Words.{Words, words_of}
use Rattle.hwp_law.specs.hwp_report_text.declared.FrameLine.{FrameLine}
use Rattle.hwp_law.specs.hwp_report_text.declared.How.{How}
use Rattle.hwp_law.specs.hwp_report_text.declared.How.TheVariants as hows
use Rattle.hwp_law.specs.hwp_report_text.declared.MarkLine.{MarkLine}
use Rattle.hwp_law.specs.hwp_report_text.declared.MarkLine.TheVariants as marks
use Rattle.hwp_law.specs.hwp_report_text.declared.Whereabouts.{Whereabouts}
use Rattle.hwp_law.specs.hwp_report_text.declared.Whereabouts.TheVariants as places
use Rattle.hwp_law.specs.hwp_report_text.declared.Report.{Report}
use Rattle.hwp_law.specs.hwp_report_text.declared.Stop.{Stop}

-- where a frame is, by the page that owns it
abbrev pub place_owned : Option Page → Whereabouts
place_owned None = places.Free
place_owned (Some page) = places.Of page

-- where a frame is, by its word
abbrev pub place_in : ℕ → Whereabouts
place_in word = cond (is_kernel word) places.Kernel (cond (is_handled word) places.Handled (place_owned (page_named (owner_of word))))

-- a failure by a bank's event, or by a command
abbrev pub cause_of : How → Bool
cause_of (hows.Failure hardware situation outcome) = hardware
cause_of hows.Moved = false
cause_of hows.TakenFree = false

-- the line tells the mark
abbrev pub Tells : Frame → MarkLine → Mark → Type 0
Tells frame (marks.Poisoned cycle who how) m = (m.frame ≡ frame) × (m.cycle ≡ cycle) × (m.stamp.who ≡ who) × (m.kind ≡ kinds.Poisoned (cause_of how))
Tells frame (marks.Unpoisoned cycle who) m = (m.frame ≡ frame) × (m.cycle ≡ cycle) × (m.stamp.who ≡ who) × (m.kind ≡ kinds.Revived)

-- a view lists the mark
abbrev pub IsListed : List View → Mark → Type 0
IsListed views mark = SomeListed (λ (m : Mark). m ≡ mark) (map (λ (v : View). v.marks) views)

-- the lines of a frame's record are the marks of the frame that the views list
pub record AreMarks (views : List View) (frame : Frame) (list : List MarkLine) : Type 0 where
  pub told : (place : ℕ) (line : MarkLine) → slice_get list place ≡ Some line → (mark : Mark) × IsListed views mark × Tells frame line mark
  pub listed : (mark : Mark) → IsListed views mark → mark.frame ≡ frame → SomeMember (λ (line : MarkLine). Tells frame line mark) list

-- the line of a frame says what its words and marks are
pub record IsFrameOn (words : Words) (views : List View) (frame : Frame) (line : FrameLine) : Type 0 where
  pub word : ℕ
  pub there : slice_get words.frames frame.0 ≡ Some word
  pub place : line.place ≡ place_in word
  pub bad : slice_get words.bads frame.0 ≡ Some line.bad.0
  pub weak : slice_get words.weaks frame.0 ≡ Some line.weak.0
  pub marks : AreMarks views frame line.marks

-- the history of a page is that of its body, which is at home
pub record IsPageOn (state : State) (page : Page) (entries : List Entry) : Type 0 where
  pub home : SomeMember (λ (content : Option (Option Log)). content ≡ Some (Some (record { page = page; entries = entries }))) state.homes

-- the stop record names the processor and the command that stopped the machine
abbrev pub IsStopOn : ℕ → List View → Option Stop → Type 0
IsStopOn word views None = stopper_of word ≡ 0
IsStopOn word views (Some stop) = (stopper_of word ≡ stop.who.cpu.0 + 1) × SomeListed (λ (w : Who). w ≡ stop.who) (map (λ (v : View). v.stops) views)

-- the frames, pages, files, the count and the stop of a report are what the board has at the end; the count is that of the
-- counter word too
pub record EndsWith (layout : Layout) (state : State) (report : Report) : Type 0 where
  pub frames : (frame : Frame) (line : FrameLine) → slice_get report.frames frame.0 ≡ Some line → IsFrameOn (words_of layout state.words) state.views frame line
  pub pages : (page : Page) (entries : List Entry) → slice_get report.pages page.0 ≡ Some entries → IsPageOn state page entries
  pub files : report.files ≡ (words_of layout state.words).losses
  pub count : report.count ≡ sum_by poison_of (words_of layout state.words).frames
  pub counter : biased_poisoned_of (words_of layout state.words).counter ≡ 2 ^ 31 + report.count
  pub stop : IsStopOn (words_of layout state.words).stop state.views report.stop
