-- Which lines of a report break its rules: the shape, the histories, the policies seen, the count, the losses, the stop and the
-- frames.
use Rattle.std.specs.Prelude.{◌≡◌, ◌≢◌, ◌⊎◌, ℕ, ◌+◌, ◌<◌, ◌≤◌, min, Bool, true, false, cond, List, [], ◌∷◌, Some, Contains, count_by, length, slice_get, take, Option}
use Rattle.hwp_law.specs.hwp_geom.Layout.{is_locked}
use Rattle.hwp_law.specs.hwp_geom.declared.FileNo.{FileNo}
use Rattle.hwp_law.specs.hwp_geom.declared.Frame.{Frame}
use Rattle.hwp_law.specs.hwp_geom.declared.Page.{Page}
use Rattle.hwp_law.specs.hwp_geom.declared.PageKind.{PageKind}
use Rattle.hwp_law.specs.hwp_geom.declared.Who.{Who}
use Rattle.hwp_law.specs.hwp_kill.declared.Seen.{Seen}
use Rattle.hwp_law.specs.hwp_page.History.{IsReplay, state_after}
use Rattle.hwp_law.specs.hwp_page.Step.{Allowed, opening_of}
use Rattle.hwp_law.specs.hwp_page.declared.At.{At}
use Rattle.hwp_law.specs.hwp_page.declared.Entry.{Entry}
use Rattle.hwp_law.specs.hwp_page.declared.PageState.{PageState}
use Rattle.hwp_law.specs.hwp_script_words.declared.Script.{Script}
use Rattle.hwp_law.specs.hwp_report_text.declared.FrameLine.{FrameLine}
use Rattle.hwp_law.specs.hwp_report_text.declared.Whereabouts.{Whereabouts}
use Rattle.hwp_law.specs.hwp_report_text.declared.Whereabouts.TheVariants as places
use Rattle.hwp_law.specs.hwp_report_text.declared.Report.{Report}
use Rattle.hwp_law.specs.Entries.{IsMadeBy}
use Rattle.hwp_law.specs.Places.{entry_at}
use Rattle.hwp_law.specs.PageHistory.{is_of}
use Rattle.hwp_law.specs.SeenPolicies.{IsOwnCount, IsPolicySeen, seen_in}
use Rattle.hwp_check_rules.specs.Rules.{CountFits, IsFrameShown, IsTold, StopFits}
use Rattle.hwp_check_rules.specs.Standing.{count_line, cpu_line, entry_line, file_line, frame_line, header_line, page_line, seen_line, stop_line}
use Rattle.hwp_law.specs.hwp_geom.declared.VSlot.{VSlot}

-- a section has not as many items as it should: named is the line in the place of the first that lacks, or the heading of the
-- first that is too many
abbrev pub IsMiscounted : ℕ → ℕ → (ℕ → ℕ) → ℕ → Type 0
IsMiscounted has should line_of line = (has ≢ should) × (line ≡ line_of (min has should))

-- the report is of another version than the script
abbrev pub IsMisversioned : Script → Report → ℕ → Type 0
IsMisversioned script report line = (report.version ≢ script.layout.version) × (line ≡ header_line)

abbrev pub IsShapeFault : Script → Report → ℕ → Type 0
IsShapeFault script report line =
    IsMisversioned script report line
    ⊎ IsMiscounted (length report.files) script.layout.files (file_line report) line
    ⊎ IsMiscounted (length report.frames) script.layout.frames (frame_line report) line
    ⊎ IsMiscounted (length report.pages) (length script.layout.pages) (page_line report) line
    ⊎ IsMiscounted (length report.cpus) script.layout.cpus (cpu_line report) line

-- the page's state after the entries before this one doesn't allow it
pub record IsBarred (script : Script) (report : Report) (at : At) (entry : Entry) : Type 0 where
  pub kind : PageKind
  pub entries : List Entry
  pub declared : slice_get script.layout.pages at.page.0 ≡ Some kind
  pub there : slice_get report.pages at.page.0 ≡ Some entries
  pub barred : Allowed script.layout at.page (state_after (opening_of kind (is_locked script.layout at.page)) (take at.entry entries)) entry.what → ⊥

-- before the entry its page has one of a later command of the same processor
pub record IsBehind (report : Report) (at : At) (entry : Entry) : Type 0 where
  pub earlier : At
  pub other : Entry
  pub there : entry_at report.pages earlier ≡ Some other
  pub same_page : earlier.page ≡ at.page
  pub before : earlier.entry < at.entry
  pub same_cpu : other.who.cpu ≡ entry.who.cpu
  pub falls : entry.who.seq < other.who.seq

-- an entry that is not allowed, that its command does not make, or whose command's number falls
pub record IsHistoryFault (script : Script) (copies : Who → Option VSlot) (report : Report) (line : ℕ) : Type 0 where
  pub at : At
  pub entry : Entry
  pub there : entry_at report.pages at ≡ Some entry
  pub line_is : line ≡ entry_line report at
  pub wrong : IsBarred script report at entry ⊎ (IsMadeBy script copies at.page entry → ⊥) ⊎ IsBehind report at entry

-- an earlier command of the processor saw a later policy of the thread
pub record HasFallen (report : Report) (who : Who) (seen : Seen) : Type 0 where
  pub earlier : At
  pub other : Entry
  pub before : Seen
  pub there : entry_at report.pages earlier ≡ Some other
  pub listed : Contains (seen_in other.what) before
  pub same_cpu : other.who.cpu ≡ who.cpu
  pub rises : other.who.seq < who.seq
  pub same_thread : before.thread ≡ seen.thread
  pub falls : seen.n < before.n

-- a policy seen that the thread didn't have, or not then, or that is older than one seen before
pub record IsSeenFault (script : Script) (report : Report) (line : ℕ) : Type 0 where
  pub at : At
  pub entry : Entry
  pub number : ℕ
  pub seen : Seen
  pub there : entry_at report.pages at ≡ Some entry
  pub listed : slice_get (seen_in entry.what) number ≡ Some seen
  pub line_is : line ≡ seen_line report at number
  pub wrong : (IsPolicySeen script report seen → ⊥) ⊎ (IsOwnCount script report entry.who seen → ⊥) ⊎ HasFallen report entry.who seen

abbrev pub IsCountFault : Report → ℕ → Type 0
IsCountFault report line = (CountFits report → ⊥) × (line ≡ count_line)

-- a file whose losses are another number, or of which a processor was told a wrong number
pub record IsLossFault (script : Script) (report : Report) (line : ℕ) : Type 0 where
  pub file : FileNo
  pub lost : ℕ
  pub there : slice_get report.files file.0 ≡ Some lost
  pub line_is : line ≡ file_line report file.0
  pub wrong : IsTold script report file lost → ⊥

abbrev pub IsStopFault : Script → Report → ℕ → Type 0
IsStopFault script report line = (StopFits script report → ⊥) × (line ≡ stop_line)

-- how many frames say the page; and how many should, when its history ends so
abbrev pub sayers : Page → List FrameLine → ℕ
sayers page frames = count_by (λ (f : FrameLine). is_of page f.place) frames

abbrev pub holders : PageState → ℕ
holders state = cond state.cached 1 0

-- the frame's line is wrong by itself
pub record IsFrameWrong (script : Script) (report : Report) (line : ℕ) : Type 0 where
  pub frame : Frame
  pub kernel : Bool
  pub shown : FrameLine
  pub declared : slice_get script.layout.kernel frame.0 ≡ Some kernel
  pub there : slice_get report.frames frame.0 ≡ Some shown
  pub line_is : line ≡ frame_line report frame.0
  pub wrong : IsFrameShown script report kernel frame shown → ⊥

-- a page with the state at the end of its history
pub record EndsIn (script : Script) (report : Report) (page : Page) (state : PageState) : Type 0 where
  pub entries : List Entry
  pub there : slice_get report.pages page.0 ≡ Some entries
  pub replay : IsReplay script.layout page entries state

-- the frame says a page that as many frames as should say before it: the second that says a cached page, or the first that
-- says a page in no frame
pub record IsSaidTwice (script : Script) (report : Report) (line : ℕ) : Type 0 where
  pub frame : Frame
  pub shown : FrameLine
  pub page : Page
  pub state : PageState
  pub there : slice_get report.frames frame.0 ≡ Some shown
  pub line_is : line ≡ frame_line report frame.0
  pub says : is_of page shown.place ≡ true
  pub ends : EndsIn script report page state
  pub enough : holders state ≤ sayers page (take frame.0 report.frames)

abbrev pub is_free : Whereabouts → Bool
is_free places.Free = true
is_free _ = false

-- the first frame that says `free`, or frame 0 where none does
abbrev pub first_free : ℕ → List FrameLine → ℕ
first_free n [] = 0
first_free n (f ∷ fs) = cond (is_free f.place) n (first_free (n + 1) fs)

-- a page is cached, and no frame says it
pub record IsUnsaid (script : Script) (report : Report) (line : ℕ) : Type 0 where
  pub page : Page
  pub state : PageState
  pub ends : EndsIn script report page state
  pub cached : state.cached ≡ true
  pub none_says : sayers page report.frames ≡ 0
  pub line_is : line ≡ frame_line report (first_free 0 report.frames)

abbrev pub IsFrameFault : Script → Report → ℕ → Type 0
IsFrameFault script report line = IsFrameWrong script report line ⊎ IsSaidTwice script report line ⊎ IsUnsaid script report line
