-- The scrubber: the task's states, its steps and what they come to.
use Rattle.std.specs.Prelude.{◌≡◌, ◌⊎◌, ℕ, ◌+◌, ◌≤◌, nat_lt, Bool, cond, List, [], ◌∷◌, Option, Some, None, slice_index_or, slice_set}
use Rattle.std.specs.declared.alloc.Global.{Global}
use Rattle.hwp_claim.specs.hwp_geom.declared.Frame.{Frame}
use Rattle.hwp_claim.specs.hwp_geom.declared.Layout.{Layout}
use Rattle.hwp_claim.specs.hwp_geom.declared.Who.{Who}
use Rattle.hwp_claim.specs.hwp_banks.declared.Event.{Event}
use Rattle.hwp_claim.specs.hwp_banks.declared.Origin.TheVariants as origins
use Rattle.hwp_claim.specs.hwp_banks.Events.{bank_count, own_event}
use Rattle.hwp_claim.specs.hwp_banks.Logged.{logged}
use Rattle.hwp_claim.specs.hwp_page.History.{BodyValue}
use Rattle.hwp_claim.specs.hwp_words.Stops.{is_stopped}
use Rattle.hwp_claim.specs.hwp_core_rule.declared.SharedWord.TheVariants as places
use Rattle.hwp_claim.specs.hwp_core_rule.declared.Step.{Step}
use Rattle.hwp_claim.specs.hwp_core_rule.declared.Step.TheVariants as steps
use Rattle.hwp_claim.specs.hwp_core_rule.declared.Turn.{Turn}
use Rattle.hwp_claim.specs.hwp_core_rule.declared.Turn.TheVariants.{Moved, NoMemory}
use Rattle.hwp_claim.specs.hwp_report_text.declared.Acted.TheVariants as acts
use Rattle.hwp_claim.specs.hwp_banks.Banks.{Banks, empty_banks}
use Rattle.hwp_claim.specs.declared.Handler.{Handler}
use Rattle.hwp_claim.specs.declared.EventOutcome.{EventOutcome}
use Rattle.hwp_claim.specs.Events.{graded_in}
use Rattle.hwp_claim.specs.Handlers as handlers
use Rattle.hwp_claim.specs.Lines.{no_lines, with_lines}
use Rattle.hwp_scrub.specs.Visits.{IsLowest, scrub_bank, scrubbing, with_bad}
use Rattle.hwp_scrub.specs.declared.scrub.Scrub.{Scrub}
use Rattle.hwp_scrub.specs.declared.scrub.ScrubAnswer.{ScrubAnswer}
use Rattle.hwp_scrub.specs.declared.scrub.ScrubAnswer.TheVariants as answers
use Rattle.hwp_scrub.specs.declared.scrub.ScrubAt.{ScrubAt}
use Rattle.hwp_scrub.specs.declared.scrub.ScrubAt.TheVariants as at

abbrev pub begin : Global → Who → Frame → Frame → Banks → Scrub
begin alloc who first last banks = record {
  alloc = alloc;
  who = who;
  first = first;
  last = last;
  before = record { marker = record {}; value = banks };
  banks = banks;
  lines = no_lines;
  at = at.LoadStop;
}

-- ---- the step that comes

abbrev pub plan_at : ScrubAt → Option Step
plan_at at.LoadStop = Some (steps.Load places.Stop)
plan_at (at.LoadBad frame) = Some (steps.Load (places.Bad frame))
plan_at (at.Handle frame h) = handlers.plan h
plan_at (at.LoadWeak frame) = Some (steps.Load (places.Weak frame))
plan_at at.GiveUp = Some steps.GiveUp
plan_at (at.Over answer) = None

abbrev pub plan : Scrub → Option Step
plan s = plan_at s.at

abbrev pub put_at : ScrubAt → Option BodyValue
put_at (at.Handle frame h) = handlers.put h
put_at _ = None

abbrev pub put : Scrub → Option BodyValue
put s = put_at s.at

abbrev pub bare_at : ScrubAt → ScrubAt
bare_at (at.Handle frame h) = at.Handle frame (handlers.bare h)
bare_at x = x

abbrev pub bare : Scrub → Scrub
bare s = record s { at = bare_at s.at }

abbrev pub answer_at : ScrubAt → Option ScrubAnswer
answer_at (at.Over answer) = answer
answer_at _ = None

abbrev pub answer : Scrub → Option ScrubAnswer
answer s = answer_at s.at

-- ---- what follows

-- the stop word: nothing is done on a machine that has stopped
abbrev pub after_stop : Scrub → ℕ → Scrub
after_stop s found = record s { at = cond (is_stopped found) (at.Over (Some answers.Stopped)) (at.LoadBad s.first) }

-- its next step gives up the command
abbrev pub give_up : Scrub → Scrub
give_up s = record s { at = at.GiveUp }

abbrev pub after_handler_by : Scrub → Frame → Handler → Option Bool → Scrub
after_handler_by s frame h None = record s { at = at.Handle frame h }
after_handler_by s frame h (Some stopped) = record s { lines = with_lines s.lines h.events.told; at = cond stopped (at.Over (Some answers.Stopped)) (at.LoadWeak frame) }

-- the machine check goes on, or is over
abbrev pub after_handler : Scrub → Frame → Handler → Scrub
after_handler s frame h = after_handler_by s frame h (handlers.answer h)

-- what follows when it is over, and what it told is taken over
abbrev pub checked : Scrub → Frame → Bool → Scrub
checked s frame stopped = record s { at = cond stopped (at.Over (Some answers.Stopped)) (at.LoadWeak frame) }

-- the machine check of a line that is bad in the frame: its own event is logged
abbrev pub handler_of : Layout → Scrub → Frame → ℕ → Handler
handler_of layout s frame line = handlers.begin layout s.alloc s.who None scrubbing (with_bad frame line s.banks)

abbrev pub with_room : Scrub → ℕ → Scrub
with_room s spare = record s { lines = record s.lines { spare = spare } }

-- it leaves the banks empty
abbrev pub emptied : Scrub → ℕ → Scrub
emptied s spare = record (with_room s spare) { banks = empty_banks }

-- it begins; or, where room for its lines was refused, the command is given up
abbrev pub BeginsCheck : Layout → Scrub → Frame → ℕ → Scrub → Type 0
BeginsCheck layout s frame line after =
    (after ≡ record s { at = at.GiveUp }) ⊎ ((spare : ℕ) × (bank_count ≤ spare) × (after ≡ after_handler (emptied s spare) frame (handler_of layout s frame line)))

abbrev pub AfterBadBy : Layout → Scrub → Frame → Option ℕ → Scrub → Type 0
AfterBadBy layout s frame None after = after ≡ record s { at = at.LoadWeak frame }
AfterBadBy layout s frame (Some line) after = BeginsCheck layout s frame line after

-- the word of the frame's bad lines
abbrev pub AfterBad : Layout → Scrub → Frame → ℕ → Scrub → Type 0
AfterBad layout s frame found after = (line : Option ℕ) × IsLowest found line × AfterBadBy layout s frame line after

-- the next frame, or the end
abbrev pub gone_on : Scrub → Frame → Scrub
gone_on s frame = record s { at = cond (nat_lt frame.0 s.last.0) (at.LoadBad (record { 0 = frame.0 + 1 })) (at.Over (Some answers.Scrubbed)) }

-- what the scrubber's bank holds with a weak line is kept on record, and taken out
abbrev pub kept_line : Event → EventOutcome
kept_line event = record { held = graded_in scrubbing (scrub_bank, event); acted = acts.Keep; found = None }

abbrev pub kept_lines : Option Event → List EventOutcome
kept_lines None = []
kept_lines (Some event) = kept_line event ∷ []

abbrev pub kept : Scrub → Frame → ℕ → Scrub
kept s frame line = record s {
  banks = slice_set s.banks scrub_bank None;
  lines = with_lines s.lines (kept_lines (logged (slice_index_or s.banks scrub_bank None) (own_event origins.WeakLine frame line)));
}

-- a weak line is told; or, where room for that was refused, the command is given up
abbrev pub MeetsWeak : Scrub → Frame → ℕ → Scrub → Type 0
MeetsWeak s frame line after = (after ≡ record s { at = at.GiveUp }) ⊎ ((spare : ℕ) × (bank_count ≤ spare) × (after ≡ gone_on (kept (with_room s spare) frame line) frame))

abbrev pub AfterWeakBy : Scrub → Frame → Option ℕ → Scrub → Type 0
AfterWeakBy s frame None after = after ≡ gone_on s frame
AfterWeakBy s frame (Some line) after = MeetsWeak s frame line after

-- the word of the frame's weak lines
abbrev pub AfterWeak : Scrub → Frame → ℕ → Scrub → Type 0
AfterWeak s frame found after = (line : Option ℕ) × IsLowest found line × AfterWeakBy s frame line after

-- ---- each step

pub record HandlerStepped (layout : Layout) (s : Scrub) (frame : Frame) (h : Handler) (found : ℕ) (got : Option BodyValue) (after : Scrub) (turn : Turn) : Type 0 where
  pub handler : Handler
  pub follows : handlers.Follows layout h found got handler turn
  pub next_is : after ≡ after_handler s frame handler

abbrev pub FollowsAt : Layout → Scrub → ScrubAt → ℕ → Option BodyValue → Scrub → Turn → Type 0
FollowsAt layout s at.LoadStop found got after turn = (after ≡ after_stop s found) × (turn ≡ Moved)
FollowsAt layout s (at.LoadBad frame) found got after turn = AfterBad layout s frame found after × (turn ≡ Moved)
FollowsAt layout s (at.Handle frame h) found got after turn = HandlerStepped layout s frame h found got after turn
FollowsAt layout s (at.LoadWeak frame) found got after turn = AfterWeak s frame found after × (turn ≡ Moved)
FollowsAt layout s at.GiveUp found got after turn = (after ≡ record s { at = at.Over None }) × (turn ≡ NoMemory)
FollowsAt layout s (at.Over answer) found got after turn = (after ≡ s) × (turn ≡ Moved)

abbrev pub Follows : Layout → Scrub → ℕ → Option BodyValue → Scrub → Turn → Type 0
Follows layout s found got after turn = FollowsAt layout s s.at found got after turn

abbrev pub ShowsAt : ℕ → ScrubAt → ℕ → Option BodyValue → Type 0
ShowsAt spare (at.Handle frame h) found got = handlers.ShowsWithin spare h found got
ShowsAt spare _ found got = Unit {0}

abbrev pub Shows : Scrub → ℕ → Option BodyValue → Type 0
Shows s found got = ShowsAt s.lines.spare s.at found got
