-- Which values the lines below pages may have: each number is within its type.
use Rattle.std.specs.Prelude.{ℕ, ◌^◌, ◌<◌, ◌≤◌, List, length, All, Option, IfSome}
use Rattle.hwp_report_text.specs.hwp_geom.declared.Thread.{Thread}
use Rattle.hwp_report_text.specs.hwp_geom.Limits.{line_limit}
use Rattle.hwp_report_text.specs.hwp_kill.Limits.{signal_limit}
use Rattle.hwp_report_text.specs.hwp_kill.declared.Seen.{Seen}
use Rattle.hwp_report_text.specs.hwp_kill.declared.Signal.{Signal}
use Rattle.hwp_report_text.specs.hwp_page.declared.Entry.{Entry}
use Rattle.hwp_report_text.specs.hwp_page.declared.Met.{Met}
use Rattle.hwp_report_text.specs.hwp_page.declared.Met.TheVariants as mets
use Rattle.hwp_report_text.specs.hwp_page.declared.What.{What}
use Rattle.hwp_report_text.specs.hwp_page.declared.What.TheVariants as whats
use Rattle.hwp_report_words.specs.Words.{WhoFits}
use Rattle.hwp_report_words.specs.declared.failures.Failure.{Failure}

-- what an access met
abbrev pub MetFits : Met → Type 0
MetFits (mets.Word mask word) = (mask.0 < 2 ^ 64) × (word < 2 ^ 64)
MetFits (mets.Sigbus thread) = thread.0 < 2 ^ 8

-- an access through a translation at a line
abbrev pub AccessFits : ℕ → ℕ → Met → Type 0
AccessFits slot line met = (slot < 2 ^ 16) × (line < line_limit) × MetFits met

abbrev pub ThreadFits : Thread → Type 0
ThreadFits thread = thread.0 < 2 ^ 8

-- a policy that was read
abbrev pub SeenFits : Seen → Type 0
SeenFits seen = (seen.thread.0 < 2 ^ 8) × (seen.n < 2 ^ 32)

-- a signal
abbrev pub SignalFits : Signal → Type 0
SignalFits signal = (signal.process.0 < 2 ^ 8) × (signal.thread.0 < 2 ^ 8) × (signal.slot.0 < 2 ^ 16)

-- the lists of a memory failure
pub record FailureFits (required : Option Thread) (seen : List Seen) (signals : List Signal) : Type 0 where
  pub thread : IfSome required ThreadFits
  pub policies : All SeenFits seen
  pub countable : length seen < 2 ^ 64
  pub each : All SignalFits signals
  pub few : length signals ≤ signal_limit

-- what happened to a page
abbrev pub WhatFits : What → Type 0
WhatFits (whats.Load slot line met) = AccessFits slot.0 line met
WhatFits (whats.Store slot line met) = AccessFits slot.0 line met
WhatFits (whats.Map slot) = slot.0 < 2 ^ 16
WhatFits (whats.Free slot) = slot.0 < 2 ^ 16
WhatFits (whats.Mce slot line mask) = (slot.0 < 2 ^ 16) × (line < line_limit) × (mask.0 < 2 ^ 64)
WhatFits (whats.Fail situation required seen signals) = FailureFits required seen signals
WhatFits what = Unit {0}

abbrev pub EntryFits : Entry → Type 0
EntryFits entry = WhoFits entry.who × WhatFits entry.what

-- what happened to a page, other than a memory failure, which has lines of its own
abbrev pub PlainFits : What → Type 0
PlainFits (whats.Fail situation required seen signals) = ⊥
PlainFits what = WhatFits what

-- an entry that is no memory failure
abbrev pub PlainEntryFits : Entry → Type 0
PlainEntryFits entry = WhoFits entry.who × PlainFits entry.what

-- a memory failure has at most 16 signals
pub record FailFits (f : Failure) : Type 0 where
  pub who : WhoFits f.who
  pub required : IfSome f.required ThreadFits
  pub seen : f.seen < 2 ^ 64
  pub signals : f.signals ≤ signal_limit
