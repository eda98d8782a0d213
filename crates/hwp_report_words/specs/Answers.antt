-- The words of answers.
use Rattle.std.specs.Prelude.{ℕ, List, codes}
use Rattle.hwp_report_words.specs.declared.replies.Counted.{Counted}
use Rattle.hwp_report_words.specs.declared.replies.Counted.TheVariants as counted
use Rattle.hwp_report_words.specs.declared.replies.Placed.{Placed}
use Rattle.hwp_report_words.specs.declared.replies.Placed.TheVariants as placed
use Rattle.hwp_report_words.specs.declared.replies.Short.{Short}
use Rattle.hwp_report_words.specs.declared.replies.Short.TheVariants as short
use Rattle.hwp_report_words.specs.declared.replies.Valued.{Valued}
use Rattle.hwp_report_words.specs.declared.replies.Valued.TheVariants as valued

-- a word that is an answer
abbrev pub short_text : Short → List ℕ
short_text short.NoFrame = codes "noframe"
short_text short.Stopped = codes "stopped"
short_text short.Done = codes "done"
short_text short.Einval = codes "einval"
short_text short.Recovered = codes "recovered"
short_text short.Delayed = codes "delayed"
short_text short.Ignored = codes "ignored"
short_text short.Already = codes "already"
short_text short.TakenFree = codes "takenfree"
short_text short.Kernel = codes "kernel"
short_text short.NotPoisoned = codes "notpoisoned"
short_text short.HardwareSeen = codes "hardwareseen"
short_text short.GuestStopped = codes "gueststopped"
short_text short.GuestBad = codes "guestbad"

-- a word of an answer that a number follows
abbrev pub counted_text : Counted → List ℕ
counted_text counted.Gone = codes "gone"
counted_text counted.Eio = codes "eio"
counted_text counted.Opened = codes "opened"
counted_text counted.Is = codes "is"
counted_text counted.HasBad = codes "hasbad"
counted_text counted.InUse = codes "inuse"
counted_text counted.Scrubbed = codes "scrubbed"
counted_text counted.Raised = codes "raised"

-- a word of an answer that a place follows
abbrev pub placed_text : Placed → List ℕ
placed_text placed.Stored = codes "stored"
placed_text placed.Sigbus = codes "sigbus"
placed_text placed.Done = codes "done"
placed_text placed.NotResident = codes "notresident"
placed_text placed.NotMapped = codes "notmapped"
placed_text placed.Dirty = codes "dirty"
placed_text placed.Mapped = codes "mapped"
placed_text placed.Locked = codes "locked"

-- a word of an answer that a value and a place follow
abbrev pub valued_text : Valued → List ℕ
valued_text valued.Value = codes "value"
valued_text valued.BadLines = codes "badlines"
valued_text valued.Moved = codes "moved"
