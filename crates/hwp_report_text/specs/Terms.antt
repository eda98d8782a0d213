-- The words of a report.
use Rattle.std.specs.Prelude.{ℕ, Bool, true, false, List, codes}
use Rattle.hwp_page.specs.hwp_geom.declared.Mode.{Mode}
use Rattle.hwp_page.specs.hwp_geom.declared.Mode.TheVariants as modes
use Rattle.hwp_page.specs.hwp_geom.declared.Version.{Version}
use Rattle.hwp_page.specs.hwp_geom.declared.Version.TheVariants as versions
use Rattle.hwp_page.specs.hwp_kill.declared.Code.{Code}
use Rattle.hwp_page.specs.hwp_kill.declared.Code.TheVariants as kinds
use Rattle.hwp_page.specs.declared.Situation.{Situation}
use Rattle.hwp_page.specs.declared.Situation.TheVariants as situations
use Rattle.hwp_page.specs.declared.Outcome.{Outcome}
use Rattle.hwp_page.specs.declared.Outcome.TheVariants as outcomes
use Rattle.hwp_report_text.specs.declared.lines.Acted.{Acted}
use Rattle.hwp_report_text.specs.declared.lines.Acted.TheVariants as acts

-- a version
abbrev pub version_word : Version → List ℕ
version_word versions.One = codes "1"
version_word versions.Two = codes "2"

-- the number of a yes or no
abbrev pub flag_number : Bool → ℕ
flag_number true = 1
flag_number false = 0

-- a mode
abbrev pub mode_word : Mode → List ℕ
mode_word modes.User = codes "user"
mode_word modes.Kernel = codes "kernel"

-- the code of a signal
abbrev pub code_word : Code → List ℕ
code_word kinds.Ar = codes "ar"
code_word kinds.Ao = codes "ao"

-- a situation
abbrev pub situation_word : Situation → List ℕ
situation_word situations.Free = codes "free"
situation_word situations.Kernel = codes "kernel"
situation_word situations.FileClean = codes "fileclean"
situation_word situations.FileDirty = codes "filedirty"
situation_word situations.AnonOnly = codes "anononly"
situation_word situations.SwapClean = codes "swapclean"
situation_word situations.SwapDirty = codes "swapdirty"
situation_word situations.LockedClean = codes "lockedclean"
situation_word situations.LockedFile = codes "lockedfile"
situation_word situations.LockedAnon = codes "lockedanon"

-- what came of a memory failure
abbrev pub outcome_word : Outcome → List ℕ
outcome_word outcomes.Recovered = codes "recovered"
outcome_word outcomes.Delayed = codes "delayed"
outcome_word outcomes.Ignored = codes "ignored"

-- what a memory failure came from: a bank's event, or a command
abbrev pub origin_word : Bool → List ℕ
origin_word true = codes "hw"
origin_word false = codes "sw"

-- what was done about an event
abbrev pub acted_word : Acted → List ℕ
acted_word acts.None = codes "none"
acted_word acts.Keep = codes "keep"
acted_word acts.Deferred = codes "deferred"
acted_word acts.Logged = codes "logged"
acted_word acts.Recovered = codes "recovered"
acted_word acts.Delayed = codes "delayed"
acted_word acts.Ignored = codes "ignored"
acted_word acts.Already = codes "already"
acted_word acts.Outside = codes "outside"
acted_word acts.Stop = codes "stop"
acted_word acts.Panic = codes "panic"
acted_word acts.Held = codes "held"

-- what the machine check of a guest did: it stopped the guest, or its address is bad
abbrev pub guest_word : Bool → List ℕ
guest_word true = codes "stop"
guest_word false = codes "bad"
