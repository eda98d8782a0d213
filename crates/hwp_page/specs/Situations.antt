-- What each situation of a memory failure brings.
use Rattle.std.specs.Prelude.{Bool, true, false}
use Rattle.hwp_page.specs.declared.situation.Situation.{Situation}
use Rattle.hwp_page.specs.declared.situation.Situation.TheVariants.{Free, Kernel, FileClean, FileDirty, AnonOnly, SwapClean, SwapDirty, LockedClean, LockedFile, LockedAnon}
use Rattle.hwp_page.specs.declared.situation.Outcome.{Outcome}
use Rattle.hwp_page.specs.declared.situation.Outcome.TheVariants.{Recovered, Delayed, Ignored}

-- whether processes are signalled at all
abbrev pub is_signalling : Situation → Bool
is_signalling Free = false
is_signalling Kernel = false
is_signalling FileClean = false
is_signalling FileDirty = true
is_signalling AnonOnly = true
is_signalling SwapClean = false
is_signalling SwapDirty = false
is_signalling LockedClean = false
is_signalling LockedFile = true
is_signalling LockedAnon = true

-- whether every process that maps the page is told, also where none of its threads is early
abbrev pub always_signals : Situation → Bool
always_signals Free = false
always_signals Kernel = false
always_signals FileClean = false
always_signals FileDirty = false
always_signals AnonOnly = false
always_signals SwapClean = false
always_signals SwapDirty = false
always_signals LockedClean = false
always_signals LockedFile = true
always_signals LockedAnon = true

-- what comes of the failure
abbrev pub outcome_of : Situation → Outcome
outcome_of Free = Recovered
outcome_of Kernel = Ignored
outcome_of FileClean = Recovered
outcome_of FileDirty = Recovered
outcome_of AnonOnly = Recovered
outcome_of SwapClean = Recovered
outcome_of SwapDirty = Delayed
outcome_of LockedClean = Recovered
outcome_of LockedFile = Recovered
outcome_of LockedAnon = Recovered
