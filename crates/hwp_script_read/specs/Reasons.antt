-- The reasons to refuse a line, after the lines above it.
use Rattle.std.specs.Prelude.{◌≡◌, ◌≢◌, ℕ, true, ◌+◌, ◌<◌, ◌≤◌, ◌⊎◌, max, length, Contains, IsSome, IsSomeAnd, slice_get, option_and_then, Option, Some, None, List, [], ◌∷◌, take}
use Rattle.hwp_script_lines.specs.hwp_geom.Layout.{has_twin, is_guest, is_twin}
use Rattle.hwp_script_lines.specs.hwp_geom.declared.ThreadDecl.{ThreadDecl}
use Rattle.hwp_script_lines.specs.hwp_geom.declared.TransDecl.{TransDecl}
use Rattle.hwp_script_lines.specs.hwp_geom.declared.PageKind.{PageKind}
use Rattle.hwp_script_lines.specs.hwp_geom.declared.PageKind.TheVariants as kinds
use Rattle.hwp_script_lines.specs.hwp_geom.Limits.{file_limit, process_limit, thread_limit, command_limit, cpu_limit_of, frame_limit_of, page_limit_of, translation_limit_of}
use Rattle.hwp_script_lines.specs.hwp_geom.declared.Version.{Version}
use Rattle.hwp_script_lines.specs.hwp_geom.declared.Version.TheVariants as versions
use Rattle.hwp_script_lines.specs.declared.ScriptLine.{ScriptLine}
use Rattle.hwp_script_lines.specs.declared.ScriptLine.TheVariants as forms
use Rattle.hwp_script_lines.specs.declared.Backing.{Backing}
use Rattle.hwp_script_lines.specs.declared.Backing.TheVariants as backings
use Rattle.hwp_script_lines.specs.declared.Go.{Go}
use Rattle.hwp_script_lines.specs.declared.Command.{Command}
use Rattle.hwp_script_lines.specs.declared.Command.TheVariants as commands
use Rattle.hwp_script_lines.specs.hwp_script_words.Commands.{IsNewer}
use Rattle.hwp_script_lines.specs.hwp_script_words.Limits.{schedule_limit}
use Rattle.hwp_script_read.specs.Context.{version_in, cpus_in, frames_in, kernel_in, recovery_in, early_in, files_in, procs_in, threads_in, pages_in, trans_in, names_in, lists_in, commands_in, go_in, place_in, process_of, slot_of, highest, is_again}
use Rattle.hwp_script_read.specs.Collects.{commands_of}
use Rattle.hwp_script_lines.specs.hwp_script_words.Forks.{actor, has_shared_page, is_wrong_fork, names_twin}
use Rattle.hwp_script_lines.specs.hwp_script_words.Guests.{cannot_be_guest}
use Rattle.hwp_script_read.specs.declared.why.Why.{Why}
use Rattle.hwp_script_read.specs.declared.why.Why.TheVariants as whys

-- a line of this group follows one of a higher group, or stands before the numbers of processors and frames
abbrev pub IsMisplaced : List ScriptLine → ℕ → Type 0
IsMisplaced above n = (n < highest above) ⊎ (cpus_in above ≡ 0) ⊎ (frames_in above ≡ 0)

-- a thread and a translation are not both declared, or are of two processes
abbrev pub IsForeign : Option ThreadDecl → Option TransDecl → Type 0
IsForeign (Some t) (Some v) = t.process.0 ≢ v.process.0
IsForeign t v = Unit {0}

-- not a page with a file behind it
abbrev pub IsNoFilePage : Option PageKind → Type 0
IsNoFilePage (Some (kinds.File n x)) = ⊥
IsNoFilePage q = Unit {0}

-- not a page with nothing behind it
abbrev pub IsNoAnonPage : Option PageKind → Type 0
IsNoAnonPage (Some kinds.Anon) = ⊥
IsNoAnonPage q = Unit {0}

-- a command names what is not declared above, or what is not of its kind
abbrev pub IsUndeclared : List ScriptLine → Command → Type 0
IsUndeclared above (commands.Load t v l) = IsForeign (slice_get (threads_in above) t.0) (slice_get (trans_in above) v.0)
IsUndeclared above (commands.Fetch t v l) = IsForeign (slice_get (threads_in above) t.0) (slice_get (trans_in above) v.0)
IsUndeclared above (commands.KLoad t v l) = IsForeign (slice_get (threads_in above) t.0) (slice_get (trans_in above) v.0)
IsUndeclared above (commands.Store t v l x) = IsForeign (slice_get (threads_in above) t.0) (slice_get (trans_in above) v.0)
IsUndeclared above (commands.Free v) = length (trans_in above) ≤ v.0
IsUndeclared above (commands.Drop q) = length (pages_in above) ≤ q.0
IsUndeclared above (commands.Sync q) = IsNoFilePage (slice_get (pages_in above) q.0)
IsUndeclared above (commands.Out q) = IsNoAnonPage (slice_get (pages_in above) q.0)
IsUndeclared above (commands.Fsync n) = files_in above ≤ n.0
IsUndeclared above (commands.Open n) = files_in above ≤ n.0
IsUndeclared above (commands.Prctl t args) = length (threads_in above) ≤ t.0
IsUndeclared above (commands.Bad f l) = frames_in above ≤ f.0
IsUndeclared above (commands.Weak f l) = frames_in above ≤ f.0
IsUndeclared above (commands.Scrub a b) = (frames_in above ≤ a.0) ⊎ (frames_in above ≤ b.0)
IsUndeclared above (commands.Log s a m) = ⊥
IsUndeclared above (commands.RaiseUser t r e) = length (threads_in above) ≤ t.0
IsUndeclared above (commands.RaiseKernel r e) = ⊥
IsUndeclared above commands.RaiseNested = ⊥
IsUndeclared above (commands.Inject f) = frames_in above ≤ f.0
IsUndeclared above (commands.Soft f) = frames_in above ≤ f.0
IsUndeclared above (commands.Unpoison f) = frames_in above ≤ f.0
IsUndeclared above (commands.Watch t w) = ⊥
IsUndeclared above (commands.Fork t p) = (length (threads_in above) ≤ t.0) ⊎ (procs_in above ≤ p.0)

-- two translations are not both declared, are of two processes, or don't lead to two pages that have nothing behind them
abbrev pub IsNoPair : List PageKind → Option TransDecl → Option TransDecl → Type 0
IsNoPair pages (Some v) (Some w) =
    (v.process.0 ≢ w.process.0) ⊎ (v.page.0 ≡ w.page.0) ⊎ IsNoAnonPage (slice_get pages v.page.0) ⊎ IsNoAnonPage (slice_get pages w.page.0)
IsNoPair pages v w = Unit {0}

-- a translation that is to have a twin is one, or its twin has one, or another translation leads to the twin's page
abbrev pub IsNoTwin : List ScriptLine → ℕ → ℕ → Type 0
IsNoTwin above v w = (is_twin (names_in above) (slot_of v) ≡ true) ⊎ (has_twin (names_in above) (slot_of w) ≡ true) ⊎ (has_shared_page (names_in above) (slot_of w) ≡ true)

-- a command stands in no list, or in that of another processor than its thread's
abbrev pub IsElsewhere : Option ℕ → Option ThreadDecl → Type 0
IsElsewhere None t = Unit {0}
IsElsewhere (Some c) (Some t) = t.cpu.0 ≢ c
IsElsewhere (Some c) None = ⊥

-- a command names a twin as its translation, or is a fork that may not stand in its list here, or of a process that was forked before
abbrev pub IsMisused : List ScriptLine → Command → Type 0
IsMisused above c =
    (names_twin (names_in above) c ≡ true)
    ⊎ IsSomeAnd (place_in above) (λ (cpu : ℕ). is_wrong_fork (names_in above) cpu (commands_of above cpu) c ≡ true)
    ⊎ (is_again above c ≡ true)

-- the number of the file behind a page is too high
abbrev pub IsBackingOver : Backing → Type 0
IsBackingOver backings.Anon = ⊥
IsBackingOver (backings.File n x) = file_limit ≤ n

-- the file behind a page is not declared above
abbrev pub IsBackingUndeclared : List ScriptLine → Backing → Type 0
IsBackingUndeclared above backings.Anon = ⊥
IsBackingUndeclared above (backings.File n x) = files_in above ≤ n

-- the highest processor that words of a schedule name
abbrev pub top_cpu : List Go → ℕ
top_cpu [] = 0
top_cpu (w ∷ ws) = max w.cpu.0 (top_cpu ws)

-- a command names what there can't be in the version; its lines, threads and files are within limits that all versions have
abbrev pub IsBeyond : Version → Command → Type 0
IsBeyond version (commands.Load t v l) = translation_limit_of version ≤ v.0
IsBeyond version (commands.Fetch t v l) = translation_limit_of version ≤ v.0
IsBeyond version (commands.KLoad t v l) = translation_limit_of version ≤ v.0
IsBeyond version (commands.Store t v l x) = translation_limit_of version ≤ v.0
IsBeyond version (commands.Free v) = translation_limit_of version ≤ v.0
IsBeyond version (commands.Drop q) = page_limit_of version ≤ q.0
IsBeyond version (commands.Sync q) = page_limit_of version ≤ q.0
IsBeyond version (commands.Out q) = page_limit_of version ≤ q.0
IsBeyond version (commands.Bad f l) = frame_limit_of version ≤ f.0
IsBeyond version (commands.Weak f l) = frame_limit_of version ≤ f.0
IsBeyond version (commands.Scrub a b) = frame_limit_of version ≤ b.0
IsBeyond version (commands.Inject f) = frame_limit_of version ≤ f.0
IsBeyond version (commands.Soft f) = frame_limit_of version ≤ f.0
IsBeyond version (commands.Unpoison f) = frame_limit_of version ≤ f.0
IsBeyond version c = ⊥

-- the reason applies to the line, after those above it (a line below `end`, also a second `end`, is in the wrong place)
abbrev pub Applies : List ScriptLine → ScriptLine → Why → Type 0
Applies above (forms.Header v) whys.UnknownWord = 0 < length above
Applies above (forms.Header v) w = ⊥
Applies above f whys.BadHeader = length above ≡ 0
Applies above (forms.Cpus n) whys.OverLimit = (n ≡ 0) ⊎ (cpu_limit_of (version_in above) < n)
Applies above (forms.Cpus n) whys.Twice = 0 < cpus_in above
Applies above (forms.Cpus n) whys.WrongPlace = 1 < highest above
Applies above (forms.Frames n) whys.OverLimit = (n ≡ 0) ⊎ (frame_limit_of (version_in above) < n)
Applies above (forms.Frames n) whys.Twice = 0 < frames_in above
Applies above (forms.Frames n) whys.WrongPlace = (2 < highest above) ⊎ (cpus_in above ≡ 0)
Applies above (forms.Kernel f) whys.OverLimit = frame_limit_of (version_in above) ≤ f
Applies above (forms.Kernel f) whys.Undeclared = frames_in above ≤ f
Applies above (forms.Kernel f) whys.Twice = Contains (kernel_in above) f
Applies above (forms.Kernel f) whys.WrongPlace = IsMisplaced above 3
Applies above (forms.Recovery b) whys.OverLimit = 1 < b
Applies above (forms.Recovery b) whys.Twice = IsSome (recovery_in above)
Applies above (forms.Recovery b) whys.WrongPlace = IsMisplaced above 4
Applies above (forms.Early b) whys.OverLimit = 1 < b
Applies above (forms.Early b) whys.Twice = IsSome (early_in above)
Applies above (forms.Early b) whys.WrongPlace = IsMisplaced above 5
Applies above (forms.File n) whys.OverLimit = file_limit ≤ n
Applies above (forms.File n) whys.Twice = n < files_in above
Applies above (forms.File n) whys.WrongPlace = IsMisplaced above 6 ⊎ (files_in above < n)
Applies above (forms.Proc p) whys.OverLimit = process_limit ≤ p
Applies above (forms.Proc p) whys.Twice = p < procs_in above
Applies above (forms.Proc p) whys.WrongPlace = IsMisplaced above 7 ⊎ (procs_in above < p)
Applies above (forms.Thread t p c h) whys.OverLimit = (thread_limit ≤ t) ⊎ (process_limit ≤ p) ⊎ (cpu_limit_of (version_in above) ≤ c)
Applies above (forms.Thread t p c h) whys.Undeclared = (procs_in above ≤ p) ⊎ (cpus_in above ≤ c)
Applies above (forms.Thread t p c h) whys.Twice = t < length (threads_in above)
Applies above (forms.Thread t p c h) whys.WrongPlace = IsMisplaced above 8 ⊎ (length (threads_in above) < t)
Applies above (forms.Guest p) whys.UnknownWord = version_in above ≡ versions.One
Applies above (forms.Guest p) whys.OverLimit = process_limit ≤ p
Applies above (forms.Guest p) whys.Undeclared = procs_in above ≤ p
Applies above (forms.Guest p) whys.Twice = is_guest (names_in above) (process_of p) ≡ true
Applies above (forms.Guest p) whys.WrongPlace = IsMisplaced above 9 ⊎ (cannot_be_guest (threads_in above) p ≡ true)
Applies above (forms.Page q b locked) whys.UnknownWord = (version_in above ≡ versions.One) × (locked ≡ true)
Applies above (forms.Page q b locked) whys.OverLimit = (page_limit_of (version_in above) ≤ q) ⊎ IsBackingOver b
Applies above (forms.Page q b locked) whys.Undeclared = IsBackingUndeclared above b
Applies above (forms.Page q b locked) whys.Twice = q < length (pages_in above)
Applies above (forms.Page q b locked) whys.WrongPlace = IsMisplaced above 10 ⊎ (length (pages_in above) < q)
Applies above (forms.Trans v p q) whys.OverLimit = (translation_limit_of (version_in above) ≤ v) ⊎ (process_limit ≤ p) ⊎ (page_limit_of (version_in above) ≤ q)
Applies above (forms.Trans v p q) whys.Undeclared = (procs_in above ≤ p) ⊎ (length (pages_in above) ≤ q)
Applies above (forms.Trans v p q) whys.Twice = v < length (trans_in above)
Applies above (forms.Trans v p q) whys.WrongPlace = IsMisplaced above 11 ⊎ (length (trans_in above) < v)
Applies above (forms.Cow v w) whys.UnknownWord = version_in above ≡ versions.One
Applies above (forms.Cow v w) whys.OverLimit = (translation_limit_of (version_in above) ≤ v) ⊎ (translation_limit_of (version_in above) ≤ w)
Applies above (forms.Cow v w) whys.Undeclared = IsNoPair (pages_in above) (slice_get (trans_in above) v) (slice_get (trans_in above) w)
Applies above (forms.Cow v w) whys.Twice = (has_twin (names_in above) (slot_of v) ≡ true) ⊎ (is_twin (names_in above) (slot_of w) ≡ true)
Applies above (forms.Cow v w) whys.WrongPlace = IsMisplaced above 12 ⊎ IsNoTwin above v w
Applies above (forms.Cpu c) whys.OverLimit = cpu_limit_of (version_in above) ≤ c
Applies above (forms.Cpu c) whys.Undeclared = cpus_in above ≤ c
Applies above (forms.Cpu c) whys.Twice = Contains (lists_in above) c
Applies above (forms.Cpu c) whys.WrongPlace = IsMisplaced above 13
Applies above (forms.Command c) whys.UnknownWord = (version_in above ≡ versions.One) × IsNewer c
Applies above (forms.Command c) whys.OverLimit = (command_limit ≤ commands_in above) ⊎ IsBeyond (version_in above) c
Applies above (forms.Command c) whys.Undeclared = IsUndeclared above c
Applies above (forms.Command c) whys.WrongPlace =
    IsMisplaced above 13 ⊎ IsElsewhere (place_in above) (option_and_then (λ t. slice_get (threads_in above) t) (actor c)) ⊎ IsMisused above c
Applies above (forms.Schedule ws) whys.OverLimit = (schedule_limit < length (go_in above) + length ws) ⊎ (cpu_limit_of (version_in above) ≤ top_cpu ws)
Applies above (forms.Schedule ws) whys.Undeclared = cpus_in above ≤ top_cpu ws
Applies above (forms.Schedule ws) whys.WrongPlace = IsMisplaced above 14
Applies above forms.End whys.WrongPlace = IsMisplaced above 14
Applies above f w = ⊥

-- no reason applies to the line
pub record IsClean (above : List ScriptLine) (f : ScriptLine) : Type 0 where
  pub none : (w : Why) → Applies above f w → ⊥

-- the number of a reason: the lowest that applies to a line is named
abbrev pub number : Why → ℕ
number whys.BadHeader = 1
number whys.UnknownWord = 2
number whys.BadNumber = 3
number whys.OverLimit = 4
number whys.Undeclared = 5
number whys.Twice = 6
number whys.WrongPlace = 7
number whys.NoEnd = 8
number whys.TooLong = 9

-- the reason applies to the line, and no lower one does
pub record IsLowest (above : List ScriptLine) (f : ScriptLine) (w : Why) : Type 0 where
  pub applies : Applies above f w
  pub lowest : (v : Why) → Applies above f v → number w ≤ number v

-- each line is clean after those above it
pub record AreClean (fs : List ScriptLine) : Type 0 where
  pub each : (n : ℕ) (f : ScriptLine) → slice_get fs n ≡ Some f → IsClean (take n fs) f
