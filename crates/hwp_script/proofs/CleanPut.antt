-- When no reason applies to a line, kind by kind.
use Rattle.std.proofs.Common.{ℕ, Bool, true, false, ◌≡◌, ◌<◌, ◌≤◌, ◌+◌, List, [], length, inl, inr, arith, Option, None, Some}
use Rattle.std.specs.Prelude.{Contains, IsSome}
use Rattle.hwp_script_read.specs.hwp_script_words.Limits.{schedule_limit}
use Rattle.hwp_script_read.specs.hwp_geom.Limits.{command_limit, cpu_limit_of, frame_limit_of, page_limit_of, translation_limit_of}
use Rattle.hwp_script_read.specs.hwp_geom.declared.Version.{Version}
use Rattle.hwp_script_read.specs.Context.{version_in, cpus_in, kernel_in, recovery_in, early_in, lists_in, commands_in, go_in}
use Rattle.hwp_script_read.specs.Reasons.{Applies, IsMisplaced, IsClean, top_cpu}
use Rattle.hwp_script_read.specs.hwp_script_lines.declared.Command.{Command}
use Rattle.hwp_script_read.specs.hwp_script_lines.declared.Backing.{Backing}
use Rattle.hwp_script_read.specs.hwp_script_lines.declared.Go.{Go}
use Rattle.hwp_script_read.specs.hwp_script_lines.declared.ScriptLine.{ScriptLine}
use Rattle.hwp_script_read.specs.hwp_script_lines.declared.ScriptLine.TheVariants as forms
use Rattle.hwp_script_read.specs.declared.Why.{Why}
use Rattle.hwp_script_read.specs.declared.Why.TheVariants as whys
use Rattle.hwp_script_read.proofs.CleanLaws.{IsPlaced, IsCpusClean, IsFramesClean, IsKernelClean, IsRecoveryClean, IsEarlyClean, IsFileClean, IsProcClean, IsThreadClean, IsPageClean, IsTransClean, IsGuestClean, IsCowClean, IsCpuClean, IsCommandClean, IsScheduleClean}
use Rattle.hwp_script_read.proofs.TwinLaws.{clash}

not_misplaced : {above : List ScriptLine} {g : ℕ} → IsPlaced above g → IsMisplaced above g → ⊥
not_misplaced h (inl e) = omega (arith, h.late, e)
not_misplaced h (inr (inl e)) = omega (arith, h.some_cpu, e)
not_misplaced h (inr (inr e)) = omega (arith, h.some_frame, e)

no_header : (v : Version) (w : Why) → Applies [] (forms.Header v) w → ⊥
no_header v whys.UnknownWord e = omega (arith, e)
no_header v w e = e

pub put_header : (v : Version) → IsClean [] (forms.Header v)
put_header v = record { none = no_header v }

no_cpus : {above : List ScriptLine} {n : ℕ} → 0 < length above → IsCpusClean above n → (w : Why) → Applies above (forms.Cpus n) w → ⊥
no_cpus l h whys.BadHeader e = omega (arith, l, e)
no_cpus l h whys.OverLimit (inl e) = omega (arith, h.some, e)
no_cpus {above} {n} l h whys.OverLimit (inr e) = let big : cpu_limit_of (version_in above) < n = e in omega (arith, h.few, big)
no_cpus l h whys.Twice e = omega (arith, h.first, e)
no_cpus l h whys.WrongPlace e = omega (arith, h.late, e)
no_cpus l h w e = e

pub put_cpus : {above : List ScriptLine} {n : ℕ} → 0 < length above → IsCpusClean above n → IsClean above (forms.Cpus n)
put_cpus l h = record { none = no_cpus l h }

no_frames : {above : List ScriptLine} {n : ℕ} → 0 < length above → IsFramesClean above n → 0 < cpus_in above → (w : Why) → Applies above (forms.Frames n) w → ⊥
no_frames l h k whys.BadHeader e = omega (arith, l, e)
no_frames l h k whys.OverLimit (inl e) = omega (arith, h.some, e)
no_frames {above} {n} l h k whys.OverLimit (inr e) = let big : frame_limit_of (version_in above) < n = e in omega (arith, h.few, big)
no_frames l h k whys.Twice e = omega (arith, h.first, e)
no_frames l h k whys.WrongPlace (inl e) = omega (arith, h.late, e)
no_frames l h k whys.WrongPlace (inr e) = omega (arith, k, e)
no_frames l h k w e = e

pub put_frames : {above : List ScriptLine} {n : ℕ} → 0 < length above → IsFramesClean above n → 0 < cpus_in above → IsClean above (forms.Frames n)
put_frames l h k = record { none = no_frames l h k }

no_kernel : {above : List ScriptLine} {n : ℕ} → 0 < length above → IsKernelClean above n → (Contains (kernel_in above) n → ⊥) → (w : Why)
    → Applies above (forms.Kernel n) w → ⊥
no_kernel l h k whys.BadHeader e = omega (arith, l, e)
no_kernel {above} {n} l h k whys.OverLimit e = let big : frame_limit_of (version_in above) ≤ n = e in omega (arith, h.low, big)
no_kernel l h k whys.Undeclared e = omega (arith, h.declared, e)
no_kernel l h k whys.Twice e = k e
no_kernel l h k whys.WrongPlace e = not_misplaced h.placed e
no_kernel l h k w e = e

pub put_kernel : {above : List ScriptLine} {n : ℕ} → 0 < length above → IsKernelClean above n → (Contains (kernel_in above) n → ⊥) → IsClean above (forms.Kernel n)
put_kernel l h k = record { none = no_kernel l h k }

no_some : {A : Type 0} (o : Option A) → o ≡ None → IsSome o → ⊥
no_some None e h = cc
no_some (Some x) e h = cc

no_recovery : {above : List ScriptLine} {b : ℕ} → 0 < length above → IsRecoveryClean above → b ≤ 1 → (w : Why) → Applies above (forms.Recovery b) w → ⊥
no_recovery l h k whys.BadHeader e = omega (arith, l, e)
no_recovery l h k whys.OverLimit e = omega (arith, k, e)
no_recovery {above} l h k whys.Twice e = no_some (recovery_in above) h.first e
no_recovery l h k whys.WrongPlace e = not_misplaced h.placed e
no_recovery l h k w e = e

pub put_recovery : {above : List ScriptLine} {b : ℕ} → 0 < length above → IsRecoveryClean above → b ≤ 1 → IsClean above (forms.Recovery b)
put_recovery l h k = record { none = no_recovery l h k }

no_early : {above : List ScriptLine} {b : ℕ} → 0 < length above → IsEarlyClean above → b ≤ 1 → (w : Why) → Applies above (forms.Early b) w → ⊥
no_early l h k whys.BadHeader e = omega (arith, l, e)
no_early l h k whys.OverLimit e = omega (arith, k, e)
no_early {above} l h k whys.Twice e = no_some (early_in above) h.first e
no_early l h k whys.WrongPlace e = not_misplaced h.placed e
no_early l h k w e = e

pub put_early : {above : List ScriptLine} {b : ℕ} → 0 < length above → IsEarlyClean above → b ≤ 1 → IsClean above (forms.Early b)
put_early l h k = record { none = no_early l h k }

no_file : {above : List ScriptLine} {n : ℕ} → 0 < length above → IsFileClean above n → (w : Why) → Applies above (forms.File n) w → ⊥
no_file l h whys.BadHeader e = omega (arith, l, e)
no_file {above} {n} l h whys.OverLimit e = let big : 16 ≤ n = e in omega (arith, h.few, big)
no_file l h whys.Twice e = omega (arith, h.next, e)
no_file l h whys.WrongPlace (inl e) = not_misplaced h.placed e
no_file l h whys.WrongPlace (inr e) = omega (arith, h.next, e)
no_file l h w e = e

pub put_file : {above : List ScriptLine} {n : ℕ} → 0 < length above → IsFileClean above n → IsClean above (forms.File n)
put_file l h = record { none = no_file l h }

no_proc : {above : List ScriptLine} {n : ℕ} → 0 < length above → IsProcClean above n → (w : Why) → Applies above (forms.Proc n) w → ⊥
no_proc l h whys.BadHeader e = omega (arith, l, e)
no_proc {above} {n} l h whys.OverLimit e = let big : 16 ≤ n = e in omega (arith, h.few, big)
no_proc l h whys.Twice e = omega (arith, h.next, e)
no_proc l h whys.WrongPlace (inl e) = not_misplaced h.placed e
no_proc l h whys.WrongPlace (inr e) = omega (arith, h.next, e)
no_proc l h w e = e

pub put_proc : {above : List ScriptLine} {n : ℕ} → 0 < length above → IsProcClean above n → IsClean above (forms.Proc n)
put_proc l h = record { none = no_proc l h }

no_thread : {above : List ScriptLine} {t p c : ℕ} (b : Bool) → 0 < length above → IsThreadClean above t p c → (w : Why) → Applies above (forms.Thread t p c b) w → ⊥
no_thread b l h whys.BadHeader e = omega (arith, l, e)
no_thread {above} {t} b l h whys.OverLimit (inl e) = let big : 32 ≤ t = e in omega (arith, h.few, big)
no_thread {above} {t} {p} b l h whys.OverLimit (inr (inl e)) = let big : 16 ≤ p = e in omega (arith, h.low_process, big)
no_thread {above} {t} {p} {c} b l h whys.OverLimit (inr (inr e)) = let big : cpu_limit_of (version_in above) ≤ c = e in omega (arith, h.low_cpu, big)
no_thread b l h whys.Undeclared (inl e) = omega (arith, h.process, e)
no_thread b l h whys.Undeclared (inr e) = omega (arith, h.cpu, e)
no_thread b l h whys.Twice e = omega (arith, h.next, e)
no_thread b l h whys.WrongPlace (inl e) = not_misplaced h.placed e
no_thread b l h whys.WrongPlace (inr e) = omega (arith, h.next, e)
no_thread b l h w e = e

pub put_thread : {above : List ScriptLine} {t p c : ℕ} (b : Bool) → 0 < length above → IsThreadClean above t p c → IsClean above (forms.Thread t p c b)
put_thread b l h = record { none = no_thread b l h }

lock_differs : (locked : Bool) → locked ≡ false → locked ≡ true → ⊥
lock_differs locked unlocked is_locked = cc

no_page : {above : List ScriptLine} {q : ℕ} {b : Backing} {locked : Bool} → 0 < length above → IsPageClean above q b locked → (w : Why)
    → Applies above (forms.Page q b locked) w → ⊥
no_page l h whys.BadHeader e = omega (arith, l, e)
no_page {locked = locked} l h whys.UnknownWord e = lock_differs locked (h.older e.0) e.1
no_page {above} {q} l h whys.OverLimit (inl e) = let big : page_limit_of (version_in above) ≤ q = e in omega (arith, h.few, big)
no_page l h whys.OverLimit (inr e) = h.low e
no_page l h whys.Undeclared e = h.backed e
no_page l h whys.Twice e = omega (arith, h.next, e)
no_page l h whys.WrongPlace (inl e) = not_misplaced h.placed e
no_page l h whys.WrongPlace (inr e) = omega (arith, h.next, e)
no_page l h w e = e

pub put_page : {above : List ScriptLine} {q : ℕ} {b : Backing} {locked : Bool} → 0 < length above → IsPageClean above q b locked → IsClean above (forms.Page q b locked)
put_page l h = record { none = no_page l h }

no_trans : {above : List ScriptLine} {v p q : ℕ} → 0 < length above → IsTransClean above v p q → (w : Why) → Applies above (forms.Trans v p q) w → ⊥
no_trans l h whys.BadHeader e = omega (arith, l, e)
no_trans {above} {v} l h whys.OverLimit (inl e) = let big : translation_limit_of (version_in above) ≤ v = e in omega (arith, h.few, big)
no_trans {above} {v} {p} l h whys.OverLimit (inr (inl e)) = let big : 16 ≤ p = e in omega (arith, h.low_process, big)
no_trans {above} {v} {p} {q} l h whys.OverLimit (inr (inr e)) = let big : page_limit_of (version_in above) ≤ q = e in omega (arith, h.low_page, big)
no_trans l h whys.Undeclared (inl e) = omega (arith, h.process, e)
no_trans l h whys.Undeclared (inr e) = omega (arith, h.page, e)
no_trans l h whys.Twice e = omega (arith, h.next, e)
no_trans l h whys.WrongPlace (inl e) = not_misplaced h.placed e
no_trans l h whys.WrongPlace (inr e) = omega (arith, h.next, e)
no_trans l h w e = e

pub put_trans : {above : List ScriptLine} {v p q : ℕ} → 0 < length above → IsTransClean above v p q → IsClean above (forms.Trans v p q)
put_trans l h = record { none = no_trans l h }

no_guest : {above : List ScriptLine} {p : ℕ} → 0 < length above → IsGuestClean above p → (w : Why) → Applies above (forms.Guest p) w → ⊥
no_guest l h whys.BadHeader e = omega (arith, l, e)
no_guest l h whys.UnknownWord e = h.newer e
no_guest {above} {p} l h whys.OverLimit e = let big : 16 ≤ p = e in omega (arith, h.few, big)
no_guest l h whys.Undeclared e = omega (arith, h.declared, e)
no_guest l h whys.Twice e = clash _ e h.fresh
no_guest l h whys.WrongPlace (inl e) = not_misplaced h.placed e
no_guest l h whys.WrongPlace (inr e) = clash _ e h.fit
no_guest l h w e = e

pub put_guest : {above : List ScriptLine} {p : ℕ} → 0 < length above → IsGuestClean above p → IsClean above (forms.Guest p)
put_guest l h = record { none = no_guest l h }

no_cow : {above : List ScriptLine} {v t : ℕ} → 0 < length above → IsCowClean above v t → (w : Why) → Applies above (forms.Cow v t) w → ⊥
no_cow l h whys.BadHeader e = omega (arith, l, e)
no_cow l h whys.UnknownWord e = h.newer e
no_cow {above} {v} l h whys.OverLimit (inl e) = let big : translation_limit_of (version_in above) ≤ v = e in omega (arith, h.low, big)
no_cow {above} {v} {t} l h whys.OverLimit (inr e) = let big : translation_limit_of (version_in above) ≤ t = e in omega (arith, h.low_twin, big)
no_cow l h whys.Undeclared e = h.paired e
no_cow l h whys.Twice (inl e) = clash _ e h.free
no_cow l h whys.Twice (inr e) = clash _ e h.fresh
no_cow l h whys.WrongPlace (inl e) = not_misplaced h.placed e
no_cow l h whys.WrongPlace (inr (inl e)) = clash _ e h.no_twin
no_cow l h whys.WrongPlace (inr (inr (inl e))) = clash _ e h.last
no_cow l h whys.WrongPlace (inr (inr (inr e))) = clash _ e h.alone
no_cow l h w e = e

pub put_cow : {above : List ScriptLine} {v t : ℕ} → 0 < length above → IsCowClean above v t → IsClean above (forms.Cow v t)
put_cow l h = record { none = no_cow l h }

no_cpu : {above : List ScriptLine} {c : ℕ} → 0 < length above → IsCpuClean above c → (Contains (lists_in above) c → ⊥) → (w : Why) → Applies above (forms.Cpu c) w → ⊥
no_cpu l h k whys.BadHeader e = omega (arith, l, e)
no_cpu {above} {c} l h k whys.OverLimit e = let big : cpu_limit_of (version_in above) ≤ c = e in omega (arith, h.low, big)
no_cpu l h k whys.Undeclared e = omega (arith, h.cpu, e)
no_cpu l h k whys.Twice e = k e
no_cpu l h k whys.WrongPlace e = not_misplaced h.placed e
no_cpu l h k w e = e

pub put_cpu : {above : List ScriptLine} {c : ℕ} → 0 < length above → IsCpuClean above c → (Contains (lists_in above) c → ⊥) → IsClean above (forms.Cpu c)
put_cpu l h k = record { none = no_cpu l h k }

no_command : {above : List ScriptLine} {c : Command} → 0 < length above → IsCommandClean above c → (w : Why) → Applies above (forms.Command c) w → ⊥
no_command l h whys.BadHeader e = omega (arith, l, e)
no_command l h whys.UnknownWord e = h.older e.0 e.1
no_command {above} l h whys.OverLimit (inl e) = let big : command_limit ≤ commands_in above = e in omega (arith, h.few, big)
no_command l h whys.OverLimit (inr e) = h.low e
no_command l h whys.Undeclared e = h.named e
no_command l h whys.WrongPlace (inl e) = not_misplaced h.placed e
no_command l h whys.WrongPlace (inr (inl e)) = h.here e
no_command l h whys.WrongPlace (inr (inr (inl e))) = clash _ e h.no_twin
no_command l h whys.WrongPlace (inr (inr (inr (inl e)))) = h.fork e
no_command l h whys.WrongPlace (inr (inr (inr (inr e)))) = clash _ e h.once
no_command l h w e = e

pub put_command : {above : List ScriptLine} {c : Command} → 0 < length above → IsCommandClean above c → IsClean above (forms.Command c)
put_command l h = record { none = no_command l h }

no_schedule : {above : List ScriptLine} {ws : List Go} → 0 < length above → IsScheduleClean above ws → (w : Why) → Applies above (forms.Schedule ws) w → ⊥
no_schedule l h whys.BadHeader e = omega (arith, l, e)
no_schedule {above} {ws} l h whys.OverLimit (inl e) = let big : schedule_limit < length (go_in above) + length ws = e in omega (arith, h.few, big)
no_schedule {above} {ws} l h whys.OverLimit (inr e) = let big : cpu_limit_of (version_in above) ≤ top_cpu ws = e in omega (arith, h.low, big)
no_schedule l h whys.Undeclared e = omega (arith, h.cpus, e)
no_schedule l h whys.WrongPlace e = not_misplaced h.placed e
no_schedule l h w e = e

pub put_schedule : {above : List ScriptLine} {ws : List Go} → 0 < length above → IsScheduleClean above ws → IsClean above (forms.Schedule ws)
put_schedule l h = record { none = no_schedule l h }

no_end : {above : List ScriptLine} → 0 < length above → IsPlaced above 14 → (w : Why) → Applies above forms.End w → ⊥
no_end l h whys.BadHeader e = omega (arith, l, e)
no_end l h whys.WrongPlace e = not_misplaced h e
no_end l h w e = e

pub put_end : {above : List ScriptLine} → 0 < length above → IsPlaced above 14 → IsClean above forms.End
put_end l h = record { none = no_end l h }
