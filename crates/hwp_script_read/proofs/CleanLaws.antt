-- What it says of a line that no reason applies to it, kind by kind.
use Rattle.std.proofs.Common.{ℕ, Bool, true, false, ◌≡◌, ◌<◌, ◌≤◌, List, [], ◌∷◌, length, inl, inr, zero, suc, refl, arith, ap, rules, Option, None, Some, ◌+◌}
use Rattle.std.specs.Prelude.{slice_get, option_and_then, IsSome, IsSomeAnd}
use Rattle.std.proofs.lemmas.Bool.{false_from_ne_true}
use Rattle.hwp_script_lines.specs.hwp_geom.Layout.{has_twin, is_guest, is_twin}
use Rattle.hwp_script_lines.specs.hwp_geom.declared.PageKind.{PageKind}
use Rattle.hwp_script_lines.specs.hwp_geom.declared.TransDecl.{TransDecl}
use Rattle.hwp_script_lines.specs.hwp_script_words.Limits.{schedule_limit}
use Rattle.hwp_script_lines.specs.hwp_geom.Limits.{command_limit, cpu_limit, frame_limit, page_limit, translation_limit, cpu_limit_of, frame_limit_of, page_limit_of, translation_limit_of}
use Rattle.hwp_script_lines.specs.hwp_geom.declared.Version.{Version}
use Rattle.hwp_script_lines.specs.hwp_geom.declared.Version.TheVariants as versions
use Rattle.hwp_script_read.specs.Context.{version_in, cpus_in, frames_in, recovery_in, early_in, files_in, procs_in, threads_in, pages_in, trans_in, names_in, process_of, slot_of, commands_in, go_in, place_in, group, highest, is_again}
use Rattle.hwp_script_read.specs.Collects.{commands_of}
use Rattle.hwp_script_lines.specs.hwp_script_words.Forks.{actor, has_shared_page, is_wrong_fork, names_twin}
use Rattle.hwp_script_lines.specs.hwp_script_words.Guests.{cannot_be_guest}
use Rattle.hwp_script_read.specs.Reasons.{IsMisplaced, IsElsewhere, IsBackingOver, IsBackingUndeclared, IsUndeclared, IsNoPair, IsBeyond, top_cpu, IsClean}
use Rattle.hwp_script_lines.specs.hwp_script_words.Commands.{IsNewer}
use Rattle.hwp_script_lines.specs.declared.Backing.{Backing}
use Rattle.hwp_script_lines.specs.declared.Go.{Go}
use Rattle.hwp_script_lines.specs.declared.Command.{Command}
use Rattle.hwp_script_lines.specs.declared.ScriptLine.{ScriptLine}
use Rattle.hwp_script_lines.specs.declared.ScriptLine.TheVariants as forms
use Rattle.hwp_script_read.specs.declared.why.Why.TheVariants as whys

-- a line of the group may stand here
pub record IsPlaced (above : List ScriptLine) (g : ℕ) : Type 0 where
  pub late : highest above ≤ g
  pub some_cpu : 0 < cpus_in above
  pub some_frame : 0 < frames_in above

placed : (above : List ScriptLine) (g : ℕ) → (IsMisplaced above g → ⊥) → IsPlaced above g
placed above g h =
    let late : g < highest above → ⊥ = λ e. h (inl e) in
    let cpu : cpus_in above ≡ 0 → ⊥ = λ e. h (inr (inl e)) in
    let frame : frames_in above ≡ 0 → ⊥ = λ e. h (inr (inr e)) in
    record { late = omega arith; some_cpu = omega arith; some_frame = omega arith }

-- the limits of a version are within those of all
pub cpu_most : (v : Version) → cpu_limit_of v ≤ cpu_limit
cpu_most versions.One = omega arith
cpu_most versions.Two = omega arith

pub frame_most : (v : Version) → frame_limit_of v ≤ frame_limit
frame_most versions.One = omega arith
frame_most versions.Two = omega arith

pub page_most : (v : Version) → page_limit_of v ≤ page_limit
page_most versions.One = omega arith
page_most versions.Two = omega arith

pub trans_most : (v : Version) → translation_limit_of v ≤ translation_limit
trans_most versions.One = omega arith
trans_most versions.Two = omega arith

-- the header is the first line
pub none_above : {above : List ScriptLine} {v : Version} → IsClean above (forms.Header v) → above ≡ []
none_above {above = []} h = refl
none_above {above = f ∷ above} h = absurd (h.none whys.UnknownWord (omega arith))

pub clean_header : (above : List ScriptLine) (v : Version) → IsClean above (forms.Header v) → highest above ≡ 0
clean_header above v h = ap highest (none_above h)

pub record IsCpusClean (above : List ScriptLine) (n : ℕ) : Type 0 where
  pub some : 0 < n
  pub few : n ≤ cpu_limit_of (version_in above)
  pub first : cpus_in above ≡ 0
  pub late : highest above ≤ 1

pub clean_cpus : {above : List ScriptLine} {n : ℕ} → IsClean above (forms.Cpus n) → IsCpusClean above n
clean_cpus {above} {n} h =
    let twice = h.none whys.Twice in
    let place = h.none whys.WrongPlace in
    let zero : n ≡ 0 → ⊥ = λ e. h.none whys.OverLimit (inl e) in
    let big : cpu_limit_of (version_in above) < n → ⊥ = λ e. h.none whys.OverLimit (inr e) in
    record { some = omega arith; few = omega arith; first = omega arith; late = omega arith }

pub record IsFramesClean (above : List ScriptLine) (n : ℕ) : Type 0 where
  pub some : 0 < n
  pub few : n ≤ frame_limit_of (version_in above)
  pub first : frames_in above ≡ 0
  pub late : highest above ≤ 2

pub clean_frames : {above : List ScriptLine} {n : ℕ} → IsClean above (forms.Frames n) → IsFramesClean above n
clean_frames {above} {n} h =
    let twice = h.none whys.Twice in
    let zero : n ≡ 0 → ⊥ = λ e. h.none whys.OverLimit (inl e) in
    let big : frame_limit_of (version_in above) < n → ⊥ = λ e. h.none whys.OverLimit (inr e) in
    let place : 2 < highest above → ⊥ = λ e. h.none whys.WrongPlace (inl e) in
    record { some = omega arith; few = omega arith; first = omega arith; late = omega arith }

pub record IsKernelClean (above : List ScriptLine) (f : ℕ) : Type 0 where
  pub placed : IsPlaced above 3
  pub declared : f < frames_in above
  pub low : f < frame_limit_of (version_in above)

pub clean_kernel : {above : List ScriptLine} {f : ℕ} → IsClean above (forms.Kernel f) → IsKernelClean above f
clean_kernel {above} {f} h =
    let over = h.none whys.OverLimit in
    let none = h.none whys.Undeclared in
    record { placed = placed above 3 (h.none whys.WrongPlace); declared = omega arith; low = omega arith }

no_some : {A : Type 0} (o : Option A) → (IsSome o → ⊥) → o ≡ None
no_some None h = refl
no_some (Some x) h = absurd (h (search rules))

pub record IsRecoveryClean (above : List ScriptLine) : Type 0 where
  pub placed : IsPlaced above 4
  pub first : recovery_in above ≡ None

pub clean_recovery : {above : List ScriptLine} {b : ℕ} → IsClean above (forms.Recovery b) → IsRecoveryClean above
clean_recovery {above} {b} h = record { placed = placed above 4 (h.none whys.WrongPlace); first = no_some (recovery_in above) (h.none whys.Twice) }

pub record IsEarlyClean (above : List ScriptLine) : Type 0 where
  pub placed : IsPlaced above 5
  pub first : early_in above ≡ None

pub clean_early : {above : List ScriptLine} {b : ℕ} → IsClean above (forms.Early b) → IsEarlyClean above
clean_early {above} {b} h = record { placed = placed above 5 (h.none whys.WrongPlace); first = no_some (early_in above) (h.none whys.Twice) }

pub record IsFileClean (above : List ScriptLine) (n : ℕ) : Type 0 where
  pub placed : IsPlaced above 6
  pub few : n < 16
  pub next : n ≡ files_in above

pub clean_file : {above : List ScriptLine} {n : ℕ} → IsClean above (forms.File n) → IsFileClean above n
clean_file {above} {n} h =
    let over = h.none whys.OverLimit in
    let twice = h.none whys.Twice in
    let gap : files_in above < n → ⊥ = λ e. h.none whys.WrongPlace (inr e) in
    record { placed = placed above 6 (λ e. h.none whys.WrongPlace (inl e)); few = omega arith; next = omega arith }

pub record IsProcClean (above : List ScriptLine) (p : ℕ) : Type 0 where
  pub placed : IsPlaced above 7
  pub few : p < 16
  pub next : p ≡ procs_in above

pub clean_proc : {above : List ScriptLine} {p : ℕ} → IsClean above (forms.Proc p) → IsProcClean above p
clean_proc {above} {p} h =
    let over = h.none whys.OverLimit in
    let twice = h.none whys.Twice in
    let gap : procs_in above < p → ⊥ = λ e. h.none whys.WrongPlace (inr e) in
    record { placed = placed above 7 (λ e. h.none whys.WrongPlace (inl e)); few = omega arith; next = omega arith }

pub record IsThreadClean (above : List ScriptLine) (t p c : ℕ) : Type 0 where
  pub placed : IsPlaced above 8
  pub few : t < 32
  pub next : t ≡ length (threads_in above)
  pub process : p < procs_in above
  pub low_process : p < 16
  pub cpu : c < cpus_in above
  pub low_cpu : c < cpu_limit_of (version_in above)

pub clean_thread : {above : List ScriptLine} {t p c : ℕ} {b : Bool} → IsClean above (forms.Thread t p c b) → IsThreadClean above t p c
clean_thread {above} {t} {p} {c} {b} h =
    let over_thread : 32 ≤ t → ⊥ = λ e. h.none whys.OverLimit (inl e) in
    let over_process : 16 ≤ p → ⊥ = λ e. h.none whys.OverLimit (inr (inl e)) in
    let over_cpu : cpu_limit_of (version_in above) ≤ c → ⊥ = λ e. h.none whys.OverLimit (inr (inr e)) in
    let no_process : procs_in above ≤ p → ⊥ = λ e. h.none whys.Undeclared (inl e) in
    let no_cpu : cpus_in above ≤ c → ⊥ = λ e. h.none whys.Undeclared (inr e) in
    let twice = h.none whys.Twice in
    let gap : length (threads_in above) < t → ⊥ = λ e. h.none whys.WrongPlace (inr e) in
    record {
      placed = placed above 8 (λ e. h.none whys.WrongPlace (inl e));
      few = omega arith;
      next = omega arith;
      process = omega arith;
      low_process = omega arith;
      cpu = omega arith;
      low_cpu = omega arith;
    }

pub record IsPageClean (above : List ScriptLine) (q : ℕ) (b : Backing) (locked : Bool) : Type 0 where
  pub placed : IsPlaced above 10
  pub older : version_in above ≡ versions.One → locked ≡ false
  pub few : q < page_limit_of (version_in above)
  pub next : q ≡ length (pages_in above)
  pub low : IsBackingOver b → ⊥
  pub backed : IsBackingUndeclared above b → ⊥

not_true : (b : Bool) → (b ≡ true → ⊥) → b ≡ false
not_true true h = absurd (h refl)
not_true false h = refl

pub clean_page : {above : List ScriptLine} {q : ℕ} {b : Backing} {locked : Bool} → IsClean above (forms.Page q b locked) → IsPageClean above q b locked
clean_page {above} {q} {b} {locked} h =
    let over : page_limit_of (version_in above) ≤ q → ⊥ = λ e. h.none whys.OverLimit (inl e) in
    let twice = h.none whys.Twice in
    let gap : length (pages_in above) < q → ⊥ = λ e. h.none whys.WrongPlace (inr e) in
    record {
      placed = placed above 10 (λ e. h.none whys.WrongPlace (inl e));
      older = λ one. not_true locked (λ e. h.none whys.UnknownWord (one, e));
      few = omega arith;
      next = omega arith;
      low = λ e. h.none whys.OverLimit (inr e);
      backed = h.none whys.Undeclared;
    }

pub record IsTransClean (above : List ScriptLine) (v p q : ℕ) : Type 0 where
  pub placed : IsPlaced above 11
  pub few : v < translation_limit_of (version_in above)
  pub next : v ≡ length (trans_in above)
  pub process : p < procs_in above
  pub low_process : p < 16
  pub page : q < length (pages_in above)
  pub low_page : q < page_limit_of (version_in above)

pub clean_trans : {above : List ScriptLine} {v p q : ℕ} → IsClean above (forms.Trans v p q) → IsTransClean above v p q
clean_trans {above} {v} {p} {q} h =
    let over_slot : translation_limit_of (version_in above) ≤ v → ⊥ = λ e. h.none whys.OverLimit (inl e) in
    let over_process : 16 ≤ p → ⊥ = λ e. h.none whys.OverLimit (inr (inl e)) in
    let over_page : page_limit_of (version_in above) ≤ q → ⊥ = λ e. h.none whys.OverLimit (inr (inr e)) in
    let no_process : procs_in above ≤ p → ⊥ = λ e. h.none whys.Undeclared (inl e) in
    let no_page : length (pages_in above) ≤ q → ⊥ = λ e. h.none whys.Undeclared (inr e) in
    let twice = h.none whys.Twice in
    let gap : length (trans_in above) < v → ⊥ = λ e. h.none whys.WrongPlace (inr e) in
    record {
      placed = placed above 11 (λ e. h.none whys.WrongPlace (inl e));
      few = omega arith;
      next = omega arith;
      process = omega arith;
      low_process = omega arith;
      page = omega arith;
      low_page = omega arith;
    }

pub record IsGuestClean (above : List ScriptLine) (p : ℕ) : Type 0 where
  pub placed : IsPlaced above 9
  pub newer : version_in above ≡ versions.One → ⊥
  pub few : p < 16
  pub declared : p < procs_in above
  pub fresh : is_guest (names_in above) (process_of p) ≡ false
  pub fit : cannot_be_guest (threads_in above) p ≡ false

pub clean_guest : {above : List ScriptLine} {p : ℕ} → IsClean above (forms.Guest p) → IsGuestClean above p
clean_guest {above} {p} h =
    let over = h.none whys.OverLimit in
    let none = h.none whys.Undeclared in
    record {
      placed = placed above 9 (λ e. h.none whys.WrongPlace (inl e));
      newer = h.none whys.UnknownWord;
      few = omega arith;
      declared = omega arith;
      fresh = false_from_ne_true _ (h.none whys.Twice);
      fit = false_from_ne_true _ (λ e. h.none whys.WrongPlace (inr e));
    }

pub record IsCowClean (above : List ScriptLine) (v w : ℕ) : Type 0 where
  pub placed : IsPlaced above 12
  pub newer : version_in above ≡ versions.One → ⊥
  pub low : v < translation_limit_of (version_in above)
  pub low_twin : w < translation_limit_of (version_in above)
  pub paired : IsNoPair (pages_in above) (slice_get (trans_in above) v) (slice_get (trans_in above) w) → ⊥
  pub free : has_twin (names_in above) (slot_of v) ≡ false
  pub fresh : is_twin (names_in above) (slot_of w) ≡ false
  pub no_twin : is_twin (names_in above) (slot_of v) ≡ false
  pub last : has_twin (names_in above) (slot_of w) ≡ false
  pub alone : has_shared_page (names_in above) (slot_of w) ≡ false

pub clean_cow : {above : List ScriptLine} {v w : ℕ} → IsClean above (forms.Cow v w) → IsCowClean above v w
clean_cow {above} {v} {w} h =
    let over : translation_limit_of (version_in above) ≤ v → ⊥ = λ e. h.none whys.OverLimit (inl e) in
    let over_twin : translation_limit_of (version_in above) ≤ w → ⊥ = λ e. h.none whys.OverLimit (inr e) in
    record {
      placed = placed above 12 (λ e. h.none whys.WrongPlace (inl e));
      newer = h.none whys.UnknownWord;
      low = omega arith;
      low_twin = omega arith;
      paired = h.none whys.Undeclared;
      free = false_from_ne_true _ (λ e. h.none whys.Twice (inl e));
      fresh = false_from_ne_true _ (λ e. h.none whys.Twice (inr e));
      no_twin = false_from_ne_true _ (λ e. h.none whys.WrongPlace (inr (inl e)));
      last = false_from_ne_true _ (λ e. h.none whys.WrongPlace (inr (inr (inl e))));
      alone = false_from_ne_true _ (λ e. h.none whys.WrongPlace (inr (inr (inr e))));
    }

-- both translations are declared
first_declared : (qs : List PageKind) (vs : List TransDecl) (v : ℕ) (p : Option TransDecl) → (IsNoPair qs (slice_get vs v) p → ⊥) → v < length vs
first_declared qs [] v p h = absurd (h tt)
first_declared qs (x ∷ xs) zero p h = omega arith
first_declared qs (x ∷ xs) (suc v) p h = omega (arith, first_declared qs xs v p h)

pub cow_declared : {above : List ScriptLine} {v w : ℕ} → IsClean above (forms.Cow v w) → v < length (trans_in above)
cow_declared {above} {v} {w} h = first_declared (pages_in above) (trans_in above) v (slice_get (trans_in above) w) (clean_cow h).paired

pub record IsCpuClean (above : List ScriptLine) (c : ℕ) : Type 0 where
  pub placed : IsPlaced above 13
  pub cpu : c < cpus_in above
  pub low : c < cpu_limit_of (version_in above)

pub clean_cpu : {above : List ScriptLine} {c : ℕ} → IsClean above (forms.Cpu c) → IsCpuClean above c
clean_cpu {above} {c} h =
    let over = h.none whys.OverLimit in
    let none = h.none whys.Undeclared in
    record { placed = placed above 13 (h.none whys.WrongPlace); cpu = omega arith; low = omega arith }

pub record IsCommandClean (above : List ScriptLine) (c : Command) : Type 0 where
  pub placed : IsPlaced above 13
  pub older : version_in above ≡ versions.One → IsNewer c → ⊥
  pub few : commands_in above < command_limit
  pub low : IsBeyond (version_in above) c → ⊥
  pub named : IsUndeclared above c → ⊥
  pub here : IsElsewhere (place_in above) (option_and_then (λ t. slice_get (threads_in above) t) (actor c)) → ⊥
  pub no_twin : names_twin (names_in above) c ≡ false
  pub fork : IsSomeAnd (place_in above) (λ (cpu : ℕ). is_wrong_fork (names_in above) cpu (commands_of above cpu) c ≡ true) → ⊥
  pub once : is_again above c ≡ false

pub clean_command : {above : List ScriptLine} {c : Command} → IsClean above (forms.Command c) → IsCommandClean above c
clean_command {above} {c} h =
    let many : command_limit ≤ commands_in above → ⊥ = λ e. h.none whys.OverLimit (inl e) in
    record {
      placed = placed above 13 (λ e. h.none whys.WrongPlace (inl e));
      older = λ one new. h.none whys.UnknownWord (one, new);
      few = omega arith;
      low = λ e. h.none whys.OverLimit (inr e);
      named = h.none whys.Undeclared;
      here = λ e. h.none whys.WrongPlace (inr (inl e));
      no_twin = false_from_ne_true _ (λ e. h.none whys.WrongPlace (inr (inr (inl e))));
      fork = λ e. h.none whys.WrongPlace (inr (inr (inr (inl e))));
      once = false_from_ne_true _ (λ e. h.none whys.WrongPlace (inr (inr (inr (inr e)))));
    }

pub record IsScheduleClean (above : List ScriptLine) (ws : List Go) : Type 0 where
  pub placed : IsPlaced above 14
  pub few : length (go_in above) + length ws ≤ schedule_limit
  pub low : top_cpu ws < cpu_limit_of (version_in above)
  pub cpus : top_cpu ws < cpus_in above

pub clean_schedule : {above : List ScriptLine} {ws : List Go} → IsClean above (forms.Schedule ws) → IsScheduleClean above ws
clean_schedule {above} {ws} h =
    let many : schedule_limit < length (go_in above) + length ws → ⊥ = λ e. h.none whys.OverLimit (inl e) in
    let high : cpu_limit_of (version_in above) ≤ top_cpu ws → ⊥ = λ e. h.none whys.OverLimit (inr e) in
    let none = h.none whys.Undeclared in
    record { placed = placed above 14 (h.none whys.WrongPlace); few = omega arith; low = omega arith; cpus = omega arith }

pub clean_end : {above : List ScriptLine} → IsClean above forms.End → IsPlaced above 14
clean_end {above} h = placed above 14 (h.none whys.WrongPlace)

-- the numbers of clean lines are within the limits of all versions
pub small_cpus : {above : List ScriptLine} {n : ℕ} → IsClean above (forms.Cpus n) → n ≤ cpu_limit
small_cpus {above} h = omega (arith, (clean_cpus h).few, cpu_most (version_in above))

pub small_frames : {above : List ScriptLine} {n : ℕ} → IsClean above (forms.Frames n) → n ≤ frame_limit
small_frames {above} h = omega (arith, (clean_frames h).few, frame_most (version_in above))

pub small_thread : {above : List ScriptLine} {t p c : ℕ} {b : Bool} → IsClean above (forms.Thread t p c b) → c < cpu_limit
small_thread {above} h = omega (arith, (clean_thread h).low_cpu, cpu_most (version_in above))

pub small_trans : {above : List ScriptLine} {v p q : ℕ} → IsClean above (forms.Trans v p q) → q < page_limit
small_trans {above} h = omega (arith, (clean_trans h).low_page, page_most (version_in above))

pub small_twin : {above : List ScriptLine} {v w : ℕ} → IsClean above (forms.Cow v w) → w < translation_limit
small_twin {above} h = omega (arith, (clean_cow h).low_twin, trans_most (version_in above))

-- a clean line follows none of a higher group
pub clean_late : (above : List ScriptLine) (f : ScriptLine) → IsClean above f → highest above ≤ group f
clean_late above (forms.Header v) k = omega (arith, clean_header above v k)
clean_late above (forms.Cpus n) k = (clean_cpus k).late
clean_late above (forms.Frames n) k = (clean_frames k).late
clean_late above (forms.Kernel f) k = (clean_kernel k).placed.late
clean_late above (forms.Recovery b) k = (clean_recovery k).placed.late
clean_late above (forms.Early b) k = (clean_early k).placed.late
clean_late above (forms.File n) k = (clean_file k).placed.late
clean_late above (forms.Proc p) k = (clean_proc k).placed.late
clean_late above (forms.Thread t p c b) k = (clean_thread k).placed.late
clean_late above (forms.Guest p) k = (clean_guest k).placed.late
clean_late above (forms.Page q b l) k = (clean_page k).placed.late
clean_late above (forms.Trans v p q) k = (clean_trans k).placed.late
clean_late above (forms.Cow v w) k = (clean_cow k).placed.late
clean_late above (forms.Cpu c) k = (clean_cpu k).placed.late
clean_late above (forms.Command c) k = (clean_command k).placed.late
clean_late above (forms.Schedule ws) k = (clean_schedule k).placed.late
clean_late above forms.End k = omega (arith, (clean_end k).late)
