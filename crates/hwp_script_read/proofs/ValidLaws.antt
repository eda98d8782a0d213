-- Why the script of clean lines is valid.
use Rattle.std.proofs.Common.{ℕ, ◌≡◌, ◌≢◌, ◌<◌, ◌≤◌, ◌+◌, ◌-◌, ◌++◌, ◌==◌, Bool, true, false, if◌then◌else◌, List, [], ◌∷◌, length, get_or, map, take, Option, Some, None, zero, suc, ap, subst, ◌∙◌, sym, refl, arith, add-one, ⊎_elim}
use Rattle.std.specs.Prelude.{All, sum_by, filter_map, slice_get, option_to_list}
use Rattle.std.specs.List.{range_with_len, cons_option}
use Rattle.std.proofs.lemmas.List.{take_more, take_all, length-append, length_push, append-nil}
use Rattle.std.proofs.lemmas.List.Elements.{All-nil, All-cons, All-append, All-push, All-weaker, All-get_or}
use Rattle.std.proofs.lemmas.List.Sums.{sum_by-cons}
use Rattle.std.proofs.lemmas.List.FromFn.{length-map-range_with_len}
use Rattle.std.proofs.lemmas.Option.{slice_get-get_or, slice_get_within, get_or_from_slice_get}
use Rattle.std.proofs.lemmas.Bool.{cases_eq}
use Rattle.std.proofs.lemmas.Bool.Decides.{nat_tests}
use Rattle.hwp_script_lines.specs.hwp_script_words.Limits.{schedule_limit}
use Rattle.hwp_script_lines.specs.hwp_geom.Limits.{command_limit, cpu_limit_of, frame_limit_of, page_limit_of, translation_limit_of}
use Rattle.hwp_script_lines.specs.hwp_geom.Layout.{IsBacked}
use Rattle.hwp_script_lines.specs.hwp_geom.declared.Layout.{Layout}
use Rattle.hwp_script_lines.specs.hwp_geom.declared.Version.TheVariants as versions
use Rattle.hwp_script_lines.specs.hwp_geom.declared.ThreadDecl.{ThreadDecl}
use Rattle.hwp_script_lines.specs.hwp_geom.declared.TransDecl.{TransDecl}
use Rattle.hwp_script_lines.specs.Grammar.{Fits}
use Rattle.hwp_script_lines.specs.declared.ScriptLine.{ScriptLine}
use Rattle.hwp_script_lines.specs.declared.ScriptLine.TheVariants as forms
use Rattle.hwp_script_lines.specs.declared.Go.{Go}
use Rattle.hwp_script_read.specs.Context.{version_in, version_after, locked_of, locked_in, cpus_of, frames_of, file_of, proc_of, thread_of, page_of, trans_of, command_of, words_of, names_in, twins_in, guests_in, cpus_in, frames_in, files_in, procs_in, threads_in, pages_in, trans_in, commands_in, go_in, place_in, place_after}
use Rattle.hwp_script_read.specs.Reasons.{IsClean, AreClean, top_cpu}
use Rattle.hwp_script_lines.specs.hwp_script_words.Commands.{IsNewer}
use Rattle.hwp_script_read.specs.Collects.{command_at, commands_from, commands_of, IsEnded, Collects}
use Rattle.hwp_script_lines.specs.hwp_script_words.Forks.{is_wrong_fork}
use Rattle.hwp_script_lines.specs.hwp_script_words.Valid.{IsCommandOf, AreLists, AreTwinsFit, AreForksFit, NamesNoTwin, IsValid}
use Rattle.hwp_script_read.specs.Reads.{Reads}
use Rattle.hwp_script_lines.specs.declared.Script.{Script}
use Rattle.hwp_script_lines.specs.declared.Command.{Command}
use Rattle.hwp_script_read.proofs.ContextLaws.{onto, plus, more, pushed, twins-long, guests-long}
use Rattle.hwp_script_read.proofs.CleanLaws.{cpu_most, frame_most, page_most, trans_most, none_above, clean_cpus, clean_frames, clean_file, clean_proc, clean_thread, clean_page, clean_trans, clean_command, clean_schedule, clean_end}
use Rattle.hwp_script_read.proofs.CollectLaws.{commands_of-push}
use Rattle.hwp_script_read.proofs.TwinLaws.{IsNone, bare, bare_fit, none_fit, twins_declared, twins_step, untwinned_step}
use Rattle.hwp_script_read.proofs.GuestLaws.{AreFit, IsNot, guests_step, layout_fit, nobody_fit, unguested_step}
use Rattle.hwp_script_read.proofs.ForkLaws.{AreWellUsed, bare_fork, list_at, none_used, used_step}
use Rattle.hwp_script_read.proofs.TallyLaws.{few_listed, forks_listed, lines_weight, one_fork, once_step}
use Rattle.hwp_script_read.proofs.FitLaws.{lines_fit, all_fills, all_words}
use Rattle.hwp_script_read.proofs.NameLaws.{Grows, grows_line, command_kept, backed_kept, backed, command_valid, plus_le, more_le, onto_le}

-- a page that isn't locked, and a command that version One has
abbrev IsUnlocked : Bool → Type 0
IsUnlocked locked = locked ≡ false

abbrev IsOld : Command → Type 0
IsOld command = IsNewer command → ⊥

-- the numbers stay within their limits
cpus_step : (above : List ScriptLine) (f : ScriptLine) → cpus_in above ≤ cpu_limit_of (version_in above) → IsClean above f → plus (cpus_of f) (cpus_in above) ≤ cpu_limit_of (version_after (version_in above) f)
cpus_step above (forms.Header v) h k = rw (none_above k) (omega arith)
cpus_step above (forms.Cpus n) h k = omega (arith, (clean_cpus k).few, (clean_cpus k).first)
cpus_step above f h k = h

frames_step : (above : List ScriptLine) (f : ScriptLine) → frames_in above ≤ frame_limit_of (version_in above) → IsClean above f → plus (frames_of f) (frames_in above) ≤ frame_limit_of (version_after (version_in above) f)
frames_step above (forms.Header v) h k = rw (none_above k) (omega arith)
frames_step above (forms.Frames n) h k = omega (arith, (clean_frames k).few, (clean_frames k).first)
frames_step above f h k = h

procs_step : (above : List ScriptLine) (f : ScriptLine) → procs_in above ≤ 16 → IsClean above f → more (proc_of f) (procs_in above) ≤ 16
procs_step above (forms.Proc p) h k = omega (arith, (clean_proc k).few, (clean_proc k).next)
procs_step above f h k = h

threads_step : (above : List ScriptLine) (f : ScriptLine) → length (threads_in above) ≤ 32 → IsClean above f → length (onto (thread_of f) (threads_in above)) ≤ 32
threads_step above (forms.Thread t p c b) h k = rw length_push (omega (arith, (clean_thread k).few, (clean_thread k).next))
threads_step above f h k = h

pages_step : (above : List ScriptLine) (f : ScriptLine) → length (pages_in above) ≤ page_limit_of (version_in above) → IsClean above f → length (onto (page_of f) (pages_in above)) ≤ page_limit_of (version_after (version_in above) f)
pages_step above (forms.Header v) h k = rw (none_above k) (omega arith)
pages_step above (forms.Page q b l) h k = rw length_push (omega (arith, (clean_page k).few, (clean_page k).next))
pages_step above f h k = h

trans_step : (above : List ScriptLine) (f : ScriptLine) → length (trans_in above) ≤ translation_limit_of (version_in above) → IsClean above f → length (onto (trans_of f) (trans_in above)) ≤ translation_limit_of (version_after (version_in above) f)
trans_step above (forms.Header v) h k = rw (none_above k) (omega arith)
trans_step above (forms.Trans v p q) h k = rw length_push (omega (arith, (clean_trans k).few, (clean_trans k).next))
trans_step above f h k = h

files_step : (above : List ScriptLine) (f : ScriptLine) → files_in above ≤ 16 → IsClean above f → more (file_of f) (files_in above) ≤ 16
files_step above (forms.File n) h k = omega (arith, (clean_file k).few, (clean_file k).next)
files_step above f h k = h

commands_step : (above : List ScriptLine) (f : ScriptLine) → commands_in above ≤ command_limit → IsClean above f → more (command_of f) (commands_in above) ≤ command_limit
commands_step above (forms.Command x) h k = omega (arith, (clean_command k).few)
commands_step above f h k = h

go_count_step : (above : List ScriptLine) (f : ScriptLine) → length (go_in above) ≤ schedule_limit → IsClean above f → length (go_in above ++ words_of f) ≤ schedule_limit
go_count_step above (forms.Schedule ws) h k = simp length-append (clean_schedule k).few
go_count_step above f h k = rw append-nil h

-- in version One no page is locked
unlocked_step : (above : List ScriptLine) (f : ScriptLine) → (version_in above ≡ versions.One → All IsUnlocked (locked_in above)) → IsClean above f
    → version_after (version_in above) f ≡ versions.One → All IsUnlocked (onto (locked_of f) (locked_in above))
unlocked_step above (forms.Header v) h k one = rw (none_above k) (All-nil IsUnlocked)
unlocked_step above (forms.Page q b locked) h k one = All-push IsUnlocked (locked_in above) locked (h one) ((clean_page k).older one)
unlocked_step above f h k one = h one

lock_each_step : (above : List ScriptLine) (f : ScriptLine) → length (locked_in above) ≡ length (pages_in above) → length (onto (locked_of f) (locked_in above)) ≡ length (onto (page_of f) (pages_in above))
lock_each_step above (forms.Page q b l) h = length_push (locked_in above) _ ∙ ap (λ n. n + 1) h ∙ sym (length_push (pages_in above) _)
lock_each_step above f h = h

-- the names in declarations are declared
abbrev pub IsNamedThread : ℕ → ℕ → ThreadDecl → Type 0
IsNamedThread procs cpus t = (t.process.0 < procs) × (t.cpu.0 < cpus)

abbrev pub IsNamedTrans : ℕ → ℕ → TransDecl → Type 0
IsNamedTrans procs pages v = (v.process.0 < procs) × (v.page.0 < pages)

thread_names_step : (above : List ScriptLine) (f : ScriptLine) (procs cpus : ℕ) → procs_in above ≤ procs → cpus_in above ≤ cpus
    → All (IsNamedThread procs cpus) (threads_in above) → IsClean above f → All (IsNamedThread procs cpus) (onto (thread_of f) (threads_in above))
thread_names_step above (forms.Thread t p c x) procs cpus a b h k =
    All-push (IsNamedThread procs cpus) (threads_in above) _ h (omega (arith, (clean_thread k).process), omega (arith, (clean_thread k).cpu))
thread_names_step above f procs cpus a b h k = h

trans_names_step : (above : List ScriptLine) (f : ScriptLine) (procs pages : ℕ) → procs_in above ≤ procs → length (pages_in above) ≤ pages
    → All (IsNamedTrans procs pages) (trans_in above) → IsClean above f → All (IsNamedTrans procs pages) (onto (trans_of f) (trans_in above))
trans_names_step above (forms.Trans v p q) procs pages a b h k =
    All-push (IsNamedTrans procs pages) (trans_in above) _ h (omega (arith, (clean_trans k).process), omega (arith, (clean_trans k).page))
trans_names_step above f procs pages a b h k = h

page_names_step : (above : List ScriptLine) (f : ScriptLine) → All (IsBacked (names_in above)) (pages_in above) → IsClean above f
    → All (IsBacked (names_in above)) (onto (page_of f) (pages_in above))
page_names_step above (forms.Page q b l) h k = All-push (IsBacked (names_in above)) (pages_in above) _ h (backed above b (clean_page k).backed)
page_names_step above f h k = h

-- a word of the schedule names a declared processor
abbrev pub IsNamedGo : ℕ → Go → Type 0
IsNamedGo cpus g = g.cpu.0 < cpus

go_words : (n : ℕ) (ws : List Go) → top_cpu ws < n → All (IsNamedGo n) ws
go_words n [] l = All-nil (IsNamedGo n)
go_words n (w ∷ ws) l = All-cons (IsNamedGo n) _ _ (omega arith) (go_words n ws (omega arith))

go_step : (above : List ScriptLine) (f : ScriptLine) → All (IsNamedGo (cpus_in above)) (go_in above) → IsClean above f
    → All (IsNamedGo (cpus_in above)) (go_in above ++ words_of f)
go_step above (forms.Schedule ws) h k = All-append (IsNamedGo (cpus_in above)) _ _ h (go_words (cpus_in above) ws (clean_schedule k).cpus)
go_step above f h k = rw append-nil h

-- a command that a clean line adds to the list of processor c
added : (P : Command → Type 0) (test : Bool) (command : Command) → (test ≡ true → P command) → All P (option_to_list (if test then Some command else None))
added P true command h = All-cons P command [] (h refl) (All-nil P)
added P false command h = All-nil P

none_added : (P : Command → Type 0) (test : Bool) → All P (option_to_list (if test then None else None))
none_added P true = All-nil P
none_added P false = All-nil P

same_place : (place c : ℕ) → (place == c) ≡ true → place ≡ c
same_place place c e = grind (arith, nat_tests)

added_command : (above : List ScriptLine) (f : ScriptLine) (c : ℕ) (place : Option ℕ) → place_in above ≡ place → IsClean above f → Fits f
    → All (IsCommandOf (names_in above) c) (option_to_list (command_at place c f))
added_command above f c None e k fits = All-nil (IsCommandOf (names_in above) c)
added_command above (forms.Command x) c (Some place) e k fits =
    let is = clean_command k in
    added (IsCommandOf (names_in above) c) (place == c) _ (λ t. command_valid above x c place (same_place place c t) fits is.named (rw e at is.here))
added_command above f c (Some place) e k fits = none_added (IsCommandOf (names_in above) c) (place == c)

-- in version One no command is one of version Two alone
old_command : (above : List ScriptLine) (f : ScriptLine) (c : ℕ) (place : Option ℕ) → IsClean above f → version_after (version_in above) f ≡ versions.One
    → All IsOld (option_to_list (command_at place c f))
old_command above f c None k one = All-nil IsOld
old_command above (forms.Command x) c (Some place) k one = added IsOld (place == c) x (λ t. (clean_command k).older one)
old_command above f c (Some place) k one = none_added IsOld (place == c)

old_step : (above : List ScriptLine) (f : ScriptLine) (c : ℕ) → (version_in above ≡ versions.One → All IsOld (commands_of above c)) → IsClean above f
    → version_after (version_in above) f ≡ versions.One → All IsOld (commands_of above c ++ option_to_list (command_at (place_in above) c f))
old_step above (forms.Header v) c h k one =
    All-append IsOld (commands_of above c) _ (rw (none_above k) (All-nil IsOld)) (old_command above (forms.Header v) c (place_in above) k one)
old_step above f c h k one = All-append IsOld (commands_of above c) _ (h one) (old_command above f c (place_in above) k one)

-- what clean lines declare
pub record IsDeclared (fs : List ScriptLine) : Type 0 where
  pub cpus : cpus_in fs ≤ cpu_limit_of (version_in fs)
  pub frames : frames_in fs ≤ frame_limit_of (version_in fs)
  pub files : files_in fs ≤ 16
  pub procs : procs_in fs ≤ 16
  pub threads : length (threads_in fs) ≤ 32
  pub pages : length (pages_in fs) ≤ page_limit_of (version_in fs)
  pub trans : length (trans_in fs) ≤ translation_limit_of (version_in fs)
  pub commands : commands_in fs ≤ command_limit
  pub thread_names : All (IsNamedThread (procs_in fs) (cpus_in fs)) (threads_in fs)
  pub trans_names : All (IsNamedTrans (procs_in fs) (length (pages_in fs))) (trans_in fs)
  pub page_names : All (IsBacked (names_in fs)) (pages_in fs)
  pub unlocked : version_in fs ≡ versions.One → All IsUnlocked (locked_in fs)
  pub old : (c : ℕ) → version_in fs ≡ versions.One → All IsOld (commands_of fs c)
  pub lock_each : length (locked_in fs) ≡ length (pages_in fs)
  pub untwinned : version_in fs ≡ versions.One → All IsNone (twins_in fs)
  pub twins : AreTwinsFit (names_in fs)
  pub unguested : version_in fs ≡ versions.One → All IsNot (guests_in fs)
  pub guests : AreFit (threads_in fs) (guests_in fs)
  pub used : (c : ℕ) → AreWellUsed (names_in fs) c (commands_of fs c)
  pub once : (p : ℕ) → lines_weight (one_fork p) fs ≤ 1
  pub own : (c : ℕ) → All (IsCommandOf (names_in fs) c) (commands_of fs c)
  pub go : All (IsNamedGo (cpus_in fs)) (go_in fs)
  pub few_go : length (go_in fs) ≤ schedule_limit

declared_none : IsDeclared []
declared_none = record {
  cpus = omega arith;
  frames = omega arith;
  files = omega arith;
  procs = omega arith;
  threads = omega arith;
  pages = omega arith;
  trans = omega arith;
  commands = omega arith;
  thread_names = All-nil (IsNamedThread 0 0);
  trans_names = All-nil (IsNamedTrans 0 0);
  page_names = All-nil (IsBacked (names_in []));
  unlocked = λ one. All-nil IsUnlocked;
  old = λ c one. All-nil IsOld;
  lock_each = refl;
  untwinned = λ one. All-nil IsNone;
  twins = none_fit (names_in []) (λ v. refl);
  unguested = λ one. All-nil IsNot;
  guests = nobody_fit [] [] (All-nil IsNot);
  used = λ c. none_used (names_in []) c;
  once = λ p. omega arith;
  own = λ c. All-nil (IsCommandOf (names_in []) c);
  go = All-nil (IsNamedGo 0);
  few_go = omega arith;
}

declared_step : (above : List ScriptLine) (f : ScriptLine) → IsDeclared above → IsClean above f → Fits f → IsDeclared (above ++ f ∷ [])
declared_step above f h k fits =
    let p = pushed above f in
    let grows = grows_line above f in
    let procs : procs_in above ≤ more (proc_of f) (procs_in above) = more_le (proc_of f) (procs_in above) in
    let cpus : cpus_in above ≤ plus (cpus_of f) (cpus_in above) = plus_le (cpus_of f) (cpus_in above) in
    let pages : length (pages_in above) ≤ length (onto (page_of f) (pages_in above)) = onto_le (page_of f) (pages_in above) in
    record {
      cpus = rw (p.cpus, p.version) (cpus_step above f h.cpus k);
      frames = rw (p.frames, p.version) (frames_step above f h.frames k);
      files = rw p.files (files_step above f h.files k);
      procs = rw p.procs (procs_step above f h.procs k);
      threads = rw p.threads (threads_step above f h.threads k);
      pages = rw (p.pages, p.version) (pages_step above f h.pages k);
      trans = rw (p.trans, p.version) (trans_step above f h.trans k);
      commands = rw p.commands (commands_step above f h.commands k);
      thread_names = rw (p.procs, p.cpus, p.threads) (thread_names_step above f _ _ procs cpus
          (All-weaker (IsNamedThread (procs_in above) (cpus_in above)) (IsNamedThread (more (proc_of f) (procs_in above)) (plus (cpus_of f) (cpus_in above)))
          (λ t n. (omega (arith, n.0), omega (arith, n.1))) (threads_in above) h.thread_names) k);
      trans_names = rw (p.procs, p.pages, p.trans) (trans_names_step above f _ _ procs pages
          (All-weaker (IsNamedTrans (procs_in above) (length (pages_in above))) (IsNamedTrans (more (proc_of f) (procs_in above)) (length (onto (page_of f) (pages_in above))))
          (λ v n. (omega (arith, n.0), omega (arith, n.1))) (trans_in above) h.trans_names) k);
      page_names = rw p.pages (All-weaker (IsBacked (names_in above)) (IsBacked (names_in (above ++ f ∷ []))) (backed_kept (names_in above) (names_in (above ++ f ∷ [])) grows.files)
          (onto (page_of f) (pages_in above)) (page_names_step above f h.page_names k));
      unlocked = λ one. rw p.locked (unlocked_step above f h.unlocked k (sym p.version ∙ one));
      old = λ c one. rw (commands_of-push above f c) (old_step above f c (h.old c) k (sym p.version ∙ one));
      lock_each = rw (p.locked, p.pages) (lock_each_step above f h.lock_each);
      untwinned = λ one. rw p.twins (untwinned_step above f h.untwinned k (sym p.version ∙ one));
      twins = twins_step above f h.twins k;
      unguested = λ one. rw p.guests (unguested_step above f h.unguested k (sym p.version ∙ one));
      guests = rw (p.threads, p.guests) (guests_step above f h.guests k);
      used = λ c. used_step above f c k (h.used c);
      once = λ q. once_step above f q k (h.once q);
      own = λ c. rw (commands_of-push above f c)
          (All-weaker (IsCommandOf (names_in above) c) (IsCommandOf (names_in (above ++ f ∷ [])) c)
          (command_kept (names_in above) (names_in (above ++ f ∷ [])) c grows) (commands_of above c ++ option_to_list (command_at (place_in above) c f))
          (All-append (IsCommandOf (names_in above) c) (commands_of above c) (option_to_list (command_at (place_in above) c f))
          (h.own c) (added_command above f c (place_in above) refl k fits)));
      go = rw (p.cpus, p.go) (All-weaker (IsNamedGo (cpus_in above)) (IsNamedGo (plus (cpus_of f) (cpus_in above))) (λ g l. omega (arith, cpus)) _ (go_step above f h.go k));
      few_go = rw p.go (go_count_step above f h.few_go k);
    }

declared_upto : (fs : List ScriptLine) → AreClean fs → All Fits fs → (n : ℕ) → n ≤ length fs → IsDeclared (take n fs)
declared_upto fs h fit zero l = declared_none
declared_upto fs h fit (suc n) l =
    let within : n < length fs = omega arith in
    let e : take (n + 1) fs ≡ take n fs ++ get_or fs n forms.End ∷ [] = take_more fs n forms.End within in
    let step = declared_step (take n fs) (get_or fs n forms.End) (declared_upto fs h fit n (omega arith)) (h.each n _ (slice_get-get_or fs n forms.End within)) (All-get_or Fits fs n forms.End within fit) in
    rw (← add-one n, e) step

pub declared : (fs : List ScriptLine) → AreClean fs → All Fits fs → IsDeclared fs
declared fs h fit =
    let whole : take (length fs) fs ≡ fs = take_all (length fs) fs (omega arith) in rw whole at (declared_upto fs h fit (length fs) (omega arith))

lists_valid : (layout : Layout) (g : ℕ → List Command) (a n : ℕ) → ((c : ℕ) → All (IsCommandOf layout c) (g c)) → AreLists layout a (map g (range_with_len a n))
lists_valid layout g a zero h = tt
lists_valid layout g a (suc n) h = (h a, lists_valid layout g (a + 1) n h)

all_lists : (P : Command → Type 0) (fs : List ScriptLine) (a n : ℕ) → ((c : ℕ) → All P (commands_of fs c)) → All (All P) (map (commands_of fs) (range_with_len a n))
all_lists P fs a zero h = All-nil (All P)
all_lists P fs a (suc n) h = All-cons (All P) (commands_of fs a) (map (commands_of fs) (range_with_len (a + 1) n)) (h a) (all_lists P fs (a + 1) n h)

-- a layout that lines declare, without its settings and its kernel's frames, is made of the names
names_are : (fs : List ScriptLine) (s : Script) → Collects fs s → names_in fs ≡ bare s.layout
names_are fs s h = rw (h.version, h.cpus, h.frames, h.files, h.procs, h.threads, h.pages, h.trans, h.locked, h.twins, h.guests) refl

-- what the commands of the lines say of the names, those of the script say of its layout
used : (fs : List ScriptLine) (s : Script) → IsDeclared fs → Collects fs s → (c : ℕ) → AreWellUsed (bare s.layout) c (commands_of fs c)
used fs s d h c = subst (λ (l : Layout). AreWellUsed l c (commands_of fs c)) (names_are fs s h) (d.used c)

fork_fits : (fs : List ScriptLine) (s : Script) → IsDeclared fs → Collects fs s → (cpu : ℕ) (list : List Command) → slice_get s.lists cpu ≡ Some list → AreForksFit s.layout cpu list
fork_fits fs s d h cpu list e n x there =
    let is : list ≡ commands_of fs (0 + cpu) = list_at (commands_of fs) 0 (cpus_in fs) cpu list (rw h.lists at e) in
    let at : 0 + cpu ≡ cpu = omega arith in
    let same : list ≡ commands_of fs cpu = rw at at is in
    sym (bare_fork s.layout cpu (take n list) x) ∙ subst (λ (xs : List Command). is_wrong_fork (bare s.layout) cpu (take n xs) x ≡ false) (sym same)
    ((used fs s d h cpu).forks n x (subst (λ (xs : List Command). slice_get xs n ≡ Some x) same there))

-- the last line stands behind the others
last_behind : (fs : List ScriptLine) (f : ScriptLine) → slice_get fs (length fs - 1) ≡ Some f → fs ≡ take (length fs - 1) fs ++ f ∷ []
last_behind fs f e =
    let within : length fs - 1 < length fs = slice_get_within fs (length fs - 1) f e in
    let more = take_more fs (length fs - 1) f within in
    let whole : take (length fs - 1 + 1) fs ≡ fs = take_all (length fs - 1 + 1) fs (omega arith) in
    let same : get_or fs (length fs - 1) f ≡ f = get_or_from_slice_get fs (length fs - 1) f f e in
    sym whole ∙ more ∙ ap (λ g. take (length fs - 1) fs ++ g ∷ []) same

-- clean lines with an end have processors and frames
pub record HasSize (fs : List ScriptLine) : Type 0 where
  pub some_cpu : 0 < cpus_in fs
  pub some_frame : 0 < frames_in fs

has_size : (fs : List ScriptLine) → AreClean fs → IsEnded fs → HasSize fs
has_size fs h e =
    let last = clean_end (h.each (length fs - 1) forms.End e) in
    let p = pushed (take (length fs - 1) fs) forms.End in
    let behind = last_behind fs forms.End e in
    let size : HasSize (take (length fs - 1) fs ++ forms.End ∷ []) = record { some_cpu = rw p.cpus last.some_cpu; some_frame = rw p.frames last.some_frame } in
    subst HasSize (sym behind) size

-- the script of clean lines is valid
valid : (fs : List ScriptLine) (s : Script) → AreClean fs → IsEnded fs → Collects fs s → All Fits fs → IsValid s
valid fs s clean ended h fit =
    let d = declared fs clean fit in
    let size = has_size fs clean ended in
    let grows : Grows (names_in fs) s.layout = record {
      frames = omega (arith, h.frames);
      files = omega (arith, h.files);
      procs = omega (arith, h.procs);
      threads = λ i t e. rw h.threads e;
      pages = λ i q e. rw h.pages e;
      trans = λ i v e. rw h.trans e;
      page_count = rw h.pages (omega arith);
      trans_count = rw h.trans (omega arith);
    } in
    let most = cpu_most (version_in fs) in
    let most_frames = frame_most (version_in fs) in
    let most_pages = page_most (version_in fs) in
    let most_trans = trans_most (version_in fs) in
    let twins : AreTwinsFit s.layout = bare_fit s.layout (subst AreTwinsFit (names_are fs s h) d.twins) in
    record {
      older = λ one. record {
        unlocked = rw h.locked (d.unlocked (sym h.version ∙ one));
        untwinned = rw h.twins (d.untwinned (sym h.version ∙ one));
        unguested = rw h.guests (d.unguested (sym h.version ∙ one));
        commands = rw h.lists (all_lists IsOld fs 0 (cpus_in fs) (λ c. d.old c (sym h.version ∙ one)));
      };
      sound = record {
        some_cpu = omega (arith, h.cpus);
        cpus = omega (arith, h.cpus, d.cpus, most);
        some_frame = omega (arith, h.frames);
        frames = omega (arith, h.frames, d.frames, most_frames);
        kernel = h.marks ∙ sym h.frames;
        files = omega (arith, h.files, d.files);
        procs = omega (arith, h.procs);
        threads = rw h.threads d.threads;
        pages = rw h.pages (omega (arith, d.pages, most_pages));
        trans = rw h.trans (omega (arith, d.trans, most_trans));
        within = record {
          cpus = rw (h.version, h.cpus) d.cpus;
          frames = rw (h.version, h.frames) d.frames;
          pages = rw (h.version, h.pages) d.pages;
          trans = rw (h.version, h.trans) d.trans;
        };
        locked = rw (h.locked, h.pages) d.lock_each;
        twins = rw (h.twins, h.trans) (twins-long fs);
        twin_names = twins_declared s.layout twins;
        guests = rw (h.guests, h.procs) (guests-long fs);
        thread_names = rw (h.threads, h.procs, h.cpus) d.thread_names;
        page_names = rw h.pages (All-weaker (IsBacked (names_in fs)) (IsBacked s.layout) (backed_kept (names_in fs) s.layout grows.files) (pages_in fs) d.page_names);
        trans_names = rw (h.trans, h.procs, h.pages) d.trans_names;
      };
      one_each = ap length h.lists ∙ length-map-range_with_len (commands_of fs) 0 (cpus_in fs) ∙ sym h.cpus;
      lists = rw h.lists (lists_valid s.layout (commands_of fs) 0 (cpus_in fs) (λ c.
          All-weaker (IsCommandOf (names_in fs) c) (IsCommandOf s.layout c) (command_kept (names_in fs) s.layout c grows) (commands_of fs c) (d.own c)));
      few = rw h.lists (omega (arith, few_listed fs (cpus_in fs), d.commands));
      go = rw (h.go, h.cpus) d.go;
      few_go = rw h.go d.few_go;
      fills = rw h.pages (all_fills fs fit);
      words = rw h.lists (all_words fs 0 (cpus_in fs) fit);
      twins = twins;
      guests = layout_fit s.layout (rw (h.threads, h.guests) d.guests);
      own = rw h.lists (all_lists (NamesNoTwin s.layout) fs 0 (cpus_in fs) (λ c. (used fs s d h c).own));
      forks = fork_fits fs s d h;
      once = λ p. rw h.lists (omega (arith, forks_listed p fs (cpus_in fs), d.once p));
    }

-- a script that some text gives is valid
pub valid_read : {bytes : List ℕ} {s : Script} → Reads bytes s → IsValid s
valid_read {bytes} {s} h =
    valid h.script.forms s h.script.clean h.script.ended h.script.collects (lines_fit h.numbered h.script.each)
