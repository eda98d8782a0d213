-- At opening a processor fits: it has made no step, and its first command begins.
use Rattle.hwp_cpu_row.specs.hwp_script_words.Valid.{IsCommandOf}
use Rattle.hwp_cpu_row.specs.hwp_geom.declared.VSlot.{VSlot}
use Rattle.hwp_cpu_row.specs.CowLists.{KnowsCows, acting_in, copied_in, first_cows}
use Rattle.hwp_cpu_row.proofs.CowListLaws.{acting-known, copied-known, first-are, first-known}
use Rattle.hwp_cpu_command.specs.Runs.{CanFork}
use Rattle.hwp_cpu_row.specs.hwp_claim.hwp_guest.declared.Admit.{Admit}
use Rattle.hwp_cpu_row.specs.hwp_report_text.declared.Answer.{Answer}
use Rattle.hwp_cpu.proofs.ActingFits.{at-least, fork-acted}
use Rattle.hwp_cpu.proofs.FreshChildren.{can-fork}
use Rattle.std.proofs.Common.{◌≡◌, ℕ, zero, suc, ◌<◌, ◌≤◌, inl, List, [], ◌∷◌, Option, Some, None, length, slice_get, refl, sym, ap, subst, arith, Bool, true≢false, false, true, ◌∙◌}
use Rattle.std.proofs.lemmas.Option.{none-some, same_Some, slice_get_within}
use Rattle.hwp_cpu_row.specs.hwp_geom.declared.Cpu.{Cpu}
use Rattle.hwp_cpu_row.specs.hwp_geom.declared.Layout.{Layout}
use Rattle.hwp_cpu_row.specs.hwp_geom.declared.Thread.{Thread}
use Rattle.hwp_cpu_row.specs.hwp_script_words.declared.Command.{Command}
use Rattle.hwp_cpu_row.specs.hwp_core_rule.declared.Part.{Part}
use Rattle.hwp_cpu_row.specs.hwp_core_rule.declared.View.{View}
use Rattle.hwp_cpu_row.specs.hwp_core_rule.Opening.{opening_view}
use Rattle.hwp_cpu_row.specs.hwp_core_rule.Calls.{IsOnTurn}
use Rattle.hwp_cpu_command.specs.Jobs.{banks_before, left_in}
use Rattle.hwp_cpu_command.specs.Settings.{policies_in}
use Rattle.hwp_cpu_command.specs.Stays.{IsAtStop}
use Rattle.hwp_cpu.proofs.commands.CommandRuns.{before-begins, begins-fits, begins-runs}
use Rattle.hwp_cpu.proofs.commands.CommandStops.{begins-stop, untold-at-start}
use Rattle.hwp_cpu_row.specs.hwp_banks.Banks.{Banks, empty_banks}
use Rattle.hwp_cpu_row.specs.declared.Local.{Local}
use Rattle.hwp_cpu_row.specs.Locals.{IsWatching, IsFirst, collects, HasRoom}
use Rattle.hwp_cpu_row.specs.hwp_law.Settings.{settings}
use Rattle.hwp_law_served.specs.Handles.{answers_by}
use Rattle.hwp_law_served.specs.Served.{AreRowsActed}
use Rattle.hwp_law_served.proofs.Handles.{numbers-begin}
use Rattle.hwp_law_served.proofs.lines.ScrubBank.{empty-free}
use Rattle.hwp_cpu.specs.Processors.{AreCommands, BeginsAt, left_of}
use Rattle.hwp_law_served.specs.Rows.{at_number}
use Rattle.hwp_cpu.specs.Serving.{FitsAt, IsActedOn, IsDone, IsListed, Remembers, Serves, AreNumbered, GoesOn, IsUnderWay}
use Rattle.hwp_cpu.proofs.KnownHandles.{handle-known, numbers-first}
use Rattle.hwp_cpu.proofs.KnownPolicies.{counted-starts, setting-left}
use Rattle.hwp_law_served.proofs.Rows.{past-end}
use Rattle.hwp_cpu.proofs.ProcessorNotes.{account-starts, noted-starts}
use Rattle.hwp_cpu.proofs.Revivals.{revival-left}
use Rattle.hwp_cpu.proofs.Watching.{of-machine, watch-starts, own-starts}
use Rattle.hwp_cpu.specs.Courses.{local_left, BeginsCourse}
use Rattle.std.specs.List.{list_any}
use Rattle.hwp_cpu_row.specs.declared.Watching.{Watching}
use Rattle.hwp_cpu_row.specs.hwp_law.Watched.{Watched}
use Rattle.hwp_law_served.specs.Offlinings.{watched_at}
use Rattle.hwp_cpu.proofs.CourseBegins.{course-begins}
use Rattle.std.specs.Prelude.{IsSome}
use Rattle.hwp_cpu_row.specs.hwp_law.Commands.{is_watch}
use Rattle.hwp_cpu_command.specs.hwp_scrub.Visits.{AreBanks}
use Rattle.hwp_cpu.specs.declared.course.Course.{Course}
use Rattle.hwp_cpu_command.specs.Jobs as jobs
use Rattle.hwp_cpu_row.specs.GuestLists.{admission_in}

module _ (layout : Layout) (cpu : Cpu) (list : List Command) (are : AreCommands layout cpu list) (at-first : Local) (is_first : IsFirst layout (list_any is_watch list) at-first) where
  abbrev view : View
  view = opening_view cpu.0

  first-part : (i : ℕ) (p : Part) → slice_get view.parts i ≡ Some p → p.latest ≤ 0
  first-part zero p there = subst (λ (x : Part). x.latest ≤ 0) (same_Some _ p there) (omega arith)
  first-part (suc i) p there = absurd (none-some p there)

  first-turn : IsOnTurn view (at_number cpu 0)
  first-turn = record {
    turn = record { part = (0, record { cpu = record { 0 = cpu.0 }; latest = 0 }, refl, (refl, omega arith)) };
    begins = λ i p there same less. refl;
    later = λ i p there same. first-part i p there;
  }

  -- nothing is listed
  listed : (n : ℕ) → IsListed view cpu n
  listed n = record { marked = λ i m at. absurd (none-some m at); set = λ i s at. absurd (none-some s at) }

  none-yet : (l : List Command) → [] ≡ answers_by l []
  none-yet [] = refl
  none-yet (c ∷ cs) = refl

  -- no thread has set a policy
  unset : (thread : Thread) → policies_in thread view ≡ settings layout thread (answers_by list [])
  unset thread = ap (settings layout thread) (none-yet list)

  -- nothing is frozen
  remembers : Remembers layout list [] at-first.cows
  remembers = subst (Remembers layout list []) (sym is_first.cows) (record {
    are = first-are layout;
    known = subst (λ (l : List (Command × Answer)). KnowsCows layout l (first_cows layout)) (none-yet list) (first-known layout);
  })

  -- none is answered, so the banks and the handles are as at first
  numbered : AreNumbered layout list [] at-first.handles
  numbered = subst (AreNumbered layout list []) (sym is_first.handles) (numbers-first layout list)

  serves : (banks : Banks) → banks ≡ empty_banks → Serves layout view cpu list [] banks at-first.handles at-first.cows
  serves banks none = record {
    rows_are = by list;
    remembers = remembers;
    stays = λ i j row later less first second stopped. absurd (none-some _ first);
    halted = λ some. absurd (none-some _ some.2);
    numbers = numbers-begin layout view cpu list;
    handles_are = numbered;
    due = λ n row there. absurd (none-some row there);
  }
    where
      by : (l : List Command) → AreRowsActed layout [] view cpu 0 empty_banks l [] banks
      by [] = none
      by (c ∷ cs) = none

  -- nothing is collected yet
  unwatched : watched_at layout list [] 0 ≡ None
  unwatched = which list
    where
      which : (l : List Command) → watched_at layout l [] 0 ≡ None
      which [] = refl
      which (c ∷ cs) = refl

  watching : IsWatching layout.frames (watched_at layout list [] 0) at-first.watching
  watching = subst (λ (w : Option Watched). IsWatching layout.frames w at-first.watching) (sym unwatched) (which (list_any is_watch list) at-first.watching is_first.watching)
    where
      which : (b : Bool) (w : Option Watching) → HasRoom layout.frames b w → IsWatching layout.frames None w
      which true (Some w) has = has
      which true None has = absurd has
      which false None has = tt
      which false (Some w) has = absurd has

  room : list_any is_watch list ≡ true → IsSome at-first.watching
  room watches = which (list_any is_watch list) at-first.watching watches is_first.watching
    where
      which : (b : Bool) (w : Option Watching) → b ≡ true → HasRoom layout.frames b w → IsSome w
      which true (Some w) is has = refl
      which true None is has = absurd has
      which false w is has = absurd (true≢false (sym is))

  module _ (own : Command) (c : Course) (there : slice_get list 0 ≡ Some own) (begins : BeginsCourse layout (at_number cpu 0) (acting_in layout at-first.cows own) (copied_in at-first.cows own) (admission_in layout at-first.guests own) at-first c) where
    abbrev command : Command
    command = acting_in layout at-first.cows own

    abbrev copies : Option VSlot
    copies = copied_in at-first.cows own

    abbrev admit : Admit
    admit = admission_in layout at-first.guests own

    next : IsActedOn layout list [] command copies
    next = record { own = own; there = there; acts = acting-known layout (answers_by list []) at-first.cows own remembers.known; copies_are = copied-known layout (answers_by list []) at-first.cows own remembers.known }

    -- nothing is frozen, so it is the script's own
    forks-so : CanFork layout view (at_number cpu 0) command
    forks-so = fork-acted view (at_number cpu 0) layout at-first.cows own (can-fork layout cpu list [] are.forks are.once view unset own there (at-least (IsCommandOf layout cpu.0) list 0 own are.named there))

    start : IsAtStop c.own
    start = begins-stop layout (at_number cpu 0) command copies admit at-first.banks (collects at-first.watching) c.own begins.begins

    own-fits : jobs.FitsFrom [] layout view c.own
    own-fits = begins-fits layout view (at_number cpu 0) command copies admit at-first.banks (collects at-first.watching) c.own begins.begins (subst AreBanks (sym is_first.banks) empty-free) (record {
      on_turn = first-turn;
      hand_is = refl;
      paid = refl;
      made = refl;
      unmarked = refl;
      left = setting-left layout list [] view unset (let within : 0 < length list = slice_get_within list 0 own there in omega (arith, are.few, within));
      revivals = revival-left layout view cpu list [] empty_banks (serves empty_banks refl).rows_are tt (omega arith);
    }) (handle-known layout view cpu list [] at-first.handles c.own (numbers-begin layout view cpu list) numbered (omega arith) begins.handle) forks-so

    way : IsUnderWay layout view cpu list [] (local_left c at-first) command copies c
    way = record {
      serves = serves (banks_before c.own (left_in c.own at-first.banks)) (before-begins layout (at_number cpu 0) command copies admit at-first.banks (collects at-first.watching) c.own begins.begins ∙ is_first.banks);
      next = next;
      runs = begins-runs layout (at_number cpu 0) command copies admit at-first.banks (collects at-first.watching) c.own begins.begins;
      handle = begins.handle;
      policies = counted-starts (λ (thread : Thread). settings layout thread (answers_by list [])) view c.own start unset;
      stopped = λ some. absurd (none-some _ some.2);
      looked = inl (inl start, untold-at-start c.own start);
      stops = λ i who at. absurd (none-some who at);
      listed = listed 1;
      account = account-starts view cpu 0 c at-first.watching layout.frames begins.is (listed 0) refl refl start;
      noted = noted-starts view cpu [] c at-first.watching layout.frames begins.is (listed 0) start tt;
      spoiled = λ i s at. absurd (none-some s at);
      collected = watch-starts layout view (at_number cpu 0) list (watched_at layout list [] 0) c at-first.watching begins.is start watching room;
    }

    running : FitsAt layout view cpu list [] (local_left c at-first) (Some c)
    running = (
      course-begins layout view (at_number cpu 0) command copies admit at-first c begins own-fits (of-machine layout (watched_at layout list [] 0) at-first.watching watching),
      inl (record {
        command = command;
        copies = copies;
        way = way;
        on = subst (GoesOn layout view cpu list [] (local_left c at-first) command copies c) (sym (ap (λ (d : Course). d.beside) begins.is)) (own-starts layout view command copies c at-first.watching begins.is start own-fits refl);
      }),
    )

  done : slice_get list 0 ≡ None → IsDone layout view cpu list [] at-first
  done none = record {
    serves = serves at-first.banks is_first.banks;
    all = sym (let most : length list ≤ 0 = past-end list 0 none in omega arith);
    made = λ k past. refl;
    hand_is = refl;
    owed = refl;
    stops = λ i who at. absurd (none-some who at);
    listed = listed (length list);
    noted = tt;
    spoiled = λ i s at. absurd (none-some s at);
    policies = unset;
  }

  pub begun : (x : Option Course) → BeginsAt layout (at_number cpu 0) (slice_get list 0) at-first x → FitsAt layout view cpu list [] (left_of x at-first) x
  begun x begins = which (slice_get list 0) refl x begins
    where
      which : (o : Option Command) → slice_get list 0 ≡ o → (y : Option Course) → BeginsAt layout (at_number cpu 0) o at-first y → FitsAt layout view cpu list [] (left_of y at-first) y
      which (Some own) there (Some c) at = running own c there at
      which None there None at = done there
      which (Some own) there None at = absurd at
      which None there (Some c) at = absurd at
