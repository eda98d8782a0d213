-- When the command that runs has its answer, its row is right, and the next command may begin.
use Rattle.hwp_cpu_row.specs.hwp_geom.declared.Frame.{Frame}
use Rattle.hwp_law_served.specs.Handles.{KnowsNumber, answers_by, number_at}
use Rattle.hwp_cpu_row.specs.hwp_script_words.Valid.{IsCommandOf}
use Rattle.hwp_cpu_command.specs.Begins.{BeginsWith}
use Rattle.hwp_cpu_row.specs.hwp_geom.declared.VSlot.{VSlot}
use Rattle.hwp_cpu_row.specs.hwp_geom.declared.FileNo.{FileNo}
use Rattle.hwp_cpu_row.specs.hwp_script_words.declared.Command.TheVariants as commands
use Rattle.hwp_cpu_row.specs.hwp_claim.declared.EventOutcome.{EventOutcome}
use Rattle.hwp_cpu_row.specs.hwp_law.Cows.{acting}
use Rattle.hwp_cpu_row.specs.CowLists.{KnowsCows, acting_in, copied_in}
use Rattle.hwp_cpu_row.proofs.CowListLaws.{acting-known, copied-known, told-are, told-known}
use Rattle.hwp_cpu_row.proofs.of_hwp_law.CowLaws.{acting-watches}
use Rattle.hwp_law_served.specs.hwp_law.Losses.{number_by, tells_number}
use Rattle.hwp_cpu_command.specs.Runs.{CanFork, Runs}
use Rattle.hwp_cpu.proofs.ActingFits.{at-least, fork-acted}
use Rattle.hwp_cpu.proofs.FreshChildren.{can-fork}
use Rattle.hwp_cpu.proofs.KnownHandles.{number-acted, tells-acted, handle-known, handles-many}
use Rattle.hwp_cpu.proofs.CourseBegins.{course-begins}
use Rattle.std.proofs.Common.{Bool, ◌≡◌, ℕ, ◌+◌, ◌<◌, ◌≤◌, ◌⊎◌, inl, inr, List, [], ◌∷◌, ◌++◌, Option, Some, None, length, slice_get, refl, sym, ap, ◌∙◌, subst, arith, append-nil, true, filter_map}
use Rattle.std.proofs.lemmas.List.{length-append, append_cancel_left, take_all}
use Rattle.std.proofs.lemmas.Option.{same_Some, slice_get_within}
use Rattle.hwp_cpu_row.specs.hwp_geom.declared.Cpu.{Cpu}
use Rattle.hwp_cpu_row.specs.hwp_geom.declared.Layout.{Layout}
use Rattle.hwp_cpu_row.specs.hwp_geom.declared.Thread.{Thread}
use Rattle.hwp_cpu_row.specs.hwp_geom.declared.Who.{Who}
use Rattle.hwp_cpu_row.specs.hwp_geom.Pairs.{Pairs}
use Rattle.hwp_cpu_row.specs.hwp_script_words.declared.Command.{Command}
use Rattle.hwp_cpu_row.specs.hwp_claim.hwp_guest.declared.Admit.{Admit}
use Rattle.hwp_cpu_row.specs.hwp_report_text.declared.Answer.{Answer}
use Rattle.hwp_cpu_row.specs.hwp_report_text.declared.Answer.TheVariants as answers
use Rattle.hwp_cpu_row.specs.hwp_law.Settings.{settings}
use Rattle.hwp_cpu_row.specs.hwp_core_rule.declared.Debts.{Debts}
use Rattle.hwp_cpu_row.specs.hwp_core_rule.declared.Mark.{Mark}
use Rattle.hwp_cpu_row.specs.hwp_core_rule.declared.Part.{Part}
use Rattle.hwp_cpu_row.specs.hwp_core_rule.declared.Setting.{Setting}
use Rattle.hwp_cpu_row.specs.hwp_core_rule.declared.View.{View}
use Rattle.hwp_cpu_row.specs.hwp_core_rule.Lists.{EachMember, SomeMember}
use Rattle.hwp_cpu_row.specs.hwp_core_rule.Views.{no_debts}
use Rattle.hwp_cpu_row.proofs.of_hwp_core_rule.Lists.{at_last}
use Rattle.hwp_cpu_row.specs.hwp_core_rule.Calls.{IsOnTurn}
use Rattle.hwp_cpu_row.specs.hwp_core_rule.Hands.{Hand}
use Rattle.hwp_cpu_row.specs.hwp_core_rule.Known.{HasMadeNone}
use Rattle.hwp_cpu_row.specs.declared.Row.{Row}
use Rattle.hwp_cpu_row.specs.hwp_banks.Banks.{Banks, empty_banks}
use Rattle.hwp_cpu_row.specs.declared.Local.{Local}
use Rattle.hwp_cpu_command.specs.declared.job.Job.{Job}
use Rattle.hwp_cpu_command.specs.FileHandles.{StandsOn}
use Rattle.hwp_cpu_command.specs.Jobs as jobs
use Rattle.hwp_cpu_command.specs.Jobs.{banks_before, told_of}
use Rattle.hwp_cpu_command.specs.Settings.{policies_in}
use Rattle.hwp_cpu_command.specs.Stays.{IsAtStop, IsHalted}
use Rattle.hwp_cpu_command.proofs.JobEnds.{ends}
use Rattle.hwp_cpu.proofs.commands.CommandRuns.{before-begins, begins-fits, begins-runs, runs-who}
use Rattle.hwp_cpu.proofs.commands.CommandStops.{begins-stop, has-stopped, only-stopped, untold-at-start}
use Rattle.hwp_law_served.specs.Accounts.{IsNote, own_marking, markings_in}
use Rattle.hwp_law_served.specs.Rows.{notes_from, at_number}
use Rattle.hwp_law_served.specs.Served.{CanStop, IsOneOf, IsOwnSpoil, IsOwnStop, IsRowServed, SawRunning, HasStopped}
use Rattle.hwp_law_served.proofs.Handles.{number-last, numbers-more}
use Rattle.hwp_law_served.proofs.lines.ScrubBank.{empty-free}
use Rattle.hwp_cpu.proofs.causes.HandleNumbers.{tells-inside}
use Rattle.hwp_cpu.proofs.causes.RowServed.{row-served}
use Rattle.hwp_cpu.specs.Processors.{AreCommands, BeginsAt, left_of, told_local, with_guest}
use Rattle.hwp_cpu.specs.Serving.{IsActedOn, Remembers, AreNumbered, FitsAt, HasAccount, HasStoppedIt, IsDone, IsListed, IsRunning, Serves, IsUnderWay, marked_beside, marked_so_far, GivesUp, GoesOn}
use Rattle.hwp_cpu.proofs.ProcessorKeeps.{can}
use Rattle.hwp_cpu.proofs.ProcessorNotes.{account-starts, noted-end, noted-starts, owes-nothing, spoils-end, unmarked-starts}
use Rattle.hwp_cpu.proofs.KnownPolicies.{answers-more, counted-ends, counted-starts, setting-left}
use Rattle.hwp_cpu.proofs.Revivals.{revival-left}
use Rattle.hwp_law_served.proofs.Rows.{IsRowActed, at_front, banks-acted, past-end, rows-more, stays-more, stop-more, stopped-was}
use Rattle.std.specs.List.{list_any, cons_option}
use Rattle.hwp_cpu_row.specs.hwp_law.Watched.{told, watched_after, Watched}
use Rattle.hwp_law_served.specs.Offlinings.{watched_at, AreDue}
use Rattle.hwp_cpu_row.specs.Locals.{IsWatching, collects}
use Rattle.hwp_cpu_command.specs.Done.{marked_beyond, HasCounted}
use Rattle.hwp_cpu.specs.Courses.{BeginsCourse, part_of, row_of, local_after, local_left}
use Rattle.hwp_cpu.proofs.Watching.{watched-more, room-stays, of-machine, has-watch, watching-ends, watch-starts, own-starts, due-more}
use Rattle.hwp_cpu_row.specs.declared.Offlining.{Offlining}
use Rattle.hwp_cpu_row.specs.Acts.{told_notes}
use Rattle.hwp_cpu_row.specs.hwp_law.Commands.{is_watch}
use Rattle.hwp_cpu.proofs.GoingOn.{IsEnding}
use Rattle.hwp_cpu.specs.declared.course.Course.{Course}
use Rattle.std.specs.Prelude.{IsSome}
use Rattle.hwp_cpu_row.specs.hwp_claim_frame.Done.{Marking}
use Rattle.hwp_cpu.proofs.Marks.{by_acts}
use Rattle.hwp_cpu.proofs.commands.Beside.{marked-parts}
use Rattle.hwp_cpu_row.specs.hwp_claim.CheckDone.{marked_in}
use Rattle.hwp_cpu_command.specs.hwp_soft.declared.Soft.{Soft}
use Rattle.hwp_cpu.specs.Courses as courses
use Rattle.hwp_cpu_row.specs.hwp_report_text.declared.GuestLine.{GuestLine}
use Rattle.hwp_cpu_row.specs.GuestLists.{admission_in, line_in}

-- ---- the turn

-- a processor that has come to a command may make steps of the next one, with no body in hand
next-turn : (view : View) (cpu : Cpu) (n : ℕ) → view.bodies ≡ [] → IsOnTurn view (at_number cpu n) → IsOnTurn view (at_number cpu (n + 1))
next-turn view cpu n none on = record {
  turn = record { part = later on.turn.part };
  begins = λ i p there same less. none;
  later = λ i p there same. let few : p.latest ≤ n = on.later i p there same in omega arith;
}
  where
    later : SomeMember (λ (p : Part). (p.cpu ≡ cpu) × (p.latest ≤ n)) view.parts → SomeMember (λ (p : Part). (p.cpu ≡ cpu) × (p.latest ≤ n + 1)) view.parts
    later (i, p, there, h) = let few : p.latest ≤ n = h.1 in (i, p, there, (h.0, omega (arith, few)))

-- ---- a command that stops the machine

-- a command that is acted on through twins leaves the collector as the script's does
watched-acted : (layout : Layout) (earlier : List (Command × Answer)) (own : Command) (a : Answer) (frames : List Frame) (before : Option Watched) → watched_after (acting layout earlier own) a frames before ≡ watched_after own a frames before
watched-acted layout earlier (commands.Load thread slot line) a frames before = refl
watched-acted layout earlier own a frames before = refl

-- so can the script's command, as the one that is acted on
stop-acted : (layout : Layout) (earlier : List (Command × Answer)) (own : Command) (told : List EventOutcome) → CanStop layout (acting layout earlier own) told → CanStop layout own told
stop-acted layout earlier (commands.Load thread slot line) told can = can
stop-acted layout earlier own told can = can

-- it is answered `stopped`, as the first of its processor
own-stop : (layout : Layout) (cpu : Cpu) (list : List Command) (rows : List Row) (own command : Command) (copies : Option VSlot) (j : Job) (a : Answer) (offlined : List Offlining) (guest : Option GuestLine) → slice_get list (length rows) ≡ Some own → command ≡ acting layout (answers_by list rows) own
    → Runs layout (at_number cpu (length rows)) command copies j → jobs.answer j ≡ Some a
    → (who : Who) → HasStoppedIt layout command rows j who → IsOwnStop layout cpu list (rows ++ with_guest (jobs.row_of j a offlined) guest ∷ []) who
own-stop layout cpu list rows own command copies j a offlined guest there acts runs has who it = subst (IsOwnStop layout cpu list (rows ++ with_guest (jobs.row_of j a offlined) guest ∷ [])) (sym named) (record {
  cpu_is = refl;
  command = own;
  there = there;
  row = with_guest (jobs.row_of j a offlined) guest;
  can = stop-acted layout (answers_by list rows) own (told_of j) (subst (λ (x : Command). CanStop layout x (told_of j)) acts it.can);
  answered = record {
    row_is = at_last rows (with_guest (jobs.row_of j a offlined) guest);
    stopped = same_Some a answers.Stopped (sym has ∙ has-stopped j it.has);
    first = λ i earlier less is stopped. it.first (i, earlier, at_front rows (with_guest (jobs.row_of j a offlined) guest ∷ []) i earlier less is, stopped);
  };
})
  where
    named : who ≡ at_number cpu (length rows)
    named = sym it.who_is ∙ runs-who layout (at_number cpu (length rows)) command copies j runs

-- a command that begins is the processor's next
begins-who : (layout : Layout) (by : Who) (command : Command) (copies : Option VSlot) (admit : Admit) (banks : Banks) (collecting : Bool) (j : Job) → BeginsWith layout by command copies admit banks collecting j → jobs.who j ≡ by
begins-who layout by command copies admit banks collecting j begins = runs-who layout by command copies j (begins-runs layout by command copies admit banks collecting j begins)

-- ---- the answer

module _ (layout : Layout) (new : View) (cpu : Cpu) (list : List Command) (rows : List Row) (local : Local) (c : Course) (a : Answer) (now : IsEnding layout new cpu list rows local c a) (later-none : (q : ℕ) → length rows < q → HasMadeNone new (at_number cpu q))
    (are : AreCommands layout cpu list) (round : StandsOn c.own a c.watching) where
  abbrev n : ℕ
  n = length rows

  abbrev at : Who
  at = at_number cpu n

  abbrev command : Command
  command = now.command

  abbrev copies : Option VSlot
  copies = now.copies

  -- the script's command
  abbrev own : Command
  own = now.way.next.own

  abbrev earlier : List (Command × Answer)
  earlier = answers_by list rows

  -- the guest's line, and the row
  abbrev guest : Option GuestLine
  guest = line_in layout n own a

  abbrev row : Row
  row = with_guest (row_of c a) guest

  abbrev longer : List Row
  longer = rows ++ row ∷ []

  -- what the command leaves to the next one
  abbrev after : Local
  after = told_local layout (Some own) a (local_after c a local)

  number : length longer ≡ n + 1
  number = length-append rows (row ∷ [])

  -- a command with another answer than `stopped` saw the machine running
  running : (a ≡ answers.Stopped) ⊎ SawRunning new at
  running = elim now.way.looked [
    | inl ends ↦ inl (only-stopped c.own ends.0 now.known.answered)
    | inr saw ↦ inr saw
  ]

  -- what it marked is what its events and the frames tell, and what it did to a frame itself
  marks : marked_so_far c ≡ markings_in row
  marks = ap (λ (o : Option Soft). by_acts (told_of c.own) c.due.offlined ++ (marked_beyond c.own ++ marked_beside o)) now.none
      ∙ ap (λ (l : List Marking). by_acts (told_of c.own) c.due.offlined ++ l) (append-nil (marked_beyond c.own)
      ∙ append_cancel_left (filter_map marked_in (told_of c.own)) (marked_beyond c.own) (cons_option (own_marking (jobs.own_of c.own)) []) (sym (marked-parts c.own) ∙ now.known.does.marked))

  served : IsRowServed layout earlier copies new at command (banks_before c.own local.banks) row after.banks
  served = record {
    caused = so.caused;
    accounted = record { marked = so.accounted.marked; failed = so.accounted.failed; set = so.accounted.set; own = so.accounted.own };
    told = so.told;
    heeded = so.heeded;
    running = so.running;
    beside = so.beside;
    offlined = so.offlined;
  }
    where
      so : IsRowServed layout earlier copies new at command (banks_before c.own local.banks) (row_of c a) after.banks
      so = row-served layout earlier copies new at command c.own local.banks c.due.offlined now.known.served now.known.does running (now.way.account.marked ∙ marks) now.known.failed now.way.account.set now.known.left now.way.collected.offlined

  -- and so the script's command
  acted : IsRowActed layout earlier new at own (banks_before c.own local.banks) row after.banks
  acted = subst (λ (o : Option VSlot). IsRowServed layout earlier o new at (acting layout earlier own) (banks_before c.own local.banks) row after.banks) now.way.next.copies_are
      (subst (λ (x : Command). IsRowServed layout earlier copies new at x (banks_before c.own local.banks) row after.banks) now.way.next.acts served)

  -- it knows what is frozen and switched
  remembers : Remembers layout list longer after.cows
  remembers = record {
    are = told-are layout own a local.cows now.way.serves.remembers.are;
    known = subst (λ (l : List (Command × Answer)). KnowsCows layout l after.cows) (sym (answers-more list rows own row now.way.next.there))
        (told-known layout earlier own a local.cows now.way.serves.remembers.are now.way.serves.remembers.known);
  }

  unowing : new.owed ≡ no_debts
  unowing = owes-nothing new (subst (λ (o : Option Soft). HasCounted (part_of o c.own) new) now.none now.way.account.counted ∙ now.known.unowed) now.known.paid

  noting : Pairs IsNote (notes_from cpu 0 longer) new.marks
  noting = noted-end new cpu rows c row now.way.noted marks

  spoiling : EachMember (IsOwnSpoil cpu list longer) new.spoiled
  spoiling i s there = spoils-end layout cpu list rows own command copies c.own a c.due.offlined guest s now.way.next.there now.way.next.acts now.way.runs now.known.answered (now.way.spoiled i s there)

  -- what each thread had set is what the commands so far set
  policies : (thread : Thread) → policies_in thread new ≡ settings layout thread (answers_by list longer)
  policies = counted-ends layout list rows new own command c.own row now.way.next.acts now.way.policies (sym now.way.account.set ∙ served.accounted.set) now.way.next.there

  -- the numbers of handles are told by the same commands
  numbers-acted : (file : FileNo) → slice_get after.handles file.0 ≡ Some (number_by file (number_at file list rows n) command a) → slice_get after.handles file.0 ≡ Some (number_by file (number_at file list rows n) own a)
  numbers-acted file has = has ∙ ap (λ (x : Command). Some (number_by file (number_at file list rows n) x a)) now.way.next.acts ∙ ap (λ (m : ℕ). Some m) (number-acted layout earlier file (number_at file list rows n) own a)

  handles_are : AreNumbered layout list longer after.handles
  handles_are = record {
    many = handles-many c.own local.handles ∙ now.way.serves.handles_are.many;
    each = λ file inside. numbers-acted file (now.known.numbers file inside).has ∙ ap (λ (m : ℕ). Some m) (sym (number-last file list rows own row now.way.next.there)) ∙ ap (λ (m : ℕ). Some (number_at file list longer m)) (sym number);
  }

  -- the frames that were due are those that its notes make due
  due-now : AreDue layout (watched_at layout list rows n) row
  due-now = now.way.collected.frames ∙ take_all (length c.due.offlined) c.due.frames (let all : length c.due.offlined ≡ length c.due.frames = now.all in omega (arith, all)) ∙ sym now.complete.due

  numbers-known : (file : FileNo) → tells_number file own a ≡ true → KnowsNumber layout new at file (number_by file (number_at file list rows n) own a)
  numbers-known file told =
      let same : tells_number file command a ≡ true = ap (λ (x : Command). tells_number file x a) now.way.next.acts ∙ tells-acted layout earlier file own a ∙ told in
      subst (KnowsNumber layout new at file) (ap (λ (x : Command). number_by file (number_at file list rows n) x a) now.way.next.acts ∙ number-acted layout earlier file (number_at file list rows n) own a)
      ((now.known.numbers file (tells-inside layout at command copies c.own a file now.way.runs same)).knows same)

  serves : Serves layout new cpu list longer after.banks after.handles after.cows
  serves = record {
    rows_are = rows-more layout [] new cpu 0 empty_banks list rows (banks_before c.own local.banks) n own row after.banks (omega arith) now.way.serves.rows_are now.way.next.there acted;
    remembers = remembers;
    stays = stays-more rows row now.way.serves.stays (λ some. only-stopped c.own (now.way.stopped some).0 now.known.answered);
    halted = λ some. by (stopped-was rows row some);
    numbers = numbers-more layout new cpu list rows own row now.way.next.there now.way.serves.numbers numbers-known;
    handles_are = handles_are;
    due = due-more layout list rows row now.way.serves.due due-now;
  }
    where
      by : HasStopped rows ⊎ (a ≡ answers.Stopped) → IsHalted new
      by (inl early) = now.way.serves.halted early
      by (inr last) = now.known.halted last

  stops : EachMember (IsOwnStop layout cpu list longer) new.stops
  stops i who there = which (now.way.stops i who there)
    where
      which : IsOwnStop layout cpu list rows who ⊎ HasStoppedIt layout command rows c.own who → IsOwnStop layout cpu list longer who
      which (inl early) = stop-more layout cpu list rows row who early
      which (inr it) = own-stop layout cpu list rows own command copies c.own a c.due.offlined guest now.way.next.there now.way.next.acts now.way.runs now.known.answered who it

  -- the collector that the next command begins with
  watching-now : IsWatching layout.frames (watched_at layout list longer (length longer)) after.watching
  watching-now = subst (λ (w : Option Watched). IsWatching layout.frames w after.watching)
      (ap (λ (x : Command). watched_after x a (told_notes layout (told_of c.own)) (watched_at layout list rows n)) now.way.next.acts ∙ watched-acted layout earlier own a (told_notes layout (told_of c.own)) (watched_at layout list rows n) ∙ sym (watched-more layout list rows own row now.way.next.there))
      (watching-ends layout.frames (told_notes layout (told_of c.own)) (watched_at layout list rows n) c.watching now.complete.watching layout at command copies c.own a now.way.runs round (λ watches. now.way.collected.room (has-watch list n own now.way.next.there (sym (acting-watches layout earlier own) ∙ sym (ap is_watch now.way.next.acts) ∙ watches))))

  room-now : list_any is_watch list ≡ true → IsSome after.watching
  room-now has = room-stays c.own a c.watching (now.way.collected.room has)

  done : slice_get list (n + 1) ≡ None → IsDone layout new cpu list longer after
  done none = record {
    serves = serves;
    all = same;
    made = λ q past. later-none q (let at_end : length longer ≡ n + 1 = number in let all : length longer ≡ length list = same in omega (arith, past));
    hand_is = now.known.hand_is;
    owed = unowing;
    stops = stops;
    listed = subst (IsListed new cpu) (let at_end : length longer ≡ n + 1 = number in let all : length longer ≡ length list = same in omega arith) now.way.listed;
    noted = noting;
    spoiled = spoiling;
    policies = policies;
  }
    where
      same : length longer ≡ length list
      same =
          let most : length list ≤ n + 1 = past-end list (n + 1) none in
          let within : n < length list = slice_get_within list n own now.way.next.there in
          let at_end : length longer ≡ n + 1 = number in
          omega arith

  module _ (coming : Command) (b : Course) (there : slice_get list (n + 1) ≡ Some coming) (begins : BeginsCourse layout (at_number cpu (n + 1)) (acting_in layout after.cows coming) (copied_in after.cows coming) (admission_in layout after.guests coming) after b) where
    abbrev next : Command
    next = acting_in layout after.cows coming

    abbrev copied : Option VSlot
    copied = copied_in after.cows coming

    abbrev admit : Admit
    admit = admission_in layout after.guests coming

    comes : IsActedOn layout list longer next copied
    comes = record {
      own = coming;
      there = subst (λ (i : ℕ). slice_get list i ≡ Some coming) (sym number) there;
      acts = acting-known layout (answers_by list longer) after.cows coming remembers.known;
      copies_are = copied-known layout (answers_by list longer) after.cows coming remembers.known;
    }

    forks-so : CanFork layout new (at_number cpu (n + 1)) next
    forks-so = fork-acted new (at_number cpu (n + 1)) layout after.cows coming (subst (λ (i : ℕ). CanFork layout new (at_number cpu i) coming) number
        (can-fork layout cpu list longer are.forks are.once new policies coming (subst (λ (i : ℕ). slice_get list i ≡ Some coming) (sym number) there) (at-least (IsCommandOf layout cpu.0) list (n + 1) coming are.named there)))

    start : IsAtStop b.own
    start = begins-stop layout (at_number cpu (n + 1)) next copied admit after.banks (collects after.watching) b.own begins.begins

    within : n + 1 < length list
    within = slice_get_within list (n + 1) coming there

    own-fits : jobs.FitsFrom [] layout new b.own
    own-fits = begins-fits layout new (at_number cpu (n + 1)) next copied admit after.banks (collects after.watching) b.own begins.begins (banks-acted layout [] new cpu 0 empty_banks list longer after.banks serves.rows_are empty-free) (record {
      on_turn = next-turn new cpu n (ap (λ (h : Hand). h.bodies) now.known.hand_is) now.known.on_turn;
      hand_is = now.known.hand_is;
      paid = ap (λ (d : Debts). d.losses) unowing;
      made = later-none (n + 1) (omega arith);
      unmarked = unmarked-starts new cpu (n + 1) now.way.listed;
      left = setting-left layout list longer new policies (omega (arith, are.few, within, number));
      revivals = revival-left layout new cpu list longer after.banks serves.rows_are noting (omega (arith, are.few, within, number));
    }) (handle-known layout new cpu list longer after.handles b.own serves.numbers serves.handles_are (omega (arith, within, number)) begins.handle) forks-so

    -- what is of the commands so far is of them and the next one
    later : {A : Type 0} (by : A → Who) (l : List A) → EachMember (λ (x : A). IsOneOf cpu (n + 1) (by x)) l → EachMember (λ (x : A). IsOneOf cpu (n + 1 + 1) (by x)) l
    later by l each i x is = ((each i x is).0, (let less = (each i x is).1 in omega (arith, less)))

    way : IsUnderWay layout new cpu list longer (local_left b after) next copied b
    way = record {
      serves = subst (λ (l : Banks). Serves layout new cpu list longer l after.handles after.cows) (sym (before-begins layout (at_number cpu (n + 1)) next copied admit after.banks (collects after.watching) b.own begins.begins)) serves;
      next = comes;
      runs = subst (λ (i : ℕ). Runs layout (at_number cpu i) next copied b.own) (sym number) (begins-runs layout (at_number cpu (n + 1)) next copied admit after.banks (collects after.watching) b.own begins.begins);
      handle = begins.handle;
      policies = counted-starts (λ (thread : Thread). settings layout thread (answers_by list longer)) new b.own start policies;
      stopped = λ some. (inl start, untold-at-start b.own start);
      looked = inl (inl start, untold-at-start b.own start);
      stops = λ i who is. inl (stops i who is);
      listed = subst (λ (i : ℕ). IsListed new cpu (i + 1)) (sym number) (record { marked = later (λ (m : Mark). m.stamp.who) new.marks now.way.listed.marked; set = later (λ (g : Setting). g.stamp.who) new.settings now.way.listed.set });
      account = subst (λ (i : ℕ). HasAccount new (at_number cpu i) b) (sym number) (account-starts new cpu (n + 1) b after.watching layout.frames begins.is now.way.listed (later-none (n + 1) (omega arith)) unowing start);
      noted = noted-starts new cpu longer b after.watching layout.frames begins.is (subst (IsListed new cpu) (sym number) now.way.listed) start noting;
      spoiled = λ i s is. inl (spoiling i s is);
      collected = watch-starts layout new (at_number cpu (length longer)) list (watched_at layout list longer (length longer)) b after.watching begins.is start watching-now room-now;
    }

    begun : courses.Fits layout new b × (IsRunning layout new cpu list longer (local_left b after) b ⊎ GivesUp layout new cpu list longer b)
    begun = (
      course-begins layout new (at_number cpu (n + 1)) next copied admit after b begins own-fits (of-machine layout (watched_at layout list longer (length longer)) after.watching watching-now),
      inl (record {
        command = next;
        copies = copied;
        way = way;
        on = subst (GoesOn layout new cpu list longer (local_left b after) next copied b) (sym (ap (λ (d : Course). d.beside) begins.is)) (own-starts layout new next copied b after.watching begins.is start own-fits (subst (HasMadeNone new) (sym (begins-who layout (at_number cpu (n + 1)) next copied admit after.banks (collects after.watching) b.own begins.begins)) (later-none (n + 1) (omega arith))));
      }),
    )

  -- the next command begins, where there is one
  pub settled : (b : Option Course) → BeginsAt layout (at_number cpu (n + 1)) (slice_get list (n + 1)) after b → FitsAt layout new cpu list longer (left_of b after) b
  settled b begins = which (slice_get list (n + 1)) refl b begins
    where
      which : (o : Option Command) → slice_get list (n + 1) ≡ o → (x : Option Course) → BeginsAt layout (at_number cpu (n + 1)) o after x → FitsAt layout new cpu list longer (left_of x after) x
      which (Some coming) there (Some x) is = begun coming x there is
      which None there None is = done there
      which (Some coming) there None is = absurd is
      which None there (Some x) is = absurd is
