-- The collector of a processor and the frames that are due, from one command to the next.
use Rattle.hwp_cpu_row.specs.hwp_geom.declared.VSlot.{VSlot}
use Rattle.hwp_cpu_row.specs.hwp_core_rule.Known.{HasMadeNone}
use Rattle.hwp_cpu_row.specs.hwp_banks.declared.Event.{Event}
use Rattle.hwp_cpu.proofs.BesideEnds.{due-none}
use Rattle.hwp_cpu_row.proofs.of_hwp_law.NoteLaws.{told-none}
use Rattle.std.proofs.Common.{◌||◌, suc, ◌≤◌, get_or, append_assoc, slice_get, length, refl, ◌∷◌, ℕ, false, arith, inr, map, ◌<◌, Some, sym, ◌≡◌, ap, None, subst, option_map, true, Option, zero, replicate, ◌++◌, List, ◌⊎◌, ◌+◌, inl, Bool, ◌∙◌, [], true≢false}
use Rattle.hwp_cpu_row.specs.hwp_cec.Ages.{CecEvent, Note, Round}
use Rattle.hwp_cpu_command.specs.FileHandles.{watched_by, watching_after, RoundStands, anew_with, StandsOn, rounded_by, CanRound, round_ended}
use Rattle.hwp_cpu_row.specs.declared.Row.{Row}
use Rattle.hwp_cpu_row.specs.hwp_geom.declared.Who.{Who}
use Rattle.hwp_cpu_row.specs.hwp_script_words.declared.Command.{Command}
use Rattle.std.proofs.lemmas.Option.{same_Some, slice_get_within, none-some}
use Rattle.hwp_cpu_command.proofs.OfKind.{of-copying, of-fork, of-fsync, of-raise, of-spoil, of-prctl, of-unpoison, of-scrub, of-nested, of-instruction, of-log, of-soft, of-inject, of-evict}
use Rattle.hwp_cpu_row.specs.hwp_geom.declared.Layout.{Layout}
use Rattle.hwp_cpu_command.specs.Stays.{IsAtStop}
use Rattle.hwp_cpu_command.specs.hwp_scrub.declared.Log.{Log}
use Rattle.hwp_cpu.specs.Courses.{begin, IsOfMachine}
use Rattle.hwp_law_served.specs.Offlinings.{KnowsDue, left_among, watched_at, AreDue, watched_along}
use Rattle.hwp_cpu.specs.Serving.{noting, HasToldAll, OwnGoesOn, KeepsWatch, left_so_far}
use Rattle.hwp_cpu_command.specs.Runs.{Runs, RunsAs, RunsDenied}
use Rattle.hwp_cpu_row.specs.hwp_law.Commands.{is_watch}
use Rattle.std.proofs.lemmas.List.{take-append-le, take_all, length-append, length-map, length-replicate, get_or-replicate}
use Rattle.hwp_cpu_row.specs.hwp_law.Watched.{told, due, Watched, watched_after}
use Rattle.hwp_law_served.specs.hwp_banks.declared.Event.{Event}
use Rattle.hwp_cpu_row.specs.hwp_cec.Counters.{StandsFor, begun, next_row, rounded}
use Rattle.hwp_cpu_command.specs.hwp_scrub.declared.LocalChange.{LocalChange}
use Rattle.hwp_cpu_row.specs.hwp_core_rule.declared.View.{View}
use Rattle.hwp_cpu.proofs.commands.CommandStops.{untold-at-start}
use Rattle.hwp_cpu_row.specs.hwp_geom.declared.Frame.{Frame}
use Rattle.hwp_law_served.proofs.Rows.{at_front}
use Rattle.hwp_cpu_row.specs.Acts.{told_notes}
use Rattle.std.specs.Prelude.{IsSome, take}
use Rattle.hwp_cpu_row.specs.hwp_report_text.declared.Answer.{Answer}
use Rattle.std.proofs.lemmas.Bool.{cases_lt}
use Rattle.hwp_cpu_row.specs.declared.Watching.{Watching}
use Rattle.hwp_cpu_command.specs.Jobs.{told_of}
use Rattle.hwp_cpu.proofs.Collecting.{prior-at-first}
use Rattle.hwp_cpu_row.specs.Locals.{IsWatching}
use Rattle.hwp_cpu_command.specs.declared.job.Job.{Job}
use Rattle.hwp_cpu.specs.declared.course.Course.{Course}
use Rattle.std.specs.List.{list_any}
use Rattle.hwp_cpu_row.proofs.of_hwp_core_rule.Lists.{at_push}
use Rattle.hwp_cpu_command.specs.Jobs as jobs
use Rattle.hwp_cpu_row.specs.hwp_script_words.declared.Command.TheVariants as commands
use Rattle.hwp_cpu_command.specs.declared.job.Job.TheVariants as kinds
use Rattle.hwp_cpu_row.specs.hwp_report_text.declared.Answer.TheVariants as answers
use Rattle.hwp_cpu_command.specs.hwp_scrub.declared.LocalChange.TheVariants as changes
use Rattle.hwp_cpu.proofs.causes.DeniedCauses.{access-by, runs-kind}

-- ---- the rows

along-none : (layout : Layout) (list : List Command) (before : Option Watched) → watched_along layout list [] before ≡ before
along-none layout [] before = refl
along-none layout (c ∷ cs) before = refl

along-more : (layout : Layout) (list : List Command) (rows : List Row) (command : Command) (row : Row) (before : Option Watched) → slice_get list (length rows) ≡ Some command
    → watched_along layout list (rows ++ row ∷ []) before ≡ watched_after command row.answer (told_notes layout row.told) (watched_along layout list rows before)
along-more layout [] rows command row before there = absurd (none-some command there)
along-more layout (c ∷ cs) [] command row before there = along-none layout cs (watched_after c row.answer (told_notes layout row.told) before) ∙ ap (λ (x : Command). watched_after x row.answer (told_notes layout row.told) before) (same_Some c command there)
along-more layout (c ∷ cs) (r ∷ rs) command row before there = along-more layout cs rs command row (watched_after c r.answer (told_notes layout r.told) before) there

-- the collector after one command more
pub watched-more : (layout : Layout) (list : List Command) (rows : List Row) (command : Command) (row : Row) → slice_get list (length rows) ≡ Some command
    → watched_at layout list (rows ++ row ∷ []) (length (rows ++ row ∷ [])) ≡ watched_after command row.answer (told_notes layout row.told) (watched_at layout list rows (length rows))
watched-more layout list rows command row there =
    ap (λ (l : List Row). watched_along layout list l None) (take_all (length (rows ++ row ∷ [])) (rows ++ row ∷ []) (omega arith))
    ∙ along-more layout list rows command row None there
    ∙ ap (λ (l : List Row). watched_after command row.answer (told_notes layout row.told) (watched_along layout list l None)) (sym (take_all (length rows) rows (omega arith)))

-- and the frames of its row are those that were due
pub due-more : (layout : Layout) (list : List Command) (rows : List Row) (row : Row) → KnowsDue layout list rows → AreDue layout (watched_at layout list rows (length rows)) row → KnowsDue layout list (rows ++ row ∷ [])
due-more layout list rows row was now n r is = which (at_push rows row r n is)
  where
    front : n ≤ length rows → watched_at layout list (rows ++ row ∷ []) n ≡ watched_at layout list rows n
    front few = ap (λ (l : List Row). watched_along layout list l None) (take-append-le n rows (row ∷ []) few)

    which : (slice_get rows n ≡ Some r) ⊎ (row ≡ r) → AreDue layout (watched_at layout list (rows ++ row ∷ []) n) r
    which (inl early) = let within : n < length rows = slice_get_within rows n r early in subst (λ (w : Option Watched). AreDue layout w r) (sym (front (omega (arith, within)))) (was n r early)
    which (inr same) = last (cases_lt n (length rows))
      where
        last : (n < length rows) ⊎ (length rows ≤ n) → AreDue layout (watched_at layout list (rows ++ row ∷ []) n) r
        last (inl less) = subst (λ (w : Option Watched). AreDue layout w r) (sym (front (omega (arith, less)))) (was n r (at_front rows (row ∷ []) n r less is))
        last (inr most) =
            let within : n < length (rows ++ row ∷ []) = slice_get_within (rows ++ row ∷ []) n r is in
            let all : length (rows ++ row ∷ []) ≡ length rows + 1 = length-append rows (row ∷ []) in
            let at_end : n ≡ length rows = omega (arith, within, all, most) in
            subst (λ (w : Option Watched). AreDue layout w r) (sym (front (omega (arith, at_end)) ∙ ap (watched_at layout list rows) at_end)) (subst (AreDue layout (watched_at layout list rows (length rows))) same now)

-- ---- the collector

-- a list with a `watch` has one
pub has-watch : (list : List Command) (n : ℕ) (command : Command) → slice_get list n ≡ Some command → is_watch command ≡ true → list_any is_watch list ≡ true
has-watch [] n command none watches = absurd (none-some command none)
has-watch (c ∷ cs) zero command there watches = ap (λ (x : Command). is_watch x || list_any is_watch cs) (same_Some c command there) ∙ ap (λ (b : Bool). b || list_any is_watch cs) watches
has-watch (c ∷ cs) (suc n) command there watches = or-true (is_watch c) (list_any is_watch cs) (has-watch cs n command there watches)
  where
    or-true : (a b : Bool) → b ≡ true → (a || b) ≡ true
    or-true true b is = refl
    or-true false b is = is

-- a round ends
round-ends : (frames : ℕ) (notes : List Frame) (watched : Option Watched) (w : Option Watching) → CanRound w → IsWatching frames (noting notes watched) w
    → IsWatching frames (option_map (told (map Note notes ++ Round ∷ [])) watched) (option_map round_ended w)
round-ends frames notes None None stands is = tt
round-ends frames notes None (Some w) stands is = (is.0, length-map w.collector.counts next_row ∙ is.1)
round-ends frames notes (Some v) None stands is = absurd is
round-ends frames notes (Some v) (Some w) stands is = (
  record {
    on = is.0.on;
    threshold = is.0.threshold;
    window = is.0.window;
    stands = subst (λ (es : List CecEvent). StandsFor es (rounded w.collector)) (append_assoc v.events (map Note notes) (Round ∷ [])) (stands (v.events ++ map Note notes) is.0.stands);
  },
  length-map w.collector.counts next_row ∙ is.1,
)

-- no error counted yet
abbrev no_counts : ℕ → List ℕ
no_counts window = replicate window 0

-- new counters stand for no event
begun-stands : (threshold window frames : ℕ) → StandsFor [] (begun threshold window frames)
begun-stands threshold window frames = record {
  each = λ frame k in_frames in_window.
      ap (λ (cells : List ℕ). get_or cells k 0) (get_or-replicate frames frame (no_counts window) [] (let many : length (replicate frames (no_counts window)) ≡ frames = length-replicate frames (no_counts window) in omega (arith, in_frames, many)))
      ∙ get_or-replicate window k 0 0 in_window;
}

counts-are : (frames : ℕ) (watched : Option Watched) (w : Watching) → IsWatching frames watched (Some w) → length w.collector.counts ≡ frames
counts-are frames None w is = is.1
counts-are frames (Some v) w is = is.1

watch-begins : (frames threshold window : ℕ) (watched : Option Watched) (w : Option Watching) → IsSome w → IsWatching frames watched w → IsWatching frames (Some (record { threshold = threshold; window = window; events = [] })) (option_map (anew_with threshold window) w)
watch-begins frames threshold window watched None some is = absurd (true≢false (sym some))
watch-begins frames threshold window watched (Some w) some is = (
  record { on = refl; threshold = refl; window = refl; stands = begun-stands threshold window (length w.collector.counts) },
  length-replicate (length w.collector.counts) (no_counts window) ∙ counts-are frames watched w is,
)

-- what a `log` or a `watch` leaves of it, and a scrub
module _ (frames : ℕ) (notes : List Frame) (watched : Option Watched) (w : Option Watching) (is : IsWatching frames (noting notes watched) w) where
  abbrev Left : Command → Answer → Option Watching → Type 0
  Left command a left = IsWatching frames (watched_after command a notes watched) left

  watch-left : (threshold window : ℕ) (a : Answer) → IsSome w → Left (commands.Watch threshold window) a (watched_by (changes.Watch threshold window) a w)
  watch-left threshold window answers.Done some = watch-begins frames threshold window (noting notes watched) w some is
  watch-left threshold window _ some = is

  scrub-left : (first last : Frame) (a : Answer) → RoundStands a w → Left (commands.Scrub first last) a (rounded_by a w)
  scrub-left first last (answers.Scrubbed n) stands = round-ends frames notes watched w stands is
  scrub-left first last _ stands = is

  log-left : (status addr misc : ℕ) (a : Answer) (l : Log) {event : Event} → l.change ≡ changes.Event event → Left (commands.Log status addr misc) a (watched_by l.change a w)
  log-left status addr misc a l same = subst (λ (c : LocalChange). Left (commands.Log status addr misc) a (watched_by c a w)) (sym same) is

  of-job : (command : Command) (a : Answer) (j k : Job) → j ≡ k → Left command a (watching_after k a w) → Left command a (watching_after j a w)
  of-job command a j k same left = subst (λ (x : Job). Left command a (watching_after x a w)) (sym same) left

  -- after a command with this answer
  plain-ends : (layout : Layout) (who : Who) (command : Command) (j : Job) (a : Answer) → RunsAs layout who command None j → StandsOn j a w → (is_watch command ≡ true → IsSome w) → Left command a (watching_after j a w)
  plain-ends layout who (commands.Load thread slot line) j a runs stands room = let task = of-instruction j runs.job_is in of-job (commands.Load thread slot line) a j _ task.1 is
  plain-ends layout who (commands.Fetch thread slot line) j a runs stands room = let task = of-instruction j runs.job_is in of-job (commands.Fetch thread slot line) a j _ task.1 is
  plain-ends layout who (commands.KLoad thread slot line) j a runs stands room = let task = of-instruction j runs.job_is in of-job (commands.KLoad thread slot line) a j _ task.1 is
  plain-ends layout who (commands.Store thread slot line word) j a runs stands room = let task = of-instruction j runs.job_is in of-job (commands.Store thread slot line word) a j _ task.1 is
  plain-ends layout who (commands.Free slot) j a runs stands room = let task = of-evict j runs.1.job_is in of-job (commands.Free slot) a j _ task.1 is
  plain-ends layout who (commands.Drop page) j a runs stands room = let task = of-evict j runs.job_is in of-job (commands.Drop page) a j _ task.1 is
  plain-ends layout who (commands.Sync page) j a runs stands room = let task = of-evict j runs.job_is in of-job (commands.Sync page) a j _ task.1 is
  plain-ends layout who (commands.Out page) j a runs stands room = let task = of-evict j runs.job_is in of-job (commands.Out page) a j _ task.1 is
  plain-ends layout who (commands.Fsync file) j a runs stands room = let task = of-fsync j runs.2 in of-job (commands.Fsync file) a j _ task.1 is
  plain-ends layout who (commands.Open file) j a runs stands room = let task = of-fsync j runs.2 in of-job (commands.Open file) a j _ task.1 is
  plain-ends layout who (commands.Prctl thread args) j a runs stands room = let task = of-prctl j runs.job_is in of-job (commands.Prctl thread args) a j _ task.1 is
  plain-ends layout who (commands.Fork thread child) j a runs stands room = let task = of-fork j runs.job_is in of-job (commands.Fork thread child) a j _ task.1 is
  plain-ends layout who (commands.Bad frame line) j a runs stands room = let task = of-spoil j runs.job_is in of-job (commands.Bad frame line) a j _ task.1 is
  plain-ends layout who (commands.Weak frame line) j a runs stands room = let task = of-spoil j runs.job_is in of-job (commands.Weak frame line) a j _ task.1 is
  plain-ends layout who (commands.RaiseUser thread ripv eipv) j a runs stands room = let task = of-raise j runs.job_is in of-job (commands.RaiseUser thread ripv eipv) a j _ task.1 is
  plain-ends layout who (commands.RaiseKernel ripv eipv) j a runs stands room = let task = of-raise j runs.job_is in of-job (commands.RaiseKernel ripv eipv) a j _ task.1 is
  plain-ends layout who commands.RaiseNested j a runs stands room = let task = of-nested j runs in of-job commands.RaiseNested a j _ task.1 is
  plain-ends layout who (commands.Inject frame) j a runs stands room = let task = of-inject j runs.job_is in of-job (commands.Inject frame) a j _ task.1 is
  plain-ends layout who (commands.Soft frame) j a runs stands room = let task = of-soft j runs.job_is in of-job (commands.Soft frame) a j _ task.1 is
  plain-ends layout who (commands.Unpoison frame) j a runs stands room = let task = of-unpoison j runs.job_is in of-job (commands.Unpoison frame) a j _ task.1 is
  plain-ends layout who (commands.Log status addr misc) j a runs stands room = let task = of-log j runs.job_is in of-job (commands.Log status addr misc) a j _ task.1 (log-left status addr misc a task.0 (ap (λ (l : Log). l.change) task.2))
  plain-ends layout who (commands.Watch threshold window) j a runs stands room = let task = of-log j runs.job_is in
      of-job (commands.Watch threshold window) a j _ task.1 (subst (λ (c : LocalChange). Left (commands.Watch threshold window) a (watched_by c a w)) (sym (ap (λ (l : Log). l.change) task.2)) (watch-left threshold window a (room refl)))
  plain-ends layout who (commands.Scrub first last) j a runs stands room = let task = of-scrub j runs.job_is in of-job (commands.Scrub first last) a j _ task.1 (scrub-left first last a (subst (λ (x : Job). StandsOn x a w) task.1 stands))

  copy-ends : (layout : Layout) (who : Who) (command : Command) (from : VSlot) (j : Job) (a : Answer) → RunsAs layout who command (Some from) j → Left command a (watching_after j a w)
  copy-ends layout who (commands.Store thread slot line word) from j a runs = let task = of-copying j runs.job_is in of-job (commands.Store thread slot line word) a j _ task.1 is
  copy-ends layout who command from j a runs = absurd runs

  denied-ends : (layout : Layout) (who : Who) (command : Command) (copies : Option VSlot) (j : Job) (a : Answer) → RunsDenied layout who command copies j → Left command a (watching_after j a w)
  denied-ends layout who command copies j a denied = let task = (runs-kind j denied).1 in
      access-by (λ (c : Command). Left c a (watching_after j a w)) (λ thread slot line. of-job (commands.Load thread slot line) a j _ task is) (λ thread slot line. of-job (commands.Fetch thread slot line) a j _ task is)
      (λ thread slot line. of-job (commands.KLoad thread slot line) a j _ task is) (λ thread slot line word. of-job (commands.Store thread slot line word) a j _ task is) command denied.1.access

  pub watching-ends : (layout : Layout) (who : Who) (command : Command) (copies : Option VSlot) (j : Job) (a : Answer) → Runs layout who command copies j → StandsOn j a w → (is_watch command ≡ true → IsSome w) → Left command a (watching_after j a w)
  watching-ends layout who command copies j a (inl denied) stands room = denied-ends layout who command copies j a denied
  watching-ends layout who command None j a (inr runs) stands room = plain-ends layout who command j a runs stands room
  watching-ends layout who command (Some from) j a (inr runs) stands room = copy-ends layout who command from j a runs

-- a collector stays one
pub room-stays : (j : Job) (a : Answer) (w : Option Watching) → IsSome w → IsSome (watching_after j a w)
room-stays j a None some = absurd (true≢false (sym some))
room-stays (kinds.Log l) a (Some w) some = by l.change a
  where
    by : (c : LocalChange) (x : Answer) → IsSome (watched_by c x (Some w))
    by (changes.Watch threshold window) answers.Done = refl
    by _ _ = refl
room-stays (kinds.Scrub s) a (Some w) some = by a
  where
    by : (x : Answer) → IsSome (rounded_by x (Some w))
    by (answers.Scrubbed n) = refl
    by _ = refl
room-stays _ a (Some w) some = refl

-- ---- where a command begins

-- nothing is told yet
pub watch-starts : (layout : Layout) (view : View) (who : Who) (list : List Command) (watched : Option Watched) (c : Course) (watching : Option Watching) → c ≡ begin c.own watching layout.frames → IsAtStop c.own → IsWatching layout.frames watched watching → (list_any is_watch list ≡ true → IsSome watching)
    → KeepsWatch layout view who list watched c
watch-starts layout view who list watched c watching is start watches room = subst (KeepsWatch layout view who list watched) (sym is) (record {
  few = omega arith;
  frames_are = refl;
  watching = subst (λ (l : List Frame). IsWatching layout.frames (noting l watched) watching) (sym none) (none-noted watched watches);
  room = room;
  due = sym (ap (due watched) none ∙ due-none watched);
  frames = refl;
  offlined = λ i o there. absurd (none-some o there);
  behind = omega arith;
})
  where
    none : told_notes layout (take 0 (told_of c.own)) ≡ []
    none = refl

    none-noted : (x : Option Watched) → IsWatching layout.frames x watching → IsWatching layout.frames (noting [] x) watching
    none-noted None at = at
    none-noted (Some v) at = subst (λ (y : Watched). IsWatching layout.frames (Some y) watching) (sym (told-none v)) at

-- its own task fits, and no frame is due
pub own-starts : (layout : Layout) (view : View) (command : Command) (copies : Option VSlot) (c : Course) (watching : Option Watching) → c ≡ begin c.own watching layout.frames → IsAtStop c.own → jobs.FitsFrom [] layout view c.own → HasMadeNone view (jobs.who c.own)
    → OwnGoesOn layout view command copies c
own-starts layout view command copies c watching is start fits made = subst (OwnGoesOn layout view command copies) (sym is) (record {
  base = [];
  fits = fits;
  prior = prior-at-first layout command copies;
  left = none-left c.own made;
  all = refl;
  told = none-told c.own start;
})
  where
    none-left : (j : Job) → HasMadeNone view (jobs.who j) → left_so_far [] view j ≡ []
    none-left (kinds.Copying y) none = ap left_among none
    none-left _ none = refl

    none-told : (j : Job) → IsAtStop j → HasToldAll watching j 0
    none-told (kinds.Instruction i) at = λ on. sym (ap length (untold-at-start (kinds.Instruction i) at))
    none-told (kinds.Copying y) at = λ on. sym (ap length (untold-at-start (kinds.Copying y) at))
    none-told _ at = refl

-- the collector is of the machine
pub of-machine : (layout : Layout) (watched : Option Watched) (w : Option Watching) → IsWatching layout.frames watched w → IsOfMachine layout w
of-machine layout None None is = tt
of-machine layout None (Some w) is = (is.1, λ on. absurd (true≢false (sym on ∙ is.0)))
of-machine layout (Some v) None is = absurd is
of-machine layout (Some v) (Some w) is = (is.1, λ on. (v.events, is.0.stands))
