-- What a row says of its command at the end of a run: what the command told is right, and so is what it did to a frame itself: a failure
-- has its entry and is the command's answer, and a frame that was taken out of use isn't the kernel's, and the answer says so.
use Rattle.std.proofs.Common.{◌≡◌, ℕ, ◌<◌, Bool, true, false, List, Option, Some, None, option_and_then, slice_get, refl, sym, ap, ◌∙◌, subst, true≢false}
use Rattle.std.proofs.lemmas.Option.{none-some, same_Some, slice_get_within}
use Rattle.hwp_law.specs.hwp_geom.declared.VSlot.{VSlot}
use Rattle.hwp_law.specs.hwp_geom.declared.Cpu.{Cpu}
use Rattle.hwp_law.specs.hwp_geom.declared.Frame.{Frame}
use Rattle.hwp_law.specs.hwp_geom.declared.Layout.{Layout}
use Rattle.hwp_law.specs.hwp_geom.declared.Thread.{Thread}
use Rattle.hwp_law.specs.hwp_geom.declared.Who.{Who}
use Rattle.hwp_law.specs.hwp_page.declared.At.{At}
use Rattle.hwp_law.specs.hwp_page.declared.Outcome.{Outcome}
use Rattle.hwp_law.specs.hwp_page.declared.Outcome.TheVariants as outcomes
use Rattle.hwp_law.specs.hwp_page.declared.Situation.{Situation}
use Rattle.hwp_law.specs.hwp_page.declared.Situation.TheVariants as situations
use Rattle.hwp_law.specs.hwp_page.Situations.{outcome_of}
use Rattle.hwp_plain.specs.hwp_core_rule.declared.State.{State}
use Rattle.hwp_plain.specs.hwp_core_rule.declared.View.{View}
use Rattle.hwp_plain.specs.hwp_core_rule.Lists.{EachMember}
use Rattle.hwp_plain.specs.hwp_core_rule.Boards.{view_of}
use Rattle.hwp_cpu_row.specs.hwp_claim_act.Abandoned.{IsOfPage}
use Rattle.hwp_cpu_row.specs.hwp_claim.Fails.{IsPageless}
use Rattle.hwp_law.specs.hwp_script_words.declared.Command.{Command}
use Rattle.hwp_law.specs.hwp_script_words.declared.Command.TheVariants as commands
use Rattle.hwp_law.specs.hwp_script_words.declared.Script.{Script}
use Rattle.hwp_law.specs.hwp_report_text.Offlines.{offline_answer}
use Rattle.hwp_law.specs.hwp_report_text.declared.Answer.{Answer}
use Rattle.hwp_law.specs.hwp_report_text.declared.Answer.TheVariants as answers
use Rattle.hwp_law.specs.hwp_report_text.declared.OfflineResult.{OfflineResult}
use Rattle.hwp_law.specs.hwp_report_text.declared.OfflineResult.TheVariants as results
use Rattle.hwp_law.specs.hwp_report_text.declared.Report.{Report}
use Rattle.hwp_law.specs.Commands.{current_thread}
use Rattle.hwp_law.specs.Outcomes.{outcome_answer}
use Rattle.hwp_law.specs.Records.{is_kernel_found, is_moved}
use Rattle.hwp_law_served.proofs.Homes.{there-is}
use Rattle.hwp_cpu_row.specs.hwp_claim.declared.Found.{Found}
use Rattle.hwp_cpu_row.specs.declared.FrameChange.{FrameChange}
use Rattle.hwp_cpu_row.specs.declared.FrameChange.TheVariants as owns
use Rattle.hwp_cpu_row.specs.declared.Row.{Row}
use Rattle.hwp_cpu_row.specs.hwp_claim.declared.EventOutcome.{EventOutcome}
use Rattle.hwp_cpu_row.specs.hwp_claim.Fits.{IsEntered}
use Rattle.hwp_law_served.specs.Accounts.{IsOfflined, IsOwn}
use Rattle.hwp_law_served.specs.Causes.{HasCome, HasFailed, IsAnswerCaused, IsCausedWith}
use Rattle.hwp_law_served.specs.Offlinings.{IsOfflineServed}
use Rattle.hwp_law_served.specs.Served.{IsOffliningServed}
use Rattle.hwp_law_served.specs.Runs.{row_at}
use Rattle.hwp_law_served.proofs.RunEnds.{IsEnd, IsOf, command-of, list-of, same-row, served-of}
use Rattle.hwp_law_served.proofs.lines.ToldRight.{IsRight, told-right}
use Rattle.hwp_law_served.proofs.copied.Uncopied.{own-no-store, uncopied}

-- ---- what a failure finds

page-sound : (situation : Situation) → IsOfPage situation → is_kernel_found situation ≡ false
page-sound situations.Free paged = absurd paged
page-sound situations.Kernel paged = absurd paged
page-sound situation paged = refl

pageless-found : (layout : Layout) (frame : Frame) (kernel : _) (situation : Situation) → slice_get layout.kernel frame.0 ≡ Some kernel → IsPageless layout frame situation → is_kernel_found situation ≡ kernel
pageless-found layout frame kernel situations.Free is none = same_Some false kernel (sym none ∙ is)
pageless-found layout frame kernel situations.Kernel is none = same_Some true kernel (sym none ∙ is)
pageless-found layout frame kernel situation is none = absurd none

-- the kernel exactly in a frame of the kernel
pub kernel-found : (layout : Layout) (view : View) (who : Who) (frame : Frame) (required : Option Thread) (kernel : _) (found : Found) → slice_get layout.kernel frame.0 ≡ Some kernel → IsEntered layout view who frame required found found.at → is_kernel_found found.situation ≡ kernel
kernel-found layout view who frame required kernel found is entered = which found.at entered
  where
    which : (o : Option At) → IsEntered layout view who frame required found o → is_kernel_found found.situation ≡ kernel
    which None (pageless, unsignalled) = pageless-found layout frame kernel found.situation is pageless
    which (Some place) (made, other) = page-sound found.situation made.paged ∙ same_Some false kernel (sym other ∙ is)

-- ---- what a command did to a frame itself

pub record IsOwnFailure (layout : Layout) (view : View) (who : Who) (command : Command) (answer : Answer) (frame : Frame) (found : Found) : Type 0 where
  pub command_is : command ≡ commands.Inject frame
  pub answer_is : answer ≡ outcome_answer (outcome_of found.situation)
  pub failed : HasFailed layout view who frame found

pub record IsOwnOffline (layout : Layout) (command : Command) (answer : Answer) (frame : Frame) (moved : Bool) : Type 0 where
  pub command_is : command ≡ commands.Soft frame
  pub answer_is : IsOfflined moved answer
  pub users : slice_get layout.kernel frame.0 ≡ Some false

pub record IsOwnRevival (command : Command) (answer : Answer) (frame : Frame) : Type 0 where
  pub command_is : command ≡ commands.Unpoison frame
  pub answer_is : answer ≡ answers.Done

abbrev pub IsOwnRight : Layout → View → Who → Command → Answer → FrameChange → Type 0
IsOwnRight layout view who command answer (owns.Failed frame found) = IsOwnFailure layout view who command answer frame found
IsOwnRight layout view who command answer (owns.Offlined frame cycle moved) = IsOwnOffline layout command answer frame moved
IsOwnRight layout view who command answer (owns.Revived frame cycle) = IsOwnRevival command answer frame

-- what a failure found, and else this
abbrev found_or : Found → FrameChange → Found
found_or other (owns.Failed frame found) = found
found_or other (owns.Offlined frame cycle moved) = other
found_or other (owns.Revived frame cycle) = other

module _ (layout : Layout) (earlier : List (Command × Answer)) (view : View) (who : Who) (told : List EventOutcome) where
  -- the failure is the one that the answer came from
  come-so : (frame : Frame) (found : Found) (outcome : Outcome) → HasCome layout view who frame (Some (owns.Failed frame found)) outcome → HasFailed layout view who frame found
  come-so frame found outcome come = subst (HasFailed layout view who frame) (ap (found_or found) (same_Some (owns.Failed frame come.found) (owns.Failed frame found) (sym come.own_is))) come.failed

  failed-so : (frame : Frame) (found : Found) (outcome : Outcome) → IsAnswerCaused layout earlier view who (commands.Inject frame) told (Some (owns.Failed frame found)) (outcome_answer outcome) → HasFailed layout view who frame found
  failed-so frame found outcomes.Recovered caused = come-so frame found outcomes.Recovered caused.1
  failed-so frame found outcomes.Delayed caused = come-so frame found outcomes.Delayed caused.1
  failed-so frame found outcomes.Ignored caused = come-so frame found outcomes.Ignored caused.1

  -- the kernel's frames aren't taken out of use
  users-so : (frame : Frame) (own : Option FrameChange) (moved : Bool) (answer : Answer) → IsOfflined moved answer → IsAnswerCaused layout earlier view who (commands.Soft frame) told own answer → slice_get layout.kernel frame.0 ≡ Some false
  users-so frame own false answer is caused = (subst (IsAnswerCaused layout earlier view who (commands.Soft frame) told own) is caused).0
  users-so frame own true answer is caused = which answer is caused
    where
      which : (a : Answer) → is_moved (Some a) ≡ true → IsAnswerCaused layout earlier view who (commands.Soft frame) told own a → slice_get layout.kernel frame.0 ≡ Some false
      which (answers.Moved other at) is caused = caused.0
      which a is caused = absurd (true≢false (sym is))

  pub own-so : (command : Command) (answer : Answer) (own : FrameChange) → IsOwn command answer (Some own) → IsAnswerCaused layout earlier view who command told (Some own) answer → IsOwnRight layout view who command answer own
  own-so (commands.Inject f) answer (owns.Failed frame found) (same, came) caused = record {
    command_is = ap commands.Inject (sym same);
    answer_is = came;
    failed = failed-so frame found (outcome_of found.situation)
        (subst (λ (x : Frame). IsAnswerCaused layout earlier view who (commands.Inject x) told (Some (owns.Failed frame found)) (outcome_answer (outcome_of found.situation))) (sym same)
        (subst (IsAnswerCaused layout earlier view who (commands.Inject f) told (Some (owns.Failed frame found))) came caused));
  }
  own-so (commands.Soft f) answer (owns.Offlined frame cycle moved) (same, is) caused = record {
    command_is = ap commands.Soft (sym same);
    answer_is = is;
    users = subst (λ (x : Frame). slice_get layout.kernel x.0 ≡ Some false) (sym same) (users-so f (Some (owns.Offlined frame cycle moved)) moved answer is caused);
  }
  own-so (commands.Unpoison f) answer (owns.Revived frame cycle) (same, is) caused = record { command_is = ap commands.Unpoison (sym same); answer_is = is }
  own-so command answer own is caused = absurd is

-- ---- what was done to a frame that was taken out of use beside a command

-- the frame isn't the kernel's, and what came of it says whether a page left it
pub record IsTakenSo (layout : Layout) (frame : Frame) (result : OfflineResult) (change : FrameChange) : Type 0 where
  pub cycle : ℕ
  pub moved : Bool
  pub change_is : change ≡ owns.Offlined frame cycle moved
  pub users : slice_get layout.kernel frame.0 ≡ Some false
  pub says : IsOfflined moved (offline_answer result)

pub taken-so : (layout : Layout) (view : View) (who : Who) (frame : Frame) (result : OfflineResult) (own : Option FrameChange) (change : FrameChange) → IsOfflineServed layout view who frame own result → own ≡ Some change → IsTakenSo layout frame result change
taken-so layout view who frame (results.Moved other at) own change (users, changed, free) is =
    record { cycle = changed.0; moved = true; change_is = same_Some change (owns.Offlined frame changed.0 true) (sym is ∙ changed.1); users = users; says = refl }
taken-so layout view who frame results.TakenFree own change (users, changed) is =
    record { cycle = changed.0; moved = false; change_is = same_Some change (owns.Offlined frame changed.0 false) (sym is ∙ changed.1); users = users; says = refl }
taken-so layout view who frame results.Already own change (users, saw, none) is = absurd (none-some change (sym none ∙ is))
taken-so layout view who frame (results.HasBad mask) own change (users, saw, none) is = absurd (none-some change (sym none ∙ is))
taken-so layout view who frame results.NoFrame own change (users, saw, none) is = absurd (none-some change (sym none ∙ is))
taken-so layout view who frame results.Stopped own change (saw, none) is = absurd (none-some change (sym none ∙ is))

-- ---- at the end

module _ (script : Script) (copies : Who → Option VSlot) (seat : Cpu → ℕ) (last : State) (report : Report) (end : IsEnd script copies seat last report) where
  -- the command of a row
  pub record OfRow (who : Who) (row : Row) : Type 0 where
    pub of : IsOf script copies end.rows (view_of last (seat who.cpu)) who
    pub same : of.row ≡ row

  pub row-of : (who : Who) (row : Row) → row_at end.rows who ≡ Some row → OfRow who row
  row-of who row is = which (slice_get end.rows who.cpu.0) refl is
    where
      which : (o : Option (List Row)) → slice_get end.rows who.cpu.0 ≡ o → option_and_then (λ (own : List Row). slice_get own who.seq) o ≡ Some row → OfRow who row
      which None none there = absurd (none-some row there)
      which (Some own) own_is there =
          let inside : who.cpu.0 < script.layout.cpus = subst (λ (n : ℕ). who.cpu.0 < n) end.rows_fit (slice_get_within end.rows who.cpu.0 own own_is) in
          let list = list-of script copies seat last report end who.cpu inside in
          let served = (served-of script copies seat last report end who.cpu list.0 own list.1 own_is).0 in
          let command = there-is list.0 who.seq (subst (λ (n : ℕ). who.seq < n) served.count (slice_get_within own who.seq row there)) in
          let of = command-of script copies seat last report end who list.0 command.0 list.1 command.1 in
          record { of = of; same = same-row of own row own_is there }

  -- what it told is right
  pub right-of : (who : Who) (row : Row) (r : OfRow who row) → EachMember (IsRight script.layout (view_of last (seat who.cpu)) who (current_thread r.of.command)) row.told
  right-of who row r =
      subst (λ (x : Row). EachMember (IsRight script.layout (view_of last (seat who.cpu)) who (current_thread r.of.command)) x.told) r.same
      (told-right script.layout (view_of last (seat who.cpu)) who (copies who) r.of.command r.of.row.answer r.of.before r.of.row.told r.of.after r.of.served.told)

  -- and so is what it did to a frame itself
  pub own-of : (who : Who) (row : Row) (r : OfRow who row) (own : FrameChange) → row.own ≡ Some own → IsOwnRight script.layout (view_of last (seat who.cpu)) who r.of.command r.of.row.answer own
  own-of who row r own own_is =
      let is : r.of.row.own ≡ Some own = ap (λ (x : Row). x.own) r.same ∙ own_is in
      own-so script.layout r.of.earlier (view_of last (seat who.cpu)) who r.of.row.told r.of.command r.of.row.answer own (subst (IsOwn r.of.command r.of.row.answer) is r.of.served.accounted.own)
      (uncopied script.layout r.of.earlier (copies who) (view_of last (seat who.cpu)) who r.of.command r.of.before r.of.row.told (Some own) r.of.row.answer (own-no-store r.of.command r.of.row.answer own (subst (IsOwn r.of.command r.of.row.answer) is r.of.served.accounted.own))
      (subst (λ (o : Option FrameChange). IsCausedWith script.layout r.of.earlier (copies who) (view_of last (seat who.cpu)) who r.of.command r.of.before r.of.row.told o r.of.row.answer) is r.of.served.caused))

  -- and what came of the frames that were taken out of use beside it
  pub offlined-of : (who : Who) (row : Row) (r : OfRow who row) → EachMember (IsOffliningServed script.layout (view_of last (seat who.cpu)) who) row.offlined
  offlined-of who row r = subst (λ (x : Row). EachMember (IsOffliningServed script.layout (view_of last (seat who.cpu)) who) x.offlined) r.same r.of.served.offlined
