use Rattle.std.proofs.Common.{ap, sym, subst}
use Rattle.hwp_law.specs.Commands.{arrival_of}
use Rattle.hwp_law.specs.hwp_script_words.declared.Command.{Command}
use Rattle.hwp_check_event_line.specs.Reading.{copies_in}
use Rattle.hwp_check_event_line.specs.Firsts.{shown_lines}
use Rattle.hwp_check_events.specs.Copied.{copied_by}
use Rattle.hwp_check_events.specs.Judged.{IsJudged}
use Rattle.hwp_check_events.proofs.JudgeLaws.{accessed-judged, fetch-judged, log-judged, raised-judged, scrubbed-judged, store-judged}
use Rattle.hwp_check_events.proofs.judge.command_faults.Goals as goal
use Rattle.hwp_check_events.proofs.judge.command_faults.Goals.{in-Load, in-Load-2}

pub returns-in-Load : goal.returns-in-Load
returns-in-Load c =
    let v = c.args.case.now in
    subst (λ (x : Command). IsJudged v.script (copies_in v.copies) v.report v.who x c.args.raw.now c.judge_access-in-Load.new.raw (shown_lines v.lines) c.judge_access-in-Load.result) c.command.ensures.command
    (elim c.in-Load-1.branch [
      | in-Load w ↦
          accessed-judged v.script (copies_in v.copies) v.report v.who c.command.result.now c.args.raw.now c.judge_access-in-Load.new.raw (shown_lines v.lines) c.judge_access-in-Load.result (arrival_of v.command) (ap arrival_of (sym c.command.ensures.command)) w.in-Load.line w.in-Load.is
          (rw w.line-is at c.judge_access-in-Load.ensures)
      | in-Load-2 w ↦
          accessed-judged v.script (copies_in v.copies) v.report v.who c.command.result.now c.args.raw.now c.judge_access-in-Load.new.raw (shown_lines v.lines) c.judge_access-in-Load.result (arrival_of v.command) (ap arrival_of (sym c.command.ensures.command)) w.in-Load.line w.in-Load.is
          (rw w.line-is at c.judge_access-in-Load.ensures)
    ])

pub returns-in-Store : goal.returns-in-Store
returns-in-Store c =
    let v = c.args.case.now in
    subst (λ (x : Command). IsJudged v.script (copies_in v.copies) v.report v.who x c.args.raw.now c.judge_store.new.raw (shown_lines v.lines) c.judge_store.result) c.command.ensures.command
    (store-judged v.script (copies_in v.copies) v.report v.who c.command.result.now c.args.raw.now c.judge_store.new.raw (shown_lines v.lines) c.judge_store.result (arrival_of v.command) (ap arrival_of (sym c.command.ensures.command))
    c.in-Store.thread c.in-Store.slot c.in-Store.line c.in-Store.word (copied_by v.script.layout (copies_in v.copies) v.report v.who v.command) c.in-Store.is
    (ap (copied_by v.script.layout (copies_in v.copies) v.report v.who) (sym c.command.ensures.command)) c.judge_store.ensures)

pub returns-in-Scrub : goal.returns-in-Scrub
returns-in-Scrub c =
    let v = c.args.case.now in
    subst (λ (x : Command). IsJudged v.script (copies_in v.copies) v.report v.who x c.args.raw.now c.judge_scrub.new.raw (shown_lines v.lines) c.judge_scrub.result) c.command.ensures.command
    (scrubbed-judged v.script (copies_in v.copies) v.report v.who c.command.result.now c.args.raw.now c.judge_scrub.new.raw (shown_lines v.lines) c.judge_scrub.result (arrival_of v.command) (ap arrival_of (sym c.command.ensures.command)) c.in-Scrub.first c.in-Scrub.last c.in-Scrub.is c.judge_scrub.ensures)

pub returns-in-Fetch : goal.returns-in-Fetch
returns-in-Fetch c =
    let v = c.args.case.now in
    subst (λ (x : Command). IsJudged v.script (copies_in v.copies) v.report v.who x c.args.raw.now c.judge_access.new.raw (shown_lines v.lines) c.judge_access.result) c.command.ensures.command
    (fetch-judged v.script (copies_in v.copies) v.report v.who c.command.result.now c.args.raw.now c.judge_access.new.raw (shown_lines v.lines) c.judge_access.result (arrival_of v.command) (ap arrival_of (sym c.command.ensures.command)) c.in-Fetch.thread c.in-Fetch.slot c.in-Fetch.line c.in-Fetch.is c.judge_access.ensures)

pub returns-in-RaiseUser : goal.returns-in-RaiseUser
returns-in-RaiseUser c =
    let v = c.args.case.now in
    subst (λ (x : Command). IsJudged v.script (copies_in v.copies) v.report v.who x c.args.raw.now c.judge_raise.new.raw (shown_lines v.lines) c.judge_raise.result) c.command.ensures.command
    (raised-judged v.script (copies_in v.copies) v.report v.who c.command.result.now c.args.raw.now c.judge_raise.new.raw (shown_lines v.lines) c.judge_raise.result (arrival_of v.command) (ap arrival_of (sym c.command.ensures.command)) c.in-RaiseUser.is c.judge_raise.ensures)

pub returns-in-Log : goal.returns-in-Log
returns-in-Log c =
    let v = c.args.case.now in
    subst (λ (x : Command). IsJudged v.script (copies_in v.copies) v.report v.who x c.args.raw.now c.judge_log.new.raw (shown_lines v.lines) c.judge_log.result) c.command.ensures.command
    (log-judged v.script (copies_in v.copies) v.report v.who c.command.result.now c.args.raw.now c.judge_log.new.raw (shown_lines v.lines) c.judge_log.result (arrival_of v.command) (ap arrival_of (sym c.command.ensures.command)) c.in-Log.status c.in-Log.addr c.in-Log.misc c.in-Log.is c.judge_log.ensures.scanned c.judge_log.ensures.lacks c.judge_log.ensures.left)
