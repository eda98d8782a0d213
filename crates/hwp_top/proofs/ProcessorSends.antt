-- A processor may go to another thread, with all that its command holds. The search that shows it of the whole type at once stops at
-- its limits, so it goes type by type: each lemma is of one that many others hold, or that holds many.
use denote.RattleType.{RattleType}
use denote.Param.Send.{IsSend, IsSync, sendable}
use Rattle.std.proofs.Crossing.{crosses}
use Rattle.hwp_threads.specs.hwp_geom.contracts.list.List as List
use Rattle.hwp_threads.specs.hwp_geom.contracts.layout.Layout as Layout
use Rattle.hwp_top_report.specs.hwp_script_words.contracts.command.Command as Command
use Rattle.hwp_top_report.specs.hwp_cpu_row.hwp_cec.contracts.ring.Ring as Ring
use Rattle.hwp_top_report.specs.hwp_cpu_row.hwp_cec.contracts.collector.Collector as Collector
use Rattle.hwp_top_report.specs.hwp_cpu_row.contracts.local.Watching as Watching
use Rattle.hwp_top_report.specs.hwp_cpu_row.contracts.local.Local as Local
use Rattle.hwp_top_report.specs.hwp_report_text.contracts.lines.Answer as Answer
use Rattle.hwp_top_report.specs.hwp_claim.contracts.told.EventOutcome as EventOutcome
use Rattle.hwp_top_report.specs.hwp_cpu_row.contracts.row.FrameChange as FrameChange
use Rattle.hwp_top_report.specs.hwp_cpu_row.contracts.row.Offlining as Offlining
use Rattle.hwp_top_report.specs.hwp_cpu_row.contracts.row.Row as Row
use Rattle.hwp_threads.specs.hwp_page.contracts.entry.Entry as Entry
use Rattle.hwp_threads.specs.hwp_page.contracts.body.Body as Body
use Rattle.hwp_top_report.specs.hwp_core.contracts.give_up.GiveUp as GiveUp
use Rattle.hwp_cpu.specs.hwp_fault.contracts.fault.FaultAt as FaultAt
use Rattle.hwp_cpu.specs.hwp_fault.contracts.access.AccessAt as AccessAt
use Rattle.hwp_cpu.specs.hwp_fault.contracts.access.Request as Request
use Rattle.hwp_top_report.specs.hwp_claim_frame.contracts.claim.ClaimAt as ClaimAt
use Rattle.hwp_top_report.specs.hwp_claim_act.contracts.act.ActAt as ActAt
use Rattle.hwp_top_report.specs.hwp_claim.contracts.handler.Handler as Handler
use Rattle.hwp_cpu.specs.hwp_cpu_access.contracts.instruction.Instruction as Instruction
use Rattle.hwp_cpu.specs.hwp_cpu_command.hwp_evict.contracts.evict.EvictAt as EvictAt
use Rattle.hwp_cpu.specs.hwp_cpu_command.hwp_evict.contracts.evict.Evict as Evict
use Rattle.hwp_cpu.specs.hwp_cpu_command.hwp_evict.contracts.fsync.Fsync as Fsync
use Rattle.hwp_cpu.specs.hwp_cpu_command.hwp_fork.contracts.cow.Cow as Cow
use Rattle.hwp_cpu.specs.hwp_cpu_command.hwp_cpu_access.contracts.copying.CopyingAt as CopyingAt
use Rattle.hwp_cpu.specs.hwp_cpu_command.hwp_cpu_access.contracts.copying.Copying as Copying
use Rattle.hwp_cpu.specs.hwp_cpu_control.contracts.prctl.Prctl as Prctl
use Rattle.hwp_cpu.specs.hwp_cpu_control.contracts.fork.Fork as Fork
use Rattle.hwp_cpu.specs.hwp_cpu_control.contracts.denied.Denied as Denied
use Rattle.hwp_cpu.specs.hwp_scrub.contracts.log.Log as Log
use Rattle.hwp_cpu.specs.hwp_scrub.contracts.raise.Raise as Raise
use Rattle.hwp_cpu.specs.hwp_scrub.contracts.scrub.Scrub as Scrub
use Rattle.hwp_cpu.specs.hwp_cpu_control.contracts.spoil.Spoil as Spoil
use Rattle.hwp_cpu.specs.hwp_cpu_control.contracts.nested.Nested as Nested
use Rattle.hwp_top_report.specs.hwp_claim.contracts.inject.Inject as Inject
use Rattle.hwp_cpu.specs.hwp_soft_move.contracts.seize.SeizeAt as SeizeAt
use Rattle.hwp_cpu.specs.hwp_soft_move.contracts.relocate.Relocate as Relocate
use Rattle.hwp_cpu.specs.hwp_soft.contracts.soft.SoftAt as SoftAt
use Rattle.hwp_cpu.specs.hwp_soft.contracts.soft.Soft as Soft
use Rattle.hwp_cpu.specs.hwp_soft.contracts.unpoison.Unpoison as Unpoison
use Rattle.hwp_cpu.specs.hwp_cpu_command.contracts.job.Job as Job
use Rattle.hwp_top_report.specs.hwp_cpu_row.contracts.due.DueFrames as DueFrames
use Rattle.hwp_cpu.specs.contracts.course.Course as Course
use Rattle.hwp_cpu.specs.contracts.processor.Processor as Processor

list-send : (T : RattleType) → IsSend T → IsSend (List.the_row T)
list-send T s = search (sendable, crosses) depth 100 fits 20000

list-sync : (T : RattleType) → IsSync T → IsSync (List.the_row T)
list-sync T s = search (sendable, crosses) depth 100 fits 20000

layout-send : IsSend Layout.the_field.row
layout-send = search (list-send, sendable, crosses) depth 100 fits 20000

layout-sync : IsSync Layout.the_field.row
layout-sync = search (list-sync, sendable, crosses) depth 100 fits 20000

command-send : IsSend Command.the_field.row
command-send = search (sendable, crosses) depth 100 fits 20000

answer-send : IsSend Answer.the_field.row
answer-send = search (sendable, crosses) depth 100 fits 20000

event-outcome-send : IsSend EventOutcome.the_field.row
event-outcome-send = search (sendable, crosses) depth 100 fits 20000

frame-change-send : IsSend FrameChange.the_field.row
frame-change-send = search (sendable, crosses) depth 100 fits 20000

offlining-send : IsSend Offlining.the_field.row
offlining-send = search (frame-change-send, sendable, crosses) depth 100 fits 20000

row-send : IsSend Row.the_field.row
row-send = search (list-send, answer-send, event-outcome-send, frame-change-send, offlining-send, sendable, crosses) depth 100 fits 20000

ring-send : IsSend Ring.the_row
ring-send = search (sendable, crosses) depth 100 fits 20000

collector-send : IsSend Collector.the_row
collector-send = search (ring-send, sendable, crosses) depth 100 fits 20000

watching-send : IsSend Watching.the_field.row
watching-send = search (collector-send, sendable, crosses) depth 100 fits 20000

local-send : IsSend Local.the_field.row
local-send = search (watching-send, sendable, crosses) depth 100 fits 20000

entry-send : IsSend Entry.the_field.row
entry-send = search (list-send, sendable, crosses) depth 100 fits 20000

body-send : IsSend Body.the_row
body-send = search (layout-send, entry-send, layout-sync, sendable, crosses) depth 100 fits 20000

give-up-send : IsSend GiveUp.the_field.row
give-up-send = search (body-send, sendable, crosses) depth 100 fits 20000

fault-at-send : IsSend FaultAt.the_field.row
fault-at-send = search (body-send, give-up-send, sendable, crosses) depth 100 fits 20000

access-at-send : IsSend AccessAt.the_field.row
access-at-send = search (body-send, fault-at-send, give-up-send, sendable, crosses) depth 100 fits 20000

claim-at-send : IsSend ClaimAt.the_field.row
claim-at-send = search (body-send, sendable, crosses) depth 100 fits 20000

act-at-send : IsSend ActAt.the_field.row
act-at-send = search (body-send, give-up-send, sendable, crosses) depth 100 fits 20000

handler-send : IsSend Handler.the_field.row
handler-send = search (claim-at-send, act-at-send, sendable, crosses) depth 100 fits 20000

instruction-send : IsSend Instruction.the_field.row
instruction-send = search (access-at-send, handler-send, sendable, crosses) depth 100 fits 20000

evict-at-send : IsSend EvictAt.the_field.row
evict-at-send = search (body-send, give-up-send, sendable, crosses) depth 100 fits 20000

evict-send : IsSend Evict.the_field.row
evict-send = search (evict-at-send, sendable, crosses) depth 100 fits 20000

request-send : IsSend Request.the_field.row
request-send = search (sendable, crosses) depth 100 fits 20000

cow-send : IsSend Cow.the_field.row
cow-send = search (sendable, crosses) depth 100 fits 20000

copying-at-send : IsSend CopyingAt.the_field.row
copying-at-send = search (evict-send, sendable, crosses) depth 100 fits 20000

copying-send : IsSend Copying.the_field.row
copying-send = search (instruction-send, request-send, cow-send, copying-at-send, sendable, crosses) depth 100 fits 20000

fork-send : IsSend Fork.the_field.row
fork-send = search (sendable, crosses) depth 100 fits 20000

fsync-send : IsSend Fsync.the_field.row
fsync-send = search (sendable, crosses) depth 100 fits 20000

prctl-send : IsSend Prctl.the_field.row
prctl-send = search (sendable, crosses) depth 100 fits 20000

log-send : IsSend Log.the_field.row
log-send = search (sendable, crosses) depth 100 fits 20000

raise-send : IsSend Raise.the_field.row
raise-send = search (handler-send, sendable, crosses) depth 100 fits 20000

scrub-send : IsSend Scrub.the_field.row
scrub-send = search (handler-send, sendable, crosses) depth 100 fits 20000

spoil-send : IsSend Spoil.the_field.row
spoil-send = search (sendable, crosses) depth 100 fits 20000

nested-send : IsSend Nested.the_field.row
nested-send = search (sendable, crosses) depth 100 fits 20000

inject-send : IsSend Inject.the_field.row
inject-send = search (claim-at-send, act-at-send, sendable, crosses) depth 100 fits 20000

seize-at-send : IsSend SeizeAt.the_field.row
seize-at-send = search (body-send, sendable, crosses) depth 100 fits 20000

relocate-send : IsSend Relocate.the_field.row
relocate-send = search (body-send, sendable, crosses) depth 100 fits 20000

soft-at-send : IsSend SoftAt.the_field.row
soft-at-send = search (seize-at-send, body-send, relocate-send, give-up-send, sendable, crosses) depth 100 fits 20000

soft-send : IsSend Soft.the_field.row
soft-send = search (soft-at-send, sendable, crosses) depth 100 fits 20000

unpoison-send : IsSend Unpoison.the_field.row
unpoison-send = search (sendable, crosses) depth 100 fits 20000

denied-send : IsSend Denied.the_field.row
denied-send = search (sendable, crosses) depth 100 fits 20000

job-send : IsSend Job.the_field.row
job-send = search (instruction-send, copying-send, evict-send, fsync-send, prctl-send, fork-send, log-send, raise-send, scrub-send, spoil-send, nested-send, inject-send, soft-send, unpoison-send, denied-send, sendable, crosses) depth 100 fits 20000

due-frames-send : IsSend DueFrames.the_row
due-frames-send = search (offlining-send, sendable, crosses) depth 100 fits 20000

course-send : IsSend Course.the_field.row
course-send = search (job-send, soft-send, watching-send, due-frames-send, sendable, crosses) depth 100 fits 20000

processor-send : IsSend Processor.the_field.row
processor-send = search (layout-send, list-send, command-send, row-send, local-send, course-send, layout-sync, sendable, crosses) depth 100 fits 20000

-- A PROCESSOR may go to another thread
pub processor-sent : IsSend Processor.the_row
processor-sent = search (processor-send, sendable) depth 10
