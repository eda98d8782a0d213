use Rattle.std.proofs.Common.{ℕ, List, refl, ◌∙◌, subst, sym}
use Rattle.hwp_plain.specs.hwp_core_rule.Words.{words_of}
use Rattle.hwp_law_served.specs.Rows.{Note}
use Rattle.hwp_top_report.specs.Closing.{AreLinesBy, HasStopper, IsStopBy}
use Rattle.hwp_top_report.proofs.BoardEnds.{outcome-closes, outcome-stopper, outcome-whole}
use Rattle.hwp_top_report.proofs.closing.report.Goals as goal

pub all_notes-requires-clause-cpus : goal.all_notes-requires-clause-cpus
all_notes-requires-clause-cpus c = c.requires.ended.1.ended.cpus

pub all_notes-requires-clause-tellable : goal.all_notes-requires-clause-tellable
all_notes-requires-clause-tellable c = c.requires.ended.1.ended.tellable

pub frame_lines-requires : goal.frame_lines-requires
frame_lines-requires c = record { whole = outcome-whole c.requires.ended.1 }

pub file_losses-requires : goal.file_losses-requires
file_losses-requires c = record { whole = outcome-whole c.requires.ended.1 }

pub poisoned_frames-count-requires : goal.poisoned_frames-count-requires
poisoned_frames-count-requires c = record { whole = outcome-whole c.requires.ended.1 }

pub word-requires-clause-whole : goal.word-requires-clause-whole
word-requires-clause-whole c = outcome-whole c.requires.ended.1

pub stop_of-stop-requires-clause-stopper : goal.stop_of-stop-requires-clause-stopper
stop_of-stop-requires-clause-stopper c = subst (λ (w : ℕ). HasStopper w c.args.rows.now) (sym c.word.ensures) (outcome-stopper c.requires.ended.1)

pub stop_of-stop-requires-clause-tellable : goal.stop_of-stop-requires-clause-tellable
stop_of-stop-requires-clause-tellable c = c.requires.ended.1.ended.tellable

pub all_lines-requires : goal.all_lines-requires
all_lines-requires c = record { tellable = c.requires.ended.1.ended.tellable }

pub returns : goal.returns
returns c s is =
    outcome-closes is (record { version = c.args.layout.now.version; stop = c.stop_of-stop.result; count = c.poisoned_frames-count.result; files = c.in_ok-files.files; frames = c.in_ok-frames.frames; pages = c.args.pages; cpus = c.in_ok-cpus.cpus }) refl
    (subst (λ (n : List (List Note)). AreLinesBy (words_of c.args.layout.now c.args.words.now) n c.args.layout.now.frames c.in_ok-frames.frames) (c.as_slice.ensures ∙ c.in_ok-notes.ensures) c.in_ok-frames.ensures)
    c.in_ok-files.ensures c.poisoned_frames-count.ensures (subst (λ (w : ℕ). IsStopBy w c.args.lists.now c.args.rows.now c.stop_of-stop.result) c.word.ensures c.stop_of-stop.ensures) refl c.in_ok-cpus.ensures
