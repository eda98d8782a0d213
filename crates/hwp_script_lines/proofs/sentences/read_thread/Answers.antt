use Rattle.std.proofs.Common.{[], arith}
use Rattle.hwp_script_lines.proofs.CommandLaws.{bad_thread}
use Rattle.hwp_script_lines.proofs.PageLaws.{no-handler, thread-sentence}
use Rattle.hwp_script_lines.proofs.sentences.read_thread.Goals as goal

pub returns-in_default-three_of : goal.returns-in_default-three_of
returns-in_default-three_of c = bad_thread c.args.words.now _ c.in-Some.handler (omega arith) c.in-Some.ensures c.in_default-three_of.ensures

pub returns-in_default-read_handler : goal.returns-in_default-read_handler
returns-in_default-read_handler c = no-handler c.args.words.now (record { ref_ptr = (0, 0); now = [] }) c.in_default-read_handler.ensures (omega arith)

pub returns : goal.returns
returns c =
    thread-sentence c.args.words.now (record { ref_ptr = (0, 0); now = [] }) c.in-Some-three_of.thread c.in-Some-three_of.process c.in-Some-three_of.cpu c.in-Some.handler (omega arith) c.in-Some.ensures
    c.in-Some-three_of.ensures.0 c.in-Some-three_of.ensures.1 c.in-Some-three_of.ensures.2
