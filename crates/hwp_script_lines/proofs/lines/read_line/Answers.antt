use Rattle.std.proofs.lemmas.Result.{IfOk-from_err}
use Rattle.hwp_script_lines.proofs.LineLaws.{skipped-remark, skipped-blank, not-skipped, read-as}
use Rattle.hwp_script_lines.proofs.lines.read_line.Goals as goal

pub returns-then-is_remark : goal.returns-then-is_remark
returns-then-is_remark c = skipped-remark c.args.line.now c.if-is_remark.ensures

pub returns-in_err-words : goal.returns-in_err-words
returns-in_err-words c = IfOk-from_err _ _ c.from_residual.ensures.0

pub returns-then-is_empty : goal.returns-then-is_empty
returns-then-is_empty c =
    skipped-blank c.args.line.now c.in_ok-words.words.items c.as_slice.result.now c.in_ok-words.ensures c.as_slice.ensures.value c.if-is_remark.ensures c.if-is_empty.ensures

pub returns-in_err-read_words : goal.returns-in_err-read_words
returns-in_err-read_words c = IfOk-from_err _ _ c.from_residual-in_err-read_words.ensures.0

pub returns : goal.returns
returns c = (
  not-skipped c.args.line.now c.in_ok-words.words.items c.as_slice.result.now c.in_ok-words.ensures c.as_slice.ensures.value c.if-is_remark.ensures c.if-is_empty.ensures,
  read-as c.args.line.now c.in_ok-words.words.items c.as_slice-2.result.now c.in_ok-words.ensures c.as_slice-2.ensures.value _ c.in_ok-read_words.ensures,
)
