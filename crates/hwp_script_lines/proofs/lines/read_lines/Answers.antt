use Rattle.std.proofs.Common.{arith, refl, ap, ◌∙◌, map, ◌+◌, []}
use Rattle.hwp_script_lines.proofs.LineLaws.{lines-skipped, lines-more, lines-all, place_fits}
use Rattle.hwp_script_lines.proofs.lines.read_lines.Goals as goal
use Rattle.hwp_script_lines.proofs.lines.read_lines.Goals.{in-Some+in_ok-push, in_default}

pub overflow_cast-line : goal.overflow_cast-line
overflow_cast-line c =
    let fits = place_fits c.args.bytes.now c.as_slice-piece-items.result.now c.loop-at.at (ap (map (λ p. p.now)) c.as_slice-piece-items.ensures.value ∙ c.in_ok-pieces.ensures) (omega arith) c.requires.short in omega arith

pub overflow_add-line : goal.overflow_add-line
overflow_add-line c =
    let fits = place_fits c.args.bytes.now c.as_slice-piece-items.result.now c.loop-at.at (ap (map (λ p. p.now)) c.as_slice-piece-items.ensures.value ∙ c.in_ok-pieces.ensures) (omega arith) c.requires.short in omega arith

pub loop-at-preserved : goal.loop-at-preserved
loop-at-preserved c = elim c.match-branch-3.branch [
  | in-Some+in_ok-push w ↦ let read = rw w.in-Some.is at c.in_ok-read.ensures in rw (w.lines-is, w.in_ok-push.ensures.items)
      (lines-more c.as_slice-piece-items.result.now c.loop-at.at (record { ref_ptr = (0, 0); now = [] }) c.loop-at.lines.items (c.loop-at.at + 1) w.in-Some.read c.loop-at.invariant (omega arith) read.0 refl read.1)
  | in_default w ↦ rw w.lines-is (lines-skipped c.as_slice-piece-items.result.now c.loop-at.at (record { ref_ptr = (0, 0); now = [] }) c.loop-at.lines.items c.loop-at.invariant (omega arith) (rw w.in_default.is at c.in_ok-read.ensures))
]

pub returns : goal.returns
returns c =
    lines-all c.args.bytes.now c.as_slice-piece-items.result.now c.loop-at.at c.loop-at.lines.items (ap (map (λ p. p.now)) c.as_slice-piece-items.ensures.value ∙ c.in_ok-pieces.ensures) c.loop-at.invariant (omega arith)
