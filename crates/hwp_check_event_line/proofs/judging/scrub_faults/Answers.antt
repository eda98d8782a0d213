use Rattle.std.proofs.Common.{◌≡◌, ℕ, ◌+◌, ◌-◌, ◌*◌, None, ap, ◌∙◌, arith}
use Rattle.hwp_check_event_line.specs.Scrubbing.{course_of, low_of}
use Rattle.hwp_check_event_line.specs.Scrubs.{bound_from}
use Rattle.hwp_check_event_line.specs.Firsts.{shown_lines}
use Rattle.hwp_check_event_line.proofs.Bounds.{kept-by}
use Rattle.hwp_check_event_line.proofs.ScrubScans.{scanned-same}
use Rattle.hwp_check_event_line.proofs.judging.scrub_faults.Goals as goal

pub leave-requires : goal.leave-requires
leave-requires c =
    kept-by c.args.report.now (course_of c.args.table.now (record { last = c.args.last.0; whole = c.args.whole; bound = c.bound_of-bound.result })) (shown_lines c.args.lines.now)
    (record { next = 2 * c.from-4.result; raw = c.get.result; begun = None; passed = 0; strays = 0 }) c.scan-scanned.result.end c.args.raw.now c.scan-scanned.ensures.end c.get.ensures.held

pub returns-clause-scanned : goal.returns-clause-scanned
returns-clause-scanned c =
    let last : c.from.result ≡ c.args.last.0 = c.from.ensures in
    let first : c.from-2.result ≡ c.args.first.0 = c.from-2.ensures in
    let more : c.from.result + 1 - c.from-2.result ≡ c.args.last.0 + 1 - c.args.first.0 = omega (arith, last, first) in
    let bound : c.bound_of-bound.result ≡ bound_from c.args.report.now (low_of c.args.table.now c.args.whole) 0 c.args.first.0 (c.args.last.0 + 1 - c.args.first.0) =
    c.bound_of-bound.ensures ∙ ap (λ (n : ℕ). bound_from c.args.report.now (low_of c.args.table.now c.args.whole) 0 n (c.from.result + 1 - c.from-2.result)) c.from-3.ensures
    ∙ ap (bound_from c.args.report.now (low_of c.args.table.now c.args.whole) 0 c.args.first.0) more in
    scanned-same c.args.script.now c.args.report.now c.args.who c.args.how (low_of c.args.table.now c.args.whole) c.args.last.0 (shown_lines c.args.lines.now) c.scan-scanned.result.wrong c.bound_of-bound.result _ (2 * c.from-4.result) (2 * c.args.first.0)
    c.get.result c.args.raw.now bound (ap (λ (n : ℕ). 2 * n) c.from-4.ensures) c.get.ensures.held c.scan-scanned.ensures.scanned
