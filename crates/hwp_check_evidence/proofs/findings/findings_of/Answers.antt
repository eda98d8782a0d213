use Rattle.std.proofs.Common.{◌≡◌, ℕ, ◌+◌, ◌≤◌, length, replicate, refl, ap, ◌∙◌, arith}
use Rattle.hwp_check_evidence.specs.Ends.{never}
use Rattle.hwp_check_evidence.specs.Firsts.{is_named}
use Rattle.hwp_check_evidence.proofs.FindingLaws.{found-all, found-more, found-none}
use Rattle.hwp_check_evidence.proofs.findings.findings_of.Goals as goal
use Rattle.hwp_check_event_line.specs.Reading.{copies_in}

pub loop-entries-init : goal.loop-entries-init
loop-entries-init c =
    (refl, found-none c.args.layout.now (is_named c.args.names.now) (copies_in c.args.copies.now) c.args.cpu c.args.commands c.args.pages.now c.in_ok-found.found c.in_ok-found.ensures.ends (c.in_ok-found.ensures.ended ∙ ap (λ (n : ℕ). replicate n never) c.processes_of-processes.ensures) c.in_ok-found.ensures.spans c.in_ok-found.ensures.others)

pub loop-entries-preserved : goal.loop-entries-preserved
loop-entries-preserved c =
    let number : c.loop-entries.number ≡ c.loop-entries.entries-index = c.loop-entries.invariant.0 in
    let added = rw (number, c.as_slice.ensures) at c.in_ok-add_page.ensures in (
      ap (λ (n : ℕ). n + 1) number,
      found-more c.args.layout.now (is_named c.args.names.now) (copies_in c.args.copies.now) c.args.cpu c.args.commands c.args.pages.now c.loop-entries.entries-index c.entries-item.result c.loop-entries.found c.add_page.new.found
          c.loop-entries-test.true c.entries-item.is c.loop-entries.invariant.1 added,
    )

pub returns : goal.returns
returns c =
    let past : length c.args.pages.now ≤ c.loop-entries.entries-index = let e = c.loop-entries-test.false in let a = c.loop-entries.auto.entries-index-end in omega arith in
    let within : c.loop-entries.entries-index ≤ length c.args.pages.now = c.loop-entries.auto.entries-index-end in
    found-all c.args.layout.now (is_named c.args.names.now) (copies_in c.args.copies.now) c.args.cpu c.args.commands c.args.pages.now c.loop-entries.entries-index c.loop-entries.found past within c.loop-entries.invariant.1
