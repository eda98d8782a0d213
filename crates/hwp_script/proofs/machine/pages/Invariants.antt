use Rattle.std.proofs.Common.{◌≡◌}
use Rattle.hwp_script.specs.Machine.{first, page_kind}
use Rattle.hwp_script.proofs.machine.pages.Given as goal

abbrev pub invariant-loop-page : goal.invariant-loop-page
invariant-loop-page l = l.pages ≡ first page_kind l.page
