use Rattle.std.proofs.Common.{◌≡◌, drop, fold}
use Rattle.hwp_check_processes.specs.Busy.{marked_in}
use Rattle.hwp_check_processes.proofs.busy.mark_pages.Given as goal

abbrev pub invariant-loop-page : goal.invariant-loop-page
invariant-loop-page l = fold (marked_in l.fn.cpu) l.flags.items (drop l.page-index l.fn.pages) ≡ fold (marked_in l.fn.cpu) l.fn.flags.items l.fn.pages
