use Rattle.std.proofs.Common.{◌≤◌, ◌∙◌, length, sym, subst}
use Rattle.hwp_script_read.specs.hwp_script_words.Limits.{script_limit}
use Rattle.hwp_script.specs.Round.{IsTextOf}
use Rattle.hwp_script.proofs.PutLaws.{script_parts}
use Rattle.hwp_script.proofs.RoundTrip.{round_trip}
use Rattle.hwp_script.proofs.printing.print.Goals as goal

pub returns-clause-text : goal.returns-clause-text
returns-clause-text c =
    c.from_string.ensures ∙ script_parts c.args.script.now _ _ _ _ _ _ _ _ _ _ _ _ _ _ c.new-out.ensures.bytes c.in_ok-put_head.ensures
    (rw c.as_slice.ensures at c.in_ok-put_kernel.ensures) c.in_ok-put_settings.ensures c.in_ok-put_files.ensures c.in_ok-put_procs.ensures
    (rw c.as_slice-2.ensures at c.in_ok-put_threads.ensures) (rw c.as_slice-3.ensures at c.in_ok-put_guests.ensures) (rw (c.as_slice-4.ensures, c.as_slice-5.ensures) at c.in_ok-put_pages.ensures)
    (rw c.as_slice-6.ensures at c.in_ok-put_trans.ensures) (rw c.as_slice-7.ensures at c.in_ok-put_cows.ensures) (rw c.as_slice-8.ensures at c.in_ok-put_lists.ensures)
    (rw c.as_slice-9.ensures at c.in_ok-put_schedule.ensures) c.in_ok-put_form.ensures

pub returns-clause-read : goal.returns-clause-read
returns-clause-read c = λ valid.
    subst (λ text. length text ≤ script_limit → IsTextOf text c.args.script.now) (sym (returns-clause-text c)) (round_trip c.args.script.now valid)
