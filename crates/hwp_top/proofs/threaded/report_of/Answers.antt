use Rattle.hwp_top.proofs.threaded.report_of.Goals as goal

pub returns-in_ok-run-in-Ok-clause-report : goal.returns-in_ok-run-in-Ok-clause-report
returns-in_ok-run-in-Ok-clause-report g c = rw c.in_ok-run-in-Ok.ensures.run (record {
  script = c.in_ok-script.script;
  takes = c.in_ok-script.ensures.script;
  report_of = record { run = c.in-Ok.ensures.of_run; lawful = c.in-Ok.ensures.lawful; threads = c.in-Ok.ensures.ended };
})
