use Rattle.hwp_scrub.proofs.log.Log.new.Goals as goal

pub returns : goal.returns
returns c = λ i. record { read = c.new.ensures i; change = c.args.change; before = record { marker = record {}; value = c.of.ensures i }; banks = c.args.banks }
