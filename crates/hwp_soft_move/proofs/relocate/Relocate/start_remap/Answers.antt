use Rattle.hwp_soft_move.proofs.relocate.Relocate.start_remap.Goals as goal

pub returns : goal.returns
returns c = record { remap = c.new-remap.result; begun = c.new-remap.ensures; next_is = c.after_remap.ensures }
