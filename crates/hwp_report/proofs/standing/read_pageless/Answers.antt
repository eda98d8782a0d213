use Rattle.hwp_report.proofs.NoFrames.{no_state, no_masks}
use Rattle.hwp_report.proofs.standing.read_pageless.Goals as goal

pub returns-in_default : goal.returns-in_default
returns-in_default c = no_state c.args.first.now _ c.requires c.in_default.ensures

pub returns-in_default-read_masks : goal.returns-in_default-read_masks
returns-in_default-read_masks c = no_masks c.args.first.now _ c.requires c.in_default-read_masks.ensures
