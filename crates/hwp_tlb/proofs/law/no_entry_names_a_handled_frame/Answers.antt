use Rattle.hwp_tlb.proofs.Kept.{kept-none-handled}
use Rattle.hwp_tlb.proofs.law.no_entry_names_a_handled_frame.Goals as goal

pub returns : goal.returns
returns c = record { none_handled = kept-none-handled }
