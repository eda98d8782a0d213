-- A store's part of what is frozen and switched.
use Rattle.std.proofs.Common.{◌≡◌, ℕ, refl}
use Rattle.hwp_law.specs.hwp_geom.declared.Layout.{Layout}
use Rattle.hwp_law.specs.hwp_geom.declared.Thread.{Thread}
use Rattle.hwp_law.specs.hwp_geom.declared.VSlot.{VSlot}
use Rattle.hwp_law.specs.Cows.{Cow, cow_after}
use Rattle.hwp_law.specs.hwp_report_text.declared.Answer.{Answer}
use Rattle.hwp_law.specs.hwp_report_text.declared.Answer.TheVariants as answers
use Rattle.hwp_law.specs.hwp_script_words.declared.Command.TheVariants as commands
use Rattle.hwp_check_rules.specs.ActedOn.{stored_after}

pub stored_is : (layout : Layout) (slot other : VSlot) (thread : Thread) (line word : ℕ) (answer : Answer) (c : Cow) → cow_after layout slot (commands.Store thread other line word) answer c ≡ stored_after slot other answer c
stored_is layout slot other thread line word (answers.Stored at) c = refl
stored_is layout slot other thread line word answer c = refl
