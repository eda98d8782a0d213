-- What the rules ask of the script that they judge by. A valid script has it, and so has what its processors acted on, where commands go
-- through twins, which a text can't name.
use Rattle.std.specs.Prelude.{◌≡◌, ◌≤◌, length}
use Rattle.std.specs.List.{sum_by}
use Rattle.hwp_law.specs.hwp_geom.Layout.{IsSound}
use Rattle.hwp_law.specs.hwp_geom.Limits.{command_limit}
use Rattle.hwp_law.specs.hwp_script_words.Valid.{AreLists}
use Rattle.hwp_law.specs.hwp_script_words.declared.Script.{Script}

-- its layout is sound, and it has a list of declared commands for each processor, not too many in all
pub record IsDeclared (script : Script) : Type 0 where
  pub sound : IsSound script.layout
  pub one_each : length script.lists ≡ script.layout.cpus
  pub lists : AreLists script.layout 0 script.lists
  pub few : sum_by length script.lists ≤ command_limit
