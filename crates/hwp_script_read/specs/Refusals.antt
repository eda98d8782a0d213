-- When the lines of a text give a script, and when they are refused.
use Rattle.std.specs.Prelude.{◌≡◌, ◌≢◌, ◌==◌, ℕ, Bool, true, ◌+◌, ◌≤◌, length, map, take, slice_get, Some, List, [], ◌∷◌}
use Rattle.hwp_script_lines.specs.declared.ScriptLine.{ScriptLine}
use Rattle.hwp_script_lines.specs.declared.ScriptLine.TheVariants as forms
use Rattle.hwp_script_lines.specs.declared.LineRead.{LineRead}
use Rattle.hwp_script_lines.specs.declared.LineRead.TheVariants as reads
use Rattle.hwp_script_lines.specs.declared.Numbered.{Numbered}
use Rattle.hwp_script_lines.specs.hwp_geom.declared.Version.TheVariants as versions
use Rattle.hwp_script_read.specs.Context.{version_in}
use Rattle.hwp_script_read.specs.Reasons.{Applies, AreClean, number}
use Rattle.hwp_script_read.specs.Collects.{Collects, IsEnded}
use Rattle.hwp_script_read.specs.Sums.{Sums}
use Rattle.hwp_script_read.specs.declared.context.Summary.{Summary}
use Rattle.hwp_script_lines.specs.declared.Script.{Script}
use Rattle.hwp_script_read.specs.declared.why.Refused.{Refused}
use Rattle.hwp_script_read.specs.declared.why.Why.{Why}
use Rattle.hwp_script_read.specs.declared.why.Why.TheVariants as whys

-- each of the lines has a form, and these are the forms
pub record AreForms (lines : List Numbered) (fs : List ScriptLine) : Type 0 where
  pub same : map (λ (l : Numbered). l.read) lines ≡ map reads.ScriptLine fs

-- the lines give the script: each is clean after those above it, and the last is `end`
pub record AreScript (lines : List Numbered) (s : Script) : Type 0 where
  pub forms : List ScriptLine
  pub each : AreForms lines forms
  pub clean : AreClean forms
  pub ended : IsEnded forms
  pub collects : Collects forms s

-- all lines have these forms, each is clean, the last is `end`, and this is their summary
pub record AreGathered (lines : List Numbered) (fs : List ScriptLine) (s : Summary) : Type 0 where
  pub each : AreForms lines fs
  pub clean : AreClean fs
  pub ended : IsEnded fs
  pub sums : Sums fs s

-- a line of a form that the version of the lines above it has not: `newer` says that version Two alone has it
abbrev pub IsTooNew : Bool → List ScriptLine → Type 0
IsTooNew newer above = (newer ≡ true) × (version_in above ≡ versions.One)

-- the reason applies to a line, after those above it; NoEnd applies to the last line, where it is not `end`
abbrev pub IsFault : Bool → List ScriptLine → LineRead → Why → Type 0
IsFault last above (reads.ScriptLine f) whys.NoEnd = (last ≡ true) × (f ≢ forms.End)
IsFault last above (reads.ScriptLine f) w = Applies above f w
IsFault last above r whys.BadHeader = length above ≡ 0
IsFault last above reads.Unknown whys.UnknownWord = Unit {0}
IsFault last above (reads.BadNumber newer) whys.UnknownWord = IsTooNew newer above
IsFault last above (reads.BadNumber newer) whys.BadNumber = Unit {0}
IsFault last above (reads.OverLimit newer) whys.UnknownWord = IsTooNew newer above
IsFault last above (reads.OverLimit newer) whys.OverLimit = Unit {0}
IsFault last above r whys.NoEnd = last ≡ true
IsFault last above r w = ⊥

-- the reason applies to a line, and no lower one does
pub record IsLowestFault (last : Bool) (above : List ScriptLine) (r : LineRead) (w : Why) : Type 0 where
  pub applies : IsFault last above r w
  pub lowest : (v : Why) → IsFault last above r v → number w ≤ number v

-- the first line at fault, and the lowest reason that applies to it: the lines above it have forms, and each is clean
pub record IsFirst (lines : List Numbered) (r : Refused) : Type 0 where
  pub at : ℕ
  pub line : Numbered
  pub there : slice_get lines at ≡ Some line
  pub named : r.line ≡ line.line
  pub above : List ScriptLine
  pub each : AreForms (take at lines) above
  pub clean : AreClean above
  pub fault : IsLowestFault (at + 1 == length lines) above line.read r.why

-- the lines are refused so: at the first line at fault, or, where there is no line, at line 1 for want of the header
abbrev pub AreRefused : List Numbered → Refused → Type 0
AreRefused [] r = (r.line ≡ 1) × (r.why ≡ whys.BadHeader)
AreRefused (l ∷ ls) r = IsFirst (l ∷ ls) r
