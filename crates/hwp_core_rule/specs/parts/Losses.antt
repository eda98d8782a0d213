-- Dirty content of files that was lost.
use Rattle.std.specs.Prelude.{◌≡◌, ℕ, ◌+◌, ◌<◌, ◌≤◌, ◌==◌, cond, List, Some, length, slice_get}
use Rattle.std.specs.List.{sum_by}
use Rattle.std.specs.Int.{from_bool}
use Rattle.hwp_page.specs.hwp_geom.declared.FileNo.{FileNo}
use Rattle.hwp_page.specs.hwp_geom.declared.Layout.{Layout}
use Rattle.hwp_page.specs.Losses.{is_loss, is_same_file}
use Rattle.hwp_core_rule.specs.declared.shared_word.SharedWord.TheVariants as places
use Rattle.hwp_core_rule.specs.declared.view.InHand.{InHand}
use Rattle.hwp_core_rule.specs.declared.view.Made.{Made}
use Rattle.hwp_core_rule.specs.declared.view.Mark.{Mark}
use Rattle.hwp_core_rule.specs.declared.view.Sight.{Sight}
use Rattle.hwp_core_rule.specs.parts.Counter.{is_poisoning}
use Rattle.hwp_core_rule.specs.Lists.{Homes, EachListed, EachMember, sum_bodies}
use Rattle.hwp_core_rule.specs.Logs.{file_of, losses_of}

-- what a view has to do with losses
pub record Losing : Type 0 where
  pub owed : List FileNo
  pub made : List Made
  pub marks : List Mark

-- the losses of the file that a view owes
abbrev pub owed_of : FileNo → Losing → ℕ
owed_of file v = sum_by (λ (n : FileNo). from_bool (n.0 == file.0)) v.owed

-- the entries that a view lists which are losses of the file
abbrev pub made_of : Layout → FileNo → Losing → ℕ
made_of layout file v = sum_by (λ (m : Made). cond (is_same_file file (file_of layout m.page)) (from_bool (is_loss m.entry.what)) 0) v.made

-- a sight of the file's loss word shows no more than the word
abbrev pub IsSeenLoss : FileNo → ℕ → Sight → Type 0
IsSeenLoss file w s = s.place ≡ places.Loss file → s.word ≤ w

-- the losses that a view lists, less those that it owes, are at most the frames that it poisoned
abbrev pub IsPoisonLoss : Losing → Type 0
IsPoisonLoss v = sum_by (λ (m : Made). from_bool (is_loss m.entry.what)) v.made ≤ length v.owed + sum_by (λ (m : Mark). from_bool (is_poisoning m.kind)) v.marks

-- For each file the loss word and the losses that views owe are the losses in the histories of its pages; no view owes more losses of
-- it than it lists; and no sight shows more than the word, since the word never falls. Each loss owed is of a file of the layout. Broken
-- by: a lost content that isn't counted; `report_lost` that changes the word; `lose` of a file twice.
pub record LossesBalance (layout : Layout) (losses : List ℕ) (homes : Homes) (bodies : List (List InHand)) (views : List Losing) (sights : List (List Sight)) : Type 0 where
  pub balance : (file : FileNo) (w : ℕ) → slice_get losses file.0 ≡ Some w → w + sum_by (owed_of file) views ≡ sum_bodies (losses_of layout file) homes bodies
  pub owing : (file : FileNo) → EachMember (λ (v : Losing). owed_of file v ≤ made_of layout file v) views
  pub shown : (file : FileNo) (w : ℕ) → slice_get losses file.0 ≡ Some w → EachListed (IsSeenLoss file w) sights
  pub declared : EachMember (λ (v : Losing). EachMember (λ (n : FileNo). n.0 < layout.files) v.owed) views
  pub poisoned : EachMember IsPoisonLoss views
