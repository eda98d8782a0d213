-- How many of a command's entries are soft offlines: one for each page that left a frame, by its row.
use Rattle.std.proofs.Common.{◌≡◌, ℕ, suc, ◌+◌, Bool, true, false, cond, List, [], ◌∷◌, Option, Some, None, filter, length, refl, sym, ap, ◌∙◌, arith, true≢false}
use Rattle.std.specs.List.{cons_option, count_by, sum_by}
use Rattle.std.proofs.lemmas.List.{length-map}
use Rattle.std.proofs.lemmas.List.Sums.{length-filter, sum_by-cons}
use Rattle.hwp_law_served.specs.hwp_geom.declared.Frame.{Frame}
use Rattle.hwp_law_served.specs.hwp_geom.declared.Layout.{Layout}
use Rattle.hwp_law_served.specs.hwp_geom.declared.Who.{Who}
use Rattle.hwp_law_served.specs.hwp_page.declared.At.{At}
use Rattle.hwp_law_served.specs.hwp_core_rule.declared.Made.{Made}
use Rattle.hwp_law_served.specs.hwp_core_rule.declared.View.{View}
use Rattle.hwp_law_served.specs.hwp_core_rule.Lists.{EachMember}
use Rattle.hwp_law_served.specs.hwp_core_rule.Known.{deeds}
use Rattle.hwp_law_served.specs.hwp_script_words.declared.Command.{Command}
use Rattle.hwp_law_served.specs.hwp_script_words.declared.Command.TheVariants as commands
use Rattle.hwp_law_served.specs.hwp_report_text.declared.Answer.{Answer}
use Rattle.hwp_law_served.specs.hwp_report_text.declared.Answer.TheVariants as answers
use Rattle.hwp_law_served.specs.hwp_report_text.declared.OfflineResult.{OfflineResult}
use Rattle.hwp_law_served.specs.hwp_report_text.declared.OfflineResult.TheVariants as results
use Rattle.hwp_law_served.specs.hwp_law.Pairings.{is_soft}
use Rattle.hwp_law_served.specs.hwp_cpu_row.declared.FrameChange.{FrameChange}
use Rattle.hwp_law_served.specs.hwp_cpu_row.declared.FrameChange.TheVariants as owns
use Rattle.hwp_law_served.specs.hwp_cpu_row.declared.Offlining.{Offlining}
use Rattle.hwp_law_served.specs.hwp_cpu_row.declared.Row.{Row}
use Rattle.hwp_law_served.specs.hwp_claim.declared.EventOutcome.{EventOutcome}
use Rattle.hwp_law_served.specs.Accounts.{IsOwn}
use Rattle.hwp_law_served.specs.hwp_geom.declared.VSlot.{VSlot}
use Rattle.hwp_law_served.specs.Causes.{IsAnswerCaused, IsCausedWith}
use Rattle.hwp_law_served.proofs.copied.Uncopied.{uncopied}
use Rattle.hwp_law_served.specs.Offlinings.{IsOfflineServed, left_at, left_beside, left_by, left_itself, place_of}
use Rattle.hwp_law_served.specs.Served.{IsOffliningServed, IsRowServed}
use Rattle.hwp_law_served.specs.hwp_banks.Banks.{Banks}

-- whether a page left the frame, as a number
abbrev pub moves_by : Option FrameChange → ℕ
moves_by None = 0
moves_by (Some (owns.Failed frame found)) = 0
moves_by (Some (owns.Offlined frame cycle moved)) = cond moved 1 0
moves_by (Some (owns.Revived frame cycle)) = 0

-- and of all frames that were taken out of use beside a command
abbrev pub moves_beside : List Offlining → ℕ
moves_beside offlined = sum_by (λ (o : Offlining). moves_by o.change) offlined

-- whether there is a place, as a number
abbrev one_if : Option At → ℕ
one_if None = 0
one_if (Some at) = 1

-- ---- the command's own

abbrev is_offline : Command → Bool
is_offline (commands.Soft frame) = true
is_offline command = false

other-still : (command : Command) (answer : Answer) (own : Option FrameChange) → is_offline command ≡ false → IsOwn command answer own → moves_by own ≡ one_if (left_itself command answer)
other-still (commands.Soft frame) answer own other is = absurd (true≢false other)
other-still command answer None other is = refl
other-still (commands.Inject frame) answer (Some (owns.Failed f found)) other is = refl
other-still (commands.Unpoison frame) answer (Some (owns.Revived f cycle)) other is = refl
other-still command answer (Some own) other is = absurd is

stopped-still : (frame : Frame) (own : Option FrameChange) → IsOwn (commands.Soft frame) answers.Stopped own → moves_by own ≡ 0
stopped-still frame None is = refl
stopped-still frame (Some (owns.Failed f found)) is = absurd is
stopped-still frame (Some (owns.Offlined f cycle true)) is = absurd (true≢false (sym is.1))
stopped-still frame (Some (owns.Offlined f cycle false)) is = refl
stopped-still frame (Some (owns.Revived f cycle)) is = absurd is

module _ (layout : Layout) (earlier : List (Command × Answer)) (view : View) (who : Who) where
  own-left : (command : Command) (told : List EventOutcome) (own : Option FrameChange) (answer : Answer) → IsAnswerCaused layout earlier view who command told own answer → IsOwn command answer own → moves_by own ≡ one_if (left_itself command answer)
  own-left (commands.Soft frame) told own answers.Stopped caused is = stopped-still frame own is
  own-left (commands.Soft frame) told own answers.Kernel caused is = ap moves_by caused.2
  own-left (commands.Soft frame) told own (answers.Moved other at) caused is = ap moves_by caused.1.own_is
  own-left (commands.Soft frame) told own answers.TakenFree caused is = ap moves_by caused.1.own_is
  own-left (commands.Soft frame) told own answers.Already caused is = ap moves_by caused.1.1
  own-left (commands.Soft frame) told own (answers.HasBad mask) caused is = ap moves_by caused.1.1
  own-left (commands.Soft frame) told own answers.NoFrame caused is = ap moves_by caused.1.2
  own-left (commands.Soft frame) told own answer caused is = absurd caused.1
  own-left command told own answer caused is = other-still command answer own refl is

  -- nor does a store that copies a page first
  own-with : (copied : Option VSlot) (command : Command) (before : Banks) (told : List EventOutcome) (own : Option FrameChange) (answer : Answer) → IsCausedWith layout earlier copied view who command before told own answer → IsOwn command answer own → moves_by own ≡ one_if (left_itself command answer)
  own-with copied (commands.Soft frame) before told own answer caused is = own-left (commands.Soft frame) told own answer (uncopied layout earlier copied view who (commands.Soft frame) before told own answer refl caused) is
  own-with copied command before told own answer caused is = other-still command answer own refl is

  -- ---- beside it

  came-left : (frame : Frame) (change : Option FrameChange) (result : OfflineResult) → IsOfflineServed layout view who frame change result → moves_by change ≡ one_if (left_at result)
  came-left frame change (results.Moved other at) (users, changed, free) = ap moves_by changed.1
  came-left frame change results.TakenFree (users, changed) = ap moves_by changed.1
  came-left frame change results.Already (users, saw, none) = ap moves_by none
  came-left frame change (results.HasBad mask) (users, saw, none) = ap moves_by none
  came-left frame change results.NoFrame (users, saw, none) = ap moves_by none
  came-left frame change results.Stopped (saw, none) = ap moves_by none

  with-one : (o : Option At) (l : List At) → length (cons_option o l) ≡ one_if o + length l
  with-one None l = omega arith
  with-one (Some at) l = omega arith

  beside-left : (offlined : List Offlining) → EachMember (IsOffliningServed layout view who) offlined → length (left_beside offlined) ≡ moves_beside offlined
  beside-left [] each = refl
  beside-left (o ∷ os) each =
      let one : length (left_beside (o ∷ os)) ≡ one_if (left_at o.result) + length (left_beside os) = with-one (left_at o.result) (left_beside os) in
      let rest : length (left_beside os) ≡ moves_beside os = beside-left os (λ i x there. each (suc i) x there) in
      let here : moves_by o.change ≡ one_if (left_at o.result) = came-left o.frame o.change o.result (each 0 o refl).came in
      let all : moves_beside (o ∷ os) ≡ moves_by o.change + moves_beside os = sum_by-cons (λ (x : Offlining). moves_by x.change) o os in
      omega (arith, one, rest, here, all)

  pub softs-counted : (copied : Option VSlot) (command : Command) (before : Banks) (row : Row) (after : Banks) → IsRowServed layout earlier copied view who command before row after → count_by (λ (m : Made). is_soft m.entry.what) (deeds who view) ≡ moves_by row.own + moves_beside row.offlined
  softs-counted copied command before row after served =
      let list : List Made = filter (λ (m : Made). is_soft m.entry.what) (deeds who view) in
      let counted : length list ≡ count_by (λ (m : Made). is_soft m.entry.what) (deeds who view) = length-filter (λ (m : Made). is_soft m.entry.what) (deeds who view) in
      let placed : length (left_by who view) ≡ length list = length-map list place_of in
      let told : length (left_by who view) ≡ one_if (left_itself command row.answer) + length (left_beside row.offlined) = ap length served.beside ∙ with-one (left_itself command row.answer) (left_beside row.offlined) in
      let own : moves_by row.own ≡ one_if (left_itself command row.answer) = own-with copied command before row.told row.own row.answer served.caused served.accounted.own in
      let beside : length (left_beside row.offlined) ≡ moves_beside row.offlined = beside-left row.offlined served.offlined in
      omega (arith, counted, placed, told, own, beside)
