-- What a command poisoned and set, by its row, stays so over each step of another command.
use Rattle.std.proofs.Common.{◌≡◌, ◌≢◌, ℕ, inl, inr, Bool, false, cond, List, [], ◌∷◌, ◌++◌, Option, filter, filter_map, map, sym, ap, ◌∙◌, subst}
use Rattle.hwp_law.specs.hwp_geom.declared.Layout.{Layout}
use Rattle.hwp_law.specs.hwp_geom.declared.Who.{Who}
use Rattle.hwp_law.specs.hwp_page.History.{BodyValue}
use Rattle.hwp_plain.specs.hwp_core_rule.declared.Log.{Log}
use Rattle.hwp_plain.specs.hwp_core_rule.declared.Mark.{Mark}
use Rattle.hwp_plain.specs.hwp_core_rule.declared.Setting.{Setting}
use Rattle.hwp_plain.specs.hwp_core_rule.declared.Step.{Step}
use Rattle.hwp_plain.specs.hwp_core_rule.declared.View.{View}
use Rattle.hwp_plain.specs.hwp_core_rule.Lists.{EachMember}
use Rattle.hwp_plain.specs.hwp_core_rule.Views.{noted, view_by}
use Rattle.hwp_plain.proofs.of_hwp_core_rule.Lists.{each-push}
use Rattle.hwp_plain.specs.hwp_core_rule.Calls.{Steps}
use Rattle.hwp_plain.proofs.of_hwp_core_rule.tasks.StepLeaves.{content_of}
use Rattle.hwp_plain.specs.hwp_core_rule.Known.{deeds}
use Rattle.hwp_cpu_row.specs.hwp_claim_act.Abandoned.{failed_in}
use Rattle.hwp_cpu_row.specs.hwp_claim_frame.Done.{marking_of}
use Rattle.hwp_law.specs.hwp_script_words.declared.Command.{Command}
use Rattle.hwp_law.specs.hwp_report_text.declared.Answer.{Answer}
use Rattle.hwp_cpu_row.specs.declared.Row.{Row}
use Rattle.hwp_law_served.specs.Accounts.{IsAccounted, is_same}
use Rattle.hwp_law_served.proofs.StepAdds.{Adds, OneMore, adds-by}
use Rattle.hwp_law_served.proofs.PoisonMarks.{same-who}
use Rattle.std.proofs.lemmas.Bool.{false_from_ne_true}

-- a member more that fails the test is passed over
filter-push : {A : Type 0} (test : A → Bool) (l : List A) (x : A) → test x ≡ false → filter test (l ++ x ∷ []) ≡ filter test l
filter-push {A} test [] x is = ap (λ (b : Bool). cond b (x ∷ []) []) is
filter-push {A} test (y ∷ ys) x is = ap (λ (l : List A). cond (test y) (y ∷ l) l) (filter-push test ys x is)

other-who : (who by : Who) → who ≢ by → is_same who by ≡ false
other-who who by other = false_from_ne_true (is_same who by) (λ is. other (sym (same-who who by is)))

-- of a list that has one member more at most, of another command
kept : {A : Type 0} (of : A → Who) (Such : A → Type 0) (who by : Who) → who ≢ by → ((x : A) → Such x → of x ≡ by) → (old new : List A) → OneMore Such old new
    → filter (λ (x : A). is_same who (of x)) new ≡ filter (λ (x : A). is_same who (of x)) old
kept {A} of Such who by other own old new (inl same) = ap (filter (λ (x : A). is_same who (of x))) same
kept {A} of Such who by other own old new (inr (x, more, such)) =
    ap (filter (λ (y : A). is_same who (of y))) more ∙ filter-push (λ (y : A). is_same who (of y)) old x (ap (is_same who) (own x such) ∙ other-who who by other)

-- each member is so, also with one more
more-so : {A : Type 0} (P Such : A → Type 0) → ((x : A) → Such x → P x) → (old new : List A) → OneMore Such old new → EachMember P old → EachMember P new
more-so P Such now old new (inl same) each = subst (EachMember P) (sym same) each
more-so P Such now old new (inr (x, more, such)) each = subst (EachMember P) (sym more) (each-push P old x (now x such) each)

module _ {layout : Layout} {by : Who} {step : Step} {put : Option Log} {old new : View} {found : ℕ} {got : Option BodyValue} (made : Steps layout by step put old new found got) where
  adds : Adds by step found (noted by old) (view_by layout by step found (content_of layout by step put found got) (noted by old))
  adds = adds-by layout by step found (content_of layout by step put found got) (noted by old)

  more-marks : OneMore (λ (m : Mark). m.stamp.who ≡ by) old.marks new.marks
  more-marks = subst (λ (v : View). OneMore (λ (m : Mark). m.stamp.who ≡ by) old.marks v.marks) (sym made.told.next) adds.marks

  more-settings : OneMore (λ (s : Setting). (s.stamp.who ≡ by) × (new.sights ≡ old.sights)) old.settings new.settings
  more-settings = subst (λ (v : View). OneMore (λ (s : Setting). (s.stamp.who ≡ by) × (v.sights ≡ old.sights)) old.settings v.settings) (sym made.told.next) adds.settings

  -- what a step lists is of its command
  pub marks-own : (P : Who → Type 0) → P by → EachMember (λ (m : Mark). P m.stamp.who) old.marks → EachMember (λ (m : Mark). P m.stamp.who) new.marks
  marks-own P now each = more-so (λ (m : Mark). P m.stamp.who) _ (λ m own. subst P (sym own) now) old.marks new.marks more-marks each

  pub settings-own : (P : Who → Type 0) → P by → EachMember (λ (s : Setting). P s.stamp.who) old.settings → EachMember (λ (s : Setting). P s.stamp.who) new.settings
  settings-own P now each = more-so (λ (s : Setting). P s.stamp.who) _ (λ s own. subst P (sym own.0) now) old.settings new.settings more-settings each

  -- what another command did stays, its entries with it
  pub marks-stay : (who : Who) → who ≢ by → filter (λ (m : Mark). is_same who m.stamp.who) new.marks ≡ filter (λ (m : Mark). is_same who m.stamp.who) old.marks
  marks-stay who other = kept (λ (m : Mark). m.stamp.who) _ who by other (λ m own. own) old.marks new.marks more-marks

  pub account-stays : (who : Who) → who ≢ by → deeds who new ≡ deeds who old → (earlier : List (Command × Answer)) (command : Command) (row : Row) → IsAccounted layout earlier old who command row → IsAccounted layout earlier new who command row
  account-stays who other same earlier command row was = record {
    marked = ap (map marking_of) (marks-stay who other) ∙ was.marked;
    failed = ap (filter_map failed_in) same ∙ was.failed;
    set = ap (map (λ (s : Setting). (s.thread, s.policy))) (kept (λ (s : Setting). s.stamp.who) _ who by other (λ s own. own.0) old.settings new.settings more-settings) ∙ was.set;
    own = was.own;
  }
