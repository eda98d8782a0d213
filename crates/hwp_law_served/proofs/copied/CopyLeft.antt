-- What stands behind the accesses of a copy that went well, whatever it was answered: entries on the way of the access that comes, and
-- behind them no machine check.
use Rattle.std.proofs.Common.{◌≡◌, inl, inr, ℕ, Bool, false, cond, List, [], ◌∷◌, Some, length, append-nil, refl, sym, ap, ◌∙◌, subst}
use Rattle.std.proofs.lemmas.Option.{none-some, same_Some}
use Rattle.hwp_law.specs.hwp_geom.declared.Layout.{Layout}
use Rattle.hwp_law.specs.hwp_geom.declared.Page.{Page}
use Rattle.hwp_law.specs.hwp_geom.declared.Thread.{Thread}
use Rattle.hwp_law.specs.hwp_geom.declared.VSlot.{VSlot}
use Rattle.hwp_law.specs.hwp_page.declared.At.{At}
use Rattle.hwp_plain.specs.hwp_core_rule.declared.Made.{Made}
use Rattle.hwp_plain.specs.hwp_core_rule.declared.View.{View}
use Rattle.hwp_plain.specs.hwp_core_rule.Lists.{EachMember}
use Rattle.hwp_law.specs.Commands.{is_check}
use Rattle.hwp_law.specs.hwp_report_text.declared.Answer.{Answer}
use Rattle.hwp_law.specs.hwp_report_text.declared.Answer.TheVariants as answers
use Rattle.hwp_cpu_row.specs.hwp_claim.declared.EventOutcome.{EventOutcome}
use Rattle.hwp_cpu_access.specs.hwp_fault.declared.AccessKind.{AccessKind}
use Rattle.hwp_cpu_access.specs.hwp_fault.declared.AccessKind.TheVariants as kinds
use Rattle.hwp_cpu_access.specs.hwp_fault.declared.Request.{Request}
use Rattle.hwp_cpu_access.specs.hwp_fault.Touches.{refusal_by}
use Rattle.hwp_cpu_access.specs.hwp_fork.declared.cow.Sub.{Sub}
use Rattle.hwp_cpu_access.specs.Copyings.{request_by}
use Rattle.hwp_cpu_access.specs.Runs.{IsBetween, Run}
use Rattle.hwp_law_served.specs.Copied.{IsBehind, IsCopyEnded, IsLeft, IsRefused}

no-check : (kind : AccessKind) (slot : VSlot) (line : ℕ) (thread : Thread) → is_check (refusal_by kind slot line thread) ≡ false
no-check kinds.Load slot line thread = refl
no-check (kinds.Store word) slot line thread = refl

module _ (store : Request) (page : Page) (sub : Sub) where
  left-none : (rest : List Made) → rest ≡ [] → IsLeft (request_by store page sub) rest
  left-none rest is = record { way = []; behind = []; rest_is = is; such = λ a comes i m there. absurd (none-some m there); unchecked = refl }

  such-of : (rest : List Made) → IsBehind store page sub rest → (a : Request) → request_by store page sub ≡ Some a → EachMember (IsBetween a) rest
  such-of rest b a comes = subst (λ (x : Request). EachMember (IsBetween x) rest) (same_Some b.access a (sym b.access_is ∙ comes)) b.such

  left-behind : (rest : List Made) → IsBehind store page sub rest → IsLeft (request_by store page sub) rest
  left-behind rest b = record {
    way = rest;
    behind = [];
    rest_is = sym (append-nil rest);
    such = such-of rest b;
    unchecked = refl;
  }

  left-refused : (rest : List Made) (at : At) → IsRefused store page sub rest at → IsLeft (request_by store page sub) rest
  left-refused rest at is = record {
    way = is.front;
    behind = is.last ∷ [];
    rest_is = is.rest_is;
    such = such-of is.front is.behind;
    unchecked = ap (λ (b : Bool). length (cond b (is.last ∷ []) [])) (ap is_check is.refused.2 ∙ no-check is.behind.access.kind is.behind.access.slot is.behind.access.line is.behind.access.thread);
  }

  pub left-of : (layout : Layout) (view : View) (runs : List Run) (rest : List Made) (told : List EventOutcome) (answer : Answer) → IsCopyEnded layout view store page sub runs rest told answer → IsLeft (request_by store page sub) rest
  left-of layout view runs rest told (answers.Stored at) (going, is) = left-none rest is.rest_is
  left-of layout view runs rest told (answers.Sigbus at) (going, inl is) = left-refused rest at is
  left-of layout view runs rest told (answers.Sigbus at) (going, inr is) = left-behind rest is.behind
  left-of layout view runs rest told answers.NoFrame (going, is) = left-behind rest is.behind
  left-of layout view runs rest told (answers.Gone ended) is = left-behind rest is.behind
  left-of layout view runs rest told answers.Stopped is = elim is.behind [
    | inl b ↦ left-behind rest b
    | inr freeing ↦ left-none rest freeing.rest_is
  ]
  left-of layout view runs rest told answers.GuestBad (going, begun, is) = left-none rest is
  left-of layout view runs rest told answers.GuestStopped (going, begun, is) = left-none rest is
  left-of layout view runs rest told _ is = absurd is
