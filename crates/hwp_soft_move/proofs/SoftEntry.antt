-- A body that has the entry of a soft offline: it can go home, to whichever frame the page's words lead.
use Rattle.std.proofs.Common.{◌≡◌, ℕ, zero, suc, ◌+◌, Bool, true, not, cond, List, [], ◌∷◌, ◌++◌, Some, None, length, drop, slice_get, refl, sym, ap, ◌∙◌, subst, arith}
use Rattle.std.proofs.Math.Seq.{drop-append_seam}
use Rattle.std.proofs.lemmas.Bool.{both_ways, ne_eqb}
use Rattle.std.proofs.lemmas.List.Sums.{fold-append}
use Rattle.std.proofs.lemmas.Option.{none-some, same_Some}
use Rattle.std.specs.List.{find}
use Rattle.hwp_claim_frame.specs.hwp_geom.declared.Frame.{Frame}
use Rattle.hwp_claim_frame.specs.hwp_geom.declared.Layout.{Layout}
use Rattle.hwp_claim_frame.specs.hwp_geom.declared.Page.{Page}
use Rattle.hwp_claim_frame.specs.hwp_geom.declared.Proc.{Proc}
use Rattle.hwp_claim_frame.specs.hwp_geom.declared.TransDecl.{TransDecl}
use Rattle.hwp_claim_frame.specs.hwp_geom.declared.Who.{Who}
use Rattle.hwp_claim_frame.specs.hwp_geom.Layout.{is_locked}
use Rattle.hwp_claim_frame.specs.hwp_page.declared.At.{At}
use Rattle.hwp_claim_frame.specs.hwp_page.declared.Entry.{Entry}
use Rattle.hwp_claim_frame.specs.hwp_page.declared.PageState.{PageState}
use Rattle.hwp_claim_frame.specs.hwp_page.declared.What.TheVariants as entries
use Rattle.hwp_claim_frame.specs.hwp_page.Endings.{has_ending}
use Rattle.hwp_claim_frame.specs.hwp_page.History.{BodyValue, Leads}
use Rattle.hwp_claim_frame.specs.hwp_page.Step.{after}
use Rattle.hwp_claim_frame.specs.hwp_core_rule.declared.InHand.{InHand}
use Rattle.hwp_claim_frame.specs.hwp_core_rule.declared.Log.{Log}
use Rattle.hwp_claim_frame.specs.hwp_core_rule.declared.Sight.{Sight}
use Rattle.hwp_claim_frame.specs.hwp_core_rule.declared.View.{View}
use Rattle.hwp_claim_frame.specs.hwp_core_rule.Asks.{CanGoHome, Extends}
use Rattle.hwp_claim_frame.specs.hwp_core_rule.Lists.{EachMember, SomeMember}
use Rattle.hwp_claim_frame.specs.hwp_core_rule.Logs.{log_of, opening_at, state_of, fitting_word}
use Rattle.hwp_claim_frame.specs.hwp_core_rule.Views.{is_body_of, more_of}
use Rattle.hwp_claim_frame.specs.hwp_core_rule.parts.Entries.{HasSeen}
use Rattle.hwp_claim_frame.specs.hwp_core_rule.parts.Fits.{FitsWords}
use Rattle.hwp_claim_frame.proofs.of_hwp_core_rule.Lists.{same-number}
use Rattle.hwp_claim_frame.specs.hwp_core_rule.Hands.{body_in}
use Rattle.hwp_claim_frame.specs.hwp_core.Holds.{page_lock}
use Rattle.hwp_claim_frame.proofs.of_hwp_core.VacateLaws.{put-fits-of}
use Rattle.hwp_soft_move.specs.Relocating.{HasEntry}

module _ {layout : Layout} {who : Who} {page : Page} {log : Log} {done : At} {body : BodyValue} (has : HasEntry layout who page log done body) (frame : Frame) (seen : ℕ) where
  abbrev taken : InHand
  taken = body_in (Some frame) log seen

  abbrev entry : Entry
  entry = record { who = who; what = entries.Soft }

  abbrev longer : Log
  longer = record { page = log.page; entries = log.entries ++ entry ∷ [] }

  longer-more : more_of taken longer ≡ entry ∷ []
  longer-more = drop-append_seam log.entries (entry ∷ [])

  pub one-more : more_of taken (log_of body) ≡ entry ∷ []
  one-more = ap (more_of taken) has.log_is ∙ longer-more

  longer-state : state_of layout log ≡ state_of layout longer
  longer-state = sym (fold-append (λ (t : PageState) (e : Entry). after t e.what) (opening_at (slice_get layout.pages log.page.0) (is_locked layout log.page)) log.entries (entry ∷ []))

  -- the content is kept
  pub same-state : state_of layout (log_of body) ≡ state_of layout log
  same-state = ap (state_of layout) has.log_is ∙ sym longer-state

  pub body-page : body.page ≡ page
  body-page = ap (λ (l : Log). l.page) has.log_is ∙ has.page_is

  of-entry : (P : Entry → Type 0) → P entry → EachMember P (more_of taken longer)
  of-entry P is i x there = which i (sym (ap (λ (l : List Entry). slice_get l i) longer-more) ∙ there)
    where
      which : (j : ℕ) → slice_get (entry ∷ []) j ≡ Some x → P x
      which zero at = subst P (same_Some entry x at) is
      which (suc j) at = absurd (none-some x at)

  extends : (sights : List Sight) → HasSeen (drop seen sights) who (Some frame) entries.Soft → Extends layout who sights taken (log_of body)
  extends sights saw = subst (Extends layout who sights taken) (sym has.log_is) (record {
    page_is = refl;
    longer = ap (λ (list : List Entry). log.entries ++ list) (sym longer-more);
    leads = subst (λ (list : List Entry). Leads layout log.page (state_of layout log) list (state_of layout longer)) (sym longer-more) (has.cached, longer-state);
    own = of-entry (λ (e : Entry). e.who ≡ who) refl;
    seen = of-entry (λ (e : Entry). HasSeen (drop seen sights) who (Some frame) e.what) saw;
  })

  kills-none : (process : Proc) → has_ending layout process (drop taken.since body.log) ≡ true → SomeMember (λ (p : Proc). p ≡ process) taken.killed
  kills-none process ended = absurd (both_ways true (sym ended ∙ ap (λ (l : Log). has_ending layout process (drop (length log.entries) l.entries)) has.log_is ∙ ap (has_ending layout process) longer-more) refl)

  -- the words of a page in this frame fit the body
  pub words-fit : (other : Frame) (trans : List ℕ) → ((slot : ℕ) (d : TransDecl) → slice_get layout.trans slot ≡ Some d → d.page ≡ page → slice_get trans slot ≡ Some (fitting_word (state_of layout log) (other.0 + 1) slot))
      → FitsWords layout (log_of body) (other.0 + 1) trans
  words-fit other trans words = record {
    cached = ap not (ne_eqb (other.0 + 1) 0 (λ e. omega (arith, e))) ∙ sym (ap (λ (s : PageState). s.cached) same-state ∙ has.cached);
    used = λ slot w d declared own there. same_Some w (fitting_word (state_of layout log) (other.0 + 1) slot) (sym there ∙ words slot d declared (own ∙ body-page)) ∙ ap (λ (s : PageState). fitting_word s (other.0 + 1) slot) (sym same-state);
  }

  -- with the page's lock, whose words fit it
  pub goes-home : (view : View) (other : Frame) (trans : List ℕ) → view.pages ≡ page_lock page (Some other) (Some trans) ∷ [] → view.bodies ≡ taken ∷ [] → FitsWords layout (log_of body) (other.0 + 1) trans
      → HasSeen (drop seen view.sights) who (Some frame) entries.Soft → CanGoHome layout who view (log_of body)
  goes-home view other trans pages bodies fits saw = record {
    body = taken;
    body_is = ap (find (is_body_of body.page)) bodies ∙ ap (λ (b : Bool). cond b (Some taken) None) (same-number log.page.0 body.page.0 (sym (ap (λ (l : Log). l.page.0) has.log_is)));
    extends = extends view.sights saw;
    fits = put-fits-of (Some other) trans taken (log_of body) body-page pages fits;
    killed = kills-none;
  }
