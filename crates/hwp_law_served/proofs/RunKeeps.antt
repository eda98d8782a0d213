-- What each step of a run keeps of a view holds of all views at its end.
use Rattle.std.proofs.Common.{ℕ, List, [], ◌∷◌, sym, ap, subst}
use Rattle.hwp_law.specs.hwp_geom.declared.Layout.{Layout}
use Rattle.hwp_plain.specs.hwp_core_rule.declared.Rec.{Rec}
use Rattle.hwp_plain.specs.hwp_core_rule.declared.State.{State}
use Rattle.hwp_plain.specs.hwp_core_rule.declared.View.{View}
use Rattle.hwp_plain.specs.hwp_core_rule.Lists.{EachMember}
use Rattle.hwp_plain.specs.hwp_core_rule.Moves.{Move}
use Rattle.hwp_plain.specs.hwp_core_rule.Opening.{below, opening, opening_view}
use Rattle.hwp_plain.specs.hwp_core_rule.Rule.{Holds}
use Rattle.hwp_plain.specs.hwp_core_rule.Views.{view_after}
use Rattle.hwp_plain.proofs.of_hwp_core_rule.Lists.{each-map, each-set}
use Rattle.hwp_plain.specs.hwp_core_rule.Boards.{Played}
use Rattle.hwp_law_served.specs.Turns.{Leads}

-- Of a board, and of a view on it: a step leaves it of the other views, and makes it of its own.
pub record IsKept (layout : Layout) (P : State → View → Type 0) : Type 1 where
  pub stays : (seat : ℕ) (r : Rec) (a b : State) → Holds layout a → (m : Move layout seat r a b) → Holds layout b → (v : View) → P a v → P b v
  pub moves : (seat : ℕ) (r : Rec) (a b : State) → Holds layout a → (m : Move layout seat r a b) → Holds layout b → EachMember (P a) a.views → P a m.view → P b (view_after layout r m.view)
  pub opens : (c : ℕ) → P (opening layout) (opening_view c)

module _ (layout : Layout) (P : State → View → Type 0) (kept : IsKept layout P) where
  along : (turns : List Played) (a b : State) → Holds layout a → Leads layout a turns b → EachMember (P a) a.views → EachMember (P b) b.views
  along [] a b holds leads each = subst (λ (s : State). EachMember (P s) s.views) (sym leads) each
  along (p ∷ ps) a b holds (mid, move, still, rest) each =
      along ps mid b still rest (subst (λ (l : List View). EachMember (P mid) l) (sym (ap (λ (s : State). s.views) move.next))
      (each-set (P mid) a.views p.seat (view_after layout p.made move.view) (kept.moves p.seat p.made a mid holds move still each (each p.seat move.view move.me)) (λ i v there. kept.stays p.seat p.made a mid holds move still v (each i v there))))

  pub run-keeps : (turns : List Played) (last : State) → Holds layout (opening layout) → Leads layout (opening layout) turns last → EachMember (P last) last.views
  run-keeps turns last holds leads = along turns (opening layout) last holds leads (each-map opening_view (P (opening layout)) (below layout.cpus) (λ i c e. kept.opens c))
