-- How much a view holds, and of which processors it is.
use Rattle.std.specs.Prelude.{◌≡◌, ℕ, ◌+◌, ◌<◌, ◌≤◌, ◌==◌, List, [], length}
use Rattle.std.specs.Int.{from_bool}
use Rattle.hwp_page.specs.hwp_geom.declared.Layout.{Layout}
use Rattle.hwp_page.specs.hwp_geom.declared.Who.{Who}
use Rattle.hwp_core_rule.specs.declared.view.Part.{Part}
use Rattle.hwp_core_rule.specs.declared.view.Ref.{Ref}
use Rattle.hwp_core_rule.specs.declared.view.Made.{Made}
use Rattle.hwp_core_rule.specs.declared.view.Mark.{Mark}
use Rattle.hwp_core_rule.specs.declared.view.Sight.{Sight}
use Rattle.hwp_core_rule.specs.declared.view.FrameInHand.{FrameInHand}
use Rattle.hwp_core_rule.specs.declared.view.Length.{Length}
use Rattle.hwp_core_rule.specs.declared.view.Setting.{Setting}
use Rattle.hwp_core_rule.specs.declared.view.View.{View}
use Rattle.hwp_core_rule.specs.Lists.{EachMember, EachListed, SomeMember, sum_all}
use Rattle.hwp_core_rule.specs.Views.{refs_on, no_debts}

-- what a view holds of frames
pub record Holdings : Type 0 where
  pub reserved : ℕ
  pub hands : List FrameInHand
  pub refs : List Ref

abbrev pub frames_held : Holdings → ℕ
frames_held h = h.reserved + length h.hands + length h.refs

-- at most two frames, and on one frame no more references than a page can need
pub record IsBounded (layout : Layout) (h : Holdings) : Type 0 where
  pub few : frames_held h ≤ 2
  pub shares : (f : ℕ) → refs_on f h.refs ≤ length layout.trans + 2

-- In each view the reservations, the frames in hand and the frames with references are together at most 2, and references
-- on one frame at most the translations plus two. Broken by: a task that takes a third frame, which could fill a count.
pub record HoldingsBounded (layout : Layout) (held : List Holdings) : Type 0 where
  pub bounded : EachMember (IsBounded layout) held

-- no reference, no lock, no reservation, no frame or body in hand, and nothing owed
pub record HoldsNothing (v : View) : Type 0 where
  pub refs : v.refs ≡ []
  pub locks : v.locks ≡ []
  pub pages : v.pages ≡ []
  pub reserved : v.reserved ≡ 0
  pub hands : v.hands ≡ []
  pub owed : v.owed ≡ no_debts
  pub bodies : v.bodies ≡ []

-- A view of no processor holds nothing. Broken by: a seat that gives its processor away and keeps a lock.
pub record HeldByProcessors (views : List View) : Type 0 where
  pub nothing : EachMember (λ (v : View). v.parts ≡ [] → HoldsNothing v) views

-- Each processor of the layout is part of exactly one view, and no other processor of any. Broken by: one processor
-- stepped by two seats.
pub record ProcessorsApart (layout : Layout) (parts : List (List Part)) : Type 0 where
  pub one : (c : ℕ) → c < layout.cpus → sum_all (λ (p : Part). from_bool (p.cpu.0 == c)) parts ≡ 1
  pub declared : EachListed (λ (p : Part). p.cpu.0 < layout.cpus) parts

-- the command is one that a processor of the view has come to
abbrev pub IsPast : List Part → Who → Type 0
IsPast parts who = SomeMember (λ (p : Part). (p.cpu ≡ who.cpu) × (who.seq ≤ p.latest)) parts

-- what a view lists is of commands that its processors have come to
pub record AreOwn (v : View) : Type 0 where
  pub made : EachMember (λ (m : Made). IsPast v.parts m.entry.who) v.made
  pub marks : EachMember (λ (m : Mark). IsPast v.parts m.stamp.who) v.marks
  pub sights : EachMember (λ (s : Sight). IsPast v.parts s.stamp.who) v.sights
  pub lengths : EachMember (λ (l : Length). IsPast v.parts l.stamp.who) v.lengths
  pub settings : EachMember (λ (s : Setting). IsPast v.parts s.stamp.who) v.settings
  pub stops : EachMember (IsPast v.parts) v.stops

-- Each view lists only what its own processors did, in commands that they have come to. Broken by: a step under the
-- number of an earlier command, or of another processor.
pub record CommandsOwn (views : List View) : Type 0 where
  pub own : EachMember AreOwn views
