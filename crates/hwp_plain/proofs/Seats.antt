-- A seat that holds something is that of a processor.
use Rattle.std.proofs.Common.{◌≡◌, ℕ, ◌<◌, ◌≤◌, ◌⊎◌, inl, inr, List, [], ◌∷◌, Some, map, length, slice_get, refl, sym, ap, subst, arith}
use Rattle.std.proofs.lemmas.Bool.{cases_lt}
use Rattle.std.proofs.lemmas.List.{get_or_past}
use Rattle.std.proofs.lemmas.Option.{slice_get-get_or}
use Rattle.hwp_script_words.specs.hwp_geom.declared.Layout.{Layout}
use Rattle.hwp_script_words.specs.hwp_geom.Layout.{IsSound}
use Rattle.hwp_script_words.specs.hwp_geom.Limits.{cpu_limit}
use Rattle.hwp_core_rule.specs.declared.Part.{Part}
use Rattle.hwp_core_rule.specs.declared.View.{View}
use Rattle.hwp_core_rule.specs.Lists.{SomeMember}
use Rattle.hwp_core_rule.specs.Opening.{opening_view}
use Rattle.hwp_core_rule.specs.parts.Holdings.{HoldsNothing, ProcessorsApart}
use Rattle.hwp_core_rule.proofs.Lists.{at_map}
use Rattle.hwp_core_rule.proofs.NotLater.{one-view}
use Rattle.hwp_core_rule.specs.Boards.{view_of}
use Rattle.hwp_core_rule.specs.Ranks.{HasFrame, HasPage}
use Rattle.hwp_core_rule.specs.Turns.{Member}
use Rattle.hwp_plain.specs.Order.{Running, seat_of}
use Rattle.hwp_plain.specs.Ready.{Ready}

blank : (i : ℕ) → HoldsNothing (opening_view i)
blank i = record { refs = refl; locks = refl; pages = refl; reserved = refl; hands = refl; owed = refl; bodies = refl }

pub frame-held : (v : View) → HasFrame v → HoldsNothing v → ⊥
frame-held v (inl locks) none = locks none.locks
frame-held v (inr (inl hands)) none = hands none.hands
frame-held v (inr (inr reserved)) none = reserved none.reserved

pub page-held : (v : View) → HasPage v → HoldsNothing v → ⊥
page-held v pages none = pages none.pages

pub seat-held : {S : Type 0} (m : Member S) (a : Running S) (i : ℕ) → Ready m a → (HoldsNothing (view_of a.state i) → ⊥) → (cpu : ℕ) × (cpu < length a.tasks) × (i ≡ seat_of a cpu)
seat-held {S} m a i ready held = which (cases_lt i (length a.state.views))
  where
    part-lists : List (List Part)
    part-lists = map (λ (v : View). v.parts) a.state.views

    apart : ProcessorsApart a.layout part-lists
    apart = ready.rule.rule.processors.processors

    v : View
    v = view_of a.state i

    own-of : slice_get a.state.views i ≡ Some v → (ps : List Part) → v.parts ≡ ps → (cpu : ℕ) × (cpu < length a.tasks) × (i ≡ seat_of a cpu)
    own-of there [] none = absurd (held (ready.rule.held.nothing i v there none))
    own-of there (p ∷ ps) some = (
      p.cpu.0,
      omega (arith, less, ready.crew.count),
      one-view a.layout part-lists apart i (a.seat p.cpu) 0 mine.0 v.parts (view_of a.state (a.seat p.cpu)).parts p mine.1
          (at_map (λ (x : View). x.parts) a.state.views i v there)
          (at_map (λ (x : View). x.parts) a.state.views (a.seat p.cpu) (view_of a.state (a.seat p.cpu)) (ready.seats.there p.cpu less))
          listed mine.2 (sym mine.3),
    )
      where
        listed : slice_get v.parts 0 ≡ Some p
        listed = ap (λ (l : List Part). slice_get l 0) some

        less : p.cpu.0 < a.layout.cpus
        less = apart.declared i v.parts (at_map (λ (x : View). x.parts) a.state.views i v there) 0 p listed

        mine : SomeMember (λ (q : Part). q.cpu ≡ p.cpu) (view_of a.state (a.seat p.cpu)).parts
        mine = ready.seats.own p.cpu less

    which : (i < length a.state.views) ⊎ (length a.state.views ≤ i) → (cpu : ℕ) × (cpu < length a.tasks) × (i ≡ seat_of a cpu)
    which (inl within) = own-of (slice_get-get_or a.state.views i (opening_view i) within) v.parts refl
    which (inr past) = absurd (held (subst HoldsNothing (sym (get_or_past a.state.views i (opening_view i) past)) (blank i)))

pub few-tasks : (layout : Layout) (n : ℕ) → IsSound layout → n ≡ layout.cpus → n ≤ cpu_limit
few-tasks layout n sound count = let cpus : layout.cpus ≤ cpu_limit = sound.cpus in omega (arith, count)
