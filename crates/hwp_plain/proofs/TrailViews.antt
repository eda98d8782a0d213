-- The views after the moves of a trail.
use Rattle.std.proofs.Common.{◌≡◌, ◌≢◌, ◌⊎◌, inl, inr, ℕ, ◌<◌, List, Some, map, set, length, slice_get, get_or, refl, sym, ◌∙◌, subst}
use Rattle.std.proofs.lemmas.List.{length-map, length-set, get_or-set_same, get_or-set_other}
use Rattle.std.proofs.lemmas.Option.{slice_get-get_or, get_or_from_slice_get}
use Rattle.hwp_core_rule.specs.hwp_geom.declared.Cpu.{Cpu}
use Rattle.hwp_core_rule.specs.hwp_geom.declared.Layout.{Layout}
use Rattle.hwp_core_rule.specs.declared.Part.{Part}
use Rattle.hwp_core_rule.specs.declared.Rec.{Rec}
use Rattle.hwp_core_rule.specs.declared.View.{View}
use Rattle.hwp_core_rule.specs.Lists.{SomeMember}
use Rattle.hwp_core_rule.specs.Opening.{below, opening_view}
use Rattle.hwp_core_rule.specs.Views.{view_after}
use Rattle.hwp_core_rule.proofs.KeptTurns.{part-after}
use Rattle.hwp_core_rule.proofs.Lists.{at_map, same-or}
use Rattle.hwp_core_rule.proofs.WordsOpen.{length-below, below-at}
use Rattle.hwp_plain.specs.declared.trail.Trail.{Trail, Opening, Made'}
use Rattle.hwp_plain.specs.Trails.{made_of, views_of}

-- the list has a view for each processor of the layout, which is its own
pub record AreViews (layout : Layout) (views : List View) : Type 0 where
  pub count : length views ≡ layout.cpus
  pub own : (cpu : Cpu) → cpu.0 < layout.cpus → SomeMember (λ (p : Part). p.cpu ≡ cpu) (get_or views cpu.0 (opening_view cpu.0)).parts

pub views-open : (layout : Layout) → AreViews layout (map opening_view (below layout.cpus))
views-open layout = record {
  count = length-map (below layout.cpus) opening_view ∙ length-below layout.cpus;
  own = λ cpu less. subst (λ (v : View). SomeMember (λ (p : Part). p.cpu ≡ cpu) v.parts) (sym (first cpu.0 less)) (0, record { cpu = cpu; latest = 0 }, refl, refl);
}
  where
    first : (c : ℕ) → c < layout.cpus → get_or (map opening_view (below layout.cpus)) c (opening_view c) ≡ opening_view c
    first c less = get_or_from_slice_get (map opening_view (below layout.cpus)) c (opening_view c) (opening_view c) (at_map opening_view (below layout.cpus) c c (below-at layout.cpus c less))

module _ (layout : Layout) (views : List View) (are : AreViews layout views) where
  pub view-there : (c : ℕ) → c < layout.cpus → slice_get views c ≡ Some (get_or views c (opening_view c))
  view-there c less = slice_get-get_or views c (opening_view c) (subst (λ (n : ℕ). c < n) (sym are.count) less)

  pub view-now : (seat : ℕ) (v : View) → seat < layout.cpus → get_or (set views seat v) seat (opening_view seat) ≡ v
  view-now seat v less = get_or-set_same views seat v (opening_view seat) (subst (λ (n : ℕ). seat < n) (sym are.count) less)

  -- a step of a seat
  pub views-more : (seat : ℕ) (r : Rec) → AreViews layout (set views seat (view_after layout r (get_or views seat (opening_view seat))))
  views-more seat r = record {
    count = length-set views seat next ∙ are.count;
    own = λ cpu less. which cpu less (same-or cpu.0 seat);
  }
    where
      next : View
      next = view_after layout r (get_or views seat (opening_view seat))

      OwnIn : Cpu → View → Type 0
      OwnIn cpu v = SomeMember (λ (p : Part). p.cpu ≡ cpu) v.parts

      which : (cpu : Cpu) → cpu.0 < layout.cpus → (cpu.0 ≡ seat) ⊎ (cpu.0 ≢ seat) → SomeMember (λ (p : Part). p.cpu ≡ cpu) (get_or (set views seat next) cpu.0 (opening_view cpu.0)).parts
      which cpu less (inl same) =
          let own : SomeMember (λ (p : Part). p.cpu ≡ cpu) (get_or views seat (opening_view seat)).parts =
          subst (λ (n : ℕ). SomeMember (λ (p : Part). p.cpu ≡ cpu) (get_or views n (opening_view n)).parts) same (are.own cpu less) in
          subst (λ (n : ℕ). SomeMember (λ (p : Part). p.cpu ≡ cpu) (get_or (set views seat next) n (opening_view n)).parts) (sym same)
          (subst (λ (v : View). SomeMember (λ (p : Part). p.cpu ≡ cpu) v.parts) (sym (view-now seat next (subst (λ (n : ℕ). n < layout.cpus) same less)))
          (part-after layout r (get_or views seat (opening_view seat)) cpu own))
      which cpu less (inr other) = subst (λ (v : View). SomeMember (λ (p : Part). p.cpu ≡ cpu) v.parts) (sym (get_or-set_other views seat cpu.0 next (opening_view cpu.0) other)) (are.own cpu less)

-- a trail has a view for each processor
pub views-are : (layout : Layout) (trail : Trail) → AreViews layout (views_of layout trail)
views-are layout Opening = views-open layout
views-are layout (Made' p before seat who step found content turn) = views-more layout (views_of layout before) (views-are layout before) seat.0 (made_of who step.value found content.value)
