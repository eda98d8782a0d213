-- What a task tells by its class.
use Rattle.std.specs.Prelude.{◌≡◌, ◌≢◌, ℕ, ◌≤◌, Some, None}
use Rattle.hwp_page.specs.hwp_geom.declared.Frame.{Frame}
use Rattle.hwp_page.specs.hwp_geom.declared.Layout.{Layout}
use Rattle.hwp_core_rule.specs.declared.view.View.{View}
use Rattle.hwp_core_rule.specs.Turns.{Member}
use Rattle.hwp_core_rule.specs.Ranks.{HasFrame, HasPage, IsRanked, PaysRevival}

-- A task whose processor has a frame's lock, a frame in hand or a reservation is of class 1; where it has a page's lock, of
-- class 1 or 2; and a task that claims a failure is of class 1 to 3. None of these is over.
pub record TellsClass {S : Type 0} (m : Member S) : Type 0 where
  pub frame : (layout : Layout) (view : View) (s : S) → m.fits layout view s → HasFrame view → (m.class s ≡ 1) × (m.plan s ≢ None)
  pub page : (layout : Layout) (view : View) (s : S) → m.fits layout view s → HasPage view → (m.class s ≤ 2) × (m.plan s ≢ None)
  pub claim : (layout : Layout) (view : View) (s : S) (frame : Frame) (cycle : ℕ) → m.fits layout view s → m.claims s ≡ Some (frame, cycle) → (m.class s ≤ 3) × (m.plan s ≢ None)

-- the law of tasks that a scheduler may run
pub record IsScheduled {S : Type 0} (m : Member S) : Type 0 where
  pub ranked : IsRanked m
  pub tells : TellsClass m
  pub pays : PaysRevival m
