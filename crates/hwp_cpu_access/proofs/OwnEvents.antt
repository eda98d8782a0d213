-- The machine's own event in banks that hold nothing: its failure is required in user mode, and in kernel mode it stops the machine.
use Rattle.std.proofs.Common.{◌≡◌, ℕ, ◌+◌, ◌<◌, ◌≤◌, ◌==◌, ◌&&◌, nat_le, Bool, true, false, cond, List, [], ◌∷◌, Option, Some, None, option_map, unwrap_or, refl, sym, ap, ◌∙◌, subst, arith}
use Rattle.std.specs.declared.alloc.Global.{Global}
use Rattle.std.proofs.lemmas.Bool.{both_ways, eq-eqb, lt-leb}
use Rattle.hwp_fault.specs.hwp_geom.declared.Frame.{Frame}
use Rattle.hwp_fault.specs.hwp_geom.declared.Layout.{Layout}
use Rattle.hwp_fault.specs.hwp_geom.declared.Mode.{Mode}
use Rattle.hwp_fault.specs.hwp_geom.declared.Mode.TheVariants as modes
use Rattle.hwp_fault.specs.hwp_geom.declared.Thread.{Thread}
use Rattle.hwp_fault.specs.hwp_geom.declared.Who.{Who}
use Rattle.hwp_fault.specs.hwp_geom.Limits.{line_limit}
use Rattle.hwp_claim.specs.hwp_banks.declared.Origin.{Origin}
use Rattle.hwp_claim.specs.hwp_banks.declared.Origin.TheVariants as origins
use Rattle.hwp_claim.specs.hwp_banks.Addresses.{frame_at}
use Rattle.hwp_claim.specs.hwp_banks.Events.{bank_of, own_event}
use Rattle.hwp_claim.specs.hwp_banks.Logged.{without_over}
use Rattle.hwp_claim.specs.hwp_severity.declared.Grade.{Grade}
use Rattle.hwp_claim.specs.hwp_severity.declared.Severity.{Severity}
use Rattle.hwp_claim.specs.hwp_severity.declared.Severity.TheVariants as severities
use Rattle.hwp_fault.specs.hwp_core_rule.Words.{Words}
use Rattle.hwp_claim.specs.hwp_report_text.declared.Acted.{Acted}
use Rattle.hwp_claim.specs.hwp_report_text.declared.Acted.TheVariants as acts
use Rattle.hwp_claim.specs.Fails as fails
use Rattle.hwp_claim.specs.hwp_banks.Banks.{empty_banks}
use Rattle.hwp_claim.specs.hwp_severity.Handling.{has_stop}
use Rattle.hwp_claim.specs.declared.Handler.{Handler}
use Rattle.hwp_claim.specs.declared.Held.{Held}
use Rattle.hwp_claim.specs.declared.handler.HandlerAt.{HandlerAt}
use Rattle.hwp_claim.specs.declared.handler.HandlerAt.TheVariants as handler_at
use Rattle.hwp_claim.specs.Events.{held_in}
use Rattle.hwp_claim.specs.Handlers as handlers
use Rattle.hwp_claim.specs.Handlers.{failing, tell_on}
use Rattle.hwp_claim.specs.Queue.{Queue}
use Rattle.hwp_claim.specs.Told.{are_held_back, at_once, frame_of, required_by, severity_at_once}
use Rattle.hwp_claim.specs.Checks.{restarting, with_own}
use Rattle.hwp_cpu_access.specs.Costs.{past_cost, rest_at, word_of, paused_cost}
use Rattle.hwp_cpu_access.specs.Fits.{IsOfAccess}

-- ---- the one event that is held

abbrev grade_in : Mode → Grade
grade_in modes.User = record { severity = severities.Required; row = 9 }
grade_in modes.Kernel = record { severity = severities.Stop; row = 10 }

abbrev held_by : Origin → Mode → Frame → ℕ → Held
held_by origin mode frame line = record { bank = bank_of origin; event = without_over (own_event origin frame line); grade = grade_in mode }

own-held : (origin : Origin) (mode : Mode) (frame : Frame) (line : ℕ) → IsOfAccess origin → held_in (restarting mode) (with_own origin frame line empty_banks) ≡ held_by origin mode frame line ∷ []
own-held origins.Access modes.User frame line is = refl
own-held origins.Access modes.Kernel frame line is = refl
own-held origins.Fetch modes.User frame line is = refl
own-held origins.Fetch modes.Kernel frame line is = refl
own-held origins.BadLine mode frame line is = absurd is
own-held origins.WeakLine mode frame line is = absurd is

-- it stops the machine in kernel mode
abbrev is_kernel : Mode → Bool
is_kernel modes.User = false
is_kernel modes.Kernel = true

own-stops : (origin : Origin) (mode : Mode) (frame : Frame) (line : ℕ) → IsOfAccess origin → has_stop (restarting mode) (with_own origin frame line empty_banks) ≡ is_kernel mode
own-stops origins.Access modes.User frame line is = refl
own-stops origins.Access modes.Kernel frame line is = refl
own-stops origins.Fetch modes.User frame line is = refl
own-stops origins.Fetch modes.Kernel frame line is = refl
own-stops origins.BadLine mode frame line is = absurd is
own-stops origins.WeakLine mode frame line is = absurd is

-- it names its frame
own-frame : (origin : Origin) (mode : Mode) (frame : Frame) (line : ℕ) → line < line_limit → frame_at (held_by origin mode frame line).event.addr ≡ frame.0
own-frame origin mode frame line inside = omega (arith, inside)

-- ---- what comes of it

-- nothing comes next that takes long: the machine is stopped, or the failure of the frame begins
pub record IsBriefly (frame : Frame) (h : Handler) : Type 0 where
  pub unanswered : handlers.answer h ≡ None
  pub few : (w : Words) → handlers.cost h w + rest_at frame h.events h.at w ≤ 2 + past_cost (word_of frame w)

module _ (layout : Layout) (alloc : Global) (who : Who) (thread : Option Thread) (frame : Frame) where
  abbrev handler_on : Bool → Queue × HandlerAt → Handler
  handler_on stops next = record { alloc = alloc; who = who; thread = thread; stops = stops; events = next.0; at = next.1 }

  -- it stops the machine, or is a panic
  stops-briefly : (stops : Bool) (held : Held) (acted : Acted) → handlers.at_end (record { held = held; acted = acted; found = None } ∷ []) ≡ handler_at.Stop → at_once layout (are_held_back stops []) held ≡ Some acted
      → IsBriefly frame (handler_on stops (tell_on layout alloc who thread stops (held ∷ []) []))
  stops-briefly stops held acted ends is = subst (λ (o : Option Acted). IsBriefly frame (handler_on stops (unwrap_or (option_map (λ (x : Acted). tell_on layout alloc who thread stops [] (record { held = held; acted = x; found = None } ∷ [])) o) (record { told = []; left = held ∷ [] }, failing layout alloc who thread held)))) (sym is)
      (subst (λ (x : HandlerAt). IsBriefly frame (handler_on stops (record { told = record { held = held; acted = acted; found = None } ∷ []; left = [] }, x))) (sym ends) (record { unanswered = refl; few = λ w. omega arith }))

  -- its failure begins
  fails-briefly : (stops : Bool) (held : Held) → frame_at held.event.addr ≡ frame.0 → layout.recovery ≡ true → at_once layout (are_held_back stops []) held ≡ None
      → IsBriefly frame (handler_on stops (tell_on layout alloc who thread stops (held ∷ []) []))
  fails-briefly stops held own recovers is = subst (λ (o : Option Acted). IsBriefly frame (handler_on stops (unwrap_or (option_map (λ (x : Acted). tell_on layout alloc who thread stops [] (record { held = held; acted = x; found = None } ∷ [])) o) (record { told = []; left = held ∷ [] }, failing layout alloc who thread held)))) (sym is)
      (by layout.recovery recovers)
    where
      by : (b : Bool) → b ≡ true → IsBriefly frame (handler_on stops (record { told = []; left = held ∷ [] }, handler_at.Fail (fails.begin alloc who (frame_of held) (required_by thread held.grade.severity) true b)))
      by true recovers = record {
        unanswered = refl;
        few = λ w. let same : cond ((frame_at held.event.addr == frame.0) && true) (past_cost (word_of frame w)) paused_cost ≡ past_cost (word_of frame w) = ap (λ (c : Bool). cond (c && true) (past_cost (word_of frame w)) paused_cost) (eq-eqb (frame_at held.event.addr) frame.0 own) in omega (arith, same);
      }
      by false recovers = absurd (both_ways true (sym recovers) refl)

-- the machine check of a line that is bad in a frame of the layout, where the banks held nothing
module _ (layout : Layout) (alloc : Global) (who : Who) (thread : Option Thread) (origin : Origin) (mode : Mode) (frame : Frame) (line : ℕ) (of_access : IsOfAccess origin) (within : line < line_limit) (inside : frame.0 < layout.frames) where
  abbrev held : Held
  held = held_by origin mode frame line

  named : frame_at held.event.addr ≡ frame.0
  named = own-frame origin mode frame line within

  -- in user mode its failure takes place, if the machine recovers
  in-user : (b : Bool) → layout.recovery ≡ b → (grade : Grade) → grade.severity ≡ severities.Required → IsBriefly frame (handler_on layout alloc who thread frame false (tell_on layout alloc who thread false (record held { grade = grade } ∷ []) []))
  in-user b recovery grade required = by b recovery
    where
      now : at_once layout false (record held { grade = grade }) ≡ cond layout.recovery None (Some acts.Panic)
      now = ap (λ (s : Severity). severity_at_once layout false (frame_at held.event.addr) s) required ∙ ap (λ (c : Bool). cond c (Some acts.Outside) (cond layout.recovery None (Some acts.Panic))) (ap (nat_le layout.frames) named ∙ lt-leb layout.frames frame.0 inside)

      by : (c : Bool) → layout.recovery ≡ c → IsBriefly frame (handler_on layout alloc who thread frame false (tell_on layout alloc who thread false (record held { grade = grade } ∷ []) []))
      by true is = fails-briefly layout alloc who thread frame false (record held { grade = grade }) named is (now ∙ ap (λ (c : Bool). cond c None (Some acts.Panic)) is)
      by false is = stops-briefly layout alloc who thread frame false (record held { grade = grade }) acts.Panic refl (now ∙ ap (λ (c : Bool). cond c None (Some acts.Panic)) is)

  in-kernel : (grade : Grade) → grade.severity ≡ severities.Stop → IsBriefly frame (handler_on layout alloc who thread frame true (tell_on layout alloc who thread true (record held { grade = grade } ∷ []) []))
  in-kernel grade stop = stops-briefly layout alloc who thread frame true (record held { grade = grade }) acts.Stop refl (ap (λ (s : Severity). severity_at_once layout true (frame_at held.event.addr) s) stop)

  by-mode : (m : Mode) → mode ≡ m → (stops : Bool) → stops ≡ is_kernel m → (l : List Held) → l ≡ held ∷ [] → IsBriefly frame (handler_on layout alloc who thread frame stops (tell_on layout alloc who thread stops l []))
  by-mode modes.User is stops none l one = subst (λ (b : Bool). IsBriefly frame (handler_on layout alloc who thread frame b (tell_on layout alloc who thread b l []))) (sym none)
      (subst (λ (x : List Held). IsBriefly frame (handler_on layout alloc who thread frame false (tell_on layout alloc who thread false x []))) (sym one) (in-user layout.recovery refl (grade_in mode) (ap (λ (n : Mode). (grade_in n).severity) is)))
  by-mode modes.Kernel is stops some l one = subst (λ (b : Bool). IsBriefly frame (handler_on layout alloc who thread frame b (tell_on layout alloc who thread b l []))) (sym some)
      (subst (λ (x : List Held). IsBriefly frame (handler_on layout alloc who thread frame true (tell_on layout alloc who thread true x []))) (sym one) (in-kernel (grade_in mode) (ap (λ (n : Mode). (grade_in n).severity) is)))

  pub own-briefly : IsBriefly frame (handlers.begin layout alloc who thread (restarting mode) (with_own origin frame line empty_banks))
  own-briefly = by-mode mode refl (has_stop (restarting mode) (with_own origin frame line empty_banks)) (own-stops origin mode frame line of_access) (held_in (restarting mode) (with_own origin frame line empty_banks)) (own-held origin mode frame line of_access)
