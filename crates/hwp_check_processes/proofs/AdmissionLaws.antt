-- What a guest is, told by which of the earlier commands stopped it, and which made frames of it bad.
use Rattle.std.proofs.Common.{◌≡◌, ◌⊎◌, inl, inr, ℕ, ◌+◌, ◌<◌, ◌≤◌, ◌==◌, ◌||◌, ◌&&◌, Bool, true, false, List, [], ◌∷◌, Option, Some, None, fold, if◌then◌else◌, ◌++◌, get_or, length, slice_get, take, refl, sym, ap, ◌∙◌, subst, arith}
use Rattle.std.specs.List.{list_any}
use Rattle.std.specs.Prelude.{option_and_then}
use Rattle.std.specs.Option.{option_map_or}
use Rattle.std.specs.FinSet as set
use Rattle.std.specs.Ordering.{nat_cmp}
use Rattle.std.specs.Cmp.{nat_cmp_total, unsigned_tied}
use Rattle.std.proofs.lemmas.Bool.{cases_eq, cases_lt, eq-eqb, ne_eqb}
use Rattle.std.proofs.lemmas.List.{get_or_append_left, get_or_push, length_push}
use Rattle.std.proofs.lemmas.Option.{same_Some}
use Rattle.hwp_check_rules.specs.hwp_guest.declared.Admit.{Admit}
use Rattle.hwp_check_rules.specs.hwp_guest.declared.Admit.TheVariants as admissions
use Rattle.hwp_check_rules.specs.hwp_guest.GuestState.{GuestState, admitted, after}
use Rattle.hwp_check_rules.specs.hwp_geom.declared.Layout.{Layout}
use Rattle.hwp_check_rules.specs.hwp_geom.declared.Mode.{Mode}
use Rattle.hwp_check_rules.specs.hwp_geom.declared.Mode.TheVariants as modes
use Rattle.hwp_check_rules.specs.hwp_geom.declared.Proc.{Proc}
use Rattle.hwp_check_rules.specs.hwp_geom.declared.VSlot.{VSlot}
use Rattle.hwp_check_rules.specs.hwp_script_words.declared.Command.{Command}
use Rattle.hwp_check_rules.specs.hwp_report_text.declared.Answer.{Answer}
use Rattle.hwp_check_rules.specs.hwp_report_text.declared.Answer.TheVariants as answers
use Rattle.hwp_check_rules.specs.hwp_law.declared.GuestAccess.{GuestAccess}
use Rattle.hwp_check_rules.specs.hwp_law.GuestRule.{denial, denied, guest_access, guest_after, guest_taken, guest_of, new_guest}
use Rattle.hwp_check_processes.specs.Admission.{AreAdmissions, admission_of, is_spoil, is_spoil_by, is_spoil_in, is_stop, is_stop_by, is_stop_in, sigbus_by}

-- ---- a command and its answer, as they were read

pub sigbus_none : (layout : Layout) (process : Proc) (p : Command × Answer) → None ≡ sigbus_by layout p → false ≡ is_stop layout process p
sigbus_none layout process p is = ap (λ (o : Option GuestAccess). option_map_or (is_stop_by process) o false) is

pub sigbus_stop : (layout : Layout) (process : Proc) (p : Command × Answer) (a : GuestAccess) (b : Bool) → Some a ≡ sigbus_by layout p → b ≡ is_stop_by process a → b ≡ is_stop layout process p
sigbus_stop layout process p a b is told = told ∙ ap (λ (o : Option GuestAccess). option_map_or (is_stop_by process) o false) is

pub spoilt_none : (layout : Layout) (process : Proc) (slot : VSlot) (p : Command × Answer) → None ≡ sigbus_by layout p → false ≡ is_spoil layout process slot p
spoilt_none layout process slot p is = ap (λ (o : Option GuestAccess). option_map_or (is_spoil_by process slot) o false) is

pub sigbus_spoil : (layout : Layout) (process : Proc) (slot : VSlot) (p : Command × Answer) (a : GuestAccess) (b : Bool) → Some a ≡ sigbus_by layout p → b ≡ is_spoil_by process slot a → b ≡ is_spoil layout process slot p
sigbus_spoil layout process slot p a b is told = told ∙ ap (λ (o : Option GuestAccess). option_map_or (is_spoil_by process slot) o false) is

-- ---- what the earlier commands made of the guest

or-shift : (a b c : Bool) → (a || b) || c ≡ a || (b || c)
or-shift true b c = refl
or-shift false b c = refl

or-turned : (a b : Bool) → a || b ≡ b || a
or-turned true true = refl
or-turned true false = refl
or-turned false true = refl
or-turned false false = refl

turned : (a b : ℕ) → (a == b) ≡ (b == a)
turned a b = elim (cases_eq a b) [ inl same ↦ eq-eqb a b same ∙ sym (eq-eqb b a (sym same)) | inr other ↦ ne_eqb a b other ∙ sym (ne_eqb b a (λ is. other (sym is))) ]

module _ (layout : Layout) (process : Proc) where
  mode-stops : (g : GuestState) (mode : Mode) (frame : ℕ) → (after mode frame g).stopped ≡ g.stopped || is_stop_in mode true
  mode-stops g modes.User frame = or-false g.stopped
    where
      or-false : (b : Bool) → b ≡ b || false
      or-false true = refl
      or-false false = refl
  mode-stops g modes.Kernel frame = or-true g.stopped
    where
      or-true : (b : Bool) → true ≡ b || true
      or-true true = refl
      or-true false = refl

  none-stops : (g : Bool) (mode : Mode) → g ≡ g || is_stop_in mode false
  none-stops true mode = refl
  none-stops false modes.User = refl
  none-stops false modes.Kernel = refl

  sigbus-stops : (g : GuestState) (o : Option GuestAccess) → (option_map_or (guest_taken process g) o g).stopped ≡ g.stopped || option_map_or (is_stop_by process) o false
  sigbus-stops g None = by g.stopped
    where
      by : (b : Bool) → b ≡ b || false
      by true = refl
      by false = refl
  sigbus-stops g (Some a) = by (a.process.0 == process.0)
    where
      by : (own : Bool) → (if own then after a.mode a.slot.0 g else g).stopped ≡ g.stopped || is_stop_in a.mode own
      by true = mode-stops g a.mode a.slot.0
      by false = none-stops g.stopped a.mode

  step-stops : (g : GuestState) (c : Command) (a : Answer) → (guest_after layout process g c a).stopped ≡ g.stopped || is_stop layout process (c, a)
  step-stops g c (answers.Sigbus at) = sigbus-stops g (guest_access layout c)
  step-stops g c a = sigbus-stops g None

  stops-from : (g : GuestState) (earlier : List (Command × Answer)) → (fold (λ (guest : GuestState) (p : Command × Answer). guest_after layout process guest p.0 p.1) g earlier).stopped ≡ g.stopped || list_any (is_stop layout process) earlier
  stops-from g [] = by g.stopped
    where
      by : (b : Bool) → b ≡ b || false
      by true = refl
      by false = refl
  stops-from g ((c, a) ∷ rest) =
      stops-from (guest_after layout process g c a) rest ∙ ap (λ (b : Bool). b || list_any (is_stop layout process) rest) (step-stops g c a) ∙ or-shift g.stopped (is_stop layout process (c, a)) (list_any (is_stop layout process) rest)

  pub stopped-of : (earlier : List (Command × Answer)) → (guest_of layout earlier process).stopped ≡ list_any (is_stop layout process) earlier
  stopped-of earlier = stops-from new_guest earlier

  module _ (slot : VSlot) where
    none-more : (b : Bool) → b ≡ b || false
    none-more true = refl
    none-more false = refl

    other-mode : (b : Bool) (mode : Mode) → b ≡ b || is_spoil_in mode false
    other-mode b modes.User = none-more b
    other-mode b modes.Kernel = none-more b

    mode-spoils : (g : GuestState) (mode : Mode) (frame : ℕ) → set.contains (after mode frame g).bad slot.0 ≡ set.contains g.bad slot.0 || is_spoil_in mode (frame == slot.0)
    mode-spoils g modes.User frame =
        set.contains-insert nat_cmp_total g.bad frame slot.0 ∙ ap (λ (b : Bool). b || set.contains g.bad slot.0) (unsigned_tied slot.0 frame ∙ turned slot.0 frame)
        ∙ or-turned (frame == slot.0) (set.contains g.bad slot.0)
    mode-spoils g modes.Kernel frame = none-more (set.contains g.bad slot.0)

    sigbus-spoils : (g : GuestState) (o : Option GuestAccess) → set.contains (option_map_or (guest_taken process g) o g).bad slot.0 ≡ set.contains g.bad slot.0 || option_map_or (is_spoil_by process slot) o false
    sigbus-spoils g None = none-more (set.contains g.bad slot.0)
    sigbus-spoils g (Some a) = by (a.process.0 == process.0)
      where
        by : (own : Bool) → set.contains (if own then after a.mode a.slot.0 g else g).bad slot.0 ≡ set.contains g.bad slot.0 || is_spoil_in a.mode (own && (a.slot.0 == slot.0))
        by true = mode-spoils g a.mode a.slot.0
        by false = other-mode (set.contains g.bad slot.0) a.mode

    step-spoils : (g : GuestState) (c : Command) (a : Answer) → set.contains (guest_after layout process g c a).bad slot.0 ≡ set.contains g.bad slot.0 || is_spoil layout process slot (c, a)
    step-spoils g c (answers.Sigbus at) = sigbus-spoils g (guest_access layout c)
    step-spoils g c a = sigbus-spoils g None

    spoils-from : (g : GuestState) (earlier : List (Command × Answer)) → set.contains (fold (λ (guest : GuestState) (p : Command × Answer). guest_after layout process guest p.0 p.1) g earlier).bad slot.0
        ≡ set.contains g.bad slot.0 || list_any (is_spoil layout process slot) earlier
    spoils-from g [] = none-more (set.contains g.bad slot.0)
    spoils-from g ((c, a) ∷ rest) =
        spoils-from (guest_after layout process g c a) rest ∙ ap (λ (b : Bool). b || list_any (is_spoil layout process slot) rest) (step-spoils g c a)
        ∙ or-shift (set.contains g.bad slot.0) (is_spoil layout process slot (c, a)) (list_any (is_spoil layout process slot) rest)

    pub spoilt-of : (earlier : List (Command × Answer)) → set.contains (guest_of layout earlier process).bad slot.0 ≡ list_any (is_spoil layout process slot) earlier
    spoilt-of earlier = spoils-from new_guest earlier ∙ ap (λ (b : Bool). b || list_any (is_spoil layout process slot) earlier) (set.contains-empty nat_cmp slot.0)

-- ---- whether an access is admitted

module _ (layout : Layout) (earlier : List (Command × Answer)) (a : GuestAccess) where
  abbrev guest : GuestState
  guest = guest_of layout earlier a.process

  abbrev by-flags : Bool → Bool → Admit
  by-flags stopped spoilt = if stopped then admissions.Stopped else if spoilt then admissions.Bad else admissions.Yes

  pub stopped_is : true ≡ list_any (is_stop layout a.process) earlier → admissions.Stopped ≡ admission_of layout earlier a
  stopped_is is = ap (λ (b : Bool). by-flags b (set.contains guest.bad a.slot.0)) (is ∙ sym (stopped-of layout a.process earlier))

  pub spoilt_is : false ≡ list_any (is_stop layout a.process) earlier → true ≡ list_any (is_spoil layout a.process a.slot) earlier → admissions.Bad ≡ admission_of layout earlier a
  spoilt_is is bad = ap (by-flags false) (bad ∙ sym (spoilt-of layout a.process a.slot earlier)) ∙ ap (λ (b : Bool). by-flags b (set.contains guest.bad a.slot.0)) (is ∙ sym (stopped-of layout a.process earlier))

  pub admitted_is : false ≡ list_any (is_stop layout a.process) earlier → false ≡ list_any (is_spoil layout a.process a.slot) earlier → admissions.Yes ≡ admission_of layout earlier a
  admitted_is is bad = ap (by-flags false) (bad ∙ sym (spoilt-of layout a.process a.slot earlier)) ∙ ap (λ (b : Bool). by-flags b (set.contains guest.bad a.slot.0)) (is ∙ sym (stopped-of layout a.process earlier))

module _ (layout : Layout) (earlier : List (Command × Answer)) (command : Command) where
  pub no_access : None ≡ guest_access layout command → denial admissions.Yes ≡ denied layout earlier command
  no_access is = ap (option_and_then (λ (a : GuestAccess). denial (admission_of layout earlier a))) is

  pub by_access : (a : GuestAccess) (d : Admit) → Some a ≡ guest_access layout command → d ≡ admission_of layout earlier a → denial d ≡ denied layout earlier command
  by_access a d is told = ap denial told ∙ ap (option_and_then (λ (x : GuestAccess). denial (admission_of layout earlier x))) is

-- ---- one command after the other

module _ (layout : Layout) (commands : List Command) (pairs : List (Command × Answer)) where
  pub next-admission : (n : ℕ) (admits : List Admit) (command : Command) (admit : Admit) → slice_get commands n ≡ Some command → denial admit ≡ denied layout (take n pairs) command → AreAdmissions layout commands pairs n admits
      → AreAdmissions layout commands pairs (n + 1) (admits ++ admit ∷ [])
  next-admission n admits command admit there is are = record {
    many = length_push admits admit ∙ ap (λ (k : ℕ). k + 1) are.many;
    each = λ seq other less made. elim (cases_lt seq n) [
      | inl low ↦ ap denial (get_or_append_left admits (admit ∷ []) admissions.Yes seq (subst (λ (k : ℕ). seq < k) (sym are.many) low)) ∙ are.each seq other low made
      | inr high ↦
          let here : n ≡ seq = omega (arith, less, high) in
          ap denial (get_or_push admits admit admissions.Yes seq (are.many ∙ here)) ∙ is
          ∙ ap (λ (c : Command). denied layout (take n pairs) c) (same_Some command other (sym there ∙ ap (slice_get commands) here ∙ made)) ∙ ap (λ (k : ℕ). denied layout (take k pairs) other) here
    ];
  }
