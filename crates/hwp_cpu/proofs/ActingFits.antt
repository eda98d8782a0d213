-- The command that a processor acts on is one of the processor, as the script's own is: a twin is of the same process as the translation for
-- which it stands.
use Rattle.hwp_cpu.specs.Processors.{AreCommands}
use Rattle.hwp_cpu_row.specs.hwp_geom.declared.Cpu.{Cpu}
use Rattle.std.proofs.Common.{◌≡◌, ◌≢◌, ℕ, ◌<◌, ◌&&◌, not, All, Bool, true, false, List, Option, Some, None, length, slice_get, if◌then◌else◌, refl, sym, ◌∙◌, subst}
use Rattle.std.specs.Prelude.{IsSome, IsSomeAnd, unwrap_or}
use Rattle.std.proofs.lemmas.List.Elements.{All-get_or}
use Rattle.std.proofs.lemmas.Option.{get_or_from_slice_get, none-some, slice_get_within}
use Rattle.hwp_cpu_row.specs.hwp_geom.declared.Layout.{Layout}
use Rattle.hwp_cpu_row.specs.hwp_geom.declared.Thread.{Thread}
use Rattle.hwp_cpu_row.specs.hwp_geom.declared.ThreadDecl.{ThreadDecl}
use Rattle.hwp_cpu_row.specs.hwp_geom.declared.TransDecl.{TransDecl}
use Rattle.hwp_cpu_row.specs.hwp_geom.declared.VSlot.{VSlot}
use Rattle.hwp_cpu_row.specs.hwp_geom.Layout.{twin_of}
use Rattle.hwp_cpu_row.specs.hwp_geom.declared.Who.{Who}
use Rattle.hwp_cpu_row.specs.hwp_core_rule.declared.View.{View}
use Rattle.hwp_cpu_row.specs.hwp_script_words.declared.Command.{Command}
use Rattle.hwp_cpu_row.specs.hwp_script_words.declared.Command.TheVariants as commands
use Rattle.hwp_cpu_row.specs.hwp_script_words.Valid.{AreTwinsFit, IsAccess, IsAnon, IsCommandOf}
use Rattle.hwp_cpu_row.specs.hwp_law.Cows.{Cow, twin_or}
use Rattle.hwp_cpu_row.specs.CowLists.{acting_in, copied_in, cow_in}
use Rattle.hwp_cpu_row.specs.GuestLists.{States, admission_in}
use Rattle.hwp_cpu_row.specs.hwp_law.Commands as access
use Rattle.hwp_cpu_row.specs.hwp_law.Commands.{access_of}
use Rattle.hwp_cpu_row.specs.hwp_law.declared.GuestAccess.{GuestAccess}
use Rattle.hwp_cpu_row.specs.hwp_law.GuestRule.{guest_access}
use Rattle.hwp_cpu_row.specs.hwp_claim.hwp_guest.declared.Admit.{Admit}
use Rattle.hwp_cpu_row.specs.hwp_claim.hwp_guest.declared.Admit.TheVariants as admissions
use Rattle.hwp_cpu_row.proofs.GuestListLaws.{admitted-none, of-access}
use Rattle.hwp_cpu_command.specs.Begins.{CanCopy, CanDeny}
use Rattle.hwp_cpu_command.specs.Runs.{CanFork}

module _ (layout : Layout) (twins : AreTwinsFit layout) where
  paired-access : (cpu : ℕ) (ot : Option ThreadDecl) (ov ow : Option TransDecl) → IsSomeAnd ot (λ (t : ThreadDecl). (t.cpu.0 ≡ cpu) × IsSomeAnd ov (λ (v : TransDecl). v.process ≡ t.process))
      → IsSomeAnd ov (λ (v : TransDecl). IsSomeAnd ow (λ (w : TransDecl). (v.process ≡ w.process) × (v.page.0 ≢ w.page.0) × IsSomeAnd (slice_get layout.pages v.page.0) IsAnon × IsSomeAnd (slice_get layout.pages w.page.0) IsAnon))
      → IsSomeAnd ot (λ (t : ThreadDecl). (t.cpu.0 ≡ cpu) × IsSomeAnd ow (λ (w : TransDecl). w.process ≡ t.process))
  paired-access cpu None ov ow has paired = absurd has
  paired-access cpu (Some t) None ow has paired = absurd paired
  paired-access cpu (Some t) (Some v) None has paired = absurd paired
  paired-access cpu (Some t) (Some v) (Some w) has paired = (has.0, sym paired.0 ∙ has.1)

  paired-within : (ov : Option TransDecl) (twin : VSlot) (ow : Option TransDecl) → slice_get layout.trans twin.0 ≡ ow
      → IsSomeAnd ov (λ (v : TransDecl). IsSomeAnd ow (λ (w : TransDecl). (v.process ≡ w.process) × (v.page.0 ≢ w.page.0) × IsSomeAnd (slice_get layout.pages v.page.0) IsAnon × IsSomeAnd (slice_get layout.pages w.page.0) IsAnon))
      → twin.0 < length layout.trans
  paired-within None twin ow is paired = absurd paired
  paired-within (Some v) twin None is paired = absurd paired
  paired-within (Some v) twin (Some w) is paired = slice_get_within layout.trans twin.0 w is

  twin-access : (cpu : ℕ) (thread : Thread) (slot : VSlot) (o : Option VSlot) → twin_of layout slot ≡ o → IsAccess layout cpu thread slot → IsAccess layout cpu thread (unwrap_or o slot)
  twin-access cpu thread slot None is has = has
  twin-access cpu thread slot (Some twin) is has = paired-access cpu (slice_get layout.threads thread.0) (slice_get layout.trans slot.0) (slice_get layout.trans twin.0) has (twins.each slot twin is).paired

  twin-within : (slot : VSlot) (o : Option VSlot) → twin_of layout slot ≡ o → slot.0 < length layout.trans → (unwrap_or o slot).0 < length layout.trans
  twin-within slot None is has = has
  twin-within slot (Some twin) is has = paired-within (slice_get layout.trans slot.0) twin (slice_get layout.trans twin.0) refl (twins.each slot twin is).paired

  either-access : (b : Bool) (cpu : ℕ) (thread : Thread) (slot : VSlot) → IsAccess layout cpu thread slot → IsAccess layout cpu thread (if b then twin_or layout slot else slot)
  either-access true cpu thread slot has = twin-access cpu thread slot (twin_of layout slot) refl has
  either-access false cpu thread slot has = has

  either-within : (b : Bool) (slot : VSlot) → slot.0 < length layout.trans → (if b then twin_or layout slot else slot).0 < length layout.trans
  either-within true slot has = twin-within slot (twin_of layout slot) refl has
  either-within false slot has = has

  pub acting-fits : (cpu : ℕ) (cows : List Cow) (command : Command) → IsCommandOf layout cpu command → IsCommandOf layout cpu (acting_in layout cows command)
  acting-fits cpu cows (commands.Load thread slot line) has = (either-access (cow_in cows slot).switched cpu thread slot has.0, has.1)
  acting-fits cpu cows (commands.Fetch thread slot line) has = (either-access (cow_in cows slot).switched cpu thread slot has.0, has.1)
  acting-fits cpu cows (commands.KLoad thread slot line) has = (either-access (cow_in cows slot).switched cpu thread slot has.0, has.1)
  acting-fits cpu cows (commands.Store thread slot line word) has = (either-access (cow_in cows slot).frozen cpu thread slot has.0, has.1)
  acting-fits cpu cows (commands.Free slot) has = either-within (cow_in cows slot).switched slot has
  acting-fits cpu cows command has = has

pub copied-fits : (layout : Layout) (cpu : ℕ) (cows : List Cow) (command : Command) → IsCommandOf layout cpu command → CanCopy layout cpu (acting_in layout cows command) (copied_in cows command)
copied-fits layout cpu cows (commands.Store thread slot line word) has = by ((cow_in cows slot).frozen && not (cow_in cows slot).switched)
  where
    by : (b : Bool) → CanCopy layout cpu (acting_in layout cows (commands.Store thread slot line word)) (if b then Some slot else None)
    by true = has.0
    by false = tt
copied-fits layout cpu cows command has = tt

-- only an access can be denied, and it is acted on as one
access-stays : (layout : Layout) (cows : List Cow) (command : Command) (a : access.Access) → access_of command ≡ Some a → IsSome (access_of (acting_in layout cows command))
access-stays layout cows (commands.Load thread slot line) a is = refl
access-stays layout cows (commands.Fetch thread slot line) a is = refl
access-stays layout cows (commands.KLoad thread slot line) a is = refl
access-stays layout cows (commands.Store thread slot line word) a is = refl
access-stays layout cows command a is = absurd (none-some a is)

pub begins-denied : (layout : Layout) (cows : List Cow) (guests : States) (own acting : Command) (admit : Admit) → acting ≡ acting_in layout cows own → admit ≡ admission_in layout guests own → CanDeny acting admit
begins-denied layout cows guests own acting admit is said = subst (λ (c : Command). CanDeny c admit) (sym is) (subst (CanDeny (acting_in layout cows own)) (sym said) (which (guest_access layout own) refl))
  where
    which : (o : Option GuestAccess) → guest_access layout own ≡ o → CanDeny (acting_in layout cows own) (admission_in layout guests own)
    which None none = subst (CanDeny (acting_in layout cows own)) (sym (admitted-none layout guests own none)) tt
    which (Some g) some = let of = of-access layout own g some in by (admission_in layout guests own) (access-stays layout cows own of.0 of.1)
      where
        by : (x : Admit) → IsSome (access_of (acting_in layout cows own)) → CanDeny (acting_in layout cows own) x
        by admissions.Yes has = tt
        by _ has = has

-- a fork is acted on as it stands
pub fork-acted : (view : View) (who : Who) (layout : Layout) (cows : List Cow) (own : Command) → CanFork layout view who own → CanFork layout view who (acting_in layout cows own)
fork-acted view who layout cows (commands.Load thread slot line) can = tt
fork-acted view who layout cows (commands.Fetch thread slot line) can = tt
fork-acted view who layout cows (commands.KLoad thread slot line) can = tt
fork-acted view who layout cows (commands.Store thread slot line word) can = tt
fork-acted view who layout cows (commands.Free slot) can = tt
fork-acted view who layout cows own can = can

-- a command of a list of which all fit
pub at-least : (P : Command → Type 0) (l : List Command) (n : ℕ) (own : Command) → All P l → slice_get l n ≡ Some own → P own
at-least P l n own all there = subst P (get_or_from_slice_get l n own own there) (All-get_or P l n own (slice_get_within l n own there) all)

-- a command that begins is one of the processor, and can be copied for
pub begins-fits : (layout : Layout) (cpu : Cpu) (list : List Command) (cows : List Cow) (n : ℕ) (own acting : Command) → AreCommands layout cpu list → slice_get list n ≡ Some own → acting ≡ acting_in layout cows own → IsCommandOf layout cpu.0 acting
begins-fits layout cpu list cows n own acting are there is =
    subst (IsCommandOf layout cpu.0) (sym is) (acting-fits layout are.twins cpu.0 cows own (at-least (IsCommandOf layout cpu.0) list n own are.named there))

pub begins-copies : (layout : Layout) (cpu : Cpu) (list : List Command) (cows : List Cow) (n : ℕ) (own acting : Command) (copies : Option VSlot) → AreCommands layout cpu list → slice_get list n ≡ Some own → acting ≡ acting_in layout cows own → copies ≡ copied_in cows own
    → CanCopy layout cpu.0 acting copies
begins-copies layout cpu list cows n own acting copies are there is from =
    subst (λ (c : Command). CanCopy layout cpu.0 c copies) (sym is) (subst (CanCopy layout cpu.0 (acting_in layout cows own)) (sym from) (copied-fits layout cpu.0 cows own (at-least (IsCommandOf layout cpu.0) list n own are.named there)))
