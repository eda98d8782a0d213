-- What a processor's list of guests says is what its earlier commands and their answers made of each.
use Rattle.std.proofs.Common.{◌≡◌, ◌≢◌, ℕ, zero, suc, ◌<◌, ◌||◌, Bool, true, false, List, [], ◌∷◌, ◌++◌, Option, Some, None, get_or, length, replicate, set, if◌then◌else◌, refl, sym, ap, ◌∙◌, subst, inl, inr, true≢false, arith}
use Rattle.std.specs.FinSet as set
use Rattle.std.specs.List.{list_any}
use Rattle.std.specs.Ordering.{nat_cmp}
use Rattle.std.specs.Option.{option_map_or}
use Rattle.std.specs.Prelude.{◌≤◌, IsSomeAnd, option_and_then, slice_get}
use Rattle.std.proofs.lemmas.Bool.{cases_eq, eq-eqb, ne_eqb}
use Rattle.std.proofs.lemmas.List.{get_or_past, get_or-set_other, get_or-set_same, length-replicate, length-set}
use Rattle.std.proofs.lemmas.List.Sums.{fold-append}
use Rattle.std.proofs.lemmas.Option.{none-some, same_Some, slice_get_within}
use Rattle.hwp_claim.specs.hwp_geom.Layout.{has_guests, is_guest}
use Rattle.hwp_claim.specs.hwp_geom.declared.Layout.{Layout}
use Rattle.hwp_claim.specs.hwp_geom.Limits.{translation_limit}
use Rattle.hwp_claim.specs.hwp_geom.declared.Proc.{Proc}
use Rattle.hwp_claim.specs.hwp_geom.declared.Thread.{Thread}
use Rattle.hwp_claim.specs.hwp_geom.declared.ThreadDecl.{ThreadDecl}
use Rattle.hwp_claim.specs.hwp_geom.declared.TransDecl.{TransDecl}
use Rattle.hwp_claim.specs.hwp_geom.declared.VSlot.{VSlot}
use Rattle.hwp_claim.specs.hwp_script_words.declared.Command.{Command}
use Rattle.hwp_claim.specs.hwp_script_words.declared.Command.TheVariants as commands
use Rattle.hwp_claim.specs.hwp_script_words.Valid.{IsAccess, IsCommandOf}
use Rattle.hwp_claim.specs.hwp_report_text.declared.Answer.{Answer}
use Rattle.hwp_claim.specs.hwp_report_text.declared.Answer.TheVariants as answers
use Rattle.hwp_claim.specs.hwp_guest.declared.Admit.{Admit}
use Rattle.hwp_claim.specs.hwp_guest.declared.Admit.TheVariants as admissions
use Rattle.hwp_claim.specs.hwp_guest.GuestState.{GuestState, admitted, after}
use Rattle.hwp_claim.specs.hwp_law.Commands as access
use Rattle.hwp_claim.specs.hwp_law.Commands.{access_of, arrival_of, process_of_thread}
use Rattle.hwp_claim.specs.hwp_law.declared.GuestAccess.{GuestAccess}
use Rattle.hwp_claim.specs.hwp_law.GuestRule.{denial, denied, guest_access, guest_after, guest_taken, guest_of, kind_of, new_guest}
use Rattle.hwp_cpu_row.specs.GuestLists.{AreGuestsOf, KnowsGuests, MayTake, MayTell, admission_in, first_guests, guest_in, taken_in, told_in}

-- ---- at first

new-everywhere : (n i : ℕ) → get_or (replicate n new_guest) i new_guest ≡ new_guest
new-everywhere zero i = refl
new-everywhere (suc n) zero = refl
new-everywhere (suc n) (suc i) = new-everywhere n i

first-by : (b : Bool) (n i : ℕ) → get_or (if b then replicate n new_guest else []) i new_guest ≡ new_guest
first-by true n i = new-everywhere n i
first-by false n i = refl

pub first-known : (layout : Layout) → KnowsGuests layout [] (first_guests layout)
first-known layout = λ process is. first-by (has_guests layout) layout.procs process.0

-- what the list doesn't hold admits each access
pub new-admits : (guests : List GuestState) (i frame : ℕ) → length guests ≤ i → admissions.Yes ≡ admitted (get_or guests i new_guest) frame
new-admits guests i frame past = sym (ap (λ (b : Bool). if b then admissions.Bad else admissions.Yes) (set.contains-empty nat_cmp frame)) ∙ ap (λ (g : GuestState). admitted g frame) (sym (get_or_past guests i new_guest past))

-- a guest is one of the list of guests
some-guest : (gs : List Bool) (i : ℕ) → get_or gs i false ≡ true → (list_any (λ (g : Bool). g) gs ≡ true) × (i < length gs)
some-guest [] i is = absurd (true≢false (sym is))
some-guest (g ∷ gs) zero is = (ap (λ (b : Bool). b || list_any (λ (x : Bool). x) gs) is, omega arith)
some-guest (true ∷ gs) (suc i) is = (refl, let later = (some-guest gs i is).1 in omega (arith, later))
some-guest (false ∷ gs) (suc i) is = let later = some-guest gs i is in (later.0, omega (arith, later.1))

pub first-are : (layout : Layout) → length layout.guests ≡ layout.procs → AreGuestsOf layout (first_guests layout)
first-are layout long process is =
    let found = some-guest layout.guests process.0 is in
    let many : length (first_guests layout) ≡ layout.procs = ap (λ (b : Bool). length (if b then replicate layout.procs new_guest else [])) found.0 ∙ length-replicate layout.procs new_guest in
    omega (arith, found.1, long, many)

-- ---- the accesses of guests

-- an access of a guest is of a process that is one
by-guest : (layout : Layout) (a : access.Access) (command : Command) (o : Option Proc) (g : GuestAccess)
    → option_and_then (λ (process : Proc). if is_guest layout process then Some (record { process = process; slot = a.slot; line = a.line; kind = kind_of command; mode = (arrival_of command).mode }) else None) o ≡ Some g
    → is_guest layout g.process ≡ true
by-guest layout a command None g is = absurd (none-some g is)
by-guest layout a command (Some process) g is = which (is_guest layout process) refl is
  where
    made : GuestAccess
    made = record { process = process; slot = a.slot; line = a.line; kind = kind_of command; mode = (arrival_of command).mode }

    which : (b : Bool) → is_guest layout process ≡ b → (if b then Some made else None) ≡ Some g → is_guest layout g.process ≡ true
    which true guest e = ap (λ (x : GuestAccess). is_guest layout x.process) (sym (same_Some made g e)) ∙ guest
    which false none e = absurd (none-some g e)

pub of-guest : (layout : Layout) (command : Command) (g : GuestAccess) → guest_access layout command ≡ Some g → is_guest layout g.process ≡ true
of-guest layout command g is = which (access_of command) is
  where
    which : (o : Option access.Access) → option_and_then (λ (a : access.Access). option_and_then (λ (process : Proc).
        if is_guest layout process then Some (record { process = process; slot = a.slot; line = a.line; kind = kind_of command; mode = (arrival_of command).mode }) else None)
        (process_of_thread layout a.thread)) o ≡ Some g → is_guest layout g.process ≡ true
    which None e = absurd (none-some g e)
    which (Some a) e = by-guest layout a command (process_of_thread layout a.thread) g e

pub denied-known : (layout : Layout) (earlier : List (Command × Answer)) (guests : List GuestState) (command : Command) → KnowsGuests layout earlier guests → denial (admission_in layout guests command) ≡ denied layout earlier command
denied-known layout earlier guests command known = which (guest_access layout command) refl
  where
    which : (o : Option GuestAccess) → guest_access layout command ≡ o
        → denial (option_map_or (λ (a : GuestAccess). admitted (guest_in guests a.process) a.slot.0) o admissions.Yes) ≡ option_and_then (λ (a : GuestAccess). denial (admitted (guest_of layout earlier a.process) a.slot.0)) o
    which None is = refl
    which (Some a) is = ap (λ (g : GuestState). denial (admitted g a.slot.0)) (known a.process (of-guest layout command a is))

-- ---- a command and its answer

guest-more : (layout : Layout) (earlier : List (Command × Answer)) (command : Command) (answer : Answer) (process : Proc)
    → guest_of layout (earlier ++ (command, answer) ∷ []) process ≡ guest_after layout process (guest_of layout earlier process) command answer
guest-more layout earlier command answer process = fold-append (λ (g : GuestState) (p : Command × Answer). guest_after layout process g p.0 p.1) new_guest earlier ((command, answer) ∷ [])

length-taken : (guests : List GuestState) (o : Option GuestAccess) → length (option_map_or (taken_in guests) o guests) ≡ length guests
length-taken guests None = refl
length-taken guests (Some a) = length-set guests a.process.0 (after a.mode a.slot.0 (guest_in guests a.process))

told-length : (layout : Layout) (command : Command) (answer : Answer) (guests : List GuestState) → length (told_in layout command answer guests) ≡ length guests
told-length layout command (answers.Sigbus at) guests = length-taken guests (guest_access layout command)
told-length layout command answer guests = refl

pub told-are : (layout : Layout) (command : Command) (answer : Answer) (guests : List GuestState) → AreGuestsOf layout guests → AreGuestsOf layout (told_in layout command answer guests)
told-are layout command answer guests are = λ process is. let long = told-length layout command answer guests in let within = are process is in omega (arith, long, within)

taken-is : (guests : List GuestState) (a : GuestAccess) (process : Proc) → process.0 < length guests → guest_in (taken_in guests a) process ≡ guest_taken process (guest_in guests process) a
taken-is guests a process within = elim (cases_eq process.0 a.process.0) [
  | inl same ↦
      subst (λ (n : ℕ). get_or (set guests n (after a.mode a.slot.0 (get_or guests n new_guest))) process.0 new_guest ≡ guest_taken process (guest_in guests process) a) same
      (get_or-set_same guests process.0 (after a.mode a.slot.0 (guest_in guests process)) new_guest within
      ∙ sym (ap (λ (b : Bool). if b then after a.mode a.slot.0 (guest_in guests process) else guest_in guests process) (eq-eqb a.process.0 process.0 (sym same))))
  | inr apart ↦
      get_or-set_other guests a.process.0 process.0 (after a.mode a.slot.0 (guest_in guests a.process)) new_guest apart
      ∙ sym (ap (λ (b : Bool). if b then after a.mode a.slot.0 (guest_in guests process) else guest_in guests process) (ne_eqb a.process.0 process.0 (λ same. apart (sym same))))
]

told-is : (layout : Layout) (command : Command) (answer : Answer) (guests : List GuestState) (process : Proc) → process.0 < length guests
    → guest_in (told_in layout command answer guests) process ≡ guest_after layout process (guest_in guests process) command answer
told-is layout command (answers.Sigbus at) guests process within = which (guest_access layout command)
  where
    which : (o : Option GuestAccess) → guest_in (option_map_or (taken_in guests) o guests) process ≡ option_map_or (guest_taken process (guest_in guests process)) o (guest_in guests process)
    which None = refl
    which (Some a) = taken-is guests a process within
told-is layout command answer guests process within = refl

pub told-known : (layout : Layout) (earlier : List (Command × Answer)) (command : Command) (answer : Answer) (guests : List GuestState) → AreGuestsOf layout guests → KnowsGuests layout earlier guests
    → KnowsGuests layout (earlier ++ (command, answer) ∷ []) (told_in layout command answer guests)
told-known layout earlier command answer guests are known = λ process is.
    told-is layout command answer guests process (are process is) ∙ ap (λ (g : GuestState). guest_after layout process g command answer) (known process is)
    ∙ sym (guest-more layout earlier command answer process)

-- ---- an access that is admitted

-- the guest access is that of the command
slot-by : (layout : Layout) (a : access.Access) (command : Command) (o : Option Proc) (g : GuestAccess)
    → option_and_then (λ (process : Proc). if is_guest layout process then Some (record { process = process; slot = a.slot; line = a.line; kind = kind_of command; mode = (arrival_of command).mode }) else None) o ≡ Some g
    → g.slot ≡ a.slot
slot-by layout a command None g is = absurd (none-some g is)
slot-by layout a command (Some process) g is = which (is_guest layout process) is
  where
    which : (b : Bool) → (if b then Some (record { process = process; slot = a.slot; line = a.line; kind = kind_of command; mode = (arrival_of command).mode }) else None) ≡ Some g → g.slot ≡ a.slot
    which true e = ap (λ (x : GuestAccess). x.slot) (sym (same_Some _ g e))
    which false e = absurd (none-some g e)

pub of-access : (layout : Layout) (command : Command) (g : GuestAccess) → guest_access layout command ≡ Some g → (a : access.Access) × (access_of command ≡ Some a) × (g.slot ≡ a.slot)
of-access layout command g is = which (access_of command) refl is
  where
    which : (o : Option access.Access) → access_of command ≡ o → option_and_then (λ (a : access.Access). option_and_then (λ (process : Proc).
        if is_guest layout process then Some (record { process = process; slot = a.slot; line = a.line; kind = kind_of command; mode = (arrival_of command).mode }) else None)
        (process_of_thread layout a.thread)) o ≡ Some g → (a : access.Access) × (access_of command ≡ Some a) × (g.slot ≡ a.slot)
    which None of e = absurd (none-some g e)
    which (Some a) of e = (a, of, slot-by layout a command (process_of_thread layout a.thread) g e)

-- a translation that an access names is declared
declared-by : (layout : Layout) (cpu : ℕ) (thread : Thread) (slot : VSlot) → IsAccess layout cpu thread slot → slot.0 < length layout.trans
declared-by layout cpu thread slot has = which (slice_get layout.threads thread.0) (slice_get layout.trans slot.0) refl has
  where
    which : (t : Option ThreadDecl) (o : Option TransDecl) → slice_get layout.trans slot.0 ≡ o → IsSomeAnd t (λ (d : ThreadDecl). (d.cpu.0 ≡ cpu) × IsSomeAnd o (λ (v : TransDecl). v.process ≡ d.process)) → slot.0 < length layout.trans
    which None o o_is is = absurd is
    which (Some d) None o_is is = absurd is.1
    which (Some d) (Some v) o_is is = slice_get_within layout.trans slot.0 v o_is

slot-within : (layout : Layout) (cpu : ℕ) (command : Command) (a : access.Access) → IsCommandOf layout cpu command → access_of command ≡ Some a → a.slot.0 < length layout.trans
slot-within layout cpu (commands.Load thread slot line) a of is = subst (λ (x : access.Access). x.slot.0 < length layout.trans) (same_Some _ a is) (declared-by layout cpu thread slot of.0)
slot-within layout cpu (commands.Fetch thread slot line) a of is = subst (λ (x : access.Access). x.slot.0 < length layout.trans) (same_Some _ a is) (declared-by layout cpu thread slot of.0)
slot-within layout cpu (commands.KLoad thread slot line) a of is = subst (λ (x : access.Access). x.slot.0 < length layout.trans) (same_Some _ a is) (declared-by layout cpu thread slot of.0)
slot-within layout cpu (commands.Store thread slot line word) a of is = subst (λ (x : access.Access). x.slot.0 < length layout.trans) (same_Some _ a is) (declared-by layout cpu thread slot of.0)
slot-within layout cpu command a of is = absurd (none-some a is)

admits : (x : Admit) → denial x ≡ None → x ≡ admissions.Yes
admits admissions.Yes none = refl
admits admissions.Bad none = absurd (none-some _ (sym none))
admits admissions.Stopped none = absurd (none-some _ (sym none))

-- what is no access of a guest is admitted
pub admitted-none : (layout : Layout) (guests : List GuestState) (command : Command) → guest_access layout command ≡ None → admission_in layout guests command ≡ admissions.Yes
admitted-none layout guests command none = ap (λ (o : Option GuestAccess). option_map_or (λ (a : GuestAccess). admitted (guest_in guests a.process) a.slot.0) o admissions.Yes) none

-- one that isn't denied can be answered by SIGBUS
pub may-take : (layout : Layout) (cpu : ℕ) (guests : List GuestState) (command : Command) → length layout.trans ≤ translation_limit → AreGuestsOf layout guests → IsCommandOf layout cpu command → denial (admission_in layout guests command) ≡ None → MayTake layout guests command
may-take layout cpu guests command few are of none a is = record {
  there = are a.process (of-guest layout command a is);
  admitted_is = admits (admitted (guest_in guests a.process) a.slot.0) (sym (ap (λ (o : Option GuestAccess). denial (option_map_or (λ (x : GuestAccess). admitted (guest_in guests x.process) x.slot.0) o admissions.Yes)) is) ∙ none);
  within =
      let own = of-access layout command a is in
      let there : own.0.slot.0 < length layout.trans = slot-within layout cpu command own.0 of own.1 in
      subst (λ (v : VSlot). v.0 < translation_limit) (sym own.2) (omega (arith, few, there));
}

-- whatever it is answered
pub may-tell : (layout : Layout) (guests : List GuestState) (command : Command) (answer : Answer) → MayTake layout guests command → MayTell layout guests command answer
may-tell layout guests command (answers.Sigbus at) may = may
may-tell layout guests command answer may = tt
