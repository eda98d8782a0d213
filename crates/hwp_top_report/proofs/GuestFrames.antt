-- Behind a guest's machine check its accesses leave the guest frame alone. One that names the frame isn't admitted, and makes no entry. Any other
-- goes through its own translation or that one's twin, and no command names a twin.
use Rattle.std.proofs.Common.{◌≡◌, ◌≢◌, ◌⊎◌, inl, inr, ℕ, zero, suc, ◌+◌, ◌<◌, ◌==◌, ◌&&◌, Bool, true, false, not, List, [], ◌∷◌, Option, None, Some, fold, length, option_and_then, option_map, slice_get, take, unwrap_or, if◌then◌else◌, refl, sym, ap, ◌∙◌, subst, true≢false, arith}
use Rattle.std.specs.Prelude.{IsSomeAnd, get_or}
use Rattle.std.specs.FinSet as set
use Rattle.std.specs.List.{list_any, zip}
use Rattle.std.specs.Option.{option_map_or}
use Rattle.std.specs.Cmp.{unsigned_tied}
use Rattle.std.specs.Ordering.{eq_by_cmp, nat_cmp}
use Rattle.std.proofs.lemmas.Bool.{eq-eqb, or_left, or_right}
use Rattle.std.proofs.lemmas.Option.{none-some, same_Some}
use Rattle.hwp_law_served.specs.hwp_geom.Layout.{is_guest, is_slot, is_twin, twin_of}
use Rattle.hwp_law_served.specs.hwp_geom.declared.Cpu.{Cpu}
use Rattle.hwp_law_served.specs.hwp_geom.declared.Layout.{Layout}
use Rattle.hwp_law_served.specs.hwp_geom.declared.Mode.{Mode}
use Rattle.hwp_law_served.specs.hwp_geom.declared.Mode.TheVariants.{User, Kernel}
use Rattle.hwp_law_served.specs.hwp_geom.declared.Page.{Page}
use Rattle.hwp_law_served.specs.hwp_geom.declared.Proc.{Proc}
use Rattle.hwp_law_served.specs.hwp_geom.declared.Thread.{Thread}
use Rattle.hwp_law_served.specs.hwp_geom.declared.VSlot.{VSlot}
use Rattle.hwp_law_served.specs.hwp_geom.declared.Who.{Who}
use Rattle.hwp_law_served.specs.hwp_page.declared.At.{At}
use Rattle.hwp_law_served.specs.hwp_page.declared.Entry.{Entry}
use Rattle.hwp_law_served.specs.hwp_page.declared.What.{What}
use Rattle.hwp_law_served.specs.hwp_page.declared.What.TheVariants as entries
use Rattle.hwp_law_served.specs.hwp_script_words.Forks.{names_twin}
use Rattle.hwp_law_served.specs.hwp_script_words.Valid.{IsValid}
use Rattle.hwp_law_served.specs.hwp_script_words.declared.Command.{Command}
use Rattle.hwp_law_served.specs.hwp_script_words.declared.Command.TheVariants as commands
use Rattle.hwp_law_served.specs.hwp_script_words.declared.Script.{Script}
use Rattle.hwp_law_served.specs.hwp_report_text.declared.Answer.{Answer}
use Rattle.hwp_law_served.specs.hwp_report_text.declared.Answer.TheVariants as answers
use Rattle.hwp_law_served.specs.hwp_report_text.declared.CpuLine.{CpuLine}
use Rattle.hwp_law_served.specs.hwp_report_text.declared.Report.{Report}
use Rattle.hwp_law_served.specs.hwp_law.Commands.{Access, access, access_of, arrival_of, command_at, has_watch, process_of_thread}
use Rattle.hwp_law_served.specs.hwp_law.Cows.{acting, copied_from, cow_of, through, twin_or, written_through}
use Rattle.hwp_law_served.specs.hwp_law.declared.GuestAccess.{GuestAccess}
use Rattle.hwp_law_served.specs.hwp_law.GuestRule.{denial, denied, guest_access, guest_after, guest_taken, guest_of, kind_of, new_guest}
use Rattle.hwp_law_served.specs.hwp_law.hwp_guest.GuestState.{GuestState, admitted, after}
use Rattle.hwp_law_served.specs.hwp_law.hwp_guest.declared.Admit.TheVariants as admissions
use Rattle.hwp_law_served.specs.hwp_law.Acting.{acting_script, copied_at}
use Rattle.hwp_law_served.specs.hwp_law.Copies.{FitsCopy, MakesCopy, slot_in}
use Rattle.hwp_law_served.specs.hwp_law.Entries.{CanStandIn, IsAccessAt, Makes}
use Rattle.hwp_law_served.specs.hwp_law.History.{FitsLoad, FitsStore}
use Rattle.hwp_law_served.specs.hwp_law.Guests.{IsDenied}
use Rattle.hwp_law_served.specs.hwp_law.Law.{IsLawful}
use Rattle.hwp_law_served.specs.hwp_law.Lines.{answer_among, answer_of, answered, answers_from}
use Rattle.hwp_law_served.specs.hwp_law.Policies.{answered_before, answered_on}
use Rattle.hwp_law_served.proofs.of_hwp_law.ActedLaws.{command-acted}
use Rattle.hwp_law_served.proofs.of_hwp_law.GuestLaws.{bad-more}
use Rattle.hwp_top_report.proofs.forks.Forked.{valid-command}
use Rattle.hwp_top_report.specs.GuestFrames.{AreBadFramesLeft, IsBehindCheck}
use Rattle.hwp_top_report.proofs.Guests.{then-there}

if-some : {X : Type 0} (b : Bool) (x y : X) → (if b then Some x else None) ≡ Some y → x ≡ y
if-some true x y is = same_Some x y is
if-some false x y is = absurd (none-some y is)

some-and : {X : Type 0} (o : Option X) (P : X → Type 0) → IsSomeAnd o P → (x : X) × (o ≡ Some x) × P x
some-and None P is = absurd is
some-and (Some x) P is = (x, refl, is)

-- ---- a guest from one command to the next

-- what is bad for the one is bad for the other, which is stopped if the one is
record Outlives (g h : GuestState) : Type 0 where
  bad : (frame : ℕ) → set.contains g.bad frame ≡ true → set.contains h.bad frame ≡ true
  stopped : g.stopped ≡ true → h.stopped ≡ true

outlives-self : (g : GuestState) → Outlives g g
outlives-self g = record { bad = λ frame is. is; stopped = λ is. is }

outlives-both : (g h k : GuestState) → Outlives g h → Outlives h k → Outlives g k
outlives-both g h k one two = record { bad = λ frame is. two.bad frame (one.bad frame is); stopped = λ is. two.stopped (one.stopped is) }

outlives-after : (mode : Mode) (slot : ℕ) (g : GuestState) → Outlives g (after mode slot g)
outlives-after User slot g = record { bad = λ frame is. bad-more g.bad slot frame ∙ or_right (eq_by_cmp nat_cmp frame slot) (set.contains g.bad frame) is; stopped = λ is. is }
outlives-after Kernel slot g = record { bad = λ frame is. is; stopped = λ is. refl }

outlives-if : (b : Bool) (g h : GuestState) → Outlives g h → Outlives g (if b then h else g)
outlives-if true g h on = on
outlives-if false g h on = outlives-self g

outlives-access : (process : Proc) (g : GuestState) (o : Option GuestAccess) → Outlives g (option_map_or (guest_taken process g) o g)
outlives-access process g None = outlives-self g
outlives-access process g (Some a) = outlives-if (a.process.0 == process.0) g (after a.mode a.slot.0 g) (outlives-after a.mode a.slot.0 g)

outlives-command : (layout : Layout) (process : Proc) (g : GuestState) (command : Command) (answer : Answer) → Outlives g (guest_after layout process g command answer)
outlives-command layout process g command (answers.Sigbus at) = outlives-access process g (guest_access layout command)
outlives-command layout process g command answer = outlives-self g

abbrev behind : Layout → Proc → GuestState → List (Command × Answer) → GuestState
behind layout process g list = fold (λ (h : GuestState) (p : Command × Answer). guest_after layout process h p.0 p.1) g list

outlives-list : (layout : Layout) (process : Proc) (g : GuestState) (list : List (Command × Answer)) → Outlives g (behind layout process g list)
outlives-list layout process g [] = outlives-self g
outlives-list layout process g (p ∷ rest) =
    let next = guest_after layout process g p.0 p.1 in
    outlives-both g next (behind layout process next rest) (outlives-command layout process g p.0 p.1) (outlives-list layout process next rest)

-- behind a command among the first so many
outlives-one : (layout : Layout) (process : Proc) (g : GuestState) (list : List (Command × Answer)) (i n : ℕ) (command : Command) (answer : Answer) → slice_get list i ≡ Some (command, answer) → i < n
    → (h : GuestState) × Outlives (guest_after layout process h command answer) (behind layout process g (take n list))
outlives-one layout process g [] i n command answer there less = absurd (none-some (command, answer) there)
outlives-one layout process g (p ∷ rest) i zero command answer there less = absurd (omega (arith, less))
outlives-one layout process g (p ∷ rest) zero (suc n) command answer there less = (
  g,
  subst (λ (q : Command × Answer). Outlives (guest_after layout process g q.0 q.1) (behind layout process (guest_after layout process g p.0 p.1) (take n rest))) (same_Some p (command, answer) there)
      (outlives-list layout process (guest_after layout process g p.0 p.1) (take n rest)),
)
outlives-one layout process g (p ∷ rest) (suc i) (suc n) command answer there less = outlives-one layout process (guest_after layout process g p.0 p.1) rest i n command answer there (omega (arith, less))

-- ---- the commands of a report with their answers

told-at : (told : ℕ → Option Answer) (list : List Command) (n i : ℕ) (command : Command) (answer : Answer) → slice_get list i ≡ Some command → told (n + i) ≡ Some answer → slice_get (zip list (answers_from told n (length list))) i ≡ Some (command, answer)
told-at told [] n i command answer there is = absurd (none-some command there)
told-at told (c ∷ cs) n zero command answer there is =
    let same : n + 0 ≡ n = omega arith in
    ap (λ (o : Option Answer). Some (c, unwrap_or o answers.Stopped)) (ap told (sym same) ∙ is) ∙ ap (λ (d : Command). Some (d, answer)) (same_Some c command there)
told-at told (c ∷ cs) n (suc i) command answer there is =
    let same : n + suc i ≡ (n + 1) + i = omega arith in
    told-at told cs (n + 1) i command answer there (ap told (sym same) ∙ is)

answered-at : (script : Script) (report : Report) (who : Who) (command : Command) (answer : Answer) → command_at script who ≡ Some command → answer_of report who ≡ Some answer → slice_get (answered_on script report who.cpu) who.seq ≡ Some (command, answer)
answered-at script report who command answer at is =
    let list = then-there (λ (l : List Command). slice_get l who.seq) (slice_get script.lists who.cpu.0) command at in
    let rows : List CpuLine = unwrap_or (slice_get report.cpus who.cpu.0) [] in
    let same : 0 + who.seq ≡ who.seq = omega arith in
    ap (λ (o : Option (List Command)). slice_get (answered (unwrap_or o []) rows) who.seq) list.1 ∙ told-at (answer_among rows) list.0 0 who.seq command answer list.2 (ap (answer_among rows) same ∙ is)

-- ---- the access of a guest

record HasAccess (layout : Layout) (command : Command) (a : GuestAccess) : Type 0 where
  access : Access
  access_is : access_of command ≡ Some access
  slot : access.slot ≡ a.slot

has-access : (layout : Layout) (command : Command) (a : GuestAccess) → guest_access layout command ≡ Some a → HasAccess layout command a
has-access layout command a is =
    let of_process : Access → Proc → Option GuestAccess = λ b process. if is_guest layout process then Some (record { process = process; slot = b.slot; line = b.line; kind = kind_of command; mode = (arrival_of command).mode }) else None in
    let b = then-there (λ (b : Access). option_and_then (of_process b) (process_of_thread layout b.thread)) (access_of command) a is in
    let p = then-there (of_process b.0) (process_of_thread layout b.0.thread) a b.2 in
    record { access = b.0; access_is = b.1; slot = ap (λ (g : GuestAccess). g.slot) (if-some (is_guest layout p.0) _ a p.2) }

-- a command that isn't denied: its guest isn't stopped, and the frame isn't bad
open-bits : (stopped bad : Bool) → denial (if stopped then admissions.Stopped else if bad then admissions.Bad else admissions.Yes) ≡ None → (stopped ≡ false) × (bad ≡ false)
open-bits true bad is = absurd (none-some answers.GuestStopped (sym is))
open-bits false true is = absurd (none-some answers.GuestBad (sym is))
open-bits false false is = (refl, refl)

open-to : (layout : Layout) (earlier : List (Command × Answer)) (command : Command) (a : GuestAccess) → guest_access layout command ≡ Some a → denied layout earlier command ≡ None
    → ((guest_of layout earlier a.process).stopped ≡ false) × (set.contains (guest_of layout earlier a.process).bad a.slot.0 ≡ false)
open-to layout earlier command a is none =
    let g = guest_of layout earlier a.process in
    open-bits g.stopped (set.contains g.bad a.slot.0)
    (sym (ap (option_and_then (λ (b : GuestAccess). denial (admitted (guest_of layout earlier b.process) b.slot.0))) is) ∙ none)

-- a machine check of a guest makes the frame bad, or stops the guest
check-after : (layout : Layout) (command : Command) (a : GuestAccess) (place : At) (g : GuestState) → guest_access layout command ≡ Some a → guest_after layout a.process g command (answers.Sigbus place) ≡ after a.mode a.slot.0 g
check-after layout command a place g is =
    ap (λ (o : Option GuestAccess). option_map_or (guest_taken a.process g) o g) is ∙ ap (λ (b : Bool). if b then after a.mode a.slot.0 g else g) (eq-eqb a.process.0 a.process.0 refl)

after-user : (mode : Mode) (slot : ℕ) (g h : GuestState) → Outlives (after mode slot g) h → h.stopped ≡ false → set.contains h.bad slot ≡ true
after-user User slot g h on going = on.bad slot (bad-more g.bad slot slot ∙ or_left (eq_by_cmp nat_cmp slot slot) (set.contains g.bad slot) (unsigned_tied slot slot ∙ eq-eqb slot slot refl))
after-user Kernel slot g h on going = absurd (true≢false (sym (on.stopped refl) ∙ going))

after-kernel : (mode : Mode) (slot : ℕ) (g h : GuestState) → Outlives (after mode slot g) h → mode ≡ Kernel → h.stopped ≡ true
after-kernel mode slot g h on is = (subst (λ (m : Mode). Outlives (after m slot g) h) is on).stopped refl

-- ---- through which translations an access makes entries

fits-load : (thread : Thread) (through : VSlot) (line : ℕ) (what : What) (wanted : VSlot) → FitsLoad thread through line what → slot_in what ≡ Some wanted → through ≡ wanted
fits-load thread through line (entries.Load slot at met) wanted fits named = sym fits.0 ∙ same_Some slot wanted named
fits-load thread through line (entries.Store slot at met) wanted fits named = absurd fits
fits-load thread through line (entries.Map slot) wanted fits named = sym fits ∙ same_Some slot wanted named
fits-load thread through line (entries.Free slot) wanted fits named = absurd fits
fits-load thread through line (entries.Mce slot at mask) wanted fits named = absurd fits
fits-load thread through line what wanted fits named = absurd (none-some wanted named)

fits-store : (thread : Thread) (through : VSlot) (line word : ℕ) (what : What) (wanted : VSlot) → FitsStore thread through line word what → slot_in what ≡ Some wanted → through ≡ wanted
fits-store thread through line word (entries.Load slot at met) wanted fits named = absurd fits
fits-store thread through line word (entries.Store slot at met) wanted fits named = sym fits.0 ∙ same_Some slot wanted named
fits-store thread through line word (entries.Map slot) wanted fits named = sym fits ∙ same_Some slot wanted named
fits-store thread through line word (entries.Free slot) wanted fits named = absurd fits
fits-store thread through line word (entries.Mce slot at mask) wanted fits named = absurd fits
fits-store thread through line word what wanted fits named = absurd (none-some wanted named)

fits-copy : (thread : Thread) (from to : VSlot) (what : What) (wanted : VSlot) → FitsCopy thread from to what → slot_in what ≡ Some wanted → (from ≡ wanted) ⊎ (to ≡ wanted)
fits-copy thread from to (entries.Load slot at met) wanted fits named = inl (sym fits.0 ∙ same_Some slot wanted named)
fits-copy thread from to (entries.Store slot at met) wanted fits named = inr (sym fits.0 ∙ same_Some slot wanted named)
fits-copy thread from to (entries.Map slot) wanted (inl same) named = inl (sym same ∙ same_Some slot wanted named)
fits-copy thread from to (entries.Map slot) wanted (inr same) named = inr (sym same ∙ same_Some slot wanted named)
fits-copy thread from to (entries.Mce slot at mask) wanted (inl same) named = inl (sym same ∙ same_Some slot wanted named)
fits-copy thread from to (entries.Mce slot at mask) wanted (inr same) named = inr (sym same ∙ same_Some slot wanted named)
fits-copy thread from to (entries.Free slot) wanted fits named = inl (sym fits ∙ same_Some slot wanted named)
fits-copy thread from to what wanted fits named = absurd (none-some wanted named)

-- an access that copies nothing makes each through its own
made-through : (watches : Bool) (command : Command) (a : Access) (what : What) (wanted : VSlot) → access_of command ≡ Some a → Makes watches command what → slot_in what ≡ Some wanted → a.slot ≡ wanted
made-through watches command a (entries.Mce slot line mask) wanted is made named = (subst (λ (o : Option Access). IsSomeAnd o (IsAccessAt slot line)) is made).0 ∙ same_Some slot wanted named
made-through watches command a (entries.Fail situation required seen signals) wanted is made named = absurd (none-some wanted named)
made-through watches command a entries.Soft wanted is made named = absurd (none-some wanted named)
made-through watches (commands.Load thread slot line) a what wanted is made named = ap (λ (b : Access). b.slot) (sym (same_Some (access thread slot line) a is)) ∙ fits-load thread slot line what wanted made named
made-through watches (commands.Fetch thread slot line) a what wanted is made named = ap (λ (b : Access). b.slot) (sym (same_Some (access thread slot line) a is)) ∙ fits-load thread slot line what wanted made named
made-through watches (commands.KLoad thread slot line) a what wanted is made named = ap (λ (b : Access). b.slot) (sym (same_Some (access thread slot line) a is)) ∙ fits-load thread slot line what wanted made named
made-through watches (commands.Store thread slot line word) a what wanted is made named = ap (λ (b : Access). b.slot) (sym (same_Some (access thread slot line) a is)) ∙ fits-store thread slot line word what wanted made named
made-through watches command a what wanted is made named = absurd (none-some a is)

-- the translation, or its twin
abbrev IsEither : Layout → VSlot → VSlot → Type 0
IsEither layout slot through = (slot ≡ through) ⊎ (twin_of layout slot ≡ Some through)

either-if : (layout : Layout) (b : Bool) (slot : VSlot) → IsEither layout slot (if b then twin_or layout slot else slot)
either-if layout true slot = which (twin_of layout slot) refl
  where
    which : (o : Option VSlot) → twin_of layout slot ≡ o → (slot ≡ unwrap_or o slot) ⊎ (twin_of layout slot ≡ Some (unwrap_or o slot))
    which None is = inl refl
    which (Some twin) is = inr is
either-if layout false slot = inl refl

module _ (layout : Layout) (earlier : List (Command × Answer)) (watches : Bool) (wanted : VSlot) where
  either-of : (slot through : VSlot) (a : Access) → a.slot ≡ slot → through ≡ wanted → IsEither layout slot through → IsEither layout a.slot wanted
  either-of slot through a own same either = subst (λ (s : VSlot). IsEither layout s wanted) (sym own) (subst (IsEither layout slot) same either)

  own-slot : (thread : Thread) (slot : VSlot) (line : ℕ) (a : Access) → Some (access thread slot line) ≡ Some a → a.slot ≡ slot
  own-slot thread slot line a is = ap (λ (b : Access). b.slot) (sym (same_Some (access thread slot line) a is))

  acting-through : (command : Command) (a : Access) (what : What) → access_of command ≡ Some a → Makes watches (acting layout earlier command) what → slot_in what ≡ Some wanted → IsEither layout a.slot wanted
  acting-through (commands.Load thread slot line) a what is made named =
      let to = through layout earlier slot in
      either-of slot to a (own-slot thread slot line a is) (made-through watches (commands.Load thread to line) (access thread to line) what wanted refl made named) (either-if layout (cow_of layout earlier slot).switched slot)
  acting-through (commands.Fetch thread slot line) a what is made named =
      let to = through layout earlier slot in
      either-of slot to a (own-slot thread slot line a is) (made-through watches (commands.Fetch thread to line) (access thread to line) what wanted refl made named) (either-if layout (cow_of layout earlier slot).switched slot)
  acting-through (commands.KLoad thread slot line) a what is made named =
      let to = through layout earlier slot in
      either-of slot to a (own-slot thread slot line a is) (made-through watches (commands.KLoad thread to line) (access thread to line) what wanted refl made named) (either-if layout (cow_of layout earlier slot).switched slot)
  acting-through (commands.Store thread slot line word) a what is made named =
      let to = written_through layout earlier slot in
      either-of slot to a (own-slot thread slot line a is) (made-through watches (commands.Store thread to line word) (access thread to line) what wanted refl made named) (either-if layout (cow_of layout earlier slot).frozen slot)
  acting-through command a what is made named = absurd (none-some a is)

  -- one that copies, through its own and the twin
  copy-through : (command : Command) (a : Access) (from : VSlot) (page : Page) (what : What) → access_of command ≡ Some a → copied_from layout earlier command ≡ Some from → MakesCopy layout from (acting layout earlier command) page what
      → slot_in what ≡ Some wanted → IsEither layout a.slot wanted
  copy-through (commands.Store thread slot line word) a from page what is copied copy named = which (fits-copy thread from (written_through layout earlier slot) what wanted copy.0 named)
    where
      which : (from ≡ wanted) ⊎ (written_through layout earlier slot ≡ wanted) → IsEither layout a.slot wanted
      which (inl same) = inl (own-slot thread slot line a is ∙ if-some ((cow_of layout earlier slot).frozen && not (cow_of layout earlier slot).switched) slot from copied ∙ same)
      which (inr same) = either-of slot (written_through layout earlier slot) a (own-slot thread slot line a is) same (either-if layout (cow_of layout earlier slot).frozen slot)
  copy-through (commands.Load thread slot line) a from page what is copied copy named = absurd (none-some from copied)
  copy-through command a from page what is copied copy named = absurd (none-some from copied)

-- ---- twins

twin-listed : (twins : List (Option VSlot)) (i : ℕ) (slot : VSlot) → get_or twins i None ≡ Some slot → list_any (is_slot slot) twins ≡ true
twin-listed [] i slot is = absurd (none-some slot is)
twin-listed (t ∷ ts) zero slot is = or_left (is_slot slot t) (list_any (is_slot slot) ts) (ap (is_slot slot) is ∙ eq-eqb slot.0 slot.0 refl)
twin-listed (t ∷ ts) (suc i) slot is = or_right (is_slot slot t) (list_any (is_slot slot) ts) (twin-listed ts i slot is)

slot-named : (layout : Layout) (command : Command) (a : Access) → access_of command ≡ Some a → names_twin layout command ≡ is_twin layout a.slot
slot-named layout (commands.Load thread slot line) a is = ap (λ (b : Access). is_twin layout b.slot) (same_Some (access thread slot line) a is)
slot-named layout (commands.Fetch thread slot line) a is = ap (λ (b : Access). is_twin layout b.slot) (same_Some (access thread slot line) a is)
slot-named layout (commands.KLoad thread slot line) a is = ap (λ (b : Access). is_twin layout b.slot) (same_Some (access thread slot line) a is)
slot-named layout (commands.Store thread slot line word) a is = ap (λ (b : Access). is_twin layout b.slot) (same_Some (access thread slot line) a is)
slot-named layout command a is = absurd (none-some a is)

-- ---- the report

module _ (script : Script) (report : Report) (valid : IsValid script) (lawful : IsLawful script report) where
  -- the guest behind its machine check
  guest-then : (check later : GuestAccess) (e : Entry) → IsBehindCheck script report check later e
      → (g : GuestState) × Outlives (after check.mode check.slot.0 g) (guest_of script.layout (answered_before script report e.who) later.process)
  guest-then check later e b =
      let command = b.checked.access.command in
      let answer = answers.Sigbus b.checked.place in
      let list = answered_on script report e.who.cpu in
      let there : slice_get list b.before.seq ≡ Some (command, answer) =
      ap (λ (c : Cpu). slice_get (answered_on script report c) b.before.seq) (sym b.earlier.0) ∙ answered-at script report b.before command answer b.checked.access.command_is b.checked.answered in
      let g = outlives-one script.layout check.process new_guest list b.before.seq e.who.seq command answer there b.earlier.1 in (
        g.0,
        subst (λ (p : Proc). Outlives (after check.mode check.slot.0 g.0) (guest_of script.layout (answered_before script report e.who) p)) (sym b.same_guest)
            (subst (λ (h : GuestState). Outlives h (guest_of script.layout (answered_before script report e.who) check.process)) (check-after script.layout command check b.checked.place g.0 b.checked.access.access_is) g.1),
      )

  -- an access that made an entry was admitted
  admitted-then : (check later : GuestAccess) (e : Entry) (b : IsBehindCheck script report check later e) → denied script.layout (answered_before script report e.who) b.accessed.command ≡ None
  admitted-then check later e b = which (denied script.layout (answered_before script report e.who) b.accessed.command) (lawful.guests.kept e.who b.accessed.command b.accessed.command_is)
    where
      which : (o : Option Answer) → IsDenied report e.who o → o ≡ None
      which None kept = refl
      which (Some answer) kept = absurd (kept.1.unmade b.at e b.there refl)

  -- and made the entry through its own translation or the twin
  through-then : (check later : GuestAccess) (e : Entry) → IsBehindCheck script report check later e → slot_in e.what ≡ Some check.slot → IsEither script.layout later.slot check.slot
  through-then check later e b named =
      let earlier = answered_before script report e.who in
      let command = b.accessed.command in
      let a = has-access script.layout command later b.accessed.access_is in
      let watches = has_watch (acting_script script report) in
      let acts : command_at (acting_script script report) e.who ≡ Some (acting script.layout earlier command) = command-acted script report e.who ∙ ap (option_map (acting script.layout earlier)) b.accessed.command_is in
      let copies : copied_at script report e.who ≡ copied_from script.layout earlier command = ap (option_and_then (copied_from script.layout earlier)) b.accessed.command_is in
      let made = subst (λ (o : Option Command). IsSomeAnd o (λ (c : Command). (Makes watches c e.what × CanStandIn script.layout c b.at.page e.what) ⊎ IsSomeAnd (copied_at script report e.who) (λ (from : VSlot). MakesCopy script.layout from c b.at.page e.what)))
      acts (lawful.histories.made b.at e b.there) in
      subst (λ (s : VSlot). IsEither script.layout s check.slot) a.slot (which earlier command a watches copies made)
    where
      which : (earlier : List (Command × Answer)) (command : Command) (a : HasAccess script.layout command later) (watches : Bool) → copied_at script report e.who ≡ copied_from script.layout earlier command
          → (Makes watches (acting script.layout earlier command) e.what × CanStandIn script.layout (acting script.layout earlier command) b.at.page e.what)
          ⊎ IsSomeAnd (copied_at script report e.who) (λ (from : VSlot). MakesCopy script.layout from (acting script.layout earlier command) b.at.page e.what) → IsEither script.layout a.access.slot check.slot
      which earlier command a watches copies (inl made) = acting-through script.layout earlier watches check.slot command a.access e.what a.access_is made.0 named
      which earlier command a watches copies (inr copy) =
          let c = some-and (copied_at script report e.who) (λ (from : VSlot). MakesCopy script.layout from (acting script.layout earlier command) b.at.page e.what) copy in
          copy-through script.layout earlier watches check.slot command a.access c.0 b.at.page e.what a.access_is (sym copies ∙ c.1) c.2 named

  unnamed : (check later : GuestAccess) (e : Entry) → IsBehindCheck script report check later e → slot_in e.what ≢ Some check.slot
  unnamed check later e b named =
      let going = open-to script.layout (answered_before script report e.who) b.accessed.command later b.accessed.access_is (admitted-then check later e b) in
      let guest = guest_of script.layout (answered_before script report e.who) later.process in
      let behind_check = guest-then check later e b in
      let bad : set.contains guest.bad check.slot.0 ≡ true = after-user check.mode check.slot.0 behind_check.0 guest behind_check.1 going.0 in
      let met = has-access script.layout b.checked.access.command check b.checked.access.access_is in
      let command = valid-command script valid b.before b.checked.access.command b.checked.access.command_is in
      let no_twin : is_twin script.layout check.slot ≡ false = ap (is_twin script.layout) (sym met.slot) ∙ sym (slot-named script.layout b.checked.access.command met.access met.access_is) ∙ command.1 in
      which guest bad going.1 no_twin (through-then check later e b named)
    where
      which : (guest : GuestState) → set.contains guest.bad check.slot.0 ≡ true → set.contains guest.bad later.slot.0 ≡ false → is_twin script.layout check.slot ≡ false → IsEither script.layout later.slot check.slot → ⊥
      which guest bad good no_twin (inl same) = true≢false (sym bad ∙ ap (λ (s : VSlot). set.contains guest.bad s.0) (sym same) ∙ good)
      which guest bad good no_twin (inr twin) = true≢false (sym (twin-listed script.layout.twins later.slot.0 check.slot twin) ∙ no_twin)

  stopped : (check later : GuestAccess) (e : Entry) → IsBehindCheck script report check later e → check.mode ≢ Kernel
  stopped check later e b kernel =
      let going = open-to script.layout (answered_before script report e.who) b.accessed.command later b.accessed.access_is (admitted-then check later e b) in
      let behind_check = guest-then check later e b in
      true≢false (sym (after-kernel check.mode check.slot.0 behind_check.0 (guest_of script.layout (answered_before script report e.who) later.process) behind_check.1 kernel) ∙ going.0)

  pub no-bad-guest-frames : AreBadFramesLeft script report
  no-bad-guest-frames = record { unnamed = unnamed; stopped = stopped }
