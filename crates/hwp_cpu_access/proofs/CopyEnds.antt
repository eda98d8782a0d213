-- A copy at its beginning and at its end, and what it asks for, which never changes.
use Rattle.std.proofs.Common.{◌≡◌, ◌⊎◌, inl, inr, ℕ, ◌*◌, ◌<◌, ◌==◌, if◌then◌else◌, Bool, false, List, [], ◌++◌, Some, None, length, slice_index, append-nil, refl, sym, ap, ◌∙◌, subst}
use Rattle.std.specs.declared.alloc.Global.{Global}
use Rattle.std.proofs.lemmas.Bool.{both_ways}
use Rattle.std.proofs.lemmas.Option.{none-some, same_Some}
use Rattle.hwp_fault.specs.hwp_geom.declared.Layout.{Layout}
use Rattle.hwp_fault.specs.hwp_geom.declared.Mode.{Mode}
use Rattle.hwp_fault.specs.hwp_geom.declared.Page.{Page}
use Rattle.hwp_fault.specs.hwp_geom.declared.VSlot.{VSlot}
use Rattle.hwp_fault.specs.hwp_geom.Layout.{IsSound}
use Rattle.hwp_fault.specs.hwp_geom.Limits.{line_limit}
use Rattle.hwp_fault.specs.hwp_page.declared.At.{At}
use Rattle.hwp_fault.specs.hwp_core_rule.declared.Made.{Made}
use Rattle.hwp_fault.specs.hwp_core_rule.declared.View.{View}
use Rattle.hwp_fault.specs.hwp_core_rule.Lists.{EachMember}
use Rattle.hwp_fault.specs.hwp_core_rule.Calls.{IsOnTurn}
use Rattle.hwp_fault.specs.hwp_core_rule.Hands.{hand_of, empty}
use Rattle.hwp_fault.specs.hwp_core_rule.Known.{HasMadeNoneBeside, deeds}
use Rattle.hwp_fault.specs.declared.AccessKind.TheVariants as kinds
use Rattle.hwp_fault.specs.declared.Request.{Request}
use Rattle.hwp_fault.specs.Accesses as accesses
use Rattle.hwp_claim.specs.Checks.{Check, left_by, lines_of}
use Rattle.hwp_claim.specs.hwp_banks.Banks.{Banks}
use Rattle.hwp_claim.specs.hwp_banks.Events.{bank_count}
use Rattle.hwp_claim.specs.hwp_banks.declared.Origin.{Origin}
use Rattle.hwp_claim.specs.hwp_banks.declared.Origin.TheVariants as origins
use Rattle.hwp_fault.specs.hwp_geom.declared.Mode.TheVariants as modes
use Rattle.hwp_cpu_access.specs.declared.instruction.InstructionAnswer.{InstructionAnswer}
use Rattle.hwp_cpu_access.specs.declared.instruction.InstructionAnswer.TheVariants as answers
use Rattle.hwp_fork.specs.Cows.{sub_of}
use Rattle.hwp_cpu_access.specs.declared.instruction.InstructionAt.TheVariants as instruction_at
use Rattle.hwp_cpu_access.specs.Checks.{AreChecks}
use Rattle.hwp_cpu_access.specs.Done as instruction_done
use Rattle.hwp_cpu_access.specs.Fits as instruction_fits
use Rattle.hwp_cpu_access.specs.Fits.{FitsBehind, checks_in, checks_made}
use Rattle.hwp_cpu_access.specs.Instructions as instructions
use Rattle.hwp_cpu_access.proofs.InstructionLaws as instructing
use Rattle.hwp_cpu_access.specs.declared.copying.Copying.{Copying}
use Rattle.hwp_cpu_access.specs.declared.copying.CopyingAt.{CopyingAt}
use Rattle.hwp_cpu_access.specs.declared.copying.CopyingAt.TheVariants as at
use Rattle.hwp_cpu_access.specs.Copyings.{answer, answer_at, begin, load_of, plan, plan_at, request_by}
use Rattle.hwp_cpu_access.specs.CopyDone.{marked_at, owed_at, owed_now}
use Rattle.hwp_cpu_access.specs.CopyFits.{FitsAt, FitsFrom, HasCopied, HasRun, IsEnd, IsOver, is_well}
use Rattle.hwp_cpu_access.specs.Runs.{IsBetween, Run, checks_by, made_by, words_of}
use Rattle.hwp_cpu_access.proofs.CopiedWords.{copied-words, last_stored}
use Rattle.hwp_cpu_access.proofs.CowSteps.{told-of, told-of-all}
use Rattle.hwp_cpu_access.proofs.CopyLaws.{over-instruction}

-- a copy fits at its beginning, where its processor holds and owes nothing, and its command has made nothing beside entries that are of no
-- machine check
pub begins : (base : List Made) (layout : Layout) (view : View) (alloc : Global) (store : Request) (x : ℕ) (slot : VSlot) (page : Page) (banks : Banks) (collects : Bool) → IsOnTurn view store.who → IsSound layout → accesses.IsDeclared layout store
    → accesses.IsDeclared layout (load_of store page slot 0) → store.kind ≡ kinds.Store x → length banks ≡ bank_count → hand_of view ≡ empty → view.owed.losses ≡ [] → HasMadeNoneBeside base view store.who → checks_in base ≡ 0
    → FitsFrom base layout view (begin alloc store x slot page banks collects)
begins base layout view alloc store x slot page banks collects on sound names own kind three hand paid none unchecked = record {
  on_turn = on;
  unchecked = unchecked;
  runs = [];
  has = record {
    sound = sound;
    names = names;
    own = own;
    kind = kind;
    twin = refl;
    line = refl;
    user = refl;
    origin = refl;
    three = three;
    cow_is = refl;
    are = tt;
    lets = record { halts_none = refl; signals_none = refl };
  };
  at = record {
    since = [];
    such = λ i m there. absurd (none-some m there);
    instruction = subst (λ (l : List Made). FitsBehind l [] layout view (instructions.begin alloc (load_of store page slot 0) origins.Access modes.User banks collects)) (sym (append-nil base))
        (instructing.begins layout view (instructions.begin alloc (load_of store page slot 0) origins.Access modes.User banks collects) refl on sound own tt three hand paid none unchecked);
    request_is = refl;
    unwell = refl;
  };
}

-- a copy that is answered holds nothing and owes no loss, and makes no more steps
pub record IsEnded (view : View) (c : Copying) : Type 0 where
  pub hand_is : hand_of view ≡ empty
  pub paid : view.owed.losses ≡ []
  pub over : plan c ≡ None

pub ends : {base : List Made} {layout : Layout} {view : View} (c : Copying) {x : InstructionAnswer} → FitsFrom base layout view c → answer c ≡ Some x → IsEnded view c
ends {base} {layout} {view} c {x} fits is = which c.at refl fits.at is
  where
    which : (y : CopyingAt) → c.at ≡ y → FitsAt base layout view c fits.runs y → answer_at c.instruction y ≡ Some x → IsEnded view c
    which at.Access own has e = let over = over-instruction c.instruction e in
        let end : instruction_fits.IsAnswered _ layout view c.instruction (checks_by fits.runs ++ has.instruction.checks) x = subst (instruction_fits.FitsAt _ layout view c.instruction (checks_by fits.runs ++ has.instruction.checks)) over has.instruction.at in
        record { hand_is = end.hand_is; paid = end.paid; over = ap (plan_at c.instruction) own ∙ ap instructions.plan_at over }
    which (at.Free e stored) own has none = absurd (none-some x none)
    which (at.Over a) own has e = record { hand_is = has.hand_is; paid = has.paid; over = ap (plan_at c.instruction) own }

-- of its marks all are told in its lines, and it owes no count
pub all-told : (c : Copying) {x : InstructionAnswer} → answer c ≡ Some x → (marked_at c.instruction c.at ≡ []) × (owed_now c ≡ 0)
all-told c {x} is = which c.at is
  where
    which : (y : CopyingAt) → answer_at c.instruction y ≡ Some x → (marked_at c.instruction y ≡ []) × (owed_at c.instruction y ≡ 0)
    which at.Access e = let over = over-instruction c.instruction e in (ap instruction_done.marked_at over, ap instruction_done.owed_at over)
    which (at.Free e stored) none = absurd (none-some x none)
    which (at.Over a) e = (refl, refl)

-- An access answered it, behind those of the runs, which went well: the entries that the command made by it before its last pause, its
-- machine checks, which the lines tell behind those of the runs, and why it answers so
pub record EndsByAccess (base : List Made) (layout : Layout) (view : View) (c : Copying) (runs : List Run) (x : InstructionAnswer) : Type 0 where
  pub since : List Made
  pub such : EachMember (IsBetween c.instruction.request) since
  pub request_is : request_by c.store c.page (sub_of c.cow) ≡ Some c.instruction.request
  pub unwell : is_well (Some x) ≡ false
  pub checks : List Check
  pub checked : AreChecks layout view c.instruction.request origins.Access modes.User (left_by c.instruction.before.value (checks_by runs)) checks
  pub told_is : c.instruction.lines.told ≡ lines_of (checks_by runs ++ checks)
  pub banks_are : c.instruction.banks ≡ left_by c.instruction.before.value (checks_by runs ++ checks)
  pub made : checks_made c.instruction.request.who view ≡ length (checks_by runs ++ checks)
  pub ended : instruction_fits.IsEnd (base ++ (made_by runs ++ since)) layout view c.instruction.request c.instruction.lines.told x

-- how a copy came to its answer: by accesses that went well, and then by one that didn't, or by the freeing
pub record HasEnded (base : List Made) (layout : Layout) (view : View) (c : Copying) (x : InstructionAnswer) : Type 0 where
  pub runs : List Run
  pub has : HasRun layout view c runs
  pub ended : EndsByAccess base layout view c runs x ⊎ IsOver base view c runs x

pub has-ended : {base : List Made} {layout : Layout} {view : View} (c : Copying) {x : InstructionAnswer} → FitsFrom base layout view c → answer c ≡ Some x → HasEnded base layout view c x
has-ended {base} {layout} {view} c {x} fits is = record { runs = fits.runs; has = fits.has; ended = which c.at fits.at is }
  where
    which : (y : CopyingAt) → FitsAt base layout view c fits.runs y → answer_at c.instruction y ≡ Some x → EndsByAccess base layout view c fits.runs x ⊎ IsOver base view c fits.runs x
    which at.Access has e = inl (record {
      since = has.since;
      such = has.such;
      request_is = has.request_is;
      unwell = ap is_well (sym e) ∙ has.unwell;
      checks = has.instruction.checks;
      checked = subst (λ (m : Mode). AreChecks layout view c.instruction.request origins.Access m (left_by c.instruction.before.value (checks_by fits.runs)) has.instruction.checks) fits.has.user
          (subst (λ (o : Origin). AreChecks layout view c.instruction.request o c.instruction.mode (left_by c.instruction.before.value (checks_by fits.runs)) has.instruction.checks) fits.has.origin has.instruction.checked);
      told_is = has.instruction.told_is;
      banks_are = has.instruction.banks_are ∙ ap (instruction_fits.banks_at c.instruction.before.value (checks_by fits.runs ++ has.instruction.checks)) over;
      made = end.made;
      ended = end.ended;
    })
      where
        over : c.instruction.at ≡ instruction_at.Over (Some x)
        over = over-instruction c.instruction e

        end : instruction_fits.IsAnswered (base ++ (made_by fits.runs ++ has.since)) layout view c.instruction (checks_by fits.runs ++ has.instruction.checks) x
        end = subst (instruction_fits.FitsAt (base ++ (made_by fits.runs ++ has.since)) layout view c.instruction (checks_by fits.runs ++ has.instruction.checks)) over has.instruction.at
    which (at.Free e stored) has none = absurd (none-some x none)
    which (at.Over a) has e = inr (subst (IsOver base view c fits.runs) (same_Some a x e) has)

-- a copy that is answered `stored` made, beside the entries before it, those of its accesses; and of its stores on a line the last one is of
-- the word that was asked for, where it was asked for on that line, and else of the word that the load of the line read
pub record HasStored (base : List Made) (view : View) (c : Copying) (runs : List Run) : Type 0 where
  pub all : deeds c.store.who view ≡ base ++ made_by runs
  pub last : (k : ℕ) → k < line_limit → last_stored k (made_by runs) ≡ Some (if c.store.line == k then c.cow.x else slice_index (words_of runs) (2 * k))

pub stored-words : {base : List Made} {layout : Layout} {view : View} (c : Copying) {place : At} (fits : FitsFrom base layout view c) → answer c ≡ Some (answers.Stored place) → HasStored base view c fits.runs
stored-words {base} {layout} {view} c {place} fits is = which c.at fits.at is
  where
    which : (y : CopyingAt) → FitsAt base layout view c fits.runs y → answer_at c.instruction y ≡ Some (answers.Stored place) → HasStored base view c fits.runs
    which at.Access has e = absurd (both_ways (is_well (instructions.answer c.instruction)) has.unwell (ap is_well e))
    which (at.Free e stored) has none = absurd (none-some (answers.Stored place) none)
    which (at.Over a) has e =
        let copied : HasCopied base view c fits.runs place = subst (IsEnd base view c fits.runs) (same_Some a (answers.Stored place) e) has.ended in
        record {
          all = copied.all;
          last = λ k within. copied-words k layout view c.store c.page c.cow.v c.cow.w c.cow.line c.cow.x c.instruction.before.value fits.runs within
              (told-of-all c.cow (words_of fits.runs) (told-of c.cow (words_of fits.runs) fits.has.cow_is) copied.sub_is) fits.has.are
              ∙ ap (λ (n : ℕ). Some (if n == k then c.cow.x else slice_index (words_of fits.runs) (2 * k))) fits.has.line;
        }
