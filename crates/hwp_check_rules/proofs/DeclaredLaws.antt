-- What a valid script's processors acted on is declared too: a twin is a translation of the same process.
use Rattle.std.proofs.Common.{◌≡◌, ℕ, ◌+◌, ◌<◌, ◌≤◌, Bool, true, false, List, [], ◌∷◌, ◌++◌, All, Option, Some, None, if◌then◌else◌, length, slice_get, unwrap_or, IsSomeAnd, refl, sym, ap, subst, ◌∙◌, arith, suc}
use Rattle.std.specs.List.{sum_by}
use Rattle.std.proofs.lemmas.List.Elements.{All-cons, All-head, All-nil, All-tail}
use Rattle.std.proofs.lemmas.List.Sums.{sum_by-cons}
use Rattle.std.proofs.lemmas.Option.{slice_get_within}
use Rattle.hwp_law.specs.hwp_geom.Layout.{twin_of}
use Rattle.hwp_law.specs.hwp_geom.declared.Layout.{Layout}
use Rattle.hwp_law.specs.hwp_geom.declared.Thread.{Thread}
use Rattle.hwp_law.specs.hwp_geom.declared.ThreadDecl.{ThreadDecl}
use Rattle.hwp_law.specs.hwp_geom.declared.TransDecl.{TransDecl}
use Rattle.hwp_law.specs.hwp_geom.declared.VSlot.{VSlot}
use Rattle.hwp_law.specs.Cows.{acting, cow_of, twin_or}
use Rattle.hwp_law.specs.hwp_report_text.declared.Answer.{Answer}
use Rattle.hwp_law.specs.hwp_report_text.declared.CpuLine.{CpuLine}
use Rattle.hwp_law.specs.hwp_report_text.declared.Report.{Report}
use Rattle.hwp_law.specs.hwp_script_words.Valid.{AreLists, AreTwinsFit, ArePaired, IsAccess, IsAnon, IsCommandOf, IsValid}
use Rattle.hwp_law.specs.hwp_script_words.declared.Command.{Command}
use Rattle.hwp_law.specs.hwp_script_words.declared.Command.TheVariants as commands
use Rattle.hwp_law.specs.hwp_script_words.declared.Script.{Script}
use Rattle.hwp_law.specs.Acting.{acting_from, acting_lists, acting_script}
use Rattle.hwp_law.specs.Lines.{answers_to}
use Rattle.hwp_law.proofs.ActedLaws.{acting-length}
use Rattle.hwp_check_event_line.specs.Scripts.{IsDeclared}
use Rattle.hwp_law.specs.hwp_geom.Limits.{command_limit}

pub valid-declared : (script : Script) → IsValid script → IsDeclared script
valid-declared script valid = record { sound = valid.sound; one_each = valid.one_each; lists = valid.lists; few = valid.few }

module _ (layout : Layout) (twins : AreTwinsFit layout) where
  -- what is so of a translation, and of the twin of one of which it is so, is so of the one that stands for it
  of-twin : (P : VSlot → Type 0) (slot : VSlot) → P slot → ((twin : VSlot) → twin_of layout slot ≡ Some twin → P twin) → P (twin_or layout slot)
  of-twin P slot own others = by (twin_of layout slot) refl
    where
      by : (o : Option VSlot) → twin_of layout slot ≡ o → P (unwrap_or o slot)
      by None is = own
      by (Some twin) is = others twin is

  either : (P : VSlot → Type 0) (slot : VSlot) (b : Bool) → P slot → P (twin_or layout slot) → P (if b then twin_or layout slot else slot)
  either P slot true own twin = twin
  either P slot false own twin = own

  abbrev IsOf : ThreadDecl → VSlot → Type 0
  IsOf t slot = IsSomeAnd (slice_get layout.trans slot.0) (λ (v : TransDecl). v.process ≡ t.process)

  -- a twin is of the same process, and declared
  twin-of : (t : ThreadDecl) (slot twin : VSlot) → ArePaired layout slot twin → IsOf t slot → IsOf t twin
  twin-of t slot twin paired own = by (slice_get layout.trans slot.0) (slice_get layout.trans twin.0) paired own
    where
      by : (o q : Option TransDecl)
          → IsSomeAnd o (λ (v : TransDecl). IsSomeAnd q (λ (w : TransDecl). (v.process ≡ w.process) × (v.page.0 ≡ w.page.0 → ⊥) × IsSomeAnd (slice_get layout.pages v.page.0) IsAnon × IsSomeAnd (slice_get layout.pages w.page.0) IsAnon))
          → IsSomeAnd o (λ (v : TransDecl). v.process ≡ t.process) → IsSomeAnd q (λ (w : TransDecl). w.process ≡ t.process)
      by None q pair is = absurd is
      by (Some v) None pair is = absurd pair
      by (Some v) (Some w) pair is = sym pair.0 ∙ is

  twin-within : (slot twin : VSlot) → ArePaired layout slot twin → twin.0 < length layout.trans
  twin-within slot twin paired = by (slice_get layout.trans slot.0) (slice_get layout.trans twin.0) refl paired
    where
      by : (o q : Option TransDecl) → slice_get layout.trans twin.0 ≡ q
          → IsSomeAnd o (λ (v : TransDecl). IsSomeAnd q (λ (w : TransDecl). (v.process ≡ w.process) × (v.page.0 ≡ w.page.0 → ⊥) × IsSomeAnd (slice_get layout.pages v.page.0) IsAnon × IsSomeAnd (slice_get layout.pages w.page.0) IsAnon))
          → twin.0 < length layout.trans
      by None q is pair = absurd pair
      by (Some v) None is pair = absurd pair
      by (Some v) (Some w) is pair = slice_get_within layout.trans twin.0 w is

  access-of : (cpu : ℕ) (thread : Thread) (slot : VSlot) (b : Bool) → IsAccess layout cpu thread slot → IsAccess layout cpu thread (if b then twin_or layout slot else slot)
  access-of cpu thread slot b access = by (slice_get layout.threads thread.0) access
    where
      by : (o : Option ThreadDecl) → IsSomeAnd o (λ (t : ThreadDecl). (t.cpu.0 ≡ cpu) × IsOf t slot) → IsSomeAnd o (λ (t : ThreadDecl). (t.cpu.0 ≡ cpu) × IsOf t (if b then twin_or layout slot else slot))
      by None is = absurd is
      by (Some t) is = (is.0, either (IsOf t) slot b is.1 (of-twin (IsOf t) slot is.1 (λ twin has. twin-of t slot twin (twins.each slot twin has).paired is.1)))

  pub acting-declared : (cpu : ℕ) (earlier : List (Command × Answer)) (c : Command) → IsCommandOf layout cpu c → IsCommandOf layout cpu (acting layout earlier c)
  acting-declared cpu earlier (commands.Load thread slot line) is = (access-of cpu thread slot (cow_of layout earlier slot).switched is.0, is.1)
  acting-declared cpu earlier (commands.Fetch thread slot line) is = (access-of cpu thread slot (cow_of layout earlier slot).switched is.0, is.1)
  acting-declared cpu earlier (commands.KLoad thread slot line) is = (access-of cpu thread slot (cow_of layout earlier slot).switched is.0, is.1)
  acting-declared cpu earlier (commands.Store thread slot line word) is = (access-of cpu thread slot (cow_of layout earlier slot).frozen is.0, is.1)
  acting-declared cpu earlier (commands.Free slot) is =
      either (λ (v : VSlot). v.0 < length layout.trans) slot (cow_of layout earlier slot).switched is
      (of-twin (λ (v : VSlot). v.0 < length layout.trans) slot is (λ twin has. twin-within slot twin (twins.each slot twin has).paired))
  acting-declared cpu earlier c is = is

  list-declared : (cpu : ℕ) (earlier : List (Command × Answer)) (list : List Command) (given : List Answer) → All (IsCommandOf layout cpu) list → All (IsCommandOf layout cpu) (acting_from layout earlier list given)
  list-declared cpu earlier [] given all = All-nil (IsCommandOf layout cpu)
  list-declared cpu earlier (c ∷ cs) [] all =
      All-cons (IsCommandOf layout cpu) (acting layout earlier c) (acting_from layout earlier cs []) (acting-declared cpu earlier c (All-head (IsCommandOf layout cpu) c cs all))
      (list-declared cpu earlier cs [] (All-tail (IsCommandOf layout cpu) c cs all))
  list-declared cpu earlier (c ∷ cs) (a ∷ given) all =
      All-cons (IsCommandOf layout cpu) (acting layout earlier c) (acting_from layout (earlier ++ (c, a) ∷ []) cs given) (acting-declared cpu earlier c (All-head (IsCommandOf layout cpu) c cs all))
      (list-declared cpu (earlier ++ (c, a) ∷ []) cs given (All-tail (IsCommandOf layout cpu) c cs all))

  lists-declared : (cpus : List (List CpuLine)) (n cpu : ℕ) (lists : List (List Command)) → AreLists layout cpu lists → AreLists layout cpu (acting_lists layout cpus n lists)
  lists-declared cpus n cpu [] all = record {}
  lists-declared cpus n cpu (l ∷ ls) all = (list-declared cpu [] l (answers_to l (unwrap_or (slice_get cpus n) [])) all.0, lists-declared cpus (n + 1) (cpu + 1) ls all.1)

-- as many lists and commands as in the script
lists-many : (layout : Layout) (cpus : List (List CpuLine)) (n : ℕ) (lists : List (List Command)) → length (acting_lists layout cpus n lists) ≡ length lists
lists-many layout cpus n [] = refl
lists-many layout cpus n (l ∷ ls) = ap suc (lists-many layout cpus (n + 1) ls)

abbrev long : List Command → ℕ
long list = length list

commands-many : (layout : Layout) (cpus : List (List CpuLine)) (n : ℕ) (lists : List (List Command)) → sum_by long (acting_lists layout cpus n lists) ≡ sum_by long lists
commands-many layout cpus n [] = refl
commands-many layout cpus n (l ∷ ls) =
    let one : length (acting_from layout [] l (answers_to l (unwrap_or (slice_get cpus n) []))) ≡ length l = acting-length layout [] l (answers_to l (unwrap_or (slice_get cpus n) [])) in
    let rest : sum_by long (acting_lists layout cpus (n + 1) ls) ≡ sum_by long ls = commands-many layout cpus (n + 1) ls in
    let both : sum_by long (acting_lists layout cpus n (l ∷ ls)) ≡ length (acting_from layout [] l (answers_to l (unwrap_or (slice_get cpus n) []))) + sum_by long (acting_lists layout cpus (n + 1) ls) =
    sum_by-cons long (acting_from layout [] l (answers_to l (unwrap_or (slice_get cpus n) []))) (acting_lists layout cpus (n + 1) ls) in
    let own : sum_by long (l ∷ ls) ≡ length l + sum_by long ls = sum_by-cons long l ls in
    omega (arith, one, rest, both, own)

-- what was acted on is declared
pub acted-declared : (script : Script) (report : Report) → IsValid script → IsDeclared (acting_script script report)
acted-declared script report valid = record {
  sound = valid.sound;
  one_each = lists-many script.layout report.cpus 0 script.lists ∙ valid.one_each;
  lists = lists-declared script.layout valid.twins report.cpus 0 0 script.lists valid.lists;
  few =
      let many : sum_by long (acting_lists script.layout report.cpus 0 script.lists) ≡ sum_by long script.lists = commands-many script.layout report.cpus 0 script.lists in
      subst (λ (n : ℕ). n ≤ command_limit) (sym many) valid.few;
}
