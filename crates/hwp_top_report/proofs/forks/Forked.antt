-- A translation that a fork froze: its twin, the pages of both, which have nothing behind them, and the fork in the list of its processor.
use Rattle.std.proofs.Common.{◌≡◌, ◌≢◌, ℕ, zero, suc, ◌+◌, ◌<◌, ◌≤◌, Bool, true, false, List, [], ◌∷◌, Option, None, Some, fold, is_some, slice_get, take, unwrap_or, refl, sym, ap, ◌∙◌, subst, true≢false, arith}
use Rattle.std.specs.Prelude.{All, IsSomeAnd}
use Rattle.std.specs.Option.{option_map_or}
use Rattle.std.proofs.lemmas.Option.{none-some, same_Some}
use Rattle.hwp_law_served.specs.hwp_geom.Layout.{twin_of}
use Rattle.hwp_law_served.specs.hwp_geom.declared.Cpu.{Cpu}
use Rattle.hwp_law_served.specs.hwp_geom.declared.Layout.{Layout}
use Rattle.hwp_law_served.specs.hwp_geom.declared.PageKind.{PageKind}
use Rattle.hwp_law_served.specs.hwp_geom.declared.PageKind.TheVariants as kinds
use Rattle.hwp_law_served.specs.hwp_geom.declared.Proc.{Proc}
use Rattle.hwp_law_served.specs.hwp_geom.declared.Thread.{Thread}
use Rattle.hwp_law_served.specs.hwp_geom.declared.TransDecl.{TransDecl}
use Rattle.hwp_law_served.specs.hwp_geom.declared.VSlot.{VSlot}
use Rattle.hwp_law_served.specs.hwp_geom.declared.Who.{Who}
use Rattle.hwp_law_served.specs.hwp_report_text.declared.Answer.{Answer}
use Rattle.hwp_law_served.specs.hwp_report_text.declared.Answer.TheVariants as answers
use Rattle.hwp_law_served.specs.hwp_report_text.declared.Report.{Report}
use Rattle.hwp_law_served.specs.hwp_script_words.Forks.{froze, names_twin}
use Rattle.hwp_law_served.specs.hwp_script_words.Valid.{AreLists, IsAnon, IsCommandOf, IsTwinFit, IsValid, NamesNoTwin}
use Rattle.hwp_law_served.specs.hwp_script_words.declared.Command.{Command}
use Rattle.hwp_law_served.specs.hwp_script_words.declared.Command.TheVariants as commands
use Rattle.hwp_law_served.specs.hwp_script_words.declared.Script.{Script}
use Rattle.hwp_law_served.specs.hwp_law.Commands.{command_at}
use Rattle.hwp_law_served.specs.hwp_law.Cows.{Cow, cow_of, froze_slot, own_page}
use Rattle.hwp_law_served.specs.hwp_law.Lines.{answers_to}
use Rattle.hwp_law_served.specs.hwp_law.Policies.{answered_on}
use Rattle.hwp_law_served.specs.hwp_law.Private.{freeze_from}
use Rattle.hwp_top_report.proofs.forks.AnswerLines.{get-take, zip-parts}
use Rattle.hwp_top_report.proofs.forks.Freezes.{fold-next, freeze-found, next}
use Rattle.hwp_top_report.proofs.forks.GivenAnswers.{all-at, list-there, then-there}
use Rattle.hwp_top_report.proofs.forks.Shares.{IsShared, fork-shares, some-and}

pub record IsForked (script : Script) (report : Report) (cpu : Cpu) (slot : VSlot) (fork : ℕ) : Type 0 where
  pub v : TransDecl
  pub v_is : slice_get script.layout.trans slot.0 ≡ Some v
  pub twin : VSlot
  pub twin_is : twin_of script.layout slot ≡ Some twin
  pub w : TransDecl
  pub w_is : slice_get script.layout.trans twin.0 ≡ Some w
  pub v_anon : slice_get script.layout.pages v.page.0 ≡ Some kinds.Anon
  pub w_anon : slice_get script.layout.pages w.page.0 ≡ Some kinds.Anon
  pub shared : IsShared script.layout cpu.0 v.page.0
  pub thread : Thread
  pub process : Proc
  pub fork_is : slice_get (answered_on script report cpu) fork ≡ Some (commands.Fork thread process, answers.Done)
  pub frozen : froze script.layout v.page.0 (commands.Fork thread process) ≡ true
  pub own : cow_of script.layout (take fork (answered_on script report cpu)) slot ≡ own_page

-- a fork freezes a translation where it freezes its page
pub froze-slot : (layout : Layout) (slot : VSlot) (v : TransDecl) (command : Command) → slice_get layout.trans slot.0 ≡ Some v → froze_slot layout slot command ≡ froze layout v.page.0 command
froze-slot layout slot v command is = ap (λ (o : Option TransDecl). option_map_or (λ (t : TransDecl). froze layout t.page.0 command) o false) is

-- ---- what a valid script says of its commands

command-of : (layout : Layout) (k : ℕ) (lists : List (List Command)) (i n : ℕ) (list : List Command) (c : Command) → AreLists layout k lists → slice_get lists i ≡ Some list → slice_get list n ≡ Some c → IsCommandOf layout (k + i) c
command-of layout k [] i n list c are there at = absurd (none-some list there)
command-of layout k (l ∷ ls) zero n list c are there at =
    let same : k ≡ k + 0 = omega arith in
    subst (λ (j : ℕ). IsCommandOf layout j c) same (all-at (IsCommandOf layout k) l n c are.0 (ap (λ (x : List Command). slice_get x n) (same_Some l list there) ∙ at))
command-of layout k (l ∷ ls) (suc i) n list c are there at =
    let same : (k + 1) + i ≡ k + suc i = omega arith in
    subst (λ (j : ℕ). IsCommandOf layout j c) same (command-of layout (k + 1) ls i n list c are.1 there at)

pub valid-command : (script : Script) → IsValid script → (who : Who) (c : Command) → command_at script who ≡ Some c → IsCommandOf script.layout who.cpu.0 c × (names_twin script.layout c ≡ false)
valid-command script valid who c is =
    let l = then-there (λ (list : List Command). slice_get list who.seq) (slice_get script.lists who.cpu.0) c is in
    let same : 0 + who.cpu.0 ≡ who.cpu.0 = omega arith in (
      subst (λ (j : ℕ). IsCommandOf script.layout j c) same (command-of script.layout 0 script.lists who.cpu.0 who.seq l.0 c valid.lists l.1 l.2),
      all-at (NamesNoTwin script.layout) l.0 who.seq c (all-at (All (NamesNoTwin script.layout)) script.lists who.cpu.0 l.0 valid.own l.1) l.2,
    )

-- ---- lists

take-within : {X : Type 0} (n : ℕ) (xs : List X) (i : ℕ) (x : X) → slice_get (take n xs) i ≡ Some x → i < n
take-within zero xs i x there = absurd (none-some x there)
take-within (suc n) [] i x there = absurd (none-some x there)
take-within (suc n) (y ∷ ys) zero x there = omega arith
take-within (suc n) (y ∷ ys) (suc i) x there = let less : i < n = take-within n ys i x there in omega (arith, less)

pub take-first : {X : Type 0} (i n : ℕ) (xs : List X) → i ≤ n → take i (take n xs) ≡ take i xs
take-first zero n xs less = refl
take-first (suc i) zero xs less = absurd (omega (arith, less))
take-first (suc i) (suc n) [] less = refl
take-first {X} (suc i) (suc n) (y ∷ ys) less = ap (λ (l : List X). y ∷ l) (take-first i n ys (omega (arith, less)))

map-or-there : {X : Type 0} (test : X → Bool) (o : Option X) → option_map_or test o false ≡ true → (x : X) × (o ≡ Some x) × (test x ≡ true)
map-or-there test None is = absurd (true≢false (sym is))
map-or-there test (Some x) is = (x, refl, is)

is-there : {X : Type 0} (o : Option X) → is_some o ≡ true → (x : X) × (o ≡ Some x)
is-there None is = absurd (true≢false (sym is))
is-there (Some x) is = (x, refl)

anon-is : (k : PageKind) → IsAnon k → k ≡ kinds.Anon
anon-is kinds.Anon is = refl
anon-is (kinds.File file fill) is = absurd is

anon-there : (o : Option PageKind) → IsSomeAnd o IsAnon → o ≡ Some kinds.Anon
anon-there None is = absurd is
anon-there (Some k) is = ap Some (anon-is k is)

-- ---- the fork

module _ (script : Script) (report : Report) (valid : IsValid script) (cpu : Cpu) (slot : VSlot) where
  from-shared : (fork : ℕ) (thread : Thread) (process : Proc) (v : TransDecl) → slice_get script.layout.trans slot.0 ≡ Some v → IsShared script.layout cpu.0 v.page.0 → slice_get (answered_on script report cpu) fork ≡ Some (commands.Fork thread process, answers.Done)
      → froze script.layout v.page.0 (commands.Fork thread process) ≡ true → cow_of script.layout (take fork (answered_on script report cpu)) slot ≡ own_page → IsForked script report cpu slot fork
  from-shared fork thread process v v_is shared there frozen own =
      let t = is-there (twin_of script.layout slot) (shared.twinned slot v v_is refl) in
      let fit : IsTwinFit script.layout slot t.0 = valid.twins.each slot t.0 t.1 in
      let x = some-and (slice_get script.layout.trans slot.0) (λ (a : TransDecl). IsSomeAnd (slice_get script.layout.trans t.0.0) (λ (b : TransDecl).
      (a.process ≡ b.process) × (a.page.0 ≢ b.page.0) × IsSomeAnd (slice_get script.layout.pages a.page.0) IsAnon × IsSomeAnd (slice_get script.layout.pages b.page.0) IsAnon)) fit.paired in
      let y = some-and (slice_get script.layout.trans t.0.0) (λ (b : TransDecl).
      (x.0.process ≡ b.process) × (x.0.page.0 ≢ b.page.0) × IsSomeAnd (slice_get script.layout.pages x.0.page.0) IsAnon × IsSomeAnd (slice_get script.layout.pages b.page.0) IsAnon) x.2 in
      let same : x.0 ≡ v = same_Some x.0 v (sym x.1 ∙ v_is) in
      record {
        v = v;
        v_is = v_is;
        twin = t.0;
        twin_is = t.1;
        w = y.0;
        w_is = y.1;
        v_anon = ap (λ (a : TransDecl). slice_get script.layout.pages a.page.0) (sym same) ∙ anon-there (slice_get script.layout.pages x.0.page.0) y.2.2;
        w_anon = anon-there (slice_get script.layout.pages y.0.page.0) y.2.3;
        shared = shared;
        thread = thread;
        process = process;
        fork_is = there;
        frozen = frozen;
        own = own;
      }

  at-place : (fork : ℕ) (thread : Thread) (process : Proc) → slice_get (answered_on script report cpu) fork ≡ Some (commands.Fork thread process, answers.Done) → froze_slot script.layout slot (commands.Fork thread process) ≡ true
      → cow_of script.layout (take fork (answered_on script report cpu)) slot ≡ own_page → IsForked script report cpu slot fork
  at-place fork thread process there frozen own =
      let parts = zip-parts (unwrap_or (slice_get script.lists cpu.0) []) (answers_to (unwrap_or (slice_get script.lists cpu.0) []) (unwrap_or (slice_get report.cpus cpu.0) [])) fork (commands.Fork thread process, answers.Done) there in
      let l = list-there (slice_get script.lists cpu.0) fork (commands.Fork thread process) parts.0 in
      let v = map-or-there (λ (t : TransDecl). froze script.layout t.page.0 (commands.Fork thread process)) (slice_get script.layout.trans slot.0) frozen in
      from-shared fork thread process v.0 v.1
      (fork-shares script.layout cpu.0 (take fork l.0) thread process v.0.page.0 valid.sound (valid.forks cpu.0 l.0 l.1 fork (commands.Fork thread process) l.2) v.2) there v.2 own

  pub forked : (n fork : ℕ) → freeze_from script.layout slot 0 (take n (answered_on script report cpu)) ≡ Some fork → IsForked script report cpu slot fork × (fork < n)
  forked n fork is =
      let f = freeze-found script.layout slot 0 (take n (answered_on script report cpu)) fork is in
      let same : f.place ≡ fork = omega (arith, f.number) in
      let less : f.place < n = take-within n (answered_on script report cpu) f.place f.p f.there in
      let there : slice_get (answered_on script report cpu) f.place ≡ Some (commands.Fork f.is.thread f.is.process, answers.Done) =
      get-take n (answered_on script report cpu) f.place f.p f.there ∙ ap (λ (c : Command). Some (c, f.p.1)) f.is.command_is ∙ ap (λ (a : Answer). Some (commands.Fork f.is.thread f.is.process, a)) f.is.done in
      let own : cow_of script.layout (take f.place (answered_on script report cpu)) slot ≡ own_page =
      ap (λ (l : List (Command × Answer)). fold (next script.layout slot) own_page l) (sym (take-first f.place n (answered_on script report cpu) (omega (arith, less)))) ∙ f.before in
      subst (λ (k : ℕ). IsForked script report cpu slot k × (k < n)) same (at-place f.place f.is.thread f.is.process there f.is.froze own, less)

-- behind the fork it is frozen, and not switched yet
pub frozen-next : (script : Script) (report : Report) (cpu : Cpu) (slot : VSlot) (fork : ℕ) (f : IsForked script report cpu slot fork) → cow_of script.layout (take (suc fork) (answered_on script report cpu)) slot ≡ record { frozen = true; switched = false }
frozen-next script report cpu slot fork f =
    fold-next (next script.layout slot) own_page (answered_on script report cpu) fork (commands.Fork f.thread f.process, answers.Done) f.fork_is
    ∙ ap (λ (c : Cow). next script.layout slot c (commands.Fork f.thread f.process, answers.Done)) f.own
    ∙ ap (λ (b : Bool). record { frozen = b; switched = false }) (froze-slot script.layout slot f.v (commands.Fork f.thread f.process) f.v_is ∙ f.frozen)
