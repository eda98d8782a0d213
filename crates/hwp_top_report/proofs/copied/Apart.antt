-- No store copies a page to itself: a translation that a fork froze has a twin, which leads to another page.
use Rattle.std.proofs.Common.{◌≡◌, ◌≢◌, ◌&&◌, ℕ, ◌+◌, Bool, true, false, not, List, [], ◌∷◌, Option, None, Some, fold, option_and_then, option_map, slice_get, unwrap_or, if◌then◌else◌, refl, sym, ap, ◌∙◌, subst, true≢false}
use Rattle.std.specs.Prelude.{IsSomeAnd}
use Rattle.std.proofs.lemmas.Option.{none-some, same_Some}
use Rattle.hwp_law_served.specs.hwp_geom.declared.Layout.{Layout}
use Rattle.hwp_law_served.specs.hwp_geom.declared.Page.{Page}
use Rattle.hwp_law_served.specs.hwp_geom.declared.Thread.{Thread}
use Rattle.hwp_law_served.specs.hwp_geom.declared.TransDecl.{TransDecl}
use Rattle.hwp_law_served.specs.hwp_geom.declared.VSlot.{VSlot}
use Rattle.hwp_law_served.specs.hwp_geom.declared.Who.{Who}
use Rattle.hwp_law_served.specs.hwp_page.Step.{IsOf}
use Rattle.hwp_law_served.specs.hwp_report_text.declared.Answer.{Answer}
use Rattle.hwp_law_served.specs.hwp_report_text.declared.Answer.TheVariants as answers
use Rattle.hwp_law_served.specs.hwp_report_text.declared.Report.{Report}
use Rattle.hwp_law_served.specs.hwp_script_words.Valid.{IsAnon, IsTwinFit, IsValid}
use Rattle.hwp_law_served.specs.hwp_script_words.declared.Command.{Command}
use Rattle.hwp_law_served.specs.hwp_script_words.declared.Command.TheVariants as commands
use Rattle.hwp_law_served.specs.hwp_script_words.declared.Script.{Script}
use Rattle.hwp_law_served.specs.hwp_law.Commands.{command_at}
use Rattle.hwp_law_served.specs.hwp_law.Cows.{Cow, acting, copied_from, cow_after, cow_of, own_page, twin_or}
use Rattle.hwp_law_served.specs.hwp_law.Acting.{acting_script, copied_at}
use Rattle.hwp_law_served.specs.hwp_law.Policies.{answered_before}
use Rattle.hwp_law_served.specs.hwp_law.Private.{freeze_from}
use Rattle.hwp_law_served.proofs.of_hwp_law.ActedLaws.{command-acted}
use Rattle.hwp_law_served.specs.Runs.{AreApart}
use Rattle.hwp_top_report.proofs.forks.Forked.{IsForked, forked}

-- ---- what is frozen was frozen by a fork

own-stays : (layout : Layout) (slot : VSlot) (command : Command) (answer : Answer) → (cow_after layout slot command answer own_page).frozen ≡ false → cow_after layout slot command answer own_page ≡ own_page
own-stays layout slot (commands.Fork thread process) answers.Done is = ap (λ (b : Bool). record { frozen = b; switched = false }) is
own-stays layout slot (commands.Store thread other line word) (answers.Stored at) is = refl
own-stays layout slot command answer is = refl

abbrev behind : Layout → VSlot → Cow → List (Command × Answer) → Cow
behind layout slot c list = fold (λ (d : Cow) (p : Command × Answer). cow_after layout slot p.0 p.1 d) c list

frozen-next : (layout : Layout) (slot : VSlot) (n : ℕ) (p : Command × Answer) (rest : List (Command × Answer)) (b : Bool) → (cow_after layout slot p.0 p.1 own_page).frozen ≡ b → (behind layout slot own_page (p ∷ rest)).frozen ≡ true
    → ((behind layout slot own_page rest).frozen ≡ true → (fork : ℕ) × (freeze_from layout slot (n + 1) rest ≡ Some fork)) → (fork : ℕ) × (freeze_from layout slot n (p ∷ rest) ≡ Some fork)
frozen-next layout slot n p rest true e is later = (n, ap (λ (b : Bool). if b then Some n else freeze_from layout slot (n + 1) rest) e)
frozen-next layout slot n p rest false e is later =
    let g = later (sym (ap (λ (c : Cow). (behind layout slot c rest).frozen) (own-stays layout slot p.0 p.1 e)) ∙ is) in
    (g.0, ap (λ (b : Bool). if b then Some n else freeze_from layout slot (n + 1) rest) e ∙ g.1)

frozen-from : (layout : Layout) (slot : VSlot) (n : ℕ) (list : List (Command × Answer)) → (behind layout slot own_page list).frozen ≡ true → (fork : ℕ) × (freeze_from layout slot n list ≡ Some fork)
frozen-from layout slot n [] is = absurd (true≢false (sym is))
frozen-from layout slot n (p ∷ rest) is = frozen-next layout slot n p rest (cow_after layout slot p.0 p.1 own_page).frozen refl is (frozen-from layout slot (n + 1) rest)

-- ---- a store that copies

-- it is of a frozen translation
record IsCopying (layout : Layout) (earlier : List (Command × Answer)) (command : Command) (from : VSlot) : Type 0 where
  thread : Thread
  line : ℕ
  word : ℕ
  command_is : command ≡ commands.Store thread from line word
  frozen : (cow_of layout earlier from).frozen ≡ true

copying : (layout : Layout) (earlier : List (Command × Answer)) (command : Command) (from : VSlot) → copied_from layout earlier command ≡ Some from → IsCopying layout earlier command from
copying layout earlier (commands.Store thread slot line word) from is = which (cow_of layout earlier slot).frozen (cow_of layout earlier slot).switched refl is
  where
    which : (f s : Bool) → (cow_of layout earlier slot).frozen ≡ f → (if f && not s then Some slot else None) ≡ Some from → IsCopying layout earlier (commands.Store thread slot line word) from
    which true true e is = absurd (none-some from is)
    which true false e is =
        let same : slot ≡ from = same_Some slot from is in
        record { thread = thread; line = line; word = word; command_is = ap (λ (s : VSlot). commands.Store thread s line word) same; frozen = subst (λ (s : VSlot). (cow_of layout earlier s).frozen ≡ true) same e }
    which false s e is = absurd (none-some from is)
copying layout earlier command from is = absurd (none-some from is)

-- the translation that a store writes through
abbrev written : VSlot → Command → VSlot
written other (commands.Store thread slot line word) = slot
written other command = other

-- the pages of two translations that are the same one
some-page : (layout : Layout) (slot : VSlot) (v : TransDecl) (page : Page) → slice_get layout.trans slot.0 ≡ Some v → IsOf layout page slot → v.page ≡ page
some-page layout slot v page is of = subst (λ (o : Option TransDecl). IsSomeAnd o (λ (t : TransDecl). t.page ≡ page)) is of

pair-apart : (layout : Layout) (slot twin : VSlot) (v w : TransDecl) → slice_get layout.trans slot.0 ≡ Some v → slice_get layout.trans twin.0 ≡ Some w → IsTwinFit layout slot twin → v.page.0 ≢ w.page.0
pair-apart layout slot twin v w v_is w_is fit =
    let first = subst (λ (o : Option TransDecl). IsSomeAnd o (λ (a : TransDecl). IsSomeAnd (slice_get layout.trans twin.0) (λ (b : TransDecl).
    (a.process ≡ b.process) × (a.page.0 ≢ b.page.0) × IsSomeAnd (slice_get layout.pages a.page.0) IsAnon × IsSomeAnd (slice_get layout.pages b.page.0) IsAnon))) v_is fit.paired in
    let both = subst (λ (o : Option TransDecl). IsSomeAnd o (λ (b : TransDecl).
    (v.process ≡ b.process) × (v.page.0 ≢ b.page.0) × IsSomeAnd (slice_get layout.pages v.page.0) IsAnon × IsSomeAnd (slice_get layout.pages b.page.0) IsAnon)) w_is first in
    both.1

module _ (script : Script) (report : Report) (valid : IsValid script) where
  -- the script's command and what it is behind its processor's
  which-store : (who : Who) (from to : VSlot) (thread : Thread) (line word : ℕ) (page : Page) (o : Option Command) → option_and_then (copied_from script.layout (answered_before script report who)) o ≡ Some from
      → option_map (acting script.layout (answered_before script report who)) o ≡ Some (commands.Store thread to line word) → IsOf script.layout page from → IsOf script.layout page to → ⊥
  which-store who from to thread line word page None copies is here there = none-some from copies
  which-store who from to thread line word page (Some c) copies is here there =
      let earlier : List (Command × Answer) = answered_before script report who in
      let of = copying script.layout (answered_before script report who) c from copies in
      let at = frozen-from script.layout from 0 (answered_before script report who) of.frozen in
      let f : IsForked script report who.cpu from at.0 = (forked script report valid who.cpu from who.seq at.0 at.1).0 in
      let through : (if (cow_of script.layout (answered_before script report who) from).frozen then twin_or script.layout from else from) ≡ to =
      ap (λ (x : Command). written from (acting script.layout (answered_before script report who) x)) (sym of.command_is)
      ∙ ap (written from) (same_Some (acting script.layout (answered_before script report who) c) (commands.Store thread to line word) is) in
      let twin : f.twin ≡ to =
      sym (ap (λ (t : Option VSlot). unwrap_or t from) f.twin_is) ∙ sym (ap (λ (b : Bool). if b then twin_or script.layout from else from) of.frozen) ∙ through in
      let same : f.v.page ≡ f.w.page = some-page script.layout from f.v page f.v_is here ∙ sym (some-page script.layout f.twin f.w page f.w_is (subst (IsOf script.layout page) (sym twin) there)) in
      pair-apart script.layout from f.twin f.v f.w f.v_is f.w_is (valid.twins.each from f.twin f.twin_is) (ap (λ (p : Page). p.0) same)

  pub run-apart : AreApart (acting_script script report) (copied_at script report)
  run-apart who from to thread line word page copies is here there =
      which-store who from to thread line word page (command_at script who) copies (sym (command-acted script report who) ∙ is) here there
