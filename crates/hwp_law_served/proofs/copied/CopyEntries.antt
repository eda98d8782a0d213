-- The entries of a command that was answered, also of one that copied a page first: each is one that the command makes, or one of its copy,
-- and where a line has to name it the answer does; and beside them pages left frames that were taken out of use.
use Rattle.std.proofs.Common.{◌≡◌, ◌⊎◌, inl, inr, ℕ, Bool, true, false, List, [], ◌∷◌, ◌++◌, Option, None, Some, IsSomeAnd, IsTrue, refl, sym, ap, ◌∙◌, subst, true≢false}
use Rattle.std.proofs.lemmas.Option.{none-some}
use Rattle.hwp_law.specs.hwp_geom.declared.Layout.{Layout}
use Rattle.hwp_law.specs.hwp_geom.declared.Page.{Page}
use Rattle.hwp_law.specs.hwp_geom.declared.Thread.{Thread}
use Rattle.hwp_law.specs.hwp_geom.declared.TransDecl.{TransDecl}
use Rattle.hwp_law.specs.hwp_geom.declared.VSlot.{VSlot}
use Rattle.hwp_law.specs.hwp_geom.declared.Who.{Who}
use Rattle.hwp_law.specs.hwp_banks.Banks.{Banks}
use Rattle.hwp_law.specs.hwp_page.declared.At.{At}
use Rattle.hwp_law.specs.hwp_page.declared.Met.TheVariants.{Word}
use Rattle.hwp_law.specs.hwp_page.declared.What.{What}
use Rattle.hwp_law.specs.hwp_page.declared.What.TheVariants as entries
use Rattle.hwp_law.specs.hwp_page.Step.{IsOf}
use Rattle.hwp_plain.specs.hwp_core_rule.declared.Made.{Made}
use Rattle.hwp_plain.specs.hwp_core_rule.declared.View.{View}
use Rattle.hwp_plain.specs.hwp_core_rule.Lists.{EachMember}
use Rattle.hwp_plain.proofs.of_hwp_core_rule.Lists.{each-push}
use Rattle.hwp_plain.proofs.of_hwp_core_rule.MoreEntries.{each-append}
use Rattle.hwp_plain.specs.hwp_core_rule.Known.{IsAt, IsOnTheWay, deeds, is_failure}
use Rattle.hwp_law.specs.hwp_script_words.declared.Command.{Command}
use Rattle.hwp_law.specs.hwp_script_words.declared.Command.TheVariants as commands
use Rattle.hwp_law.specs.hwp_report_text.declared.Answer.{Answer}
use Rattle.hwp_law.specs.hwp_report_text.declared.Answer.TheVariants as answers
use Rattle.hwp_law.specs.Copies.{MakesCopy, must_be_named}
use Rattle.hwp_law.specs.Entries.{CanStandIn, Makes}
use Rattle.hwp_law.specs.Pairings.{is_soft}
use Rattle.hwp_law.specs.States.{entry_named}
use Rattle.hwp_cpu_row.specs.declared.Row.{Row}
use Rattle.hwp_cpu_row.specs.hwp_claim.declared.EventOutcome.{EventOutcome}
use Rattle.hwp_cpu_access.specs.hwp_fault.declared.Request.{Request}
use Rattle.hwp_cpu_access.specs.hwp_fault.Accesses.{IsDeclared}
use Rattle.hwp_cpu_access.specs.hwp_fault.Touches.{refusal_by}
use Rattle.hwp_cpu_access.specs.hwp_fork.Cows as cows
use Rattle.hwp_cpu_access.specs.Copyings.{load_of, store_of}
use Rattle.hwp_cpu_access.specs.Runs.{IsBetween, Run, made_by}
use Rattle.hwp_law_served.specs.Accounts.{IsAccounted}
use Rattle.hwp_law_served.specs.Causes.{IsBeside, IsCausedWith}
use Rattle.hwp_law_served.specs.Copied.{HasCopied, IsBehind, IsCopyCaused, IsCopyEnded, IsRefused, store_by, sub_next}
use Rattle.hwp_law_served.proofs.deeds.Deeds.{IsDeed, IsDone, answer-deeds, failure}
use Rattle.hwp_law_served.proofs.deeds.Needed.{IsNeeded, needed}
use Rattle.hwp_law_served.proofs.copied.RunFacts.{IsOwnAccess, IsSoOf, next-own, of-own, of-runs}

-- the entry is one that the command makes, or one of the copy that it makes first
abbrev pub MakesWith : Layout → Bool → Option VSlot → Command → Page → What → Type 0
MakesWith layout watches copied command page what = (Makes watches command what × CanStandIn layout command page what) ⊎ IsSomeAnd copied (λ (from : VSlot). MakesCopy layout from command page what)

pub record IsDeedWith (layout : Layout) (copied : Option VSlot) (command : Command) (answer : Answer) (m : Made) : Type 0 where
  pub makes : MakesWith layout false copied command m.page m.entry.what
  pub named : IsTrue (must_be_named copied m.entry.what) → entry_named answer ≡ Some (record { page = m.page; entry = m.place })

-- or a page left a frame by it that was taken out of use beside the command
abbrev pub IsDoneWith : Layout → Option VSlot → Command → Answer → Made → Type 0
IsDoneWith layout copied command answer m = IsDeedWith layout copied command answer m ⊎ IsBeside m

-- ---- of a copy

pub declared-of : (layout : Layout) (a : Request) → IsDeclared layout a → IsOf layout a.page a.slot
declared-of layout a names = subst (λ (t : Option TransDecl). IsSomeAnd t (λ (d : TransDecl). d.page ≡ a.page)) (sym names.declared) names.page_is

module _ (layout : Layout) (thread : Thread) (from to : VSlot) (line word : ℕ) (answer : Answer) where
  -- where a failure's page is needed by a thread of the command
  abbrev So : Made → Type 0
  So m = IsNeeded (commands.Store thread to line word) m.entry.what → IsDoneWith layout (Some from) (commands.Store thread to line word) answer m

  -- an entry that no line has to name
  deed : (m : Made) → MakesWith layout false (Some from) (commands.Store thread to line word) m.page m.entry.what → must_be_named (Some from) m.entry.what ≡ false → IsDoneWith layout (Some from) (commands.Store thread to line word) answer m
  deed m makes unnamed = inl (record { makes = makes; named = λ must. absurd (true≢false (sym must ∙ unnamed)) })

  -- on the way of an access through one of the two
  way : (slot : VSlot) (n : ℕ) (m : Made) → (slot ≡ from) ⊎ (slot ≡ to) → IsOf layout m.page slot → IsOnTheWay slot n m.entry.what → IsDoneWith layout (Some from) (commands.Store thread to line word) answer m
  way slot n m which_one of on = deed m (inr (makes m.entry.what on)) (unnamed m.entry.what on)
    where
      one : (other : VSlot) → other ≡ slot → (other ≡ from) ⊎ (other ≡ to)
      one other is = elim which_one [
        | inl same ↦ inl (is ∙ same)
        | inr same ↦ inr (is ∙ same)
      ]

      page : IsOf layout m.page from ⊎ IsOf layout m.page to
      page = elim which_one [
        | inl same ↦ inl (subst (λ (v : VSlot). IsOf layout m.page v) same of)
        | inr same ↦ inr (subst (λ (v : VSlot). IsOf layout m.page v) same of)
      ]

      makes : (what : What) → IsOnTheWay slot n what → MakesCopy layout from (commands.Store thread to line word) m.page what
      makes entries.FaultIn on = (tt, page)
      makes (entries.Map other) on = (one other on, subst (λ (v : VSlot). IsOf layout m.page v) (sym on) of)
      makes (entries.Mce other bad mask) on = (one other on.0, subst (λ (v : VSlot). IsOf layout m.page v) (sym on.0) of)
      makes what on = absurd on

      unnamed : (what : What) → IsOnTheWay slot n what → must_be_named (Some from) what ≡ false
      unnamed entries.FaultIn on = refl
      unnamed (entries.Map other) on = refl
      unnamed (entries.Mce other bad mask) on = refl
      unnamed what on = absurd on

  fails : (m : Made) → is_failure m.entry.what ≡ true → So m
  fails m is need = let own : IsDeed layout (commands.Store thread to line word) answer m = failure layout (commands.Store thread to line word) answer m refl need is in deed m (inl (own.makes, own.stands)) (unnamed m.entry.what is)
    where
      unnamed : (what : What) → is_failure what ≡ true → must_be_named (Some from) what ≡ false
      unnamed (entries.Fail situation required seen signals) is = refl
      unnamed what is = absurd (true≢false (sym is))

  between : (a : Request) → (a.slot ≡ from) ⊎ (a.slot ≡ to) → IsOf layout a.page a.slot → (m : Made) → IsBetween a m → So m
  between a which_one of m (inl (inl (page_is, on))) need = way a.slot a.line m which_one (subst (λ (p : Page). IsOf layout p a.slot) (sym page_is) of) on
  between a which_one of m (inl (inr failure_is)) need = fails m failure_is need
  between a which_one of m (inr soft) need = inr (ap is_soft soft)

  module _ (who : Who) (store : Request) (page : Page) (slot_is : store.slot ≡ to) (thread_is : store.thread ≡ thread) (of_to : IsOf layout store.page to) (of_from : IsOf layout page from) where
    -- one that has its word
    at-place : (what : What) (p : Page) (place : ℕ) (m : Made) → IsAt p place what m → MakesCopy layout from (commands.Store thread to line word) p what → must_be_named (Some from) what ≡ false → So m
    at-place what p place m (page_is, place_is, what_is) makes unnamed need =
        deed m (inr (subst (MakesCopy layout from (commands.Store thread to line word) m.page) (sym what_is) (subst (λ (q : Page). MakesCopy layout from (commands.Store thread to line word) q what) (sym page_is) makes)))
        (ap (must_be_named (Some from)) what_is ∙ unnamed)

    pub copy-so : IsSoOf So store page from
    copy-so = record {
      loading = λ n m is. between (load_of store page from n) (inl refl) of_from m is;
      loaded = λ n mask w place m is. at-place (entries.Load from n (Word (record { 0 = mask }) w)) page place m is ((refl, tt), of_from) refl;
      storing = λ n w m is. between (store_of store store.slot n w) (inr slot_is) (subst (λ (v : VSlot). IsOf layout store.page v) (sym slot_is) of_to) m is;
      stored = λ n mask w place m is. at-place (entries.Store store.slot n (Word (record { 0 = mask }) w)) store.page place m is ((slot_is, tt), subst (λ (v : VSlot). IsOf layout store.page v) (sym slot_is) of_to) refl;
      freed = λ m page_is what_is need. deed m (inr (subst (MakesCopy layout from (commands.Store thread to line word) m.page) (sym what_is) (refl, subst (λ (q : Page). IsOf layout q from) (sym page_is) of_from))) (ap (must_be_named (Some from)) what_is);
    }

    module _ (runs : List Run) where
      behind : (rest : List Made) → IsBehind store page (sub_next store from word runs) rest → EachMember So rest
      behind rest b i m there = of-own So store page from copy-so b.access (next-own store page from word runs b.access b.access_is) m (b.such i m there)

    -- the one that was refused
    refused : (a : Request) (at : At) (m : Made) → answer ≡ answers.Sigbus at → IsOwnAccess store page from a → at.page ≡ a.page → IsAt at.page at.entry (refusal_by a.kind a.slot a.line a.thread) m → So m
    refused a at m says own page_is is need = inl (record { makes = inr (makes own); named = λ must. ap entry_named says ∙ ap (λ (p : Page). Some (record { page = p; entry = at.entry })) (sym is.0) ∙ ap (λ (n : ℕ). Some (record { page = m.page; entry = n })) (sym is.1) })
      where
        here : (b : Request) → b ≡ a → (m.page ≡ b.page) × (m.entry.what ≡ refusal_by b.kind b.slot b.line b.thread)
        here b same = subst (λ (c : Request). (m.page ≡ c.page) × (m.entry.what ≡ refusal_by c.kind c.slot c.line c.thread)) (sym same) (is.0 ∙ page_is, is.2)

        makes : IsOwnAccess store page from a → MakesCopy layout from (commands.Store thread to line word) m.page m.entry.what
        makes (inl (n, same)) =
            let own = here (load_of store page from n) (sym same) in
            subst (MakesCopy layout from (commands.Store thread to line word) m.page) (sym own.1) ((refl, thread_is), subst (λ (q : Page). IsOf layout q from) (sym own.0) of_from)
        makes (inr (n, w, same)) =
            let own = here (store_of store store.slot n w) (sym same) in
            subst (MakesCopy layout from (commands.Store thread to line word) m.page) (sym own.1)
            ((slot_is, thread_is), subst (λ (v : VSlot). IsOf layout m.page v) (sym slot_is) (subst (λ (q : Page). IsOf layout q to) (sym own.0) of_to))

copy-rest : (layout : Layout) (view : View) (who : Who) (thread : Thread) (from to : VSlot) (line word : ℕ) (store : Request) (page : Page) (slot_is : store.slot ≡ to) (thread_is : store.thread ≡ thread) (of_to : IsOf layout store.page to) (of_from : IsOf layout page from)
    (runs : List Run) (rest : List Made) (told : List EventOutcome) (answer : Answer) → IsCopyEnded layout view store page (sub_next store from word runs) runs rest told answer → EachMember (So layout thread from to line word answer) rest
copy-rest layout view who thread from to line word store page slot_is thread_is of_to of_from runs rest told = which
  where
    none : (answer : Answer) → rest ≡ [] → EachMember (So layout thread from to line word answer) rest
    none answer is = subst (EachMember (So layout thread from to line word answer)) (sym is) (λ i m there. absurd (none-some m there))

    all : (answer : Answer) (l : List Made) → IsBehind store page (sub_next store from word runs) l → EachMember (So layout thread from to line word answer) l
    all answer l b = behind layout thread from to line word answer who store page slot_is thread_is of_to of_from runs l b

    refused-so : (at : At) → IsRefused store page (sub_next store from word runs) rest at → EachMember (So layout thread from to line word (answers.Sigbus at)) rest
    refused-so at is = subst (EachMember (So layout thread from to line word (answers.Sigbus at))) (sym is.rest_is) (each-push (So layout thread from to line word (answers.Sigbus at)) is.front is.last
        (refused layout thread from to line word (answers.Sigbus at) who store page slot_is thread_is of_to of_from is.behind.access at is.last refl (next-own store page from word runs is.behind.access is.behind.access_is) is.page_is is.refused)
        (all (answers.Sigbus at) is.front is.behind))

    which : (answer : Answer) → IsCopyEnded layout view store page (sub_next store from word runs) runs rest told answer → EachMember (So layout thread from to line word answer) rest
    which (answers.Stored at) (going, is) = none (answers.Stored at) is.rest_is
    which (answers.Sigbus at) (going, inl is) = refused-so at is
    which (answers.Sigbus at) (going, inr is) = all (answers.Sigbus at) rest is.behind
    which answers.NoFrame (going, is) = all answers.NoFrame rest is.behind
    which (answers.Gone ended) is = all (answers.Gone ended) rest is.behind
    which answers.Stopped is = elim is.behind [
      | inl b ↦ all answers.Stopped rest b
      | inr freeing ↦ none answers.Stopped freeing.rest_is
    ]
    which answers.GuestBad (going, begun, is) = none answers.GuestBad is
    which answers.GuestStopped (going, begun, is) = none answers.GuestStopped is
    which _ is = absurd is

copy-deeds : (layout : Layout) (view : View) (who : Who) (thread : Thread) (from to : VSlot) (line word : ℕ) (before : Banks) (told : List EventOutcome) (answer : Answer) → IsCopyCaused layout view who thread from to line word before told answer
    → EachMember (So layout thread from to line word answer) (deeds who view)
copy-deeds layout view who thread from to line word before told answer caused =
    let store : Request = store_by who thread to line word caused.page caused.process in
    let of_to : IsOf layout store.page to = declared-of layout store caused.has.names in
    let of_from : IsOf layout caused.has.page from = declared-of layout (load_of store caused.has.page from 0) caused.has.own in
    subst (EachMember (So layout thread from to line word answer)) (sym caused.has.all)
    (each-append (So layout thread from to line word answer) (made_by caused.has.runs) caused.has.rest
    (of-runs (So layout thread from to line word answer) layout view store caused.has.page (cows.begin from to line word) before caused.has.runs refl (copy-so layout thread from to line word answer who store caused.has.page refl refl of_to of_from) caused.has.are)
    (copy-rest layout view who thread from to line word store caused.has.page refl refl of_to of_from caused.has.runs caused.has.rest told answer caused.ended))

-- ---- of any command

plain-with : (layout : Layout) (command : Command) (answer : Answer) (m : Made) → IsDone layout command answer m → IsDoneWith layout None command answer m
plain-with layout command answer m (inl deed) = inl (record { makes = inl (deed.makes, deed.stands); named = deed.named })
plain-with layout command answer m (inr beside) = inr beside

pub deeds-with : (layout : Layout) (earlier : List (Command × Answer)) (copied : Option VSlot) (view : View) (who : Who) (command : Command) (before : Banks) (row : Row) → IsCausedWith layout earlier copied view who command before row.told row.own row.answer → IsAccounted layout earlier view who command row
    → EachMember (IsDoneWith layout copied command row.answer) (deeds who view)
deeds-with layout earlier None view who command before row caused account i m there = plain-with layout command row.answer m (answer-deeds layout earlier view who command row.told row.own row.answer (needed view who command row account) caused i m there)
deeds-with layout earlier (Some from) view who (commands.Store thread to line word) before row caused account i m there =
    copy-deeds layout view who thread from to line word before row.told row.answer caused i m there (needed view who (commands.Store thread to line word) row account i m there)
deeds-with layout earlier (Some from) view who command before row caused account i m there = absurd caused
