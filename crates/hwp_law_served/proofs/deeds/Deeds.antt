-- The entries of a command that was answered are of its kind, each in a page where it can stand, and the one that answers it is named; and
-- beside them pages left frames that were taken out of use.
use Rattle.std.proofs.Common.{◌≡◌, ◌⊎◌, inl, inr, ℕ, Bool, true, false, List, [], ◌∷◌, ◌++◌, Option, None, Some, IsSomeAnd, IsTrue, refl, sym, ap, ◌∙◌, subst, true≢false}
use Rattle.std.proofs.lemmas.Option.{none-some}
use Rattle.hwp_law.specs.hwp_geom.declared.Frame.{Frame}
use Rattle.hwp_law.specs.hwp_geom.declared.Layout.{Layout}
use Rattle.hwp_law.specs.hwp_geom.declared.Page.{Page}
use Rattle.hwp_law.specs.hwp_geom.declared.VSlot.{VSlot}
use Rattle.hwp_law.specs.hwp_geom.declared.Who.{Who}
use Rattle.hwp_law.specs.hwp_page.declared.At.{At}
use Rattle.hwp_law.specs.hwp_page.declared.Outcome.{Outcome}
use Rattle.hwp_law.specs.hwp_page.declared.What.{What}
use Rattle.hwp_law.specs.hwp_page.declared.What.TheVariants as entries
use Rattle.hwp_law.specs.hwp_page.Step.{IsOf}
use Rattle.hwp_plain.specs.hwp_core_rule.declared.Made.{Made}
use Rattle.hwp_plain.specs.hwp_core_rule.declared.View.{View}
use Rattle.hwp_plain.specs.hwp_core_rule.Lists.{EachMember}
use Rattle.hwp_plain.proofs.of_hwp_core_rule.Lists.{at_longer, each-push}
use Rattle.hwp_plain.specs.hwp_core_rule.Known.{HasMade, HasMadeNone, HasOnly, IsAt, IsOnTheWay, deeds, is_failure}
use Rattle.hwp_law.specs.hwp_script_words.declared.Command.{Command}
use Rattle.hwp_law.specs.hwp_script_words.declared.Command.TheVariants as commands
use Rattle.hwp_law.specs.hwp_report_text.declared.Answer.{Answer}
use Rattle.hwp_law.specs.hwp_report_text.declared.Answer.TheVariants as answers
use Rattle.hwp_law.specs.Answers.{is_answering}
use Rattle.hwp_law.specs.Commands.{Access, access_of, can_fail}
use Rattle.hwp_law.specs.Entries.{CanStandIn, IsAccessAt, Makes}
use Rattle.hwp_law.specs.History.{Fits, Names}
use Rattle.hwp_law.specs.States.{entry_named}
use Rattle.hwp_cpu_row.specs.declared.FrameChange.{FrameChange}
use Rattle.hwp_cpu_row.specs.declared.Row.{Row}
use Rattle.hwp_cpu_row.specs.hwp_claim.declared.EventOutcome.{EventOutcome}
use Rattle.hwp_law_served.specs.Accounts.{IsAccounted}
use Rattle.hwp_law_served.specs.Causes.{HasCome, HasOnlyMet, IsAnswerCaused, IsBefore, IsBeside, IsMet, IsSoftCaused, IsTableCaused, WasSignalled}
use Rattle.hwp_law_served.proofs.deeds.Needed.{IsNeeded, needed}

-- ---- what a command makes by itself

-- no machine check, no failure and no soft offline
abbrev is_plain : What → Bool
is_plain (entries.Mce slot line mask) = false
is_plain (entries.Fail situation required seen signals) = false
is_plain entries.Soft = false
is_plain what = true

fits-plain : (command : Command) (what : What) → is_plain what ≡ false → Fits command what → ⊥
fits-plain command (entries.Load slot line met) is fits = absurd (true≢false is)
fits-plain command (entries.Store slot line met) is fits = absurd (true≢false is)
fits-plain command entries.FaultIn is fits = absurd (true≢false is)
fits-plain command (entries.Map slot) is fits = absurd (true≢false is)
fits-plain command (entries.Free slot) is fits = absurd (true≢false is)
fits-plain command entries.Drop is fits = absurd (true≢false is)
fits-plain command entries.Sync is fits = absurd (true≢false is)
fits-plain command entries.Out is fits = absurd (true≢false is)
fits-plain (commands.Free slot) what is fits = fits
fits-plain command what is fits = fits

makes-so : (command : Command) (what : What) → Fits command what → Makes false command what
makes-so command (entries.Mce slot line mask) fits = absurd (fits-plain command (entries.Mce slot line mask) refl fits)
makes-so command (entries.Fail situation required seen signals) fits = absurd (fits-plain command (entries.Fail situation required seen signals) refl fits)
makes-so command entries.Soft fits = absurd (fits-plain command entries.Soft refl fits)
makes-so command what fits = fits

stands-so : (layout : Layout) (command : Command) (page : Page) (what : What) → Names layout command page → CanStandIn layout command page what
stands-so layout command page (entries.Fail situation required seen signals) names = tt
stands-so layout command page entries.Soft names = tt
stands-so layout command page what names = names

-- ---- one entry

-- the entry is of the command's kind and in a page where it can stand, and where it answers the command the answer names it
pub record IsDeed (layout : Layout) (command : Command) (answer : Answer) (m : Made) : Type 0 where
  pub makes : Makes false command m.entry.what
  pub stands : CanStandIn layout command m.page m.entry.what
  pub named : IsTrue (is_answering m.entry.what) → entry_named answer ≡ Some (record { page = m.page; entry = m.place })

-- or a page left a frame by it that was taken out of use beside the command
abbrev pub IsDone : Layout → Command → Answer → Made → Type 0
IsDone layout command answer m = IsDeed layout command answer m ⊎ IsBeside m

-- the entry that answers a command
answered : (layout : Layout) (command : Command) (answer : Answer) (page : Page) (place : ℕ) (what : What) (m : Made) → Makes false command what → CanStandIn layout command page what → entry_named answer ≡ Some (record { page = page; entry = place }) → IsAt page place what m
    → IsDeed layout command answer m
answered layout command answer page place what m makes stands named (page_is, place_is, what_is) = record {
  makes = subst (Makes false command) (sym what_is) makes;
  stands = subst (CanStandIn layout command m.page) (sym what_is) (subst (λ (p : Page). CanStandIn layout command p what) (sym page_is) stands);
  named = λ answers. named ∙ ap (λ (p : Page). Some (record { page = p; entry = place })) (sym page_is) ∙ ap (λ (n : ℕ). Some (record { page = m.page; entry = n })) (sym place_is);
}

module _ (layout : Layout) (command : Command) (answer : Answer) (m : Made) where
  -- a failure
  pub failure : can_fail command ≡ true → IsNeeded command m.entry.what → is_failure m.entry.what ≡ true → IsDeed layout command answer m
  failure can need fails = record { makes = makes m.entry.what need fails; stands = stands m.entry.what fails; named = λ answers. absurd (true≢false (sym answers ∙ unanswering m.entry.what fails)) }
    where
      makes : (what : What) → IsNeeded command what → is_failure what ≡ true → Makes false command what
      makes (entries.Fail situation required seen signals) need fails = (can, need)
      makes what need fails = absurd (true≢false (sym fails))

      stands : (what : What) → is_failure what ≡ true → CanStandIn layout command m.page what
      stands (entries.Fail situation required seen signals) fails = tt
      stands what fails = absurd (true≢false (sym fails))

      unanswering : (what : What) → is_failure what ≡ true → is_answering what ≡ false
      unanswering (entries.Fail situation required seen signals) fails = refl
      unanswering what fails = absurd (true≢false (sym fails))

  -- an entry that an access made on its way
  way : (slot : VSlot) (line : ℕ) → Fits command entries.FaultIn → Fits command (entries.Map slot) → IsSomeAnd (access_of command) (IsAccessAt slot line) → Names layout command m.page → IsOnTheWay slot line m.entry.what → IsDeed layout command answer m
  way slot line fault map here names on = record {
    makes = makes m.entry.what on;
    stands = stands-so layout command m.page m.entry.what names;
    named = λ answers. absurd (true≢false (sym answers ∙ unanswering m.entry.what on));
  }
    where
      makes : (what : What) → IsOnTheWay slot line what → Makes false command what
      makes entries.FaultIn on = makes-so command entries.FaultIn fault
      makes (entries.Map other) on = makes-so command (entries.Map other) (subst (λ (s : VSlot). Fits command (entries.Map s)) (sym on) map)
      makes (entries.Mce other bad mask) on =
          subst (λ (n : ℕ). IsSomeAnd (access_of command) (IsAccessAt other n)) (sym on.1) (subst (λ (s : VSlot). IsSomeAnd (access_of command) (IsAccessAt s line)) (sym on.0) here)
      makes what on = absurd on

      unanswering : (what : What) → IsOnTheWay slot line what → is_answering what ≡ false
      unanswering entries.FaultIn on = refl
      unanswering (entries.Map other) on = refl
      unanswering (entries.Mce other bad mask) on = refl
      unanswering what on = absurd on

-- an entry that answers no command
met : (layout : Layout) (command : Command) (answer : Answer) (m : Made) → IsNeeded command m.entry.what → IsMet layout command m → IsDone layout command answer m
met layout command answer m need (inr (inl fails)) = inl (failure layout command answer m fails.0 need fails.1)
met layout command answer m need (inr (inr beside)) = inr beside
met layout (commands.Load thread slot line) answer m need (inl is) = inl (way layout _ answer m slot line tt refl (refl, refl) is.0 is.1)
met layout (commands.Fetch thread slot line) answer m need (inl is) = inl (way layout _ answer m slot line tt refl (refl, refl) is.0 is.1)
met layout (commands.KLoad thread slot line) answer m need (inl is) = inl (way layout _ answer m slot line tt refl (refl, refl) is.0 is.1)
met layout (commands.Store thread slot line word) answer m need (inl is) = inl (way layout _ answer m slot line tt refl (refl, refl) is.0 is.1)
met layout command answer m need (inl is) = absurd is

-- what an access through the translation at the line meets, or a failure, or what stands beside
abbrev IsMetAt : Layout → VSlot → ℕ → Made → Type 0
IsMetAt layout slot line m = (IsOf layout m.page slot × IsOnTheWay slot line m.entry.what) ⊎ (((true ≡ true) × (is_failure m.entry.what ≡ true)) ⊎ IsBeside m)

preceding : (layout : Layout) (page : Page) (slot : VSlot) (line : ℕ) (m : Made) → IsOf layout page slot → IsBefore page slot line m → IsMetAt layout slot line m
preceding layout page slot line m of (inl (inl (page_is, way))) = inl (subst (λ (p : Page). IsOf layout p slot) (sym page_is) of, way)
preceding layout page slot line m of (inl (inr fails)) = inr (inl (refl, fails))
preceding layout page slot line m of (inr beside) = inr (inr beside)

module _ (view : View) (who : Who) (P : Made → Type 0) where
  none : HasMadeNone view who → EachMember P (deeds who view)
  none made = subst (EachMember P) (sym made) (λ i m there. absurd (none-some m there))

  made-so : {Such Other : Made → Type 0} {page : Page} {place : ℕ} {what : What} → HasMade Such view who page place what → EachMember Other (deeds who view) → ((m : Made) → Other m → Such m → P m) → ((m : Made) → IsAt page place what m → P m)
      → EachMember P (deeds who view)
  made-so {Such} {Other} made others first last =
      let all : EachMember Other (made.before ++ made.last ∷ []) = subst (EachMember Other) made.all others in
      subst (EachMember P) (sym made.all) (each-push P made.before made.last (last made.last made.at)
      (λ i m there. first m (all i m (at_longer made.before (made.last ∷ []) i m there)) (made.such i m there)))

-- ---- the commands

module _ (layout : Layout) (earlier : List (Command × Answer)) (view : View) (who : Who) where
  abbrev Are : Command → Answer → Type 0
  Are command answer = EachMember (IsDone layout command answer) (deeds who view)

  module _ (command : Command) (need : EachMember (λ (m : Made). IsNeeded command m.entry.what) (deeds who view)) where
    -- an access that came to its entry
    reached : (answer : Answer) (slot : VSlot) (line : ℕ) (at : At) (what : What) → ((m : Made) → IsMetAt layout slot line m → IsMet layout command m) → Makes false command what → ((page : Page) → IsOf layout page slot → CanStandIn layout command page what) → entry_named answer ≡ Some at
        → IsOf layout at.page slot → HasMade (IsBefore at.page slot line) view who at.page at.entry what → Are command answer
    reached answer slot line at what same makes stands named page made =
        made-so view who (IsDone layout command answer) made need (λ m needed in_. met layout command answer m needed (same m (preceding layout at.page slot line m page in_)))
        (λ m is. inl (answered layout command answer at.page at.entry what m makes (stands at.page page) named is))

    -- an access that came to none
    brings : (answer : Answer) (slot : VSlot) (line : ℕ) (page : Page) → ((m : Made) → IsMetAt layout slot line m → IsMet layout command m) → IsOf layout page slot → HasOnly (IsBefore page slot line) view who → Are command answer
    brings answer slot line page same of only i m there = met layout command answer m (need i m there) (same m (preceding layout page slot line m of (only i m there)))

    -- a command that came to no entry of its own
    only-met : (answer : Answer) → HasOnlyMet layout view who command → Are command answer
    only-met answer only i m there = met layout command answer m (need i m there) (only i m there)

    -- a command that made its entry alone
    one : (answer : Answer) (at : At) (what : What) → Makes false command what → CanStandIn layout command at.page what → entry_named answer ≡ Some at → HasMade (λ m. ⊥) view who at.page at.entry what → Are command answer
    one answer at what makes stands named made = made-so view who (IsDone layout command answer) {Other = λ m. Unit {0}} made (λ i m there. tt) (λ m other no_. absurd no_) (λ m is. inl (answered layout command answer at.page at.entry what m makes stands named is))

  table-deeds : (command : Command) (answer : Answer) → EachMember (λ (m : Made). IsNeeded command m.entry.what) (deeds who view) → IsTableCaused layout earlier view who command answer → Are command answer
  table-deeds (commands.Load thread slot line) (answers.Value word at) need caused = reached _ need _ slot line at _ (λ m x. x) (refl, refl, tt) (λ page is. is) refl caused.1.page caused.1.made
  table-deeds (commands.Load thread slot line) (answers.Sigbus at) need caused = reached _ need _ slot line at _ (λ m x. x) (refl, refl, refl) (λ page is. is) refl caused.page caused.made
  table-deeds (commands.Load thread slot line) answers.NoFrame need caused = brings _ need _ slot line caused.page (λ m x. x) caused.page_is caused.only
  table-deeds (commands.Load thread slot line) (answers.Gone page) need caused = brings _ need _ slot line caused.1.page (λ m x. x) caused.1.page_is caused.1.only
  table-deeds (commands.Fetch thread slot line) (answers.Value word at) need caused = reached _ need _ slot line at _ (λ m x. x) (refl, refl, tt) (λ page is. is) refl caused.1.page caused.1.made
  table-deeds (commands.Fetch thread slot line) (answers.Sigbus at) need caused = reached _ need _ slot line at _ (λ m x. x) (refl, refl, refl) (λ page is. is) refl caused.page caused.made
  table-deeds (commands.Fetch thread slot line) answers.NoFrame need caused = brings _ need _ slot line caused.page (λ m x. x) caused.page_is caused.only
  table-deeds (commands.Fetch thread slot line) (answers.Gone page) need caused = brings _ need _ slot line caused.1.page (λ m x. x) caused.1.page_is caused.1.only
  table-deeds (commands.KLoad thread slot line) (answers.Value word at) need caused = reached _ need _ slot line at _ (λ m x. x) (refl, refl, tt) (λ page is. is) refl caused.1.page caused.1.made
  table-deeds (commands.KLoad thread slot line) (answers.Sigbus at) need caused = reached _ need _ slot line at _ (λ m x. x) (refl, refl, refl) (λ page is. is) refl caused.page caused.made
  table-deeds (commands.KLoad thread slot line) answers.NoFrame need caused = brings _ need _ slot line caused.page (λ m x. x) caused.page_is caused.only
  table-deeds (commands.KLoad thread slot line) (answers.Gone page) need caused = brings _ need _ slot line caused.1.page (λ m x. x) caused.1.page_is caused.1.only
  table-deeds (commands.Store thread slot line word) (answers.Stored at) need caused = reached _ need _ slot line at _ (λ m x. x) (refl, refl, tt, refl) (λ page is. is) refl caused.1.page caused.1.made
  table-deeds (commands.Store thread slot line word) (answers.Sigbus at) need caused = reached _ need _ slot line at _ (λ m x. x) (refl, refl, refl, tt) (λ page is. is) refl caused.page caused.made
  table-deeds (commands.Store thread slot line word) answers.NoFrame need caused = brings _ need _ slot line caused.page (λ m x. x) caused.page_is caused.only
  table-deeds (commands.Store thread slot line word) (answers.Gone page) need caused = brings _ need _ slot line caused.1.page (λ m x. x) caused.1.page_is caused.1.only
  table-deeds (commands.Free slot) (answers.DoneAt at) need caused = one _ need _ at _ refl caused.0 refl caused.1.made
  table-deeds (commands.Free slot) (answers.NotMapped at) need caused = none view who _ caused.1.made
  table-deeds (commands.Drop page) (answers.DoneAt at) need caused = one _ need _ at _ tt caused.0 refl caused.1.made
  table-deeds (commands.Drop page) (answers.NotResident at) need caused = none view who _ caused.1.made
  table-deeds (commands.Drop page) (answers.Locked at) need caused = none view who _ caused.1.made
  table-deeds (commands.Drop page) (answers.Dirty at) need caused = none view who _ caused.1.made
  table-deeds (commands.Drop page) (answers.Mapped at) need caused = none view who _ caused.1.made
  table-deeds (commands.Sync page) (answers.DoneAt at) need caused = one _ need _ at _ tt caused.0 refl caused.1.made
  table-deeds (commands.Sync page) (answers.NotResident at) need caused = none view who _ caused.1.made
  table-deeds (commands.Sync page) (answers.BadLines mask at) need caused = none view who _ caused.1.made
  table-deeds (commands.Out page) (answers.DoneAt at) need caused = one _ need _ at _ tt caused.0 refl caused.1.made
  table-deeds (commands.Out page) (answers.NotResident at) need caused = none view who _ caused.1.made
  table-deeds (commands.Out page) (answers.Locked at) need caused = none view who _ caused.1.made
  table-deeds (commands.Out page) (answers.BadLines mask at) need caused = none view who _ caused.1.made
  table-deeds (commands.Fsync file) answers.Done need caused = none view who _ caused
  table-deeds (commands.Fsync file) (answers.Eio more) need caused = none view who _ caused.0
  table-deeds (commands.Open file) (answers.Opened word) need caused = none view who _ caused
  table-deeds (commands.Prctl thread args) (answers.Gone page) need caused = none view who _ caused.1
  table-deeds (commands.Prctl thread args) answer need caused = none view who _ caused.made
  table-deeds (commands.Fork thread process) answers.Done need caused = none view who _ caused.1
  table-deeds (commands.Fork thread process) (answers.Gone page) need caused = none view who _ caused.1
  table-deeds (commands.Log status addr misc) answers.Done need caused = none view who _ caused
  table-deeds (commands.Watch threshold window) answers.Done need caused = none view who _ caused
  table-deeds (commands.Bad frame line) answers.Done need caused = none view who _ caused.made
  table-deeds (commands.Weak frame line) answers.Done need caused = none view who _ caused.made
  table-deeds command answer need caused = absurd caused

  -- a failure that the command brought about
  come : (frame : Frame) (own : Option FrameChange) (answer : Answer) (outcome : Outcome) → EachMember (λ (m : Made). IsNeeded (commands.Inject frame) m.entry.what) (deeds who view) → HasCome layout view who frame own outcome → Are (commands.Inject frame) answer
  come frame own answer outcome need has i m there = inl (failure layout (commands.Inject frame) answer m refl (need i m there) (has.failed.only i m there))

  -- a soft offline
  offline : (frame : Frame) (own : Option FrameChange) (answer : Answer) → EachMember (λ (m : Made). IsNeeded (commands.Soft frame) m.entry.what) (deeds who view) → IsSoftCaused layout view who frame own answer → Are (commands.Soft frame) answer
  offline frame own answers.Kernel need caused = none view who _ caused.1
  offline frame own (answers.Moved other at) need caused = one (commands.Soft frame) need _ at entries.Soft tt tt refl caused.1.made.made
  offline frame own answers.TakenFree need caused = none view who _ caused.1.made
  offline frame own answers.Already need caused = none view who _ caused.1.0.made
  offline frame own (answers.HasBad mask) need caused = none view who _ caused.1.0.made
  offline frame own answers.NoFrame need caused = none view who _ caused.1.0
  offline frame own answer need caused = absurd caused.1

  -- a failure of its machine checks
  signalled : (command : Command) (told : List EventOutcome) (at : At) (answer : Answer) (o : Option Access) → EachMember (λ (m : Made). IsNeeded command m.entry.what) (deeds who view) → IsSomeAnd o (λ (a : Access). WasSignalled layout view who command a.thread told at) → Are command answer
  signalled command told at answer None need was = absurd was
  signalled command told at answer (Some a) need was = only-met command need answer was.only

  either : (command : Command) (told : List EventOutcome) (at : At) → EachMember (λ (m : Made). IsNeeded command m.entry.what) (deeds who view)
      → IsTableCaused layout earlier view who command (answers.Sigbus at) ⊎ IsSomeAnd (access_of command) (λ (a : Access). WasSignalled layout view who command a.thread told at) → Are command (answers.Sigbus at)
  either command told at need (inl caused) = table-deeds command (answers.Sigbus at) need caused
  either command told at need (inr was) = signalled command told at (answers.Sigbus at) (access_of command) need was

  pub answer-deeds : (command : Command) (told : List EventOutcome) (own : Option FrameChange) (answer : Answer) → EachMember (λ (m : Made). IsNeeded command m.entry.what) (deeds who view) → IsAnswerCaused layout earlier view who command told own answer → Are command answer
  answer-deeds command told own answers.Stopped need caused = only-met command need _ caused.only
  answer-deeds (commands.RaiseUser thread ripv eipv) told own (answers.Raised n) need caused = only-met _ need _ caused.1.only
  answer-deeds (commands.RaiseUser thread ripv eipv) told own (answers.Gone page) need caused = none view who _ caused.1
  answer-deeds (commands.RaiseKernel ripv eipv) told own (answers.Raised n) need caused = only-met _ need _ caused.only
  answer-deeds (commands.Scrub first last) told own (answers.Scrubbed n) need caused = only-met _ need _ caused.only
  answer-deeds (commands.Inject frame) told own answers.Recovered need caused = come frame own _ _ need caused.1
  answer-deeds (commands.Inject frame) told own answers.Delayed need caused = come frame own _ _ need caused.1
  answer-deeds (commands.Inject frame) told own answers.Ignored need caused = come frame own _ _ need caused.1
  answer-deeds (commands.Inject frame) told own answers.Already need caused = none view who _ caused.1.0.made
  answer-deeds (commands.Inject frame) told own answer need caused = absurd caused.1
  answer-deeds (commands.Soft frame) told own answer need caused = offline frame own answer need caused
  answer-deeds (commands.Unpoison frame) told own answer need caused = none view who _ caused.0
  answer-deeds command told own (answers.Sigbus at) need caused = either command told at need caused
  answer-deeds command told own answers.GuestBad need caused = none view who _ caused.0
  answer-deeds command told own answers.GuestStopped need caused = none view who _ caused.0
  answer-deeds command told own answer need caused = table-deeds command answer need caused

  pub are-deeds : (command : Command) (row : Row) → IsAnswerCaused layout earlier view who command row.told row.own row.answer → IsAccounted layout earlier view who command row → Are command row.answer
  are-deeds command row caused account = answer-deeds command row.told row.own row.answer (needed view who command row account) caused
