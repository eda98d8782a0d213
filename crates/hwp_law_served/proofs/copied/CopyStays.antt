-- What a processor knows of an earlier store that copied a page stays true over each step of a later command.
use Rattle.std.proofs.Common.{◌≡◌, ◌≢◌, ◌⊎◌, inl, inr, ℕ, List, [], ◌∷◌, ◌++◌, Option, None, Some, refl, sym, ap, ◌∙◌}
use Rattle.hwp_law.specs.hwp_geom.declared.Layout.{Layout}
use Rattle.hwp_law.specs.hwp_geom.declared.Mode.TheVariants as modes
use Rattle.hwp_law.specs.hwp_geom.declared.Page.{Page}
use Rattle.hwp_law.specs.hwp_geom.declared.Thread.{Thread}
use Rattle.hwp_law.specs.hwp_geom.declared.VSlot.{VSlot}
use Rattle.hwp_law.specs.hwp_geom.declared.Who.{Who}
use Rattle.hwp_law.specs.hwp_page.History.{BodyValue}
use Rattle.hwp_law.specs.hwp_banks.declared.Origin.TheVariants as origins
use Rattle.hwp_law.specs.hwp_banks.Banks.{Banks}
use Rattle.hwp_plain.specs.hwp_core_rule.declared.Made.{Made}
use Rattle.hwp_plain.specs.hwp_core_rule.declared.Step.{Step}
use Rattle.hwp_plain.specs.hwp_core_rule.declared.View.{View}
use Rattle.hwp_plain.specs.hwp_core_rule.Lists.{SomeMember}
use Rattle.hwp_plain.specs.hwp_core_rule.Calls.{CanMake, Steps, logs}
use Rattle.hwp_plain.specs.hwp_core_rule.Known.{SawStop}
use Rattle.hwp_plain.proofs.of_hwp_core_rule.tasks.SightKeeps.{saw-state-stays, saw-stays}
use Rattle.hwp_law.specs.hwp_report_text.declared.Answer.{Answer}
use Rattle.hwp_law.specs.hwp_report_text.declared.Answer.TheVariants as answers
use Rattle.hwp_cpu_row.specs.hwp_claim.declared.EventOutcome.{EventOutcome}
use Rattle.hwp_cpu_row.specs.hwp_claim.Checks.{AreChecks, Check, left_by}
use Rattle.hwp_cpu_access.specs.hwp_fault.declared.Request.{Request}
use Rattle.hwp_cpu_access.specs.hwp_fork.declared.cow.Cow.{Cow}
use Rattle.hwp_cpu_access.specs.hwp_fork.declared.cow.Sub.{Sub}
use Rattle.hwp_cpu_access.specs.hwp_fork.declared.cow.Sub.TheVariants as subs
use Rattle.hwp_cpu_access.specs.hwp_fork.Cows as cows
use Rattle.hwp_cpu_access.specs.Copyings.{load_of, request_by, store_of}
use Rattle.hwp_cpu_access.specs.Runs.{AreRuns, IsAccessRun, IsRun, Run}
use Rattle.hwp_law_served.specs.Copied.{AreChecksOf, FoundEnded, FoundNone, HasCopied, IsBehind, IsCopyCaused, IsCopyEnded, IsCopyTold, IsGoing, IsStoppedFreeing, WasStopped, store_by}
use Rattle.hwp_law_served.proofs.CheckTells.{checks-stay, deeds-stay}

module _ {layout : Layout} {by : Who} {step : Step} {body : Option BodyValue} {old new : View} {found : ℕ} {got : Option BodyValue} (can : CanMake layout by step body old) (made : Steps layout by step (logs body) old new found got)
    (store : Request) (other : store.who ≢ by) where
  access-stays : (line : ℕ) (banks : Banks) (checks : List Check) → AreChecks layout old store.who store.thread line origins.Access modes.User banks checks → AreChecks layout new store.who store.thread line origins.Access modes.User banks checks
  access-stays line banks checks = checks-stay can made store.who other store.thread line origins.Access modes.User banks checks

  run-stays : (page : Page) (banks : Banks) (r : Run) (sub : Sub) → IsRun layout old store page banks r sub → IsRun layout new store page banks r sub
  run-stays page banks r (subs.Load slot line) is = record { before = is.before; last = is.last; made_is = is.made_is; such = is.such; mask = is.mask; good = is.good; page_is = is.page_is; answers = is.answers; checked = access-stays line banks r.checks is.checked; counted = is.counted }
  run-stays page banks r (subs.Store slot line word) is = record { before = is.before; last = is.last; made_is = is.made_is; such = is.such; mask = is.mask; good = is.good; page_is = is.page_is; answers = is.answers; checked = access-stays line banks r.checks is.checked; counted = is.counted }
  run-stays page banks r (subs.Free slot) is = record { made_is = is.made_is; unused = λ none. saw-state-stays made (is.unused none); unchecked = is.unchecked }
  run-stays page banks r subs.Switched is = is

  runs-stay : (page : Page) (cow : Cow) (banks : Banks) (runs : List Run) → AreRuns layout old store page cow banks runs → AreRuns layout new store page cow banks runs
  runs-stay page cow banks [] are = tt
  runs-stay page cow banks (r ∷ rs) are = (run-stays page banks r (cows.sub_of cow) are.0, runs-stay page (cows.told_by cow r.word) (left_by banks r.checks) rs are.1)

  abbrev has-stays : (from : VSlot) (word : ℕ) (before : Banks) (has : HasCopied layout old store from word before) → HasCopied layout new store from word before
  has-stays from word before has = record {
    names = has.names;
    page = has.page;
    own = has.own;
    runs = has.runs;
    are = runs-stay has.page (cows.begin from store.slot store.line word) before has.runs has.are;
    lets = has.lets;
    rest = has.rest;
    all = deeds-stay can made store.who other ∙ has.all;
  }

  going-stays : IsGoing layout old store → IsGoing layout new store
  going-stays going = record { process_is = going.process_is; saw = saw-stays made going.saw }

  module _ (stops : (P : Who → Type 0) → SomeMember P old.stops → SomeMember P new.stops) (page : Page) (sub : Sub) (runs : List Run) (rest : List Made) (told : List EventOutcome) where
    stopped-stays : WasStopped old store page sub rest → WasStopped new store page sub rest
    stopped-stays was = record { stopped = which was.stopped; behind = freeing was.behind }
      where
        saw-stop : SawStop old store.who → SawStop new store.who
        saw-stop saw = record { word = saw.word; stopped = saw.stopped; saw = saw-stays made saw.saw }

        freeing : IsBehind store page sub rest ⊎ IsStoppedFreeing old store sub rest → IsBehind store page sub rest ⊎ IsStoppedFreeing new store sub rest
        freeing (inl b) = inl b
        freeing (inr f) = inr (record { slot = f.slot; sub_is = f.sub_is; rest_is = f.rest_is; saw = saw-stop f.saw })

        which : SawStop old store.who ⊎ SomeMember (λ (w : Who). w ≡ store.who) old.stops → SawStop new store.who ⊎ SomeMember (λ (w : Who). w ≡ store.who) new.stops
        which (inl saw) = inl (saw-stop saw)
        which (inr own) = inr (stops (λ (w : Who). w ≡ store.who) own)

    ended-stays : (answer : Answer) → IsCopyEnded layout old store page sub runs rest told answer → IsCopyEnded layout new store page sub runs rest told answer
    ended-stays (answers.Stored at) (going, is) = (going-stays going, is)
    ended-stays (answers.Sigbus at) (going, is) = (going-stays going, is)
    ended-stays answers.NoFrame (going, is) = (going-stays going, record { available = saw-stays made is.available; behind = is.behind; place = is.place; away = saw-state-stays made is.away })
    ended-stays (answers.Gone ended) is = record { process_is = is.process_is; saw = saw-stays made is.saw; behind = is.behind }
    ended-stays answers.Stopped is = stopped-stays is
    ended-stays answers.GuestBad (going, begun, is) = (going-stays going, begun, is)
    ended-stays answers.GuestStopped (going, begun, is) = (going-stays going, begun, is)
    ended-stays _ is = absurd is

module _ {layout : Layout} {by : Who} {step : Step} {body : Option BodyValue} {old new : View} {found : ℕ} {got : Option BodyValue} (can : CanMake layout by step body old) (made : Steps layout by step (logs body) old new found got)
    (who : Who) (other : who ≢ by) where
  pub copy-caused-stays : ((P : Who → Type 0) → SomeMember P old.stops → SomeMember P new.stops) → (thread : Thread) (from to : VSlot) (line word : ℕ) (before : Banks) (told : List EventOutcome) (answer : Answer)
      → IsCopyCaused layout old who thread from to line word before told answer → IsCopyCaused layout new who thread from to line word before told answer
  copy-caused-stays stops thread from to line word before told answer caused = record {
    page = caused.page;
    process = caused.process;
    has = has-stays can made (store_by who thread to line word caused.page caused.process) other from word before caused.has;
    ended = ended-stays can made (store_by who thread to line word caused.page caused.process) other stops _ _ _ _ told answer caused.ended;
  }

  checks-of-stay : (store : Request) → store.who ≡ who → (page : Page) (sub : Sub) (banks : Banks) (checks : List Check) → AreChecksOf layout old (request_by store page sub) banks checks → AreChecksOf layout new (request_by store page sub) banks checks
  checks-of-stay store own page (subs.Load slot line) banks checks are = access-stays can made store (λ is. other (sym own ∙ is)) line banks checks are
  checks-of-stay store own page (subs.Store slot line word) banks checks are = access-stays can made store (λ is. other (sym own ∙ is)) line banks checks are
  checks-of-stay store own page (subs.Free slot) banks checks are = are
  checks-of-stay store own page subs.Switched banks checks are = are

  pub copy-told-stays : (thread : Thread) (from to : VSlot) (line word : ℕ) (before : Banks) (told : List EventOutcome) (after : Banks) → IsCopyTold layout old who thread from to line word before told after → IsCopyTold layout new who thread from to line word before told after
  copy-told-stays thread from to line word before told after is = record {
    page = is.page;
    process = is.process;
    has = has-stays can made (store_by who thread to line word is.page is.process) other from word before is.has;
    last = is.last;
    are = checks-of-stay (store_by who thread to line word is.page is.process) refl is.has.page _ _ is.last is.are;
    left = is.left;
    counted = is.counted;
    told_is = is.told_is;
    after_is = is.after_is;
  }
