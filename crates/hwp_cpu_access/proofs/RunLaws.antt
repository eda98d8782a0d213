-- The accesses of a copy that went well: one more of them, what stays of them over a step, and how many machine checks they had.
use Rattle.std.proofs.Common.{◌≡◌, ◌⊎◌, inl, inr, ℕ, ◌+◌, Bool, cond, List, [], ◌∷◌, ◌++◌, Option, filter, length, append-nil, refl, sym, ap, ◌∙◌, subst, arith}
use Rattle.std.proofs.lemmas.List.{length-append, map-append}
use Rattle.std.proofs.lemmas.Grind.{flat_map-append}
use Rattle.std.proofs.lemmas.List.Elements.{filter-append}
use Rattle.hwp_fault.specs.hwp_geom.declared.Layout.{Layout}
use Rattle.hwp_fault.specs.hwp_geom.declared.Mode.TheVariants as modes
use Rattle.hwp_fault.specs.hwp_geom.declared.Page.{Page}
use Rattle.hwp_fault.specs.hwp_geom.declared.VSlot.{VSlot}
use Rattle.hwp_fault.specs.hwp_geom.declared.Who.{Who}
use Rattle.hwp_fault.specs.hwp_page.declared.What.TheVariants as entries
use Rattle.hwp_fault.specs.hwp_page.History.{BodyValue}
use Rattle.hwp_fault.specs.hwp_core_rule.declared.Log.{Log}
use Rattle.hwp_fault.specs.hwp_core_rule.declared.Made.{Made}
use Rattle.hwp_fault.specs.hwp_core_rule.declared.Step.{Step}
use Rattle.hwp_fault.specs.hwp_core_rule.declared.View.{View}
use Rattle.hwp_fault.specs.hwp_core_rule.Calls.{Steps}
use Rattle.hwp_fault.specs.declared.Request.{Request}
use Rattle.hwp_fault.proofs.of_hwp_core_rule.tasks.SightKeeps.{saw-state-stays, saw-stays}
use Rattle.hwp_claim.specs.hwp_banks.Banks.{Banks}
use Rattle.hwp_claim.specs.hwp_banks.declared.Origin.TheVariants as origins
use Rattle.hwp_claim.specs.hwp_law.Commands.{is_check}
use Rattle.hwp_claim.specs.Checks.{Check, left_by}
use Rattle.hwp_fork.specs.declared.cow.Cow.{Cow}
use Rattle.hwp_fork.specs.declared.cow.Sub.{Sub}
use Rattle.hwp_fork.specs.declared.cow.Sub.TheVariants as subs
use Rattle.hwp_fork.specs.Cows.{sub_of, told_all, told_by}
use Rattle.hwp_cpu_access.specs.Fits.{checks_in}
use Rattle.hwp_cpu_access.proofs.CheckLaws.{left-behind}
use Rattle.hwp_cpu_access.proofs.CommandGrows.{checks-stay}
use Rattle.hwp_cpu_access.proofs.Resting.{any-stay}
use Rattle.hwp_cpu_access.specs.Copyings.{load_of, store_of}
use Rattle.hwp_cpu_access.specs.Runs.{AreRuns, IsFreeRun, IsRun, Run, checks_by, made_by, words_of}

-- ---- one more

pub words-more : (runs : List Run) (r : Run) → words_of (runs ++ r ∷ []) ≡ words_of runs ++ r.word ∷ []
words-more runs r = map-append (λ (x : Run). x.word) runs (r ∷ [])

pub made-more : (runs : List Run) (r : Run) → made_by (runs ++ r ∷ []) ≡ made_by runs ++ r.made
made-more runs r = flat_map-append (λ (x : Run). x.made) runs (r ∷ []) ∙ ap (λ (l : List Made). made_by runs ++ l) (append-nil r.made)

pub checks-more : (runs : List Run) (r : Run) → checks_by (runs ++ r ∷ []) ≡ checks_by runs ++ r.checks
checks-more runs r = flat_map-append (λ (x : Run). x.checks) runs (r ∷ []) ∙ ap (λ (l : List Check). checks_by runs ++ l) (append-nil r.checks)

pub told-more : (cow : Cow) (words : List ℕ) (word : ℕ) → told_all cow (words ++ word ∷ []) ≡ told_by (told_all cow words) word
told-more cow [] word = refl
told-more cow (w ∷ ws) word = told-more (told_by cow w) ws word

pub runs-more : (layout : Layout) (view : View) (store : Request) (page : Page) (cow : Cow) (banks : Banks) (runs : List Run) (r : Run) → AreRuns layout view store page cow banks runs
    → IsRun layout view store page (left_by banks (checks_by runs)) r (sub_of (told_all cow (words_of runs))) → AreRuns layout view store page cow banks (runs ++ r ∷ [])
runs-more layout view store page cow banks [] r are is = (is, tt)
runs-more layout view store page cow banks (x ∷ xs) r are is = (
  are.0,
  runs-more layout view store page (told_by cow x.word) (left_by banks x.checks) xs r are.1
      (subst (λ (b : Banks). IsRun layout view store page b r (sub_of (told_all (told_by cow x.word) (words_of xs)))) (left-behind banks x.checks (checks_by xs)) is),
)

-- ---- over a step

module _ {layout : Layout} (store : Request) (page : Page) {step : Step} {put : Option Log} {old new : View} {found : ℕ} {got : Option BodyValue} (made : Steps layout store.who step put old new found got) where
  run-stays : (banks : Banks) (r : Run) (sub : Sub) → IsRun layout old store page banks r sub → IsRun layout new store page banks r sub
  run-stays banks r (subs.Load slot line) is = record {
    before = is.before;
    last = is.last;
    made_is = is.made_is;
    such = is.such;
    mask = is.mask;
    good = is.good;
    page_is = is.page_is;
    answers = is.answers;
    checked = checks-stay layout (load_of store page slot line) origins.Access modes.User (any-stay made) (λ place word saw. saw-stays made saw) banks r.checks is.checked;
    counted = is.counted;
  }
  run-stays banks r (subs.Store slot line word) is = record {
    before = is.before;
    last = is.last;
    made_is = is.made_is;
    such = is.such;
    mask = is.mask;
    good = is.good;
    page_is = is.page_is;
    answers = is.answers;
    checked = checks-stay layout (store_of store slot line word) origins.Access modes.User (any-stay made) (λ place w saw. saw-stays made saw) banks r.checks is.checked;
    counted = is.counted;
  }
  run-stays banks r (subs.Free slot) is = record { made_is = is.made_is; unused = λ none. saw-state-stays made (is.unused none); unchecked = is.unchecked }
  run-stays banks r subs.Switched is = is

  pub runs-stay : (cow : Cow) (banks : Banks) (runs : List Run) → AreRuns layout old store page cow banks runs → AreRuns layout new store page cow banks runs
  runs-stay cow banks [] are = tt
  runs-stay cow banks (r ∷ rs) are = (run-stays banks r (sub_of cow) are.0, runs-stay (told_by cow r.word) (left_by banks r.checks) rs are.1)

-- ---- their machine checks

pub checks-append : (a b : List Made) → checks_in (a ++ b) ≡ checks_in a + checks_in b
checks-append a b = ap length (filter-append (λ (m : Made). is_check m.entry.what) a b) ∙ length-append (filter (λ (m : Made). is_check m.entry.what) a) (filter (λ (m : Made). is_check m.entry.what) b)

free-counted : {layout : Layout} {view : View} {who : Who} {page : Page} {slot : VSlot} (r : Run) → IsFreeRun layout view who page slot r → checks_in r.made ≡ length r.checks
free-counted {layout} {view} {who} {page} {slot} r is = which is.made_is ∙ sym (ap length is.unchecked)
  where
    which : ((r.made ≡ []) ⊎ ((m : Made) × (r.made ≡ m ∷ []) × (m.page ≡ page) × (m.entry.what ≡ entries.Free slot))) → checks_in r.made ≡ 0
    which (inl none) = ap checks_in none
    which (inr (m, one, own, what)) = ap checks_in one ∙ ap (λ (b : Bool). length (cond b (m ∷ []) [])) (ap is_check what)

run-counted : (layout : Layout) (view : View) (store : Request) (page : Page) (banks : Banks) (r : Run) (sub : Sub) → IsRun layout view store page banks r sub → checks_in r.made ≡ length r.checks
run-counted layout view store page banks r (subs.Load slot line) is = is.counted
run-counted layout view store page banks r (subs.Store slot line word) is = is.counted
run-counted layout view store page banks r (subs.Free slot) is = free-counted r is
run-counted layout view store page banks r subs.Switched is = absurd is

pub runs-counted : (layout : Layout) (view : View) (store : Request) (page : Page) (cow : Cow) (banks : Banks) (runs : List Run) → AreRuns layout view store page cow banks runs → checks_in (made_by runs) ≡ length (checks_by runs)
runs-counted layout view store page cow banks [] are = refl
runs-counted layout view store page cow banks (r ∷ rs) are =
    let here : checks_in r.made ≡ length r.checks = run-counted layout view store page banks r (sub_of cow) are.0 in
    let rest : checks_in (made_by rs) ≡ length (checks_by rs) = runs-counted layout view store page (told_by cow r.word) (left_by banks r.checks) rs are.1 in
    let both : checks_in (r.made ++ made_by rs) ≡ checks_in r.made + checks_in (made_by rs) = checks-append r.made (made_by rs) in
    let long : length (r.checks ++ checks_by rs) ≡ length r.checks + length (checks_by rs) = length-append r.checks (checks_by rs) in
    omega (arith, here, rest, both, long)
