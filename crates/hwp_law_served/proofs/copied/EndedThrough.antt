-- Where a store that copies a page ended because no frame was available: through the translation of the access that came, as the numbers of
-- its loads and stores say.
use Rattle.std.proofs.Common.{◌≡◌, ℕ, ◌<◌, ◌==◌, ◌&&◌, Bool, if◌then◌else◌, nat_lt, List, Option, Some, refl, sym, ap, ◌∙◌, subst, arith}
use Rattle.std.specs.Prelude.{count_by}
use Rattle.std.proofs.lemmas.Bool.{and_from, and_left, and_right, eq-eqb, le-ltb, lt-ltb, ne_eqb}
use Rattle.std.proofs.lemmas.Option.{none-some, same_Some}
use Rattle.hwp_law.specs.hwp_geom.declared.Cpu.{Cpu}
use Rattle.hwp_law.specs.hwp_geom.declared.Layout.{Layout}
use Rattle.hwp_law.specs.hwp_geom.declared.Page.{Page}
use Rattle.hwp_law.specs.hwp_geom.declared.Thread.{Thread}
use Rattle.hwp_law.specs.hwp_geom.declared.VSlot.{VSlot}
use Rattle.hwp_law.specs.hwp_geom.declared.Who.{Who}
use Rattle.hwp_law.specs.hwp_geom.Limits.{line_limit}
use Rattle.hwp_law.specs.hwp_banks.Banks.{Banks}
use Rattle.hwp_law.specs.hwp_page.Step.{IsOf}
use Rattle.hwp_plain.specs.hwp_core_rule.declared.State.{State}
use Rattle.hwp_plain.specs.hwp_core_rule.declared.View.{View}
use Rattle.hwp_plain.specs.hwp_core_rule.Boards.{view_of}
use Rattle.hwp_plain.specs.hwp_core_rule.Known.{deeds}
use Rattle.hwp_law.specs.hwp_script_words.declared.Command.TheVariants as commands
use Rattle.hwp_law.specs.hwp_script_words.declared.Script.{Script}
use Rattle.hwp_law.specs.Commands.{command_at}
use Rattle.hwp_law.specs.hwp_report_text.declared.Answer.TheVariants as answers
use Rattle.hwp_law.specs.hwp_report_text.declared.Report.{Report}
use Rattle.hwp_law.specs.Copies.{ended_through, is_load, is_store, own_in}
use Rattle.hwp_cpu_row.specs.hwp_claim.declared.EventOutcome.{EventOutcome}
use Rattle.hwp_cpu_access.specs.hwp_fault.declared.Request.{Request}
use Rattle.hwp_cpu_access.specs.hwp_fork.declared.cow.Cow.{Cow}
use Rattle.hwp_cpu_access.specs.hwp_fork.declared.cow.CowAt.{CowAt}
use Rattle.hwp_cpu_access.specs.hwp_fork.declared.cow.CowAt.TheVariants as at
use Rattle.hwp_cpu_access.specs.hwp_fork.Cows as cows
use Rattle.hwp_cpu_access.specs.Copyings.{load_of, request_by, store_of}
use Rattle.hwp_cpu_access.specs.Runs.{words_of}
use Rattle.hwp_law_served.specs.Copied.{HasCopied, IsBehind, IsCopyCaused, store_by, sub_next}
use Rattle.hwp_law_served.proofs.RunEnds.{IsEnd}
use Rattle.hwp_law_served.proofs.copied.CopyCounts.{HasCounts, copy-counts, count-map, num, state_of}
use Rattle.hwp_law_served.proofs.copied.CopyEntries.{declared-of}
use Rattle.hwp_law_served.proofs.copied.OwnIn.{in_page, own-deeds}

-- by the numbers of loads and stores
through : (layout : Layout) (store : Request) (page : Page) (from to : VSlot) (c : Cow) (access : Request) (loads stores : ℕ) → IsOf layout page from → IsOf layout store.page to → (x : CowAt) → HasCounts x loads stores → request_by store page (cows.sub_at c x) ≡ Some access
    → IsOf layout access.page (if nat_lt loads line_limit && (loads == stores) then from else to)
through layout store page from to c access loads stores of_from of_to (at.Load line) (low, la, sb) is =
    subst (λ (b : Bool). IsOf layout access.page (if b then from else to)) (sym (and_from (nat_lt loads line_limit) (loads == stores) (lt-ltb loads line_limit (omega (arith, low, la))) (eq-eqb loads stores (omega (arith, la, sb)))))
    (subst (λ (a : Request). IsOf layout a.page from) (same_Some (load_of store page c.v line) access is) of_from)
through layout store page from to c access loads stores of_from of_to (at.Store line word) (low, la, sb) is =
    subst (λ (b : Bool). IsOf layout access.page (if b then from else to)) (sym (and_right (nat_lt loads line_limit) (loads == stores) (ne_eqb loads stores (λ same. omega (arith, la, sb, same)))))
    (subst (λ (a : Request). IsOf layout a.page to) (same_Some (store_of store c.w line word) access is) of_to)
through layout store page from to c access loads stores of_from of_to at.Last (la, sb) is =
    subst (λ (b : Bool). IsOf layout access.page (if b then from else to)) (sym (and_left (nat_lt loads line_limit) (loads == stores) (le-ltb loads line_limit (omega (arith, la)))))
    (subst (λ (a : Request). IsOf layout a.page to) (same_Some (store_of store c.w c.line c.x) access is) of_to)
through layout store page from to c access loads stores of_from of_to at.Free has is = absurd (none-some access is)
through layout store page from to c access loads stores of_from of_to at.Switched has is = absurd (none-some access is)

module _ (script : Script) (copies : Who → Option VSlot) (seat : Cpu → ℕ) (last : State) (report : Report) (end : IsEnd script copies seat last report) where
  by-counts : (who : Who) → who.cpu.0 < script.layout.cpus → (from : VSlot) (word : ℕ) (before : Banks) (store : Request) → store.who ≡ who → (has : HasCopied script.layout (view_of last (seat who.cpu)) store from word before)
      → (b : IsBehind store has.page (sub_next store from word has.runs) has.rest) → IsOf script.layout b.access.page (ended_through script.layout report who from store.slot)
  by-counts who inside from word before store who_is has b =
      let layout : Layout = script.layout in
      let view : View = view_of last (seat who.cpu) in
      let of_from : IsOf layout has.page from = declared-of layout (load_of store has.page from 0) has.own in
      let of_to : IsOf layout store.page store.slot = declared-of layout store has.names in
      let counts = copy-counts layout view store from word before has b.access b.such in
      let loads : count_by is_load (own_in layout report who from) ≡ num is_load (in_page has.page (deeds store.who view))
      = ap (count_by is_load) (own-deeds script copies seat last report end who inside from has.page has.own.page of_from) ∙ count-map is_load (in_page has.page (deeds who view)) ∙ ap (λ (w : Who). num is_load (in_page has.page (deeds w view))) (sym who_is) in
      let stores : count_by is_store (own_in layout report who store.slot) ≡ num is_store (in_page store.page (deeds store.who view))
      = ap (count_by is_store) (own-deeds script copies seat last report end who inside store.slot store.page has.names.page of_to) ∙ count-map is_store (in_page store.page (deeds who view)) ∙ ap (λ (w : Who). num is_store (in_page store.page (deeds w view))) (sym who_is) in
      through layout store has.page from store.slot (cows.told_all (cows.begin from store.slot store.line word) (words_of has.runs)) b.access (count_by is_load (own_in layout report who from)) (count_by is_store (own_in layout report who store.slot)) of_from of_to
      (state_of store from word has.runs)
      (subst (λ (n : ℕ). HasCounts (state_of store from word has.runs) n (count_by is_store (own_in layout report who store.slot))) (sym loads)
      (subst (λ (n : ℕ). HasCounts (state_of store from word has.runs) (num is_load (in_page has.page (deeds store.who view))) n) (sym stores) counts))
      b.access_is

  pub ended-so : (who : Who) → who.cpu.0 < script.layout.cpus → (thread : Thread) (from to : VSlot) (line word : ℕ) (before : Banks) (told : List EventOutcome) → copies who ≡ Some from → command_at script who ≡ Some (commands.Store thread to line word) → (caused : IsCopyCaused script.layout (view_of last (seat who.cpu)) who thread from to line word before told answers.NoFrame)
      → IsOf script.layout caused.ended.1.behind.access.page (ended_through script.layout report who from to)
  ended-so who inside thread from to line word before told copied command caused =
      by-counts who inside from word before (store_by who thread to line word caused.page caused.process) refl caused.has caused.ended.1.behind
