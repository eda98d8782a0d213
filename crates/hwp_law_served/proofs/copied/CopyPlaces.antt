-- What the answer of a command names, also of one that copied a page first: an entry that it made, or a number of entries after which it saw
-- the page.
use Rattle.std.proofs.Common.{◌≡◌, ◌⊎◌, inl, inr, ℕ, List, [], ◌∷◌, ◌++◌, Option, None, Some, length, slice_get, append_assoc, refl, sym, ap, ◌∙◌, subst}
use Rattle.std.proofs.lemmas.Option.{none-some, same_Some}
use Rattle.hwp_law.specs.hwp_geom.declared.Layout.{Layout}
use Rattle.hwp_law.specs.hwp_geom.declared.Page.{Page}
use Rattle.hwp_law.specs.hwp_geom.declared.Thread.{Thread}
use Rattle.hwp_law.specs.hwp_geom.declared.VSlot.{VSlot}
use Rattle.hwp_law.specs.hwp_geom.declared.Who.{Who}
use Rattle.hwp_law.specs.hwp_banks.Banks.{Banks}
use Rattle.hwp_law.specs.hwp_page.declared.At.{At}
use Rattle.hwp_plain.specs.hwp_core_rule.declared.Made.{Made}
use Rattle.hwp_plain.specs.hwp_core_rule.declared.View.{View}
use Rattle.hwp_plain.proofs.of_hwp_core_rule.Lists.{at_last, at_longer}
use Rattle.hwp_plain.specs.hwp_core_rule.Known.{deeds}
use Rattle.hwp_law.specs.hwp_script_words.declared.Command.{Command}
use Rattle.hwp_law.specs.hwp_script_words.declared.Command.TheVariants as commands
use Rattle.hwp_law.specs.hwp_report_text.declared.Answer.{Answer}
use Rattle.hwp_law.specs.hwp_report_text.declared.Answer.TheVariants as answers
use Rattle.hwp_law.specs.States.{place_named, state_named}
use Rattle.hwp_cpu_row.specs.declared.Row.{Row}
use Rattle.hwp_cpu_row.specs.hwp_claim.Told.{first_signal}
use Rattle.hwp_cpu_access.specs.Runs.{made_by}
use Rattle.hwp_law_served.specs.Accounts.{IsAccounted}
use Rattle.hwp_law_served.specs.Causes.{IsCausedWith}
use Rattle.hwp_law_served.specs.Copied.{HasSwitched, IsCopyCaused, IsCopyEnded, IsRefused, store_by, sub_next}
use Rattle.hwp_law_served.proofs.Seen.{MadeAt, SawAt, failure-entry, has-signalled, listed-as-own, plain-place, plain-state}
use Rattle.hwp_law_served.proofs.copied.StoredLast.{stored-last}

-- an entry within a command's is one that it made
pub made-within : (view : View) (who : Who) (front : List Made) (m : Made) (behind : List Made) (at : At) → deeds who view ≡ front ++ m ∷ behind → m.page ≡ at.page → m.place ≡ at.entry → MadeAt view who at
made-within view who front m behind at all page_is place_is =
    let there : slice_get (deeds who view) (length front) ≡ Some m
    = ap (λ (l : List Made). slice_get l (length front)) (all ∙ sym (append_assoc front (m ∷ []) behind)) ∙ at_longer (front ++ m ∷ []) behind (length front) m (at_last front m) in
    let own = listed-as-own view who (length front) m there in
    record { j = own.0; made = m; there = own.1; own = own.2; page_is = page_is; place_is = place_is }

module _ (layout : Layout) (view : View) (who : Who) (thread : Thread) (from to : VSlot) (line word : ℕ) (before : Banks) where
  signalled : {earlier : List (Command × Answer)} (row : Row) (at : At) → IsAccounted layout earlier view who (commands.Store thread to line word) row → first_signal row.told ≡ Some at → MadeAt view who at
  signalled row at account first =
      let has = has-signalled view who (commands.Store thread to line word) row at account first in
      let stands = failure-entry has.made.made _ has.made.tells in
      record { j = has.made.j; made = has.made.made; there = has.made.there; own = has.made.own; page_is = stands.page_is; place_is = stands.place_is }

  copy-place : {earlier : List (Command × Answer)} (row : Row) (answer : Answer) → IsCopyCaused layout view who thread from to line word before row.told answer → IsAccounted layout earlier view who (commands.Store thread to line word) row
      → (at : At) → place_named answer ≡ Some at → MadeAt view who at
  copy-place row answer caused account at is = which answer caused.ended is
    where
      stored : (bt : At) → HasSwitched caused.has.page (sub_next (store_by who thread to line word caused.page caused.process) from word caused.has.runs) caused.has.runs caused.has.rest row.told bt → MadeAt view who bt
      stored bt switched =
          let last = stored-last layout view (store_by who thread to line word caused.page caused.process) from word before caused.has bt switched in
          made-within view who last.front last.last last.behind bt last.all (last.stands.0 ∙ sym last.page_is) last.stands.1

      refused : (bt : At) → IsRefused (store_by who thread to line word caused.page caused.process) caused.has.page (sub_next (store_by who thread to line word caused.page caused.process) from word caused.has.runs) caused.has.rest bt → MadeAt view who bt
      refused bt was = made-within view who (made_by caused.has.runs ++ was.front) was.last [] bt
          (caused.has.all ∙ ap (λ (l : List Made). made_by caused.has.runs ++ l) was.rest_is ∙ sym (append_assoc (made_by caused.has.runs) was.front (was.last ∷ []))) was.refused.0 was.refused.1

      which : (a : Answer) → IsCopyEnded layout view (store_by who thread to line word caused.page caused.process) caused.has.page (sub_next (store_by who thread to line word caused.page caused.process) from word caused.has.runs) caused.has.runs caused.has.rest row.told a
          → place_named a ≡ Some at → MadeAt view who at
      which (answers.Stored bt) (going, switched) names = subst (MadeAt view who) (same_Some bt at names) (stored bt switched)
      which (answers.Sigbus bt) (going, inl was) names = subst (MadeAt view who) (same_Some bt at names) (refused bt was)
      which (answers.Sigbus bt) (going, inr was) names = subst (MadeAt view who) (same_Some bt at names) (signalled row bt account was.first)
      which answers.NoFrame ended names = absurd (none-some at names)
      which (answers.Gone page) ended names = absurd (none-some at names)
      which answers.Stopped ended names = absurd (none-some at names)
      which answers.GuestBad ended names = absurd (none-some at names)
      which answers.GuestStopped ended names = absurd (none-some at names)
      which _ ended names = absurd ended

  copy-state : (row : Row) (answer : Answer) → IsCopyCaused layout view who thread from to line word before row.told answer → (at : At) → state_named answer ≡ Some at → SawAt view who at
  copy-state row answer caused at is = which answer caused.ended is
    where
      which : (a : Answer) → IsCopyEnded layout view (store_by who thread to line word caused.page caused.process) caused.has.page (sub_next (store_by who thread to line word caused.page caused.process) from word caused.has.runs) caused.has.runs caused.has.rest row.told a
          → state_named a ≡ Some at → SawAt view who at
      which (answers.Stored bt) ended names = absurd (none-some at names)
      which (answers.Sigbus bt) ended names = absurd (none-some at names)
      which answers.NoFrame ended names = absurd (none-some at names)
      which (answers.Gone page) ended names = absurd (none-some at names)
      which answers.Stopped ended names = absurd (none-some at names)
      which answers.GuestBad ended names = absurd (none-some at names)
      which answers.GuestStopped ended names = absurd (none-some at names)
      which _ ended names = absurd ended

-- ---- of any command

pub names-place : (layout : Layout) (earlier : List (Command × Answer)) (copied : Option VSlot) (view : View) (who : Who) (command : Command) (before : Banks) (row : Row) → IsCausedWith layout earlier copied view who command before row.told row.own row.answer
    → IsAccounted layout earlier view who command row → (at : At) → place_named row.answer ≡ Some at → MadeAt view who at ⊎ SawAt view who at
names-place layout earlier None view who command before row caused account at is = plain-place layout earlier view who command row caused account at is
names-place layout earlier (Some from) view who (commands.Store thread to line word) before row caused account at is = inl (copy-place layout view who thread from to line word before row row.answer caused account at is)
names-place layout earlier (Some from) view who command before row caused account at is = absurd caused

pub names-state : (layout : Layout) (earlier : List (Command × Answer)) (copied : Option VSlot) (view : View) (who : Who) (command : Command) (before : Banks) (row : Row) → IsCausedWith layout earlier copied view who command before row.told row.own row.answer
    → (at : At) → state_named row.answer ≡ Some at → SawAt view who at
names-state layout earlier None view who command before row caused at is = plain-state layout earlier view who command row caused at is
names-state layout earlier (Some from) view who (commands.Store thread to line word) before row caused at is = copy-state layout view who thread from to line word before row row.answer caused at is
names-state layout earlier (Some from) view who command before row caused at is = absurd caused
